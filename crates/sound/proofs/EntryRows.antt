-- What is checked first: a refusal there is the call's, and past it the call's own rows decide.
-- Assumes nothing.
use mathlib.Core.Path.{◌≡◌, refl, sym, ap, ◌∙◌}
use mathlib.Core.Bool.{Bool, true, false, not, cond}
use mathlib.Core.List.{List, [], ◌∷◌}
use Prim.Native.Nat.{ℕ}
use borrow.Author.Tests.{not-true, not-false}
use Rattle.font.specs.Rules.{legal}
use Rattle.session.specs.declared.Session.{Session}
use Rattle.answers.specs.declared.Answer.{Answer}
use Rattle.answers.specs.declared.Answer.TheVariants.{Lengths, Font, Unsound}
use Rattle.answers.specs.Answers.{Row, row, answer_of, is_taken, number_of}
use Rattle.lent.specs.Lent.{World}
use Rattle.sound.specs.Sound.{sound}
use Rattle.sound.specs.Entry.{entry_rows}

cond-true : (b : Bool) (x y : Answer) → b ≡ true → cond b x y ≡ x
cond-true b x y e = rw e

cond-false : (b : Bool) (x y : Answer) → b ≡ false → cond b x y ≡ y
cond-false b x y e = rw e

abbrev pub checked : Bool → Bool → Bool → List Row → List Row
checked x y z rows = row Lengths x ∷ row Font (not y) ∷ row Unsound (not z) ∷ rows

checked-join :
    (x y z : Bool) (rows : List Row) →
    answer_of (checked x y z rows) ≡ cond (is_taken (answer_of (checked x y z []))) (answer_of rows) (answer_of (checked x y z []))
unfolding answer_of is_taken number_of
checked-join true y z rows = refl
checked-join false false z rows = refl
checked-join false true false rows = refl
checked-join false true true rows = refl

checked-right : (x y z : Bool) → is_taken (answer_of (checked x y z [])) ≡ true → x ≡ false
unfolding answer_of is_taken number_of
checked-right true y z e = sym e
checked-right false y z e = refl

pub entry-refused :
    (x : Bool) (font : List ℕ) (s : Session) (w : World) (rows : List Row) (a : Answer) (b : Bool) →
    a ≡ answer_of (entry_rows x font s w []) → b ≡ is_taken a → not b ≡ true → a ≡ answer_of (entry_rows x font s w rows)
entry-refused x font s w rows a b e f n =
    e ∙ sym (checked-join x (legal font) (sound s w) rows ∙ cond-false _ (answer_of rows) _ (sym (ap is_taken e) ∙ sym f ∙ not-true b n))

pub entry-passed :
    (x : Bool) (font : List ℕ) (s : Session) (w : World) (rows : List Row) (a : Answer) (b : Bool) →
    a ≡ answer_of (entry_rows x font s w []) → b ≡ is_taken a → not b ≡ false → answer_of (entry_rows x font s w rows) ≡ answer_of rows
entry-passed x font s w rows a b e f n =
    checked-join x (legal font) (sound s w) rows ∙ cond-true _ (answer_of rows) _ (sym (ap is_taken e) ∙ sym f ∙ not-false b n)

pub entry-right :
    (x x' : Bool) (font : List ℕ) (s : Session) (w : World) (a : Answer) (b : Bool) →
    x ≡ x' → a ≡ answer_of (entry_rows x font s w []) → b ≡ is_taken a → not b ≡ false → x' ≡ false
entry-right x x' font s w a b q e f n = sym q ∙ checked-right x (legal font) (sound s w) (sym (ap is_taken e) ∙ sym f ∙ not-false b n)
