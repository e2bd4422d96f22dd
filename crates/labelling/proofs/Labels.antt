-- A label call: what its table answers, and the two ways it ends.
-- Assumes nothing.
use mathlib.Core.Path.{◌≡◌, refl, sym, ap, ◌∙◌}
use mathlib.Core.Bool.{Bool, true, false, not, ◌||◌, true≢false, cond}
use mathlib.Core.List.{List, [], ◌∷◌}
use Prim.Native.Nat.{ℕ}
use lib.ListN.{length}
use lib.Dec.{eqb}
use borrow.Author.Tests.{not-true, not-false, eq-eqb, ne_eqb, eqb-true}
use Rattle.session.specs.declared.Session.{Session}
use Rattle.answers.specs.declared.Answer.{Answer}
use Rattle.answers.specs.declared.Answer.TheVariants.{Taken, Lengths, NoneOwed}
use Rattle.answers.specs.Answers.{Row, row, answer_of, is_taken, number_of}
use Rattle.session.specs.Label.{labelled}
use Rattle.lent.specs.Lent.{World, wrong_lent}
use Rattle.session.specs.Label.{label_page, label_session, Printed, printed, printed_on}
use Rattle.answers.proofs.Rows.{answer-skip, answer-stop}
use Rattle.session.proofs.LabelMade.{label-whole}
use Rattle.sound.specs.Entry.{entry_rows}
use Rattle.sound.proofs.EntryRows.{entry-passed}
use Rattle.labelling.specs.Labelling.{Drawn, drawn_by, label_table, labelled_by}

pub label-none :
    (x : Bool) (font : List ℕ) (s : Session) (w : World) (a : Answer) (b : Bool) → a ≡ answer_of (entry_rows x font s w []) → b ≡ is_taken a → not b ≡ false →
    s.owed ≡ 0 → NoneOwed ≡ answer_of (entry_rows x font s w (row NoneOwed (eqb s.owed 0) ∷ []))
label-none x font s w a b e f n z = sym (entry-passed x font s w _ a b e f n ∙ answer-stop NoneOwed _ [] (eq-eqb _ _ z))

pub label-some :
    (x : Bool) (font : List ℕ) (s : Session) (w : World) (a : Answer) (b : Bool) → a ≡ answer_of (entry_rows x font s w []) → b ≡ is_taken a → not b ≡ false →
    (s.owed ≡ 0 → ⊥) → Taken ≡ answer_of (entry_rows x font s w (row NoneOwed (eqb s.owed 0) ∷ []))
unfolding answer_of
label-some x font s w a b e f n z = sym (entry-passed x font s w (row NoneOwed (eqb s.owed 0) ∷ []) a b e f n ∙ answer-skip NoneOwed _ [] (ne_eqb _ _ z))

settled-no : (a : Answer) (t : Bool) (s : Session) (page : List ℕ) (d : Drawn) → t ≡ false → drawn_by (labelled a s) page ≡ cond t d (drawn_by (labelled a s) page)
settled-no a true s page d e = absurd (true≢false e)
settled-no a false s page d e = refl

settled-yes : (t : Bool) (c d : Drawn) → t ≡ true → c ≡ cond t c d
settled-yes true c d e = refl
settled-yes false c d e = absurd (true≢false (sym e))

pub label-refused :
    (s : Session) (font : List ℕ) (w : World) (page : List ℕ) (a : Answer) (b : Bool) → a ≡ answer_of (label_table s font w (length page)) → b ≡ is_taken a →
    not b ≡ true → drawn_by (labelled a s) page ≡ labelled_by s font w page
unfolding labelled_by
label-refused s font w page a b e f n =
    ap (λ (k : Answer). drawn_by (labelled k s) page) e
    ∙ settled-no (answer_of (label_table s font w (length page))) (is_taken (answer_of (label_table s font w (length page)))) s page _
    (sym (ap is_taken e) ∙ sym f ∙ not-true b n)

-- a call that is not refused was lent a page of the background's length
first-right : (x : Bool) (rows : List Row) → is_taken (answer_of (row Lengths x ∷ rows)) ≡ true → x ≡ false
unfolding answer_of is_taken number_of
first-right true rows e = sym e
first-right false rows e = refl

page-even : (x y : Bool) (m n : ℕ) → eqb m n ≡ y → (x || not y) ≡ false → m ≡ n
page-even true y m n e h = absurd (true≢false h)
page-even false true m n e h = eqb-true m n e
page-even false false m n e h = absurd (true≢false h)

label-even :
    (s : Session) (font : List ℕ) (w : World) (page : List ℕ) → is_taken (answer_of (label_table s font w (length page))) ≡ true →
    length page ≡ length w.background
unfolding label_table
label-even s font w page t =
    page-even (wrong_lent w) (eqb (length page) (length w.background)) (length page) (length w.background) refl
    (first-right (wrong_lent w || not (eqb (length page) (length w.background))) _ t)

pub label-taken :
    (s s' : Session) (font : List ℕ) (w : World) (page p : List ℕ) (a : Answer) (b : Bool) → a ≡ answer_of (label_table s font w (length page)) → b ≡ is_taken a →
    not b ≡ false → printed s' p ≡ printed_on font s w page → drawn_by (labelled Taken s') p ≡ labelled_by s font w page
unfolding labelled_by
label-taken s s' font w page p a b e f n g =
    let t : is_taken (answer_of (label_table s font w (length page))) ≡ true = sym (ap is_taken e) ∙ sym f ∙ not-false b n in
    ap (λ (d : Printed). drawn_by (labelled Taken d.session) d.page) (g ∙ label-whole font s w page (label-even s font w page t))
    ∙ settled-yes (is_taken (answer_of (label_table s font w (length page)))) (drawn_by (labelled Taken (label_session s w)) (label_page font s w)) _ t
