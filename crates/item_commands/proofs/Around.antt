-- The answers of items, and what one leaves in all that is lent.
-- Assumes nothing.
use mathlib.Core.Path.{◌≡◌, refl, sym, ap, ◌∙◌}
use mathlib.Core.Bool.{Bool, true, false, not, cond}
use mathlib.Core.List.{List, [], ◌∷◌}
use Prim.Native.Nat.{ℕ}
use borrow.Author.Tests.{not-true, not-false}
use Rattle.declarations.specs.declared.Declared.{Declared}
use Rattle.declarations.specs.Declarations.{outside_forms}
use Rattle.reach.specs.Answers.{undeclared_by, past_by}
use Rattle.grammar.specs.Named.{DECLARED-AT}
use Rattle.grammar.specs.declared.Item.{Item}
use Rattle.recording.specs.Judged.{has_picture}
use Rattle.session.specs.declared.Session.{Session}
use Rattle.answers.specs.declared.Answer.{Answer}
use Rattle.answers.specs.declared.Answer.TheVariants.{Taken, Missing, Again, Undeclared, Past, Unfit, FewPortions}
use Rattle.answers.specs.Answers.{Row, row, answer_of, is_taken, number_of}
use Rattle.lent.specs.Lent.{world}
use Rattle.answers.proofs.Rows.{answer-skip, answer-stop}
use Rattle.results.specs.Result.{done, ran, ran_by}
use Rattle.results.proofs.Answers.{cond_map, cond-true, cond-false}
use Rattle.results.proofs.Parts.{on_background}
use Rattle.item_commands.specs.Items.{declared_before, not_declared, reaches_past, unfit_data, shown_by, leftmost_in, data_place, item_rows, based_by, item_runs, item_by}

item-join :
    (q u p at : ℕ) (h a b c e : Bool) (rest : List Row) →
    let rows : (List Row → List Row) = λ after. row Missing (not h) ∷ row (Again q) a ∷ row (Undeclared u) b ∷ row (Past p) c ∷ row (Unfit at) e ∷ after in
    answer_of (rows rest) ≡ cond (is_taken (answer_of (rows []))) (answer_of rest) (answer_of (rows []))
unfolding answer_of is_taken number_of
item-join q u p at false a b c e rest = refl
item-join q u p at true true b c e rest = refl
item-join q u p at true false true c e rest = refl
item-join q u p at true false false true e rest = refl
item-join q u p at true false false false true rest = refl
item-join q u p at true false false false false rest = refl

item-rows :
    (d : Declared) (dir line : List ℕ) (it : Item) (rest : List Row) →
    answer_of (item_rows d dir line it rest) ≡ cond (is_taken (answer_of (item_rows d dir line it []))) (answer_of rest) (answer_of (item_rows d dir line it []))
item-rows d dir line it rest =
    item-join DECLARED-AT (leftmost_in (undeclared_by d) line (shown_by it)) (leftmost_in (past_by d) line (shown_by it)) (data_place (shown_by it))
    (has_picture dir line it)
    (declared_before d it)
    (not_declared d line (shown_by it))
    (reaches_past d line (shown_by it))
    (unfit_data d line (shown_by it))
    rest

pub item_refused :
    (d : Declared) (dir line : List ℕ) (it : Item) (rest : List Row) (a : Answer) (b : Bool) →
    a ≡ answer_of (item_rows d dir line it []) → b ≡ is_taken a → not b ≡ true → a ≡ answer_of (item_rows d dir line it rest)
item_refused d dir line it rest a b e f n =
    e
    ∙ sym
    (cond-false (is_taken (answer_of (item_rows d dir line it []))) (answer_of rest) (answer_of (item_rows d dir line it []))
    (sym (ap is_taken e) ∙ sym f ∙ not-true b n))
    ∙ sym (item-rows d dir line it rest)

item-passed :
    (d : Declared) (dir line : List ℕ) (it : Item) (rest : List Row) (a : Answer) (b : Bool) →
    a ≡ answer_of (item_rows d dir line it []) → b ≡ is_taken a → not b ≡ false → answer_of (item_rows d dir line it rest) ≡ answer_of rest
item-passed d dir line it rest a b e f n =
    item-rows d dir line it rest
    ∙ cond-true (is_taken (answer_of (item_rows d dir line it []))) (answer_of rest) (answer_of (item_rows d dir line it []))
    (sym (ap is_taken e) ∙ sym f ∙ not-false b n)

pub item_room :
    (d : Declared) (dir line : List ℕ) (it : Item) (a : Answer) (b g : Bool) →
    a ≡ answer_of (item_rows d dir line it []) → b ≡ is_taken a → not b ≡ false → g ≡ true →
    Taken ≡ answer_of (item_rows d dir line it (row FewPortions (not g) ∷ []))
unfolding answer_of
item_room d dir line it a b g e f n k =
    sym (item-passed d dir line it (row FewPortions (not g) ∷ []) a b e f n ∙ answer-skip FewPortions (not g) [] (ap not k))

pub item-full :
    (d : Declared) (dir line : List ℕ) (it : Item) (a : Answer) (b g : Bool) →
    a ≡ answer_of (item_rows d dir line it []) → b ≡ is_taken a → not b ≡ false → g ≡ false →
    FewPortions ≡ answer_of (item_rows d dir line it (row FewPortions (not g) ∷ []))
item-full d dir line it a b g e f n k =
    sym (item-passed d dir line it (row FewPortions (not g) ∷ []) a b e f n ∙ answer-stop FewPortions (not g) [] (ap not k))

pub item-after :
    (d d' : Declared) (dir line : List ℕ) (it : Item) (a : Answer) → a ≡ answer_of (item_rows d dir line it []) → d ≡ d' →
    a ≡ answer_of (item_rows d' dir line it [])
item-after d d' dir line it a e f = e ∙ ap (λ (k : Declared). answer_of (item_rows k dir line it [])) f

-- an item outside a form, in all that is lent
pub item-around :
    (it : Item) (s : Session) (font line b st l d v o : List ℕ) →
    on_background st l d v o (item_by font (world b st l d v) s line it)
    ≡ ran_by (answer_of (item_rows (outside_forms s.formats) d line it [])) s (world b st l d v) o (item_runs font (world b st l d v) s line it) []
item-around it s font line b st l d v o =
    cond_map (on_background st l d v o) (is_taken (answer_of (item_rows (outside_forms s.formats) d line it [])))
    (ran (done Taken (based_by s it) 0) (item_runs font (world b st l d v) s line it).world [])
    (ran (done (answer_of (item_rows (outside_forms s.formats) d line it [])) s 0) (world b st l d v) [])
