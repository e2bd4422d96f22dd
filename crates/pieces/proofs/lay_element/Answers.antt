use Rattle.pieces.specs.Data.{values_in}
use Rattle.pieces.proofs.Laying.{value-shown}
use mathlib.Core.Path.{ap, ◌∙◌}
use mathlib.Core.List.{List}
use Prim.Native.Nat.{ℕ}
use Rattle.pieces.specs.Data.{row, lay}
use Rattle.pieces.proofs.Laying.{counter-shown, stamp-shown}
use Rattle.pieces.proofs.lay_element.Goals as goal

pub returns-in-Text : goal.returns-in-Text
returns-in-Text c = let a = c.args in c.lay_piece.ensures ∙ ap (λ (t : List ℕ). lay t (row a.at a.out.now)) (c.piece.ensures ∙ value-shown a.line.now _ a.e a.d (values_in a.values.now a.c a.clock) _ c.in-Text.is c.front.ensures)

pub returns-in-Variable : goal.returns-in-Variable
returns-in-Variable c = let a = c.args in c.lay_piece-in-Variable.ensures ∙ ap (λ (t : List ℕ). lay t (row a.at a.out.now)) (c.piece-in-Variable.ensures ∙ value-shown a.line.now _ a.e a.d (values_in a.values.now a.c a.clock) _ c.in-Variable.is c.variable_at.ensures)

pub returns-in-Counter : goal.returns-in-Counter
returns-in-Counter c = let a = c.args in c.lay_piece-in-Counter.ensures ∙ ap (λ (t : List ℕ). lay t (row a.at a.out.now)) (c.piece-in-Counter.ensures ∙ value-shown a.line.now _ a.e a.d (values_in a.values.now a.c a.clock) _ c.in-Counter.is (c.front-in-Counter.ensures ∙ counter-shown _ _ _ _ _ c.digits_of-digits.ensures c.width_at-w.ensures c.value_at.ensures))

pub returns-in-Stamped : goal.returns-in-Stamped
returns-in-Stamped c = let a = c.args in c.lay_piece-in-Stamped.ensures ∙ ap (λ (t : List ℕ). lay t (row a.at a.out.now)) (c.piece-in-Stamped.ensures ∙ value-shown a.line.now _ a.e a.d (values_in a.values.now a.c a.clock) _ c.in-Stamped.is (c.front-in-Stamped.ensures ∙ stamp-shown _ _ _ _ _ c.stamp_text-text.ensures c.of.ensures))
