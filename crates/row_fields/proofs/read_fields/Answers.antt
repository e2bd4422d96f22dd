use Prim.Native.Nat.{ℕ, ◌-◌, ◌≤◌, ◌<◌}
use mathlib.Core.List.{List}
use mathlib.Core.Path.{◌≡◌, ◌∙◌, sym, ap}
use mathlib.Core.Bool.{cond}
use native.Mathlib.Omega.{arith}
use lib.ListN.{length, get_or}
use borrow.Author.Tests.{eq-eqb, ne_eqb}
use Rattle.fields.specs.Field.{stop_of}
use Rattle.grammar.specs.Forms.{row_of}
use Rattle.row_fields.specs.Reading.{good, bad}
use Rattle.grammar.specs.Codes.{line_up}
use Rattle.grammar.proofs.Rows.{row-short, form-at, in_row, out-row}
use Rattle.row_fields.proofs.Rows.{filled_more, filled-stop, filled-done, filled-good, filled-bad}
use Rattle.row_fields.proofs.read_fields.Goals as goal
use Rattle.row_fields.proofs.read_fields.Goals.{else-loop-i-test, then-loop-i-test+then-f-eq32}

byte_of : (row i : ℕ) (up : List ℕ) → up ≡ line_up row → i < 18 → (get_or up i 0 ≡ 32 → ⊥) → i < length (row_of row).fields
byte_of row i up e h n = in_row row i (get_or up i 0) (form-at row i up e h) n

pub returns-in_default : goal.returns-in_default
returns-in_default c = let a = c.args in
    let g = c.line_up-up in
    let l = c.loop-i in
    let t = c.loop-i-test.true in
    let n = c.in_default in
    rw (c.stop.ensures ∙ ap stop_of n.is) (filled-bad (row_of a.row).fields a.line.now _ _ _ _ _ (sym l.invariant ∙ filled-stop (row_of a.row).fields a.line.now l.at l.i l.vs l.ps n.field-0 (byte_of a.row l.i g.result g.ensures t c.if-f-eq32.false) (rw (← form-at a.row l.i g.result g.ensures t, ← c.read_field-found.ensures) n.is)))

pub loop-i-preserved : goal.loop-i-preserved
loop-i-preserved c = let a = c.args in
    let g = c.line_up-up in
    let l = c.loop-i in
    let t = c.loop-i-test.true in
    sym (filled_more (row_of a.row).fields a.line.now l.at l.i l.vs l.ps c.in-Ok.v c.in-Ok.end (byte_of a.row l.i g.result g.ensures t c.if-f-eq32.false) (rw (← form-at a.row l.i g.result g.ensures t, ← c.read_field-found.ensures) c.in-Ok.is)) ∙ l.invariant

pub returns-then-at-line : goal.returns-then-at-line
returns-then-at-line c = let a = c.args in
    let l = c.loop-i in
    -- where the loop is left the row has no more
    let e : length (row_of a.row).fields ≤ l.i = elim c.loop-i-test.branch [
      | else-loop-i-test w ↦ omega (arith, row-short a.row)
      | then-loop-i-test+then-f-eq32 w ↦ out-row a.row l.i (get_or c.line_up-up.result l.i 0) (form-at a.row l.i c.line_up-up.result c.line_up-up.ensures w.loop-i-test.true) w.if-f-eq32.true
    ] in
    filled-good (row_of a.row).fields a.line.now _ _ _ _ (sym l.invariant ∙ filled-done (row_of a.row).fields a.line.now l.at l.i l.vs l.ps e ∙ ap (λ b. cond b (good l.vs l.ps) (bad l.vs l.ps l.at)) (eq-eqb l.at (length a.line.now) c.if-at-line.true))

pub returns-else-at-line : goal.returns-else-at-line
returns-else-at-line c = let a = c.args in
    let l = c.loop-i in
    -- where the loop is left the row has no more
    let e : length (row_of a.row).fields ≤ l.i = elim c.loop-i-test.branch [
      | else-loop-i-test w ↦ omega (arith, row-short a.row)
      | then-loop-i-test+then-f-eq32 w ↦ out-row a.row l.i (get_or c.line_up-up.result l.i 0) (form-at a.row l.i c.line_up-up.result c.line_up-up.ensures w.loop-i-test.true) w.if-f-eq32.true
    ] in
    filled-bad (row_of a.row).fields a.line.now _ _ _ _ _ (sym l.invariant ∙ filled-done (row_of a.row).fields a.line.now l.at l.i l.vs l.ps e ∙ ap (λ b. cond b (good l.vs l.ps) (bad l.vs l.ps l.at)) (ne_eqb l.at (length a.line.now) c.if-at-line.false))
