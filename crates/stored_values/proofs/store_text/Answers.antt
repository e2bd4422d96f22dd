use mathlib.Core.Path.{refl, ap, ◌∙◌}
use mathlib.Core.List.{List}
use Prim.Native.Nat.{ℕ, ◌+◌}
use native.Mathlib.Omega.{arith}
use lib.Seq.{sets}
use lib.ListN.{length}
use Rattle.stored_values.specs.Stored.{field}
use Rattle.padding.proofs.Padded.{padded-is}
use Rattle.stored_values.proofs.Entering.{field-built}
use Rattle.stored_values.proofs.store_text.Goals as goal

pub returns : goal.returns
returns c = let f5 = c in
    let f4 = f5 in
    let f3 = f4 in
    let f2 = f3 in
    let f1 = f2 in
    let f0 = f1 in
    let b = f0 in
    let a = b.args in
    let l = b.in_front-left.result in
    let r = b.at_back-right.result in
    let x = b.filler_of-b.result in
    let t = a.text.now in
    rw (f5.fill-5.ensures, f4.fill-4.ensures, f3.put.ensures, f2.fill-3.ensures, f1.fill-2.ensures, f0.fill.ensures)
    (field-built a.values.now a.at (a.at + 1) (a.at + 2) f5.less-3.result l r (l + length t + r) x t (omega arith) (omega arith) refl f5.less-3.ensures
    ∙ ap (λ (v : List ℕ). sets a.values.now a.at (field v))
    (padded-is a.side a.m b.less.result b.less-2.result l r x t b.less.ensures
    b.less-2.ensures b.in_front-left.ensures b.at_back-right.ensures b.filler_of-b.ensures))
