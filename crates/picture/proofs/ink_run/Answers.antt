use native.Mathlib.Omega.{arith}
use Rattle.picture.proofs.Drawing.{fits-at}
use Rattle.picture.proofs.Part.{run-start, run_step, run-white, run-done}
use Rattle.std.proofs.Common.{rules}
use Rattle.picture.proofs.ink_run.Goals as goal

pub returns-then-v-eq255 : goal.returns-then-v-eq255
returns-then-v-eq255 c = run-white _ _ _ _ _ (λ j. omega (arith, c.type_inv.page j)) c.if-v-eq255.true

pub loop-k-init : goal.loop-k-init
loop-k-init c = (search rules, search rules, run-start _ _ _ _ (λ j. omega (arith, c.type_inv.page j)), search rules)

pub ink_given-requires : goal.ink_given-requires
ink_given-requires c = let l = c.loop-k in let s = c in
    (omega arith, fits-at s.args.p s.args.end l.k s.args.page.now l.page s.requires.1 l.invariant.1 l.invariant.3)

pub loop-k-preserved : goal.loop-k-preserved
loop-k-preserved c = let w = c in
    let l = w.loop-k in (
      search rules,
      search rules,
      run_step _ _ _ _ _ _ _ _ (omega arith) (omega arith) l.invariant.2 w.ink_given.ensures,
      omega (arith, w.ink_given.auto.page),
    )

pub returns : goal.returns
returns c = let l = c.loop-k in let s = c in
    run-done s.args.p _ s.args.q l.k s.args.end s.args.page.now _ s.requires.1 l.invariant.0 l.invariant.1 (omega arith) l.invariant.2
