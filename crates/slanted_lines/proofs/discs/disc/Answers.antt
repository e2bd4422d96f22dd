use mathlib.Core.Path.{refl}
use Prim.Native.Nat.{◌*◌, ◌≤◌}
use native.Mathlib.Nat.{mul-le-mul}
use native.Mathlib.Omega.{arith}
use Rattle.slanted_lines.proofs.Roots.{disc-run, no-disc}
use Rattle.slanted_lines.proofs.discs.disc.Goals as goal

pub returns-then-c-v : goal.returns-then-c-v
returns-then-c-v c = let a = c.args in no-disc a.c a.a a.b a.y a.right _ (omega arith) refl refl

pub overflow_sub-times : goal.overflow_sub-times
overflow_sub-times c = let g = c in
    let k : 2 * g.gap-v.result ≤ g.args.c = omega arith in omega (arith, mul-le-mul k k)

pub root-half-requires : goal.root-half-requires
root-half-requires c = let h = c.requires.0 in omega (arith, mul-le-mul h h)

pub returns : goal.returns
returns c = let m = c in
    let n = m in
    let r = n in
    let u = r in
    let t = u in
    let g = t in
    let a = g.args in
    disc-run a.c a.a a.b a.y a.right (2 * g.gap-v.result) r.root-half.result _ (rw g.gap-v.ensures.0) (omega arith)
    (rw (t.times.ensures.0, u.times-2.ensures.0) at r.root-half.ensures.0) (rw (m.least.ensures, n.less.ensures)) c.least-2.ensures
