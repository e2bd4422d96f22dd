use Prim.Native.Nat.{◌+◌, ◌-◌}
use native.Mathlib.Omega.{arith}
use Rattle.slanted_lines.proofs.Strips.{crossed}
use Rattle.slanted_lines.proofs.spans.crossed.Goals as goal

pub returns : goal.returns
returns c = let f = c in
    let w = f in
    let v = w in
    let u = v in
    let t = u in
    let a = t.args in
    crossed a.r a.l a.y (t.times.result + u.times-2.result) (v.times-3.result + w.times-4.result) (a.l.e - a.l.b) _
    (omega arith) (omega arith) (omega arith) f.reached.ensures c.reached-2.ensures
