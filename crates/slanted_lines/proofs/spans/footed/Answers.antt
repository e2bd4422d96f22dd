use Prim.Native.Nat.{◌-◌}
use native.Mathlib.Omega.{arith}
use Rattle.slanted_lines.proofs.Strips.{footed-right, footed-left}
use Rattle.slanted_lines.proofs.spans.footed.Goals as goal

pub returns-then-l : goal.returns-then-l
returns-then-l c = let w = c in
    let f = w in
    let v = f in
    let u = v in
    let t = u in
    let s = t in
    let a = s.args in
    footed-right a.l a.y (a.l.e - a.l.b) (a.l.d - a.l.a) _ (omega arith) (omega arith)
    (rw (v.times.ensures.0, s.times-upper.ensures.0, t.times-here.ensures.0) at f.reached.ensures)
    (rw (w.times-then-l.ensures.0, u.times-lower.ensures.0, t.times-here.ensures.0) at c.reached-then-l.ensures)

pub returns : goal.returns
returns c = let w = c in
    let f = w in
    let v = f in
    let u = v in
    let t = u in
    let s = t in
    let a = s.args in
    footed-left a.l a.y (a.l.e - a.l.b) (a.l.a - a.l.d) _ (omega arith) (omega arith)
    (rw (v.times-2.ensures.0, t.times-here.ensures.0, u.times-lower.ensures.0) at f.reached-2.ensures)
    (rw (w.times-3.ensures.0, t.times-here.ensures.0, s.times-upper.ensures.0) at c.reached-3.ensures)
