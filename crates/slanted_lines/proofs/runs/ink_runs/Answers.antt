use Rattle.slanted_lines.proofs.Drawn.{runs-drawn}
use Rattle.slanted_lines.proofs.runs.ink_runs.Goals as goal

pub returns : goal.returns
returns c = let v = c in
    let u = v in
    let t = u in
    let s = t in
    let r = s in
    let h = r in
    let g = h in
    let k = g in
    let a = k.args in
    runs-drawn a.ink a.s a.t a.u a.y a.right g.greatest-next.result h.greatest-end.result a.page.now r.ink_run.new.page
    s.ink_run-2.new.page t.ink_run-3.new.page u.ink_run-4.new.page v.ink_run-5.new.page k.requires.0 g.greatest-next.ensures h.greatest-end.ensures
    r.ink_run.ensures s.ink_run-2.ensures t.ink_run-3.ensures u.ink_run-4.ensures v.ink_run-5.ensures
