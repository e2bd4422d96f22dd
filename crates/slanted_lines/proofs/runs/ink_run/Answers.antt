use Rattle.slanted_lines.proofs.Drawn.{run-drawn}
use Rattle.slanted_lines.proofs.runs.ink_run.Goals as goal

pub returns : goal.returns
returns c = let w = c in
    let g = w in
    let a = g.args in
    run-drawn a.ink a.s a.y a.from a.to g.greatest-start.result a.page.now w.ink_box.new.page g.greatest-start.ensures w.ink_box.ensures
