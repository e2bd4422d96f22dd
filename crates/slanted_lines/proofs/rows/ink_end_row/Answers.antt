use Rattle.slanted_lines.proofs.Drawn.{end_row, turned-row}
use Rattle.slanted_lines.proofs.rows.ink_end_row.Goals as goal

pub returns-then-upper-lower : goal.returns-then-upper-lower
returns-then-upper-lower c = let w = c in
    let e = w in
    let d = e in
    let b = d in
    let k = b in
    let a = k.args in
    end_row a.ink a.l a.r a.y a.right a.page.now w.ink_runs.new.page k.requires.1 k.requires.2 d.disc-upper.result e.disc-lower.result
    b.crossed_footed-between.result d.disc-upper.ensures e.disc-lower.ensures b.crossed_footed-between.ensures w.ink_runs.ensures

pub returns : goal.returns
returns c = let w = c in
    let e = w in
    let d = e in
    let b = d in
    let k = b in
    let a = k.args in
    turned-row a.ink a.l a.r a.y a.right a.page.now w.ink_runs-2.new.page k.requires.1 k.requires.2 d.disc-upper.result e.disc-lower.result
    b.crossed_footed-between.result d.disc-upper.ensures e.disc-lower.ensures b.crossed_footed-between.ensures w.ink_runs-2.ensures
