use Rattle.frames.proofs.Bands.{bands-drawn}
use Rattle.frames.proofs.ink_sides.Goals as goal

pub returns : goal.returns
returns c = let d = c in
    let e = d in
    let f = e in
    let g = f in
    let b = g in
    let s = b in let a = s.args in
    bands-drawn a.width a.length a.c a.x0 a.y0 a.x1 a.y1 b.band_end-top.result
    b.band_start-bottom.result b.band_end-left.result b.band_start-right.result
    a.page.now g.ink_box.new.page f.ink_box-2.new.page e.ink_box-3.new.page d.ink_box-4.new.page
    s.requires.0 s.requires.1 b.band_end-top.ensures b.band_start-bottom.ensures
    b.band_end-left.ensures b.band_start-right.ensures
    g.ink_box.ensures f.ink_box-2.ensures e.ink_box-3.ensures d.ink_box-4.ensures
