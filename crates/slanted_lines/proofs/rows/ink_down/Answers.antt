use native.Mathlib.Omega.{arith}
use Rattle.slanted_lines.proofs.Drawn.{blocks, line-done}
use Rattle.slanted_lines.proofs.rows.ink_down.Goals as goal

pub ink_end_rows-requires : goal.ink_end_rows-requires
ink_end_rows-requires c = let g = c in
    let m = g in
    let s = m in
    let f = s in
    let h = f in
    let e = h in
    let i = e in
    let t = i in
    let r = t in
    let w = r in
    let k = w in
    let l = k.args.l in
    let b = blocks l i.least.result t.less-top.result e.least-reach.result h.greatest-bottom.result f.least-middle.result m.least-2.result g.greatest-last.result
    k.requires t.less-top.ensures e.least-reach.ensures h.greatest-bottom.ensures f.least-middle.ensures (rw (m.least-2.ensures, s.less.ensures)) g.greatest-last.ensures in
    (k.requires, r.line_root-r.ensures, omega (arith, w.least-right.ensures), b.first, omega arith)

pub ink_middle_rows-requires : goal.ink_middle_rows-requires
ink_middle_rows-requires c = let g = c in
    let m = g in
    let s = m in
    let f = s in
    let h = f in
    let e = h in
    let i = e in
    let t = i in
    let r = t in
    let w = r in
    let k = w in
    let l = k.args.l in
    let b = blocks l i.least.result t.less-top.result e.least-reach.result h.greatest-bottom.result f.least-middle.result m.least-2.result g.greatest-last.result
    k.requires t.less-top.ensures e.least-reach.ensures h.greatest-bottom.ensures f.least-middle.ensures (rw (m.least-2.ensures, s.less.ensures)) g.greatest-last.ensures in
    (k.requires, r.line_root-r.ensures, omega (arith, w.least-right.ensures), b.second, omega arith, b.inner)

pub ink_end_rows-requires-2 : goal.ink_end_rows-requires-2
ink_end_rows-requires-2 c = let g = c in
    let m = g in
    let s = m in
    let f = s in
    let h = f in
    let e = h in
    let i = e in
    let t = i in
    let r = t in
    let w = r in
    let k = w in
    let l = k.args.l in
    let b = blocks l i.least.result t.less-top.result e.least-reach.result h.greatest-bottom.result f.least-middle.result m.least-2.result g.greatest-last.result
    k.requires t.less-top.ensures e.least-reach.ensures h.greatest-bottom.ensures f.least-middle.ensures (rw (m.least-2.ensures, s.less.ensures)) g.greatest-last.ensures in
    (k.requires, r.line_root-r.ensures, omega (arith, w.least-right.ensures), b.third, b.fits)

pub returns : goal.returns
returns c = let z = c in
    let y = z in
    let x = y in
    let g = x in
    let m = g in
    let s = m in
    let f = s in
    let h = f in
    let e = h in
    let i = e in
    let t = i in
    let r = t in
    let w = r in
    let k = w in
    let l = k.args.l in
    let b = blocks l i.least.result t.less-top.result e.least-reach.result h.greatest-bottom.result f.least-middle.result m.least-2.result g.greatest-last.result
    k.requires t.less-top.ensures e.least-reach.ensures h.greatest-bottom.ensures f.least-middle.ensures (rw (m.least-2.ensures, s.less.ensures)) g.greatest-last.ensures in
    line-done k.args.ink l w.least-right.result k.args.width k.args.length t.less-top.result f.least-middle.result g.greatest-last.result h.greatest-bottom.result
    k.args.page.now x.ink_end_rows.new.page y.ink_middle_rows.new.page z.ink_end_rows-2.new.page k.requires w.least-right.ensures t.less-top.ensures
    (rw (h.greatest-bottom.ensures, e.least-reach.ensures, i.least.ensures)) b x.ink_end_rows.ensures y.ink_middle_rows.ensures z.ink_end_rows-2.ensures
