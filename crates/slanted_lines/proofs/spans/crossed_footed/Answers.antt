use Rattle.slanted_lines.proofs.Strips.{crossed-footed}
use Rattle.slanted_lines.proofs.spans.crossed_footed.Goals as goal

pub returns : goal.returns
returns c = let g = c in
    let f = g in
    let s = f in
    let a = s.args in
    crossed-footed a.r a.l a.y s.crossed-s.result f.footed-f.result _ s.crossed-s.ensures f.footed-f.ensures g.greatest.ensures c.least.ensures
