use mathlib.Core.Path.{sym, ◌∙◌}
use native.Mathlib.Omega.{arith}
use Rattle.slanted_lines.proofs.Lines.{line-drawn, no_line}
use Rattle.slanted_lines.proofs.ink_line.Goals as goal

pub downward-l-requires : goal.downward-l-requires
downward-l-requires c = sym c.in_limits.ensures ∙ c.if-in_limits.true

pub returns-then-in_limits : goal.returns-then-in_limits
returns-then-in_limits c = let w = c in
    let f = w in
    let i = f in
    let l = i in
    let a = l.args in
    line-drawn a.ink a.width a.length a.a a.b a.c a.d a.e a.page.now w.ink_down.new.page l.in_limits.result
    l.in_limits.ensures f.downward-l.result i.if-in_limits.true f.downward-l.ensures w.ink_down.ensures

pub returns-else-in_limits : goal.returns-else-in_limits
returns-else-in_limits c = let l = c in
    let s = l in
    let a = s.args in
    no_line a.ink a.width a.length a.a a.b a.c a.d a.e a.page.now a.page.now l.in_limits.result
    l.in_limits.ensures c.if-in_limits.false (λ j. omega (arith, s.type_inv.page j))
