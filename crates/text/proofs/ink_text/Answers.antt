use Rattle.text.specs.Text.{glyphs}
use Rattle.text.proofs.Lines.{mode-black, mode-reverse}
use Rattle.text.proofs.ink_text.Goals as goal

pub returns-then-reverse : goal.returns-then-reverse
returns-then-reverse c = let a = c.args in
    mode-reverse a.s (glyphs a.font.now a.scale.h a.scale.v a.text.now) a.reverse a.page.now c.ink_cells.new.page
    c.ink_glyphs.new.page
    c.if-reverse.true c.ink_cells.ensures c.ink_glyphs.ensures

pub returns-else-reverse : goal.returns-else-reverse
returns-else-reverse c = let a = c.args in
    mode-black a.s (glyphs a.font.now a.scale.h a.scale.v a.text.now) a.reverse a.page.now c.ink_glyphs-else-reverse.new.page c.if-reverse.false
    c.ink_glyphs-else-reverse.ensures
