use mathlib.Core.Path.{refl}
use Rattle.font.specs.Written.{glyph_fields}
use Rattle.plainfont.specs.Drawing.{band32, band48, band64, band80, band96, band112, drawing}
use Rattle.plainfont.specs.Plain.{dots, rows_at, glyphs_from, font_of}
use Rattle.plainfont.proofs.bytes.Goals as goal

pub returns : goal.returns
unfolding font_of glyph_fields glyphs_from rows_at dots drawing band32 band48 band64 band80 band96 band112
returns c = refl
