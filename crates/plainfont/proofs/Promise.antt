-- The font of any drawing is legal.
-- Assumes nothing.
use mathlib.Core.Path.{◌≡◌, refl, ap}
use mathlib.Core.Bool.{true}
use mathlib.Core.List.{List, [], ◌∷◌}
use Prim.Native.Nat.{ℕ, zero, suc, ◌+◌, ◌*◌, ◌-◌, ◌%◌, ◌^◌, ◌≤◌, ◌<◌}
use Prim.Native.String.{String}
use native.Mathlib.Omega.{arith}
use lib.ListN.{length, get_or}
use Rattle.font.specs.Rules.{legal}
use Rattle.font.specs.Written.{CellKept, GlyphKept, GlyphsKept}
use Rattle.font.proofs.Writing.{written-legal}
use Rattle.plainfont.specs.Plain.{cell, rows_at, glyph_at, glyphs_from, font_of, plain}

pub length-rows_at : (band : List String) (at n : ℕ) → length (rows_at band at n) ≡ n
unfolding rows_at
length-rows_at band at zero = refl
length-rows_at [] at (suc n) = ap suc (length-rows_at [] at n)
length-rows_at (row ∷ band) at (suc n) = ap suc (length-rows_at band at n)

-- a cell of eight dots has no spare bit
glyph-kept : (sheet : List String) (last k : ℕ) → k < 95 → last < 32 + k → GlyphKept cell last (glyph_at sheet k)
glyph-kept sheet last k l r =
    record {
      least = omega arith;
      most = omega arith;
      rises = r;
      whole = length-rows_at _ _ 16;
      spare = λ i b. omega arith;
    }

glyphs-kept : (sheet : List String) (last k n : ℕ) → k + n ≤ 95 → last < 32 + k → GlyphsKept cell last (glyphs_from sheet k n)
unfolding glyphs_from
glyphs-kept sheet last k zero l r = tt
glyphs-kept sheet last k (suc n) l r = (glyph-kept sheet last k (omega arith) r, glyphs-kept sheet (32 + k) (k + 1) n (omega arith) (omega arith))

pub legal-font_of : (sheet : List String) → legal (font_of sheet) ≡ true
unfolding font_of
legal-font_of sheet =
    written-legal cell (glyphs_from sheet 0 95) (record { wide = omega arith; narrow = omega arith; high = omega arith; low = omega arith })
    (glyphs-kept sheet 31 0 95 (omega arith) (omega arith))

pub legal-plain : legal plain ≡ true
legal-plain = legal-font_of _
