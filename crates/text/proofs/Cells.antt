-- Cells side by side, drawn one after the other.
-- Assumes nothing.
use mathlib.Core.Path.{◌≡◌, ap, ◌∙◌}
use mathlib.Core.Bool.{Bool, true, false, ◌&&◌}
use mathlib.Core.List.{List}
use mathlib.Core.Logic.{◌⊎◌, inl, inr}
use Prim.Native.Nat.{ℕ, ◌+◌, ◌-◌, ◌*◌, ◌/◌, ◌%◌, ◌≤◌, ◌<◌}
use native.Mathlib.Nat.{div-eq_of_lt-le, div-add-mod'}
use native.Mathlib.Decide.{dec_lt}
use native.Mathlib.Omega.{arith}
use borrow.Author.Tests.{leb-true, le-leb}
use lib.ListN.{get_or}
use lib.Dec.{leb}
use Rattle.dots.specs.declared.Ink.{Ink}
use Rattle.dots.specs.Dots.{drawn, box}
use Rattle.figures.specs.Figures.{bitmap, scaled, shifted}
use Rattle.ground.proofs.Tests.{and-true}
use Rattle.bitmaps.proofs.Bitmaps.{next-times}
use Rattle.figures.specs.declared.Spot.{Spot}
use Rattle.font.specs.Rules.{cell_width, cell_height, row_bytes, rows_of}
use Rattle.text.specs.Text.{side_by_side, glyph_of, along, down, on_label}
use Rattle.dots.proofs.Pages.{Bytes}
use Rattle.dots.proofs.Shapes.{In, in-box, box_in, not-in-box, join-test}
use Rattle.figures.proofs.Placed.{Joins, then-placed, none-placed}

-- a dot of cell n, and its place in the cell
in_cell : (n m u : ℕ) → n * m ≤ u → u < n * m + m → (u / m ≡ n) × (u % m ≡ u - n * m)
in_cell n m u h k =
    let e : u / m ≡ n = div-eq_of_lt-le m h (rw (next-times n m) k) in
    (e, omega (arith, div-add-mod' u m, ap (λ (q : ℕ). q * m) e))

-- cell n as the code draws it: s is where it starts
abbrev pub cell_at : ℕ → ℕ → ℕ → (ℕ → ℕ → Bool) → ℕ → ℕ → Bool
cell_at s m d dots u w = leb s u && (box 0 0 m d (u - s) w && dots (u - s) w)

module _ (m d : ℕ) (cell : ℕ → ℕ → ℕ → Bool) (n u w : ℕ) where
  now-in : cell_at (n * m) m d (cell n) u w ≡ true → In (n * m) 0 (n * m + m) d u w
  now-in e =
      let a = and-true (leb (n * m) u) _ e in
      let b = and-true (box 0 0 m d (u - n * m) w) _ a.1 in
      let i = in-box 0 0 m d (u - n * m) w b.0 in omega (arith, leb-true (n * m) u a.0)

  now-dot : cell_at (n * m) m d (cell n) u w ≡ true → cell n (u - n * m) w ≡ true
  now-dot e = (and-true (box 0 0 m d (u - n * m) w) _ (and-true (leb (n * m) u) _ e).1).1

  pub cells-join : Joins (side_by_side n m d cell u w) (cell_at (n * m) m d (cell n) u w) (side_by_side (n + 1) m d cell u w)
  cells-join =
      join-test (side_by_side n m d cell u w) (cell_at (n * m) m d (cell n) u w) (side_by_side (n + 1) m d cell u w)
      (λ e. let h = and-true (box 0 0 (n * m) d u w) _ e in
      let i = in-box 0 0 (n * m) d u w h.0 in
      rw (box_in 0 0 ((n + 1) * m) d u w (omega (arith, next-times n m))) h.1)
      (λ e. let i = now-in e in
      let c = in_cell n m u i.left i.right in
      rw (box_in 0 0 ((n + 1) * m) d u w (omega (arith, next-times n m)), c.0, c.1) (now-dot e))
      (λ e. let h = and-true (box 0 0 ((n + 1) * m) d u w) _ e in
      split (in-box 0 0 ((n + 1) * m) d u w h.0) h.1 (dec_lt u (n * m)))
      (λ e f. let i = in-box 0 0 (n * m) d u w (and-true (box 0 0 (n * m) d u w) _ e).0 in
      let j = now-in f in omega arith)
    where
      split : In 0 0 ((n + 1) * m) d u w → cell (u / m) (u % m) w ≡ true → Dec (u < n * m)
          → (side_by_side n m d cell u w ≡ true) ⊎ (cell_at (n * m) m d (cell n) u w ≡ true)
      split i r (yes t) = inl (rw (box_in 0 0 (n * m) d u w (omega arith)) r)
      split i r (no t) =
          let below : u < n * m + m = omega (arith, next-times n m) in
          let c = in_cell n m u (omega arith) below in
          let dot : cell n (u - n * m) w ≡ true = rw (c.0, c.1) at r in
          inr (rw (le-leb (n * m) u (omega arith), box_in 0 0 m d (u - n * m) w (omega arith)) dot)

pub cells-none : (m d : ℕ) (cell : ℕ → ℕ → ℕ → Bool) (u w : ℕ) → side_by_side 0 m d cell u w ≡ false
cells-none m d cell u w = rw (not-in-box 0 0 (0 * m) d u w (λ h. omega arith))

-- ---- on the page
module _ (ink : Ink) (s : Spot) (font : List ℕ) (h v : ℕ) (text p : List ℕ) where
  -- the page with the glyphs of the first n bytes drawn
  abbrev pub drawn_to : ℕ → List ℕ
  drawn_to n = drawn ink (on_label s (side_by_side n (along font h) (down font v) (glyph_of font h v text))) p

  pub glyphs-start : Bytes p → p ≡ drawn_to 0
  glyphs-start by =
      none-placed ink s.corner.size.width s.corner.size.length s.corner.r s.wide s.high s.corner.x s.corner.y _ p by
      (λ u w i j. cells-none (along font h) (down font v) (glyph_of font h v text) u w)

  -- one glyph more, as the code draws it
  pub glyphs-next : (n u wide tall stride : ℕ) (rows q t : List ℕ) → q ≡ drawn_to n
      → t ≡ drawn ink (on_label s (shifted u (scaled wide tall h v (bitmap rows stride)))) q
      → u ≡ n * along font h → wide ≡ cell_width font → tall ≡ cell_height font → stride ≡ row_bytes font → rows ≡ rows_of font (get_or text n 0)
      → t ≡ drawn_to (n + 1)
  glyphs-next n u wide tall stride rows q t e d eu ew et es er =
      then-placed ink s.corner.size.width s.corner.size.length s.corner.r s.wide s.high s.corner.x s.corner.y _ _ _ p q t e
      (d ∙ (λ i. drawn ink (on_label s (shifted (eu i) (scaled (ew i) (et i) h v (bitmap (er i) (es i))))) q))
      (λ a b i j. cells-join (along font h) (down font v) (glyph_of font h v text) n a b)
