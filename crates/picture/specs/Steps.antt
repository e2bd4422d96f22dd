-- Serves the code alone: what the functions within this crate draw at a time. Nothing of what the crate promises is said with these.
-- Assumes nothing.
use Rattle.std.specs.Prelude.{ℕ, ◌+◌, ◌-◌, ◌*◌, ◌/◌, ◌%◌, ◌≤◌, ◌<◌, min, ◌≡◌, Bool, not, ◌&&◌, List, length, ltb}
use Rattle.dots.specs.Dots.{bytes_a_row, dots_a_row, box, bit_of, byte_of, within}
use Rattle.pcx.specs.Rules as rules
use Rattle.picture.specs.declared.Spot.{Spot}

-- the first n dots of a byte, turned over
abbrev pub dark_byte : ℕ → ℕ → ℕ
dark_byte v n = byte_of (λ k. ltb k n && not (bit_of v k))

-- which of a picture's bytes has the dot a, b
abbrev pub index_at : Spot → ℕ → ℕ → ℕ
index_at p a b = (b - p.y) * p.line + (a - p.x) / 8

-- the dots of a picture's bytes number lo up to hi, where byte k is f k
unfoldable pub part : Spot → (ℕ → ℕ) → ℕ → ℕ → ℕ → ℕ → Bool
part p f lo hi a b =
    box p.x p.y p.right p.bottom a b && (within lo hi (index_at p a b) && not (bit_of (f (index_at p a b)) ((a - p.x) % 8)))

-- a place that a page's numbers have room for, and a picture's byte number that is not too large
pub record Fits (p : Spot) (q : ℕ) (page : List ℕ) : Type 0 where
  pub left : p.x < dots_a_row
  pub top : p.y < length page / bytes_a_row
  pub some : 0 < p.line
  pub holds : p.right ≤ p.x + p.line * 8
  pub ends : p.last ≡ (p.bottom - p.y) * p.line
  pub small : q ≤ 1048576

-- where a picture that is drawn at x, y and cut at width and length stands on a page of so many rows
unfoldable pub spot_of : ℕ → ℕ → ℕ → ℕ → ℕ → List ℕ → Spot
spot_of rows width length x y bytes =
    let bottom = min (y + rules.height bytes) (min length rows) in
    record { x = x; y = y; right = min (x + rules.width bytes) width; bottom = bottom; line = rules.line_bytes bytes; last = (bottom - y) * rules.line_bytes bytes }
