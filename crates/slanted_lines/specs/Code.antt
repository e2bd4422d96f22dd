-- For the code alone: what its functions ask of a line and promise of a part of it. Nothing that `ink_line` promises goes by these.
-- Assumes nothing.
use Rattle.std.specs.Prelude.{ℕ, ◌+◌, ◌*◌, ◌/◌, ◌≤◌, ◌<◌, ◌≡◌, Bool, ◌&&◌, ◌||◌, leb, ltb}
use Rattle.dots.specs.Dots.{within, box}
use Rattle.slanted_lines.specs.declared.Line.{Line}
use Rattle.slanted_lines.specs.declared.Span.{Span}
use Rattle.slanted_lines.specs.Slanted.{squared, cross, near}

-- for the code alone: no coordinate is greater, for a near dot is at most half of 80 below row 8191
abbrev pub farthest : ℕ
farthest = 8231

-- for the code alone: the root of a line is less, and the bound serves sums with it; its square is above a quarter of any c squared times a length squared
abbrev pub root_bound : ℕ
root_bound = 67108864

-- for the code alone: a line within limits whose first end is not below the second
pub record Drawable (l : Line) : Type 0 where
  pub a-fits : l.a ≤ 4095
  pub b-fits : l.b ≤ 8191
  pub c-fits : l.c ≤ 80
  pub d-fits : l.d ≤ 4095
  pub e-fits : l.e ≤ 8191
  pub downward : l.b ≤ l.e

-- for the code alone: the dots that are near a line
abbrev pub near_line : Line → ℕ → ℕ → Bool
near_line l x y = near l.a l.b l.c l.d l.e x y

-- for the code alone: the line from (a, b) to (d, e), c thick, ready to be drawn
pub record AsLine (a b c d e : ℕ) (l : Line) : Type 0 where
  pub drawable : Drawable l
  pub same : (x y : ℕ) → near_line l x y ≡ near a b c d e x y

-- for the code alone: the dots of a shape that lie in a box
abbrev pub part : ℕ → ℕ → ℕ → ℕ → (ℕ → ℕ → Bool) → ℕ → ℕ → Bool
part x0 y0 x1 y1 shape x y = box x0 y0 x1 y1 x y && shape x y

-- for the code alone: the whole-number root of a number
pub record Root (n r : ℕ) : Type 0 where
  pub low : r * r ≤ n
  pub high : n < (r + 1) * (r + 1)

-- for the code alone: the root of n is one of the `step` numbers from r on
pub record Around (n r step : ℕ) : Type 0 where
  pub low : r * r ≤ n
  pub high : n < (r + step) * (r + step)

-- for the code alone: the root that the cross product is held against between the ends of a line
pub record Rooted (l : Line) (r : ℕ) : Type 0 where
  pub is-root : Root (l.c * l.c * squared l.a l.b l.d l.e / 4) r
  pub fits : r < root_bound

-- for the code alone: the strip along a line, where the cross product is at most r
abbrev pub strip : ℕ → Line → ℕ → ℕ → Bool
strip r l x y = leb (cross l.a l.b l.d l.e x y) r

-- for the code alone: the dots whose foot lies between the ends
abbrev pub foot : Line → ℕ → ℕ → Bool
foot l x y =
    ltb (squared x y l.d l.e) (squared x y l.a l.b + squared l.a l.b l.d l.e)
    && ltb (squared x y l.a l.b) (squared x y l.d l.e + squared l.a l.b l.d l.e)

-- for the code alone: the rows from `from` up to `to` lie between the ends, farther than half of c from both
pub record MiddleRows (l : Line) (from to : ℕ) : Type 0 where
  pub inside : (y : ℕ) → from ≤ y → y < to → (2 * l.b + l.c < 2 * y) × (2 * y + l.c < 2 * l.e)

-- for the code alone: a run of columns, in any row, and three of them
abbrev pub run : Span → ℕ → ℕ → Bool
run s x y = within s.from s.to x

abbrev pub runs : Span → Span → Span → ℕ → ℕ → Bool
runs s t u x y = (run s x y || run t x y) || run u x y

-- for the code alone: two runs below `right`, of which s starts first
pub record Ordered (s t : Span) (right : ℕ) : Type 0 where
  pub start : s.from ≤ t.from
  pub first : s.from ≤ s.to
  pub second : t.from ≤ t.to
  pub first-cut : s.to ≤ right
  pub second-cut : t.to ≤ right

-- for the code alone: as far as a row reaches, r is the first column x where m x + t is s or more
pub record Reached (m s t r : ℕ) : Type 0 where
  pub after : (x : ℕ) → x < 608 → s ≤ m * x + t → r ≤ x
  pub before : (x : ℕ) → x < 608 → r ≤ x → s ≤ m * x + t

-- for the code alone: as far as a row reaches, the columns of row y in the strip, those whose foot lies between the ends, and those that are both
pub record Crossed (r : ℕ) (l : Line) (y : ℕ) (s : Span) : Type 0 where
  pub columns : (x : ℕ) → x < 608 → strip r l x y ≡ run s x y

pub record Footed (l : Line) (y : ℕ) (s : Span) : Type 0 where
  pub columns : (x : ℕ) → x < 608 → foot l x y ≡ run s x y

pub record CrossedFooted (r : ℕ) (l : Line) (y : ℕ) (s : Span) : Type 0 where
  pub columns : (x : ℕ) → x < 608 → (strip r l x y && foot l x y) ≡ run s x y

-- for the code alone: the columns of row y below `right` that lie in the disc about (a, b), c thick
pub record Disc (c a b y right : ℕ) (s : Span) : Type 0 where
  pub ordered : s.from ≤ s.to
  pub cut_off : s.to ≤ right
  pub columns : (x : ℕ) → x < right → leb (4 * squared x y a b) (c * c) ≡ run s x y
