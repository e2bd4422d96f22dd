-- Paper 01, `ZT`, `ZB`: the finished page turned.
-- Assumes nothing.
use Rattle.std.specs.Prelude.{ℕ, ◌-◌, min, ◌&&◌, List, ltb}
use Rattle.dots.specs.Dots.{dots_a_row, rows, dot_at, redrawn}

-- "dot (x,y) goes to (width-1-x, length-1-y)"; outside width by length the page is white
unfoldable pub turned_in : ℕ → ℕ → List ℕ → List ℕ
turned_in width length page = redrawn (λ x y o. (ltb x width && ltb y length) && dot_at page (width - 1 - x) (length - 1 - y)) page

-- "with ZB the finished page is turned by 180 degrees". No label is wider or longer than its page: a greater width or length is the page's
abbrev pub turned : ℕ → ℕ → List ℕ → List ℕ
turned width length page = turned_in (min width dots_a_row) (min length (rows page)) page
