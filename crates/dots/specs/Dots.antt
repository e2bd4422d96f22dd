-- A page of dots, and what it is to draw on one.
--
-- Paper 01, "What is lent": "Page and background: equal lengths, 76 bytes a row, N rows, 1 to 4,000. Dot x is in byte x/8, highest bit first; 1 is black."
-- So a row has 608 dots, and dot x of row y is in byte y * 76 + x / 8. A page may be of any length here: bytes after the last whole row are no dots
-- of the page, and no drawing touches them.
-- Assumes nothing.
use Rattle.std.specs.Prelude.{ℕ, suc, ◌+◌, ◌-◌, ◌*◌, ◌/◌, ◌%◌, ◌^◌, Bool, true, false, not, cond, ◌&&◌, List, [], ◌∷◌, length, get_or, leb, ltb, eqb}
use Rattle.ground.specs.Numbers.{one}
use Rattle.dots.specs.declared.Ink.{Ink}
use Rattle.dots.specs.declared.Ink.TheVariants.{Black, White, Inverted}

-- ---- numbers
-- from ≤ n < to
abbrev pub within : ℕ → ℕ → ℕ → Bool
within from to n = leb from n && ltb n to

-- ---- the dots of a byte
-- whether dot k of the byte b is black: "highest bit first; 1 is black"
abbrev pub bit_of : ℕ → ℕ → Bool
bit_of b k = eqb (b / 2 ^ (7 - k) % 2) 1

-- the byte whose dot k is f k
abbrev pub byte_of : (ℕ → Bool) → ℕ
byte_of f =
    one (f 0) * 128 + one (f 1) * 64 + one (f 2) * 32 + one (f 3) * 16 + one (f 4) * 8 + one (f 5) * 4 + one (f 6) * 2
    + one (f 7)

-- ---- the dots of a page
-- "76 bytes a row", and the dots in them
abbrev pub bytes_a_row : ℕ
bytes_a_row = 76

abbrev pub dots_a_row : ℕ
dots_a_row = 608

-- how many whole rows a page has
abbrev pub rows : List ℕ → ℕ
rows page = length page / bytes_a_row

-- whether dot x of row y is black: "Dot x is in byte x/8"
unfoldable pub dot_at : List ℕ → ℕ → ℕ → Bool
dot_at page x y = bit_of (get_or page (y * bytes_a_row + x / 8) 0) (x % 8)

-- what becomes of byte i of a page, which is b, where dot x of row y, which is o, becomes f x y o
abbrev pub byte_drawn : (ℕ → ℕ → Bool → Bool) → ℕ → ℕ → ℕ
byte_drawn f i b = byte_of (λ k. f (i % bytes_a_row * 8 + k) (i / bytes_a_row) (bit_of b k))

-- the bytes of a page from byte i on, of which those below n become so
abbrev pub redrawn_from : (ℕ → ℕ → Bool → Bool) → ℕ → ℕ → List ℕ → List ℕ
redrawn_from f n i [] = []
redrawn_from f n i (b ∷ bs) = cond (ltb i n) (byte_drawn f i b) b ∷ redrawn_from f n (suc i) bs

-- the page on which each dot x of each whole row y, which was o, is f x y o
unfoldable pub redrawn : (ℕ → ℕ → Bool → Bool) → List ℕ → List ℕ
redrawn f page = redrawn_from f (rows page * bytes_a_row) 0 page

-- ---- drawing
-- what a dot that was o becomes where it is drawn: "`LOa,b,c,d` black, `LW` white, `LE` inverts"
abbrev pub inked : Ink → Bool → Bool
inked Black o = true
inked White o = false
inked Inverted o = not o

-- the page with each dot of a shape drawn in an ink, and every other dot as it was; what a shape has outside the page is not drawn
unfoldable pub drawn : Ink → (ℕ → ℕ → Bool) → List ℕ → List ℕ
drawn ink shape page = redrawn (λ x y o. cond (shape x y) (inked ink o) o) page

-- "Drawing is cut at width and length."
abbrev pub cut : ℕ → ℕ → (ℕ → ℕ → Bool) → ℕ → ℕ → Bool
cut width length shape x y = (ltb x width && ltb y length) && shape x y

-- the dots from x0 up to, not including, x1 of the rows from y0 up to, not including, y1.
-- "dots a to a+c-1, b to b+d-1" is box a b (a + c) (b + d)
abbrev pub box : ℕ → ℕ → ℕ → ℕ → ℕ → ℕ → Bool
box x0 y0 x1 y1 x y = within x0 x1 x && within y0 y1 y
