-- What the definitions say of small lines, computed: the first eight dots of the first eight rows of a page.
-- Assumes nothing.
use Rattle.std.specs.Prelude.{ℕ, ◌≡◌, refl, true, false, List, [], ◌∷◌, replicate, get_or}
use Rattle.dots.specs.declared.Ink.{Ink}
use Rattle.dots.specs.declared.Ink.TheVariants.{Black, Inverted}
use Rattle.dots.specs.Dots.{drawn, redrawn, cut}
use Rattle.slanted_lines.specs.Slanted.{gap, squared, cross, near, in_limits, slanted}

-- the first byte of each of eight rows
rows_of : List ℕ → List ℕ
rows_of p = get_or p 0 0 ∷ get_or p 76 0 ∷ get_or p 152 0 ∷ get_or p 228 0 ∷ get_or p 304 0 ∷ get_or p 380 0 ∷ get_or p 456 0 ∷ get_or p 532 0 ∷ []

-- a page with a line, cut at width and length
with_line : Ink → ℕ → ℕ → ℕ → ℕ → ℕ → ℕ → ℕ → List ℕ → List ℕ
with_line ink width length a b c d e p = drawn ink (cut width length (slanted a b c d e)) p

-- a line drawn black on a white page
seen : ℕ → ℕ → ℕ → ℕ → ℕ → List ℕ
seen a b c d e = rows_of (with_line Black 608 8 a b c d e (replicate 608 0))

-- `LS3,5,2,9,5`: three rows, for a dot one row off is no farther than half of 2; its round end is one dot longer
--     ...XXXXX
--     ..XXXXXX
--     ...XXXXX
even-thickness : seen 3 5 2 9 5 ≡ 0 ∷ 0 ∷ 0 ∷ 0 ∷ 31 ∷ 63 ∷ 31 ∷ 0 ∷ []
unfolding seen rows_of with_line drawn redrawn slanted in_limits near cross squared gap
even-thickness = refl

-- `LS3,1,2,3,5`: the same upright
--     ...X....
--     ..XXX...
--     ..XXX...
--     ..XXX...
--     ..XXX...
--     ..XXX...
--     ...X....
upright : seen 3 1 2 3 5 ≡ 16 ∷ 56 ∷ 56 ∷ 56 ∷ 56 ∷ 56 ∷ 16 ∷ 0 ∷ []
unfolding seen rows_of with_line drawn redrawn slanted in_limits near cross squared gap
upright = refl

-- equal ends: `LS3,4,5,3,4`, and `LS3,4,4,3,4`, whose outermost dots are at exactly half of 4
--     ..XXX...        ...X....
--     .XXXXX..        ..XXX...
--     .XXXXX..        .XXXXX..
--     .XXXXX..        ..XXX...
--     ..XXX...        ...X....
disc : seen 3 4 5 3 4 ≡ 0 ∷ 0 ∷ 56 ∷ 124 ∷ 124 ∷ 124 ∷ 56 ∷ 0 ∷ []
unfolding seen rows_of with_line drawn redrawn slanted in_limits near cross squared gap
disc = refl

even-disc : seen 3 4 4 3 4 ≡ 0 ∷ 0 ∷ 16 ∷ 56 ∷ 124 ∷ 56 ∷ 16 ∷ 0 ∷ []
unfolding seen rows_of with_line drawn redrawn slanted in_limits near cross squared gap
even-disc = refl

-- `LS1,1,1,6,6`: 45 degrees, one dot a row; the dots beside them are farther than one half
thin : seen 1 1 1 6 6 ≡ 0 ∷ 64 ∷ 32 ∷ 16 ∷ 8 ∷ 4 ∷ 2 ∷ 0 ∷ []
unfolding seen rows_of with_line drawn redrawn slanted in_limits near cross squared gap
thin = refl

-- `LS1,6,3,6,2`, and the same from its other end
--     .....XXX
--     ....XXXX
--     ...XXXXX
--     ..XXXX..
--     XXXXX...
--     XXXX....
--     XXX.....
rising : seen 1 6 3 6 2 ≡ 0 ∷ 7 ∷ 15 ∷ 31 ∷ 60 ∷ 248 ∷ 240 ∷ 224 ∷ []
unfolding seen rows_of with_line drawn redrawn slanted in_limits near cross squared gap
rising = refl

falling : seen 6 2 3 1 6 ≡ seen 1 6 3 6 2
unfolding seen rows_of with_line drawn redrawn slanted in_limits near cross squared gap
falling = refl

-- `LS0,0,2,8,6`, whose length is 10: the dot (3, 1) is at a distance of exactly 1, half of 2, and belongs; (2, 0), at 6/5, does not
--     XX......
--     XXXX....
--     .XXXX...
--     ...XXX..
--     ....XXXX
--     .....XXX
--     .......X
boundary : seen 0 0 2 8 6 ≡ 192 ∷ 240 ∷ 120 ∷ 28 ∷ 15 ∷ 7 ∷ 1 ∷ 0 ∷ []
unfolding seen rows_of with_line drawn redrawn slanted in_limits near cross squared gap
boundary = refl

at-half : near 0 0 2 8 6 3 1 ≡ true
unfolding near cross squared gap
at-half = refl

beyond-half : near 0 0 2 8 6 2 0 ≡ false
unfolding near cross squared gap
beyond-half = refl

-- `LS1,2,1,2047,1023`: the other end is far off the page
--     .XX.....
--     ..XXX...
--     ....XXX.
--     ......XX
far-end : seen 1 2 1 2047 1023 ≡ 0 ∷ 0 ∷ 96 ∷ 56 ∷ 14 ∷ 3 ∷ 0 ∷ 0 ∷ []
unfolding seen rows_of with_line drawn redrawn slanted in_limits near cross squared gap
far-end = refl

-- `LSE1,6,3,6,2` over black dots 4 to 7 of each row, cut at a width of 5 and a length of 6: each dot is turned over once
--     .....XXX
--     ...X.XXX
--     ..XX.XXX
--     XXXX.XXX
inverted-and-cut : rows_of (with_line Inverted 5 6 1 6 3 6 2 (replicate 608 15)) ≡ 15 ∷ 15 ∷ 7 ∷ 23 ∷ 55 ∷ 247 ∷ 15 ∷ 15 ∷ []
unfolding rows_of with_line drawn redrawn slanted in_limits near cross squared gap
inverted-and-cut = refl

-- the same twice gives back the page
inverted-twice : with_line Inverted 5 6 1 6 3 6 2 (with_line Inverted 5 6 1 6 3 6 2 (replicate 608 15)) ≡ replicate 608 15
unfolding with_line drawn redrawn slanted in_limits near cross squared gap
inverted-twice = refl

-- thickness 81 is out of its limits, and so is 0
too-thick : seen 3 4 81 3 4 ≡ replicate 8 0
unfolding seen rows_of with_line drawn redrawn slanted in_limits near cross squared gap
too-thick = refl

too-thin : seen 3 4 0 3 4 ≡ replicate 8 0
unfolding seen rows_of with_line drawn redrawn slanted in_limits near cross squared gap
too-thin = refl
