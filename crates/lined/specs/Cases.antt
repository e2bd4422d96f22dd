-- What the definitions say of small labels, computed: the bytes of a line, and type 2 `12` with e 1, f 2, g 24, whose bars are 22 dots wide, over a line
-- of two cells.
-- Assumes nothing.
use Rattle.std.specs.Prelude.{ℕ, ◌+◌, ◌*◌, ◌≡◌, refl, List, [], ◌∷◌, ◌++◌, get_or, replicate}
use Prim.Native.Char.{code}
use Rattle.dots.specs.Dots.{drawn, redrawn}
use Rattle.kinds.specs.declared.Kind.TheVariants.{Code39, Interleaved, Ean13, Code128}
use Rattle.kinds.specs.declared.Place.TheVariants.{Left, Centre, Right}
use Rattle.kinds.specs.declared.Under.{Under}
use Rattle.kinds.specs.declared.Under.TheVariants.{Nothing, Line}
use Rattle.kinds.specs.Text.{bytes}
use Rattle.kinds.specs.Bytes.{between}
use Rattle.kinds.specs.Fit.{in_class, fit_length, fit}
use Rattle.font.specs.Rules.{place_from, rows_of}
use Rattle.code128.specs.Widths.{digits, sum}
use Rattle.symbols.specs.Tables.{rows25, rows_a, rows_b, rows_set}
use Rattle.symbols.specs.Elements
use Rattle.symbols.specs.Elements.{five, woven, pairs, elements25, weights, check_digit, checked, pattern_row, pattern, patterns, sets_of, elements_ean, elements_in}
use Rattle.bars.specs.Drawing.{in_limits, dots_of, widths, in_bar, bars, bars_drawn}
use Rattle.lined.specs.Lined.{line_of, line_wide, left_of, lined, lined_drawn, bars_with}

-- "with the EAN check digit": E30 `123456789012`
check-digit : line_of Ean13 (bytes "123456789012") ≡ bytes "1234567890128"
unfolding line_of checked check_digit weights
check-digit = refl

-- "stands the data": Code 39 without the asterisks of its bars, Code 128 without its check symbol
no-asterisk : line_of Code39 (bytes "A-1") ≡ bytes "A-1"
unfolding line_of
no-asterisk = refl

no-check-symbol : line_of Code128 (bytes "A") ≡ bytes "A"
unfolding line_of
no-check-symbol = refl

-- "C with the smaller half left"
smaller-half : left_of Centre 7 ≡ 3
smaller-half = refl

-- cells of 5 by 2 dots, and of 15 by 2, with glyphs for 1 and 2
narrow : List ℕ
narrow = 1 ∷ 2 ∷ 0 ∷ 5 ∷ 2 ∷ 2 ∷ 3 ∷ 0 ∷ code "1" ∷ 128 ∷ 248 ∷ 2 ∷ 3 ∷ 0 ∷ code "2" ∷ 248 ∷ 32 ∷ 255 ∷ 0 ∷ 0 ∷ []

wide : List ℕ
wide = 1 ∷ 2 ∷ 0 ∷ 15 ∷ 2 ∷ 2 ∷ 5 ∷ 0 ∷ code "1" ∷ 128 ∷ 2 ∷ 255 ∷ 254 ∷ 2 ∷ 5 ∷ 0 ∷ code "2" ∷ 255 ∷ 254 ∷ 1 ∷ 0 ∷ 255 ∷ 0 ∷ 0 ∷ []

-- the line of E30 has 13 cells
thirteen-cells : line_wide narrow (line_of Ean13 (bytes "123456789012")) ≡ 13 * 5
unfolding narrow line_of checked
thirteen-cells = refl

-- the first four bytes of a row, on a white page of 32 rows, with the corner at 1,0
seen : ℕ → ℕ → ℕ → Under → List ℕ → ℕ → List ℕ
seen width length r under font y =
    let p = bars_with width length 1 0 r Interleaved 1 2 24 under font (bytes "12") (replicate 2432 0) in
    get_or p (y * 76) 0 ∷ get_or p (y * 76 + 1) 0 ∷ get_or p (y * 76 + 2) 0 ∷ get_or p (y * 76 + 3) 0 ∷ []

-- nothing under the bars: their last row, and the row below, which is white
alone : seen 608 32 0 Nothing narrow 23 ++ (seen 608 32 0 Nothing narrow 24) ≡ 86 ∷ 149 ∷ 154 ∷ 0 ∷ 0 ∷ 0 ∷ 0 ∷ 0 ∷ []
unfolding seen narrow bars_with bars_drawn drawn redrawn rows25 digits five woven pairs elements25 elements_in Elements.elements in_limits dots_of widths sum in_bar bars between in_class fit_length fit
alone = refl

-- the last row of the bars; the line under them at the left, in the middle, and its second row at the right
line-placed : seen 608 32 0 (Line Left) narrow 23 ++ (seen 608 32 0 (Line Left) narrow 24 ++ (seen 608 32 0 (Line Centre) narrow 24 ++ (seen 608 32 0 (Line Right) narrow 25)))
    ≡ 86 ∷ 149 ∷ 154 ∷ 0 ∷ 67 ∷ 224 ∷ 0 ∷ 0 ∷ 1 ∷ 15 ∷ 128 ∷ 0 ∷ 0 ∷ 7 ∷ 200 ∷ 0 ∷ []
unfolding seen narrow bars_with lined_drawn lined line_of drawn redrawn place_from rows_of rows25 digits five woven pairs elements25 elements_in Elements.elements in_limits dots_of widths sum in_bar bars between in_class fit_length fit
line-placed = refl

-- a line of 30 dots under bars of 22: the bars are placed, in the middle and at the right
bars-placed : seen 608 32 0 (Line Centre) wide 0 ++ (seen 608 32 0 (Line Right) wide 23 ++ (seen 608 32 0 (Line Right) wide 24))
    ≡ 5 ∷ 105 ∷ 89 ∷ 160 ∷ 0 ∷ 86 ∷ 149 ∷ 154 ∷ 64 ∷ 1 ∷ 255 ∷ 254 ∷ []
unfolding seen wide bars_with lined_drawn lined line_of drawn redrawn place_from rows_of rows25 digits five woven pairs elements25 elements_in Elements.elements in_limits dots_of widths sum in_bar bars between in_class fit_length fit
bars-placed = refl

-- turned as one box: once, the line is at the left; twice, above; three times, at the right
turned : seen 608 32 1 (Line Centre) narrow 7 ++ (seen 608 32 2 (Line Centre) narrow 1 ++ (seen 608 32 3 (Line Right) wide 7))
    ≡ 95 ∷ 255 ∷ 255 ∷ 224 ∷ 1 ∷ 240 ∷ 128 ∷ 0 ∷ 127 ∷ 255 ∷ 255 ∷ 224 ∷ []
unfolding seen narrow wide bars_with lined_drawn lined line_of drawn redrawn place_from rows_of rows25 digits five woven pairs elements25 elements_in Elements.elements in_limits dots_of widths sum in_bar bars between in_class fit_length fit
turned = refl

-- cut at a width of 10 and a length of 25
cut_off : seen 10 25 0 (Line Centre) narrow 24 ++ (seen 10 25 0 (Line Centre) narrow 25)
    ≡ 1 ∷ 0 ∷ 0 ∷ 0 ∷ 0 ∷ 0 ∷ 0 ∷ 0 ∷ []
unfolding seen narrow bars_with lined_drawn lined line_of drawn redrawn place_from rows_of rows25 digits five woven pairs elements25 elements_in Elements.elements in_limits dots_of widths sum in_bar bars between in_class fit_length fit
cut_off = refl

-- E30 `222222222222`, check digit 2: bytes 7 and 8 of the line's first row, in which 13 cells are black from dot 1 to dot 65
check-drawn : let p = bars_with 608 32 1 0 0 Ean13 1 2 24 (Line Left) narrow (bytes "222222222222") (replicate 2432 0) in
    get_or p (24 * 76 + 7) 0 ∷ get_or p (24 * 76 + 8) 0 ∷ [] ≡ 255 ∷ 192 ∷ []
unfolding narrow bars_with lined_drawn lined line_of checked check_digit weights drawn redrawn place_from rows_of rows_a rows_b rows_set digits pattern_row pattern patterns sets_of elements_ean elements_in Elements.elements in_limits dots_of widths sum in_bar bars between in_class fit_length fit
check-drawn = refl
