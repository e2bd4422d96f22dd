-- The tables of three of the standards; Code 128's is code128/Code128. A row is a number whose digits are the widths of a symbol's elements, in their order from the left.
-- Assumes nothing.
use Rattle.std.specs.Prelude.{List, [], ◌∷◌, ℕ}

-- ISO/IEC 16388 (Code 39), by byte from 32 to 90: 1 narrow and 2 wide, bar first; 0 where the byte has no character. An asterisk, byte 42, is start and stop
unfoldable pub rows39 : List ℕ
rows39 =
    122111211 ∷ 0 ∷ 0 ∷ 0 ∷ 121212111 ∷ 111212121 ∷ 0 ∷ 0 ∷ 0 ∷ 0 ∷
    121121211 ∷ 121112121 ∷ 0 ∷ 121111212 ∷ 221111211 ∷ 121211121 ∷ 111221211 ∷ 211211112 ∷ 112211112 ∷ 212211111 ∷
    111221112 ∷ 211221111 ∷ 112221111 ∷ 111211212 ∷ 211211211 ∷ 112211211 ∷ 0 ∷ 0 ∷ 0 ∷ 0 ∷
    0 ∷ 0 ∷ 0 ∷ 211112112 ∷ 112112112 ∷ 212112111 ∷ 111122112 ∷ 211122111 ∷ 112122111 ∷ 111112212 ∷
    211112211 ∷ 112112211 ∷ 111122211 ∷ 211111122 ∷ 112111122 ∷ 212111121 ∷ 111121122 ∷ 211121121 ∷ 112121121 ∷ 111111222 ∷
    211111221 ∷ 112111221 ∷ 111121221 ∷ 221111112 ∷ 122111112 ∷ 222111111 ∷ 121121112 ∷ 221121111 ∷ 122121111 ∷
    []

-- ISO/IEC 16390 (Interleaved 2 of 5), by digit: 1 narrow and 2 wide
unfoldable pub rows25 : List ℕ
rows25 =
    11221 ∷ 21112 ∷ 12112 ∷ 22111 ∷ 11212 ∷ 21211 ∷ 12211 ∷ 11122 ∷ 21121 ∷ 12121 ∷
    []

-- ISO/IEC 15420 (EAN-13), by digit, in modules: sets A and C, which differ in what is a bar alone, and set B
unfoldable pub rows_a : List ℕ
rows_a =
    3211 ∷ 2221 ∷ 2122 ∷ 1411 ∷ 1132 ∷ 1231 ∷ 1114 ∷ 1312 ∷ 1213 ∷ 3112 ∷
    []

unfoldable pub rows_b : List ℕ
rows_b =
    1123 ∷ 1222 ∷ 2212 ∷ 1141 ∷ 2311 ∷ 1321 ∷ 4111 ∷ 2131 ∷ 3121 ∷ 2113 ∷
    []

-- ISO/IEC 15420: the sets of the six left digits, 1 for A and 2 for B, by the first digit
unfoldable pub rows_set : List ℕ
rows_set =
    111111 ∷ 112122 ∷ 112212 ∷ 112221 ∷ 121122 ∷ 122112 ∷ 122211 ∷ 121212 ∷ 121221 ∷ 122121 ∷
    []
