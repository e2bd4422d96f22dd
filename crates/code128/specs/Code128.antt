-- Code 128, ISO/IEC 15417, which paper 01 names for type 1. The widths of an element are in modules; vs is the values of the symbols from the start symbol
-- on, as crate `shortest` writes data. Past the end of the table stands 0.
-- Assumes nothing.
use Rattle.std.specs.Prelude.{ℕ, ◌+◌, ◌*◌, ◌%◌, List, [], ◌∷◌, ◌++◌, get_or}
use Rattle.code128.specs.Widths.{digits, each}

-- symbols 0 to 105 in modules, bar first; row 106 is the stop without its last bar
unfoldable pub rows128 : List ℕ
rows128 =
    212222 ∷ 222122 ∷ 222221 ∷ 121223 ∷ 121322 ∷ 131222 ∷ 122213 ∷ 122312 ∷ 132212 ∷ 221213 ∷ 221312 ∷ 231212 ∷
    112232 ∷ 122132 ∷ 122231 ∷ 113222 ∷ 123122 ∷ 123221 ∷ 223211 ∷ 221132 ∷ 221231 ∷ 213212 ∷ 223112 ∷ 312131 ∷
    311222 ∷ 321122 ∷ 321221 ∷ 312212 ∷ 322112 ∷ 322211 ∷ 212123 ∷ 212321 ∷ 232121 ∷ 111323 ∷ 131123 ∷ 131321 ∷
    112313 ∷ 132113 ∷ 132311 ∷ 211313 ∷ 231113 ∷ 231311 ∷ 112133 ∷ 112331 ∷ 132131 ∷ 113123 ∷ 113321 ∷ 133121 ∷
    313121 ∷ 211331 ∷ 231131 ∷ 213113 ∷ 213311 ∷ 213131 ∷ 311123 ∷ 311321 ∷ 331121 ∷ 312113 ∷ 312311 ∷ 332111 ∷
    314111 ∷ 221411 ∷ 431111 ∷ 111224 ∷ 111422 ∷ 121124 ∷ 121421 ∷ 141122 ∷ 141221 ∷ 112214 ∷ 112412 ∷ 122114 ∷
    122411 ∷ 142112 ∷ 142211 ∷ 241211 ∷ 221114 ∷ 413111 ∷ 241112 ∷ 134111 ∷ 111242 ∷ 121142 ∷ 121241 ∷ 114212 ∷
    124112 ∷ 124211 ∷ 411212 ∷ 421112 ∷ 421211 ∷ 212141 ∷ 214121 ∷ 412121 ∷ 111143 ∷ 111341 ∷ 131141 ∷ 114113 ∷
    114311 ∷ 411113 ∷ 411311 ∷ 113141 ∷ 114131 ∷ 311141 ∷ 411131 ∷ 211412 ∷ 211214 ∷ 211232 ∷ 233111 ∷
    []

-- the stop, and the width of its last bar
abbrev pub stop : ℕ
stop = 106

abbrev pub last_bar : ℕ
last_bar = 2

-- the six widths of symbol v
unfoldable pub six : ℕ → List ℕ
six v = digits 6 (get_or rows128 v 0)

-- behind the start each symbol counts by its place
unfoldable pub weighed : ℕ → List ℕ → ℕ
weighed i [] = 0
weighed i (v ∷ vs) = i * v + weighed (i + 1) vs

-- the check symbol: the start and the weighed symbols behind it, modulo 103
unfoldable pub check128 : List ℕ → ℕ
check128 [] = 0
check128 (start ∷ vs) = (start + weighed 1 vs) % 103

-- the symbols, the check symbol, the stop with its last bar
unfoldable pub elements128 : List ℕ → List ℕ
elements128 vs = each six vs ++ (six (check128 vs) ++ (six stop ++ (last_bar ∷ [])))
