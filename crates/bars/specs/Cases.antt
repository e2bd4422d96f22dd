-- Paper 01's proof cases 3 to 5, computed; the check digit of case 2 is in symbols/Cases.
-- Assumes nothing.
use Rattle.std.specs.Prelude.{◌≡◌, refl}
use Rattle.kinds.specs.declared.Kind.TheVariants.{Code39, Interleaved, Code128}
use Rattle.kinds.specs.Text.{bytes}
use Rattle.kinds.specs.Bytes.{between}
use Rattle.kinds.specs.Fit.{in_class, fit_length, fit}
use Rattle.code128.specs.Widths.{digits, each, sum}
use Rattle.code128.specs.Code128.{rows128, six, weighed, check128, elements128}
use Rattle.shortest.specs.Found.{leaves_b, step, best, started, our_writing}
use Rattle.symbols.specs.Tables.{rows39, rows25}
use Rattle.symbols.specs.Elements
use Rattle.symbols.specs.Elements.{nine, spaced, elements39, five, woven, pairs, elements25, elements_in}
use Rattle.bars.specs.Drawing.{dots_of, widths}

-- (3) type 1 `A`: 46 modules
case-3-modules : sum (widths Code128 1 2 (bytes "A")) ≡ 46
unfolding sum widths dots_of Elements.elements elements_in our_writing started best step leaves_b elements128 each six digits check128 weighed rows128 fit fit_length in_class between
case-3-modules = refl

-- and two pairs of digits: 57, where set B alone would have 79
case-pairs : sum (widths Code128 1 2 (bytes "1234")) ≡ 57
unfolding sum widths dots_of Elements.elements elements_in our_writing started best step leaves_b elements128 each six digits check128 weighed rows128 fit fit_length in_class between
case-pairs = refl

-- (4) type 3 `1`, e 2, f 5: 85 dots wide
case-4 : sum (widths Code39 2 5 (bytes "1")) ≡ 85
unfolding sum widths dots_of Elements.elements elements_in elements39 each spaced nine digits rows39 fit fit_length in_class between
case-4 = refl

-- (5) type 2 `12`, same: 49
case-5 : sum (widths Interleaved 2 5 (bytes "12")) ≡ 49
unfolding sum widths dots_of Elements.elements elements_in elements25 pairs woven five digits rows25 fit fit_length in_class between
case-5 = refl
