-- What the definitions say of small data, computed.
-- Assumes nothing.
use Rattle.std.specs.Prelude.{◌≡◌, refl, true, false, replicate}
use Rattle.kinds.specs.declared.Kind.TheVariants.{Shown, Code39, Interleaved, Ean13, Code128}
use Rattle.kinds.specs.Text.{bytes}
use Rattle.kinds.specs.Bytes.{between}
use Rattle.kinds.specs.Fit.{in_class, fit_length, fit}

-- "type 3, one or more of 0-9 A-Z - . space $ / + %"
all-39 : fit Code39 (bytes "09AZ-. $/+%") ≡ true
unfolding fit fit_length in_class between
all-39 = refl

no-star : fit Code39 (bytes "*A*") ≡ false
unfolding fit fit_length in_class between
no-star = refl

-- "type 2, an even number of digits, at least 2"
pair : fit Interleaved (bytes "12") ≡ true
unfolding fit fit_length in_class between
pair = refl

odd : fit Interleaved (bytes "123") ≡ false
unfolding fit fit_length in_class between
odd = refl

-- "type E30, 12 digits"
twelve : fit Ean13 (bytes "123456789012") ≡ true
unfolding fit fit_length in_class between
twelve = refl

eleven : fit Ean13 (bytes "12345678901") ≡ false
unfolding fit fit_length in_class between
eleven = refl

-- "type 1, at least one byte"
none : fit Code128 (bytes "") ≡ false
unfolding fit fit_length in_class between
none = refl

-- "at most 128 bytes"
most : fit Shown (replicate 128 0) ≡ true
unfolding fit fit_length in_class
most = refl

more : fit Shown (replicate 129 0) ≡ false
unfolding fit fit_length in_class
more = refl
