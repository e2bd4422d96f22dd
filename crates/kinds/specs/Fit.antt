-- Paper 01, "Fit data": which bytes, and how many, a text or a bar symbol takes.
-- Assumes nothing.
use Rattle.std.specs.Prelude.{ℕ, ◌%◌, Bool, true, ◌&&◌, ◌||◌, List, length, leb, eqb}
use Prim.Native.Char.{code}
use Rattle.kinds.specs.declared.Kind.{Kind}
use Rattle.kinds.specs.declared.Kind.TheVariants.{Shown, Code39, Interleaved, Ean13, Code128}
use Rattle.kinds.specs.Bytes.{between, is_digit, all_in}

-- "type 3, one or more of 0-9 A-Z - . space $ / + %; type 2, an even number of digits, at least 2; type E30, 12 digits; type 1, at
-- least one byte": which bytes. What stands in quotes or in a value is 32 to 126, and type 1 takes no other
unfoldable pub in_class : Kind → ℕ → Bool
in_class Shown b = true
in_class Code39 b =
    is_digit b
    || (between (code "A") (code "Z") b
    || (eqb b (code "-")
    || (eqb b (code ".")
    || (eqb b (code " ") || (eqb b (code "$") || (eqb b (code "/") || (eqb b (code "+") || eqb b (code "%"))))))))
in_class Interleaved b = is_digit b
in_class Ean13 b = is_digit b
in_class Code128 b = between (code " ") (code "~") b

-- "at most 128 bytes"
abbrev pub most_data : ℕ
most_data = 128

-- at most so many; one or more; an even number, at least 2; 12; at least one byte: how many
unfoldable pub fit_length : Kind → ℕ → Bool
fit_length Shown n = leb n most_data
fit_length Code39 n = leb 1 n && leb n most_data
fit_length Interleaved n = leb 2 n && (leb n most_data && eqb (n % 2) 0)
fit_length Ean13 n = eqb n 12
fit_length Code128 n = leb 1 n && leb n most_data

-- bytes that are fit for a kind
unfoldable pub fit : Kind → List ℕ → Bool
fit k bytes = fit_length k (length bytes) && all_in (in_class k) bytes
