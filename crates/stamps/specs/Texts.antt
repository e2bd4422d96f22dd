-- Paper 02, §10: what a format shows of a clock.
-- Assumes nothing.
use Rattle.std.specs.Prelude.{ℕ, ◌+◌, ◌-◌, ◌*◌, ◌/◌, ◌%◌, cond, List, [], ◌∷◌, ◌++◌, get_or, eqb}
use Prim.Native.Char.{code}
use Rattle.kinds.specs.Text.{bytes}
use Rattle.calendar.specs.declared.Clock.{Clock}
use Rattle.formats.specs.declared.Format.{Format}
use Rattle.formats.specs.declared.Stamp.{Stamp}
use Rattle.formats.specs.declared.Stamp.TheVariants.{Date, Time}

-- "two digits"
unfoldable pub two_digits : ℕ → List ℕ
two_digits n = (code "0" + n / 10 % 10) ∷ (code "0" + n % 10) ∷ []

-- "Months are three capital English letters", one after the other; letter k of month m
unfoldable pub months : List ℕ
months = bytes "JANFEBMARAPRMAYJUNJULAUGSEPOCTNOVDEC"

abbrev pub month_letter : ℕ → ℕ → ℕ
month_letter m k = get_or months (3 * (m - 1) + k) 0

unfoldable pub month_name : ℕ → List ℕ
month_name m = month_letter m 0 ∷ month_letter m 1 ∷ month_letter m 2 ∷ []

-- 1 Y2; 2 Y4, with "20" before; 3 ME; 4 MN; 5 DD
unfoldable pub date_shown : Clock → ℕ → List ℕ
date_shown c x =
    cond (eqb x 1) (two_digits c.year)
    (cond (eqb x 2) (code "2" ∷ code "0" ∷ two_digits c.year)
    (cond (eqb x 3) (month_name c.month)
    (cond (eqb x 4) (two_digits c.month)
    (cond (eqb x 5) (two_digits c.day) []))))

-- 1 H; 2 M; 3 S
unfoldable pub time_shown : Clock → ℕ → List ℕ
time_shown c x =
    cond (eqb x 1) (two_digits c.hour) (cond (eqb x 2) (two_digits c.minute) (cond (eqb x 3) (two_digits c.second) []))

abbrev pub shown : Stamp → Clock → ℕ → List ℕ
shown Date c x = date_shown c x
shown Time c x = time_shown c x

-- a separator and a field, if there is one
unfoldable pub marked : Stamp → Clock → ℕ → ℕ → List ℕ
marked st c m x = cond (eqb x 0) [] (m ∷ shown st c x)

-- the fields with their separators between
unfoldable pub stamp_text : Stamp → Clock → Format → List ℕ
stamp_text st c f = shown st c f.first ++ (marked st c f.mark1 f.second ++ marked st c f.mark2 f.third)
