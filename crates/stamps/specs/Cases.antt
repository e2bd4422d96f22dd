-- What formats show of the manual's 2 April 2004, 14:10:12, computed.
-- Assumes nothing.
use Prim.Native.Char.{code}
use Rattle.std.specs.Prelude.{◌≡◌, refl, true, false, [], ◌∷◌, ◌++◌}
use Rattle.kinds.specs.declared.Kind.TheVariants.{Shown, Code39, Interleaved, Ean13, Code128}
use Rattle.kinds.specs.Bytes.{between}
use Rattle.kinds.specs.Fit.{in_class}
use Rattle.kinds.specs.Text.{bytes}
use Rattle.calendar.specs.declared.Clock.{Clock}
use Rattle.calendar.specs.Clock.{clock}
use Rattle.formats.specs.declared.Stamp.TheVariants.{Date, Time}
use Rattle.formats.specs.Formats.{format, example}
use Rattle.stamps.specs.Texts.{two_digits, months, month_name, date_shown, time_shown, marked, stamp_text}
use Rattle.stamps.specs.Laying.{text, laid}
use Rattle.stamps.specs.Always.{length_of, stamp_length, good_field, good_marked, stamp_good}

april : Clock
april = clock 4 4 2 14 10 12

-- "`TDdd-me-y4` would give a date such as 02-APR-2004"; the other forms of year and month, and digits between digits
case-date :
    stamp_text Date april (example Date)
    ∷ stamp_text Date april (format 1 (code ".") 3 0 0)
    ∷ stamp_text Date april (format 4 (code "/") 5 (code "/") 1)
    ∷ stamp_text Date april (format 1 (code "0") 4 (code "1") 5)
    ∷ []
    ≡ bytes "02-APR-2004" ∷ bytes "04.APR" ∷ bytes "04/02/04" ∷ bytes "04004102" ∷ []
unfolding april example stamp_text date_shown marked two_digits month_name months
case-date = refl

-- "`TTh:m:s`"; `TThms` is hour, separator m, second; one field
case-time :
    stamp_text Time april (example Time) ∷ stamp_text Time april (format 1 (code "m") 3 0 0) ∷ stamp_text Time april (format 2 0 0 0 0) ∷ []
    ≡ bytes "14:10:12" ∷ bytes "14m12" ∷ bytes "10" ∷ []
unfolding april example stamp_text time_shown marked two_digits
case-time = refl

-- the twelve names
case-months :
    month_name 1 ++ (month_name 2 ++ (month_name 3 ++ (month_name 4 ++ (month_name 5 ++ (month_name 6
    ++ (month_name 7 ++ (month_name 8 ++ (month_name 9 ++ (month_name 10 ++ (month_name 11 ++ month_name 12))))))))))
    ≡ bytes "JANFEBMARAPRMAYJUNJULAUGSEPOCTNOVDEC"
unfolding month_name months
case-months = refl

-- in fourteen bytes
case-laid : laid (stamp_text Time april (format 1 (code ":") 2 0 0)) ≡ text (bytes "14:10" ++ (0 ∷ 0 ∷ 0 ∷ 0 ∷ 0 ∷ 0 ∷ 0 ∷ 0 ∷ 0 ∷ [])) 5
unfolding april stamp_text time_shown marked two_digits
case-laid = refl

case-length :
    stamp_length Date (example Date) ∷ stamp_length Time (example Time) ∷ stamp_length Date (format 4 0 0 0 0) ∷ stamp_length Date (format 1 (code "-") 3 0 0) ∷ []
    ≡ 11 ∷ 8 ∷ 2 ∷ 6 ∷ []
unfolding stamp_length length_of example
case-length = refl

-- the example date is fit for Code 39, since `-` and capitals are, and not for pairs of digits; with digits between its digits a date is
case-good-date :
    stamp_good Code39 Date (example Date)
    ∷ stamp_good Interleaved Date (example Date)
    ∷ stamp_good Interleaved Date (format 1 (code "0") 4 (code "1") 5)
    ∷ stamp_good Ean13 Date (format 1 (code "0") 3 0 0)
    ∷ []
    ≡ true ∷ false ∷ true ∷ false ∷ []
unfolding stamp_good good_field good_marked example in_class between
case-good-date = refl

-- a colon is not in Code 39
case-good-time : stamp_good Code39 Time (example Time) ∷ stamp_good Code128 Time (example Time) ∷ stamp_good Shown Time (example Time) ∷ [] ≡ false ∷ true ∷ true ∷ []
unfolding stamp_good good_field good_marked example in_class between
case-good-time = refl
