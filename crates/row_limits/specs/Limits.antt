-- Paper 01, "Reading a command": the fields of a row held to their limits (7).
-- Assumes nothing.
use Rattle.std.specs.Prelude.{ℕ, ◌+◌, Bool, true, cond, ◌&&◌, ◌||◌, not, List, [], ◌∷◌, get_or, drop, leb, ltb, eqb, Result, Ok, Err}
use Prim.Native.Char.{code}
use Rattle.kinds.specs.Bytes.{between}
use Rattle.calendar.specs.Clock.{days_in}
use Rattle.classes.specs.Bytes.{run_at}
use Rattle.data_field.specs.Elements.{elements}
use Rattle.data_field.specs.Data.{limits}
use Rattle.classes.specs.declared.Class.TheVariants.{Named}
use Rattle.grammar.specs.Makers.{starred}
use Rattle.grammar.specs.Forms.{is_number, limited, free}

-- "Names: .. codes 32 to 126 without `*` and quote": the name bytes after the quote at p are as many as the text's
abbrev pub named : List ℕ → ℕ → ℕ → Bool
named s p n = eqb (run_at Named s (p + 1)) n

-- paper 02, §10: "the day checked against month and leap year", where the year behind it is within its limits; the month before it then is
abbrev pub day_there : ℕ → ℕ → ℕ → Bool
day_there month day year = not (leb year 99) || leb day (days_in year month)

-- whether a field of value v at p, after the number u and before the number n, meets what is asked of it beside its bounds
unfoldable pub meets : ℕ → List ℕ → ℕ → ℕ → ℕ → ℕ → Bool
meets f s u v p n =
    cond (eqb f (code "w")) (ltb u v)
    (cond (eqb f (code "y")) (day_there u v n)
    (cond (eqb f (code "a")) (named s p v)
    (cond (eqb f (code "z")) (named s p v || starred s p v)
    true)))

unfoldable pub field_limits : ℕ → ℕ × ℕ → List ℕ → ℕ → ℕ → ℕ → ℕ → Result Unit ℕ
field_limits f l s u v p n =
    cond (eqb f (code "d")) (limits (elements s p))
    (cond (limited f) (cond (between l.0 l.1 v && meets f s u v p n) (Ok tt) (Err p))
    (Ok tt))

abbrev pub first_of : Result Unit ℕ → Result Unit ℕ → Result Unit ℕ
first_of (Ok u) l = l
first_of (Err p) l = Err p

-- the first field outside its limits; u is the number before, and the number behind a field has a comma between
unfoldable pub limits_from : List ℕ → List (ℕ × ℕ) → List ℕ → ℕ → List ℕ → List ℕ → Result Unit ℕ
limits_from [] ls s u vs ps = Ok tt
limits_from (f ∷ fs) ls s u vs ps =
    first_of (field_limits f (get_or ls 0 free) s u (get_or vs 0 0) (get_or ps 0 0) (get_or vs 2 0))
    (limits_from fs (drop 1 ls) s (cond (is_number f) (get_or vs 0 0) u) (drop 1 vs) (drop 1 ps))
