-- The format of the date or of the time, in a line to which more is added.
use Rattle.std.specs.Prelude.{Result, Ok, Err}
use mathlib.Core.Path.{◌≡◌, refl}
use mathlib.Core.List.{List}
use Prim.Native.Nat.{ℕ, ◌≤◌}
use native.Mathlib.Omega.{arith}
use lib.ListN.{length}
use Rattle.formats.specs.declared.Stamp.{Stamp}
use Rattle.formats.specs.Formats.{packed}
use Rattle.format_field.specs.Reading.{format_field}
use Rattle.format_field.proofs.Laws.{format-ends, format-fault, format-firm, blank, blank_format, format-blank, format-rest}
use Rattle.pointing.proofs.Pieces.{Sits, Last}

format-sits : (st : Stamp) (s : List ℕ) (at : ℕ) → at ≤ length s → Sits s at (format_field st s at)
format-sits st s at h = go (format_field st s at) refl
  where
    go : (x : Result (ℕ × ℕ) ℕ) → format_field st s at ≡ x → Sits s at x
    go (Ok (v, e)) q = let z = format-ends st s at h v e q in (z.0, omega arith)
    go (Err p) q = format-fault st s at h p q

-- what is asked of a field that runs to the end of its line holds of a format
pub format-last : (st : Stamp) → Last (format_field st) (blank st)
format-last st =
    record {
      piece = record { sits = format-sits st; firm = λ s m at h k. format-firm st s at h m k };
      value = packed (blank_format st);
      empty = format-blank st;
      rest = λ s at h k. let r = format-rest st s at h k in record { tail = r.tail; value = r.value; whole = r.whole };
    }
