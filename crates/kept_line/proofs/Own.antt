-- Laws on a line that is its own normal form, and on any other.
use Rattle.std.proofs.Common.{Some, None, Err, Result, Ok}
use mathlib.Core.Path.{◌≡◌, ◌∙◌, refl, sym, ap}
use mathlib.Core.Bool.{true, false, and-false}
use mathlib.Core.List.{List, [], ◌∷◌}
use Prim.Native.Nat.{ℕ, ◌≤◌, ◌<◌}
use lib.ListN.{length, get_or, take}
use borrow.Author.Tests.{le-leb, lt-leb}
use Rattle.grammar.specs.Forms.{row_of}
use Rattle.heads.specs.Heads.{head_of, head_by, find, letters_fault}
use Rattle.row_fields.specs.Reading.{fields_from, Filled}
use Rattle.normal.specs.Commands.{read_of, headed, judged, within_limits}
use Rattle.normal.specs.FaultVariants.{Form as form}
use Rattle.grammar.proofs.Slots.{zeros}
use Rattle.normal.proofs.Rows.{judged-good}
use Rattle.writing.specs.Writing.{Wrote, equal}
use Rattle.normal.specs.Written.{written_from, written_of, head_written, normal}
use Rattle.kept_line.specs.Own.{is_own, own_read}
use Rattle.normal.proofs.Writes.{written-bad, written-good}
use Rattle.writing.proofs.Writes.{equal-written}

-- ---- what is no own line is refused

pub own-long : (s : List ℕ) → 255 < length s → Err (form 0) ≡ own_read s
unfolding own_read is_own
own-long s h = rw (lt-leb _ 255 h)

own-not : (s : List ℕ) → equal (normal s) s ≡ false → Err (form 0) ≡ own_read s
unfolding own_read is_own
own-not s h = rw (h, and-false)

own-empty : Err (form 0) ≡ own_read []
unfolding own_read is_own read_of headed head_of head_by find letters_fault head_written equal
own-empty = refl

own-none : (s : List ℕ) → normal s ≡ [] → Err (form 0) ≡ own_read s
unfolding equal
own-none [] h = own-empty
own-none (x ∷ xs) h = own-not (x ∷ xs) (ap (λ (l : List ℕ). equal l (x ∷ xs)) h)

pub own-unknown : (s : List ℕ) → head_of s ≡ None → Err (form 0) ≡ own_read s
unfolding head_written
own-unknown s h = own-none s (rw h)

own_is : (s : List ℕ) → length s ≤ 255 → equal (normal s) s ≡ true → read_of 1 s ≡ own_read s
unfolding own_read is_own
own_is s l h = rw (le-leb _ 255 l, h)

-- ---- a line of a row
module _ (s : List ℕ) (row : ℕ) (h : head_of s ≡ Some row) where
  normal-row : normal s ≡ written_of row s (fields_from (row_of row).fields s 0)
  unfolding head_written
  normal-row = rw h

  read-row : read_of 1 s ≡ judged row 1 s (fields_from (row_of row).fields s 0)
  unfolding read_of headed
  read-row = rw h

  pub own-bad : (r : Result Unit ℕ) (vs₀ ps₀ vs ps : List ℕ) (p : ℕ) → Filled (fields_from (row_of row).fields s 0) vs₀ ps₀ r vs ps → r ≡ Err p
      → Err (form 0) ≡ own_read s
  own-bad r vs₀ ps₀ vs ps p f e = own-none s (normal-row ∙ written-bad row s _ r vs₀ ps₀ vs ps p f e)

  -- its fields written into 256 bytes, and compared with it
  module _ (r : Result Unit ℕ) (vs ps : List ℕ) (f : Filled (fields_from (row_of row).fields s 0) zeros zeros r vs ps) (e : r ≡ Ok tt) (l : length s ≤ 255)
      (z o : List ℕ) (n : ℕ) (k : length z ≡ 256) (w : Wrote z 0 (written_from (row_of row).fields s vs ps) n o) where
    compared : equal (normal s) s ≡ equal (take n o) s
    compared =
        ap (λ (x : List ℕ). equal x s) (normal-row ∙ written-good row s r vs ps f e) ∙ sym (equal-written z _ o s n k w l)

    pub own_same : equal (take n o) s ≡ true → within_limits row 1 s vs ps ≡ own_read s
    own_same t = sym (judged-good row 1 s r vs ps f e) ∙ sym read-row ∙ own_is s l (compared ∙ t)

    pub own-other : equal (take n o) s ≡ false → Err (form 0) ≡ own_read s
    own-other t = own-not s (compared ∙ t)
