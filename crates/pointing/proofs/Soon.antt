-- Paper 02, §2: a line points to its LF exactly where it ends too soon.
use Rattle.std.proofs.Common.{Option, Some, None, Err, Result, Ok}
use mathlib.Core.Path.{◌≡◌, ◌∙◌, refl, sym, ap}
use mathlib.Core.Logic.{◌↔◌}
use mathlib.Core.Bool.{Bool, true, false, false≢true}
use mathlib.Core.List.{List, [], ◌∷◌, ◌++◌}
use Prim.Native.Nat.{ℕ, ◌<◌}
use native.Mathlib.Omega.{arith}
use native.Mathlib.Decide.{dec_lt}
use lib.ListN.{length}
use Rattle.kinds.specs.Bytes.{between}
use Rattle.kinds.specs.Text.{bytes}
use Rattle.classes.specs.Bytes.{run}
use Rattle.numbers.specs.Number.{value_from, number_at}
use Rattle.fields.specs.Field.{byte_at}
use Rattle.reader.specs.Letters.{field_at}
use Rattle.grammar.specs.Forms.{row_of, bounds_of, command_of, spread, in_order}
use Rattle.grammar.specs.declared.Command.{Command}
use Rattle.heads.specs.Heads.{find, head_by, head_of, letters_fault}
use Rattle.row_fields.specs.Reading.{Got, good, bad, fields_from}
use Rattle.row_limits.specs.Limits.{limits_from, field_limits, meets}
use Rattle.read.specs.Commands.{decided, judged, headed, read_of}
use Rattle.read.specs.declared.Fault.TheVariants.{Form as form}
use Rattle.pointing.specs.Soon.{is_written, EndsTooSoon}
use Rattle.pointing.proofs.Points.{Good, Faulty, Points}
use Rattle.pointing.proofs.Rows.{row-pointing}
use Rattle.pointing.proofs.Heads.{is_slant, Settled, head-stays, letters-over, slant-line, One, begun, never, one_byte}

-- ---- the judgement of a row's fields

written-decided : (l : Result Unit ℕ) (c : Command) → is_written (decided l c) ≡ true
written-decided (Ok u) c = refl
written-decided (Err p) c = refl

module _ (row rows : ℕ) (s : List ℕ) where
  good-written : (g : Got) → Good g → is_written (judged row rows s g) ≡ true
  unfolding judged
  good-written (good vs ps) h = written-decided (limits_from (row_of row).fields (bounds_of row rows) s 0 vs ps) (command_of row s vs ps)
  good-written (bad vs ps q) h = absurd h

  faulty-unwritten : (p : ℕ) (g : Got) → Faulty g p → is_written (judged row rows s g) ≡ false
  unfolding judged
  faulty-unwritten p (good vs ps) h = absurd h
  faulty-unwritten p (bad vs ps q) h = refl

  judged-faulty : (p : ℕ) (g : Got) → judged row rows s g ≡ Err (form p) → Faulty g p
  unfolding judged
  judged-faulty p (bad vs ps q) h = cc
  judged-faulty p (good vs ps) h = absurd (false≢true (sym (ap is_written h) ∙ written-decided (limits_from (row_of row).fields (bounds_of row rows) s 0 vs ps) (command_of row s vs ps)))

-- ---- a line by its letters
module _ (rows : ℕ) (s : List ℕ) where
  -- no command's letters
  pub read-unknown : head_of s ≡ None → read_of rows s ≡ Err (form (letters_fault s))
  unfolding read_of headed
  read-unknown e = rw e

  -- the letters of a row
  pub read-row : (row : ℕ) → head_of s ≡ Some row → read_of rows s ≡ judged row rows s (fields_from (row_of row).fields s 0)
  unfolding read_of headed
  read-row row e = rw e

  unknown-unwritten : head_of s ≡ None → is_written (read_of rows s) ≡ true → ⊥
  unknown-unwritten e k = false≢true (sym (ap is_written (read-unknown e)) ∙ k)

-- the fault of a line whose letters are a command's
pub row-fault : (rows : ℕ) (s : List ℕ) (p row : ℕ) → read_of rows s ≡ Err (form p) → head_of s ≡ Some row → Faulty (fields_from (row_of row).fields s 0) p
row-fault rows s p row h e = judged-faulty row rows s p (fields_from (row_of row).fields s 0) (sym (read-row rows s row e) ∙ h)

-- the fault of a line whose letters are no command's
pub unknown-fault : (rows : ℕ) (s : List ℕ) (p : ℕ) → read_of rows s ≡ Err (form p) → head_of s ≡ None → p ≡ letters_fault s
unknown-fault rows s p h e = let z = read-unknown rows s e in cc

-- ---- two bytes and more, which decide the row
module _ (rows a b : ℕ) (l : List ℕ) (settled : Settled a b l) where
  abbrev line : List ℕ
  line = a ∷ (b ∷ l)

  long-soon : (p : ℕ) → read_of rows line ≡ Err (form p) → p ≡ length line → (x : Option ℕ) → head_of line ≡ x → EndsTooSoon rows line
  long-soon p h k None e = absurd (let z = unknown-fault rows line p h e in let y = letters-over a b l settled in omega arith)
  long-soon p h k (Some row) e =
      let P = (row-pointing row).points in
      let r = P.soon line 0 (omega arith) (rw (← k) (row-fault rows line p row h e)) in
      record {
        more = r.more;
        written = ap is_written (read-row rows (line ++ r.more) row (head-stays a b l r.more settled ∙ e))
            ∙ good-written row rows (line ++ r.more) (fields_from (row_of row).fields (line ++ r.more) 0) r.whole;
      }

  long-end : (p : ℕ) → read_of rows line ≡ Err (form p) → EndsTooSoon rows line → (x : Option ℕ) → head_of line ≡ x → p ≡ length line
  long-end p h k None e = absurd (unknown-unwritten rows (line ++ k.more) (head-stays a b l k.more settled ∙ e) k.written)
  long-end p h k (Some row) e = go (dec_lt p (length line))
    where
      P : Points (row_of row).fields (row-pointing row).filler
      P = (row-pointing row).points

      f : Faulty (fields_from (row_of row).fields line 0) p
      f = row-fault rows line p row h e

      go : Dec (p < length line) → p ≡ length line
      go (yes i) =
          absurd (false≢true (sym (ap is_written (read-row rows (line ++ k.more) row (head-stays a b l k.more settled ∙ e))
          ∙ faulty-unwritten row rows (line ++ k.more) p (fields_from (row_of row).fields (line ++ k.more) 0) (P.firm line k.more 0 p (omega arith) f i)) ∙ k.written))
      go (no i) = let z = P.within line 0 p (omega arith) f in omega arith

  pub settled-soon : (p : ℕ) → read_of rows line ≡ Err (form p) → (p ≡ length line) ↔ EndsTooSoon rows line
  settled-soon p h = (λ k. long-soon p h k (head_of line) refl, λ k. long-end p h k (head_of line) refl)

-- ---- LS: its numbers are missing, or a third letter

slant-read : (rows : ℕ) → read_of rows (bytes "LS") ≡ Err (form 2)
unfolding read_of headed judged head_of head_by find fields_from field_at byte_at number_at run between
slant-read rows = refl

slant-more : (rows : ℕ) → EndsTooSoon rows (bytes "LS")
unfolding read_of headed judged head_of head_by find fields_from field_at byte_at number_at run between value_from limits_from field_limits meets spread in_order
slant-more rows = record { more = bytes "0,0,1,0,0"; written = refl }

pair-soon : (rows a b p : ℕ) → read_of rows (a ∷ (b ∷ [])) ≡ Err (form p) → (p ≡ 2) ↔ EndsTooSoon rows (a ∷ (b ∷ []))
pair-soon rows a b p h = go (is_slant a b) refl
  where
    go : (t : Bool) → is_slant a b ≡ t → (p ≡ 2) ↔ EndsTooSoon rows (a ∷ (b ∷ []))
    go false e = settled-soon rows a b [] e p h
    go true e =
        let x = slant-line a b e in
        let z = slant-read rows in
        let r : read_of rows (bytes "LS") ≡ Err (form p) = rw x h in
        (λ k. rw (← x) (slant-more rows), λ k. cc)

-- ---- one byte, and none

one-soon : (rows a p : ℕ) → read_of rows (a ∷ []) ≡ Err (form p) → (p ≡ 1) ↔ EndsTooSoon rows (a ∷ [])
one-soon rows a p h = go (one_byte rows a)
  where
    go : One rows a → (p ≡ 1) ↔ EndsTooSoon rows (a ∷ [])
    go (begun x f) = (λ k. x, λ k. f p h)
    go (never z f) =
        let y = unknown-fault rows (a ∷ []) p h (f []) in
        (λ k. absurd (omega arith), λ k. absurd (unknown-unwritten rows (a ∷ k.more) (f k.more) k.written))

none_read : (rows : ℕ) → read_of rows [] ≡ Err (form 0)
unfolding read_of headed head_of head_by find letters_fault
none_read rows = refl

none-soon : (rows : ℕ) → EndsTooSoon rows []
unfolding read_of headed judged head_of head_by find fields_from field_at byte_at limits_from field_limits spread in_order
none-soon rows = record { more = bytes "N"; written = refl }

-- a line that has not the written form points to its LF exactly where some well-formed line starts with it
pub too-soon : (rows : ℕ) (s : List ℕ) (p : ℕ) → read_of rows s ≡ Err (form p) → (p ≡ length s) ↔ EndsTooSoon rows s
too-soon rows [] p h = (λ k. none-soon rows, λ k. let z = none_read rows in cc)
too-soon rows (a ∷ []) p h = one-soon rows a p h
too-soon rows (a ∷ (b ∷ [])) p h = pair-soon rows a b p h
too-soon rows (a ∷ (b ∷ (c ∷ l))) p h = settled-soon rows a b (c ∷ l) tt p h
