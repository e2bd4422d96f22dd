-- What the answer of reading a row's fields says of the judgement.
use Rattle.std.proofs.Common.{Err, Result, Ok}
use mathlib.Core.Path.{◌≡◌, ◌∙◌, refl, sym}
use mathlib.Core.List.{List}
use Prim.Native.Nat.{ℕ, ◌≤◌}
use native.Mathlib.Omega.{arith}
use lib.ListN.{length}
use Rattle.grammar.specs.declared.Command.{Command}
use Rattle.grammar.specs.Forms.{row_of, bounds_of}
use Rattle.grammar.proofs.Rows.{row-short}
use Rattle.grammar.proofs.Slots.{Same, zeros, padded, command-same}
use Rattle.row_fields.specs.Reading.{fields_from, Got, good, bad, Filled}
use Rattle.row_fields.proofs.Rows.{fields-count}
use Rattle.row_limits.proofs.Rows.{limits-same}
use Rattle.read.specs.Commands.{judged, within_limits}
use Rattle.read.specs.declared.Fault.{Fault}
use Rattle.read.specs.declared.Fault.TheVariants.{Form as form}

pub judged-bad : (row rows : ℕ) (s : List ℕ) (g : Got) (r : Result Unit ℕ) (vs₀ ps₀ vs ps : List ℕ) (p : ℕ) → Filled g vs₀ ps₀ r vs ps → r ≡ Err p
    → judged row rows s g ≡ Err (form p)
unfolding judged
judged-bad row rows s (bad ws qs q) r vs₀ ps₀ vs ps p h e = let a = h.0 in let z : q ≡ p = cc in rw z
judged-bad row rows s (good ws qs) r vs₀ ps₀ vs ps p h e = absurd (let z : ◌≡◌ {A = ℕ} 0 1 = cc in omega arith)

judged-fields : (row rows : ℕ) (s : List ℕ) (g : Got) (r : Result Unit ℕ) (vs ps : List ℕ) → fields_from (row_of row).fields s 0 ≡ g
    → Filled g zeros zeros r vs ps → r ≡ Ok tt
    → judged row rows s g ≡ within_limits row rows s vs ps
unfolding judged
judged-fields row rows s (bad ws qs q) r vs ps k h e = absurd (let a = h.0 in let z : ◌≡◌ {A = ℕ} 0 1 = cc in omega arith)
judged-fields row rows s (good ws qs) r vs ps k h e =
    let n = fields-count (row_of row).fields s 0 ws qs k in
    let l = row-short row in
    let a : Same vs ws = rw h.1 (padded ws (omega arith)) in
    let b : Same ps qs = rw h.2 (padded qs (omega arith)) in
    rw (limits-same (row_of row).fields (bounds_of row rows) s 0 vs ws ps qs a b, command-same row s vs ws ps qs a b)

pub judged-good : (row rows : ℕ) (s : List ℕ) (r : Result Unit ℕ) (vs ps : List ℕ)
    → Filled (fields_from (row_of row).fields s 0) zeros zeros r vs ps → r ≡ Ok tt
    → judged row rows s (fields_from (row_of row).fields s 0)
    ≡ within_limits row rows s vs ps
judged-good row rows s r vs ps h e = judged-fields row rows s (fields_from (row_of row).fields s 0) r vs ps refl h e

-- a refusal x that names the place where the fields were refused
pub judged-refused : (row rows : ℕ) (s : List ℕ) (r : Result Unit ℕ) (vs ps : List ℕ) (x : Result Command Fault)
    → Filled (fields_from (row_of row).fields s 0) zeros zeros r vs ps → (r ≡ Ok tt → ⊥) → ((p : ℕ) → r ≡ Err p → x ≡ Err (form p))
    → x ≡ judged row rows s (fields_from (row_of row).fields s 0)
judged-refused row rows s (Ok u) vs ps x h n k = absurd (n refl)
judged-refused row rows s (Err p) vs ps x h n k =
    k p refl ∙ sym (judged-bad row rows s (fields_from (row_of row).fields s 0) (Err p) zeros zeros vs ps p h refl)
