-- How many bytes a GM asks for, by what reading its fields leaves.
use Rattle.std.proofs.Common.{Result, Ok, Err}
use mathlib.Core.Path.{◌≡◌, refl}
use mathlib.Core.Bool.{cond}
use mathlib.Core.List.{List}
use Prim.Native.Nat.{ℕ, ◌≤◌}
use native.Mathlib.Omega.{arith}
use lib.ListN.{length, get_or}
use Rattle.kinds.specs.Bytes.{between}
use Rattle.grammar.specs.Named.{GM}
use Rattle.grammar.specs.Forms.{row_of, in_order}
use Rattle.grammar.proofs.Slots.{zeros, padded}
use Rattle.row_fields.specs.Reading.{fields_from, Got, good, bad, Filled}
use Rattle.row_fields.proofs.Rows.{fields-count}
use Rattle.front.specs.Front.{size_of}

pub size-bad : (g : Got) (r : Result Unit ℕ) (vs₀ ps₀ vs ps : List ℕ) (p : ℕ) → Filled g vs₀ ps₀ r vs ps → r ≡ Err p → size_of g ≡ 0
unfolding size_of
size-bad (bad ws qs q) r vs₀ ps₀ vs ps p h e = refl
size-bad (good ws qs) r vs₀ ps₀ vs ps p h e = absurd (let z : ◌≡◌ {A = ℕ} 0 1 = cc in omega arith)

size-fields : (s : List ℕ) (g : Got) (r : Result Unit ℕ) (vs ps : List ℕ) → fields_from (row_of GM).fields s 0 ≡ g → Filled g zeros zeros r vs ps → r ≡ Ok tt
    → size_of g ≡ cond (between 1 32768 (get_or vs 4 0)) (get_or vs 4 0) 0
unfolding size_of in_order
size-fields s (bad ws qs q) r vs ps k h e = absurd (let a = h.0 in let z : ◌≡◌ {A = ℕ} 0 1 = cc in omega arith)
size-fields s (good ws qs) r vs ps k h e =
    let n = fields-count (row_of GM).fields s 0 ws qs k in
    let a : get_or vs 4 0 ≡ get_or ws 4 0 = rw h.1 (padded ws (omega arith) 4) in
    rw a

pub size-good : (s : List ℕ) (r : Result Unit ℕ) (vs ps : List ℕ) → Filled (fields_from (row_of GM).fields s 0) zeros zeros r vs ps → r ≡ Ok tt
    → size_of (fields_from (row_of GM).fields s 0) ≡ cond (between 1 32768 (get_or vs 4 0)) (get_or vs 4 0) 0
size-good s r vs ps h e = size-fields s (fields_from (row_of GM).fields s 0) r vs ps refl h e
