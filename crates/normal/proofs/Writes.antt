-- Laws on what is written of a row's fields.
use Rattle.std.specs.Prelude.{Ok, Err}
use mathlib.Core.Path.{◌≡◌, refl, sym, ap}
use mathlib.Core.List.{List, [], ◌∷◌, ◌++◌}
use Prim.Native.Nat.{ℕ, ◌+◌, ◌≤◌, ◌<◌}
use native.Mathlib.Nat.{add-zero}
use native.Mathlib.Numerals.{add-one}
use native.Mathlib.Omega.{arith}
use lib.ListN.{length, get_or, drop, length-drop, drop_of_length-le}
use lib.Seq.{take_all, drop-cons, drop-drop, get_or-drop}
use Rattle.elements.specs.Elements.{element_at, elements, after}
use Rattle.elements.specs.declared.Element.{Element}
use Rattle.elements.proofs.Steps.{elements-next, elements-stop}
use Rattle.row_fields.specs.Reading.{Got, good, bad, fields_from, Filled}
use Rattle.grammar.specs.Forms.{row_of}
use Rattle.grammar.proofs.Rows.{row-short}
use Rattle.grammar.proofs.Slots.{Same, same_drop, zeros, padded}
use Rattle.row_fields.proofs.Rows.{fields-count}
use Rattle.writing.specs.Writing.{kept}
use Rattle.normal.specs.Written.{written_field, written_from, written_of, element_written, data_written}
use Rattle.std.proofs.Common.{Result}

pub kept-all : (s : List ℕ) (p n : ℕ) → length s ≤ n → kept s p (n + 2) ≡ drop p s
kept-all s p n h = take_all (n + 2) (drop p s) (omega (arith, length-drop p s))

pub written_same : (fs s vs ws ps qs : List ℕ) → Same vs ws → Same ps qs → written_from fs s vs ps ≡ written_from fs s ws qs
unfolding written_from
written_same [] s vs ws ps qs h k = refl
written_same (f ∷ fs) s vs ws ps qs h k =
    rw (h 0, k 0)
    (ap (λ (l : List ℕ). written_field f s (get_or ws 0 0) (get_or qs 0 0) ++ l)
    (written_same fs s (drop 1 vs) (drop 1 ws) (drop 1 ps) (drop 1 qs) (same_drop vs ws h) (same_drop ps qs k)))

module _ (fs s vs ps : List ℕ) (i : ℕ) where
  pub written-more : i < length fs
      → written_from (drop i fs) s (drop i vs) (drop i ps)
      ≡ written_field (get_or fs i 32) s (get_or vs i 0) (get_or ps i 0) ++ written_from (drop (i + 1) fs) s (drop (i + 1) vs) (drop (i + 1) ps)
  unfolding written_from
  written-more h =
      rw (drop-cons fs i 32 h, get_or-drop i vs 0 0, get_or-drop i ps 0 0, add-zero, drop-drop 1 i vs, drop-drop 1 i ps, add-one i)

  pub written-done : length fs ≤ i → written_from (drop i fs) s (drop i vs) (drop i ps) ≡ []
  unfolding written_from
  written-done h = rw (drop_of_length-le fs h)

-- what reading a row's fields leaves in two arrays is written as what was read
pub written-bad : (row : ℕ) (s : List ℕ) (g : Got) (r : Result Unit ℕ) (vs₀ ps₀ vs ps : List ℕ) (p : ℕ) → Filled g vs₀ ps₀ r vs ps → r ≡ Err p
    → written_of row s g ≡ []
unfolding written_of
written-bad row s (bad ws qs q) r vs₀ ps₀ vs ps p h e = refl
written-bad row s (good ws qs) r vs₀ ps₀ vs ps p h e = absurd (let z : ◌≡◌ {A = ℕ} 0 1 = cc in omega arith)

written-fields : (row : ℕ) (s : List ℕ) (g : Got) (r : Result Unit ℕ) (vs ps : List ℕ) → fields_from (row_of row).fields s 0 ≡ g
    → Filled g zeros zeros r vs ps → r ≡ Ok tt → written_of row s g ≡ written_from (row_of row).fields s vs ps
unfolding written_of
written-fields row s (bad ws qs q) r vs ps k h e = absurd (let a = h.0 in let z : ◌≡◌ {A = ℕ} 0 1 = cc in omega arith)
written-fields row s (good ws qs) r vs ps k h e =
    let n = fields-count (row_of row).fields s 0 ws qs k in
    let l = row-short row in
    let a : Same vs ws = rw h.1 (padded ws (omega arith)) in
    let b : Same ps qs = rw h.2 (padded qs (omega arith)) in
    sym (written_same (row_of row).fields s vs ws ps qs a b)

pub written-good : (row : ℕ) (s : List ℕ) (r : Result Unit ℕ) (vs ps : List ℕ) → Filled (fields_from (row_of row).fields s 0) zeros zeros r vs ps → r ≡ Ok tt
    → written_of row s (fields_from (row_of row).fields s 0) ≡ written_from (row_of row).fields s vs ps
written-good row s r vs ps h e = written-fields row s (fields_from (row_of row).fields s 0) r vs ps refl h e

pub data-next : (s : List ℕ) (i : ℕ) (e : Element) → element_at s i ≡ Ok e
    → data_written s (elements s i) ≡ element_written s e ++ data_written s (elements s (after e))
unfolding data_written
data-next s i e h = rw (elements-next s i e h)

pub data-stop : (s : List ℕ) (i p : ℕ) → element_at s i ≡ Err p → data_written s (elements s i) ≡ []
unfolding data_written
data-stop s i p h = rw (elements-stop s i p h)
