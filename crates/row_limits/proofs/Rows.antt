-- Laws on the limits of a row's fields, field by field.
use Rattle.std.proofs.Common.{Ok, Err}
use mathlib.Core.Path.{◌≡◌, ◌∙◌, refl, ap}
use mathlib.Core.Bool.{cond}
use mathlib.Core.List.{List, [], ◌∷◌}
use Prim.Native.Nat.{ℕ, ◌+◌, ◌≤◌, ◌<◌}
use native.Mathlib.Nat.{add-zero}
use native.Mathlib.Numerals.{add-one}
use lib.ListN.{length, get_or, drop, drop_of_length-le}
use lib.Seq.{drop-cons, drop-drop, get_or-drop}
use Rattle.grammar.specs.Forms.{free, is_number}
use Rattle.grammar.proofs.Slots.{Same, same_drop}
use Rattle.row_limits.specs.Limits.{field_limits, first_of, limits_from}

-- ---- the limits, field by field
module _ (fs : List ℕ) (ls : List (ℕ × ℕ)) (s : List ℕ) (u : ℕ) (vs ps : List ℕ) (i : ℕ) (h : i < length fs) where
  pub limits-more : field_limits (get_or fs i 32) (get_or ls i free) s u (get_or vs i 0) (get_or ps i 0) (get_or vs (i + 2) 0) ≡ Ok tt
      → limits_from (drop i fs) (drop i ls) s u (drop i vs) (drop i ps)
      ≡ limits_from (drop (i + 1) fs) (drop (i + 1) ls) s (cond (is_number (get_or fs i 32)) (get_or vs i 0) u) (drop (i + 1) vs) (drop (i + 1) ps)
  unfolding limits_from
  limits-more k =
      rw (drop-cons fs i 32 h, get_or-drop i ls 0 free, get_or-drop i vs 0 0, get_or-drop i vs 2 0, get_or-drop i ps 0 0, add-zero, k, drop-drop 1 i ls, drop-drop 1 i vs, drop-drop 1 i ps, add-one i)

  pub limits-out : (p : ℕ) → field_limits (get_or fs i 32) (get_or ls i free) s u (get_or vs i 0) (get_or ps i 0) (get_or vs (i + 2) 0) ≡ Err p
      → limits_from (drop i fs) (drop i ls) s u (drop i vs) (drop i ps) ≡ Err p
  unfolding limits_from
  limits-out p k = rw (drop-cons fs i 32 h, get_or-drop i ls 0 free, get_or-drop i vs 0 0, get_or-drop i vs 2 0, get_or-drop i ps 0 0, add-zero, k)

pub limits-done : (fs : List ℕ) (ls : List (ℕ × ℕ)) (s : List ℕ) (u : ℕ) (vs ps : List ℕ) (i : ℕ) → length fs ≤ i
    → limits_from (drop i fs) (drop i ls) s u (drop i vs) (drop i ps) ≡ Ok tt
unfolding limits_from
limits-done fs ls s u vs ps i h = rw (drop_of_length-le fs h)

-- slots that hold the same are judged the same
pub limits-same : (fs : List ℕ) (ls : List (ℕ × ℕ)) (s : List ℕ) (u : ℕ) (vs ws ps qs : List ℕ) → Same vs ws → Same ps qs
    → limits_from fs ls s u vs ps ≡ limits_from fs ls s u ws qs
unfolding limits_from
limits-same [] ls s u vs ws ps qs h k = refl
limits-same (f ∷ fs) ls s u vs ws ps qs h k =
    rw (h 0, h 2, k 0)
    (ap (first_of (field_limits f (get_or ls 0 free) s u (get_or ws 0 0) (get_or qs 0 0) (get_or ws 2 0)))
    (limits-same fs (drop 1 ls) s (cond (is_number f) (get_or ws 0 0) u) (drop 1 vs) (drop 1 ws) (drop 1 ps) (drop 1 qs) (same_drop vs ws h)
    (same_drop ps qs k)))
