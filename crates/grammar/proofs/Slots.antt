-- Laws on slots that hold the same.
use mathlib.Core.Path.{◌≡◌, ◌∙◌, refl, sym, ap}
use mathlib.Core.List.{List, [], ◌∷◌, ◌++◌}
use Prim.Native.Nat.{ℕ, zero, suc, ◌+◌, ◌≤◌}
use native.Mathlib.Omega.{arith}
use lib.ListN.{length, get_or, drop, replicate}
use lib.Seq.{get_or-drop, sets, sets-eq}
use Rattle.grammar.specs.Forms.{row_of, in_order, made, command_of}

-- ---- slots that hold the same

abbrev pub Same : List ℕ → List ℕ → Type 0
Same vs ws = (k : ℕ) → get_or vs k 0 ≡ get_or ws k 0

abbrev pub zeros : List ℕ
zeros = replicate 18 0

blank-at : (n k : ℕ) → ◌≡◌ {A = ℕ} (get_or (replicate n 0) k 0) 0
blank-at zero k = refl
blank-at (suc n) zero = refl
blank-at (suc n) (suc k) = blank-at n k

append-blank : (vs zs : List ℕ) → ((j : ℕ) → get_or zs j 0 ≡ 0) → Same (vs ++ zs) vs
append-blank [] zs h k = h k
append-blank (v ∷ vs) zs h zero = refl
append-blank (v ∷ vs) zs h (suc k) = append-blank vs zs h k

pub padded : (ws : List ℕ) → length ws ≤ 18 → Same (sets zeros 0 ws) ws
padded ws h k =
    ap (λ (l : List ℕ). get_or l k 0) (sets-eq ws zeros 0 (omega arith))
    ∙ append-blank ws (drop (0 + length ws) zeros) (λ j. get_or-drop (0 + length ws) zeros j 0 ∙ blank-at 18 (0 + length ws + j)) k

pub same_drop : (vs ws : List ℕ) → Same vs ws → Same (drop 1 vs) (drop 1 ws)
same_drop vs ws h k = get_or-drop 1 vs k 0 ∙ h (1 + k) ∙ sym (get_or-drop 1 ws k 0)

-- ---- what they make

order_same : (fs : List ℕ) (i : ℕ) (vs ws : List ℕ) → Same vs ws → in_order fs i vs ≡ in_order fs i ws
unfolding in_order
order_same [] i vs ws h = refl
order_same (f ∷ fs) i vs ws h = rw (h i, order_same fs (suc i) vs ws h)

pub command-same : (row : ℕ) (s vs ws ps qs : List ℕ) → Same vs ws → Same ps qs → command_of row s vs ps ≡ command_of row s ws qs
command-same row s vs ws ps qs h k =
    λ t. made row s (order_same (row_of row).fields 0 vs ws h t) (order_same (row_of row).fields 0 ps qs k t)
