-- Cells: what stands where, and what one that is stored over leaves. One law for every width.
use mathlib.Core.Path.{◌≡◌, sym, ◌∙◌}
use mathlib.Core.List.{List}
use mathlib.Core.Logic.{◌⊎◌, inl, inr, ⊎_elim}
use Prim.Native.Nat.{ℕ, ◌+◌, ◌*◌, ◌≤◌, ◌<◌}
use native.Mathlib.Omega.{arith}
use native.Mathlib.Nat.{mul-le-mul_right}
use native.Mathlib.Decide.{dec_le}
use lib.ListN.{length, get_or, set, drop, length-take, length-drop, length-set, length-replicate, get_or-replicate}
use lib.Seq.{get_or-take, get_or-drop, ext_get_or, get_or-set_other, drop-set-add, take-set-lt, length-sets}
use Rattle.cells.specs.Cell.{cell, zeros, set_cell}
use Rattle.cells.proofs.Sets.{sets_below, sets-above, sets-in}

pub length-zeros : (n : ℕ) → length (zeros n) ≡ n
unfolding zeros
length-zeros n = length-replicate n 0

pub get_or-zeros : (n i : ℕ) → i < n → get_or (zeros n) i 0 ≡ 0
unfolding zeros
get_or-zeros n i h = get_or-replicate n i 0 0 h

-- ---- cells, element by element

-- the cell after q ends at or before n cells do
pub cell-fits : (w q n : ℕ) → q < n → q * w + w ≤ n * w
cell-fits w q n h = omega (arith, mul-le-mul_right w h)

-- two cells lie apart
pub apart : (w p q o : ℕ) → o < w → (q ≡ p → ⊥) → (q * w + o < p * w) ⊎ (p * w + w ≤ q * w + o)
apart w p q o b ne = elim (dec_le p q) [
  | yes k ↦ inr (omega (arith, cell-fits w p q (omega arith)))
  | no n ↦ inl (omega (arith, cell-fits w q p (omega arith)))
]

pub length-cell : (w : ℕ) (l : List ℕ) (q : ℕ) → q * w + w ≤ length l → length (cell w l q) ≡ w
unfolding cell
length-cell w l q h = simp (length-take, length-drop) (omega arith)

pub cell_at : (w : ℕ) (l : List ℕ) (q o : ℕ) → o < w → get_or (cell w l q) o 0 ≡ get_or l (q * w + o) 0
unfolding cell
cell_at w l q o h = get_or-take w (drop (q * w) l) o 0 h ∙ get_or-drop (q * w) l o 0

pub cell-ext : (w : ℕ) (l l' : List ℕ) (q : ℕ) → length l' ≡ length l → q * w + w ≤ length l
    → ((o : ℕ) → o < w → get_or l' (q * w + o) 0 ≡ get_or l (q * w + o) 0) → cell w l' q ≡ cell w l q
cell-ext w l l' q e h f =
    let n' = length-cell w l' q (omega arith) in
    let n = length-cell w l q h in
    ext_get_or 0 (cell w l' q) (cell w l q) (n' ∙ sym n)
    (λ o b. cell_at w l' q o (omega arith) ∙ f o (omega arith) ∙ sym (cell_at w l q o (omega arith)))

-- a cell put over changes that cell alone
module _ (w : ℕ) (l : List ℕ) (p : ℕ) (m : List ℕ) (long : length m ≡ w) (fits : p * w + w ≤ length l) where
  pub length-set_cell : length (set_cell w l p m) ≡ length l
  length-set_cell = length-sets l (p * w) m

  pub set_cell-other : (q : ℕ) → q * w + w ≤ length l → (q ≡ p → ⊥) → cell w (set_cell w l p m) q ≡ cell w l q
  set_cell-other q h ne = cell-ext w l (set_cell w l p m) q length-set_cell h (λ o b. ⊎_elim
      (λ (k : q * w + o < p * w). sets_below l (p * w) m (q * w + o) k)
      (λ (k : p * w + w ≤ q * w + o). sets-above l (p * w) m (q * w + o) (omega arith))
      (apart w p q o b ne))

  pub set_cell-same : cell w (set_cell w l p m) p ≡ m
  set_cell-same =
      let n = length-cell w (set_cell w l p m) p (rw length-set_cell fits) in
      ext_get_or 0 (cell w (set_cell w l p m) p) m (n ∙ sym long)
      (λ o b. cell_at w (set_cell w l p m) p o (omega arith) ∙ sets-in l (p * w) m o (omega arith) (omega arith))

-- one element stored in a cell
module _ (w : ℕ) (l : List ℕ) (p o v : ℕ) (b : o < w) where
  pub cell-set-same : cell w (set l (p * w + o) v) p ≡ set (cell w l p) o v
  unfolding cell
  cell-set-same = rw (drop-set-add (p * w) l o v, take-set-lt w (drop (p * w) l) o v b)

  pub cell-set-other : (q : ℕ) → q * w + w ≤ length l → (q ≡ p → ⊥) → cell w (set l (p * w + o) v) q ≡ cell w l q
  cell-set-other q h ne = cell-ext w l (set l (p * w + o) v) q (length-set l (p * w + o) v) h (λ k c.
      get_or-set_other l (p * w + o) (q * w + k) v 0 (λ e. ⊎_elim (λ (s : q * w + k < p * w). omega arith) (λ (s : p * w + w ≤ q * w + k). omega arith) (apart w p q k c ne)))
