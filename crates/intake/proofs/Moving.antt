-- Bytes moved to the front of the list that holds them, one at a time: what is still to be moved is as it was.
use mathlib.Core.Path.{◌≡◌, refl, sym, ap, ◌∙◌}
use mathlib.Core.List.{List}
use Prim.Native.Nat.{ℕ, ◌+◌, ◌-◌, ◌≤◌, ◌<◌, min}
use native.Mathlib.Numerals.{add-one}
use native.Mathlib.Omega.{arith}
use lib.ListN.{length, get_or, set, take, drop, length-set, length-take, length-drop, drop_of_length-le}
use lib.Seq.{sets, drop-cons, drop-drop, drop-set-lt, get_or-drop, get_or-take}

-- the bytes from one place to another
abbrev pub part : List ℕ → ℕ → ℕ → List ℕ
part w start end = drop start (take end w)

pub part_length : (w : List ℕ) (start end m n : ℕ) → m ≡ min end (length w) → n ≡ m - start → n ≡ length (part w start end)
part_length w start end m n h k = omega (arith, length-drop start (take end w), length-take end w)

pub record Shifting (w₀ p w : List ℕ) (i : ℕ) : Type 0 where
  pub same : length w ≡ length w₀
  pub ahead : drop i w ≡ drop i w₀
  pub done : sets w i (drop i p) ≡ sets w₀ 0 p

pub shift-start : (w₀ p : List ℕ) → Shifting w₀ p w₀ 0
shift-start w₀ p = record { same = refl; ahead = refl; done = refl }

module _ (w₀ w : List ℕ) (start end i : ℕ) (k : Shifting w₀ (part w₀ start end) w i) where
  -- what stands ahead is what is to be moved
  pub byte-ahead : start + i < end → get_or w (start + i) 0 ≡ get_or (part w₀ start end) i 0
  byte-ahead h =
      let e : start + i ≡ i + start = omega arith in
      let a : get_or w (i + start) 0 ≡ get_or w₀ (i + start) 0
      = sym (get_or-drop i w start 0) ∙ ap (λ (l : List ℕ). get_or l start 0) k.ahead ∙ get_or-drop i w₀ start 0 in
      let b : get_or (part w₀ start end) i 0 ≡ get_or w₀ (start + i) 0 = get_or-drop start (take end w₀) i 0 ∙ get_or-take end w₀ (start + i) 0 h in
      rw (b, e) a

  pub shift-step : (b : ℕ) → i < length (part w₀ start end) → start + i < end → b ≡ get_or w (start + i) 0
      → Shifting w₀ (part w₀ start end) (set w i b) (i + 1)
  shift-step b h l e = record {
    same = length-set w i b ∙ k.same;
    ahead = drop-set-lt (i + 1) w i b (omega arith) ∙ sym (drop-drop 1 i w) ∙ ap (drop 1) k.ahead ∙ drop-drop 1 i w₀;
    done = rw (e, byte-ahead l, add-one) (sym (ap (sets w i) (drop-cons (part w₀ start end) i 0 h)) ∙ k.done);
  }

  pub shift-done : length (part w₀ start end) ≤ i → w ≡ sets w₀ 0 (part w₀ start end)
  shift-done h = sym (ap (sets w i) (drop_of_length-le (part w₀ start end) h)) ∙ k.done
