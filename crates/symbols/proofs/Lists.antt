-- Laws of `digits` and `each`: widths written side by side.
-- Assumes nothing.
use mathlib.Core.Path.{◌≡◌, refl, sym, ap, ◌∙◌}
use mathlib.Core.List.{List, [], ◌∷◌, ◌++◌}
use Prim.Native.Nat.{ℕ, zero, suc, ◌+◌, ◌-◌, ◌*◌, ◌/◌, ◌%◌, ◌≤◌, ◌<◌}
use native.Mathlib.Numerals.{add-one}
use native.Mathlib.Omega.{arith}
use lib.ListN.{length, get_or, set, take, drop, length-append, length-set, drop_of_length-le}
use lib.Seq.{sets, length-sets, sets-eq, drop-cons, take-append_seam}
use Rattle.ground.proofs.Stores.{sets-append, sets_last}
use Rattle.code128.specs.Widths.{digits, each}
use Rattle.symbols.specs.Laid.{Put}

-- ---- `digits`

pub length_digits : (n r : ℕ) → length (digits n r) ≡ n
unfolding digits
length_digits zero r = refl
length_digits (suc n) r = length-append (digits n (r / 10)) (r % 10 ∷ []) ∙ omega (arith, length_digits n (r / 10))

-- the last of the digits may be written first
pub sets-digit : (l : List ℕ) (at n r : ℕ) → sets (set l (at + n) (r % 10)) at (digits n (r / 10)) ≡ sets l at (digits (n + 1) r)
unfolding digits
sets-digit l at n r =
    ap (λ m. sets (set l (at + m) (r % 10)) at (digits n (r / 10))) (sym (length_digits n (r / 10)))
    ∙ sets_last l at (digits n (r / 10)) (r % 10)
    ∙ ap (λ m. sets l at (digits m r)) (sym (add-one n))

-- ---- `Put`, one after another

pub put-digits : (n row at : ℕ) (l m : List ℕ) (r : ℕ) → r ≡ at + n → m ≡ sets l at (digits n row) → Put (digits n row) at l m r
put-digits n row at l m r e f = record { next = omega (arith, length_digits n row); written = f }

pub put-more : (xs ys : List ℕ) (at : ℕ) (l m n : List ℕ) (q r : ℕ) → Put xs at l m q → Put ys q m n r → Put (xs ++ ys) at l n r
put-more xs ys at l m n q r p s =
    record {
      next = omega (arith, p.next, s.next, length-append xs ys);
      written = s.written ∙ ap (λ k. sets k q ys) p.written ∙ ap (λ k. sets (sets l at xs) k ys) p.next ∙ sym (sets-append l at xs ys);
    }

pub put_all : (ws : List ℕ) (at from : ℕ) (l m : List ℕ) (r : ℕ) → at ≡ from → r ≡ at + length ws → m ≡ sets l from ws → Put ws at l m r
put_all ws at from l m r e n f = record { next = n; written = f ∙ ap (λ k. sets l k ws) (sym e) }

-- what was put into a list long enough is the first part of it
pub written-front : (xs l m : List ℕ) (n : ℕ) → Put xs 0 l m n → length xs ≤ length l → take n m ≡ xs
written-front xs l m n p h =
    let s : sets l 0 xs ≡ [] ++ xs ++ drop (0 + length xs) l = sets-eq xs l 0 (omega arith) in
    let e : n ≡ length xs = omega (arith, p.next) in
    ap (λ k. take k m) e ∙ ap (take (length xs)) (p.written ∙ s) ∙ take-append_seam xs (drop (0 + length xs) l)

-- ---- `each`

pub each_more : (f : ℕ → List ℕ) (s : List ℕ) (i : ℕ) → i < length s → each f (drop i s) ≡ f (get_or s i 0) ++ each f (drop (i + 1) s)
unfolding each
each_more f s i h = rw (add-one, drop-cons s i 0 h)

pub each-end : (f : ℕ → List ℕ) (s : List ℕ) (i : ℕ) → length s ≤ i → each f (drop i s) ≡ []
unfolding each
each-end f s i h = rw (drop_of_length-le s h)

pub length-each : (f : ℕ → List ℕ) (m : ℕ) → ((b : ℕ) → length (f b) ≡ m) → (s : List ℕ) → length (each f s) ≡ m * length s
unfolding each
length-each f m h [] = omega arith
length-each f m h (b ∷ s) = length-append (f b) (each f s) ∙ ap (λ k. k + length (each f s)) (h b) ∙ ap (λ k. m + k) (length-each f m h s) ∙ omega arith

-- ---- the loop that writes digits from the last to the first

pub record Writing (l₀ : List ℕ) (at row n : ℕ) (l : List ℕ) (left rest : ℕ) : Type 0 where
  pub below : left ≤ n
  pub long : length l ≡ length l₀
  pub whole : sets l at (digits left rest) ≡ sets l₀ at (digits n row)

pub writing_step : (l₀ : List ℕ) (at row n : ℕ) (l l' : List ℕ) (left rest x : ℕ) → 0 < left → Writing l₀ at row n l left rest
    → x ≡ rest % 10 → l' ≡ set l (at + (left - 1)) x → Writing l₀ at row n l' (left - 1) (rest / 10)
writing_step l₀ at row n l l' left rest x h w e f =
    let back : left - 1 + 1 ≡ left = omega arith in
    record {
      below = omega (arith, w.below);
      long = ap length f ∙ length-set l (at + (left - 1)) x ∙ w.long;
      whole = ap (λ m. sets m at (digits (left - 1) (rest / 10))) (f ∙ ap (set l (at + (left - 1))) e)
          ∙ sets-digit l at (left - 1) rest ∙ ap (λ m. sets l at (digits m rest)) back ∙ w.whole;
    }

pub writing-done : (l₀ : List ℕ) (at row n : ℕ) (l : List ℕ) (left rest : ℕ) → left ≤ 0 → Writing l₀ at row n l left rest → l ≡ sets l₀ at (digits n row)
unfolding digits
writing-done l₀ at row n l left rest h w =
    let z : left ≡ 0 = omega arith in rw z at w.whole

-- ---- the loop that writes the rows of data, m widths each, from a place on

pub record Filling (f : ℕ → List ℕ) (m from : ℕ) (s l₀ : List ℕ) (l : List ℕ) (i : ℕ) : Type 0 where
  pub below : i ≤ length s
  pub long : length l ≡ length l₀
  pub whole : sets l (m * i + from) (each f (drop i s)) ≡ sets l₀ from (each f s)

pub filling-start : (f : ℕ → List ℕ) (m from : ℕ) (s l : List ℕ) → Filling f m from s l l 0
filling-start f m from s l = record { below = omega arith; long = refl; whole = ap (λ k. sets l k (each f s)) (omega arith) }

pub filling_step : (f : ℕ → List ℕ) (m from : ℕ) (s l₀ l l' : List ℕ) (i : ℕ) (ws : List ℕ) → length ws ≡ m → i < length s → Filling f m from s l₀ l i
    → ws ≡ f (get_or s i 0) → l' ≡ sets l (m * i + from) ws → Filling f m from s l₀ l' (i + 1)
filling_step f m from s l₀ l l' i ws n h w e p =
    let next : m * (i + 1) + from ≡ m * i + from + length ws = omega (arith, n) in
    record {
      below = omega arith;
      long = ap length (p) ∙ length-sets l (m * i + from) ws ∙ w.long;
      whole = ap (λ k. sets k (m * (i + 1) + from) (each f (drop (i + 1) s))) (p)
          ∙ ap (λ k. sets (sets l (m * i + from) ws) k (each f (drop (i + 1) s))) next
          ∙ sym (sets-append l (m * i + from) ws (each f (drop (i + 1) s)))
          ∙ ap (λ k. sets l (m * i + from) (k ++ each f (drop (i + 1) s))) e
          ∙ ap (sets l (m * i + from)) (sym (each_more f s i h)) ∙ w.whole;
    }

pub filling-done : (f : ℕ → List ℕ) (m from : ℕ) (s l₀ l : List ℕ) (i : ℕ) → length s ≤ i → Filling f m from s l₀ l i → l ≡ sets l₀ from (each f s)
filling-done f m from s l₀ l i h w = rw (each-end f s i h) at w.whole
