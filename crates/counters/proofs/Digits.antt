-- No two numbers below 10^w have the same w digits.
use mathlib.Core.Path.{◌≡◌, refl, sym, ap, ◌∙◌}
use mathlib.Core.List.{List, ◌∷◌}
use Prim.Native.Nat.{ℕ, zero, suc, ◌+◌, ◌*◌, ◌/◌, ◌%◌, ◌^◌, ◌≤◌, ◌<◌}
use native.Mathlib.Nat.{one-le-pow, pow-zero, pow-suc, mod-lt, mod-one, mod-eq_of_lt, div-add-mod', add-mul-mod_self_right, mul-le-mul_right}
use native.Mathlib.Omega.{arith}
use Rattle.counters.specs.Counters.{digits}

mod-digit : (a p : ℕ) → 0 < p → a % (p * 10) ≡ a / p % 10 * p + a % p
mod-digit a p h = go (a / p / 10) (a / p % 10) (a % p) (mod-lt a h) (omega arith) whole
  where
    whole : a ≡ (a / p / 10 * 10 + a / p % 10) * p + a % p
    whole = let e : a / p / 10 * 10 + a / p % 10 ≡ a / p = omega arith in rw e (sym (div-add-mod' a p))

    go : (t u r : ℕ) → r < p → u ≤ 9 → a ≡ (t * 10 + u) * p + r → a % (p * 10) ≡ u * p + r
    go t u r k l e =
        let s : (t * 10 + u) * p + r ≡ u * p + r + t * (p * 10) = omega arith in
        let m : u * p ≤ 9 * p = mul-le-mul_right p l in
        ap (λ (x : ℕ). x % (p * 10)) (e ∙ s) ∙ (add-mul-mod_self_right (u * p + r) t (p * 10) ∙ mod-eq_of_lt (let b : u * p + r < p * 10 = omega arith in b))

same_first : (x y : ℕ) (s t : List ℕ) → (48 + x) ∷ s ≡ (48 + y) ∷ t → x ≡ y
same_first x y s t e = let h : 48 + x ≡ 48 + y = cc in omega arith

same_rest : (x y : ℕ) (s t : List ℕ) → x ∷ s ≡ y ∷ t → s ≡ t
same_rest x y s t e = cc

digits_mod : (w a b : ℕ) → digits w a ≡ digits w b → a % 10 ^ w ≡ b % 10 ^ w
unfolding digits
digits_mod zero a b e = rw (pow-zero, mod-one, mod-one)
digits_mod (suc w) a b e =
    let p = 10 ^ w in
    let h : 0 < p = one-le-pow w 10 (omega arith) in
    let first : a / p % 10 ≡ b / p % 10 = same_first (a / p % 10) (b / p % 10) (digits w a) (digits w b) e in
    let rest : a % p ≡ b % p = digits_mod w a b (same_rest (48 + a / p % 10) (48 + b / p % 10) (digits w a) (digits w b) e) in
    rw (pow-suc, mod-digit a p h, mod-digit b p h, first, rest)

-- below 10^w no two numbers have the same w digits
pub digits-one : (w a b : ℕ) → a < 10 ^ w → b < 10 ^ w → digits w a ≡ digits w b → a ≡ b
digits-one w a b h k e = sym (mod-eq_of_lt h) ∙ (digits_mod w a b e ∙ mod-eq_of_lt k)
