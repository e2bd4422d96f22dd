-- What every writing is: rows of the table, one of which is set B alone, and from which its data can be read back.
-- Assumes nothing.
use mathlib.Core.Path.{◌≡◌, refl, sym, ap, ◌∙◌}
use mathlib.Core.Bool.{true}
use mathlib.Core.List.{List, [], ◌∷◌, map}
use Prim.Native.Nat.{ℕ, ◌≤◌}
use Prim.Native.Char.{code}
use native.Mathlib.Omega.{arith}
use lib.ListN.{length, get_or, drop}
use lib.Dec.{ltb}
use borrow.Author.Tests.{lt-ltb}
use Rattle.ground.proofs.Tests.{and-true}
use Rattle.kinds.specs.Bytes.{is_digit, all_in}
use Rattle.kinds.proofs.Laws.{between-facts}
use Rattle.shortest.specs.declared.Set.{Set}
use Rattle.shortest.specs.declared.Set.TheVariants.{B}
use Rattle.shortest.specs.Writing.{printable, byte_of, pair_of, Writes, done, byte, pair, to_c, to_b, Writing, start_b, start_c, set_b_alone}
use Rattle.shortest.proofs.Digits.{digits}

-- data that can be written
abbrev pub Text : List ℕ → Type 0
Text s = all_in printable s ≡ true

pub printable-facts : (a : ℕ) → printable a ≡ true → (32 ≤ a) × (a ≤ 126)
printable-facts a h = between-facts (code " ") (code "~") a h

-- ---- every symbol is one of the table's 106 rows

byte-row : (a : ℕ) → printable a ≡ true → ltb (byte_of a) 106 ≡ true
byte-row a h = lt-ltb (byte_of a) 106 (omega (arith, printable-facts a h))

pair_row : (a b : ℕ) → is_digit a ≡ true → is_digit b ≡ true → ltb (pair_of a b) 106 ≡ true
pair_row a b h k = let d = digits a b (rw (h, k)) in lt-ltb (pair_of a b) 106 (omega arith)

writes-rows : {set : Set} {s v : List ℕ} → Writes set s v → all_in (λ x. ltb x 106) v ≡ true
writes-rows done = refl
writes-rows (byte {a = a} h w) = rw (byte-row a h) (writes-rows w)
writes-rows (pair {a = a} {b = b} h k w) = rw (pair_row a b h k) (writes-rows w)
writes-rows (to_c w) = writes-rows w
writes-rows (to_b w) = writes-rows w

pub writing-rows : {s v : List ℕ} → Writing s v → all_in (λ x. ltb x 106) v ≡ true
writing-rows (start_b w) = writes-rows w
writing-rows (start_c w) = writes-rows w

-- ---- "set B alone" is one

bytes-write : (s : List ℕ) → Text s → Writes B s (map byte_of s)
bytes-write [] t = done
bytes-write (a ∷ s) t = let k = and-true (printable a) (all_in printable s) t in byte k.0 (bytes-write s k.1)

pub set-b-writes : (s : List ℕ) → Text s → Writing s (set_b_alone s)
set-b-writes s t = start_b (bytes-write s t)

-- ---- data that are written alike are the same

heads : {x y : ℕ} {v u : List ℕ} → x ∷ v ≡ y ∷ u → x ≡ y
heads e = ap (λ l. get_or l 0 0) e

tails : {x y : ℕ} {v u : List ℕ} → x ∷ v ≡ y ∷ u → v ≡ u
tails e = ap (drop 1) e

more : {x : ℕ} {v : List ℕ} → [] ≡ x ∷ v → ⊥
more e = let n = ap length e in omega arith

byte-back : (a b : ℕ) → printable a ≡ true → printable b ≡ true → byte_of a ≡ byte_of b → a ≡ b
byte-back a b h k e = omega (arith, printable-facts a h, printable-facts b k)

byte-change : (a : ℕ) → printable a ≡ true → byte_of a ≡ 99 → ⊥
byte-change a h e = omega (arith, printable-facts a h)

pair-back : (a b c d : ℕ) → is_digit a ≡ true → is_digit b ≡ true → is_digit c ≡ true → is_digit d ≡ true → pair_of a b ≡ pair_of c d → (a ≡ c) × (b ≡ d)
pair-back a b c d h k l m e = let x = digits a b (rw (h, k)) in let y = digits c d (rw (l, m)) in (omega arith, omega arith)

pair-change : (a b : ℕ) → is_digit a ≡ true → is_digit b ≡ true → pair_of a b ≡ 100 → ⊥
pair-change a b h k e = let x = digits a b (rw (h, k)) in omega arith

writes-back : {set : Set} {s t v u : List ℕ} → Writes set s v → Writes set t u → v ≡ u → s ≡ t
writes-back done done e = refl
writes-back done (byte h w) e = absurd (more e)
writes-back done (pair h k w) e = absurd (more e)
writes-back done (to_c w) e = absurd (more e)
writes-back done (to_b w) e = absurd (more e)
writes-back (byte h w) done e = absurd (more (sym e))
writes-back (byte {a = a} {s = s} h w) (byte {a = b} k x) e = ap (λ c. c ∷ s) (byte-back a b h k (heads e)) ∙ ap (λ l. b ∷ l) (writes-back w x (tails e))
writes-back (byte {a = a} h w) (to_c x) e = absurd (byte-change a h (heads e))
writes-back (pair h k w) done e = absurd (more (sym e))
writes-back (pair {a = a} {b = b} {s = s} h k w) (pair {a = c} {b = d} l m x) e =
    let z = pair-back a b c d h k l m (heads e) in
    ap (λ i. i ∷ b ∷ s) z.0 ∙ ap (λ i. c ∷ i ∷ s) z.1 ∙ ap (λ i. c ∷ d ∷ i) (writes-back w x (tails e))
writes-back (pair {a = a} {b = b} h k w) (to_b x) e = absurd (pair-change a b h k (heads e))
writes-back (to_c w) done e = absurd (more (sym e))
writes-back (to_c w) (byte {a = a} h x) e = absurd (byte-change a h (sym (heads e)))
writes-back (to_c w) (to_c x) e = writes-back w x (tails e)
writes-back (to_b w) done e = absurd (more (sym e))
writes-back (to_b w) (pair {a = a} {b = b} h k x) e = absurd (pair-change a b h k (sym (heads e)))
writes-back (to_b w) (to_b x) e = writes-back w x (tails e)

pub writing-back : {s t v u : List ℕ} → Writing s v → Writing t u → v ≡ u → s ≡ t
writing-back (start_b w) (start_b x) e = writes-back w x (tails e)
writing-back (start_b w) (start_c x) e = absurd (let n = heads e in omega arith)
writing-back (start_c w) (start_b x) e = absurd (let n = heads e in omega arith)
writing-back (start_c w) (start_c x) e = writes-back w x (tails e)
