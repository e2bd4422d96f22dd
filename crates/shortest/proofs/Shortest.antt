-- Ours is a shortest writing of its data, and there is no second one; it is never longer than set B alone; and what is written reads back as its data alone.
-- Assumes nothing.
use mathlib.Core.Path.{◌≡◌, refl}
use mathlib.Core.Bool.{Bool, true, false, ◌&&◌}
use mathlib.Core.List.{List, [], ◌∷◌}
use Prim.Native.Nat.{ℕ, ◌≤◌, ◌<◌}
use native.Mathlib.Omega.{arith}
use lib.ListN.{length, get_or, drop}
use lib.Dec.{ltb}
use borrow.Author.Tests.{ltb-true, ltb-false}
use Rattle.ground.proofs.Tests.{and-true}
use Rattle.kinds.specs.declared.Kind.TheVariants.{Code128}
use Rattle.kinds.specs.Bytes.{all_in}
use Rattle.kinds.specs.Fit.{in_class, fit}
use Rattle.kinds.proofs.FitData.{fit_all}
use Rattle.shortest.specs.declared.Set.{Set}
use Rattle.shortest.specs.declared.Set.TheVariants.{B, C}
use Rattle.shortest.specs.Writing.{printable, byte_of, pair_of, Writes, done, byte, pair, to_c, to_b, Writing, start_b, start_c, NoLater, fewer, Shortest, set_b_alone}
use Rattle.shortest.specs.Found.{Best, two, step, best, in_set, started, our_writing}
use Rattle.shortest.proofs.Digits.{digits}
use Rattle.shortest.proofs.Order.{later-length, later-self, later-join, later-both, later_more, later-head}
use Rattle.shortest.proofs.Best.{Turn, changed, stayed, alone, turn, near}
use Rattle.shortest.proofs.Writings.{Text, printable-facts, writing-rows, set-b-writes, writing-back}
use Rattle.shortest.proofs.Ours.{ours-fit}

-- ---- the best writings are writings

-- two digits are a pair
pair-first : (a : ℕ) (s v : List ℕ) → two a (get_or s 0 0) ≡ true → Writes C (drop 1 s) v → Writes C (a ∷ s) (pair_of a (get_or s 0 0) ∷ v)
pair-first a [] v h w = absurd (let d = digits a 0 h in omega arith)
pair-first a (b ∷ s) v h w = let d = digits a b h in pair d.first d.second w

record Written (s : List ℕ) (r : Best) : Type 0 where
  in_b : Writes B s r.in_b
  in_c : Writes C s r.in_c
  later : Writes C (drop 1 s) r.later

written_step : (a : ℕ) (s : List ℕ) (r : Best) → printable a ≡ true → Written s r → Written (a ∷ s) (step a (get_or s 0 0) r)
unfolding step
written_step a s r t w = go (turn a (get_or s 0 0) r)
  where
    go : Turn a (get_or s 0 0) r → Written (a ∷ s) (step a (get_or s 0 0) r)
    go (changed d l e p q) = let x = pair-first a s r.later d w.later in record { in_b = rw p (to_c x); in_c = rw q x; later = w.in_c }
    go (stayed d l e p q) = record { in_b = rw p (byte t w.in_b); in_c = rw q (pair-first a s r.later d w.later); later = w.in_c }
    go (alone d e p q) = let x = byte t w.in_b in record { in_b = rw p x; in_c = rw q (to_b x); later = w.in_c }

written : (s : List ℕ) → Text s → Written s (best s)
unfolding best
written [] t = record { in_b = done; in_c = done; later = done }
written (a ∷ s) t = let k = and-true (printable a) (all_in printable s) t in written_step a s (best s) k.0 (written s k.1)

-- ---- no other symbol in front is better

byte-first : (a : ℕ) (s : List ℕ) → NoLater (best (a ∷ s)).in_b (byte_of a ∷ (best s).in_b)
unfolding best
byte-first a s = go (turn a (get_or s 0 0) (best s))
  where
    go : Turn a (get_or s 0 0) (best s) → NoLater (step a (get_or s 0 0) (best s)).in_b (byte_of a ∷ (best s).in_b)
    go (changed d l e p q) = rw p (fewer (omega arith))
    go (stayed d l e p q) = rw p (later-self _)
    go (alone d e p q) = rw p (later-self _)

pair-best : (a b : ℕ) (s : List ℕ) → two a b ≡ true → (best (a ∷ b ∷ s)).in_c ≡ pair_of a b ∷ (best s).in_c
unfolding best step
pair-best a b s h = rw h

to-c : (s : List ℕ) → Text s → NoLater (best s).in_b (99 ∷ (best s).in_c)
unfolding best
to-c [] t = fewer (omega arith)
to-c (a ∷ s) t = go (turn a (get_or s 0 0) (best s))
  where
    go : Turn a (get_or s 0 0) (best s) → NoLater (step a (get_or s 0 0) (best s)).in_b (99 ∷ (step a (get_or s 0 0) (best s)).in_c)
    go (changed d l e p q) = rw (p, q) (later-self _)
    go (stayed d l e p q) = rw (p, q) (later-head _ _ _ _ (let x = printable-facts a (and-true (printable a) (all_in printable s) t).0 in omega arith) (omega arith))
    go (alone d e p q) = rw (p, q) (fewer (omega arith))

to-b : (s : List ℕ) → NoLater (best s).in_c (100 ∷ (best s).in_b)
unfolding best
to-b [] = fewer (omega arith)
to-b (a ∷ s) = go (turn a (get_or s 0 0) (best s))
  where
    go : Turn a (get_or s 0 0) (best s) → NoLater (step a (get_or s 0 0) (best s)).in_c (100 ∷ (step a (get_or s 0 0) (best s)).in_b)
    go (changed d l e p q) = rw (p, q) (fewer (omega arith))
    go (stayed d l e p q) =
        let x = digits a (get_or s 0 0) d in
        rw (p, q) (later-head _ _ _ _ (omega arith) (omega (arith, near s)))
    go (alone d e p q) = rw (p, q) (later-self _)

none_first : (set : Set) → NoLater (in_set set (best [])) []
unfolding best
none_first B = later-self []
none_first C = later-self []

best-first : {set : Set} {s u : List ℕ} → Text s → Writes set s u → NoLater (in_set set (best s)) u
best-first {set} t done = none_first set
best-first t (byte {a = a} {s = s} h w) = later-join (byte-first a s) (later_more _ (best-first (and-true (printable a) (all_in printable s) t).1 w))
best-first t (pair {a = a} {b = b} {s = s} h k w) =
    let u = (and-true (printable b) (all_in printable s) (and-true (printable a) (printable b && all_in printable s) t).1).1 in
    rw (pair-best a b s (rw (h, k))) (later_more _ (best-first u w))
best-first t (to_c {s = s} w) = later-join (to-c s t) (later_more _ (best-first t w))
best-first t (to_b {s = s} w) = later-join (to-b s) (later_more _ (best-first t w))

-- ---- the theorems

-- any bytes 32 to 126, however many
pub started-shortest : (s : List ℕ) → Text s → Shortest s (started (best s))
unfolding started
started-shortest s t = go (ltb (length (best s).in_c) (length (best s).in_b)) refl
  where
    first-c : length (best s).in_c < length (best s).in_b → (u : List ℕ) → Writing s u → NoLater (105 ∷ (best s).in_c) u
    first-c l _ (start_b w) = fewer (omega (arith, later-length (best-first t w)))
    first-c l _ (start_c w) = later_more 105 (best-first t w)

    first-b : length (best s).in_b ≤ length (best s).in_c → (u : List ℕ) → Writing s u → NoLater (104 ∷ (best s).in_b) u
    first-b l _ (start_b w) = later_more 104 (best-first t w)
    first-b l _ (start_c {v = v} w) = later-head 104 105 _ _ (omega arith) (omega (arith, later-length (best-first t w)))

    go : (x : Bool) → ltb (length (best s).in_c) (length (best s).in_b) ≡ x → Shortest s (started (best s))
    go true e = rw e (record { writes = start_c (written s t).in_c; first = first-c (ltb-true _ _ e) })
    go false e = rw e (record { writes = start_b (written s t).in_b; first = first-b (ltb-false _ _ e) })

fit-text : (s : List ℕ) → fit Code128 s ≡ true → Text s
unfolding in_class
fit-text s h = fit_all Code128 s h

-- "no other writing of the same data with these two sets has fewer symbols; among equals, the one whose first differing symbol value is smaller"
pub ours-shortest : (s : List ℕ) → fit Code128 s ≡ true → Shortest s (our_writing s)
ours-shortest s h = rw (ours-fit s h) (started-shortest s (fit-text s h))

-- there is one
pub shortest-one : (s v u : List ℕ) → Shortest s v → Shortest s u → v ≡ u
shortest-one s v u p q = later-both (p.first u q.writes) (q.first v p.writes)

pub shortest-ours : (s v : List ℕ) → fit Code128 s ≡ true → Shortest s v → v ≡ our_writing s
shortest-ours s v h p = shortest-one s v (our_writing s) p (ours-shortest s h)

-- "no other writing": paper 01's is one
pub never-longer : (s : List ℕ) → fit Code128 s ≡ true → length (our_writing s) ≤ length (set_b_alone s)
never-longer s h = later-length ((ours-shortest s h).first (set_b_alone s) (set-b-writes s (fit-text s h)))

pub ours-rows : (s : List ℕ) → fit Code128 s ≡ true → all_in (λ x. ltb x 106) (our_writing s) ≡ true
ours-rows s h = writing-rows (ours-shortest s h).writes

-- data that are written alike are the same
pub ours-back : (s t : List ℕ) → fit Code128 s ≡ true → fit Code128 t ≡ true → our_writing s ≡ our_writing t → s ≡ t
ours-back s t h k e = writing-back (ours-shortest s h).writes (ours-shortest t k).writes e
