-- The front of the input: a line in it is short, and what follows it.
-- Assumes nothing.
use mathlib.Core.Path.{◌≡◌, refl, sym, ap, ◌∙◌, subst}
use mathlib.Core.Bool.{Bool, true, false, cond, ◌||◌, true≢false}
use mathlib.Core.List.{List}
use Prim.Native.Nat.{ℕ, ◌+◌, ◌-◌, ◌≤◌, ◌<◌}
use native.Mathlib.Omega.{arith}
use lib.ListN.{length, get_or, take, drop, length-take}
use lib.Seq.{drop-drop}
use lib.Dec.{eqb, ltb, leb}
use borrow.Author.Tests.{ltb-true, le-ltb}
use Rattle.classes.specs.Bytes.{run}
use Rattle.classes.specs.declared.Class.TheVariants.{Inside}
use Rattle.front.specs.declared.Front.{Front}
use Rattle.front.specs.declared.Front.TheVariants.{Short, Long as LongLine, Idle, Line}
use Rattle.front.specs.Front.{front_of, line_front, asked}
use Rattle.unread.specs.Front.{line_of, more_of, front_read, is_line, line_in}

pub line-is : (f : Front) → is_line f ≡ true → f ≡ Line (line_in f) (front_read f)
line-is Short e = absurd (true≢false (sym e))
line-is (LongLine k) e = absurd (true≢false (sym e))
line-is (Idle k) e = absurd (true≢false (sym e))
line-is (Line n k) e = refl

-- ---- "A line is up to 255 bytes"

line-front : (b c : Bool) (n k : ℕ) → n < 256 → line_in (cond b (Idle (n + 1)) (cond c (Line n k) Short)) < 256
line-front true c n k h = omega arith
line-front false true n k h = h
line-front false false n k h = omega arith

front_length : (s : List ℕ) (n : ℕ) → n < 256 → line_in (line_front s n) < 256
unfolding line_front
front_length s n h =
    line-front (eqb n 0 || eqb (get_or s 0 0) 59) (leb (n + 1 + asked (take n s)) (length s)) n (n + 1 + asked (take n s)) h

front-cases : (s : List ℕ) (a b c : Bool) (n k m : ℕ) → (b ≡ true → n < 256) → line_in (cond a (cond b (line_front s n) (LongLine k)) (cond c Short (LongLine m))) < 256
front-cases s true true c n k m h = front_length s n (h refl)
front-cases s true false c n k m h = omega arith
front-cases s false b true n k m h = omega arith
front-cases s false b false n k m h = omega arith

front-least : (s : List ℕ) → line_in (front_of s) < 256
unfolding front_of
front-least s =
    front-cases s (ltb (run Inside s) (length s)) (ltb (run Inside s) 256) (ltb (length s) 256) (run Inside s) (run Inside s + 1) (length s)
    (ltb-true (run Inside s) 256)

pub line-short : (s : List ℕ) (n k : ℕ) → front_of s ≡ Line n k → n < 256
line-short s n k e = subst (λ (f : Front). line_in f < 256) e (front-least s)

pub line-least : (s : List ℕ) (n : ℕ) → n < 256 → ltb 255 (length (line_of s n)) ≡ false
line-least s n h = let z : length (take n s) ≤ n = omega (arith, length-take n s) in le-ltb 255 (length (take n s)) (omega (arith, z, h))

-- ---- what follows a line and its LF

pub more-behind :
    (input behind more rest : List ℕ) (n k m j : ℕ) → behind ≡ drop n input → more ≡ drop 1 behind → m ≡ k - n → j ≡ m - 1 → rest ≡ take j more →
    rest ≡ more_of input n k
more-behind input behind more rest n k m j e f g h r =
    let p : more ≡ drop (n + 1) input = f ∙ ap (drop 1) e ∙ drop-drop 1 n input in
    let q : j ≡ k - (n + 1) = omega (arith, g, h) in
    r ∙ (λ i. take (q i) (p i))
