-- The laws of runs: one byte of the file more, and a pass over the file.
-- Assumes nothing.
use mathlib.Core.Path.{◌≡◌, refl, sym, ap, ◌∙◌}
use mathlib.Core.Bool.{Bool, true, false, not, cond, ◌&&◌}
use mathlib.Core.List.{List, [], ◌∷◌, ◌++◌}
use Prim.Native.Nat.{ℕ, ◌+◌, ◌-◌, ◌*◌, ◌%◌, ◌≤◌, ◌<◌}
use native.Mathlib.Numerals.{add-one}
use native.Mathlib.Omega.{arith}
use lib.ListN.{length, get_or, drop, replicate, length-append, length-replicate, drop_of_length-le, get_or-replicate, get_or-append}
use lib.Seq.{drop-cons, get_or-append-add}
use native.Mathlib.Decide.{dec_lt}
use borrow.Author.Tests.{lt-ltb, le-ltb}
use lib.Dec.{ltb, eqb}
use Rattle.pcx.specs.Rules.{times, next, given, empty_run, no_empty_run, waiting, filled, covering, line_byte, line_bytes, body}

-- ---- bounds
cond-le : (t : Bool) (a b m : ℕ) → a ≤ m → b ≤ m → cond t a b ≤ m
cond-le true a b m h k = h
cond-le false a b m h k = k

pub times-le : (n b : ℕ) → n ≤ 63 → times n b ≤ 63
unfolding times
times-le n b h = cond-le (eqb n 0) _ n 63 (cond-le (ltb b 192) 1 0 63 (omega arith) (omega arith)) h

pub next_le : (n b : ℕ) → next n b ≤ 63
unfolding next
next_le n b = cond-le (eqb n 0) _ 0 63 (cond-le (ltb b 192) 0 (b % 64) 63 (omega arith) (omega arith)) (omega arith)

-- ---- one byte more
module _ (s : List ℕ) (i n : ℕ) (h : i < length s) where
  pub given-step : given n (drop i s) ≡ replicate (times n (get_or s i 0)) (get_or s i 0) ++ given (next n (get_or s i 0)) (drop (i + 1) s)
  unfolding given
  given-step = rw (drop-cons s i 0 h, add-one)

  pub empty-step : no_empty_run n (drop i s) ≡ (not (empty_run n (get_or s i 0)) && no_empty_run (next n (get_or s i 0)) (drop (i + 1) s))
  unfolding no_empty_run
  empty-step = rw (drop-cons s i 0 h, add-one)

  pub waiting-step : waiting n (drop i s) ≡ waiting (next n (get_or s i 0)) (drop (i + 1) s)
  unfolding waiting
  waiting-step = rw (drop-cons s i 0 h, add-one)

  pub length-step : length (given n (drop i s)) ≡ times n (get_or s i 0) + length (given (next n (get_or s i 0)) (drop (i + 1) s))
  length-step = ap length given-step ∙ length-append (replicate (times n (get_or s i 0)) (get_or s i 0)) _
      ∙ ap (λ (k : ℕ). k + length (given (next n (get_or s i 0)) (drop (i + 1) s))) (length-replicate (times n (get_or s i 0)) (get_or s i 0))

-- ---- a pass: what is to come, from byte i on, is what was to come from byte 128 on, and count bytes are given so far
pub record Passing (s : List ℕ) (i n count : ℕ) : Type 0 where
  pub empties : no_empty_run n (drop i s) ≡ no_empty_run 0 (drop 128 s)
  pub waits : waiting n (drop i s) ≡ waiting 0 (drop 128 s)
  pub counts : count + length (given n (drop i s)) ≡ length (given 0 (drop 128 s))
  pub run : n ≤ 63
  pub small : count ≤ i * 64

pub passing-start : (s : List ℕ) → Passing s 128 0 0
passing-start s = record { empties = refl; waits = refl; counts = omega arith; run = omega arith; small = omega arith }

pub passing_step : (s : List ℕ) (i n count t m : ℕ) → i < length s → Passing s i n count → empty_run n (get_or s i 0) ≡ false
    → t ≡ times n (get_or s i 0) → m ≡ next n (get_or s i 0) → Passing s (i + 1) m (count + t)
passing_step s i n count t m h p e d f =
    let b = get_or s i 0 in
    rw (d, f)
    (record {
      empties = sym (empty-step s i n h ∙ rw e) ∙ p.empties;
      waits = sym (waiting-step s i n h) ∙ p.waits;
      counts = omega (arith, length-step s i n h, p.counts);
      run = next_le n b;
      small = omega (arith, times-le n b p.run, p.small);
    })

pub passing-stop : (s : List ℕ) (i n count total : ℕ) → i < length s → Passing s i n count → empty_run n (get_or s i 0) ≡ true
    → false ≡ filled (drop 128 s) total
unfolding filled
passing-stop s i n count total h p e = rw (← p.empties, empty-step s i n h, e)

pub passing-done : (s : List ℕ) (i n count total : ℕ) → length s ≤ i → Passing s i n count
    → (eqb n 0 && eqb count total) ≡ filled (drop 128 s) total
unfolding filled given no_empty_run waiting
passing-done s i n count total h p =
    let e = drop_of_length-le s h in
    let a : no_empty_run 0 (drop 128 s) ≡ true = sym p.empties ∙ rw e in
    let b : n ≡ waiting 0 (drop 128 s) = sym (ap (waiting n) e) ∙ p.waits in
    let d : count ≡ length (given 0 (drop 128 s)) = omega (arith, p.counts, ap (λ (l : List ℕ). length (given n l)) e) in
    rw (a, ← b, ← d)

-- ---- what stands at a place of the decoded picture is what the run that covers it says
run-at : (t b k : ℕ) (g : List ℕ) → Dec (k < t) → get_or (replicate t b ++ g) k 0 ≡ cond (ltb k t) b (get_or g (k - t) 0)
run-at t b k g (yes h) =
    rw (lt-ltb k t h) (get_or-append (replicate t b) g 0 k (omega (arith, length-replicate t b)) ∙ get_or-replicate t k b 0 h)
run-at t b k g (no h) =
    let z : length (replicate t b) + (k - t) ≡ k = omega (arith, length-replicate t b) in
    rw (le-ltb k t (omega arith))
    (ap (λ (m : ℕ). get_or (replicate t b ++ g) m 0) (sym z) ∙ get_or-append-add (replicate t b) g (k - t) 0)

pub given-at : (n k : ℕ) (bytes : List ℕ) → get_or (given n bytes) k 0 ≡ covering n bytes k
unfolding given covering
given-at n k [] = refl
given-at n k (b ∷ bs) =
    run-at (times n b) b k (given (next n b) bs) (dec_lt k (times n b))
    ∙ ap (cond (ltb k (times n b)) b) (given-at (next n b) (k - times n b) bs)

pub line-byte : (bytes : List ℕ) (v k : ℕ) → line_byte bytes v k ≡ covering 0 (body bytes) (v * line_bytes bytes + k)
line-byte bytes v k = given-at 0 (v * line_bytes bytes + k) (body bytes)
