-- Numbers in a line to which more is added.
use Rattle.std.specs.Prelude.{Ok, Err, Result}
use mathlib.Core.Path.{◌≡◌, ◌∙◌, refl}
use mathlib.Core.Bool.{Bool, true, false, cond, ◌&&◌}
use mathlib.Core.List.{List, [], ◌∷◌, ◌++◌}
use Prim.Native.Nat.{ℕ, ◌+◌, ◌≤◌, ◌<◌}
use Prim.Native.Char.{code}
use native.Mathlib.Omega.{arith}
use native.Mathlib.Decide.{dec_lt}
use lib.Dec.{leb}
use lib.ListN.{length, get_or, drop, length-drop}
use lib.Seq.{drop-append-le, drop-append_seam, take-append-le}
use borrow.Author.Tests.{leb-true, leb-false}
use Rattle.kinds.specs.Bytes.{between}
use Rattle.classes.specs.Bytes.{in_class, run, part, run_at}
use Rattle.classes.specs.declared.Class.TheVariants.{Digit}
use Rattle.fields.specs.Field.{stop_of}
use Rattle.numbers.specs.Number.{value_from, number_at}
use Rattle.numbers.proofs.Laws.{number-long}
use Rattle.pointing.proofs.Runs.{run_none, over, stays, grows, room}
use Rattle.pointing.proofs.Pieces.{Sits, Ended, nothing, comma, Piece, Full}

-- a number ends within the line, and so does its fault
pub number-sits : (s : List ℕ) (at : ℕ) → at ≤ length s → Sits s at (number_at s at)
unfolding number_at
number-sits s at h = go (leb 1 (run_at Digit s at)) (leb (run_at Digit s at) 9) refl
  where
    go : (a b : Bool) → leb 1 (run_at Digit s at) ≡ a
        → Sits s at (cond (a && b) (Ok (value_from 0 (part s at (run_at Digit s at)), at + run_at Digit s at)) (Err at))
    go true true e = let l = leb-true 1 (run_at Digit s at) e in let r = room Digit s at h in (omega arith, omega arith)
    go true false e = (omega arith, h)
    go false b e = (omega arith, h)

-- as many digits, the same number
number_same : (s m : List ℕ) (at : ℕ) → at ≤ length s → run_at Digit (s ++ m) at ≡ run_at Digit s at → number_at (s ++ m) at ≡ number_at s at
unfolding number_at
number_same s m at h e =
    let r = room Digit s at h in
    let l : run_at Digit s at ≤ length (drop at s) = rw length-drop (omega arith) in
    rw (e, drop-append-le at s m h, take-append-le (run_at Digit s at) (drop at s) m l)

-- where a byte follows that is no digit the number stays
pub number-over : (c : ℕ) (s m : List ℕ) (at : ℕ) → in_class Digit c ≡ false → at ≤ length s → number_at (s ++ (c ∷ m)) at ≡ number_at s at
number-over c s m at e h = number_same s (c ∷ m) at h (over Digit s at h c m e)

-- a number that ends before the line does stays, and so does one of too many digits
pub number-firm : (s m : List ℕ) (at : ℕ) → at ≤ length s → stop_of (number_at s at) < length s → number_at (s ++ m) at ≡ number_at s at
unfolding number_at
number-firm s m at h k = go (dec_lt (at + run_at Digit s at) (length s))
  where
    near : (a b : Bool) → leb 1 (run_at Digit s at) ≡ a → leb (run_at Digit s at) 9 ≡ b → length s ≤ at + run_at Digit s at
        → stop_of (cond (a && b) (Ok (value_from 0 (part s at (run_at Digit s at)), at + run_at Digit s at)) (Err at)) < length s
        → number_at (s ++ m) at ≡ cond (a && b) (Ok (value_from 0 (part s at (run_at Digit s at)), at + run_at Digit s at)) (Err at)
    near true true p q l k = absurd (omega arith)
    near true false p q l k =
        let n = leb-false (run_at Digit s at) 9 q in
        let g = grows Digit s at h m in
        number-long (s ++ m) at (at + run_at Digit (s ++ m) at) refl (omega arith)
    near false b p q l k = let n = leb-false 1 (run_at Digit s at) p in absurd (omega arith)

    go : Dec (at + run_at Digit s at < length s) → number_at (s ++ m) at ≡ number_at s at
    go (yes l) = number_same s m at h (stays Digit s at h m l)
    go (no l) = near (leb 1 (run_at Digit s at)) (leb (run_at Digit s at) 9) refl refl (omega arith) k

-- where no number is its first byte is at fault
pub number-not : (s : List ℕ) (at p : ℕ) → number_at s at ≡ Err p → p ≡ at
unfolding number_at
number-not s at p h = go (leb 1 (run_at Digit s at) && leb (run_at Digit s at) 9) h
  where
    go : (t : Bool) → cond {A = Result (ℕ × ℕ) ℕ} t (Ok (value_from 0 (part s at (run_at Digit s at)), at + run_at Digit s at)) (Err at) ≡ Err p → p ≡ at
    go true k = absurd (let z : ◌≡◌ {A = ℕ} 0 1 = cc in omega arith)
    go false k = cc

-- a digit behind s, and no other
pub number-one : (s m : List ℕ) → in_class Digit (get_or m 0 0) ≡ false → number_at (s ++ (code "1" ∷ m)) (length s) ≡ Ok (1, length s + 1)
unfolding number_at run between value_from
number-one s m k = let n = run_none Digit m k in rw (drop-append_seam s (code "1" ∷ m), n)

-- what ends a field is no digit
pub ended-digit : (m : List ℕ) → Ended m → in_class Digit (get_or m 0 0) ≡ false
unfolding between
ended-digit m nothing = refl
ended-digit m (comma l) = refl

-- a comma is no digit
pub comma-digit : in_class Digit (code ",") ≡ false
unfolding between
comma-digit = refl

number-piece : Piece number_at
number-piece = record { sits = number-sits; firm = number-firm }

-- a number is a field that a comma ends
pub number-full : Full number_at
number-full =
    record {
      piece = number-piece;
      ends = λ s m at v h e. number-over (code ",") s m at comma-digit h ∙ e;
      blank = code "1" ∷ [];
      value = 1;
      empty = λ s m x. number-one s m (ended-digit m x);
      rest = λ s at l e. absurd (let p = number-not s at (length s) e in omega arith);
    }
