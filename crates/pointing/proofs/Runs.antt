-- Runs, bytes and words of a line to which more is added: what lies before its end stays.
use mathlib.Core.Path.{◌≡◌, ◌∙◌, refl, sym, ap}
use mathlib.Core.Bool.{Bool, true, false, cond}
use mathlib.Core.List.{List, [], ◌∷◌, ◌++◌}
use Prim.Native.Nat.{ℕ, suc, ◌+◌, ◌≤◌, ◌<◌}
use native.Mathlib.Omega.{arith}
use lib.ListN.{length, get_or, drop, length-append, length-drop, get_or-append}
use lib.Seq.{drop-append-le}
use Rattle.classes.specs.Bytes.{in_class, run, run_at}
use Rattle.classes.specs.declared.Class.{Class}
use Rattle.classes.proofs.Laws.{run_room}

-- ---- at the front

-- where the first byte is of another class there is no run
pub run_none : (k : Class) (l : List ℕ) → in_class k (get_or l 0 0) ≡ false → run k l ≡ 0
unfolding run
run_none k [] h = refl
run_none k (b ∷ l) h = rw h

run-over : (k : Class) (c : ℕ) (l m : List ℕ) → in_class k c ≡ false → run k (l ++ (c ∷ m)) ≡ run k l
unfolding run
run-over k c [] m h = rw h
run-over k c (b ∷ l) m h = rw (run-over k c l m h)

run-stays : (k : Class) (l m : List ℕ) → run k l < length l → run k (l ++ m) ≡ run k l
unfolding run
run-stays k [] m h = absurd (omega arith)
run-stays k (b ∷ l) m h = go (in_class k b) h (run-stays k l m)
  where
    go : (t : Bool) → cond t (suc (run k l)) 0 < suc (length l) → (run k l < length l → run k (l ++ m) ≡ run k l)
        → cond t (suc (run k (l ++ m))) 0 ≡ cond t (suc (run k l)) 0
    go true h r = ap suc (r (omega arith))
    go false h r = refl

run-grows : (k : Class) (l m : List ℕ) → run k l ≤ run k (l ++ m)
unfolding run
run-grows k [] m = omega arith
run-grows k (b ∷ l) m = go (in_class k b) (run-grows k l m)
  where
    go : (t : Bool) → run k l ≤ run k (l ++ m) → cond t (suc (run k l)) 0 ≤ cond t (suc (run k (l ++ m))) 0
    go true h = omega arith
    go false h = omega arith

-- ---- at a place of a line
module _ (k : Class) (s : List ℕ) (at : ℕ) (h : at ≤ length s) where
  -- a byte outside the class ends a run
  pub over : (c : ℕ) (m : List ℕ) → in_class k c ≡ false → run_at k (s ++ (c ∷ m)) at ≡ run_at k s at
  over c m e = rw (drop-append-le at s (c ∷ m) h) (run-over k c (drop at s) m e)

  -- a run that ends before the line does ends there
  pub stays : (m : List ℕ) → at + run_at k s at < length s → run_at k (s ++ m) at ≡ run_at k s at
  stays m l = rw (drop-append-le at s m h) (run-stays k (drop at s) m (rw length-drop (omega arith)))

  -- more bytes make no run shorter
  pub grows : (m : List ℕ) → run_at k s at ≤ run_at k (s ++ m) at
  grows m = rw (drop-append-le at s m h) (run-grows k (drop at s) m)

  -- a run ends within the line
  pub room : at + run_at k s at ≤ length s
  room = let r = run_room k s at in omega arith

-- ---- a byte within the line
module _ (s m : List ℕ) (i : ℕ) (h : i < length s) where
  -- it stays
  pub byte-kept : (b : ℕ) → get_or s i 0 ≡ b → get_or (s ++ m) i 0 ≡ b
  byte-kept b e = get_or-append s m 0 i h ∙ e

  -- and no other comes in its place
  pub byte-other : (b : ℕ) → (get_or s i 0 ≡ b → ⊥) → get_or (s ++ m) i 0 ≡ b → ⊥
  byte-other b f q = f (sym (get_or-append s m 0 i h) ∙ q)

-- a line with more is longer
pub longer : (s m : List ℕ) (n : ℕ) → n < length s → n < length (s ++ m)
longer s m n h = simp length-append (omega arith)
