-- Laws on single fields, cited by the functions' proofs.
use Rattle.std.specs.Prelude.{Result, Ok, Err}
use mathlib.Core.Path.{◌≡◌, refl}
use Prim.Native.Char.{code}
use mathlib.Core.Bool.{Bool, true, false, cond, ◌&&◌, ◌||◌}
use mathlib.Core.List.{List}
use Prim.Native.Nat.{ℕ, ◌+◌, ◌-◌, ◌≤◌, ◌<◌}
use native.Mathlib.Omega.{arith}
use lib.Dec.{leb, ltb, eqb}
use lib.ListN.{length, get_or}
use borrow.Author.Tests.{le-leb, lt-leb, ltb-true, ne_eqb, eqb-true}
use Rattle.classes.specs.Bytes.{in_class, run_at}
use Rattle.classes.specs.declared.Class.{Class}
use Rattle.classes.specs.declared.Class.TheVariants.{Quoted}
use Rattle.classes.proofs.Laws.{inside, past}
use Rattle.fields.proofs.Pairs.{ok_first, ok_second}
use Rattle.fields.specs.Field.{text_at, text_fault, byte_at, letter_at, type_at, type_fault, is_place, place_behind, place_cut, word_ends, word_to, under_at}

pub text-open : (s : List ℕ) (at : ℕ) → (get_or s at 0 ≡ code "\"" → ⊥) → text_at s at ≡ Err at
unfolding text_at
text-open s at k = simp (ne_eqb (get_or s at 0) (code "\"") k)

module _ (s : List ℕ) (at e : ℕ) (h : e ≡ at + 1 + run_at Quoted s (at + 1)) where
  pub text-short : get_or s at 0 ≡ code "\"" → length s ≤ e → text_at s at ≡ Err (length s)
  unfolding text_at
  text-short o k = rw (← h, o, past s e k, le-leb (length s) e k)

  pub text-close : get_or s at 0 ≡ code "\"" → e < length s → (get_or s e 0 ≡ code "\"" → ⊥) → text_at s at ≡ Err at
  unfolding text_at
  text-close o l k = rw (← h, o) (simp (ne_eqb (get_or s e 0) (code "\"") k, lt-leb (length s) e l))

  pub text-is : get_or s at 0 ≡ code "\"" → get_or s e 0 ≡ code "\"" → text_at s at ≡ Ok (e - (at + 1), e + 1)
  unfolding text_at
  text-is k l =
      let n : run_at Quoted s (at + 1) ≡ e - (at + 1) = omega arith in
      rw (← h, k, l, n)

-- where a field ends: past its place, and within the line
abbrev pub Ends : List ℕ → ℕ → Result (ℕ × ℕ) ℕ → Type 0
Ends s at (Ok (v, e)) = (at < e) × (e ≤ length s)
Ends s at (Err p) = Unit {0}

pub text-ends : (s : List ℕ) (at n e : ℕ) → text_at s at ≡ Ok (n, e) → (e ≡ at + (n + 2)) × (at + (n + 2) ≤ length s)
unfolding text_at
text-ends s at n e h =
    go (eqb (get_or s at 0) (code "\"")) (eqb (get_or s (at + 1 + run_at Quoted s (at + 1)) 0) (code "\"")) refl h
  where
    m : ℕ
    m = run_at Quoted s (at + 1)

    go : (a b : Bool) → eqb (get_or s (at + 1 + run_at Quoted s (at + 1)) 0) (code "\"") ≡ b
        → cond {A = Result (ℕ × ℕ) ℕ} (a && b) (Ok (run_at Quoted s (at + 1), at + 1 + run_at Quoted s (at + 1) + 1)) (Err (text_fault s at)) ≡ Ok (n, e)
        → (e ≡ at + (n + 2)) × (at + (n + 2) ≤ length s)
    go true true q k =
        let i = inside s (at + 1 + run_at Quoted s (at + 1)) (omega (arith, eqb-true (get_or s (at + 1 + run_at Quoted s (at + 1)) 0) (code "\"") q)) in
        let a : run_at Quoted s (at + 1) ≡ n = ok_first k in
        let b : at + 1 + run_at Quoted s (at + 1) + 1 ≡ e = ok_second k in
        (omega arith, omega arith)
    go true false q k = let z : ◌≡◌ {A = ℕ} 0 1 = cc in absurd (omega arith)
    go false b q k = let z : ◌≡◌ {A = ℕ} 0 1 = cc in absurd (omega arith)

pub byte-ends : (b : ℕ) (s : List ℕ) (at : ℕ) → Ends s at (byte_at b s at)
unfolding byte_at
byte-ends b s at = go (ltb at (length s)) (eqb (get_or s at 0) b) refl
  where
    go : (x y : Bool) → ltb at (length s) ≡ x → Ends s at (cond (x && y) (Ok (b, at + 1)) (Err at))
    go true true e = let h = ltb-true at (length s) e in (omega arith, omega arith)
    go true false e = tt
    go false y e = tt

-- where the byte is not there, its place is at fault
pub byte_fault : (b : ℕ) (s : List ℕ) (at p : ℕ) → byte_at b s at ≡ Err p → p ≡ at
unfolding byte_at
byte_fault b s at p = go (ltb at (length s) && eqb (get_or s at 0) b)
  where
    go : (t : Bool) → ◌≡◌ {A = Result (ℕ × ℕ) ℕ} (cond t (Ok (b, at + 1)) (Err at)) (Err p) → p ≡ at
    go true e = absurd (let z : ◌≡◌ {A = ℕ} 0 1 = cc in omega arith)
    go false e = cc

-- a comma and a place: then the byte behind them decides
pub place_found : (s : List ℕ) (at a p c : ℕ) (b : Bool) → a ≡ get_or s (at + 1) 0 → a ≡ code "," → p ≡ get_or s (at + 2) 0 → b ≡ is_place p → b ≡ true → c ≡ get_or s (at + 3) 0
    → eqb c (code ",") ≡ place_behind s at
place_found s at a p c b ea ca ep eb tb ec = rw (← ea, ca, ← ep, ← eb, tb, ← ec)

-- ---- words

-- a word that a comma follows is read
pub word-comma : (s : List ℕ) (at v e : ℕ) → get_or s e 0 ≡ code "," → word_to s at v e ≡ Ok (v, e)
word-comma s at v e h = go (leb (length s) e)
  where
    go : (t : Bool) → cond {A = Result (ℕ × ℕ) ℕ} (t || eqb (get_or s e 0) (code ",")) (Ok (v, e)) (Err at) ≡ Ok (v, e)
    go true = refl
    go false = rw h

-- a word that is read goes to its end
pub word-found : (s : List ℕ) (at v e w d : ℕ) → word_to s at v e ≡ Ok (w, d) → ◌≡◌ {A = Result (ℕ × ℕ) ℕ} (Ok (v, e)) (Ok (w, d))
word-found s at v e w d h = go (word_ends s e) h
  where
    go : (t : Bool) → cond {A = Result (ℕ × ℕ) ℕ} t (Ok (v, e)) (Err at) ≡ Ok (w, d) → ◌≡◌ {A = Result (ℕ × ℕ) ℕ} (Ok (v, e)) (Ok (w, d))
    go true k = k
    go false k = absurd (let z : ◌≡◌ {A = ℕ} 0 1 = cc in omega arith)

module _ (s : List ℕ) (at v e : ℕ) where
  -- a word of one letter that is read is its letter
  pub letter-found : (k : Class) → letter_at k s at ≡ Ok (v, e) → cond {A = Result (ℕ × ℕ) ℕ} (ltb at (length s) && in_class k (get_or s at 0)) (Ok (get_or s at 0, at + 1)) (Err at) ≡ Ok (v, e)
  unfolding letter_at
  letter-found k h = go (ltb at (length s) && in_class k (get_or s at 0)) h
    where
      go : (t : Bool) → cond t (word_to s at (get_or s at 0) (at + 1)) (Err at) ≡ Ok (v, e) → cond {A = Result (ℕ × ℕ) ℕ} t (Ok (get_or s at 0, at + 1)) (Err at) ≡ Ok (v, e)
      go true h = word-found s at (get_or s at 0) (at + 1) v e h
      go false h = h

  -- a bar type that is read is one of the four words
  pub type-found : type_at s at ≡ Ok (v, e)
      → cond {A = Result (ℕ × ℕ) ℕ} (eqb (get_or s at 0) (code "1")) (Ok (1, at + 1))
      (cond (eqb (get_or s at 0) (code "2")) (Ok (2, at + 1))
      (cond (eqb (get_or s at 0) (code "3")) (Ok (3, at + 1))
      (cond (eqb (get_or s at 0) (code "E") && (eqb (get_or s (at + 1) 0) (code "3") && eqb (get_or s (at + 2) 0) (code "0"))) (Ok (30, at + 3))
      (Err at))))
      ≡ Ok (v, e)
  unfolding type_at
  type-found h =
      go (eqb (get_or s at 0) (code "1")) (eqb (get_or s at 0) (code "2")) (eqb (get_or s at 0) (code "3"))
      (eqb (get_or s at 0) (code "E") && (eqb (get_or s (at + 1) 0) (code "3") && eqb (get_or s (at + 2) 0) (code "0")))
      h
    where
      go : (a b c d : Bool)
          → cond a (word_to s at 1 (at + 1)) (cond b (word_to s at 2 (at + 1)) (cond c (word_to s at 3 (at + 1)) (cond d (word_to s at 30 (at + 3)) (Err (type_fault s at))))) ≡ Ok (v, e)
          → cond {A = Result (ℕ × ℕ) ℕ} a (Ok (1, at + 1)) (cond b (Ok (2, at + 1)) (cond c (Ok (3, at + 1)) (cond d (Ok (30, at + 3)) (Err at)))) ≡ Ok (v, e)
      go true b c d h = word-found s at 1 (at + 1) v e h
      go false true c d h = word-found s at 2 (at + 1) v e h
      go false false true d h = word-found s at 3 (at + 1) v e h
      go false false false true h = word-found s at 30 (at + 3) v e h
      go false false false false h = absurd (let z : ◌≡◌ {A = ℕ} 0 1 = cc in omega arith)

  -- what is read under bars is `N`, `B`, or `B` and a place between commas
  pub under-found : under_at s at ≡ Ok (v, e)
      → cond {A = Result (ℕ × ℕ) ℕ} (eqb (get_or s at 0) (code "N")) (Ok (code "N", at + 1))
      (cond (eqb (get_or s at 0) (code "B")) (cond (place_behind s at) (Ok (get_or s (at + 2) 0, at + 3)) (Ok (code "B", at + 1)))
      (Err at))
      ≡ Ok (v, e)
  unfolding under_at
  under-found h = go (eqb (get_or s at 0) (code "N")) (eqb (get_or s at 0) (code "B")) (place_behind s at) (place_cut s at) h
    where
      go : (a b c d : Bool)
          → cond a (word_to s at (code "N") (at + 1))
          (cond b (cond c (Ok (get_or s (at + 2) 0, at + 3)) (cond d (Err (length s)) (word_to s at (code "B") (at + 1)))) (Err at))
          ≡ Ok (v, e)
          → cond {A = Result (ℕ × ℕ) ℕ} a (Ok (code "N", at + 1)) (cond b (cond c (Ok (get_or s (at + 2) 0, at + 3)) (Ok (code "B", at + 1))) (Err at)) ≡ Ok (v, e)
      go true b c d h = word-found s at (code "N") (at + 1) v e h
      go false true true d h = h
      go false true false true h = absurd (let z : ◌≡◌ {A = ℕ} 0 1 = cc in omega arith)
      go false true false false h = word-found s at (code "B") (at + 1) v e h
      go false false c d h = h

-- the bar type `E30`, byte by byte
module _ (s : List ℕ) (at : ℕ) (h : get_or s at 0 ≡ code "E") (l : length s ≡ at + 1 → ⊥) (k : get_or s (at + 1) 0 ≡ code "3") where
  pub type-ean : get_or s (at + 2) 0 ≡ code "0" → type_at s at ≡ word_to s at 30 (at + 3)
  unfolding type_at
  type-ean m = rw (h, k, m)
