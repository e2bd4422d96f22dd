-- Each field of a line, written: reading it gives its value back, and writing it again gives the same bytes.
use Rattle.std.specs.Prelude.{Ok, Err, Result}
use mathlib.Core.Path.{◌≡◌, ◌∙◌, refl, sym, ap}
use mathlib.Core.Bool.{Bool, true, false, cond, ◌&&◌, false≢true, and-false}
use mathlib.Core.List.{List, [], ◌∷◌, ◌++◌, append_assoc}
use Prim.Native.Nat.{ℕ, zero, suc, ◌+◌, ◌-◌, ◌*◌, ◌/◌, ◌%◌, ◌^◌, ◌≤◌, ◌<◌}
use Prim.Native.Char.{code}
use native.Mathlib.Numerals.{add-one}
use native.Mathlib.Omega.{arith}
use native.Mathlib.Decide.{dec_lt}
use lib.Dec.{T, leb, ltb, eqb}
use lib.ListN.{length, get_or, take, drop, length-append, length-take, length-drop}
use lib.Seq.{take-append_seam, drop-append_seam, get_or-append_seam, get_or-append-add, drop-append-add, drop-cons, take-suc, get_or-drop}
use borrow.Author.Tests.{lt-ltb, le-ltb, lt-leb, eq-eqb, eqb-true, ltb-true, leb-true}
use Rattle.kinds.specs.Bytes.{between}
use Rattle.classes.specs.declared.Class.{Class}
use Rattle.classes.specs.declared.Class.TheVariants.{Digit, Quoted, Named}
use Rattle.classes.specs.Bytes.{in_class, run, run_at}
use Rattle.writing.specs.Number.{digit_of, value_from, number_at, signed_at, behind_sign, plus, minus, nought, Small}
use Rattle.fields.specs.Field.{text_at, text_fault, letter_at, word_to, byte_at}
use Rattle.classes.proofs.Laws.{in-range, above-range, inside, and_T}
use Rattle.writing.proofs.Laws.{number_is, number_small, signed-found}
use Rattle.fields.proofs.Pairs.{ok_first, ok_second}
use Rattle.fields.proofs.Laws.{text-is, word-comma, letter-found}
use Rattle.formats.specs.declared.Format.{Format}
use Rattle.formats.specs.declared.Stamp.{Stamp}
use Rattle.formats.specs.Formats.{unit, new_unit}
use Rattle.read.specs.Reading.{width, field_of, cut_at, field_at, with_first, format_at, format_field}
use Rattle.read.proofs.Laws.{format_read}
use Rattle.parts.specs.Names.{capital}
use Rattle.writing.specs.Writing.{digit_byte, digits, decimal, signed, kept, cased}
use Rattle.writing.proofs.Writes.{digits-room, digits-less, cased-append}

-- ---- runs

-- every byte of a list is of a class
unfoldable pub all_in : Class → List ℕ → Bool
all_in k [] = true
all_in k (b ∷ bs) = in_class k b && all_in k bs

-- a run goes through such a list, and no further where the next byte is of another class
run-stops : (k : Class) (rest : List ℕ) → in_class k (get_or rest 0 0) ≡ false → run k rest ≡ 0
unfolding run
run-stops k [] e = refl
run-stops k (b ∷ bs) e = rw e

pub run-all : (k : Class) (xs rest : List ℕ) → T (all_in k xs) → in_class k (get_or rest 0 0) ≡ false → run k (xs ++ rest) ≡ length xs
unfolding run all_in
run-all k [] rest h e = run-stops k rest e
run-all k (x ∷ xs) rest h e = go (in_class k x) (and_T (in_class k x) (all_in k xs) h) (run-all k xs rest)
  where
    go : (t : Bool) → T t × T (all_in k xs) → (T (all_in k xs) → in_class k (get_or rest 0 0) ≡ false → run k (xs ++ rest) ≡ length xs)
        → cond t (suc (run k (xs ++ rest))) 0 ≡ suc (length xs)
    go true h r = ap suc (r h.1 e)
    go false h r = absurd h.0

-- what a run goes through is of its class
pub run_in : (k : Class) (l : List ℕ) → T (all_in k (take (run k l) l))
unfolding run all_in
run_in k [] = tt
run_in k (b ∷ bs) = go (in_class k b) refl (run_in k bs)
  where
    go : (t : Bool) → in_class k b ≡ t → T (all_in k (take (run k bs) bs)) → T (all_in k (take (cond t (suc (run k bs)) 0) (b ∷ bs)))
    go true e h = rw e h
    go false e h = tt

true-T : (b : Bool) → b ≡ true → T b
true-T true e = tt
true-T false e = absurd (false≢true e)

pub T_true : (b : Bool) → T b → b ≡ true
T_true true h = refl
T_true false h = absurd h

T_and : (a b : Bool) → T a → T b → T (a && b)
T_and true b h k = k
T_and false b h k = h

-- ---- numbers

digit-of : (n : ℕ) → n < 10 → digit_of (digit_byte n) ≡ n
digit-of n h = rw (in-range (code "0") (code "9") (digit_byte n) (omega arith) (omega arith)) (omega arith)

-- the value of a number's digits, their class and their count
digits_value : (f n : ℕ) (acc : List ℕ) → n < 10 ^ (f + 1) → value_from 0 (digits f n acc) ≡ value_from n acc
unfolding digits value_from
digits_value zero n acc h =
    let e : 0 * 10 + digit_of (digit_byte n) ≡ n = rw (digit-of n h) (omega arith) in
    ap (λ v. value_from v acc) e
digits_value (suc f) n acc h = go (dec_lt n 10) (digits_value f (n / 10) (digit_byte (n % 10) ∷ acc))
  where
    go : Dec (n < 10) → (n / 10 < 10 ^ (f + 1) → value_from 0 (digits f (n / 10) (digit_byte (n % 10) ∷ acc)) ≡ value_from (n / 10) (digit_byte (n % 10) ∷ acc))
        → value_from 0 (digits (suc f) n acc) ≡ value_from n acc
    go (yes k) r =
        let e : 0 * 10 + digit_of (digit_byte n) ≡ n = rw (digit-of n k) (omega arith) in
        rw (lt-ltb n 10 k) (ap (λ v. value_from v acc) e)
    go (no k) r =
        let l : n / 10 < 10 ^ (f + 1) = (let z = digits-less (suc f) n (omega arith) h in let q : suc f - 1 + 1 ≡ f + 1 = omega arith in rw q at z) in
        let e : n / 10 * 10 + digit_of (digit_byte (n % 10)) ≡ n = rw (digit-of (n % 10) (omega arith)) (omega arith) in
        rw (le-ltb n 10 (omega arith)) (r l ∙ ap (λ v. value_from v acc) e)

digit-class : (n : ℕ) → n < 10 → in_class Digit (digit_byte n) ≡ true
digit-class n h = in-range (code "0") (code "9") (digit_byte n) (omega arith) (omega arith)

pub digits-class : (f n : ℕ) (acc : List ℕ) → n < 10 ^ (f + 1) → T (all_in Digit acc) → T (all_in Digit (digits f n acc))
unfolding digits all_in
digits-class zero n acc h t = T_and (in_class Digit (digit_byte n)) (all_in Digit acc) (true-T (in_class Digit (digit_byte n)) (digit-class n h)) t
digits-class (suc f) n acc h t = go (dec_lt n 10) (digits-class f (n / 10) (digit_byte (n % 10) ∷ acc))
  where
    go : Dec (n < 10) → (n / 10 < 10 ^ (f + 1) → T (all_in Digit (digit_byte (n % 10) ∷ acc)) → T (all_in Digit (digits f (n / 10) (digit_byte (n % 10) ∷ acc))))
        → T (all_in Digit (digits (suc f) n acc))
    go (yes k) r = rw (lt-ltb n 10 k) (T_and (in_class Digit (digit_byte n)) (all_in Digit acc) (true-T (in_class Digit (digit_byte n)) (digit-class n k)) t)
    go (no k) r =
        let l : n / 10 < 10 ^ (f + 1) = (let z = digits-less (suc f) n (omega arith) h in let q : suc f - 1 + 1 ≡ f + 1 = omega arith in rw q at z) in
        rw (le-ltb n 10 (omega arith))
        (r l (T_and (in_class Digit (digit_byte (n % 10))) (all_in Digit acc) (true-T (in_class Digit (digit_byte (n % 10))) (digit-class (n % 10) (omega arith))) t))

pub digits-count : (f k n : ℕ) (acc : List ℕ) → n < 10 ^ (k + 1) → (0 < length (digits f n acc)) × (length (digits f n acc) ≤ k + 1 + length acc)
unfolding digits
digits-count zero k n acc h = (omega arith, omega arith)
digits-count (suc f) k n acc h = go (dec_lt n 10) (digits-count f (k - 1) (n / 10) (digit_byte (n % 10) ∷ acc))
  where
    go : Dec (n < 10)
        → (n / 10 < 10 ^ (k - 1 + 1) → (0 < length (digits f (n / 10) (digit_byte (n % 10) ∷ acc))) × (length (digits f (n / 10) (digit_byte (n % 10) ∷ acc)) ≤ k - 1 + 1 + suc (length acc)))
        → (0 < length (digits (suc f) n acc)) × (length (digits (suc f) n acc) ≤ k + 1 + length acc)
    go (yes l) r = rw (lt-ltb n 10 l) (omega arith, omega arith)
    go (no l) r =
        let p : 0 < k = digits-room k n h (omega arith) in
        let z = r (digits-less k n p h) in
        rw (le-ltb n 10 (omega arith)) (z.0, omega (arith, z.1))

-- ---- a field after pre, before rest
module _ (pre rest : List ℕ) where
  pub number-back : (v : ℕ) → v < 1000000000 → in_class Digit (get_or rest 0 0) ≡ false
      → number_at (pre ++ (decimal v ++ rest)) (length pre) ≡ Ok (v, length pre + length (decimal v))
  number-back v h e =
      let k = digits-count 19 8 v [] h in
      let s : List ℕ = pre ++ (decimal v ++ rest) in
      let n : run_at Digit s (length pre) ≡ length (decimal v) =
      rw (drop-append_seam pre (decimal v ++ rest)) (run-all Digit (decimal v) rest (digits-class 19 v [] (omega arith) (unfold all_in in tt)) e) in
      let m : length pre + length (decimal v) - length pre ≡ length (decimal v) = omega arith in
      number_is s (length pre) (length pre + length (decimal v)) (rw n) (omega arith) (omega arith)
      ∙ rw (m, drop-append_seam pre (decimal v ++ rest), take-append_seam (decimal v) rest, digits_value 19 v [] (omega arith)) (unfold value_from in refl)

  pub text-back : (t : List ℕ) → T (all_in Quoted t)
      → text_at (pre ++ (code "\"" ∷ (t ++ (code "\"" ∷ rest)))) (length pre) ≡ Ok (length t, length pre + 1 + length t + 1)
  text-back t h =
      let s : List ℕ = pre ++ (code "\"" ∷ (t ++ (code "\"" ∷ rest))) in
      let d : drop (length pre + 1) s ≡ t ++ (code "\"" ∷ rest) = drop-append-add pre (code "\"" ∷ (t ++ (code "\"" ∷ rest))) 1 in
      let n : run_at Quoted s (length pre + 1) ≡ length t = rw d (run-all Quoted t (code "\"" ∷ rest) h (unfold between in refl)) in
      let g : get_or s (length pre + 1 + length t) 0 ≡ code "\"" =
      (let q : length pre + 1 + length t ≡ length pre + suc (length t) = omega arith in
      rw (q, get_or-append-add pre (code "\"" ∷ (t ++ (code "\"" ∷ rest))) (suc (length t)) 0) (get_or-append_seam t (code "\"") rest 0)) in
      let m : length pre + 1 + length t - (length pre + 1) ≡ length t = omega arith in
      text-is s (length pre) (length pre + 1 + length t) (rw n) (get_or-append_seam pre (code "\"") (t ++ (code "\"" ∷ rest)) 0) g ∙ rw m

  pub byte-back : (b : ℕ) → byte_at b (pre ++ (b ∷ rest)) (length pre) ≡ Ok (b, length pre + 1)
  unfolding byte_at
  byte-back b =
      let l : length pre < length (pre ++ (b ∷ rest)) = simp length-append (omega arith) in
      rw (lt-ltb (length pre) (length (pre ++ (b ∷ rest))) l, get_or-append_seam pre b rest 0) (rw (eq-eqb b b refl))

  -- a word after pre is read where a comma follows it
  pub word_back : (b v : ℕ) → get_or rest 0 0 ≡ code "," → word_to (pre ++ (b ∷ rest)) (length pre) v (length pre + 1) ≡ Ok (v, length pre + 1)
  word_back b v c = word-comma (pre ++ (b ∷ rest)) (length pre) v (length pre + 1) (get_or-append-add pre (b ∷ rest) 1 0 ∙ c)

  pub letter-back : (k : Class) (b : ℕ) → in_class k b ≡ true → get_or rest 0 0 ≡ code "," → letter_at k (pre ++ (b ∷ rest)) (length pre) ≡ Ok (b, length pre + 1)
  unfolding letter_at
  letter-back k b e c =
      let l : length pre < length (pre ++ (b ∷ rest)) = simp length-append (omega arith) in
      rw (lt-ltb (length pre) (length (pre ++ (b ∷ rest))) l, get_or-append_seam pre b rest 0) (rw e (word_back b b c))

-- a number after one more byte
number-after : (pre rest : List ℕ) (b v : ℕ) → v < 1000000000 → in_class Digit (get_or rest 0 0) ≡ false
    → number_at (pre ++ (b ∷ (decimal v ++ rest))) (length pre + 1) ≡ Ok (v, length pre + 1 + length (decimal v))
number-after pre rest b v h e =
    let a : (pre ++ (b ∷ [])) ++ (decimal v ++ rest) ≡ pre ++ (b ∷ (decimal v ++ rest)) = append_assoc pre (b ∷ []) (decimal v ++ rest) in
    let l : length (pre ++ (b ∷ [])) ≡ length pre + 1 = simp length-append (omega arith) in
    rw (a, l) at (number-back (pre ++ (b ∷ [])) rest v h e)

pub signed_back : (pre rest : List ℕ) (v : ℕ) → 0 < v → v < 2000000000 → in_class Digit (get_or rest 0 0) ≡ false
    → signed_at (pre ++ (signed v ++ rest)) (length pre) ≡ Ok (v, length pre + length (signed v))
unfolding signed_at signed
signed_back pre rest v h k e = go (dec_lt v nought)
  where
    go : Dec (v < nought)
        → (let x : List ℕ = cond (ltb v nought) (code "-" ∷ decimal (nought - v)) (code "+" ∷ decimal (v - nought)) in
        let s : List ℕ = pre ++ (x ++ rest) in
        cond (eqb (get_or s (length pre) 0) (code "+")) (plus (behind_sign s (length pre) (number_at s (length pre + 1))))
        (cond (eqb (get_or s (length pre) 0) (code "-")) (minus (behind_sign s (length pre) (number_at s (length pre + 1))))
        (plus (number_at s (length pre))))
        ≡ Ok (v, length pre + length x))
    go (yes l) =
        let q : nought - (nought - v) ≡ v = omega arith in
        let r : length pre + 1 + length (decimal (nought - v)) ≡ length pre + suc (length (decimal (nought - v))) = omega arith in
        rw (lt-ltb v nought l, get_or-append_seam pre (code "-") (decimal (nought - v) ++ rest) 0, number-after pre rest (code "-") (nought - v) (omega arith) e, q, r)
    go (no l) =
        let q : nought + (v - nought) ≡ v = omega arith in
        let r : length pre + 1 + length (decimal (v - nought)) ≡ length pre + suc (length (decimal (v - nought))) = omega arith in
        rw (le-ltb v nought (omega arith), get_or-append_seam pre (code "+") (decimal (v - nought) ++ rest) 0, number-after pre rest (code "+") (v - nought) (omega arith) e, q, r)

-- ---- what was read, as it was written

-- the bytes that stay
pub kept_back : (pre x rest : List ℕ) → kept (pre ++ (x ++ rest)) (length pre) (length x) ≡ x
kept_back pre x rest = rw (drop-append_seam pre (x ++ rest), take-append_seam x rest)

-- a number read is small
pub number_fits : (s : List ℕ) (at v e : ℕ) → number_at s at ≡ Ok (v, e) → v < 1000000000
number_fits s at v e h = rw h at (number_small s at)

plus-fits : (f : Result (ℕ × ℕ) ℕ) (v e : ℕ) → Small f → plus f ≡ Ok (v, e) → (0 < v) × (v < 2000000000)
plus-fits (Ok (w, d)) v e k h = let q : nought + w ≡ v = ok_first h in (omega arith, omega arith)
plus-fits (Err p) v e k h = absurd (let z : ◌≡◌ {A = ℕ} 0 1 = cc in omega arith)

minus-fits : (f : Result (ℕ × ℕ) ℕ) (v e : ℕ) → Small f → minus f ≡ Ok (v, e) → (0 < v) × (v < 2000000000)
minus-fits (Ok (w, d)) v e k h = let q : nought - w ≡ v = ok_first h in (omega arith, omega arith)
minus-fits (Err p) v e k h = absurd (let z : ◌≡◌ {A = ℕ} 0 1 = cc in omega arith)

pub signed-fits : (s : List ℕ) (at v e : ℕ) → signed_at s at ≡ Ok (v, e) → (0 < v) × (v < 2000000000)
signed-fits s at v e h = go (eqb (get_or s at 0) (code "+")) (eqb (get_or s at 0) (code "-")) (signed-found s at v e h)
  where
    go : (a b : Bool)
        → cond a (plus (number_at s (at + 1))) (cond b (minus (number_at s (at + 1))) (plus (number_at s at))) ≡ Ok (v, e)
        → (0 < v) × (v < 2000000000)
    go true b k = plus-fits (number_at s (at + 1)) v e (number_small s (at + 1)) k
    go false true k = minus-fits (number_at s (at + 1)) v e (number_small s (at + 1)) k
    go false false k = plus-fits (number_at s at) v e (number_small s at) k

pub byte_fits : (b : ℕ) (s : List ℕ) (at v e : ℕ) → byte_at b s at ≡ Ok (v, e) → v ≡ b
unfolding byte_at
byte_fits b s at v e h = go (ltb at (length s) && eqb (get_or s at 0) b) h
  where
    go : (t : Bool) → cond {A = Result (ℕ × ℕ) ℕ} t (Ok (b, at + 1)) (Err at) ≡ Ok (v, e) → v ≡ b
    go true k = sym (ok_first k)
    go false k = absurd (let z : ◌≡◌ {A = ℕ} 0 1 = cc in omega arith)

-- a letter stays as it stands
pub letter-fits : (k : Class) (s : List ℕ) (at v e : ℕ) → letter_at k s at ≡ Ok (v, e) → (in_class k v ≡ true) × (kept s at 1 ≡ v ∷ [])
letter-fits k s at v e h = go (ltb at (length s)) (in_class k (get_or s at 0)) refl refl (letter-found s at v e k h)
  where
    go : (a b : Bool) → ltb at (length s) ≡ a → in_class k (get_or s at 0) ≡ b → cond {A = Result (ℕ × ℕ) ℕ} (a && b) (Ok (get_or s at 0, at + 1)) (Err at) ≡ Ok (v, e)
        → (in_class k v ≡ true) × (kept s at 1 ≡ v ∷ [])
    go true true p q r =
        let w : get_or s at 0 ≡ v = ok_first r in
        (rw (← w) q, rw (drop-cons s at 0 (ltb-true at (length s) p), w))
    go true false p q r = absurd (let z : ◌≡◌ {A = ℕ} 0 1 = cc in omega arith)
    go false b p q r = absurd (let z : ◌≡◌ {A = ℕ} 0 1 = cc in omega arith)

-- a quoted text is its bytes between two quotes
pub record Quotes (s : List ℕ) (at n e : ℕ) : Type 0 where
  pub text : List ℕ
  pub whole : kept s at (n + 2) ≡ code "\"" ∷ (text ++ (code "\"" ∷ []))
  pub inner : kept s (at + 1) n ≡ text
  pub count : length text ≡ n
  pub legal : T (all_in Quoted text)
  pub ends : e ≡ at + (n + 2)
  pub run_of : run_at Quoted s (at + 1) ≡ n
  pub closed : get_or s (at + 1 + n) 0 ≡ code "\""

pub text-fits : (s : List ℕ) (at n e : ℕ) → text_at s at ≡ Ok (n, e) → Quotes s at n e
unfolding text_at
text-fits s at n e h = go (eqb (get_or s at 0) (code "\"")) (eqb (get_or s (at + 1 + run_at Quoted s (at + 1)) 0) (code "\"")) refl refl h
  where
    go : (a b : Bool) → eqb (get_or s at 0) (code "\"") ≡ a → eqb (get_or s (at + 1 + run_at Quoted s (at + 1)) 0) (code "\"") ≡ b
        → cond {A = Result (ℕ × ℕ) ℕ} (a && b) (Ok (run_at Quoted s (at + 1), at + 1 + run_at Quoted s (at + 1) + 1)) (Err (text_fault s at)) ≡ Ok (n, e) → Quotes s at n e
    go true true p q r =
        let m : run_at Quoted s (at + 1) ≡ n = ok_first r in
        let d : at + 1 + run_at Quoted s (at + 1) + 1 ≡ e = ok_second r in
        let a : get_or s at 0 ≡ code "\"" = eqb-true (get_or s at 0) (code "\"") p in
        let z : get_or s (at + 1 + n) 0 ≡ code "\"" = rw m at (eqb-true (get_or s (at + 1 + run_at Quoted s (at + 1)) 0) (code "\"") q) in
        let i : at < length s = inside s at (omega arith) in
        let j : at + 1 + n < length s = inside s (at + 1 + n) (omega arith) in
        let x : List ℕ = drop (at + 1) s in
        let l : n < length x = (let k = length-drop (at + 1) s in omega arith) in
        let g : get_or x n 0 ≡ code "\"" = get_or-drop (at + 1) s n 0 ∙ z in
        let w : drop at s ≡ code "\"" ∷ x = drop-cons s at 0 i ∙ rw (a, add-one) in
        let t : n + 2 ≡ suc (suc n) = omega arith in
        record {
          text = take n x;
          whole = rw (w, t, take-suc x n 0 l, g);
          inner = refl;
          count = length-take n x ∙ omega arith;
          legal = rw m at (run_in Quoted x);
          ends = omega arith;
          run_of = m;
          closed = z;
        }
    go true false p q r = absurd (let z : ◌≡◌ {A = ℕ} 0 1 = cc in omega arith)
    go false b p q r = absurd (let z : ◌≡◌ {A = ℕ} 0 1 = cc in omega arith)

-- a format starts within the line, with the letters of a field
pub record Formatted (st : Stamp) (s : List ℕ) (at : ℕ) : Type 0 where
  pub within : at + width st ≤ length s
  pub letters : new_unit 0 0 (unit st (field_of st (get_or s at 0) (get_or s (at + 1) 0))) ≡ true

pub format-fits : (st : Stamp) (s : List ℕ) (at v e : ℕ) → format_field st s at ≡ Ok (v, e) → Formatted st s at
unfolding format_at field_at
format-fits st s at v e h =
    let r = format_read st s at v e h in
    go (leb (at + width st) (length s)) (new_unit 0 0 (unit st (field_of st (get_or s at 0) (get_or s (at + 1) 0)))) refl refl r.found r.reads
  where
    go : (a b : Bool) → leb (at + width st) (length s) ≡ a → new_unit 0 0 (unit st (field_of st (get_or s at 0) (get_or s (at + 1) 0))) ≡ b
        → (f : Format)
        → with_first st s (cond a (cond b (Ok (field_of st (get_or s at 0) (get_or s (at + 1) 0), at + width st)) (Err at)) (Err (cut_at s 0 0 at)))
        ≡ Ok f
        → Formatted st s at
    go true true p q f k = record { within = leb-true (at + width st) (length s) p; letters = q }
    go true false p q f k = absurd (let z : ◌≡◌ {A = ℕ} 0 1 = cc in omega arith)
    go false b p q f k = absurd (let z : ◌≡◌ {A = ℕ} 0 1 = cc in omega arith)

-- ---- capitals stay within the classes of a text and of a name

abbrev pub holds : (ℕ → Bool) → ℕ → ℕ → Bool
holds q lo zero = true
holds q lo (suc n) = q lo && holds q (suc lo) n

pub holds_at : (q : ℕ → Bool) (n lo b : ℕ) → T (holds q lo n) → lo ≤ b → b < lo + n → T (q b)
holds_at q zero lo b h k l = absurd (omega arith)
holds_at q (suc n) lo b h k l = go (dec_lt lo b) (holds_at q n (suc lo) b (and_T (q lo) (holds q (suc lo) n) h).1)
  where
    go : Dec (lo < b) → (suc lo ≤ b → b < suc lo + n → T (q b)) → T (q b)
    go (yes m) r = r (omega arith) (omega arith)
    go (no m) r = let e : lo ≡ b = omega arith in rw e at (and_T (q lo) (holds q (suc lo) n) h).0

-- a class keeps a byte that is made a capital
abbrev keeps : Class → ℕ → Bool
keeps k b = cond (in_class k b) (in_class k (capital b)) true

keeps-all : (k : Class) → T (holds (keeps k) 0 127) → (b : ℕ) → b < 127 → in_class k b ≡ true → in_class k (capital b) ≡ true
keeps-all k h b l e = T_true (in_class k (capital b)) (rw e at (holds_at (keeps k) 127 0 b h (omega arith) (omega arith)))

-- nothing past 126 is in a text
quoted-small : (b : ℕ) → in_class Quoted b ≡ true → b < 127
unfolding between
quoted-small b h = go (dec_lt b 127)
  where
    go : Dec (b < 127) → b < 127
    go (yes k) = k
    go (no k) = absurd (false≢true (sym (simp (lt-leb b 33 (omega arith), lt-leb b 126 (omega arith), and-false)) ∙ h))

named_small : (b : ℕ) → in_class Named b ≡ true → b < 127
unfolding between
named_small b h = go (dec_lt b 127)
  where
    go : Dec (b < 127) → b < 127
    go (yes k) = k
    go (no k) = absurd (false≢true (sym (simp (lt-leb b 33 (omega arith), lt-leb b 41 (omega arith), lt-leb b 126 (omega arith), and-false)) ∙ h))

cased-in : (k : Class) → T (holds (keeps k) 0 127) → ((b : ℕ) → in_class k b ≡ true → b < 127) → (t : Bool) (l : List ℕ) → T (all_in k l)
    → T (all_in k (cased t l))
unfolding cased all_in
cased-in k h small t [] p = tt
cased-in k h small t (b ∷ bs) p =
    let q = and_T (in_class k b) (all_in k bs) p in
    T_and (in_class k (cond t (capital b) b)) (all_in k (cased t bs)) (go t) (cased-in k h small t bs q.1)
  where
    go : (t : Bool) → T (in_class k (cond t (capital b) b))
    go true = true-T (in_class k (capital b)) (keeps-all k h b (small b (T_true (in_class k b) (and_T (in_class k b) (all_in k bs) p).0)) (T_true (in_class k b) (and_T (in_class k b) (all_in k bs) p).0))
    go false = (and_T (in_class k b) (all_in k bs) p).0

pub cased-quoted : (t : Bool) (l : List ℕ) → T (all_in Quoted l) → T (all_in Quoted (cased t l))
unfolding between capital
cased-quoted t l h = cased-in Quoted tt quoted-small t l h

pub cased-named : (t : Bool) (l : List ℕ) → T (all_in Named l) → T (all_in Named (cased t l))
unfolding between capital
cased-named t l h = cased-in Named tt named_small t l h

pub cased-length : (t : Bool) (l : List ℕ) → length (cased t l) ≡ length l
unfolding cased
cased-length t [] = refl
cased-length t (b ∷ bs) = ap suc (cased-length t bs)

same-twice : ℕ → Bool
same-twice b = eqb (capital (capital b)) (capital b)

capital-small : (b : ℕ) → b < 127 → capital (capital b) ≡ capital b
unfolding same-twice capital between
capital-small b h = eqb-true (capital (capital b)) (capital b) (T_true (same-twice b) (holds_at same-twice 127 0 b tt (omega arith) (omega arith)))

capital-capital : (b : ℕ) → capital (capital b) ≡ capital b
capital-capital b = go (dec_lt b 127)
  where
    big : (b : ℕ) → 127 ≤ b → capital b ≡ b
    big b h = unfold capital in rw (above-range 97 122 b (omega arith))

    go : Dec (b < 127) → capital (capital b) ≡ capital b
    go (yes k) = capital-small b k
    go (no k) = rw (big b (omega arith), big b (omega arith))

pub cased-twice : (t : Bool) (l : List ℕ) → cased t (cased t l) ≡ cased t l
unfolding cased
cased-twice t [] = refl
cased-twice t (b ∷ bs) = go t (cased-twice t bs)
  where
    go : (t : Bool) → cased t (cased t bs) ≡ cased t bs
        → cond t (capital (cond t (capital b) b)) (cond t (capital b) b) ∷ cased t (cased t bs) ≡ cond t (capital b) b ∷ cased t bs
    go true e = rw (capital-capital b, e)
    go false e = ap (λ (l : List ℕ). b ∷ l) e

-- a text in capitals or as it is, with its quotes
pub cased-quotes : (t : Bool) (l : List ℕ) → cased t (code "\"" ∷ (l ++ (code "\"" ∷ []))) ≡ code "\"" ∷ (cased t l ++ (code "\"" ∷ []))
unfolding cased capital between
cased-quotes true l = ap (λ (x : List ℕ). code "\"" ∷ x) (cased-append true l (code "\"" ∷ []))
cased-quotes false l = ap (λ (x : List ℕ). code "\"" ∷ x) (cased-append false l (code "\"" ∷ []))
