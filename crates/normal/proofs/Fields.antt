-- Each letter of the grammar: its field, written, reads back as it was, is written again the same, and stays within its limits.
use Rattle.std.specs.Prelude.{Ok, Err, Result}
use mathlib.Core.Path.{◌≡◌, ◌∙◌, refl, sym, ap}
use mathlib.Core.Bool.{Bool, true, false, cond, ◌&&◌, ◌||◌, false≢true}
use mathlib.Core.List.{List, [], ◌∷◌, ◌++◌, append_assoc, append-nil}
use Prim.Native.Nat.{ℕ, suc, ◌+◌, ◌-◌, ◌<◌}
use Prim.Native.Char.{code}
use native.Mathlib.Omega.{arith}
use native.Mathlib.Decide.{ℕ_discrete}
use lib.Dec.{T, ltb, eqb}
use lib.ListN.{length, get_or, take, drop, length-append}
use lib.Seq.{get_or-append_seam, get_or-append-add, drop-append_seam, drop-append-add, drop-cons, take-append_seam}
use borrow.Author.Tests.{eq-eqb, ne_eqb, eqb-true}
use Rattle.kinds.specs.Bytes.{between}
use Rattle.classes.specs.declared.Class.TheVariants.{Digit, Named, Mode, Side}
use Rattle.elements.specs.declared.What.TheVariants.{Text as Quote}
use Rattle.classes.specs.Bytes.{in_class, run_at}
use Rattle.fields.specs.Field.{text_at, type_at, byte_at, is_place, place_behind, place_cut, under_at}
use Rattle.elements.specs.Elements.{elements}
use Rattle.classes.proofs.Laws.{inside}
use Rattle.fields.proofs.Pairs.{ok_first, ok_second}
use Rattle.fields.proofs.Laws.{word-comma, type-found, under-found}
use Rattle.row_fields.specs.Letters.{field_at}
use Rattle.read.specs.Limits.{named, day_there, meets, field_limits}
use Rattle.grammar.specs.Makers.{starred}
use Rattle.formats.specs.declared.Stamp.{Stamp}
use Rattle.formats.specs.declared.Stamp.TheVariants.{Date, Time}
use Rattle.read.specs.Reading.{format_field}
use Rattle.read.proofs.Laws.{format-moved}
use Rattle.parts.specs.Names.{capital}
use Rattle.writing.specs.Writing.{kept, cased}
use Rattle.normal.specs.Written.{data_written, word_written, written_field}
use Rattle.normal.specs.Contents.{held}
use Rattle.writing.proofs.Writes.{cased_kept}
use Rattle.normal.proofs.Back.{all_in, run-all, run_in, number-back, text-back, byte-back, word_back, letter-back, signed_back, kept_back, number_fits, signed-fits, byte_fits, letter-fits, text-fits, format-fits, cased-quoted, cased-named, cased-length, cased-twice, cased-quotes}
use Rattle.normal.proofs.Data.{chain-of, data-inside, elements-back, data-back, data-again, limits-back, pieces-back}

-- a byte that stands for itself
pub record Plain (f : ℕ) : Type 0 where
  pub no-n : eqb f (code "n") ≡ false
  pub no-w : eqb f (code "w") ≡ false
  pub no-y : eqb f (code "y") ≡ false
  pub no-s : eqb f (code "s") ≡ false
  pub no-t : eqb f (code "t") ≡ false
  pub no-u : eqb f (code "u") ≡ false
  pub no-a : eqb f (code "a") ≡ false
  pub no-z : eqb f (code "z") ≡ false
  pub no-m : eqb f (code "m") ≡ false
  pub no-j : eqb f (code "j") ≡ false
  pub no-k : eqb f (code "k") ≡ false
  pub no-h : eqb f (code "h") ≡ false
  pub no-d : eqb f (code "d") ≡ false
  pub no-f : eqb f (code "f") ≡ false
  pub no-g : eqb f (code "g") ≡ false

pub data Letter : ℕ → Type 0 where
  a-number : Letter (code "n")
  a-wide : Letter (code "w")
  a-day : Letter (code "y")
  a-step : Letter (code "s")
  a-prompt : Letter (code "t")
  a-text : Letter (code "u")
  a-name : Letter (code "a")
  a-star : Letter (code "z")
  a-mode : Letter (code "m")
  a-side : Letter (code "j")
  a-type : Letter (code "k")
  a_word : Letter (code "h")
  some-data : Letter (code "d")
  a-date : Letter (code "f")
  a-time : Letter (code "g")
  itself : {f : ℕ} → Plain f → Letter f

pub letter-of : (f : ℕ) → Letter f
letter-of f =
    go (ℕ_discrete f (code "n")) (ℕ_discrete f (code "w")) (ℕ_discrete f (code "y")) (ℕ_discrete f (code "s")) (ℕ_discrete f (code "t")) (ℕ_discrete f (code "u")) (ℕ_discrete f (code "a"))
    (ℕ_discrete f (code "z"))
    (ℕ_discrete f (code "m"))
    (ℕ_discrete f (code "j"))
    (ℕ_discrete f (code "k"))
    (ℕ_discrete f (code "h"))
    (ℕ_discrete f (code "d"))
    (ℕ_discrete f (code "f"))
    (ℕ_discrete f (code "g"))
  where
    go : Dec (f ≡ code "n") → Dec (f ≡ code "w") → Dec (f ≡ code "y") → Dec (f ≡ code "s") → Dec (f ≡ code "t") → Dec (f ≡ code "u") → Dec (f ≡ code "a") → Dec (f ≡ code "z")
        → Dec (f ≡ code "m")
        → Dec (f ≡ code "j")
        → Dec (f ≡ code "k")
        → Dec (f ≡ code "h")
        → Dec (f ≡ code "d")
        → Dec (f ≡ code "f")
        → Dec (f ≡ code "g")
        → Letter f
    go (yes e) b c d g h i j k l m n o p q = rw e a-number
    go (no a) (yes e) c d g h i j k l m n o p q = rw e a-wide
    go (no a) (no b) (yes e) d g h i j k l m n o p q = rw e a-day
    go (no a) (no b) (no c) (yes e) g h i j k l m n o p q = rw e a-step
    go (no a) (no b) (no c) (no d) (yes e) h i j k l m n o p q = rw e a-prompt
    go (no a) (no b) (no c) (no d) (no g) (yes e) i j k l m n o p q = rw e a-text
    go (no a) (no b) (no c) (no d) (no g) (no h) (yes e) j k l m n o p q = rw e a-name
    go (no a) (no b) (no c) (no d) (no g) (no h) (no i) (yes e) k l m n o p q = rw e a-star
    go (no a) (no b) (no c) (no d) (no g) (no h) (no i) (no j) (yes e) l m n o p q = rw e a-mode
    go (no a) (no b) (no c) (no d) (no g) (no h) (no i) (no j) (no k) (yes e) m n o p q = rw e a-side
    go (no a) (no b) (no c) (no d) (no g) (no h) (no i) (no j) (no k) (no l) (yes e) n o p q = rw e a-type
    go (no a) (no b) (no c) (no d) (no g) (no h) (no i) (no j) (no k) (no l) (no m) (yes e) o p q = rw e a_word
    go (no a) (no b) (no c) (no d) (no g) (no h) (no i) (no j) (no k) (no l) (no m) (no n) (yes e) p q = rw e some-data
    go (no a) (no b) (no c) (no d) (no g) (no h) (no i) (no j) (no k) (no l) (no m) (no n) (no o) (yes e) q = rw e a-date
    go (no a) (no b) (no c) (no d) (no g) (no h) (no i) (no j) (no k) (no l) (no m) (no n) (no o) (no p) (yes e) = rw e a-time
    go (no a) (no b) (no c) (no d) (no g) (no h) (no i) (no j) (no k) (no l) (no m) (no n) (no o) (no p) (no q) =
        itself
        (record {
          no-n = ne_eqb f (code "n") a;
          no-w = ne_eqb f (code "w") b;
          no-y = ne_eqb f (code "y") c;
          no-s = ne_eqb f (code "s") d;
          no-t = ne_eqb f (code "t") g;
          no-u = ne_eqb f (code "u") h;
          no-a = ne_eqb f (code "a") i;
          no-z = ne_eqb f (code "z") j;
          no-m = ne_eqb f (code "m") k;
          no-j = ne_eqb f (code "j") l;
          no-k = ne_eqb f (code "k") m;
          no-h = ne_eqb f (code "h") n;
          no-d = ne_eqb f (code "d") o;
          no-f = ne_eqb f (code "f") p;
          no-g = ne_eqb f (code "g") q;
        })

-- whether bytes start with a place between two commas
abbrev pub place_ahead : List ℕ → Bool
place_ahead rest = eqb (get_or rest 0 0) (code ",") && (is_place (get_or rest 1 0) && eqb (get_or rest 2 0) (code ","))

-- whether they end with a place behind a comma
abbrev pub place_last : List ℕ → Bool
place_last rest = eqb (get_or rest 0 0) (code ",") && (is_place (get_or rest 1 0) && eqb (length rest) 2)

-- what a field asks of the bytes after it
abbrev pub After : {f : ℕ} → Letter f → List ℕ → Type 0
After a-number rest = in_class Digit (get_or rest 0 0) ≡ false
After a-wide rest = in_class Digit (get_or rest 0 0) ≡ false
After a-day rest = in_class Digit (get_or rest 0 0) ≡ false
After a-step rest = in_class Digit (get_or rest 0 0) ≡ false
After a-prompt rest = Unit {0}
After a-text rest = Unit {0}
After a-name rest = Unit {0}
After a-star rest = Unit {0}
After a-mode rest = get_or rest 0 0 ≡ code ","
After a-side rest = get_or rest 0 0 ≡ code ","
After a-type rest = get_or rest 0 0 ≡ code ","
After a_word rest = (get_or rest 0 0 ≡ code ",") × (place_ahead rest ≡ false) × (place_last rest ≡ false)
After some-data rest = rest ≡ []
After a-date rest = rest ≡ []
After a-time rest = rest ≡ []
After (itself p) rest = Unit {0}

-- a field of value v at a place of s, in the line w at another
pub record Moved (f : ℕ) (s : List ℕ) (v p : ℕ) (w : List ℕ) (q : ℕ) : Type 0 where
  pub read : field_at f w q ≡ Ok (v, q + length (written_field f s v p))
  pub again : written_field f w v q ≡ written_field f s v p
  pub limit : (l : ℕ × ℕ) (u n : ℕ) → field_limits f l s u v p n ≡ Ok tt → field_limits f l w u v q n ≡ Ok tt
  pub content : held f w v q ≡ held f s v p

limit-move : (t : Bool) (p q : ℕ) → ◌≡◌ {A = Result Unit ℕ} (cond t (Ok tt) (Err p)) (Ok tt) → ◌≡◌ {A = Result Unit ℕ} (cond t (Ok tt) (Err q)) (Ok tt)
limit-move true p q h = refl
limit-move false p q h = absurd (let z : ◌≡◌ {A = ℕ} 0 1 = cc in omega arith)

limit-both : (a b c : Bool) (p q : ℕ) → (b ≡ true → c ≡ true) → ◌≡◌ {A = Result Unit ℕ} (cond (a && b) (Ok tt) (Err p)) (Ok tt) → ◌≡◌ {A = Result Unit ℕ} (cond (a && c) (Ok tt) (Err q)) (Ok tt)
limit-both true true c p q k h = rw (k refl)
limit-both true false c p q k h = absurd (let z : ◌≡◌ {A = ℕ} 0 1 = cc in omega arith)
limit-both false b c p q k h = absurd (let z : ◌≡◌ {A = ℕ} 0 1 = cc in omega arith)

take-front : (xs ys : List ℕ) (n : ℕ) → length xs ≡ n → take n (xs ++ ys) ≡ xs
take-front xs ys n e = rw (← e) (take-append_seam xs ys)

quote-unnamed : in_class Named (code "\"") ≡ false
unfolding between
quote-unnamed = refl

star-kept : (s : List ℕ) (p n : ℕ) → n ≡ 1 → get_or s p 0 ≡ code "*" → kept s p n ≡ code "*" ∷ []
star-kept s p n e z = let l : p < length s = inside s p (omega arith) in rw (e, drop-cons s p 0 l, z)

star-cased : (b : Bool) → cased b (code "*" ∷ []) ≡ code "*" ∷ []
unfolding cased capital between
star-cased true = refl
star-cased false = refl

-- ---- a quoted text, in capitals or as it is
module _ (b : Bool) (s : List ℕ) (at v e : ℕ) (h : text_at s at ≡ Ok (v, e)) (pre rest : List ℕ) where
  inner : List ℕ
  inner = cased b (text-fits s at v e h).text

  outer : List ℕ
  outer = cased b (kept s at (v + 2))

  line : List ℕ
  line = pre ++ (outer ++ rest)

  inner-is : inner ≡ cased b (text-fits s at v e h).text
  unfolding inner
  inner-is = refl

  outer-is : outer ≡ code "\"" ∷ (inner ++ (code "\"" ∷ []))
  unfolding outer inner
  outer-is = let q = text-fits s at v e h in rw q.whole (cased-quotes b q.text)

  inner-length : length inner ≡ v
  unfolding inner
  inner-length = let q = text-fits s at v e h in cased-length b q.text ∙ q.count

  outer-length : length outer ≡ v + 2
  outer-length = rw outer-is (let z = length-append inner (code "\"" ∷ []) in let k = inner-length in omega arith)

  line-is : line ≡ pre ++ (code "\"" ∷ (inner ++ (code "\"" ∷ rest)))
  unfolding line
  line-is = rw (outer-is, append_assoc inner (code "\"" ∷ []) rest)

  text-moved : text_at line (length pre) ≡ Ok (v, length pre + length outer)
  text-moved =
      let q = text-fits s at v e h in
      let k : length pre + 1 + v + 1 ≡ length pre + length outer = (let z = outer-length in omega arith) in
      rw line-is (text-back pre rest inner (unfold inner in cased-quoted b q.text q.legal) ∙ rw (inner-length, k))

  text-again : cased b (kept line (length pre) (v + 2)) ≡ outer
  text-again =
      let k : kept line (length pre) (length outer) ≡ outer = unfold line in kept_back pre outer rest in
      let d : cased b outer ≡ outer = unfold outer in cased-twice b (kept s at (v + 2)) in
      ap (λ n. cased b (kept line (length pre) n)) (sym outer-length) ∙ ap (cased b) k ∙ d

  inner-at : drop (length pre + 1) line ≡ inner ++ (code "\"" ∷ rest)
  inner-at = rw line-is (drop-append-add pre (code "\"" ∷ (inner ++ (code "\"" ∷ rest))) 1)

  text-content : cased b (kept line (length pre + 1) v) ≡ cased b (kept s (at + 1) v)
  text-content =
      let q = text-fits s at v e h in
      let k : take v (inner ++ (code "\"" ∷ rest)) ≡ inner = take-front inner (code "\"" ∷ rest) v inner-length in
      rw (inner-at, k, q.inner) (unfold inner in cased-twice b q.text)

  name-moved : named s at v ≡ true → named line (length pre) v ≡ true
  name-moved k =
      let q = text-fits s at v e h in
      let r : run_at Named s (at + 1) ≡ v = eqb-true (run_at Named s (at + 1)) v k in
      let t : T (all_in Named q.text) = rw (← q.inner) (rw r at (run_in Named (drop (at + 1) s))) in
      let a : T (all_in Named inner) = rw inner-is (cased-named b q.text t) in
      let n : run_at Named line (length pre + 1) ≡ v = rw inner-at (run-all Named inner (code "\"" ∷ rest) a quote-unnamed ∙ inner-length) in
      eq-eqb (run_at Named line (length pre + 1)) v n

  star-moved : starred s at v ≡ true → starred line (length pre) v ≡ true
  star-moved k = go (eqb v 1) refl k
    where
      go : (a : Bool) → eqb v 1 ≡ a → (a && eqb (get_or s (at + 1) 0) (code "*")) ≡ true → (a && eqb (get_or line (length pre + 1) 0) (code "*")) ≡ true
      go true p r =
          let q = text-fits s at v e h in
          let one : v ≡ 1 = eqb-true v 1 p in
          let z : get_or s (at + 1) 0 ≡ code "*" = eqb-true (get_or s (at + 1) 0) (code "*") r in
          let y : q.text ≡ code "*" ∷ [] = sym q.inner ∙ star-kept s (at + 1) v one z in
          let x : inner ≡ code "*" ∷ [] = inner-is ∙ rw y (star-cased b) in
          let g : get_or line (length pre + 1) 0 ≡ code "*" =
          (let d = get_or-append-add pre (code "\"" ∷ (inner ++ (code "\"" ∷ rest))) 1 0 in rw line-is (d ∙ rw x)) in
          eq-eqb (get_or line (length pre + 1) 0) (code "*") g
      go false p r = r

-- ---- a bar type
pub data TypeFits (s : List ℕ) (at : ℕ) : ℕ → Type 0 where
  one : kept s at 1 ≡ code "1" ∷ [] → TypeFits s at 1
  two : kept s at 1 ≡ code "2" ∷ [] → TypeFits s at 2
  three : kept s at 1 ≡ code "3" ∷ [] → TypeFits s at 3
  ean : kept s at 3 ≡ code "E" ∷ (code "3" ∷ (code "0" ∷ [])) → TypeFits s at 30

kept-one : (s : List ℕ) (p b : ℕ) → 0 < b → get_or s p 0 ≡ b → kept s p 1 ≡ b ∷ []
kept-one s p b k z = let l : p < length s = inside s p (omega arith) in rw (drop-cons s p 0 l, z)

kept-three : (s : List ℕ) (p a b c : ℕ) → 0 < a → 0 < b → 0 < c → get_or s p 0 ≡ a → get_or s (p + 1) 0 ≡ b → get_or s (p + 2) 0 ≡ c → kept s p 3 ≡ a ∷ (b ∷ (c ∷ []))
kept-three s p a b c i j k x y z =
    let l : p + 2 < length s = inside s (p + 2) (omega arith) in
    let y' : get_or s (suc p) 0 ≡ b = (let q : p + 1 ≡ suc p = omega arith in rw q at y) in
    let z' : get_or s (suc (suc p)) 0 ≡ c = (let q : p + 2 ≡ suc (suc p) = omega arith in rw q at z) in
    let d : drop p s ≡ a ∷ drop (suc p) s = drop-cons s p 0 (omega arith) ∙ rw x in
    let e : drop (suc p) s ≡ b ∷ drop (suc (suc p)) s = drop-cons s (suc p) 0 (omega arith) ∙ rw y' in
    let f : drop (suc (suc p)) s ≡ c ∷ drop (suc (suc (suc p))) s = drop-cons s (suc (suc p)) 0 (omega arith) ∙ rw z' in
    rw (d, e, f)

pub type-fits : (s : List ℕ) (at v e : ℕ) → type_at s at ≡ Ok (v, e) → TypeFits s at v
type-fits s at v e h =
    go (eqb (get_or s at 0) (code "1")) (eqb (get_or s at 0) (code "2")) (eqb (get_or s at 0) (code "3")) (eqb (get_or s at 0) (code "E")) (eqb (get_or s (at + 1) 0) (code "3"))
    (eqb (get_or s (at + 2) 0) (code "0"))
    refl
    refl
    refl
    refl
    refl
    refl
    (type-found s at v e h)
  where
    go : (a b c d f g : Bool) → eqb (get_or s at 0) (code "1") ≡ a → eqb (get_or s at 0) (code "2") ≡ b → eqb (get_or s at 0) (code "3") ≡ c → eqb (get_or s at 0) (code "E") ≡ d
        → eqb (get_or s (at + 1) 0) (code "3") ≡ f
        → eqb (get_or s (at + 2) 0) (code "0") ≡ g
        → cond {A = Result (ℕ × ℕ) ℕ} a (Ok (1, at + 1)) (cond b (Ok (2, at + 1)) (cond c (Ok (3, at + 1)) (cond (d && (f && g)) (Ok (30, at + 3)) (Err at)))) ≡ Ok (v, e)
        → TypeFits s at v
    go true b c d f g p q r t u w k = let x : 1 ≡ v = ok_first k in rw (← x) (one (kept-one s at (code "1") (omega arith) (eqb-true (get_or s at 0) (code "1") p)))
    go false true c d f g p q r t u w k = let x : 2 ≡ v = ok_first k in rw (← x) (two (kept-one s at (code "2") (omega arith) (eqb-true (get_or s at 0) (code "2") q)))
    go false false true d f g p q r t u w k = let x : 3 ≡ v = ok_first k in rw (← x) (three (kept-one s at (code "3") (omega arith) (eqb-true (get_or s at 0) (code "3") r)))
    go false false false true true true p q r t u w k =
        let x : 30 ≡ v = ok_first k in
        rw (← x)
        (ean (kept-three s at (code "E") (code "3") (code "0") (omega arith) (omega arith) (omega arith) (eqb-true (get_or s at 0) (code "E") t) (eqb-true (get_or s (at + 1) 0) (code "3") u) (eqb-true (get_or s (at + 2) 0) (code "0") w)))
    go false false false true true false p q r t u w k = absurd (let z : ◌≡◌ {A = ℕ} 0 1 = cc in omega arith)
    go false false false true false g p q r t u w k = absurd (let z : ◌≡◌ {A = ℕ} 0 1 = cc in omega arith)
    go false false false false f g p q r t u w k = absurd (let z : ◌≡◌ {A = ℕ} 0 1 = cc in omega arith)

data TypeOne : ℕ → ℕ → Type 0 where
  is_one : TypeOne (code "1") 1
  is-two : TypeOne (code "2") 2
  is-three : TypeOne (code "3") 3

type-one : (pre rest : List ℕ) (b v : ℕ) → TypeOne b v → get_or rest 0 0 ≡ code "," → type_at (pre ++ (b ∷ rest)) (length pre) ≡ Ok (v, length pre + 1)
unfolding type_at
type-one pre rest b v is_one c = rw (get_or-append_seam pre (code "1") rest 0) (word_back pre rest b v c)
type-one pre rest b v is-two c = rw (get_or-append_seam pre (code "2") rest 0) (word_back pre rest b v c)
type-one pre rest b v is-three c = rw (get_or-append_seam pre (code "3") rest 0) (word_back pre rest b v c)

type-ean : (pre rest : List ℕ) → get_or rest 0 0 ≡ code "," → type_at (pre ++ (code "E" ∷ (code "3" ∷ (code "0" ∷ rest)))) (length pre) ≡ Ok (30, length pre + 3)
unfolding type_at
type-ean pre rest c =
    let w : List ℕ = code "E" ∷ (code "3" ∷ (code "0" ∷ rest)) in
    rw (get_or-append_seam pre (code "E") (code "3" ∷ (code "0" ∷ rest)) 0, get_or-append-add pre w 1 0, get_or-append-add pre w 2 0)
    (word-comma (pre ++ w) (length pre) 30 (length pre + 3) (get_or-append-add pre w 3 0 ∙ c))

or-move : (a b c d : Bool) → (a ≡ true → c ≡ true) → (b ≡ true → d ≡ true) → (a || b) ≡ true → (c || d) ≡ true
or-move true b c d f g h = rw (f refl)
or-move false true c d f g h = go c (g refl)
  where
    go : (c : Bool) → d ≡ true → (c || d) ≡ true
    go true k = refl
    go false k = k
or-move false false c d f g h = absurd (let z : ◌≡◌ {A = ℕ} 0 1 = cc in omega arith)

type-moved : (s : List ℕ) (at v : ℕ) (pre rest : List ℕ) → get_or rest 0 0 ≡ code "," → TypeFits s at v
    → Moved (code "k") s v at (pre ++ (written_field (code "k") s v at ++ rest)) (length pre)
unfolding field_at written_field field_limits held
type-moved s at v pre rest c (one k) =
    let x : cased false (kept s at 1) ≡ code "1" ∷ [] = cased_kept (kept s at 1) ∙ k in
    record {
      read = rw x (type-one pre rest (code "1") 1 is_one c);
      again = rw x (cased_kept (kept (pre ++ (code "1" ∷ rest)) (length pre) 1) ∙ kept_back pre (code "1" ∷ []) rest);
      limit = λ l u n k. refl;
      content = refl;
    }
type-moved s at v pre rest c (two k) =
    let x : cased false (kept s at 1) ≡ code "2" ∷ [] = cased_kept (kept s at 1) ∙ k in
    record {
      read = rw x (type-one pre rest (code "2") 2 is-two c);
      again = rw x (cased_kept (kept (pre ++ (code "2" ∷ rest)) (length pre) 1) ∙ kept_back pre (code "2" ∷ []) rest);
      limit = λ l u n k. refl;
      content = refl;
    }
type-moved s at v pre rest c (three k) =
    let x : cased false (kept s at 1) ≡ code "3" ∷ [] = cased_kept (kept s at 1) ∙ k in
    record {
      read = rw x (type-one pre rest (code "3") 3 is-three c);
      again = rw x (cased_kept (kept (pre ++ (code "3" ∷ rest)) (length pre) 1) ∙ kept_back pre (code "3" ∷ []) rest);
      limit = λ l u n k. refl;
      content = refl;
    }
type-moved s at v pre rest c (ean k) =
    let w : List ℕ = code "E" ∷ (code "3" ∷ (code "0" ∷ [])) in
    let x : cased false (kept s at 3) ≡ w = cased_kept (kept s at 3) ∙ k in
    record {
      read = rw x (type-ean pre rest c);
      again = rw x (cased_kept (kept (pre ++ (w ++ rest)) (length pre) 3) ∙ kept_back pre w rest);
      limit = λ l u n k. refl;
      content = refl;
    }

-- ---- what stands under bars
pub data Word : ℕ → Type 0 where
  nothing : Word (code "N")
  left : Word (code "B")
  centre : Word (code "C")
  right : Word (code "R")

-- a word that was read: its last letter, where it ends, and that it stays as it was written
pub record WordFits (s : List ℕ) (at v e : ℕ) : Type 0 where
  pub letter : Word v
  pub ends : e ≡ at + length (word_written v)
  pub stays : kept s at (length (word_written v)) ≡ word_written v

module _ (s : List ℕ) (at : ℕ) where
  nothing-fits : get_or s at 0 ≡ code "N" → WordFits s at (code "N") (at + 1)
  unfolding word_written
  nothing-fits x = record { letter = nothing; ends = refl; stays = kept-one s at (code "N") (omega arith) x }

  left-fits : get_or s at 0 ≡ code "B" → WordFits s at (code "B") (at + 1)
  unfolding word_written
  left-fits x = record { letter = left; ends = refl; stays = kept-one s at (code "B") (omega arith) x }

  placed-fits : (b : ℕ) → get_or s at 0 ≡ code "B" → get_or s (at + 1) 0 ≡ code "," → get_or s (at + 2) 0 ≡ b → is_place b ≡ true → WordFits s at b (at + 3)
  placed-fits b x y z h = go (ℕ_discrete b (code "C")) (ℕ_discrete b (code "R"))
    where
      word : (c : ℕ) → 0 < c → b ≡ c → kept s at 3 ≡ code "B" ∷ (code "," ∷ (c ∷ []))
      word c l e = kept-three s at (code "B") (code ",") c (omega arith) (omega arith) l x y (z ∙ e)

      go : Dec (b ≡ code "C") → Dec (b ≡ code "R") → WordFits s at b (at + 3)
      go (yes c) r = rw c (unfold word_written in record { letter = centre; ends = refl; stays = word (code "C") (omega arith) c })
      go (no c) (yes r) = rw r (unfold word_written in record { letter = right; ends = refl; stays = word (code "R") (omega arith) r })
      go (no c) (no r) = absurd (false≢true (rw (ne_eqb b (code "C") c, ne_eqb b (code "R") r) at h))

  pub word_fits : (v e : ℕ) → under_at s at ≡ Ok (v, e) → WordFits s at v e
  word_fits v e h =
      go (eqb (get_or s at 0) (code "N")) (eqb (get_or s at 0) (code "B")) (eqb (get_or s (at + 1) 0) (code ",")) (is_place (get_or s (at + 2) 0)) (eqb (get_or s (at + 3) 0) (code ","))
      refl
      refl
      refl
      refl
      (under-found s at v e h)
    where
      line : eqb (get_or s at 0) (code "B") ≡ true → ◌≡◌ {A = Result (ℕ × ℕ) ℕ} (Ok (code "B", at + 1)) (Ok (v, e)) → WordFits s at v e
      line p k = let x : code "B" ≡ v = ok_first k in let y : at + 1 ≡ e = ok_second k in rw (← x, ← y) (left-fits (eqb-true (get_or s at 0) (code "B") p))

      go : (a b c d g : Bool) → eqb (get_or s at 0) (code "N") ≡ a → eqb (get_or s at 0) (code "B") ≡ b → eqb (get_or s (at + 1) 0) (code ",") ≡ c
          → is_place (get_or s (at + 2) 0) ≡ d
          → cond {A = Result (ℕ × ℕ) ℕ} a (Ok (code "N", at + 1)) (cond b (cond (c && (d && g)) (Ok (get_or s (at + 2) 0, at + 3)) (Ok (code "B", at + 1))) (Err at)) ≡ Ok (v, e)
          → WordFits s at v e
      go true b c d g m n o p k =
          let x : code "N" ≡ v = ok_first k in
          let y : at + 1 ≡ e = ok_second k in
          rw (← x, ← y) (nothing-fits (eqb-true (get_or s at 0) (code "N") m))
      go false true true true true m n o p k =
          let x : get_or s (at + 2) 0 ≡ v = ok_first k in
          let y : at + 3 ≡ e = ok_second k in
          rw (← x, ← y)
          (placed-fits (get_or s (at + 2) 0) (eqb-true (get_or s at 0) (code "B") n) (eqb-true (get_or s (at + 1) 0) (code ",") o) refl p)
      go false true true true false m n o p k = line n k
      go false true true false g m n o p k = line n k
      go false true false d g m n o p k = line n k
      go false false c d g m n o p k = absurd (let z : ◌≡◌ {A = ℕ} 0 1 = cc in omega arith)

-- two numbers are as equal as their sums with a third
eqb-offset : (a b m n d : ℕ) → a ≡ m + d → b ≡ n + d → eqb a b ≡ eqb m n
eqb-offset a b m n d p q = go (ℕ_discrete m n)
  where
    go : Dec (m ≡ n) → eqb a b ≡ eqb m n
    go (yes e) = eq-eqb a b (omega arith) ∙ sym (eq-eqb m n e)
    go (no e) = ne_eqb a b (λ k. e (omega arith)) ∙ sym (ne_eqb m n e)

-- what is said under bars, written, is read back where a comma follows and no place between commas or at the end
under_back : (pre rest : List ℕ) (v : ℕ) → Word v → After a_word rest
    → under_at (pre ++ (word_written v ++ rest)) (length pre) ≡ Ok (v, length pre + length (word_written v))
unfolding under_at word_written
under_back pre rest v nothing a = rw (get_or-append_seam pre (code "N") rest 0) (word_back pre rest (code "N") (code "N") a.0)
under_back pre rest v left a =
    let w : List ℕ = code "B" ∷ rest in
    let l : eqb (length (pre ++ w)) (length pre + 3) ≡ eqb (length rest) 2 =
    eqb-offset (length (pre ++ w)) (length pre + 3) (length rest) 2 (length pre + 1) (let z = length-append pre w in omega arith) (omega arith) in
    let b : place_behind (pre ++ w) (length pre) ≡ false = rw (get_or-append-add pre w 1 0, get_or-append-add pre w 2 0, get_or-append-add pre w 3 0) a.1 in
    let d : place_cut (pre ++ w) (length pre) ≡ false = rw (get_or-append-add pre w 1 0, get_or-append-add pre w 2 0, l) a.2 in
    rw (get_or-append_seam pre (code "B") rest 0, b, d) (word_back pre rest (code "B") (code "B") a.0)
under_back pre rest v centre a =
    let w : List ℕ = code "B" ∷ (code "," ∷ (code "C" ∷ rest)) in
    rw (get_or-append_seam pre (code "B") (code "," ∷ (code "C" ∷ rest)) 0, get_or-append-add pre w 1 0, get_or-append-add pre w 2 0, get_or-append-add pre w 3 0, a.0)
under_back pre rest v right a =
    let w : List ℕ = code "B" ∷ (code "," ∷ (code "R" ∷ rest)) in
    rw (get_or-append_seam pre (code "B") (code "," ∷ (code "R" ∷ rest)) 0, get_or-append-add pre w 1 0, get_or-append-add pre w 2 0, get_or-append-add pre w 3 0, a.0)

-- ---- a byte that stands for itself
module _ {f : ℕ} (p : Plain f) where
  pub plain-field : (s : List ℕ) (at : ℕ) → field_at f s at ≡ byte_at f s at
  unfolding field_at
  plain-field s at = simp (p.no-n, p.no-w, p.no-y, p.no-s, p.no-t, p.no-u, p.no-a, p.no-z, p.no-m, p.no-j, p.no-k, p.no-h, p.no-d, p.no-f, p.no-g)

  pub plain-written : (s : List ℕ) (v q : ℕ) → written_field f s v q ≡ f ∷ []
  unfolding written_field
  plain-written s v q = simp (p.no-n, p.no-w, p.no-y, p.no-s, p.no-t, p.no-u, p.no-a, p.no-z, p.no-m, p.no-j, p.no-k, p.no-h, p.no-d, p.no-f, p.no-g)

  plain-limits : (l : ℕ × ℕ) (s : List ℕ) (u v q n : ℕ) → field_limits f l s u v q n ≡ Ok tt
  unfolding field_limits
  plain-limits l s u v q n = simp (p.no-n, p.no-w, p.no-y, p.no-s, p.no-t, p.no-a, p.no-z, p.no-d)

  plain-held : (s : List ℕ) (v q : ℕ) → held f s v q ≡ []
  unfolding held
  plain-held s v q = simp (p.no-t, p.no-u, p.no-a, p.no-z, p.no-d)

  plain_moved : (s : List ℕ) (at v e : ℕ) (pre rest : List ℕ) → field_at f s at ≡ Ok (v, e)
      → Moved f s v at (pre ++ (written_field f s v at ++ rest)) (length pre)
  plain_moved s at v e pre rest h =
      let o : v ≡ f = byte_fits f s at v e (sym (plain-field s at) ∙ h) in
      let x : written_field f s v at ≡ f ∷ [] = plain-written s v at in
      let w : List ℕ = pre ++ (f ∷ rest) in
      rw x
      (record {
        read = rw x (plain-field w (length pre) ∙ byte-back pre rest f ∙ rw o);
        again = plain-written w v (length pre) ∙ sym x;
        limit = λ l u n k. plain-limits l w u v (length pre) n;
        content = plain-held w v (length pre) ∙ sym (plain-held s v at);
      })

-- ---- a format

-- the letter that stands for a format of the date, of the time
abbrev pub format_letter : Stamp → ℕ
format_letter Date = code "f"
format_letter Time = code "g"

module _ (s : List ℕ) (at v e : ℕ) (pre rest : List ℕ) (a : rest ≡ []) where
  rest-stays : pre ++ (cased false (drop at s) ++ rest) ≡ pre ++ drop at s
  rest-stays = rw (a, cased_kept (drop at s), append-nil (drop at s))

  rest-again : cased false (drop (length pre) (pre ++ (cased false (drop at s) ++ rest))) ≡ cased false (drop at s)
  rest-again = rw (rest-stays, drop-append_seam pre (drop at s))

  rest_read : (st : Stamp) → format_field st s at ≡ Ok (v, e)
      → format_field st (pre ++ (cased false (drop at s) ++ rest)) (length pre) ≡ Ok (v, length pre + length (cased false (drop at s)))
  rest_read st h =
      let q = (format-fits st s at v e h).within in
      rw (rest-stays, cased_kept (drop at s)) (format-moved st s pre at v e (omega arith) h)

  rest-moved : (st : Stamp) → format_field st s at ≡ Ok (v, e)
      → Moved (format_letter st) s v at (pre ++ (written_field (format_letter st) s v at ++ rest)) (length pre)
  unfolding field_at written_field field_limits held
  rest-moved Date h = record { read = rest_read Date h; again = rest-again; limit = λ l u n k. refl; content = refl }
  rest-moved Time h = record { read = rest_read Time h; again = rest-again; limit = λ l u n k. refl; content = refl }

-- ---- each letter
pub field-moved : {f : ℕ} (x : Letter f) (s : List ℕ) (at v e : ℕ) (pre rest : List ℕ) → field_at f s at ≡ Ok (v, e) → After x rest
    → Moved f s v at (pre ++ (written_field f s v at ++ rest)) (length pre)
unfolding field_at written_field field_limits meets held line outer
field-moved a-number s at v e pre rest h a =
    record {
      read = number-back pre rest v (number_fits s at v e h) a;
      again = refl;
      limit = λ l u n k. limit-move (between l.0 l.1 v && true) at (length pre) k;
      content = refl;
    }
field-moved a-wide s at v e pre rest h a =
    record {
      read = number-back pre rest v (number_fits s at v e h) a;
      again = refl;
      limit = λ l u n k. limit-move (between l.0 l.1 v && ltb u v) at (length pre) k;
      content = refl;
    }
field-moved a-day s at v e pre rest h a =
    record {
      read = number-back pre rest v (number_fits s at v e h) a;
      again = refl;
      limit = λ l u n k. limit-move (between l.0 l.1 v && day_there u v n) at (length pre) k;
      content = refl;
    }
field-moved a-step s at v e pre rest h a =
    let q = signed-fits s at v e h in
    record {
      read = signed_back pre rest v q.0 q.1 a;
      again = refl;
      limit = λ l u n k. limit-move (between l.0 l.1 v && true) at (length pre) k;
      content = refl;
    }
field-moved a-prompt s at v e pre rest h a =
    record {
      read = text-moved false s at v e h pre rest;
      again = text-again false s at v e h pre rest;
      limit = λ l u n k. limit-move (between l.0 l.1 v && true) at (length pre) k;
      content = ap (λ (x : List ℕ). (Quote, x) ∷ []) (text-content false s at v e h pre rest);
    }
field-moved a-text s at v e pre rest h a =
    record {
      read = text-moved false s at v e h pre rest;
      again = text-again false s at v e h pre rest;
      limit = λ l u n k. refl;
      content = ap (λ (x : List ℕ). (Quote, x) ∷ []) (text-content false s at v e h pre rest);
    }
field-moved a-name s at v e pre rest h a =
    record {
      read = text-moved true s at v e h pre rest;
      again = text-again true s at v e h pre rest;
      limit = λ l u n k.
          limit-both (between l.0 l.1 v) (named s at v) (named (pre ++ (cased true (kept s at (v + 2)) ++ rest)) (length pre) v) at (length pre)
          (name-moved true s at v e h pre rest)
          k;
      content = ap (λ (x : List ℕ). (Quote, x) ∷ []) (text-content true s at v e h pre rest);
    }
field-moved a-star s at v e pre rest h a =
    let w : List ℕ = pre ++ (cased true (kept s at (v + 2)) ++ rest) in
    record {
      read = text-moved true s at v e h pre rest;
      again = text-again true s at v e h pre rest;
      limit = λ l u n k.
          limit-both (between l.0 l.1 v) (named s at v || starred s at v) (named w (length pre) v || starred w (length pre) v) at (length pre)
          (or-move (named s at v) (starred s at v) (named w (length pre) v) (starred w (length pre) v)
          (name-moved true s at v e h pre rest)
          (star-moved true s at v e h pre rest))
          k;
      content = ap (λ (x : List ℕ). (Quote, x) ∷ []) (text-content true s at v e h pre rest);
    }
field-moved a-mode s at v e pre rest h a =
    let q = letter-fits Mode s at v e h in
    let x : cased false (kept s at 1) ≡ v ∷ [] = cased_kept (kept s at 1) ∙ q.1 in
    record {
      read = rw x (letter-back pre rest Mode v q.0 a);
      again = rw x (cased_kept (kept (pre ++ (v ∷ rest)) (length pre) 1) ∙ kept_back pre (v ∷ []) rest);
      limit = λ l u n k. refl;
      content = refl;
    }
field-moved a-side s at v e pre rest h a =
    let q = letter-fits Side s at v e h in
    let x : cased false (kept s at 1) ≡ v ∷ [] = cased_kept (kept s at 1) ∙ q.1 in
    record {
      read = rw x (letter-back pre rest Side v q.0 a);
      again = rw x (cased_kept (kept (pre ++ (v ∷ rest)) (length pre) 1) ∙ kept_back pre (v ∷ []) rest);
      limit = λ l u n k. refl;
      content = refl;
    }
field-moved a-type s at v e pre rest h a = type-moved s at v pre rest a (type-fits s at v e h)
field-moved a_word s at v e pre rest h a =
    record {
      read = under_back pre rest v (word_fits s at v e h).letter a;
      again = refl;
      limit = λ l u n k. refl;
      content = refl;
    }
field-moved some-data s at v e pre rest h a =
    let i = data-inside s at v e h in
    let c = chain-of s at v e h in
    let w : List ℕ = data_written s (elements s at) in
    let z : pre ++ (w ++ rest) ≡ pre ++ w = rw (a, append-nil w) in
    let o : v ≡ 0 = i.0 in
    record {
      read = rw (z, o) (data-back pre c i.1);
      again = rw (z, elements-back pre c) (data-again pre c);
      limit = λ l u n k. rw (z, elements-back pre c) (limits-back s (length pre) (elements s at) k);
      content = rw (z, elements-back pre c) (pieces-back pre c);
    }
field-moved a-date s at v e pre rest h a = rest-moved s at v e pre rest a Date h
field-moved a-time s at v e pre rest h a = rest-moved s at v e pre rest a Time h
field-moved (itself p) s at v e pre rest h a = plain_moved p s at v e pre rest h
