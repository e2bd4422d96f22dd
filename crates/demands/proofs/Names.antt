-- What can be sent between quotes, and which of it is a name.
-- Assumes nothing.
use mathlib.Core.Path.{◌≡◌, refl, sym, ap, ◌∙◌, subst}
use mathlib.Core.Bool.{Bool, true, false, not, ◌&&◌, ◌||◌, cond, true≢false}
use mathlib.Core.List.{List, [], ◌∷◌, ◌++◌, append-nil}
use mathlib.Core.Logic.{⊎_elim}
use Prim.Native.Nat.{ℕ, suc, ◌+◌, ◌<◌}
use native.Mathlib.Omega.{arith}
use lib.ListN.{length, get_or}
use lib.Dec.{T, eqb, leb, ltb, eqb-suc-suc, eqb-zero-suc}
use borrow.Author.Tests.{eq-eqb, ne_eqb, eqb-false, le-leb, lt-leb, leb-true, leb-false, lt-ltb, le-ltb, ltb-true, ltb-false, not-false}
use Rattle.kinds.specs.Bytes.{between, all_in}
use Rattle.classes.specs.declared.Class.{Class}
use Rattle.classes.specs.declared.Class.TheVariants.{Named, Quoted}
use Rattle.classes.specs.Bytes.{in_class, run}
use Rattle.classes.proofs.Laws.{in-range}
use Rattle.padding.proofs.Ranges.{range-low, range-high, all-wider}
use Rattle.parts.specs.Names.{capital, name_byte, packed_of}
use Rattle.normal.proofs.Back.{all_in as class_all, run-all}
use Rattle.forms.proofs.Growing.{Inside}
use Rattle.results.proofs.Answers.{or-none}
use Rattle.fits.specs.Names.{name_wrong}
use Rattle.ground.proofs.Tests.{either, same?, and-true}
use Rattle.demands.specs.Relist.{IsName, title_of}

-- ---- names

-- "Names: 1 to 8 bytes, codes 32 to 126 without `*` and quote", as a test and as facts
pub name-right : (t : List ℕ) → IsName t → name_wrong t ≡ false
unfolding name_wrong
name-right t n =
    let some : length t ≡ 0 → ⊥ = λ e. omega (arith, n.some) in
    rw (ne_eqb (length t) 0 some, le-ltb 8 (length t) n.few, n.legal)

pub right-name : (t : List ℕ) → name_wrong t ≡ false → IsName t
unfolding name_wrong
right-name t h =
    let a = or-none (eqb (length t) 0) _ h in
    let b = or-none (ltb 8 (length t)) _ a.1 in
    let z : length t ≡ 0 → ⊥ = eqb-false _ _ a.0 in
    record { some = omega arith; few = ltb-false _ _ b.0; legal = not-false _ b.1 }

pub wrong_name : (t : List ℕ) → (IsName t → ⊥) → name_wrong t ≡ true
wrong_name t h = ⊎_elim (λ (e : name_wrong t ≡ true). e) (λ (e : name_wrong t ≡ false). absurd (h (right-name t e))) (either (name_wrong t))

-- ---- what can be sent between quotes

named-quoted : (b : ℕ) → in_class Named b ≡ true → in_class Quoted b ≡ true
named-quoted b h = low (between 32 33 b) (between 35 41 b) (between 43 126 b) refl refl refl h
  where
    low :
        (x y z : Bool) → between 32 33 b ≡ x → between 35 41 b ≡ y → between 43 126 b ≡ z → (x || (y || z)) ≡ true →
        (between 32 33 b || between 35 126 b) ≡ true
    low true y z p q r e = rw p
    low false true z p q r e = rw p (in-range 35 126 b (omega (arith, range-low 35 41 b q)) (omega (arith, range-high 35 41 b q)))
    low false false true p q r e = rw p (in-range 35 126 b (omega (arith, range-low 43 126 b r)) (omega (arith, range-high 43 126 b r)))
    low false false false p q r e = absurd (true≢false (sym e))

pub quoted-inside : (t rest : List ℕ) → all_in (in_class Quoted) t ≡ true → Inside rest → Inside (t ++ rest)
quoted-inside [] rest h k = k
quoted-inside (b ∷ bs) rest h k =
    let x = and-true (in_class Quoted b) (all_in (in_class Quoted) bs) h in
    (λ e. true≢false (sym x.0 ∙ ap (in_class Quoted) e ∙ (unfold between in refl)), quoted-inside bs rest x.1 k)

pub same-all : (k : Class) (t : List ℕ) → class_all k t ≡ all_in (in_class k) t
unfolding class_all
same-all k [] = refl
same-all k (b ∷ bs) = ap (λ (x : Bool). in_class k b && x) (same-all k bs)

pub quoted-all : (t : List ℕ) → all_in (in_class Quoted) t ≡ true → T (class_all Quoted t)
quoted-all t h = subst T (sym (same-all Quoted t ∙ h)) tt

pub name-quoted : (t : List ℕ) → IsName t → all_in (in_class Quoted) t ≡ true
name-quoted t n = all-wider (in_class Named) (in_class Quoted) t named-quoted n.legal

-- the bytes of a name that stand in front of the second quote are all of the text exactly where all of it are a name's
run-whole : (t rest : List ℕ) → eqb (run Named (t ++ (34 ∷ rest))) (length t) ≡ all_in (in_class Named) t
unfolding run between
run-whole [] rest = refl
run-whole (b ∷ bs) rest = by (in_class Named b) (run-whole bs rest)
  where
    by :
        (x : Bool) → eqb (run Named (bs ++ (34 ∷ rest))) (length bs) ≡ all_in (in_class Named) bs →
        eqb (cond x (suc (run Named (bs ++ (34 ∷ rest)))) 0) (suc (length bs)) ≡ (x && all_in (in_class Named) bs)
    by true e = eqb-suc-suc (run Named (bs ++ (34 ∷ rest))) (length bs) ∙ e
    by false e = eqb-zero-suc (length bs)

-- so a text is within the limits of a name exactly where it is a name
pub name-judged : (t rest : List ℕ) → (between 1 8 (length t) && eqb (run Named (t ++ (34 ∷ rest))) (length t)) ≡ not (name_wrong t)
unfolding name_wrong between
name-judged t rest = rw (some-not (length t), few-not (length t) 8, run-whole t rest) (turned (eqb (length t) 0) (ltb 8 (length t)) (all_in (in_class Named) t))
  where
    some-not : (n : ℕ) → leb 1 n ≡ not (eqb n 0)
    some-not n = ⊎_elim (λ (e : n ≡ 0). rw (eq-eqb n 0 e, lt-leb 1 n (omega arith))) (λ (e : n ≡ 0 → ⊥). rw (ne_eqb n 0 e, le-leb 1 n (omega arith))) (same? n 0)

    few-not : (n m : ℕ) → leb n m ≡ not (ltb m n)
    few-not n m = ⊎_elim
        (λ (e : leb n m ≡ true). rw (e, le-ltb m n (leb-true n m e)))
        (λ (e : leb n m ≡ false). rw (e, lt-ltb m n (leb-false n m e)))
        (either (leb n m))

    turned : (a b c : Bool) → ((not a && not b) && c) ≡ not (a || (b || not c))
    turned true b c = refl
    turned false true c = refl
    turned false false true = refl
    turned false false false = refl

-- the bytes of a name are a run to its end
pub name-run : (t : List ℕ) → IsName t → run Named t ≡ length t
name-run t n = ap (run Named) (sym (append-nil t)) ∙ run-all Named t [] (subst T (sym (same-all Named t ∙ n.legal)) tt) (unfold between in refl)

-- ---- a name as an entry keeps it, of a line in which its bytes stand behind a quote

module _ (line t : List ℕ) (at : ℕ) (spelt : (k : ℕ) → k < length t → get_or line (at + 1 + k) 0 ≡ get_or t k 0) where
  spelt-byte : (i : ℕ) → name_byte line at (length t) i ≡ name_byte (34 ∷ t) 0 (length t) i
  unfolding name_byte
  spelt-byte i = by (ltb i (length t)) refl
    where
      by :
          (b : Bool) → ltb i (length t) ≡ b →
          cond (ltb i (length t)) (capital (get_or line (at + 1 + i) 0)) 0 ≡ cond (ltb i (length t)) (capital (get_or (34 ∷ t) (0 + 1 + i) 0)) 0
      by true e =
          let q : 0 + 1 + i ≡ suc i = omega arith in
          rw (e, q, spelt i (ltb-true i (length t) e))
      by false e = rw e

  pub spelt-title : packed_of line at (length t) ≡ title_of t
  spelt-title = λ k.
      spelt-byte 0 k ∷ spelt-byte 1 k ∷ spelt-byte 2 k ∷ spelt-byte 3 k ∷ spelt-byte 4 k ∷ spelt-byte 5 k ∷ spelt-byte 6 k ∷ spelt-byte 7 k ∷ []
