-- A field as it is read and as it was before refusals pointed: the same, or the line goes wrong in both.
use Rattle.std.specs.Prelude.{Err, Result, Ok}
use mathlib.Core.Path.{◌≡◌, ◌∙◌, refl}
use mathlib.Core.Bool.{Bool, true, false, cond, ◌&&◌, ◌||◌}
use mathlib.Core.List.{List, [], ◌∷◌}
use Prim.Native.Nat.{ℕ, ◌+◌, ◌<◌}
use Prim.Native.Char.{code}
use native.Mathlib.Omega.{arith}
use native.Mathlib.Decide.{ℕ_discrete}
use lib.Dec.{T, ltb, leb, eqb, eqb→eq}
use lib.ListN.{length, get_or}
use borrow.Author.Tests.{leb-false, eqb-true, ne_eqb}
use Rattle.kinds.specs.Bytes.{between}
use Rattle.classes.specs.Bytes.{in_class}
use Rattle.classes.specs.declared.Class.{Class}
use Rattle.classes.proofs.Laws.{past}
use Rattle.fields.specs.Field.{word_ends, word_to, letter_at, type_at, type_fault, is_place, place_behind, place_cut, word_from, under_at, pointed}
use Rattle.numbers.specs.Number.{number_at, signed_at, behind_sign, plus, minus}
use Rattle.elements.specs.Elements.{element_at}
use Rattle.data_field.specs.Data.{data_at}
use Rattle.data_field.proofs.Steps.{data-stop}
use Rattle.reader.specs.Letters.{field_at}
use Rattle.row_fields.specs.Reading.{Got, good, bad, ahead, next, fields_from}
use Rattle.pointing.specs.Base.{plain_letter_at, plain_type_at, plain_word_from, plain_under_at, plain_signed_at, plain_field_at, plain_fields_from}
use Rattle.pointing.proofs.Texts.{byte-here}
use Rattle.pointing.proofs.Elements.{held-other, element-counter, element-none}
use Rattle.pointing.proofs.Rows.{ending}

-- ---- the same fields, or none in both
abbrev pub Alike : Got → Got → Type 0
Alike (good vs ps) (good ws qs) = (vs ≡ ws) × (ps ≡ qs)
Alike (good vs ps) (bad ws qs q) = ⊥
Alike (bad vs ps p) (good ws qs) = ⊥
Alike (bad vs ps p) (bad ws qs q) = Unit {0}

-- the line has not the form
abbrev pub Wrong : Got → Type 0
Wrong (good vs ps) = ⊥
Wrong (bad vs ps p) = Unit {0}

alike-ahead : (v at : ℕ) (g h : Got) → Alike g h → Alike (ahead v at g) (ahead v at h)
alike-ahead v at (good vs ps) (good ws qs) k = (rw k.0, rw k.1)
alike-ahead v at (good vs ps) (bad ws qs q) k = k
alike-ahead v at (bad vs ps p) (good ws qs) k = k
alike-ahead v at (bad vs ps p) (bad ws qs q) k = k

wrong-ahead : (v at p : ℕ) (vs ps : List ℕ) (g : Got) → Wrong g → Alike (bad vs ps p) (ahead v at g)
wrong-ahead v at p vs ps (good ws qs) k = k
wrong-ahead v at p vs ps (bad ws qs q) k = k

-- a field now and before: the same, in both none, or a word then whose line goes wrong behind it
pub data Close (fs s : List ℕ) : Result (ℕ × ℕ) ℕ → Result (ℕ × ℕ) ℕ → Type 0 where
  equal : (x : Result (ℕ × ℕ) ℕ) → Close fs s x x
  neither : (p q : ℕ) → Close fs s (Err p) (Err q)
  behind : (p v e : ℕ) → Wrong (plain_fields_from fs s e) → Close fs s (Err p) (Ok (v, e))

-- fields that are close, and others behind them that are alike
pub close-alike : (f : ℕ) (fs s : List ℕ) (at : ℕ) → Close fs s (field_at f s at) (plain_field_at f s at) → ((e : ℕ) → Alike (fields_from fs s e) (plain_fields_from fs s e))
    → Alike (fields_from (f ∷ fs) s at) (plain_fields_from (f ∷ fs) s at)
unfolding fields_from plain_fields_from
close-alike f fs s at c r = go c
  where
    go : {x y : Result (ℕ × ℕ) ℕ} → Close fs s x y → Alike (next x (λ v e. ahead v at (fields_from fs s e))) (next y (λ v e. ahead v at (plain_fields_from fs s e)))
    go (equal (Ok (v, e))) = alike-ahead v at (fields_from fs s e) (plain_fields_from fs s e) (r e)
    go (equal (Err p)) = tt
    go (neither p q) = tt
    go (behind p v e w) = wrong-ahead v at p [] [] (plain_fields_from fs s e) w

-- ---- words

-- a byte that is no comma, where a row goes on with a comma or ends
unended : (fs s : List ℕ) (e : ℕ) → T (ending fs) → word_ends s e ≡ false → Wrong (plain_fields_from fs s e)
unfolding plain_fields_from plain_field_at
unended fs s e h k = go fs h (within (leb (length s) e) refl k)
  where
    within : (t : Bool) → leb (length s) e ≡ t → (t || eqb (get_or s e 0) (code ",")) ≡ false → (e < length s) × (eqb (get_or s e 0) (code ",") ≡ false)
    within true q j = absurd (let z : ◌≡◌ {A = ℕ} 0 1 = cc in omega arith)
    within false q j = (leb-false (length s) e q, j)

    go : (fs : List ℕ) → T (ending fs) → (e < length s) × (eqb (get_or s e 0) (code ",") ≡ false) → Wrong (plain_fields_from fs s e)
    go [] t x = rw (ne_eqb e (length s) (λ q. omega arith)) tt
    go (c ∷ cs) t x = rw (eqb→eq c (code ",") t, byte-here (code ",") s e x.0, x.1) tt

word-close : (fs s : List ℕ) (at v e : ℕ) → T (ending fs) → Close fs s (word_to s at v e) (Ok (v, e))
word-close fs s at v e h = go (word_ends s e) refl
  where
    go : (t : Bool) → word_ends s e ≡ t → Close fs s (cond t (Ok (v, e)) (Err at)) (Ok (v, e))
    go true k = equal (Ok (v, e))
    go false k = behind at v e (unended fs s e h k)

-- what two choices come to by one test
pub close-cond : (fs s : List ℕ) (x x' y y' : Result (ℕ × ℕ) ℕ) (t : Bool) → (t ≡ true → Close fs s x y) → (t ≡ false → Close fs s x' y') → Close fs s (cond t x x') (cond t y y')
close-cond fs s x x' y y' true f g = f refl
close-cond fs s x x' y y' false f g = g refl

-- a letter with a byte behind it was a letter, and the line went wrong at that byte
pub letter-close : (k : Class) (fs s : List ℕ) (at : ℕ) → T (ending fs) → Close fs s (letter_at k s at) (plain_letter_at k s at)
unfolding letter_at
letter-close k fs s at h =
    close-cond fs s (word_to s at (get_or s at 0) (at + 1)) (Err at) (Ok (get_or s at 0, at + 1)) (Err at) (ltb at (length s) && in_class k (get_or s at 0))
    (λ e. word-close fs s at (get_or s at 0) (at + 1) h)
    (λ e. equal (Err at))

-- so with a bar type
pub type-close : (fs s : List ℕ) (at : ℕ) → T (ending fs) → Close fs s (type_at s at) (plain_type_at s at)
unfolding type_at
type-close fs s at h = go (eqb (get_or s at 0) (code "1")) (eqb (get_or s at 0) (code "2")) (eqb (get_or s at 0) (code "3"))
    (eqb (get_or s at 0) (code "E") && (eqb (get_or s (at + 1) 0) (code "3") && eqb (get_or s (at + 2) 0) (code "0")))
  where
    go : (a b c d : Bool)
        → Close fs s (cond a (word_to s at 1 (at + 1)) (cond b (word_to s at 2 (at + 1)) (cond c (word_to s at 3 (at + 1)) (cond d (word_to s at 30 (at + 3)) (Err (type_fault s at))))))
        (cond a (Ok (1, at + 1)) (cond b (Ok (2, at + 1)) (cond c (Ok (3, at + 1)) (cond d (Ok (30, at + 3)) (Err at)))))
    go true b c d = word-close fs s at 1 (at + 1) h
    go false true c d = word-close fs s at 2 (at + 1) h
    go false false true d = word-close fs s at 3 (at + 1) h
    go false false false true = word-close fs s at 30 (at + 3) h
    go false false false false = neither (type_fault s at) at

-- a number with a sign is the same or in both none
pub signed-close : (fs s : List ℕ) (at : ℕ) → Close fs s (signed_at s at) (plain_signed_at s at)
unfolding signed_at
signed-close fs s at = go (eqb (get_or s at 0) (code "+")) (eqb (get_or s at 0) (code "-")) (number_at s (at + 1))
  where
    go : (a b : Bool) (x : Result (ℕ × ℕ) ℕ)
        → Close fs s (cond a (plus (behind_sign s at x)) (cond b (minus (behind_sign s at x)) (plus (number_at s at)))) (cond a (plus x) (cond b (minus x) (plus (number_at s at))))
    go true b (Ok (v, e)) = equal (plus (Ok (v, e)))
    go true b (Err p) = neither (pointed s at p) p
    go false true (Ok (v, e)) = equal (minus (Ok (v, e)))
    go false true (Err p) = neither (pointed s at p) p
    go false false x = equal (plus (number_at s at))

-- ---- under bars

-- `C` or `R` at the end of a line is no data
place-no-data : (s : List ℕ) (i : ℕ) → length s ≡ i + 1 → is_place (get_or s i 0) ≡ true → (p : ℕ) × (data_at s i ≡ Err p)
place-no-data s i n h = go (ℕ_discrete (get_or s i 0) (code "C"))
  where
    stop : (p : ℕ) → element_at s i ≡ Err p → (p : ℕ) × (data_at s i ≡ Err p)
    stop p e = (p, data-stop s i i p refl (omega arith) e)

    place : (b : ℕ) → (b ≡ code "C" → ⊥) → is_place b ≡ true → b ≡ code "R"
    place b c k = eqb-true b (code "R") (rw (ne_eqb b (code "C") c) at k)

    go : Dec (get_or s i 0 ≡ code "C") → (p : ℕ) × (data_at s i ≡ Err p)
    go (yes e) =
        let z : between (code "0") (code "9") (get_or s (i + 1) 0) ≡ false = rw (past s (i + 1) (omega arith)) (unfold between in refl) in
        stop (pointed s i (i + 1)) (element-counter s i e ∙ held-other s i (omega arith) true s z)
    go (no c) =
        let e = place (get_or s i 0) c h in
        stop i (element-none s i (λ q. omega arith) (λ q. omega arith) (λ q. omega arith) (λ q. omega arith))

cut-wrong : (s : List ℕ) (at : ℕ) → place_cut s at ≡ true → Wrong (plain_fields_from (code "," ∷ (code "d" ∷ [])) s (at + 1))
unfolding plain_fields_from plain_field_at
cut-wrong s at h = go (eqb (get_or s (at + 1) 0) (code ",")) refl (is_place (get_or s (at + 2) 0)) refl (eqb (length s) (at + 3)) refl h
  where
    go : (a : Bool) → eqb (get_or s (at + 1) 0) (code ",") ≡ a → (b : Bool) → is_place (get_or s (at + 2) 0) ≡ b → (c : Bool) → eqb (length s) (at + 3) ≡ c
        → (a && (b && c)) ≡ true → Wrong (plain_fields_from (code "," ∷ (code "d" ∷ [])) s (at + 1))
    go true p true q true r k =
        let n = eqb-true (length s) (at + 3) r in
        let e : at + 1 + 1 ≡ at + 2 = omega arith in
        let d = place-no-data s (at + 2) (omega arith) q in
        rw (byte-here (code ",") s (at + 1) (omega arith), p, e, d.1) tt
    go true p true q false r k = absurd (let z : ◌≡◌ {A = ℕ} 0 1 = cc in omega arith)
    go true p false q c r k = absurd (let z : ◌≡◌ {A = ℕ} 0 1 = cc in omega arith)
    go false p b q c r k = absurd (let z : ◌≡◌ {A = ℕ} 0 1 = cc in omega arith)

-- what stands under bars is close where a comma and data follow it
pub under-close : (s : List ℕ) (at : ℕ) → Close (code "," ∷ (code "d" ∷ [])) s (under_at s at) (plain_under_at s at)
unfolding under_at
under-close s at =
    close-cond (code "," ∷ (code "d" ∷ [])) s _ _ _ _ (eqb (get_or s at 0) (code "N")) (λ e. word-close (code "," ∷ (code "d" ∷ [])) s at (code "N") (at + 1) tt)
    (λ e. close-cond (code "," ∷ (code "d" ∷ [])) s _ _ _ _ (eqb (get_or s at 0) (code "B")) (λ i. line) (λ i. equal (Err at)))
  where
    bare : (t : Bool) → place_cut s at ≡ t → Close (code "," ∷ (code "d" ∷ [])) s (cond t (Err (length s)) (word_to s at (code "B") (at + 1))) (Ok (code "B", at + 1))
    bare true k = behind (length s) (code "B") (at + 1) (cut-wrong s at k)
    bare false k = word-close (code "," ∷ (code "d" ∷ [])) s at (code "B") (at + 1) tt

    line : Close (code "," ∷ (code "d" ∷ [])) s (word_from s at) (plain_word_from s at)
    line = close-cond (code "," ∷ (code "d" ∷ [])) s _ _ _ _ (place_behind s at) (λ e. equal (Ok (get_or s (at + 2) 0, at + 3))) (λ e. bare (place_cut s at) refl)
