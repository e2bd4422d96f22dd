-- The normal form of an item holds no LF: it is one line.
-- Assumes nothing.
use Rattle.std.specs.Prelude.{Ok}
use mathlib.Core.Path.{◌≡◌, refl, sym, ap, ◌∙◌, subst}
use mathlib.Core.Bool.{Bool, true, false, not, cond, ◌&&◌, false≢true}
use mathlib.Core.List.{List, [], ◌∷◌, ◌++◌}
use Prim.Native.Nat.{ℕ, zero, suc, ◌+◌, ◌-◌, ◌<◌}
use native.Mathlib.Omega.{arith}
use native.Mathlib.Decide.{dec_lt}
use lib.ListN.{length, drop}
use lib.Dec.{T, eqb, ltb}
use borrow.Author.Tests.{lt-ltb, le-ltb, eq-eqb}
use Rattle.kinds.specs.Bytes.{between}
use Rattle.classes.specs.declared.Class.{Class}
use Rattle.classes.specs.declared.Class.TheVariants.{Digit, Quoted, Mode, Side}
use Rattle.elements.specs.declared.Part.{Part}
use Rattle.elements.specs.declared.Part.TheVariants.{Whole, First, Last, Middle}
use Rattle.elements.specs.declared.Element.{Element}
use Rattle.classes.specs.Bytes.{in_class}
use Rattle.fields.specs.Field.{text_at}
use Rattle.numbers.specs.Number.{nought}
use Rattle.classes.proofs.Laws.{and_T}
use Rattle.grammar.specs.Forms.{forms, row_of}
use Rattle.reader.specs.Letters.{field_at}
use Rattle.row_fields.specs.Reading.{fields_from, good}
use Rattle.read.specs.Commands.{read_of}
use Rattle.grammar.specs.declared.Item.{Item}
use Rattle.grammar.specs.declared.Command.TheVariants.{Item as item}
use Rattle.row_fields.proofs.Rows.{fields_split}
use Rattle.writing.specs.Writing.{decimal, signed, kept, cased}
use Rattle.normal.specs.Written.{part_written, what_written, element_written, data_written, word_written, written_field, written_from, normal}
use Rattle.writing.proofs.Writes.{cased_kept}
use Rattle.normal.proofs.Back.{all_in, T_true, digits-class, number_fits, signed-fits, letter-fits, text-fits, cased-quoted, cased-quotes}
use Rattle.normal.proofs.Data.{PartFits, Fits, a-text as is-text, a-variable as is-variable, a-counter as is-counter, a-stamp as is-stamp, Chain, ended, then, chain-of}
use Rattle.normal.proofs.Fields.{Letter, a-number, a-wide, a-day, a-step, a-prompt, a-text, a-name, a-star, a-mode, a-side, a-type, a_word, some-data, a-date, a-time, itself, letter-of, TypeFits, one, two, three, ean, type-fits, Word, nothing, left, centre, right, word_fits, plain-written}
use Rattle.formats.specs.declared.Stamp.{Stamp}
use Rattle.formats.specs.declared.Stamp.TheVariants.{Date, Time}
use Rattle.format_field.specs.Reading.{format_field}
use Rattle.normal.proofs.Round.{every-row, item-parted, normal-is}
use Rattle.forms.proofs.Growing.{Inside}
use Rattle.keeps_sound.proofs.Unbroken.{Unbroken, format-unbroken}

pub inside-append : (a b : List ℕ) → Inside a → Inside b → Inside (a ++ b)
inside-append [] b h k = k
inside-append (x ∷ a) b h k = (h.0, inside-append a b h.1 k)

-- bytes of a class that has no LF
inside-class : (k : Class) → in_class k 10 ≡ false → (l : List ℕ) → T (all_in k l) → Inside l
unfolding all_in
inside-class k n [] h = tt
inside-class k n (b ∷ l) h =
    let q = and_T (in_class k b) (all_in k l) h in
    ((λ e. false≢true (sym n ∙ ap (in_class k) (sym e) ∙ T_true (in_class k b) q.0)), inside-class k n l q.1)

inside-decimal : (v : ℕ) → v < 1000000000 → Inside (decimal v)
unfolding between
inside-decimal v h = inside-class Digit refl (decimal v) (digits-class 19 v [] (omega arith) (unfold all_in in tt))

inside-quotes : (t : Bool) (l : List ℕ) → T (all_in Quoted l) → Inside (cased t (34 ∷ (l ++ (34 ∷ []))))
unfolding between
inside-quotes t l h = rw (cased-quotes t l)
    ((λ e. omega arith), inside-append (cased t l) (34 ∷ []) (inside-class Quoted refl (cased t l) (cased-quoted t l h)) ((λ e. omega arith), tt))

inside-text : (t : Bool) (s : List ℕ) (at n e : ℕ) → text_at s at ≡ Ok (n, e) → Inside (cased t (kept s at (n + 2)))
inside-text t s at n e h = let q = text-fits s at n e h in rw q.whole (inside-quotes t q.text q.legal)

inside-signed : (v : ℕ) → 0 < v → v < 2000000000 → Inside (signed v)
unfolding signed
inside-signed v h k = go (dec_lt v nought)
  where
    go : Dec (v < nought) → Inside (cond (ltb v nought) (45 ∷ decimal (nought - v)) (43 ∷ decimal (v - nought)))
    go (yes m) = rw (lt-ltb v nought m) ((λ e. omega arith), inside-decimal (nought - v) (omega arith))
    go (no m) = rw (le-ltb v nought (omega arith)) ((λ e. omega arith), inside-decimal (v - nought) (omega arith))

inside-letter : (k : Class) → in_class k 10 ≡ false → (s : List ℕ) (at v : ℕ) → (in_class k v ≡ true) × (kept s at 1 ≡ v ∷ []) → Inside (cased false (kept s at 1))
inside-letter k n s at v h = rw (cased_kept (kept s at 1), h.1) ((λ e. false≢true (sym n ∙ ap (in_class k) (sym e) ∙ h.0)), tt)

inside-type : (s : List ℕ) (at v : ℕ) → TypeFits s at v → Inside (cased false (kept s at (cond (eqb v 30) 3 1)))
inside-type s at v (one h) = rw (cased_kept (kept s at 1), h) ((λ e. omega arith), tt)
inside-type s at v (two h) = rw (cased_kept (kept s at 1), h) ((λ e. omega arith), tt)
inside-type s at v (three h) = rw (cased_kept (kept s at 1), h) ((λ e. omega arith), tt)
inside-type s at v (ean h) = rw (cased_kept (kept s at 3), h) ((λ e. omega arith), ((λ e. omega arith), ((λ e. omega arith), tt)))

inside-word : (v : ℕ) → Word v → Inside (word_written v)
unfolding word_written
inside-word v nothing = ((λ e. omega arith), tt)
inside-word v left = ((λ e. omega arith), tt)
inside-word v centre = ((λ e. omega arith), ((λ e. omega arith), ((λ e. omega arith), tt)))
inside-word v right = ((λ e. omega arith), ((λ e. omega arith), ((λ e. omega arith), tt)))

-- ---- data

inside-part : (p : Part) → PartFits p → Inside (part_written p)
unfolding part_written
inside-part Whole h = tt
inside-part (First n) h = ((λ e. omega arith), inside-decimal n h)
inside-part (Last n) h = ((λ e. omega arith), inside-decimal n h)
inside-part (Middle p n) h =
    ((λ e. omega arith), inside-append (decimal p) (46 ∷ decimal n) (inside-decimal p h.0) ((λ e. omega arith), inside-decimal n h.1))

inside-element : (s : List ℕ) (at : ℕ) (e : Element) → Fits s at e → Inside (element_written s e)
unfolding what_written
inside-element s at e (is-text n d h) = subst Inside (cased_kept (kept s at (n + 2))) (inside-text false s at n d h)
inside-element s at e (is-variable k p n h f) =
    ((λ e. omega arith), inside-append (decimal k) (part_written p) (inside-decimal k (omega arith)) (inside-part p f))
inside-element s at e (is-counter k p n h f) =
    ((λ e. omega arith), inside-append (decimal k) (part_written p) (inside-decimal k (omega arith)) (inside-part p f))
inside-element s at e (is-stamp Date) = ((λ e. omega arith), ((λ e. omega arith), tt))
inside-element s at e (is-stamp Time) = ((λ e. omega arith), ((λ e. omega arith), tt))

inside-data : {s : List ℕ} {at : ℕ} {es : List Element} → Chain s at es → Inside (data_written s es)
unfolding data_written
inside-data (ended h) = tt
inside-data {s} {at} (then {e = e} {es = es} f c) = inside-append (element_written s e) (data_written s es) (inside-element s at e f) (inside-data c)

-- ---- formats

inside-rest : (s : List ℕ) (at : ℕ) → Unbroken s at (length s) → Inside (drop at s)
inside-rest [] zero h = tt
inside-rest [] (suc at) h = tt
inside-rest (b ∷ l) zero h = (h 0 (omega arith) (omega arith), inside-rest l zero (λ i k m. h (suc i) (omega arith) (omega arith)))
inside-rest (b ∷ l) (suc at) h = inside-rest l at (λ i k m. h (suc i) (omega arith) (omega arith))

inside-format : (st : Stamp) (s : List ℕ) (at v e : ℕ) → format_field st s at ≡ Ok (v, e) → Inside (cased false (drop at s))
inside-format st s at v e h = rw (cased_kept (drop at s)) (inside-rest s at (format-unbroken st s at v e h))

-- ---- the fields of a form

inside-field : {f : ℕ} (x : Letter f) (s : List ℕ) (at v e : ℕ) → (f ≡ 10 → ⊥) → field_at f s at ≡ Ok (v, e) → Inside (written_field f s v at)
unfolding field_at written_field between
inside-field a-number s at v e n h = inside-decimal v (number_fits s at v e h)
inside-field a-wide s at v e n h = inside-decimal v (number_fits s at v e h)
inside-field a-day s at v e n h = inside-decimal v (number_fits s at v e h)
inside-field a-step s at v e n h = let q = signed-fits s at v e h in inside-signed v q.0 q.1
inside-field a-prompt s at v e n h = inside-text false s at v e h
inside-field a-text s at v e n h = inside-text false s at v e h
inside-field a-name s at v e n h = inside-text true s at v e h
inside-field a-star s at v e n h = inside-text true s at v e h
inside-field a-mode s at v e n h = inside-letter Mode refl s at v (letter-fits Mode s at v e h)
inside-field a-side s at v e n h = inside-letter Side refl s at v (letter-fits Side s at v e h)
inside-field a-type s at v e n h = inside-type s at v (type-fits s at v e h)
inside-field a_word s at v e n h = inside-word v (word_fits s at v e h).letter
inside-field some-data s at v e n h = inside-data (chain-of s at v e h)
inside-field a-date s at v e n h = inside-format Date s at v e h
inside-field a-time s at v e n h = inside-format Time s at v e h
inside-field (itself p) s at v e n h = rw (plain-written p s v at) (n, tt)

-- no form has an LF
unfoldable lines : List ℕ → Bool
lines [] = true
lines (f ∷ fs) = not (eqb f 10) && lines fs

line_row : ℕ → List ℕ → Bool
line_row row fs = lines fs

row-lines : (row : ℕ) → T (lines (row_of row).fields)
unfolding line_row lines
row-lines row = every-row line_row forms 0 tt (λ k. tt) row

no-lf : (f : ℕ) → T (not (eqb f 10)) → f ≡ 10 → ⊥
no-lf f h e = rw (eq-eqb f 10 e) at h

split-written : (f : ℕ) (fs s ws qs : List ℕ) (v at : ℕ) (vs ps : List ℕ) → ws ≡ v ∷ vs → qs ≡ at ∷ ps
    → Inside (written_field f s v at) → Inside (written_from fs s vs ps) → Inside (written_from (f ∷ fs) s ws qs)
unfolding written_from
split-written f fs s ws qs v at vs ps a b h k = rw (a, b) (inside-append (written_field f s v at) (written_from fs s vs ps) h k)

inside-fields : (fs s : List ℕ) (at : ℕ) (vs ps : List ℕ) → T (lines fs) → fields_from fs s at ≡ good vs ps → Inside (written_from fs s vs ps)
unfolding lines
inside-fields [] s at vs ps t h = unfold written_from in tt
inside-fields (f ∷ fs) s at vs ps t h =
    let x = fields_split f fs s at vs ps h in
    let n = and_T (not (eqb f 10)) (lines fs) t in
    split-written f fs s vs ps x.v at x.vs x.ps x.values x.places
    (inside-field (letter-of f) s at x.v x.e (no-lf f n.0) x.first) (inside-fields fs s x.e x.vs x.ps n.1 x.others)

-- THE NORMAL FORM IS ONE LINE
pub normal-inside : (rows : ℕ) (s : List ℕ) (i : Item) → read_of rows s ≡ Ok (item i) → Inside (normal s)
normal-inside rows s i h =
    let p = item-parted rows s i h in
    rw (normal-is s p.row p.vs p.ps p.head p.read) (inside-fields (row_of p.row).fields s 0 p.vs p.ps (row-lines p.row) p.read)
