-- Paper 02, §2: the places of answers 6 and 7 lie in the line. Of 6 the LF may be at fault, of 7 it never is.
use Rattle.std.specs.Prelude.{Result, Ok, Err}
use mathlib.Core.Path.{◌≡◌, ◌∙◌, refl, sym}
use mathlib.Core.Bool.{Bool, true, false, cond, ◌&&◌}
use mathlib.Core.List.{List, [], ◌∷◌}
use Prim.Native.Nat.{ℕ, zero, suc, ◌-◌, ◌≤◌, ◌<◌}
use Prim.Native.Char.{code}
use native.Mathlib.Omega.{arith}
use lib.Dec.{eqb}
use lib.ListN.{length, get_or, drop}
use Rattle.kinds.specs.Bytes.{between}
use Rattle.elements.specs.Elements.{element_at, elements_from, elements, after, follow}
use Rattle.elements.proofs.Steps.{Took, element-took}
use Rattle.data_field.specs.Data.{what_good, limits}
use Rattle.grammar.specs.Forms.{row_of, bounds_of, command_of, free, limited, is_number, forms}
use Rattle.grammar.specs.declared.Command.{Command}
use Rattle.heads.specs.Heads.{head_of, letters_cut, letters_fault}
use Rattle.row_fields.specs.Reading.{Got, good, bad, fields_from}
use Rattle.row_fields.proofs.Rows.{fields_split}
use Rattle.row_limits.specs.Limits.{meets, field_limits, first_of, limits_from}
use Rattle.read.specs.Commands.{decided, judged, read_of}
use Rattle.read.specs.declared.Fault.TheVariants.{Form as form, Limit}
use Rattle.pointing.proofs.Pieces.{Sits}
use Rattle.pointing.proofs.Rows.{row-pointing, field-sits}
use Rattle.pointing.proofs.Soon.{row-fault, unknown-fault, read-row, read-unknown}
use Rattle.elements.specs.declared.Element.{Element}
use Rattle.std.proofs.Common.{Option, Some, None}
use Rattle.read.specs.declared.Fault.{Fault}

-- ---- the form

letters-inside : (s : List ℕ) → letters_fault s ≤ length s
unfolding letters_fault
letters-inside s = go (letters_cut forms s)
  where
    go : (t : Bool) → cond t (length s) 0 ≤ length s
    go true = omega arith
    go false = omega arith

-- the place of a line that has not the written form is one of its bytes, or its LF
pub form-inside : (rows : ℕ) (s : List ℕ) (p : ℕ) → read_of rows s ≡ Err (form p) → p ≤ length s
form-inside rows s p h = go (head_of s) refl
  where
    go : (x : Option ℕ) → head_of s ≡ x → p ≤ length s
    go None e = let z = unknown-fault rows s p h e in let y = letters-inside s in omega arith
    go (Some row) e = ((row-pointing row).points.within s 0 p (omega arith) (row-fault rows s p row h e)).1

-- ---- the limits

element-inside : (n : ℕ) (s : List ℕ) (at p : ℕ) → limits (elements_from n s at) ≡ Err p → p < length s
unfolding limits elements_from
element-inside zero s at p h = absurd (let z : ◌≡◌ {A = ℕ} 0 1 = cc in omega arith)
element-inside (suc n) s at p h = go (element_at s at) (element-took s at) h (λ i. element-inside n s i p)
  where
    go : (x : Result Element ℕ) → Took s at x → limits (follow x (elements_from n s)) ≡ Err p → ((i : ℕ) → limits (elements_from n s i) ≡ Err p → p < length s) → p < length s
    go (Err q) t k r = absurd (let z : ◌≡◌ {A = ℕ} 0 1 = cc in omega arith)
    go (Ok e) t k r = pick (what_good e.what) k
      where
        pick : (b : Bool) → cond b (limits (elements_from n s (after e))) (Err e.at) ≡ Err p → p < length s
        pick true j = r (after e) j
        pick false j = let z : e.at ≡ p = cc in omega arith

-- a field's place, or that of an element of data
field-inside : (f : ℕ) (l : ℕ × ℕ) (s : List ℕ) (u v at n p : ℕ) → at < length s → field_limits f l s u v at n ≡ Err p → p < length s
unfolding field_limits
field-inside f l s u v at n p h k = go (eqb f (code "d")) (limited f) (between l.0 l.1 v && meets f s u v at n) k
  where
    go : (a b c : Bool) → cond a (limits (elements s at)) (cond b (cond c (Ok tt) (Err at)) (Ok tt)) ≡ Err p → p < length s
    go true b c j = element-inside (length s - at) s at p (unfold elements in j)
    go false true true j = absurd (let z : ◌≡◌ {A = ℕ} 0 1 = cc in omega arith)
    go false true false j = let z : at ≡ p = cc in omega arith
    go false false c j = absurd (let z : ◌≡◌ {A = ℕ} 0 1 = cc in omega arith)

fields-inside : (fs s : List ℕ) (at u : ℕ) (ls : List (ℕ × ℕ)) (vs ps : List ℕ) (p : ℕ) → at ≤ length s → fields_from fs s at ≡ good vs ps
    → limits_from fs ls s u vs ps ≡ Err p → p < length s
unfolding limits_from
fields-inside [] s at u ls vs ps p h k j = absurd (let z : ◌≡◌ {A = ℕ} 0 1 = cc in omega arith)
fields-inside (f ∷ fs) s at u ls vs ps p h k j =
    let x = fields_split f fs s at vs ps k in
    let y : Sits s at (Ok (x.v, x.e)) = rw x.first at (field-sits f s at h) in
    go x.v x.vs x.ps (field_limits f (get_or ls 0 free) s u x.v at (get_or x.vs 1 0)) refl (split x.v x.vs x.ps x.values x.places) (omega arith) (λ w. fields-inside fs s x.e w (drop 1 ls) x.vs x.ps p y.1 x.others)
  where
    split : (v : ℕ) (ws qs : List ℕ) → vs ≡ v ∷ ws → ps ≡ at ∷ qs
        → first_of (field_limits f (get_or ls 0 free) s u v at (get_or ws 1 0)) (limits_from fs (drop 1 ls) s (cond (is_number f) v u) ws qs) ≡ Err p
    split v ws qs a b = rw (a, b) at j

    go : (v : ℕ) (ws qs : List ℕ) (m : Result Unit ℕ) → field_limits f (get_or ls 0 free) s u v at (get_or ws 1 0) ≡ m
        → first_of m (limits_from fs (drop 1 ls) s (cond (is_number f) v u) ws qs) ≡ Err p → at < length s
        → ((w : ℕ) → limits_from fs (drop 1 ls) s w ws qs ≡ Err p → p < length s)
        → p < length s
    go v ws qs (Ok x) q i l r = r (cond (is_number f) v u) i
    go v ws qs (Err c) q i l r = field-inside f (get_or ls 0 free) s u v at (get_or ws 1 0) p l (q ∙ i)

-- the place of what is outside its limits is a byte of the line
pub limit-inside : (rows : ℕ) (s : List ℕ) (p : ℕ) → read_of rows s ≡ Err (Limit p) → p < length s
limit-inside rows s p h = go (head_of s) refl
  where
    limited-by : (l : Result Unit ℕ) (c : Command) → decided l c ≡ Err (Limit p) → l ≡ Err p
    limited-by (Ok u) c k = absurd (let z : ◌≡◌ {A = ℕ} 0 1 = cc in omega arith)
    limited-by (Err q) c k = cc

    fields : (row : ℕ) (g : Got) → fields_from (row_of row).fields s 0 ≡ g → judged row rows s g ≡ Err (Limit p) → p < length s
    fields row (bad vs ps q) e k = absurd (let y : ◌≡◌ {A = Result Command Fault} (Err (form q)) (Err (Limit p)) = unfold judged in k in let z : ◌≡◌ {A = ℕ} 0 1 = cc in omega arith)
    fields row (good vs ps) e k =
        fields-inside (row_of row).fields s 0 0 (bounds_of row rows) vs ps p (omega arith) e
        (limited-by (limits_from (row_of row).fields (bounds_of row rows) s 0 vs ps) (command_of row s vs ps) (unfold judged in k))

    go : (x : Option ℕ) → head_of s ≡ x → p < length s
    go None e = absurd (let y = read-unknown rows s e in let z : ◌≡◌ {A = ℕ} 0 1 = cc in omega arith)
    go (Some row) e = fields row (fields_from (row_of row).fields s 0) refl (sym (read-row rows s row e) ∙ h)
