-- Data, written: reading it gives the same elements back, and writing them again gives the same bytes.
use Rattle.std.specs.Prelude.{Result, Ok, Err}
use mathlib.Core.Path.{◌≡◌, ◌∙◌, refl, sym, ap}
use mathlib.Core.Bool.{Bool, true, false, cond, ◌&&◌}
use mathlib.Core.List.{List, [], ◌∷◌, ◌++◌, append_assoc}
use Prim.Native.Nat.{ℕ, zero, suc, ◌+◌, ◌-◌, ◌≤◌, ◌<◌}
use Prim.Native.Char.{code}
use native.Mathlib.Nat.{add-zero}
use native.Mathlib.Omega.{arith}
use lib.Dec.{ltb, eqb}
use lib.ListN.{length, get_or, length-append}
use lib.Seq.{get_or-append_seam, get_or-append-add}
use borrow.Author.Tests.{lt-ltb, ltb-true, eq-eqb, eqb-true}
use Rattle.kinds.specs.Bytes.{between}
use Rattle.classes.specs.declared.Class.TheVariants.{Digit}
use Rattle.elements.specs.declared.Part.{Part}
use Rattle.elements.specs.declared.Part.TheVariants.{Whole, First, Last, Middle}
use Rattle.elements.specs.declared.What.TheVariants.{Text, Variable, Counter, Stamped}
use Rattle.formats.specs.declared.Stamp.{Stamp}
use Rattle.formats.specs.declared.Stamp.TheVariants.{Date, Time}
use Rattle.elements.specs.declared.Element.{Element}
use Rattle.classes.specs.Bytes.{in_class}
use Rattle.writing.specs.Number.{digit_of, number_at, Small}
use Rattle.fields.proofs.Pairs.{ok_first, ok_second}
use Rattle.fields.specs.Field.{text_at, byte_at, pointed}
use Rattle.elements.specs.Elements.{first, last, middle, middle-dot, middle-n, modifier_at, quoted_from, held_from, modified, held_at, stamped_from, stamped_at, element_at, after, elements}
use Rattle.read.specs.Data.{total, stopped, data_at, what_good, limits}
use Rattle.classes.proofs.Laws.{in-range}
use Rattle.writing.proofs.Laws.{digit-small, number_small}
use Rattle.elements.proofs.Steps.{element-past, elements-next, elements-stop, Took, element-took}
use Rattle.read.proofs.Steps.{total-next}
use Rattle.writing.specs.Writing.{digit_byte, decimal, kept}
use Rattle.normal.specs.Written.{part_written, stamp_written, what_written, element_written, data_written}
use Rattle.normal.specs.Contents.{pieces}
use Rattle.writing.proofs.Writes.{digits_last}
use Rattle.normal.proofs.Back.{number-back, text-back, byte-back, text-fits, kept_back}

-- ---- what an element that was read is

-- the numbers of a modifier that was read
abbrev pub PartFits : Part → Type 0
PartFits Whole = Unit {0}
PartFits (First n) = n < 1000000000
PartFits (Last n) = n < 1000000000
PartFits (Middle p n) = (p < 1000000000) × (n < 1000000000)

abbrev ModifierFits : Result (Part × ℕ) ℕ → Type 0
ModifierFits (Ok (p, e)) = PartFits p
ModifierFits (Err q) = Unit {0}

first_fits : (at : ℕ) (f : Result (ℕ × ℕ) ℕ) → Small f → ModifierFits (first at f)
first_fits at (Ok (n, e)) h = h
first_fits at (Err p) h = tt

last_fits : (at : ℕ) (f : Result (ℕ × ℕ) ℕ) → Small f → ModifierFits (last at f)
last_fits at (Ok (n, e)) h = h
last_fits at (Err p) h = tt

middle-n-fits : (p at : ℕ) (f : Result (ℕ × ℕ) ℕ) → p < 1000000000 → Small f → ModifierFits (middle-n p at f)
middle-n-fits p at (Ok (n, e)) k h = (k, h)
middle-n-fits p at (Err q) k h = tt

middle-dot-fits : (p : ℕ) (s : List ℕ) (at : ℕ) (f : Result (ℕ × ℕ) ℕ) → p < 1000000000 → ModifierFits (middle-dot p s at f)
middle-dot-fits p s at (Ok (d, e)) k = middle-n-fits p e (number_at s e) k (number_small s e)
middle-dot-fits p s at (Err q) k = tt

middle-fits : (s : List ℕ) (at : ℕ) (f : Result (ℕ × ℕ) ℕ) → Small f → ModifierFits (middle s at f)
middle-fits s at (Ok (p, e)) h = middle-dot-fits p s e (byte_at (code ".") s e) h
middle-fits s at (Err q) h = tt

modifier-fits : (s : List ℕ) (at : ℕ) → ModifierFits (modifier_at s at)
unfolding modifier_at
modifier-fits s at = go (eqb (get_or s at 0) (code "L")) (eqb (get_or s at 0) (code "R")) (eqb (get_or s at 0) (code "M"))
  where
    go : (a b c : Bool)
        → ModifierFits
        (cond a (first (at + 1) (number_at s (at + 1)))
        (cond b (last (at + 1) (number_at s (at + 1)))
        (cond c (middle s (at + 1) (number_at s (at + 1)))
        (Ok (Whole, at)))))
    go true b c = first_fits (at + 1) (number_at s (at + 1)) (number_small s (at + 1))
    go false true c = last_fits (at + 1) (number_at s (at + 1)) (number_small s (at + 1))
    go false false true = middle-fits s (at + 1) (number_at s (at + 1)) (number_small s (at + 1))
    go false false false = tt

-- a quoted text, the digit and the modifier of a variable or a counter, or the date or the time of day
pub data Fits (s : List ℕ) (at : ℕ) : Element → Type 0 where
  a-text : (n e : ℕ) → text_at s at ≡ Ok (n, e) → Fits s at (record { what = Text; at = at; length = n + 2 })
  a-variable : (k : ℕ) (p : Part) (n : ℕ) → k < 10 → PartFits p → Fits s at (record { what = Variable k p; at = at; length = n })
  a-counter : (k : ℕ) (p : Part) (n : ℕ) → k < 10 → PartFits p → Fits s at (record { what = Counter k p; at = at; length = n })
  a-stamp : (st : Stamp) → Fits s at (record { what = Stamped st; at = at; length = 2 })

abbrev StepFits : List ℕ → ℕ → Result Element ℕ → Type 0
StepFits s at (Ok e) = Fits s at e
StepFits s at (Err p) = Unit {0}

quoted-fits : (s : List ℕ) (at : ℕ) (f : Result (ℕ × ℕ) ℕ) → text_at s at ≡ f → StepFits s at (quoted_from at f)
quoted-fits s at (Ok (n, e)) h = a-text n e h
quoted-fits s at (Err p) h = tt

modified-fits : (counter : Bool) (digit : ℕ) (s : List ℕ) (at : ℕ) (m : Result (Part × ℕ) ℕ) → ModifierFits m → StepFits s at (modified counter digit s at m)
modified-fits true digit s at (Ok (p, e)) h = a-counter (digit_of digit) p (e - at) (let l = digit-small digit in omega arith) h
modified-fits false digit s at (Ok (p, e)) h = a-variable (digit_of digit) p (e - at) (let l = digit-small digit in omega arith) h
modified-fits counter digit s at (Err q) h = tt

held_fits : (counter : Bool) (s : List ℕ) (at : ℕ) → StepFits s at (held_at counter s at)
unfolding held_at
held_fits counter s at = go (between (code "0") (code "9") (get_or s (at + 1) 0))
  where
    go : (t : Bool)
        → StepFits s at (cond t (modified counter (get_or s (at + 1) 0) s at (modifier_at s (at + 2))) (Err (pointed s at (at + 1))))
    go true = modified-fits counter (get_or s (at + 1) 0) s at (modifier_at s (at + 2)) (modifier-fits s (at + 2))
    go false = tt

stamped-fits : (s : List ℕ) (at : ℕ) → StepFits s at (stamped_at s at)
unfolding stamped_at
stamped-fits s at = go (eqb (get_or s (at + 1) 0) (code "D")) (eqb (get_or s (at + 1) 0) (code "T"))
  where
    go : (a b : Bool) → StepFits s at (cond a (stamped_from at Date) (cond b (stamped_from at Time) (Err (pointed s at (at + 1)))))
    go true b = a-stamp Date
    go false true = a-stamp Time
    go false false = tt

step_fits : (s : List ℕ) (at : ℕ) → StepFits s at (element_at s at)
unfolding element_at
step_fits s at = go (eqb (get_or s at 0) (code "\"")) (eqb (get_or s at 0) (code "V")) (eqb (get_or s at 0) (code "C")) (eqb (get_or s at 0) (code "T"))
  where
    go : (a b c d : Bool)
        → StepFits s at (cond a (quoted_from at (text_at s at)) (cond b (held_at false s at) (cond c (held_at true s at) (cond d (stamped_at s at) (Err at)))))
    go true b c d = quoted-fits s at (text_at s at) refl
    go false true c d = held_fits false s at
    go false false true d = held_fits true s at
    go false false false true = stamped-fits s at
    go false false false false = tt

pub element-fits : (s : List ℕ) (at : ℕ) (e : Element) → element_at s at ≡ Ok e → Fits s at e
element-fits s at e h = rw h at (step_fits s at)

-- ---- one element, read back

-- what may follow an element: nothing, or the first byte of another
pub record Opens (b : ℕ) : Type 0 where
  pub no_digit : in_class Digit b ≡ false
  pub no-first : eqb b (code "L") ≡ false
  pub no_last : eqb b (code "R") ≡ false
  pub no_middle : eqb b (code "M") ≡ false

opens-none : Opens 0
opens-none = record { no_digit = unfold between in refl; no-first = refl; no_last = refl; no_middle = refl }

opens-quote : Opens (code "\"")
opens-quote = record { no_digit = unfold between in refl; no-first = refl; no_last = refl; no_middle = refl }

opens-variable : Opens (code "V")
opens-variable = record { no_digit = unfold between in refl; no-first = refl; no_last = refl; no_middle = refl }

opens-counter : Opens (code "C")
opens-counter = record { no_digit = unfold between in refl; no-first = refl; no_last = refl; no_middle = refl }

opens-stamp : Opens (code "T")
opens-stamp = record { no_digit = unfold between in refl; no-first = refl; no_last = refl; no_middle = refl }

-- a number, and a byte, after one more byte
number-then : (pre rest : List ℕ) (b v : ℕ) → v < 1000000000 → in_class Digit (get_or rest 0 0) ≡ false
    → number_at (pre ++ (b ∷ (decimal v ++ rest))) (length pre + 1) ≡ Ok (v, length pre + suc (length (decimal v)))
number-then pre rest b v h e =
    let a : (pre ++ (b ∷ [])) ++ (decimal v ++ rest) ≡ pre ++ (b ∷ (decimal v ++ rest)) = append_assoc pre (b ∷ []) (decimal v ++ rest) in
    let l : length (pre ++ (b ∷ [])) ≡ length pre + 1 = simp length-append (omega arith) in
    let q : length pre + 1 + length (decimal v) ≡ length pre + suc (length (decimal v)) = omega arith in
    (rw (a, l) at (number-back (pre ++ (b ∷ [])) rest v h e)) ∙ rw q

modifier-back : (pre rest : List ℕ) (p : Part) → PartFits p → Opens (get_or rest 0 0)
    → modifier_at (pre ++ (part_written p ++ rest)) (length pre) ≡ Ok (p, length pre + length (part_written p))
unfolding modifier_at part_written
modifier-back pre rest Whole h o =
    let g : get_or (pre ++ rest) (length pre) 0 ≡ get_or rest 0 0 =
    ap (λ k. get_or (pre ++ rest) k 0) (sym (add-zero (length pre))) ∙ get_or-append-add pre rest 0 0 in
    rw (g, o.no-first, o.no_last, o.no_middle, add-zero)
modifier-back pre rest (First n) h o =
    rw (get_or-append_seam pre (code "L") (decimal n ++ rest) 0, number-then pre rest (code "L") n h o.no_digit)
modifier-back pre rest (Last n) h o =
    rw (get_or-append_seam pre (code "R") (decimal n ++ rest) 0, number-then pre rest (code "R") n h o.no_digit)
modifier-back pre rest (Middle p n) h o =
    let w : List ℕ = decimal n ++ rest in
    let x : List ℕ = pre ++ (code "M" ∷ decimal p) in
    let s : List ℕ = pre ++ (code "M" ∷ (decimal p ++ (code "." ∷ w))) in
    let a : (decimal p ++ (code "." ∷ decimal n)) ++ rest ≡ decimal p ++ (code "." ∷ w) = append_assoc (decimal p) (code "." ∷ decimal n) rest in
    let b : x ++ (code "." ∷ w) ≡ s = append_assoc pre (code "M" ∷ decimal p) (code "." ∷ w) in
    let l : length x ≡ length pre + suc (length (decimal p)) = length-append pre (code "M" ∷ decimal p) in
    let d : byte_at (code ".") s (length pre + suc (length (decimal p))) ≡ Ok (code ".", length pre + suc (length (decimal p)) + 1) = rw (b, l) at (byte-back x w (code ".")) in
    let y : number_at s (length pre + suc (length (decimal p)) + 1) ≡ Ok (n, length pre + suc (length (decimal p)) + suc (length (decimal n))) =
    rw (b, l) at (number-then x rest (code ".") n h.1 o.no_digit) in
    let q : length pre + suc (length (decimal p)) + suc (length (decimal n)) ≡ length pre + suc (length (decimal p ++ (code "." ∷ decimal n))) =
    (let z = length-append (decimal p) (code "." ∷ decimal n) in omega arith) in
    rw (a, get_or-append_seam pre (code "M") (decimal p ++ (code "." ∷ w)) 0, number-then pre (code "." ∷ w) (code "M") p h.0 (unfold between in refl), d, y, q)

-- the element that stands for e in the written line, at a place
abbrev pub placed : List ℕ → ℕ → Element → Element
placed s at e = record { what = e.what; at = at; length = length (element_written s e) }

held_back : (counter : Bool) (pre rest : List ℕ) (b k : ℕ) (p : Part) → k < 10 → PartFits p → Opens (get_or rest 0 0)
    → held_at counter (pre ++ (b ∷ ((decimal k ++ part_written p) ++ rest))) (length pre)
    ≡ Ok (record { what = held_from counter (digit_byte k) p; at = length pre; length = length (b ∷ (decimal k ++ part_written p)) })
unfolding held_at
held_back counter pre rest b k p h f o =
    let c : decimal k ≡ digit_byte k ∷ [] = digits_last 19 k [] h in
    let w : List ℕ = part_written p ++ rest in
    let s : List ℕ = pre ++ (b ∷ (digit_byte k ∷ w)) in
    let x : List ℕ = pre ++ (b ∷ (digit_byte k ∷ [])) in
    let a : x ++ w ≡ s = append_assoc pre (b ∷ (digit_byte k ∷ [])) w in
    let l : length x ≡ length pre + 2 = length-append pre (b ∷ (digit_byte k ∷ [])) in
    let g : get_or s (length pre + 1) 0 ≡ digit_byte k = get_or-append-add pre (b ∷ (digit_byte k ∷ w)) 1 0 in
    let m : modifier_at s (length pre + 2) ≡ Ok (p, length pre + 2 + length (part_written p)) = rw (a, l) at (modifier-back x rest p f o) in
    let q : length pre + 2 + length (part_written p) - length pre ≡ suc (suc (length (part_written p))) = omega arith in
    rw (c, g, in-range (code "0") (code "9") (digit_byte k) (omega arith) (omega arith), m, q)

digit-back : (k : ℕ) → k < 10 → digit_of (digit_byte k) ≡ k
digit-back k h = rw (in-range (code "0") (code "9") (digit_byte k) (omega arith) (omega arith)) (omega arith)

stamp-back : (st : Stamp) (pre rest : List ℕ) → stamped_at (pre ++ (stamp_written st ++ rest)) (length pre) ≡ stamped_from (length pre) st
unfolding stamped_at
stamp-back Date pre rest = rw (get_or-append-add pre (code "T" ∷ code "D" ∷ rest) 1 0)
stamp-back Time pre rest = rw (get_or-append-add pre (code "T" ∷ code "T" ∷ rest) 1 0)

pub element-back : (s : List ℕ) (at : ℕ) (e : Element) (pre rest : List ℕ) → Fits s at e → Opens (get_or rest 0 0)
    → element_at (pre ++ (element_written s e ++ rest)) (length pre) ≡ Ok (placed s (length pre) e)
unfolding element_at what_written
element-back s at e pre rest (a-text n d h) o =
    let q = text-fits s at n d h in
    let t : List ℕ = q.text in
    let a : (code "\"" ∷ (t ++ (code "\"" ∷ []))) ++ rest ≡ code "\"" ∷ (t ++ (code "\"" ∷ rest)) = ap (λ (l : List ℕ). code "\"" ∷ l) (append_assoc t (code "\"" ∷ []) rest) in
    let c : length (code "\"" ∷ (t ++ (code "\"" ∷ []))) ≡ length t + 2 = (let z = length-append t (code "\"" ∷ []) in omega arith) in
    rw (q.whole, a, get_or-append_seam pre (code "\"") (t ++ (code "\"" ∷ rest)) 0, text-back pre rest t q.legal, c)
element-back s at e pre rest (a-variable k p n h f) o =
    rw (get_or-append_seam pre (code "V") ((decimal k ++ part_written p) ++ rest) 0, held_back false pre rest (code "V") k p h f o, digit-back k h)
element-back s at e pre rest (a-counter k p n h f) o =
    rw (get_or-append_seam pre (code "C") ((decimal k ++ part_written p) ++ rest) 0, held_back true pre rest (code "C") k p h f o, digit-back k h)
element-back s at e pre rest (a-stamp Date) o = rw (get_or-append_seam pre (code "T") (code "D" ∷ rest) 0, stamp-back Date pre rest)
element-back s at e pre rest (a-stamp Time) o = rw (get_or-append_seam pre (code "T") (code "T" ∷ rest) 0, stamp-back Time pre rest)

-- an element's first byte
pub element-opens : (s : List ℕ) (at : ℕ) (e : Element) (rest : List ℕ) → Fits s at e → Opens (get_or (element_written s e ++ rest) 0 0)
unfolding what_written
element-opens s at e rest (a-text n d h) = rw (text-fits s at n d h).whole opens-quote
element-opens s at e rest (a-variable k p n h f) = opens-variable
element-opens s at e rest (a-counter k p n h f) = opens-counter
element-opens s at e rest (a-stamp Date) = opens-stamp
element-opens s at e rest (a-stamp Time) = opens-stamp

-- written again, it is the same
pub element-again : (s : List ℕ) (at : ℕ) (e : Element) (pre rest : List ℕ) → Fits s at e
    → element_written (pre ++ (element_written s e ++ rest)) (placed s (length pre) e) ≡ element_written s e
unfolding what_written
element-again s at e pre rest (a-text n d h) = kept_back pre (kept s at (n + 2)) rest
element-again s at e pre rest (a-variable k p n h f) = refl
element-again s at e pre rest (a-counter k p n h f) = refl
element-again s at e pre rest (a-stamp st) = refl

-- ---- all elements to the end of the line

pub data Chain (s : List ℕ) : ℕ → List Element → Type 0 where
  ended : {at : ℕ} → at ≡ length s → Chain s at []
  then : {at : ℕ} {e : Element} {es : List Element} → Fits s at e → Chain s (after e) es → Chain s at (e ∷ es)

chain-end : (s : List ℕ) (at p : ℕ) → element_at s at ≡ Err p → at + total (elements s at) ≡ length s → Chain s at (elements s at)
chain-end s at p q k =
    let z : elements s at ≡ [] = elements-stop s at p q in
    let t : total (elements s at) ≡ 0 = rw z (unfold total in refl) in
    let l : at ≡ length s = omega arith in
    rw z (ended {at = at} l)

chain_by : (n : ℕ) (s : List ℕ) (at : ℕ) → length s ≤ n + at → at + total (elements s at) ≡ length s → Chain s at (elements s at)
chain_by zero s at h k = chain-end s at at (element-past s at (omega arith)) k
chain_by (suc n) s at h k = go (element_at s at) refl (λ i l e. chain_by n s i l e)
  where
    go : (x : Result Element ℕ) → element_at s at ≡ x
        → ((i : ℕ) → length s ≤ n + i → i + total (elements s i) ≡ length s → Chain s i (elements s i))
        → Chain s at (elements s at)
    go (Err p) q r = chain-end s at p q k
    go (Ok e) q r =
        let t : Took s at (Ok e) = rw q at (element-took s at) in
        rw (elements-next s at e q)
        (then (element-fits s at e q) (r (after e) (omega (arith, t)) (sym (total-next s at e q) ∙ k)))

-- data that was read is a chain to the end of the line
pub chain-of : (s : List ℕ) (at v e : ℕ) → data_at s at ≡ Ok (v, e) → Chain s at (elements s at)
unfolding data_at
chain-of s at v e h =
    go (ltb at (at + total (elements s at))) (eqb (at + total (elements s at)) (length s)) refl h
  where
    go : (a b : Bool) → eqb (at + total (elements s at)) (length s) ≡ b
        → cond {A = Result (ℕ × ℕ) ℕ} (a && b) (Ok (0, at + total (elements s at))) (Err (stopped (at + total (elements s at)) (element_at s (at + total (elements s at))))) ≡ Ok (v, e)
        → Chain s at (elements s at)
    go true true p q = chain_by (length s) s at (omega arith) (eqb-true (at + total (elements s at)) (length s) p)
    go true false p q = absurd (let z : ◌≡◌ {A = ℕ} 0 1 = cc in omega arith)
    go false b p q = absurd (let z : ◌≡◌ {A = ℕ} 0 1 = cc in omega arith)

-- the first byte of what is written
chain-opens : {s : List ℕ} {at : ℕ} {es : List Element} → Chain s at es → Opens (get_or (data_written s es) 0 0)
unfolding data_written
chain-opens (ended h) = opens-none
chain-opens {s} {at} (then {e = e} {es = es} f c) = element-opens s at e (data_written s es) f

-- the elements in the written line
abbrev pub moved : List ℕ → ℕ → List Element → List Element
moved s at [] = []
moved s at (e ∷ es) = placed s at e ∷ moved s (at + length (element_written s e)) es

pub elements-back : {s : List ℕ} {at : ℕ} {es : List Element} (pre : List ℕ) → Chain s at es
    → elements (pre ++ data_written s es) (length pre) ≡ moved s (length pre) es
unfolding data_written
elements-back pre (ended h) =
    let l : length (pre ++ []) ≤ length pre = (let z = length-append pre [] in omega arith) in
    elements-stop (pre ++ []) (length pre) (length pre) (element-past (pre ++ []) (length pre) l)
elements-back {s} {at} pre (then {e = e} {es = es} f c) =
    let w : List ℕ = element_written s e in
    let rest : List ℕ = data_written s es in
    let n = element-back s at e pre rest f (chain-opens c) in
    let r = elements-back (pre ++ w) c in
    elements-next (pre ++ (w ++ rest)) (length pre) (placed s (length pre) e) n
    ∙ ap (λ (l : List Element). placed s (length pre) e ∷ l) (rw (append_assoc pre w rest, length-append pre w) at r)

moved-total : {s : List ℕ} {at : ℕ} {es : List Element} (i : ℕ) → Chain s at es → total (moved s i es) ≡ length (data_written s es)
unfolding total data_written
moved-total i (ended h) = refl
moved-total {s} {at} i (then {e = e} {es = es} f c) =
    rw (length-append (element_written s e) (data_written s es), moved-total (i + length (element_written s e)) c)

-- a chain is not empty before the end of the line
chain-some : {s : List ℕ} {at : ℕ} {es : List Element} → Chain s at es → at < length s → 0 < length (data_written s es)
unfolding data_written what_written
chain-some (ended h) l = absurd (omega arith)
chain-some {s} {at} (then {e = e} {es = es} (a-text n d h) c) l = rw (text-fits s at n d h).whole (omega arith)
chain-some {s} {at} (then {e = e} {es = es} (a-variable k p n h f) c) l = omega arith
chain-some {s} {at} (then {e = e} {es = es} (a-counter k p n h f) c) l = omega arith
chain-some {s} {at} (then {e = e} {es = es} (a-stamp Date) c) l = omega arith
chain-some {s} {at} (then {e = e} {es = es} (a-stamp Time) c) l = omega arith

pub data-back : {s : List ℕ} {at : ℕ} {es : List Element} (pre : List ℕ) → Chain s at es → at < length s
    → data_at (pre ++ data_written s es) (length pre) ≡ Ok (0, length pre + length (data_written s es))
unfolding data_at
data-back {s} {at} {es} pre c l =
    let w : List ℕ = pre ++ data_written s es in
    let e : length pre + total (elements w (length pre)) ≡ length pre + length (data_written s es) =
    rw (elements-back pre c) (ap (λ n. length pre + n) (moved-total (length pre) c)) in
    let n : length w ≡ length pre + length (data_written s es) = length-append pre (data_written s es) in
    let k = chain-some c l in
    rw (e, lt-ltb (length pre) (length pre + length (data_written s es)) (omega arith), eq-eqb (length pre + length (data_written s es)) (length w) (sym n))

pub data-again : {s : List ℕ} {at : ℕ} {es : List Element} (pre : List ℕ) → Chain s at es
    → data_written (pre ++ data_written s es) (moved s (length pre) es) ≡ data_written s es
unfolding data_written
data-again pre (ended h) = refl
data-again {s} {at} pre (then {e = e} {es = es} f c) =
    let w : List ℕ = element_written s e in
    let rest : List ℕ = data_written s es in
    let r = data-again (pre ++ w) c in
    let q : data_written (pre ++ (w ++ rest)) (moved s (length pre + length w) es) ≡ rest = rw (append_assoc pre w rest, length-append pre w) at r in
    rw (element-again s at e pre rest f, q)

-- the limits of its modifiers are the same
pub limits-back : (s : List ℕ) (i : ℕ) (es : List Element) → limits es ≡ Ok tt → limits (moved s i es) ≡ Ok tt
unfolding limits
limits-back s i [] h = refl
limits-back s i (e ∷ es) h = go (what_good e.what) h (limits-back s (i + length (element_written s e)) es)
  where
    go : (t : Bool) → cond t (limits es) (Err e.at) ≡ Ok tt
        → (limits es ≡ Ok tt → limits (moved s (i + length (element_written s e)) es) ≡ Ok tt)
        → cond t (limits (moved s (i + length (element_written s e)) es)) (Err i) ≡ Ok tt
    go true k r = r k
    go false k r = absurd (let z : ◌≡◌ {A = ℕ} 0 1 = cc in omega arith)

-- what each element is, and how it is written, stays
pub pieces-back : {s : List ℕ} {at : ℕ} {es : List Element} (pre : List ℕ) → Chain s at es
    → pieces (pre ++ data_written s es) (moved s (length pre) es) ≡ pieces s es
unfolding pieces data_written
pieces-back pre (ended h) = refl
pieces-back {s} {at} pre (then {e = e} {es = es} f c) =
    let w : List ℕ = element_written s e in
    let rest : List ℕ = data_written s es in
    let r = pieces-back (pre ++ w) c in
    let q : pieces (pre ++ (w ++ rest)) (moved s (length pre + length w) es) ≡ pieces s es = rw (append_assoc pre w rest, length-append pre w) at r in
    rw (element-again s at e pre rest f, q)

-- data that was read starts within the line
pub data-inside : (s : List ℕ) (at v e : ℕ) → data_at s at ≡ Ok (v, e) → (v ≡ 0) × (at < length s)
unfolding data_at
data-inside s at v e h =
    go (ltb at (at + total (elements s at))) (eqb (at + total (elements s at)) (length s)) refl refl h
  where
    go : (a b : Bool) → ltb at (at + total (elements s at)) ≡ a → eqb (at + total (elements s at)) (length s) ≡ b
        → cond {A = Result (ℕ × ℕ) ℕ} (a && b) (Ok (0, at + total (elements s at))) (Err (stopped (at + total (elements s at)) (element_at s (at + total (elements s at))))) ≡ Ok (v, e)
        → (v ≡ 0) × (at < length s)
    go true true p q k =
        let l = ltb-true at (at + total (elements s at)) p in
        let r = eqb-true (at + total (elements s at)) (length s) q in
        (sym (ok_first k), omega arith)
    go true false p q k = absurd (let z : ◌≡◌ {A = ℕ} 0 1 = cc in omega arith)
    go false b p q k = absurd (let z : ◌≡◌ {A = ℕ} 0 1 = cc in omega arith)
