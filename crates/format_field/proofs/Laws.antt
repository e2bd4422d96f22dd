-- The laws of a format as a field of a line, for the rooms that put fields together: its value is a legal format; it is read from its own bytes alone; and its
-- faults lie within the line, stay where more follows, and can be mended where the line ends too soon.
use Rattle.std.specs.Prelude.{Result, Ok, Err}
use mathlib.Core.Path.{◌≡◌, refl, sym, ap, ◌∙◌}
use mathlib.Core.Bool.{true}
use mathlib.Core.List.{List, [], ◌∷◌, ◌++◌}
use Prim.Native.Nat.{ℕ, ◌+◌, ◌≤◌, ◌<◌}
use Prim.Native.Char.{code}
use native.Mathlib.Nat.{add-zero}
use native.Mathlib.Omega.{arith}
use lib.ListN.{length, take, drop, length-append, length-take, take-append-drop}
use Rattle.formats.specs.Bytes.{between}
use Rattle.fields.specs.Field.{stop_of}
use Rattle.formats.specs.declared.Format.{Format}
use Rattle.formats.specs.declared.Stamp.{Stamp}
use Rattle.formats.specs.declared.Stamp.TheVariants.{Date, Time}
use Rattle.formats.specs.Formats.{format, unit, new_unit, legal_format, packed, unpacked}
use Rattle.formats.proofs.Packing.{legal-unpacked}
use Rattle.fields.proofs.Pairs.{ok_first, ok_second}
use Rattle.format_field.specs.Reading.{letter, date_field, time_field, field_at, format_at, field_from, format_field}
use Rattle.format_field.proofs.Steps.{read-legal}
use Rattle.format_field.proofs.Moved.{found_on, format-on}
use Rattle.format_field.proofs.Faults.{founds}

-- ---- a field's value, and the format

pub format-is : (st : Stamp) (s : List ℕ) (at : ℕ) (f : Format) → format_at st s at ≡ Ok f → format_field st s at ≡ Ok (packed f, length s)
unfolding format_field
format-is st s at f h = rw h

pub format-wrong : (st : Stamp) (s : List ℕ) (at p : ℕ) → format_at st s at ≡ Err p → format_field st s at ≡ Err p
unfolding format_field
format-wrong st s at p h = rw h

-- a field that is read is a format, of which v is the number, to the end of the line
pub record Read (st : Stamp) (s : List ℕ) (at v e : ℕ) : Type 0 where
  pub found : Format
  pub reads : format_at st s at ≡ Ok found
  pub legal : legal_format st found ≡ true
  pub value : packed found ≡ v
  pub back : unpacked v ≡ found
  pub ends : e ≡ length s

pub format_read : (st : Stamp) (s : List ℕ) (at v e : ℕ) → format_field st s at ≡ Ok (v, e) → Read st s at v e
unfolding format_field
format_read st s at v e h = go (format_at st s at) refl h
  where
    go : (x : Result Format ℕ) → format_at st s at ≡ x → field_from s x ≡ Ok (v, e) → Read st s at v e
    go (Ok f) q k =
        let l = read-legal st s f at q in
        let w : packed f ≡ v = ok_first k in
        let i : length s ≡ e = ok_second k in
        record { found = f; reads = q; legal = l; value = w; back = rw (← w) (legal-unpacked st f l); ends = sym i }
    go (Err p) q k = absurd (let z : ◌≡◌ {A = ℕ} 0 1 = cc in omega arith)

pub format-not : (st : Stamp) (s : List ℕ) (at p : ℕ) → format_field st s at ≡ Err p → format_at st s at ≡ Err p
unfolding format_field
format-not st s at p h = go (format_at st s at) refl h
  where
    go : (x : Result Format ℕ) → format_at st s at ≡ x → field_from s x ≡ Err p → format_at st s at ≡ Err p
    go (Ok f) q k = absurd (let z : ◌≡◌ {A = ℕ} 0 1 = cc in omega arith)
    go (Err i) q k = q ∙ (let z : i ≡ p = cc in ap Err z)

-- THE VALUE OF A FORMAT'S FIELD IS A LEGAL FORMAT
pub value-legal : (st : Stamp) (s : List ℕ) (at v e : ℕ) → format_field st s at ≡ Ok (v, e) → legal_format st (unpacked v) ≡ true
value-legal st s at v e h = let r = format_read st s at v e h in rw r.back r.legal

-- ---- behind other bytes

-- the same with places n further on
abbrev pub field_on : ℕ → Result (ℕ × ℕ) ℕ → Result (ℕ × ℕ) ℕ
field_on n (Ok (v, e)) = Ok (v, n + e)
field_on n (Err p) = Err (n + p)

-- A FORMAT IS SAID BY THE BYTES FROM ITS PLACE ON
pub format-behind : (st : Stamp) (pre s : List ℕ) (at : ℕ) → format_field st (pre ++ s) (length pre + at) ≡ field_on (length pre) (format_field st s at)
unfolding format_field
format-behind st pre s at = rw (format-on st pre s at) (go (format_at st s at))
  where
    go : (x : Result Format ℕ) → field_from (pre ++ s) (found_on (length pre) x) ≡ field_on (length pre) (field_from s x)
    go (Ok f) = ap (λ e. Ok (packed f, e)) (length-append pre s)
    go (Err p) = refl

-- what is read from a place is read the same behind any other bytes
pub format-moved : (st : Stamp) (s pre : List ℕ) (at v e : ℕ) → at ≤ length s → format_field st s at ≡ Ok (v, e)
    → format_field st (pre ++ drop at s) (length pre) ≡ Ok (v, length pre + length (drop at s))
format-moved st s pre at v e h k = own (format_field st (drop at s) 0) refl
  where
    here : format_field st s at ≡ field_on at (format_field st (drop at s) 0)
    here =
        let n : length (take at s) ≡ at = length-take at s ∙ omega arith in
        let b : format_field st (take at s ++ drop at s) (length (take at s) + 0) ≡ field_on (length (take at s)) (format_field st (drop at s) 0) =
        format-behind st (take at s) (drop at s) 0 in
        rw (take-append-drop at s, n, add-zero) at b

    there : format_field st (pre ++ drop at s) (length pre) ≡ field_on (length pre) (format_field st (drop at s) 0)
    there =
        let b : format_field st (pre ++ drop at s) (length pre + 0) ≡ field_on (length pre) (format_field st (drop at s) 0) = format-behind st pre (drop at s) 0 in
        rw add-zero at b

    own : (x : Result (ℕ × ℕ) ℕ) → format_field st (drop at s) 0 ≡ x → format_field st (pre ++ drop at s) (length pre) ≡ Ok (v, length pre + length (drop at s))
    own (Ok (w, i)) q =
        let y : v ≡ w = ok_first (sym k ∙ (here ∙ ap (field_on at) q)) in
        let n = (format_read st (drop at s) 0 w i q).ends in
        there ∙ (ap (field_on (length pre)) q ∙ rw (y, n))
    own (Err p) q =
        absurd (let z : ◌≡◌ {A = Result (ℕ × ℕ) ℕ} (Ok (v, e)) (Err (at + p)) = sym k ∙ (here ∙ ap (field_on at) q) in let y : ◌≡◌ {A = ℕ} 0 1 = cc in omega arith)

-- ---- places

module _ (st : Stamp) (s : List ℕ) (at : ℕ) (h : at ≤ length s) where
  -- a format has bytes, and ends with the line
  pub format-ends : (v e : ℕ) → format_field st s at ≡ Ok (v, e) → (at < e) × (e ≡ length s)
  format-ends v e k =
      let r = format_read st s at v e k in
      let l = (founds st s at h).some r.found r.reads in
      let n = r.ends in
      (omega arith, n)

  -- its fault lies within the line
  pub format-fault : (p : ℕ) → format_field st s at ≡ Err p → (at ≤ p) × (p ≤ length s)
  format-fault p k = (founds st s at h).fault p (format-not st s at p k)

  -- A FAULT BEFORE THE END OF THE LINE STAYS, WHATEVER FOLLOWS
  pub format-firm : (m : List ℕ) → stop_of (format_field st s at) < length s → format_field st (s ++ m) at ≡ format_field st s at
  format-firm m = go (format_field st s at) refl
    where
      go : (x : Result (ℕ × ℕ) ℕ) → format_field st s at ≡ x → stop_of x < length s → format_field st (s ++ m) at ≡ x
      go (Ok (v, e)) q l = absurd (let n = (format-ends v e q).1 in omega arith)
      go (Err p) q l = format-wrong st (s ++ m) at p ((founds st s at h).firm m p (format-not st s at p q) l)

-- ---- what is missing

-- a format behind s: `DD`, or `H`
abbrev pub blank : Stamp → List ℕ
blank Date = code "D" ∷ code "D" ∷ []
blank Time = code "H" ∷ []

abbrev pub blank_format : Stamp → Format
blank_format Date = format 5 0 0 0 0
blank_format Time = format 1 0 0 0 0

blank-alone : (st : Stamp) → format_field st (blank st) 0 ≡ Ok (packed (blank_format st), length (blank st))
unfolding format_field format_at field_at date_field time_field letter unit new_unit between
blank-alone Date = refl
blank-alone Time = refl

pub format-blank : (st : Stamp) (s : List ℕ) → format_field st (s ++ blank st) (length s) ≡ Ok (packed (blank_format st), length s + length (blank st))
format-blank st s =
    let b : format_field st (s ++ blank st) (length s + 0) ≡ field_on (length s) (format_field st (blank st) 0) = format-behind st s (blank st) 0 in
    let e : format_field st (s ++ blank st) (length s) ≡ field_on (length s) (format_field st (blank st) 0) = rw add-zero at b in
    e ∙ ap (field_on (length s)) (blank-alone st)

-- what makes a format whole that ends too soon
pub record FormatRest (st : Stamp) (s : List ℕ) (at : ℕ) : Type 0 where
  pub tail : List ℕ
  pub value : ℕ
  pub whole : format_field st (s ++ tail) at ≡ Ok (value, length (s ++ tail))

-- A FORMAT THAT IS AT FAULT AT THE LINE'S END CAN BE MADE WHOLE
pub format-rest : (st : Stamp) (s : List ℕ) (at : ℕ) → at ≤ length s → format_field st s at ≡ Err (length s) → FormatRest st s at
format-rest st s at h k =
    let r = (founds st s at h).rest (format-not st s at (length s) k) in
    record { tail = r.tail; value = packed r.found; whole = format-is st (s ++ r.tail) at r.found r.whole }
