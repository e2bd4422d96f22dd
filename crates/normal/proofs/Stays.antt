-- TD and TT: what such a line sets is a legal format, and the line is its own normal form, in whatever case its letters are.
use Rattle.std.specs.Prelude.{Ok, Err, Result}
use mathlib.Core.Path.{◌≡◌, ◌∙◌, refl, sym}
use mathlib.Core.Bool.{Bool, true, false, cond, ◌&&◌}
use mathlib.Core.List.{List, [], ◌∷◌, append-nil}
use Prim.Native.Nat.{ℕ, suc, ◌+◌}
use Prim.Native.Char.{code}
use native.Mathlib.Omega.{arith}
use lib.Dec.{ltb, eqb}
use lib.ListN.{length, get_or, drop}
use lib.Seq.{drop-cons}
use borrow.Author.Tests.{ltb-true, eqb-true}
use Rattle.fields.proofs.Pairs.{ok_first, ok_second}
use Rattle.fields.specs.Field.{byte_at}
use Rattle.formats.specs.declared.Stamp.{Stamp}
use Rattle.formats.specs.declared.Stamp.TheVariants.{Date, Time}
use Rattle.formats.specs.Formats.{legal_format, unpacked}
use Rattle.read.specs.Reading.{format_field}
use Rattle.read.proofs.Laws.{value-legal}
use Rattle.grammar.specs.Forms.{Form, forms, row_of, in_order}
use Rattle.grammar.specs.declared.SetFormat.{SetFormat}
use Rattle.grammar.specs.declared.Item.TheVariants.{Format}
use Rattle.grammar.specs.declared.Command.TheVariants.{Item as item}
use Rattle.grammar.proofs.Rows.{◌&◌, Each, each_row}
use Rattle.row_fields.specs.Letters.{field_at}
use Rattle.row_fields.specs.Reading.{fields_from, good}
use Rattle.row_fields.proofs.Rows.{Split, fields_split}
use Rattle.read.specs.Commands.{read_of}
use Rattle.writing.proofs.Writes.{cased_kept}
use Rattle.normal.specs.Written.{written_field, written_from, normal}
use Rattle.normal.proofs.Fields.{format_letter}
use Rattle.normal.proofs.Starts.{written-split}
use Rattle.normal.proofs.Round.{normal-is, item-parted}

-- ---- the rows that set a format

-- the second letter of TD, of TT
abbrev second : Stamp → ℕ
second Date = code "D"
second Time = code "T"

abbrev format_form : Stamp → List ℕ
format_form st = code "T" ∷ (second st ∷ (format_letter st ∷ []))

-- a row of this form, whose one value is the format as a number
data Sets : List ℕ → ℕ → SetFormat → Type 0 where
  by : (st : Stamp) (v : ℕ) → Sets (format_form st) v (record { stamp = st; format = unpacked v })

Setting : ℕ → Form → Type 0
Setting k f = (s : List ℕ) (v p : ℕ → ℕ) (x : SetFormat) → f.makes s v p ≡ item (Format x) → Sets f.fields (v 0) x

every-setting : Each Setting forms
unfolding Setting
every-setting =
    (λ s v p x h. absurd (let z : ◌≡◌ {A = ℕ} 0 1 = cc in omega arith))
    & (λ s v p x h. absurd (let z : ◌≡◌ {A = ℕ} 0 1 = cc in omega arith))
    & (λ s v p x h. absurd (let z : ◌≡◌ {A = ℕ} 0 1 = cc in omega arith))
    & (λ s v p x h. absurd (let z : ◌≡◌ {A = ℕ} 0 1 = cc in omega arith))
    & (λ s v p x h. absurd (let z : ◌≡◌ {A = ℕ} 0 1 = cc in omega arith))
    & (λ s v p x h. absurd (let z : ◌≡◌ {A = ℕ} 0 1 = cc in omega arith))
    & (λ s v p x h. absurd (let z : ◌≡◌ {A = ℕ} 0 1 = cc in omega arith))
    & (λ s v p x h. absurd (let z : ◌≡◌ {A = ℕ} 0 1 = cc in omega arith))
    & (λ s v p x h. absurd (let z : ◌≡◌ {A = ℕ} 0 1 = cc in omega arith))
    & (λ s v p x h. absurd (let z : ◌≡◌ {A = ℕ} 0 1 = cc in omega arith))
    & (λ s v p x h. absurd (let z : ◌≡◌ {A = ℕ} 0 1 = cc in omega arith))
    & (λ s v p x h. absurd (let z : ◌≡◌ {A = ℕ} 0 1 = cc in omega arith))
    & (λ s v p x h. absurd (let z : ◌≡◌ {A = ℕ} 0 1 = cc in omega arith))
    & (λ s v p x h. absurd (let z : ◌≡◌ {A = ℕ} 0 1 = cc in omega arith))
    & (λ s v p x h. absurd (let z : ◌≡◌ {A = ℕ} 0 1 = cc in omega arith))
    & (λ s v p x h. absurd (let z : ◌≡◌ {A = ℕ} 0 1 = cc in omega arith))
    & (λ s v p x h. absurd (let z : ◌≡◌ {A = ℕ} 0 1 = cc in omega arith))
    & (λ s v p x h. absurd (let z : ◌≡◌ {A = ℕ} 0 1 = cc in omega arith))
    & (λ s v p x h. absurd (let z : ◌≡◌ {A = ℕ} 0 1 = cc in omega arith))
    & (λ s v p x h. absurd (let z : ◌≡◌ {A = ℕ} 0 1 = cc in omega arith))
    & (λ s v p x h. absurd (let z : ◌≡◌ {A = ℕ} 0 1 = cc in omega arith))
    & (λ s v p x h. absurd (let z : ◌≡◌ {A = ℕ} 0 1 = cc in omega arith))
    & (λ s v p x h. absurd (let z : ◌≡◌ {A = ℕ} 0 1 = cc in omega arith))
    & (λ s v p x h. absurd (let z : ◌≡◌ {A = ℕ} 0 1 = cc in omega arith))
    & (λ s v p x h. absurd (let z : ◌≡◌ {A = ℕ} 0 1 = cc in omega arith))
    & (λ s v p x h. absurd (let z : ◌≡◌ {A = ℕ} 0 1 = cc in omega arith))
    & (λ s v p x h. absurd (let z : ◌≡◌ {A = ℕ} 0 1 = cc in omega arith))
    & (λ s v p x h. absurd (let z : ◌≡◌ {A = ℕ} 0 1 = cc in omega arith))
    & (λ s v p x h. absurd (let z : ◌≡◌ {A = ℕ} 0 1 = cc in omega arith))
    & (λ s v p x h. absurd (let z : ◌≡◌ {A = ℕ} 0 1 = cc in omega arith))
    & (λ s v p x h. absurd (let z : ◌≡◌ {A = ℕ} 0 1 = cc in omega arith))
    & (λ s v p x h. absurd (let z : ◌≡◌ {A = ℕ} 0 1 = cc in omega arith))
    & (λ s v p x h. let e : record { stamp = Date; format = unpacked (v 0) } ≡ x = cc in rw (← e) (by Date (v 0)))
    & (λ s v p x h. let e : record { stamp = Time; format = unpacked (v 0) } ≡ x = cc in rw (← e) (by Time (v 0)))
    & (λ k s v p x h. absurd (let z : ◌≡◌ {A = ℕ} 0 1 = cc in omega arith))

-- ---- such a line

-- a byte that was read stands there
record Stands (b : ℕ) (s : List ℕ) (at e : ℕ) : Type 0 where
  behind : drop at s ≡ b ∷ drop (suc at) s
  ends : e ≡ suc at

stands : (b : ℕ) (s : List ℕ) (at v e : ℕ) → byte_at b s at ≡ Ok (v, e) → Stands b s at e
unfolding byte_at
stands b s at v e h = go (ltb at (length s)) (eqb (get_or s at 0) b) refl refl h
  where
    go : (x y : Bool) → ltb at (length s) ≡ x → eqb (get_or s at 0) b ≡ y → cond {A = Result (ℕ × ℕ) ℕ} (x && y) (Ok (b, at + 1)) (Err at) ≡ Ok (v, e) → Stands b s at e
    go true true p q k =
        let i : at + 1 ≡ e = ok_second k in
        record { behind = drop-cons s at 0 (ltb-true at (length s) p) ∙ rw (eqb-true (get_or s at 0) b q); ends = omega arith }
    go true false p q k = absurd (let z : ◌≡◌ {A = ℕ} 0 1 = cc in omega arith)
    go false y p q k = absurd (let z : ◌≡◌ {A = ℕ} 0 1 = cc in omega arith)

module _ (s : List ℕ) where
  first_byte : (at : ℕ) → field_at (code "T") s at ≡ byte_at (code "T") s at
  unfolding field_at
  first_byte at = refl

  second-byte : (st : Stamp) (at : ℕ) → field_at (second st) s at ≡ byte_at (second st) s at
  unfolding field_at
  second-byte Date at = refl
  second-byte Time at = refl

  format_read : (st : Stamp) (at : ℕ) → field_at (format_letter st) s at ≡ format_field st s at
  unfolding field_at
  format_read Date at = refl
  format_read Time at = refl

  first-written : (v p : ℕ) → written_field (code "T") s v p ≡ code "T" ∷ []
  unfolding written_field
  first-written v p = refl

  second-written : (st : Stamp) (v p : ℕ) → written_field (second st) s v p ≡ second st ∷ []
  unfolding written_field
  second-written Date v p = refl
  second-written Time v p = refl

  format-written : (st : Stamp) (v p : ℕ) → written_field (format_letter st) s v p ≡ drop p s
  unfolding written_field
  format-written Date v p = cased_kept (drop p s)
  format-written Time v p = cased_kept (drop p s)

one_value : (st : Stamp) (vs : List ℕ) → get_or (in_order (format_form st) 0 vs) 0 0 ≡ get_or vs 2 0
unfolding in_order
one_value Date vs = refl
one_value Time vs = refl

-- a letter that is read is written as it stands
module _ (b : ℕ) (fs s : List ℕ) (at : ℕ) (vs ps : List ℕ) (x : Split b fs s at vs ps) where
  letter-stays : field_at b s at ≡ byte_at b s at → written_field b s x.v at ≡ b ∷ [] → written_from fs s x.vs x.ps ≡ drop x.e s
      → written_from (b ∷ fs) s vs ps ≡ drop at s
  letter-stays f w r =
      let y = stands b s at x.v x.e (sym f ∙ x.first) in
      written-split b fs s vs ps x.v at x.vs x.ps x.values x.places ∙ rw (w, r, y.ends) (sym y.behind)

format-line : (st : Stamp) (s vs ps : List ℕ) → fields_from (format_form st) s 0 ≡ good vs ps
    → (legal_format st (unpacked (get_or vs 2 0)) ≡ true) × (written_from (format_form st) s vs ps ≡ s)
format-line st s vs ps h =
    let a = fields_split (code "T") (second st ∷ (format_letter st ∷ [])) s 0 vs ps h in
    let b = fields_split (second st) (format_letter st ∷ []) s a.e a.vs a.ps a.others in
    let c = fields_split (format_letter st) [] s b.e b.vs b.ps b.others in
    let l : legal_format st (unpacked c.v) ≡ true = value-legal st s b.e c.v c.e (sym (format_read s st b.e) ∙ c.first) in
    let w : written_from (format_letter st ∷ []) s b.vs b.ps ≡ drop b.e s =
    written-split (format_letter st) [] s b.vs b.ps c.v b.e c.vs c.ps c.values c.places
    ∙ rw (format-written s st c.v b.e) (unfold written_from in append-nil (drop b.e s)) in
    let u = letter-stays (second st) (format_letter st ∷ []) s a.e a.vs a.ps b (second-byte s st a.e) (second-written s st b.v a.e) w in (
      rw (a.values, b.values, c.values) l,
      letter-stays (code "T") (second st ∷ (format_letter st ∷ [])) s 0 vs ps a (first_byte s 0) (first-written s a.v 0) u,
    )

set_line : (fs s vs ps : List ℕ) (n : ℕ) (x : SetFormat) → Sets fs n x → n ≡ get_or (in_order fs 0 vs) 0 0 → fields_from fs s 0 ≡ good vs ps
    → (legal_format x.stamp x.format ≡ true) × (written_from fs s vs ps ≡ s)
set_line fs s vs ps n x (by st v) e h = rw (e ∙ one_value st vs) (format-line st s vs ps h)

module _ (rows : ℕ) (s : List ℕ) (x : SetFormat) (h : read_of rows s ≡ Ok (item (Format x))) where
  line_set : (legal_format x.stamp x.format ≡ true) × (normal s ≡ s)
  unfolding Setting
  line_set =
      let p = item-parted rows s (Format x) h in
      let fs : List ℕ = (row_of p.row).fields in
      let t =
      each_row Setting every-setting p.row s (λ k. get_or (in_order fs 0 p.vs) k 0) (λ k. get_or (in_order fs 0 p.ps) k 0) x p.command in
      let q = set_line fs s p.vs p.ps (get_or (in_order fs 0 p.vs) 0 0) x t refl p.read in
      (q.0, normal-is s p.row p.vs p.ps p.head p.read ∙ q.1)

  -- WHAT A LINE OF TD OR TT SETS IS A LEGAL FORMAT
  pub format-legal : legal_format x.stamp x.format ≡ true
  format-legal = line_set.0

  -- THE LINE STAYS AS IT WAS WRITTEN
  pub format-stays : normal s ≡ s
  format-stays = line_set.1
