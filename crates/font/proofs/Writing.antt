-- A font is legal exactly where it is written from a cell's size and glyphs that keep the rules.
-- Assumes nothing.
use mathlib.Core.Path.{◌≡◌, refl, sym, ap, ◌∙◌, subst}
use mathlib.Core.Bool.{Bool, true, false, ◌&&◌}
use mathlib.Core.List.{List, [], ◌∷◌, ◌++◌}
use Prim.Native.Nat.{ℕ, zero, suc, ◌+◌, ◌-◌, ◌*◌, ◌/◌, ◌%◌, ◌^◌, ◌≤◌, ◌<◌}
use native.Mathlib.Nat.{add-mul, one-mul, mul-le-mul_right}
use native.Mathlib.Numerals.{add-one}
use native.Mathlib.Omega.{arith}
use borrow.Author.Tests.{leb-true, ltb-true, eqb-true, le-leb, lt-ltb, eq-eqb, ne_eqb}
use lib.ListN.{length, get_or, take, drop, length-drop, drop_of_length-le, take-append-drop, get_or-append}
use lib.Seq.{get_or-drop, get_or-take, drop-drop, drop_at, drop-cons, length-take-le}
use lib.Dec.{leb, ltb, eqb}
use Rattle.ground.proofs.Tests.{and-true}
use Rattle.font.specs.Rules.{tag_at, size_at, code_at, next_field, cell_width, cell_height, headed, row_bytes, spare_bits}
use Rattle.font.specs.Rules.{row_clean, rows_clean, is_glyph, sized, coded, glyph, ended, fields_from, legal}
use Rattle.font.specs.Written.{field, Cell, CellKept, Glyph, GlyphKept, GlyphsKept, glyph_fields, written}

abbrev pub cell_of : List ℕ → Cell
cell_of font = record { width = cell_width font; height = cell_height font }

next-times : (k m : ℕ) → suc k * m ≡ k * m + m
next-times k m = rw (← add-one k) (add-mul k 1 m ∙ ap (λ (n : ℕ). k * m + n) (one-mul m))

fields-some : (gs : List Glyph) → 0 < length (glyph_fields gs)
unfolding glyph_fields
fields-some [] = omega arith
fields-some (g ∷ gs) = omega arith

module _ (font : List ℕ) where
  -- ---- rows
  abbrev Clean : ℕ → Type 0
  Clean at = get_or font at 0 % 2 ^ spare_bits font ≡ 0

  moved : {a b : ℕ} → a ≡ b → Clean b → Clean a
  moved e h = ap (λ (i : ℕ). get_or font i 0 % 2 ^ spare_bits font) e ∙ h

  clean_all : (n at : ℕ) → ((k : ℕ) → k < n → Clean (at + k * row_bytes font + row_bytes font - 1)) → rows_clean font n at ≡ true
  unfolding rows_clean
  clean_all zero at h = refl
  clean_all (suc n) at h =
      rw (eq-eqb _ _ (moved {a = at + row_bytes font - 1} (omega arith) (h 0 (omega arith))))
      (clean_all n (at + row_bytes font) (λ k l. moved (omega (arith, next-times k (row_bytes font))) (h (suc k) (omega arith))))

  all-clean : (n at : ℕ) → rows_clean font n at ≡ true → (k : ℕ) → k < n → Clean (at + k * row_bytes font + row_bytes font - 1)
  unfolding rows_clean
  all-clean zero at e k l = absurd (omega arith)
  all-clean (suc n) at e zero l = moved (omega arith) (eqb-true _ 0 (and-true (row_clean font at) _ e).0)
  all-clean (suc n) at e (suc k) l =
      moved (omega (arith, next-times k (row_bytes font)))
      (all-clean n (at + row_bytes font) (and-true (row_clean font at) _ e).1 k (omega arith))

  room_for : (k : ℕ) → k < cell_height font → k * row_bytes font + row_bytes font ≤ cell_height font * row_bytes font
  room_for k l = rw (next-times k (row_bytes font)) at (mul-le-mul_right (row_bytes font) (let n : suc k ≤ cell_height font = l in n))

  -- ---- reading behind a place
  read_at : (at k : ℕ) (rest : List ℕ) → drop at font ≡ rest → get_or font (at + k) 0 ≡ get_or rest k 0
  read_at at k rest e = sym (get_or-drop at font k 0) ∙ ap (λ (l : List ℕ). get_or l k 0) e

  tag-at : (at : ℕ) (rest : List ℕ) → drop at font ≡ rest → tag_at font at ≡ get_or rest 0 0
  tag-at at rest e = let z : at ≡ at + 0 = omega arith in ap (λ (i : ℕ). get_or font i 0) z ∙ read_at at 0 rest e

  drop-on : (at k : ℕ) (rest : List ℕ) → drop at font ≡ rest → drop (at + k) font ≡ drop k rest
  drop-on at k rest e = sym (drop-drop k at font) ∙ ap (drop k) e

  -- ---- what is written is taken
  module _ (kept : CellKept (cell_of font)) (last at : ℕ) (g : Glyph) (rest : List ℕ) (gk : GlyphKept (cell_of font) last g)
      (e : drop at font ≡ field 2 (g.code ∷ g.rows) ++ rest) where
    size-written : size_at font at ≡ 1 + cell_height font * row_bytes font
    size-written =
        let a = read_at at 1 _ e in
        let b = read_at at 2 _ e in
        omega (arith, gk.whole)

    rows_written : drop (at + 4) font ≡ g.rows ++ rest
    rows_written = drop-on at 4 _ e

    glyph-written : glyph font last at ≡ true
    unfolding glyph
    glyph-written =
        let s = size-written in
        let d = read_at at 3 _ e in
        let t = tag-at at _ e in
        let wide = kept.wide in
        let long : length g.rows ≡ cell_height font * row_bytes font = gk.whole in
        rw (
          eq-eqb (tag_at font at) 2 t,
          eq-eqb _ _ s,
          d,
          le-leb 32 g.code gk.least,
          le-leb g.code 126 gk.most,
          lt-ltb last g.code
              gk.rises,
        )
        (clean_all (cell_height font) (at + 4)
        (λ k l. let n = room_for k l in
        let i : at + 4 + k * row_bytes font + row_bytes font - 1 ≡ at + 4 + (k * row_bytes font + row_bytes font - 1) = omega arith in
        moved i
        (ap (λ (b : ℕ). b % 2 ^ spare_bits font)
        (read_at (at + 4) (k * row_bytes font + row_bytes font - 1) _ rows_written
        ∙ get_or-append g.rows rest 0 (k * row_bytes font + row_bytes font - 1) (omega arith))
        ∙ gk.spare k l)))

    next-written : drop (next_field font at) font ≡ rest
    next-written =
        let s = size-written in
        let i : next_field font at ≡ at + 4 + cell_height font * row_bytes font = omega arith in
        ap (λ (n : ℕ). drop n font) i ∙ drop-on (at + 4) (cell_height font * row_bytes font) _ rows_written ∙ drop_at g.rows rest _ gk.whole

  pub fields-written : CellKept (cell_of font) → (gs : List Glyph) (n last at : ℕ) → last ≤ 126 → 127 ≤ last + n → GlyphsKept (cell_of font) last gs
      → drop at font ≡ glyph_fields gs → fields_from font n last at ≡ true
  unfolding glyph_fields fields_from
  fields-written kept gs zero last at k h gk e = absurd (omega arith)
  fields-written kept [] (suc n) last at k h gk e =
      let s : size_at font at ≡ 0 = (let a = read_at at 1 _ e in let b = read_at at 2 _ e in omega arith) in
      let l : at + 3 ≡ length font = omega (arith, length-drop at font, ap length e) in
      rw (eq-eqb (tag_at font at) 255 (tag-at at _ e), eq-eqb (size_at font at) 0 s, eq-eqb (at + 3) (length font) l)
  fields-written kept (g ∷ gs) (suc n) last at k h gk e =
      let t = tag-at at _ e in
      let d = read_at at 3 _ e in
      rw (ne_eqb (tag_at font at) 255 (λ z. omega arith), glyph-written kept last at g (glyph_fields gs) gk.0 e)
      (fields-written kept gs n (code_at font at) (next_field font at)
      (omega (arith, gk.0.most)) (omega (arith, gk.0.rises))
      (subst (λ (c : ℕ). GlyphsKept (cell_of font) c gs) (sym d) gk.1) (next-written kept last at g (glyph_fields gs) gk.0 e))

  -- ---- what is taken is written so
  record Reads (last at : ℕ) : Type 0 where
    glyphs : List Glyph
    kept : GlyphsKept (cell_of font) last glyphs
    is : drop at font ≡ glyph_fields glyphs

  drop-one : (at : ℕ) → at < length font → drop at font ≡ get_or font at 0 ∷ drop (at + 1) font
  drop-one at h = drop-cons font at 0 h ∙ rw (add-one at)

  drop-three : (at : ℕ) → at + 3 ≤ length font → drop at font ≡ get_or font at 0 ∷ get_or font (at + 1) 0 ∷ get_or font (at + 2) 0 ∷ drop (at + 3) font
  drop-three at h =
      let a : drop (at + 1) font ≡ get_or font (at + 1) 0 ∷ drop (at + 2)
      font = (let z : at + 1 + 1 ≡ at + 2 = omega arith in rw z at (drop-one (at + 1) (omega arith))) in
      let b : drop (at + 2) font ≡ get_or font (at + 2) 0 ∷ drop (at + 3)
      font = (let z : at + 2 + 1 ≡ at + 3 = omega arith in rw z at (drop-one (at + 2) (omega arith))) in
      drop-one at (omega arith) ∙ ap (λ (l : List ℕ). get_or font at 0 ∷ l) (a ∙ ap (λ (l : List ℕ). get_or font (at + 1) 0 ∷ l) b)

  reads_end : (last at : ℕ) → tag_at font at ≡ 255 → ended font at ≡ true → Reads last at
  unfolding glyph_fields
  reads_end last at t e =
      let a = and-true (eqb (size_at font at) 0) (eqb (at + 3) (length font)) e in
      let s = eqb-true (size_at font at) 0 a.0 in
      let l = eqb-true (at + 3) (length font) a.1 in
      let b : get_or font (at + 1) 0 ≡ 0 = omega arith in
      let d : get_or font (at + 2) 0 ≡ 0 = omega arith in
      let z : drop (at + 3) font ≡ [] = drop_of_length-le font {i = at + 3} (omega arith) in
      record { glyphs = []; kept = tt; is = drop-three at (omega arith) ∙ (λ i. t i ∷ b i ∷ d i ∷ z i) }

  module _ (bytes : (i : ℕ) → get_or font i 0 < 256) (kept : CellKept (cell_of font)) where
    row-spare : (at : ℕ) → rows_clean font (cell_height font) at ≡ true → (k : ℕ) → k < cell_height font
        → get_or (take (cell_height font * row_bytes font) (drop at font)) (k * row_bytes font + row_bytes font - 1) 0 % 2 ^ spare_bits font ≡ 0
    row-spare at e k l =
        let n = room_for k l in
        let wide = kept.wide in
        let i : at + (k * row_bytes font + row_bytes font - 1) ≡ at + k * row_bytes font + row_bytes font - 1 = omega arith in
        ap (λ (b : ℕ). b % 2 ^ spare_bits font)
        (get_or-take (cell_height font * row_bytes font) (drop at font) (k * row_bytes font + row_bytes font - 1) 0 (omega arith)
        ∙ get_or-drop at font (k * row_bytes font + row_bytes font - 1) 0)
        ∙ moved i (all-clean (cell_height font) at e k l)

    reads-glyph : (last at : ℕ) → glyph font last at ≡ true → Reads (code_at font at) (next_field font at) → Reads last at
    unfolding glyph glyph_fields
    reads-glyph last at e r =
        let m = cell_height font * row_bytes font in
        let a = and-true (is_glyph font at && (sized font at && coded font last at)) (rows_clean font (cell_height font) (at + 4)) e in
        let b = and-true (is_glyph font at) (sized font at && coded font last at) a.0 in
        let d = and-true (sized font at) (coded font last at) b.1 in
        let f = and-true (leb 32 (code_at font at) && leb (code_at font at) 126) (ltb last (code_at font at)) d.1 in
        let g = and-true (leb 32 (code_at font at)) (leb (code_at font at) 126) f.0 in
        let t = eqb-true (tag_at font at) 2 b.0 in
        let s = eqb-true (size_at font at) (1 + m) d.0 in
        let on : next_field font at ≡ at + 4 + m = omega arith in
        let room : at + 4 + m < length font = omega (arith, length-drop (next_field font at) font, ap length r.is, fields-some r.glyphs) in
        let long : length (take m (drop (at + 4) font)) ≡ m = length-take-le m (drop (at + 4) font) (omega (arith, length-drop (at + 4) font)) in
        let wide = kept.wide in
        let low : get_or font (at + 1) 0 ≡ suc (length (take m (drop (at + 4) font))) % 256 = omega (arith, bytes (at + 1)) in
        let high : get_or font (at + 2) 0 ≡ suc (length (take m (drop (at + 4) font))) / 256 = omega (arith, bytes (at + 1)) in
        let rest : drop (at + 4) font ≡ take m (drop (at + 4) font) ++ glyph_fields r.glyphs =
        sym (take-append-drop m (drop (at + 4) font))
        ∙ ap (λ (l : List ℕ). take m (drop (at + 4) font) ++ l) (drop-drop m (at + 4) font ∙ ap (λ (n : ℕ). drop n font) (sym on) ∙ r.is) in
        let code : drop (at + 3) font ≡ code_at font at ∷ drop (at + 4)
        font = (let z : at + 3 + 1 ≡ at + 4 = omega arith in rw z at (drop-one (at + 3) (omega arith))) in
        record {
          glyphs = (record { code = code_at font at; rows = take m (drop (at + 4) font) }) ∷ r.glyphs;
          kept = (
            record {
              least = leb-true 32 (code_at font at) g.0;
              most = leb-true (code_at font at) 126 g.1;
              rises = ltb-true last (code_at font at) f.1;
              whole = long;
              spare = λ k l. row-spare (at + 4) a.1 k l;
            },
            r.kept,
          );
          is = drop-three at (omega arith) ∙ (λ i. t i ∷ low i ∷ high i ∷ (code ∙ ap (λ (l : List ℕ). code_at font at ∷ l) rest) i);
        }

    reads-one : (n last at : ℕ) → fields_from font (suc n) last at ≡ true
        → (fields_from font n (code_at font at) (next_field font at) ≡ true → Reads (code_at font at) (next_field font at))
        → (b : Bool) → eqb (tag_at font at) 255 ≡ b → Reads last at
    unfolding fields_from
    reads-one n last at e r true t = reads_end last at (eqb-true (tag_at font at) 255 t) (rw t at e)
    reads-one n last at e r false t =
        let a = and-true (glyph font last at) (fields_from font n (code_at font at) (next_field font at)) (rw t at e) in
        reads-glyph last at a.0 (r a.1)

    reads : (n last at : ℕ) → fields_from font n last at ≡ true → Reads last at
    unfolding fields_from
    reads zero last at e = absurd (let z : ◌≡◌ {A = ℕ} 0 1 = cc in omega arith)
    reads (suc n) last at e = reads-one n last at e (λ f. reads n (code_at font at) (next_field font at) f) (eqb (tag_at font at) 255) refl

-- ---- the two together
pub written-legal : (c : Cell) (gs : List Glyph) → CellKept c → GlyphsKept c 31 gs → legal (written c gs) ≡ true
unfolding legal headed
written-legal c gs ck gk =
    rw (le-leb 1 c.width ck.wide, le-leb c.width 32 ck.narrow, le-leb 1 c.height ck.high, le-leb c.height 64 ck.low)
    (fields-written (written c gs) ck gs 96 31 5 (omega arith) (omega arith) gk refl)

pub record Written (font : List ℕ) : Type 0 where
  pub glyphs : List Glyph
  pub cell : CellKept (cell_of font)
  pub kept : GlyphsKept (cell_of font) 31 glyphs
  pub is : font ≡ written (cell_of font) glyphs

pub legal-written : (font : List ℕ) → ((i : ℕ) → get_or font i 0 < 256) → legal font ≡ true → Written font
unfolding legal headed
legal-written font bytes e =
    let a = and-true ((eqb (tag_at font 0) 1 && eqb (size_at font 0) 2)
    && ((leb 1 (cell_width font) && leb (cell_width font) 32) && (leb 1 (cell_height font) && leb (cell_height font) 64))) (fields_from font 96 31 5) e in
    let b = and-true (eqb (tag_at font 0) 1 && eqb (size_at font 0) 2)
    ((leb 1 (cell_width font) && leb (cell_width font) 32) && (leb 1 (cell_height font) && leb (cell_height font) 64)) a.0 in
    let d = and-true (eqb (tag_at font 0) 1) (eqb (size_at font 0) 2) b.0 in
    let f = and-true (leb 1 (cell_width font) && leb (cell_width font) 32) (leb 1 (cell_height font) && leb (cell_height font) 64) b.1 in
    let w = and-true (leb 1 (cell_width font)) (leb (cell_width font) 32) f.0 in
    let h = and-true (leb 1 (cell_height font)) (leb (cell_height font) 64) f.1 in
    let ck : CellKept (cell_of font) = record {
      wide = leb-true 1 (cell_width font) w.0;
      narrow = leb-true (cell_width font) 32 w.1;
      high = leb-true 1 (cell_height font) h.0;
      low = leb-true (cell_height font) 64 h.1;
    } in
    let r = reads font bytes ck 96 31 5 a.1 in
    let t = eqb-true (tag_at font 0) 1 d.0 in
    let s = eqb-true (size_at font 0) 2 d.1 in
    let low : get_or font 1 0 ≡ 2 = omega arith in
    let high : get_or font 2 0 ≡ 0 = omega arith in
    let long : 5 < length font = omega (arith, length-drop 5 font, ap length r.is, fields-some r.glyphs) in
    record {
      glyphs = r.glyphs;
      cell = ck;
      kept = r.kept;
      is = drop-three font 0 (omega arith)
          ∙ (λ i. t i ∷ low i ∷ high i ∷ (drop-one font 3 (omega arith)
          ∙ ap (λ (l : List ℕ). cell_width font ∷ l) (drop-one font 4 (omega arith) ∙ ap (λ (l : List ℕ). cell_height font ∷ l) r.is)) i);
    }
