-- GM: the bytes behind its line, which are as many as it says; and the line `GM"name",n` with any text in quotes for its name.
-- Assumes nothing.
use Rattle.std.specs.Prelude.{Ok}
use mathlib.Core.Path.{◌≡◌, refl, sym, ap, ◌∙◌, subst}
use mathlib.Core.Bool.{Bool, true, false, not, cond, ◌&&◌, ◌||◌}
use mathlib.Core.List.{List, [], ◌∷◌, ◌++◌, append-nil, append_assoc}
use Prim.Native.Nat.{ℕ, suc, ◌+◌, ◌-◌, ◌≤◌, ◌<◌}
use native.Mathlib.Omega.{arith}
use lib.ListN.{length, get_or, take, drop, length-append, length-take, length-drop}
use lib.Seq.{get_or-append-add}
use lib.Dec.{eqb, leb, ltb}
use borrow.Author.Tests.{eq-eqb, leb-true, lt-ltb}
use Rattle.kinds.specs.Bytes.{between, all_in}
use Rattle.classes.specs.declared.Class.TheVariants.{Quoted, Inside as NoLF}
use Rattle.classes.specs.Bytes.{in_class, run}
use Rattle.classes.proofs.Laws.{in-range}
use Rattle.fields.specs.Field.{byte_at}
use Rattle.numbers.specs.Number.{number_at}
use Rattle.reader.specs.Letters.{field_at}
use Rattle.heads.specs.Heads.{head_of, head_by, find}
use Rattle.grammar.specs.Named.{GM}
use Rattle.grammar.specs.Forms.{Form, forms, row_of, spread, in_order}
use Rattle.grammar.proofs.Rows.{◌&◌, Each, each_row}
use Rattle.grammar.specs.declared.StorePicture.{StorePicture}
use Rattle.grammar.specs.declared.Command.{Command}
use Rattle.grammar.specs.declared.Command.TheVariants.{Item as item, End, Page, Forms, Pictures, Values, Listing, Clock}
use Rattle.grammar.specs.declared.PictureCommand.TheVariants.{Store, Erase as ErasePicture}
use Rattle.row_fields.specs.Reading.{good, fields_from}
use Rattle.row_limits.specs.Limits.{first_of, field_limits, limits_from, meets}
use Rattle.read.specs.declared.Fault.TheVariants.{Limit}
use Rattle.read.specs.Commands.{read_of, headed, judged, decided}
use Rattle.front.specs.declared.Front.{Front}
use Rattle.front.specs.declared.Front.TheVariants.{Short, Long as LongLine, Idle, Line}
use Rattle.front.specs.Front.{size_of, asked, asked_by, line_front, front_of}
use Rattle.writing.specs.Writing.{decimal}
use Rattle.normal.proofs.Back.{byte-back, number-back, text-back, digits-count}
use Rattle.lent.specs.Lent.{World, rows_of}
use Rattle.unread.specs.Front.{line_of}
use Rattle.fits.specs.Names.{name_wrong}
use Rattle.keeps_sound.proofs.Titles.{line-parted}
use Rattle.keeps_sound.proofs.Limits.{read-ranges}
use Rattle.demands.specs.Calls.{Says}
use Rattle.demands.specs.Relist.{IsName}
use Rattle.demands.specs.Fitting.{bytes_given, store_line}
use Rattle.demands.proofs.Names.{name-quoted, name-judged, quoted-inside, quoted-all}
use Rattle.demands.proofs.Lines.{front-asking}
use Rattle.demands.proofs.Sayings.{digits-inside}
use Rattle.std.proofs.Common.{Option, Some, Err}

-- ---- a line that is read as GM asks for as many bytes as it says

abbrev Asks : ℕ → List ℕ → Command → Type 0
Asks row s (item i) = Unit {0}
Asks row s End = Unit {0}
Asks row s (Page c) = Unit {0}
Asks row s (Forms c) = Unit {0}
Asks row s (Pictures (Store p)) = between 1 32768 p.n ≡ true → asked_by (Some row) s ≡ p.n
Asks row s (Pictures (ErasePicture n)) = Unit {0}
Asks row s (Values c) = Unit {0}
Asks row s (Listing c) = Unit {0}
Asks row s (Clock c) = Unit {0}

-- for each row
abbrev Asking : ℕ → Form → Type 0
Asking k f =
    (s vs ps : List ℕ) → fields_from f.fields s 0 ≡ good vs ps →
    Asks k s (f.makes s (λ i. get_or (in_order f.fields 0 vs) i 0) (λ i. get_or (in_order f.fields 0 ps) i 0))

size-says : (s vs ps : List ℕ) → fields_from (row_of GM).fields s 0 ≡ good vs ps → between 1 32768 (get_or vs 4 0) ≡ true → asked_by (Some GM) s ≡ get_or vs 4 0
unfolding asked_by size_of in_order
size-says s vs ps e h = ap size_of e ∙ rw h

asking : Each Asking forms
unfolding in_order
asking =
    (λ s vs ps e. tt)
    & (λ s vs ps e. tt)
    & (λ s vs ps e. tt)
    & (λ s vs ps e. tt)
    & (λ s vs ps e. tt)
    & (λ s vs ps e. tt)
    & (λ s vs ps e. tt)
    & (λ s vs ps e. tt)
    & (λ s vs ps e. tt)
    & (λ s vs ps e. tt)
    & (λ s vs ps e. tt)
    & (λ s vs ps e. tt)
    & (λ s vs ps e. tt)
    & (λ s vs ps e. tt)
    & (λ s vs ps e. tt)
    & (λ s vs ps e. tt)
    & (λ s vs ps e. tt)
    & (λ s vs ps e. tt)
    & (λ s vs ps e. tt)
    & (λ s vs ps e. tt)
    & size-says
    & (λ s vs ps e. tt)
    & (λ s vs ps e. tt)
    & (λ s vs ps e. tt)
    & (λ s vs ps e. tt)
    & (λ s vs ps e. tt)
    & (λ s vs ps e. tt)
    & (λ s vs ps e. tt)
    & (λ s vs ps e. tt)
    & (λ s vs ps e. tt)
    & (λ s vs ps e. tt)
    & (λ s vs ps e. tt)
    & (λ s vs ps e. tt)
    & (λ s vs ps e. tt)
    & (λ k s vs ps e. tt)

store-asked : (rows : ℕ) (s : List ℕ) (p : StorePicture) → read_of rows s ≡ Ok (Pictures (Store p)) → asked s ≡ p.n
store-asked rows s p h =
    let x = line-parted rows s (Pictures (Store p)) h in
    let r = read-ranges rows s (Pictures (Store p)) h in
    let a : Asks x.row s (Pictures (Store p)) = subst (Asks x.row s) x.command (each_row Asking asking x.row s x.vs x.ps x.read) in
    ap (λ (y : Option ℕ). asked_by y s) x.head ∙ a (in-range 1 32768 p.n r.0 r.1)

-- ---- and they are there: a line stands whole at the front of an input with the bytes that it asks for

abbrev Whole : List ℕ → Front → Type 0
Whole s Short = Unit {0}
Whole s (LongLine k) = Unit {0}
Whole s (Idle k) = Unit {0}
Whole s (Line n k) = (k ≡ n + 1 + asked (line_of s n)) × (k ≤ length s)

front-whole : (s : List ℕ) → Whole s (front_of s)
unfolding front_of line_front
front-whole s =
    by (run NoLF s) (ltb (run NoLF s) (length s)) (ltb (run NoLF s) 256) (eqb (run NoLF s) 0 || eqb (get_or s 0 0) 59)
    (leb (run NoLF s + 1 + asked (take (run NoLF s) s)) (length s)) (ltb (length s) 256) refl
  where
    by : (n : ℕ) (a b c d e : Bool) → leb (n + 1 + asked (take n s)) (length s) ≡ d →
        Whole s (cond a (cond b (cond c (Idle (n + 1)) (cond d (Line n (n + 1 + asked (take n s))) Short)) (LongLine (n + 1))) (cond e Short (LongLine (length s))))
    by n true true true d e h = tt
    by n true true false true e h = (refl, leb-true _ _ h)
    by n true true false false e h = tt
    by n true false c d e h = tt
    by n false b c d true h = tt
    by n false b c d false h = tt

-- "for a well-formed GM also its n bytes"
pub store_bytes :
    (w : World) (input : List ℕ) (p : StorePicture) (r : Says w input (Pictures (Store p))) →
    (length (bytes_given r) ≡ p.n) × ((1 ≤ length (bytes_given r)) × (length (bytes_given r) ≤ 32768))
store_bytes w input p r =
    let f = subst (Whole input) r.front (front-whole input) in
    let m : asked (line_of input r.line) ≡ p.n = store-asked (rows_of w) (line_of input r.line) p r.means in
    let b = read-ranges (rows_of w) (line_of input r.line) (Pictures (Store p)) r.means in
    let t = length-take (r.whole - (r.line + 1)) (drop (r.line + 1) input) in
    let d = length-drop (r.line + 1) input in
    let e : length (bytes_given r) ≡ p.n = omega (arith, f.0, f.1, m, t, d) in
    (e, (omega (arith, e, b.0), omega (arith, e, b.1)))

-- ---- `GM"t",n`

abbrev pub stored_by : List ℕ → ℕ → StorePicture
stored_by t n = record { at = 2; length = length t; n = n }

module _ (t : List ℕ) (quoted : all_in (in_class Quoted) t ≡ true) (n : ℕ) (small : n ≤ 999999999) where
  -- where its comma stands
  abbrev comma : ℕ
  comma = 2 + 1 + length t + 1

  -- what stands before its number
  abbrev front : List ℕ
  front = 71 ∷ 77 ∷ 34 ∷ (t ++ (34 ∷ 44 ∷ []))

  front_long : length front ≡ comma + 1
  front_long = let e : length (t ++ (34 ∷ 44 ∷ [])) ≡ length t + 2 = length-append t (34 ∷ 44 ∷ []) in omega (arith, e)

  front-number : front ++ decimal n ≡ store_line t n
  front-number = ap (λ (l : List ℕ). 71 ∷ 77 ∷ 34 ∷ l) (append_assoc t (34 ∷ 44 ∷ []) (decimal n))

  store_long : length (store_line t n) ≡ comma + 1 + length (decimal n)
  store_long = ap length (sym front-number) ∙ length-append front (decimal n) ∙ ap (λ (k : ℕ). k + length (decimal n)) front_long

  comma-read : byte_at 44 (store_line t n) comma ≡ Ok (44, comma + 1)
  unfolding byte_at
  comma-read =
      let l : comma < length (store_line t n) = omega (arith, store_long) in
      let k : comma ≡ suc (suc (suc (length t + 1))) = omega arith in
      rw (lt-ltb comma (length (store_line t n)) l, k, get_or-append-add t (34 ∷ 44 ∷ decimal n) 1 0)

  number_read : number_at (store_line t n) (comma + 1) ≡ Ok (n, comma + 1 + length (decimal n))
  number_read =
      subst (λ (l : List ℕ). number_at l (comma + 1) ≡ Ok (n, comma + 1 + length (decimal n)))
      (ap (λ (l : List ℕ). front ++ l) (append-nil (decimal n)) ∙ front-number)
      (subst (λ (k : ℕ). number_at (front ++ (decimal n ++ [])) k ≡ Ok (n, k + length (decimal n))) front_long (number-back front [] n (omega arith) (unfold between in refl)))

  store-fields :
      fields_from (row_of GM).fields (store_line t n) 0 ≡ good (71 ∷ 77 ∷ length t ∷ 44 ∷ n ∷ []) (0 ∷ 1 ∷ 2 ∷ comma ∷ (comma + 1) ∷ [])
  unfolding fields_from field_at
  store-fields =
      rw (
        byte-back [] (77 ∷ 34 ∷ (t ++ (34 ∷ 44 ∷ decimal n))) 71,
        byte-back (71 ∷ []) (34 ∷ (t ++ (34 ∷ 44 ∷ decimal n))) 77,
        text-back (71 ∷ 77 ∷ []) (44 ∷ decimal n) t (quoted-all t quoted),
        comma-read,
        number_read,
        eq-eqb _ _ (sym store_long),
      )

  store_asks : asked (store_line t n) ≡ cond (between 1 32768 n) n 0
  unfolding asked_by head_of head_by find size_of in_order
  store_asks = ap size_of store-fields

  pub store-front :
      (rest : List ℕ) → length (store_line t n) ≤ 255 → cond (between 1 32768 n) n 0 ≤ length rest →
      front_of (store_line t n ++ (10 ∷ rest)) ≡ Line (length (store_line t n)) (length (store_line t n) + 1 + cond (between 1 32768 n) n 0)
  store-front rest short enough =
      front-asking (store_line t n) rest (
        λ e. omega (arith, e),
        (
          λ e. omega (arith, e),
          (
            λ e. omega (arith, e),
            quoted-inside t (34 ∷ 44 ∷ decimal n) quoted (λ e. omega (arith, e), (λ e. omega (arith, e), digits-inside 19 n [] tt)),
          ),
        ),
      )
      short (λ e. omega (arith, e)) (λ e. omega (arith, e)) (omega (arith, store_asks))
      ∙ ap (λ (k : ℕ). Line (length (store_line t n)) (length (store_line t n) + 1 + k)) store_asks

  -- a name and an n within their limits, or 7 that points to the first that is not
  pub store-judged :
      (rows : ℕ) →
      read_of rows (store_line t n) ≡ cond (name_wrong t) (Err (Limit 2)) (cond (between 1 32768 n) (Ok (Pictures (Store (stored_by t n)))) (Err (Limit (comma + 1))))
  unfolding read_of headed head_of head_by find judged limits_from field_limits meets spread in_order
  store-judged rows =
      ap (judged GM rows (store_line t n)) store-fields
      ∙ rw (name-judged t (44 ∷ decimal n)) (by (name_wrong t) (between 1 32768 n) 2 (comma + 1) (Pictures (Store (stored_by t n))))
    where
      by :
          (wrong right : Bool) (p q : ℕ) (c : Command) →
          decided (first_of (cond (not wrong) (Ok tt) (Err p)) (first_of (cond (right && true) (Ok tt) (Err q)) (Ok tt))) c
          ≡ cond wrong (Err (Limit p)) (cond right (Ok c) (Err (Limit q)))
      by true right p q c = refl
      by false true p q c = refl
      by false false p q c = refl

pub store-short : (t : List ℕ) → IsName t → (n : ℕ) → n ≤ 32768 → length (store_line t n) ≤ 255
store-short t name n few =
    let d = digits-count 19 8 n [] (omega arith) in
    omega (arith, store_long t (name-quoted t name) n (omega arith), name.few, d.1)
