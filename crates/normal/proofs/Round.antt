-- Reading the normal form of a line gives the same command with the same contents, and its normal form is itself.
use Rattle.std.proofs.Common.{Option, Some, None, Ok, Result, Err}
use mathlib.Core.Path.{◌≡◌, ◌∙◌, refl, sym, ap}
use mathlib.Core.Bool.{Bool, true, false, cond, ◌&&◌, ◌||◌, not, true≢false, false≢true}
use mathlib.Core.List.{List, [], ◌∷◌, ◌++◌, append_assoc, append-nil}
use Prim.Native.Nat.{ℕ, zero, suc, ◌+◌, ◌<◌}
use Prim.Native.Char.{code}
use native.Mathlib.Nat.{zero-add}
use native.Mathlib.Omega.{arith}
use lib.Dec.{T, eqb}
use lib.ListN.{length, get_or, drop, length-append}
use borrow.Author.Tests.{eq-eqb, ne_eqb, eqb-true}
use Rattle.kinds.specs.Bytes.{between}
use Rattle.classes.specs.Bytes.{in_class}
use Rattle.classes.specs.declared.Class.TheVariants.{Digit}
use Rattle.classes.proofs.Laws.{and_T}
use Rattle.elements.specs.Elements.{elements}
use Rattle.row_fields.specs.Letters.{field_at}
use Rattle.grammar.specs.Forms.{Form, forms, none, row_of, bounds_of, free, is_number, spread, in_order, command_of}
use Rattle.heads.specs.Heads.{head_of, head_by, find}
use Rattle.row_fields.specs.Reading.{fields_from, Got, good, bad}
use Rattle.read.specs.Limits.{field_limits, first_of, limits_from}
use Rattle.read.specs.Commands.{read_of, headed as head_read, judged, decided}
use Rattle.grammar.specs.declared.Item.{Item}
use Rattle.grammar.specs.declared.Command.{Command}
use Rattle.grammar.specs.declared.Command.TheVariants.{Item as item, End, Page, Forms, Pictures, Values, Listing, Clock}
use Rattle.grammar.proofs.Rows.{◌&◌, Each, each_row}
use Rattle.row_fields.proofs.Rows.{Split, fields_split}
use Rattle.normal.specs.Written.{data_written, written_field, written_from, written_of, head_written, normal}
use Rattle.normal.specs.Contents.{unplaced, held_by, contents_of, head_contents, contents}
use Rattle.normal.specs.Promise.{Normal}
use Rattle.normal.proofs.Back.{T_true}
use Rattle.normal.proofs.Fields.{Letter, letter-of, a-number, a-wide, a-day, a-step, a-prompt, a-text, a-name, a-star, a-mode, a-side, a-type, a_word, some-data, a-date, a-time, itself, After, Moved, field-moved, Plain, plain-written}
use Rattle.normal.proofs.Data.{chain-of, data-inside}
use Rattle.normal.proofs.Starts.{starts, every, every-among, written-split, start_of, data-placeless}

-- ---- forms in which each field can be told from what follows

-- whether a byte may stand behind the field of the letter f: a number ends where no digit follows, a word where a comma does
abbrev follows : ℕ → ℕ → Bool
follows f x =
    cond (eqb f (code "n") || (eqb f (code "w") || (eqb f (code "y") || eqb f (code "s")))) (not (in_class Digit x))
    (cond (eqb f (code "m") || (eqb f (code "j") || eqb f (code "k"))) (eqb x (code ","))
    true)

-- data goes to the end of the line, and so does a format
abbrev is_end : List ℕ → Bool
is_end [] = true
is_end (f ∷ fs) = false

-- a comma and data stand behind what is said of the line under bars
abbrev is_data : List ℕ → Bool
is_data [] = false
is_data (f ∷ []) = false
is_data (f ∷ (g ∷ fs)) = eqb f (code ",") && (eqb g (code "d") && is_end fs)

abbrev ends : ℕ → List ℕ → Bool
ends f fs = cond (eqb f (code "d") || (eqb f (code "f") || eqb f (code "g"))) (is_end fs) (cond (eqb f (code "h")) (is_data fs) true)

unfoldable sound : List ℕ → Bool
sound [] = true
sound (f ∷ fs) = every (follows f) (starts fs) && (ends f fs && sound fs)

not_T : (b : Bool) → T (not b) → b ≡ false
not_T true h = absurd h
not_T false h = refl

comma-T : (x : ℕ) → T (eqb x (code ",")) → x ≡ code ","
comma-T x h = eqb-true x (code ",") (T_true (eqb x (code ",")) h)

end_after : (fs s vs ps : List ℕ) → T (is_end fs) → written_from fs s vs ps ≡ []
unfolding written_from
end_after [] s vs ps h = refl
end_after (f ∷ fs) s vs ps h = absurd h

-- a comma stands behind a word, and behind it data, which starts with no place
data-after : (fs s : List ℕ) (at : ℕ) (vs ps : List ℕ) → T (is_end fs) → fields_from (code "," ∷ (code "d" ∷ fs)) s at ≡ good vs ps
    → After a_word (written_from (code "," ∷ (code "d" ∷ fs)) s vs ps)
unfolding field_at written_field
data-after fs s at vs ps e r =
    let x = fields_split (code ",") (code "d" ∷ fs) s at vs ps r in
    let y = fields_split (code "d") fs s x.e x.vs x.ps x.others in
    let d : List ℕ = data_written s (elements s x.e) in
    let w : written_from (code "d" ∷ fs) s x.vs x.ps ≡ d =
    written-split (code "d") fs s x.vs x.ps y.v x.e y.vs y.ps y.values y.places ∙ rw (end_after fs s y.vs y.ps e) (append-nil d) in
    rw (written-split (code ",") (code "d" ∷ fs) s vs ps x.v at x.vs x.ps x.values x.places, w)
    (let q = data-placeless (chain-of s x.e y.v y.e y.first) (data-inside s x.e y.v y.e y.first).1 in (refl, q.0, q.1))

word_after : (fs s : List ℕ) (at : ℕ) (vs ps : List ℕ) → T (is_data fs) → fields_from fs s at ≡ good vs ps → After a_word (written_from fs s vs ps)
word_after [] s at vs ps h o = absurd h
word_after (f ∷ []) s at vs ps h o = absurd h
word_after (f ∷ (g ∷ fs)) s at vs ps h o =
    let a = and_T (eqb f (code ",")) (eqb g (code "d") && is_end fs) h in
    let b = and_T (eqb g (code "d")) (is_end fs) a.1 in
    let x : f ≡ code "," = comma-T f a.0 in
    let y : g ≡ code "d" = eqb-true g (code "d") (T_true (eqb g (code "d")) b.0) in
    rw (x, y) (data-after fs s at vs ps b.1 (rw (x, y) at o))

after-of : {f : ℕ} (x : Letter f) (fs s : List ℕ) (at : ℕ) (vs ps : List ℕ) → fields_from fs s at ≡ good vs ps
    → T (follows f (get_or (written_from fs s vs ps) 0 0)) → T (ends f fs) → After x (written_from fs s vs ps)
after-of a-number fs s at vs ps o h k = not_T (in_class Digit (get_or (written_from fs s vs ps) 0 0)) h
after-of a-wide fs s at vs ps o h k = not_T (in_class Digit (get_or (written_from fs s vs ps) 0 0)) h
after-of a-day fs s at vs ps o h k = not_T (in_class Digit (get_or (written_from fs s vs ps) 0 0)) h
after-of a-step fs s at vs ps o h k = not_T (in_class Digit (get_or (written_from fs s vs ps) 0 0)) h
after-of a-prompt fs s at vs ps o h k = tt
after-of a-text fs s at vs ps o h k = tt
after-of a-name fs s at vs ps o h k = tt
after-of a-star fs s at vs ps o h k = tt
after-of a-mode fs s at vs ps o h k = comma-T (get_or (written_from fs s vs ps) 0 0) h
after-of a-side fs s at vs ps o h k = comma-T (get_or (written_from fs s vs ps) 0 0) h
after-of a-type fs s at vs ps o h k = comma-T (get_or (written_from fs s vs ps) 0 0) h
after-of a_word fs s at vs ps o h k = word_after fs s at vs ps k o
after-of some-data fs s at vs ps o h k = end_after fs s vs ps k
after-of a-date fs s at vs ps o h k = end_after fs s vs ps k
after-of a-time fs s at vs ps o h k = end_after fs s vs ps k
after-of (itself p) fs s at vs ps o h k = tt

-- ---- the fields of a form, after pre
pub record Kept (fs s vs ps w : List ℕ) (q : ℕ) : Type 0 where
  pub places : List ℕ
  pub read : fields_from fs w q ≡ good vs places
  pub again : written_from fs w vs places ≡ written_from fs s vs ps
  pub limit : (ls : List (ℕ × ℕ)) (u : ℕ) → limits_from fs ls s u vs ps ≡ Ok tt → limits_from fs ls w u vs places ≡ Ok tt
  pub content : held_by fs w vs places ≡ held_by fs s vs ps

first-move : (a b c d : Result Unit ℕ) → (a ≡ Ok tt → c ≡ Ok tt) → (b ≡ Ok tt → d ≡ Ok tt) → first_of a b ≡ Ok tt → first_of c d ≡ Ok tt
first-move (Ok u) b c d f g h = rw (f refl) (g h)
first-move (Err p) b c d f g h = absurd (let z : ◌≡◌ {A = ℕ} 0 1 = cc in omega arith)

kept-end : (s : List ℕ) (at : ℕ) (vs ps pre : List ℕ) → fields_from [] s at ≡ good vs ps → Kept [] s vs ps (pre ++ []) (length pre)
unfolding fields_from written_from limits_from held_by
kept-end s at vs ps pre h = go (eqb at (length s)) h
  where
    go : (t : Bool) → cond t (good [] []) (bad [] [] at) ≡ good vs ps → Kept [] s vs ps (pre ++ []) (length pre)
    go true k =
        let v : [] ≡ vs = cc in
        let l : length pre ≡ length (pre ++ []) = (let z = length-append pre [] in omega arith) in
        rw (← v)
        (record {
          places = [];
          read = rw (eq-eqb (length pre) (length (pre ++ [])) l);
          again = refl;
          limit = λ ls u h. refl;
          content = refl;
        })
    go false k = absurd (let z : ◌≡◌ {A = ℕ} 0 1 = cc in omega arith)

kept_cons : (f : ℕ) (fs s : List ℕ) (at v : ℕ) (vs ps pre : List ℕ)
    → (let w : List ℕ = pre ++ (written_field f s v at ++ written_from fs s vs ps) in
    Moved f s v at w (length pre)
    → Kept fs s vs ps w (length pre + length (written_field f s v at))
    → Kept (f ∷ fs) s (v ∷ vs) (at ∷ ps) w (length pre))
unfolding fields_from written_from limits_from held_by
kept_cons f fs s at v vs ps pre m r =
    let w : List ℕ = pre ++ (written_field f s v at ++ written_from fs s vs ps) in
    record {
      places = length pre ∷ r.places;
      read = rw (m.read, r.read);
      again = rw (m.again, r.again);
      limit = λ ls u h.
          first-move (field_limits f (get_or ls 0 free) s u v at (get_or vs 1 0)) (limits_from fs (drop 1 ls) s (cond (is_number f) v u) vs ps)
          (field_limits f (get_or ls 0 free) w u v (length pre) (get_or vs 1 0))
          (limits_from fs (drop 1 ls) w (cond (is_number f) v u) vs r.places)
          (m.limit (get_or ls 0 free) u (get_or vs 1 0))
          (r.limit (drop 1 ls) (cond (is_number f) v u))
          h;
      content = rw (m.content, r.content);
    }

kept_same : (fs s vs ps ws qs pre : List ℕ) → ws ≡ vs → qs ≡ ps → Kept fs s vs ps (pre ++ written_from fs s vs ps) (length pre)
    → Kept fs s ws qs (pre ++ written_from fs s ws qs) (length pre)
kept_same fs s vs ps ws qs pre a b k = rw (a, b) k

fields-kept : (fs s : List ℕ) (at : ℕ) (vs ps pre : List ℕ) → T (sound fs) → fields_from fs s at ≡ good vs ps
    → Kept fs s vs ps (pre ++ written_from fs s vs ps) (length pre)
unfolding written_from
fields-kept [] s at vs ps pre h k = kept-end s at vs ps pre k
fields-kept (f ∷ fs) s at vs ps pre h k =
    let x = fields_split f fs s at vs ps k in
    let o = and_T (every (follows f) (starts fs)) (ends f fs && sound fs) (unfold sound in h) in
    let o' = and_T (ends f fs) (sound fs) o.1 in
    let w : List ℕ = written_field f s x.v at in
    let rest : List ℕ = written_from fs s x.vs x.ps in
    let g = every-among (follows f) (get_or rest 0 0) (starts fs) o.0 (start_of fs s x.e x.vs x.ps x.others) in
    let m = field-moved (letter-of f) s at x.v x.e pre rest x.first (after-of (letter-of f) fs s x.e x.vs x.ps x.others g o'.0) in
    let r = fields-kept fs s x.e x.vs x.ps (pre ++ w) o'.1 x.others in
    let r' : Kept fs s x.vs x.ps (pre ++ (w ++ rest)) (length pre + length w) = rw (append_assoc pre w rest, length-append pre w) at r in
    kept_same (f ∷ fs) s (x.v ∷ x.vs) (at ∷ x.ps) vs ps pre x.values x.places (kept_cons f fs s at x.v x.vs x.ps pre m r')

-- ---- the letters of a written line name its row

-- what holds of each form, with its number, holds of each row
abbrev pub every_row : (ℕ → List ℕ → Bool) → ℕ → List Form → Bool
every_row p i [] = true
every_row p i (f ∷ fs) = p i f.fields && every_row p (suc i) fs

pub every-row : (p : ℕ → List ℕ → Bool) (fs : List Form) (i : ℕ) → T (every_row p i fs) → ((k : ℕ) → T (p k [])) → (row : ℕ)
    → T (p (i + row) (get_or fs row none).fields)
every-row p [] i h e row = e (i + row)
every-row p (f ∷ fs) i h e zero = let q : i + 0 ≡ i = omega arith in rw q (and_T (p i f.fields) (every_row p (suc i) fs) h).0
every-row p (f ∷ fs) i h e (suc row) =
    let q : i + suc row ≡ suc i + row = omega arith in
    rw q (every-row p fs (suc i) (and_T (p i f.fields) (every_row p (suc i) fs) h).1 e row)

sound_row : ℕ → List ℕ → Bool
sound_row row fs = sound fs

row-sound : (row : ℕ) → T (sound (row_of row).fields)
unfolding sound_row sound starts between
row-sound row = every-row sound_row forms 0 tt (λ k. tt) row

abbrev is_row : Option ℕ → ℕ → Bool
is_row (Some k) row = eqb k row
is_row None row = false

abbrev is_capital : ℕ → Bool
is_capital b = between (code "A") (code "Z") b

abbrev is_head : ℕ → Bool
is_head a = is_capital a || (eqb a (code "?") || eqb a (code "q"))

-- the first byte of a written line is a letter. The second is a letter too, and then the third is one that the next field starts with; or it is one
-- that the next field starts with, and the third may be any
abbrev behind : ℕ → ℕ → ℕ → List ℕ → Bool
behind c row a [] = is_row (head_by a 0 c) row
behind c row a (b ∷ fs) =
    cond (is_capital b) (every (λ x. is_row (head_by a b x) row) (starts fs)) (every (λ x. is_row (head_by a x c) row) (starts (b ∷ fs)))

abbrev headed : ℕ → ℕ → List ℕ → Bool
headed c row [] = true
headed c row (a ∷ fs) = is_head a && behind c row a fs

row-headed : (c row : ℕ) → T (headed c row (row_of row).fields)
unfolding head_by find between starts
row-headed c row = let q = zero-add row in rw q at (every-row (headed c) forms 0 tt (λ k. tt) row)

head_plain : {a : ℕ} → Letter a → T (is_head a) → Plain a
unfolding between
head_plain a-number h = absurd h
head_plain a-wide h = absurd h
head_plain a-day h = absurd h
head_plain a-step h = absurd h
head_plain a-prompt h = absurd h
head_plain a-text h = absurd h
head_plain a-name h = absurd h
head_plain a-star h = absurd h
head_plain a-mode h = absurd h
head_plain a-side h = absurd h
head_plain a-type h = absurd h
head_plain a_word h = absurd h
head_plain some-data h = absurd h
head_plain a-date h = absurd h
head_plain a-time h = absurd h
head_plain (itself p) h = p

capital-head : (a : ℕ) → T (is_capital a) → T (is_head a)
capital-head a h = go (is_capital a) h
  where
    go : (t : Bool) → T t → T (t || (eqb a (code "?") || eqb a (code "q")))
    go true k = tt
    go false k = absurd k

row_is : (h : Option ℕ) (row : ℕ) → T (is_row h row) → h ≡ Some row
row_is (Some k) row t = ap Some (eqb-true k row (T_true (eqb k row) t))
row_is None row t = absurd t

-- the second byte, and the third behind a second letter
module _ (row a : ℕ) (s : List ℕ) where
  second-letter : (b : ℕ) (fs : List ℕ) (at : ℕ) (vs ps : List ℕ) → fields_from (b ∷ fs) s at ≡ good vs ps → T (is_capital b)
      → T (every (λ x. is_row (head_by a b x) row) (starts fs))
      → head_by a (get_or (written_from (b ∷ fs) s vs ps) 0 0) (get_or (written_from (b ∷ fs) s vs ps) 1 0) ≡ Some row
  second-letter b fs at vs ps k i h =
      let y = fields_split b fs s at vs ps k in
      let p = head_plain (letter-of b) (capital-head b i) in
      let z : ℕ = get_or (written_from fs s y.vs y.ps) 0 0 in
      let t = every-among (λ x. is_row (head_by a b x) row) z (starts fs) h (start_of fs s y.e y.vs y.ps y.others) in
      rw (written-split b fs s vs ps y.v at y.vs y.ps y.values y.places, plain-written p s y.v at) (row_is (head_by a b z) row t)

  second-other : (c : ℕ) (fs : List ℕ) (at : ℕ) (vs ps : List ℕ) → fields_from fs s at ≡ good vs ps
      → T (every (λ x. is_row (head_by a x c) row) (starts fs))
      → head_by a (get_or (written_from fs s vs ps) 0 0) c ≡ Some row
  second-other c fs at vs ps k h =
      let z : ℕ = get_or (written_from fs s vs ps) 0 0 in
      row_is (head_by a z c) row (every-among (λ x. is_row (head_by a x c) row) z (starts fs) h (start_of fs s at vs ps k))

  second_back : (fs : List ℕ) (at : ℕ) (vs ps : List ℕ) → T (behind (get_or (written_from fs s vs ps) 1 0) row a fs) → fields_from fs s at ≡ good vs ps
      → head_by a (get_or (written_from fs s vs ps) 0 0) (get_or (written_from fs s vs ps) 1 0) ≡ Some row
  second_back [] at vs ps h k = unfold written_from in row_is (head_by a 0 0) row h
  second_back (b ∷ fs) at vs ps h k = go (is_capital b) refl h
    where
      go : (t : Bool) → is_capital b ≡ t
          → T (cond t (every (λ x. is_row (head_by a b x) row) (starts fs)) (every (λ x. is_row (head_by a x (get_or (written_from (b ∷ fs) s vs ps) 1 0)) row) (starts (b ∷ fs))))
          → head_by a (get_or (written_from (b ∷ fs) s vs ps) 0 0) (get_or (written_from (b ∷ fs) s vs ps) 1 0) ≡ Some row
      go true e q = second-letter b fs at vs ps k (rw e tt) q
      go false e q = second-other (get_or (written_from (b ∷ fs) s vs ps) 1 0) (b ∷ fs) at vs ps k q

head-split : (row a : ℕ) (fs s : List ℕ) (at : ℕ) (vs ps : List ℕ) (x : Split a fs s at vs ps) → Plain a
    → head_by a (get_or (written_from fs s x.vs x.ps) 0 0) (get_or (written_from fs s x.vs x.ps) 1 0) ≡ Some row
    → head_of (written_from (a ∷ fs) s vs ps) ≡ Some row
unfolding head_of
head-split row a fs s at vs ps x p h =
    rw (written-split a fs s vs ps x.v at x.vs x.ps x.values x.places, plain-written p s x.v at) h

head-back : (row : ℕ) (fs s vs ps : List ℕ) → ((c : ℕ) → T (headed c row fs)) → 0 < length fs → fields_from fs s 0 ≡ good vs ps
    → head_of (written_from fs s vs ps) ≡ Some row
head-back row [] s vs ps h l k = absurd (omega arith)
head-back row (a ∷ fs) s vs ps h l k =
    let x = fields_split a fs s 0 vs ps k in
    let c = get_or (written_from fs s x.vs x.ps) 1 0 in
    let o = and_T (is_head a) (behind c row a fs) (h c) in
    let p = head_plain (letter-of a) o.0 in
    head-split row a fs s 0 vs ps x p (second_back row a s fs x.e x.vs x.ps o.1 x.others)

-- ---- lines

module _ (s : List ℕ) (row : ℕ) (vs ps : List ℕ) (h : head_of s ≡ Some row)
    (k : fields_from (row_of row).fields s 0 ≡ good vs ps) where
  pub normal-is : normal s ≡ written_from (row_of row).fields s vs ps
  unfolding head_written written_of
  normal-is = rw (h, k)

  contents-is : contents s ≡ held_by (row_of row).fields s vs ps
  unfolding head_contents contents_of
  contents-is = rw (h, k)

  read_is : (rows : ℕ) → read_of rows s ≡ decided (limits_from (row_of row).fields (bounds_of row rows) s 0 vs ps) (command_of row s vs ps)
  unfolding read_of head_read judged
  read_is rows = rw (h, k)

empty-unknown : (row : ℕ) → head_of [] ≡ Some row → ⊥
unfolding head_of head_by find between
empty-unknown row h = let z : ◌≡◌ {A = ℕ} 0 1 = cc in omega arith

some-unread : (x : ℕ) (xs vs ps : List ℕ) → fields_from [] (x ∷ xs) 0 ≡ good vs ps → ⊥
unfolding fields_from
some-unread x xs vs ps h =
    let e : eqb 0 (length (x ∷ xs)) ≡ false = ne_eqb 0 (length (x ∷ xs)) (λ q. omega arith) in
    let k : bad [] [] 0 ≡ good vs ps = rw e at h in
    let z : ◌≡◌ {A = ℕ} 0 1 = cc in
    omega arith

-- a line that is read is not empty
row-some : (s : List ℕ) (row : ℕ) (vs ps : List ℕ) → head_of s ≡ Some row → fields_from (row_of row).fields s 0 ≡ good vs ps
    → 0 < length (row_of row).fields
row-some s row vs ps h k = go (row_of row).fields k
  where
    none_read : (s : List ℕ) → head_of s ≡ Some row → fields_from [] s 0 ≡ good vs ps → ⊥
    none_read [] h k = empty-unknown row h
    none_read (x ∷ xs) h k = some-unread x xs vs ps k

    go : (fs : List ℕ) → fields_from fs s 0 ≡ good vs ps → 0 < length fs
    go [] q = absurd (none_read s h q)
    go (f ∷ fs) q = omega arith

-- ---- what a row makes of other places

-- a command without its places; what is no item does not count
abbrev bare : Command → Command
bare (item i) = item (unplaced i)
bare End = End
bare (Page c) = End
bare (Forms c) = End
bare (Pictures c) = End
bare (Values c) = End
bare (Listing c) = End
bare (Clock c) = End

-- the numbers and letters of an item do not depend on its line and its places
Steady : ℕ → Form → Type 0
Steady k f = (s w : List ℕ) (v p q : ℕ → ℕ) → bare (f.makes s v p) ≡ bare (f.makes w v q)

every-steady : Each Steady forms
unfolding Steady
every-steady =
    (λ s w v p q. refl)
    & (λ s w v p q. refl)
    & (λ s w v p q. refl)
    & (λ s w v p q. refl)
    & (λ s w v p q. refl)
    & (λ s w v p q. refl)
    & (λ s w v p q. refl)
    & (λ s w v p q. refl)
    & (λ s w v p q. refl)
    & (λ s w v p q. refl)
    & (λ s w v p q. refl)
    & (λ s w v p q. refl)
    & (λ s w v p q. refl)
    & (λ s w v p q. refl)
    & (λ s w v p q. refl)
    & (λ s w v p q. refl)
    & (λ s w v p q. refl)
    & (λ s w v p q. refl)
    & (λ s w v p q. refl)
    & (λ s w v p q. refl)
    & (λ s w v p q. refl)
    & (λ s w v p q. refl)
    & (λ s w v p q. refl)
    & (λ s w v p q. refl)
    & (λ s w v p q. refl)
    & (λ s w v p q. refl)
    & (λ s w v p q. refl)
    & (λ s w v p q. refl)
    & (λ s w v p q. refl)
    & (λ s w v p q. refl)
    & (λ s w v p q. refl)
    & (λ s w v p q. refl)
    & (λ s w v p q. refl)
    & (λ s w v p q. refl)
    & (λ k s w v p q. refl)

-- an item that the same values make at other places
record Again (row : ℕ) (w vs ps : List ℕ) (i : Item) : Type 0 where
  back : Item
  made : command_of row w vs ps ≡ item back
  same : unplaced back ≡ unplaced i

made_again : (row : ℕ) (s w vs ps qs : List ℕ) (i : Item) → command_of row s vs ps ≡ item i → Again row w vs qs i
unfolding Steady
made_again row s w vs ps qs i h = go (command_of row w vs qs) refl (sym (each_row Steady every-steady row s w (λ k. get_or (in_order (row_of row).fields 0 vs) k 0) (λ k. get_or (in_order (row_of row).fields 0 ps) k 0) (λ k. get_or (in_order (row_of row).fields 0 qs) k 0)) ∙ ap bare h)
  where
    go : (c : Command) → command_of row w vs qs ≡ c → bare c ≡ item (unplaced i) → Again row w vs qs i
    go (item b) e k = record { back = b; made = e; same = cc }
    go End e k = absurd (let z : ◌≡◌ {A = ℕ} 0 1 = cc in omega arith)
    go (Page c) e k = absurd (let z : ◌≡◌ {A = ℕ} 0 1 = cc in omega arith)
    go (Forms c) e k = absurd (let z : ◌≡◌ {A = ℕ} 0 1 = cc in omega arith)
    go (Pictures c) e k = absurd (let z : ◌≡◌ {A = ℕ} 0 1 = cc in omega arith)
    go (Values c) e k = absurd (let z : ◌≡◌ {A = ℕ} 0 1 = cc in omega arith)
    go (Listing c) e k = absurd (let z : ◌≡◌ {A = ℕ} 0 1 = cc in omega arith)
    go (Clock c) e k = absurd (let z : ◌≡◌ {A = ℕ} 0 1 = cc in omega arith)

normal-row : (rows : ℕ) (s : List ℕ) (i : Item) (row : ℕ) (vs ps : List ℕ) → head_of s ≡ Some row
    → fields_from (row_of row).fields s 0 ≡ good vs ps → limits_from (row_of row).fields (bounds_of row rows) s 0 vs ps ≡ Ok tt
    → command_of row s vs ps ≡ item i → Normal rows s i
normal-row rows s i row vs ps h k l c =
    let fs : List ℕ = (row_of row).fields in
    let w : List ℕ = written_from fs s vs ps in
    let m : Kept fs s vs ps w 0 = fields-kept fs s 0 vs ps [] (row-sound row) k in
    let b : head_of w ≡ Some row = head-back row fs s vs ps (λ c. row-headed c row) (row-some s row vs ps h k) k in
    let n : normal s ≡ w = normal-is s row vs ps h k in
    let o = made_again row s w vs ps m.places i c in
    let r : read_of rows w ≡ Ok (item o.back) =
    read_is w row vs m.places b m.read rows ∙ rw (m.limit (bounds_of row rows) 0 l) (ap Ok o.made) in
    let d : contents w ≡ contents s = contents-is w row vs m.places b m.read ∙ m.content ∙ sym (contents-is s row vs ps h k) in
    let a : normal w ≡ w = normal-is w row vs m.places b m.read ∙ m.again in
    record {
      back = o.back;
      read = rw n r;
      same = o.same;
      content = rw n d;
      again = rw n a;
    }

-- a line that is an item: its row, its fields, within their limits
pub record Parted (rows : ℕ) (s : List ℕ) (i : Item) : Type 0 where
  pub row : ℕ
  pub vs : List ℕ
  pub ps : List ℕ
  pub head : head_of s ≡ Some row
  pub read : fields_from (row_of row).fields s 0 ≡ good vs ps
  pub within : limits_from (row_of row).fields (bounds_of row rows) s 0 vs ps ≡ Ok tt
  pub command : command_of row s vs ps ≡ item i

pub item-parted : (rows : ℕ) (s : List ℕ) (i : Item) → read_of rows s ≡ Ok (item i) → Parted rows s i
unfolding read_of head_read judged
item-parted rows s i h = go (head_of s) refl h
  where
    within : (row : ℕ) (vs ps : List ℕ) (l : Result Unit ℕ) → head_of s ≡ Some row → fields_from (row_of row).fields s 0 ≡ good vs ps
        → limits_from (row_of row).fields (bounds_of row rows) s 0 vs ps ≡ l → decided l (command_of row s vs ps) ≡ Ok (item i) → Parted rows s i
    within row vs ps (Ok u) a b c d = record { row = row; vs = vs; ps = ps; head = a; read = b; within = c; command = cc }
    within row vs ps (Err p) a b c d = absurd (let z : ◌≡◌ {A = ℕ} 0 1 = cc in omega arith)

    fields : (row : ℕ) (g : Got) → head_of s ≡ Some row → fields_from (row_of row).fields s 0 ≡ g
        → judged row rows s g ≡ Ok (item i) → Parted rows s i
    fields row (good vs ps) a b c = within row vs ps (limits_from (row_of row).fields (bounds_of row rows) s 0 vs ps) a b refl c
    fields row (bad vs ps p) a b c = absurd (let z : ◌≡◌ {A = ℕ} 0 1 = cc in omega arith)

    go : (x : Option ℕ) → head_of s ≡ x → head_read x rows s ≡ Ok (item i) → Parted rows s i
    go (Some row) a c = fields row (fields_from (row_of row).fields s 0) a refl c
    go None a c = absurd (let z : ◌≡◌ {A = ℕ} 0 1 = cc in omega arith)

pub normal-line : (rows : ℕ) (s : List ℕ) (i : Item) → read_of rows s ≡ Ok (item i) → Normal rows s i
normal-line rows s i h =
    let p = item-parted rows s i h in
    normal-row rows s i p.row p.vs p.ps p.head p.read p.within p.command

-- no item asks for the rows of the page
Rowless : ℕ → Form → Type 0
Rowless k f = (s : List ℕ) (v p : ℕ → ℕ) (i : Item) → f.makes s v p ≡ item i → (r r' : ℕ) → f.bounds r ≡ f.bounds r'

every-rowless : Each Rowless forms
unfolding Rowless
every-rowless =
    (λ s v p i h r r'. absurd (let z : ◌≡◌ {A = ℕ} 0 1 = cc in omega arith))
    & (λ s v p i h r r'. refl)
    & (λ s v p i h r r'. refl)
    & (λ s v p i h r r'. refl)
    & (λ s v p i h r r'. refl)
    & (λ s v p i h r r'. refl)
    & (λ s v p i h r r'. refl)
    & (λ s v p i h r r'. refl)
    & (λ s v p i h r r'. refl)
    & (λ s v p i h r r'. refl)
    & (λ s v p i h r r'. refl)
    & (λ s v p i h r r'. refl)
    & (λ s v p i h r r'. refl)
    & (λ s v p i h r r'. refl)
    & (λ s v p i h r r'. refl)
    & (λ s v p i h r r'. refl)
    & (λ s v p i h r r'. refl)
    & (λ s v p i h r r'. refl)
    & (λ s v p i h r r'. refl)
    & (λ s v p i h r r'. refl)
    & (λ s v p i h r r'. refl)
    & (λ s v p i h r r'. refl)
    & (λ s v p i h r r'. refl)
    & (λ s v p i h r r'. refl)
    & (λ s v p i h r r'. refl)
    & (λ s v p i h r r'. refl)
    & (λ s v p i h r r'. refl)
    & (λ s v p i h r r'. refl)
    & (λ s v p i h r r'. refl)
    & (λ s v p i h r r'. refl)
    & (λ s v p i h r r'. refl)
    & (λ s v p i h r r'. refl)
    & (λ s v p i h r r'. refl)
    & (λ s v p i h r r'. refl)
    & (λ k s v p i h r r'. refl)

bounds-steady : (r r' row : ℕ) (s vs ps : List ℕ) (i : Item) → command_of row s vs ps ≡ item i → bounds_of row r ≡ bounds_of row r'
unfolding Rowless
bounds-steady r r' row s vs ps i h = ap (spread (row_of row).fields) (each_row Rowless every-rowless row s (λ k. get_or (in_order (row_of row).fields 0 vs) k 0) (λ k. get_or (in_order (row_of row).fields 0 ps) k 0) i h r r')

pub item-rows : (r r' : ℕ) (s : List ℕ) (i : Item) → read_of r s ≡ Ok (item i) → read_of r' s ≡ Ok (item i)
item-rows r r' s i h =
    let p = item-parted r s i h in
    let l : limits_from (row_of p.row).fields (bounds_of p.row r') s 0 p.vs p.ps ≡ Ok tt =
    rw (bounds-steady r' r p.row s p.vs p.ps i p.command) p.within in
    read_is s p.row p.vs p.ps p.head p.read r' ∙ rw l (ap Ok p.command)
