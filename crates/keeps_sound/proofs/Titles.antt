-- The name under which FS and GM store: a line that is read gives one that an entry may bear.
-- Assumes nothing.
use Rattle.std.proofs.Common.{Option, Some, None, Ok, Result, Err}
use mathlib.Core.Path.{◌≡◌, refl, sym, ap, ◌∙◌, subst}
use mathlib.Core.Bool.{Bool, true, false, not, cond, ◌&&◌, ◌||◌, false≢true, and-false}
use mathlib.Core.List.{List, [], ◌∷◌}
use mathlib.Core.Logic.{⊎_elim}
use Prim.Native.Nat.{ℕ, zero, suc, ◌+◌, ◌≤◌, ◌<◌}
use native.Mathlib.Omega.{arith}
use lib.ListN.{length, get_or, drop}
use lib.Seq.{get_or-drop}
use lib.Dec.{eqb, leb, ltb}
use borrow.Author.Tests.{eq-eqb, eqb-true, leb-true, leb-false, le-leb, lt-leb, lt-ltb, le-ltb, ltb-true, ltb-false}
use Rattle.kinds.specs.Bytes.{between}
use Rattle.cells.specs.Count.{all_to}
use Rattle.cells.specs.Scan.{lowest}
use Rattle.cells.proofs.Counts.{all-at, all_of}
use Rattle.cells.proofs.Scan.{lowest-passes, lowest-first, lowest-most}
use Rattle.classes.specs.declared.Class.{Class}
use Rattle.classes.specs.declared.Class.TheVariants.{Named as NameByte}
use Rattle.classes.specs.Bytes.{in_class, run, run_at}
use Rattle.starting.specs.Start.{name_end}
use Rattle.store_sound.specs.Sound.{legal_byte, name_byte_ok}
use Rattle.store_sound.specs.Shelf.{title_ok}
use Rattle.row_fields.specs.Reading.{Got, good, bad, fields_from}
use Rattle.grammar.specs.Named.{FS, GM}
use Rattle.grammar.specs.Forms.{Form, forms, row_of, bounds_of, is_number, spread, free, command_of, in_order}
use Rattle.grammar.proofs.Rows.{◌&◌, Each, each_row}
use Rattle.heads.specs.Heads.{head_of}
use Rattle.row_limits.specs.Limits.{limits_from, field_limits, first_of, meets, named}
use Rattle.parts.specs.Names.{capital, name_byte, packed_of}
use Rattle.read.specs.Commands.{read_of, headed, judged, decided}
use Rattle.grammar.specs.declared.Named.{Named}
use Rattle.grammar.specs.declared.StorePicture.{StorePicture}
use Rattle.grammar.specs.declared.Command.{Command}
use Rattle.grammar.specs.declared.Command.TheVariants.{Item as item, End, Page, Forms, Pictures, Values, Listing, Clock}
use Rattle.grammar.specs.declared.FormCommand.TheVariants.{Start, Retrieve, Erase as EraseForm}
use Rattle.grammar.specs.declared.PictureCommand.TheVariants.{Store, Erase as ErasePicture}
use Rattle.ground.proofs.Tests.{same?, and_both, either}

-- ---- a name in capitals is a title

-- a byte of a name, made a capital, is legal
legal-case : ℕ → Bool
legal-case b = not (in_class NameByte b) || legal_byte (capital b)

all-legal : all_to legal-case 127 ≡ true
unfolding legal-case legal_byte capital between
all-legal = refl

name-small : (b : ℕ) → in_class NameByte b ≡ true → b < 127
unfolding between
name-small b h = ⊎_elim
    (λ (y : leb b 126 ≡ true). omega (arith, leb-true b 126 y))
    (λ (y : leb b 126 ≡ false).
    let l : 126 < b = leb-false b 126 y in
    absurd (false≢true (sym (simp (lt-leb b 33 (omega arith), lt-leb b 41 (omega arith), lt-leb b 126 (omega arith), and-false)) ∙ h)))
    (either (leb b 126))

capital-legal : (b : ℕ) → in_class NameByte b ≡ true → legal_byte (capital b) ≡ true
unfolding legal-case
capital-legal b h = rw h at (all-at legal-case 127 all-legal b (name-small b h))

-- a legal byte is no zero
pub legal-some : (c : ℕ) → legal_byte c ≡ true → c ≡ 0 → ⊥
unfolding legal_byte
legal-some c h e = false≢true (rw e at h)

-- the bytes of a run are of its class
run-at : (k : Class) (l : List ℕ) (i : ℕ) → i < run k l → in_class k (get_or l i 0) ≡ true
unfolding run
run-at k [] i h = absurd (omega arith)
run-at k (b ∷ bs) i h = go (in_class k b) refl i h (run-at k bs)
  where
    go : (t : Bool) → in_class k b ≡ t → (i : ℕ) → i < cond t (suc (run k bs)) 0 → ((j : ℕ) → j < run k bs → in_class k (get_or bs j 0) ≡ true)
        → in_class k (get_or (b ∷ bs) i 0) ≡ true
    go true e zero h r = e
    go true e (suc i) h r = r i (omega arith)
    go false e i h r = absurd (omega arith)

-- eight bytes that a function gives
pub eight-at : (f : ℕ → ℕ) (k : ℕ) → k < 8 → get_or (f 0 ∷ f 1 ∷ f 2 ∷ f 3 ∷ f 4 ∷ f 5 ∷ f 6 ∷ f 7 ∷ []) k 0 ≡ f k
eight-at f zero h = refl
eight-at f (suc zero) h = refl
eight-at f (suc (suc zero)) h = refl
eight-at f (suc (suc (suc zero))) h = refl
eight-at f (suc (suc (suc (suc zero)))) h = refl
eight-at f (suc (suc (suc (suc (suc zero))))) h = refl
eight-at f (suc (suc (suc (suc (suc (suc zero)))))) h = refl
eight-at f (suc (suc (suc (suc (suc (suc (suc zero))))))) h = refl
eight-at f (suc (suc (suc (suc (suc (suc (suc (suc k)))))))) h = absurd (omega arith)

module _ (s : List ℕ) (p n : ℕ) (some : 1 ≤ n) (few : n ≤ 8) (name : run_at NameByte s (p + 1) ≡ n) where
  abbrev title : List ℕ
  title = packed_of s p n

  title-in : (k : ℕ) → k < n → legal_byte (get_or title k 0) ≡ true
  unfolding name_byte
  title-in k h =
      let c : in_class NameByte (get_or s (p + 1 + k) 0) ≡ true = rw (get_or-drop (p + 1) s k 0) at (run-at NameByte (drop (p + 1) s) k (omega arith)) in
      ap legal_byte (eight-at (name_byte s p n) k (omega arith) ∙ rw (lt-ltb k n h)) ∙ capital-legal (get_or s (p + 1 + k) 0) c

  title-out : (k : ℕ) → n ≤ k → k < 8 → get_or title k 0 ≡ 0
  unfolding name_byte
  title-out k h l = eight-at (name_byte s p n) k l ∙ rw (le-ltb k n h)

  abbrev is_zero : ℕ → Bool
  is_zero k = eqb (get_or title k 0) 0

  title-end : name_end title ≡ n
  unfolding name_end
  title-end =
      let most = lowest-most is_zero 8 in
      let up : lowest is_zero 8 ≤ n = ⊎_elim
      (λ (y : n ≡ 8). omega arith)
      (λ (y : n ≡ 8 → ⊥). lowest-first is_zero 8 n (omega arith) (eq-eqb _ 0 (title-out n (omega arith) (omega arith))))
      (same? n 8) in
      ⊎_elim
      (λ (y : lowest is_zero 8 ≡ n). y)
      (λ (y : lowest is_zero 8 ≡ n → ⊥).
      let l : lowest is_zero 8 < n = omega arith in
      absurd (legal-some (get_or title (lowest is_zero 8) 0) (title-in (lowest is_zero 8) l) (eqb-true _ 0 (lowest-passes is_zero 8 (omega arith)))))
      (same? (lowest is_zero 8) n)

  -- legal bytes, and zeros behind them
  pub title-byte : (k : ℕ) → k < 8 → name_byte_ok n title k ≡ true
  unfolding name_byte_ok
  title-byte k l = ⊎_elim
      (λ (y : ltb k n ≡ true). rw y (title-in k (ltb-true k n y)))
      (λ (y : ltb k n ≡ false). rw y (eq-eqb _ 0 (title-out k (ltb-false k n y) l)))
      (either (ltb k n))

  pub title-legal : title_ok (packed_of s p n) ≡ true
  unfolding title_ok
  title-legal = rw title-end (and_both _ _ (and_both _ _ (le-leb 1 n some) (le-leb n 8 few)) (all_of (name_byte_ok n title) 8 title-byte))

-- ---- a line that is read: its row, its fields, within their limits

pub record Parted (rows : ℕ) (s : List ℕ) (c : Command) : Type 0 where
  pub row : ℕ
  pub head : head_of s ≡ Some row
  pub vs : List ℕ
  pub ps : List ℕ
  pub read : fields_from (row_of row).fields s 0 ≡ good vs ps
  pub within : limits_from (row_of row).fields (bounds_of row rows) s 0 vs ps ≡ Ok tt
  pub command : command_of row s vs ps ≡ c

pub line-parted : (rows : ℕ) (s : List ℕ) (c : Command) → read_of rows s ≡ Ok c → Parted rows s c
unfolding read_of headed judged
line-parted rows s c h = go (head_of s) refl h
  where
    within : (row : ℕ) (vs ps : List ℕ) (l : Result Unit ℕ) → head_of s ≡ Some row → fields_from (row_of row).fields s 0 ≡ good vs ps
        → limits_from (row_of row).fields (bounds_of row rows) s 0 vs ps ≡ l → decided l (command_of row s vs ps) ≡ Ok c → Parted rows s c
    within row vs ps (Ok u) a b e d = record { row = row; head = a; vs = vs; ps = ps; read = b; within = e; command = cc }
    within row vs ps (Err p) a b e d = absurd (let z : ◌≡◌ {A = ℕ} 0 1 = cc in omega arith)

    fields : (row : ℕ) (g : Got) → head_of s ≡ Some row → fields_from (row_of row).fields s 0 ≡ g → judged row rows s g ≡ Ok c → Parted rows s c
    fields row (good vs ps) a b d = within row vs ps (limits_from (row_of row).fields (bounds_of row rows) s 0 vs ps) a b refl d
    fields row (bad vs ps p) a b d = absurd (let z : ◌≡◌ {A = ℕ} 0 1 = cc in omega arith)

    go : (x : Option ℕ) → head_of s ≡ x → headed x rows s ≡ Ok c → Parted rows s c
    go (Some row) a d = fields row (fields_from (row_of row).fields s 0) a refl d
    go None a d = absurd (let z : ◌≡◌ {A = ℕ} 0 1 = cc in omega arith)

-- what the limits of a row tell of the command that its fields make, for each row
abbrev pub Told : (ℕ → List ℕ → Command → Type 0) → ℕ → Form → Type 0
Told q k f =
    (rows : ℕ) (s vs ps : List ℕ) → limits_from f.fields (spread f.fields (f.bounds rows)) s 0 vs ps ≡ Ok tt
    → q rows s (f.makes s (λ i. get_or (in_order f.fields 0 vs) i 0) (λ i. get_or (in_order f.fields 0 ps) i 0))

pub limits-tell : (q : ℕ → List ℕ → Command → Type 0) → Each (Told q) forms → (rows : ℕ) (s : List ℕ) (c : Command) → read_of rows s ≡ Ok c → q rows s c
limits-tell q h rows s c e =
    let p = line-parted rows s c e in
    subst (q rows s) p.command (each_row (Told q) h p.row rows s p.vs p.ps p.within)

-- ---- its name is within its limits

pub first-within : (a b : Result Unit ℕ) → first_of a b ≡ Ok tt → (a ≡ Ok tt) × (b ≡ Ok tt)
first-within (Ok u) b h = (refl, h)
first-within (Err p) b h = absurd (let z : ◌≡◌ {A = ℕ} 0 1 = cc in omega arith)

third : (l : List ℕ) → get_or (drop 1 (drop 1 l)) 0 0 ≡ get_or l 2 0
third [] = refl
third (x ∷ []) = refl
third (x ∷ (y ∷ l)) = refl

-- a name field: 1 to 8 bytes, all of them a name's
pub record Name (s : List ℕ) (p n : ℕ) : Type 0 where
  pub some : 1 ≤ n
  pub few : n ≤ 8
  pub bytes : run_at NameByte s (p + 1) ≡ n

name-field : (s : List ℕ) (u v p n : ℕ) → field_limits 97 (1, 8) s u v p n ≡ Ok tt → Name s p v
unfolding field_limits meets between
name-field s u v p n h = go (leb 1 v) (leb v 8) (named s p v) refl refl refl h
  where
    go : (a b c : Bool) → leb 1 v ≡ a → leb v 8 ≡ b → named s p v ≡ c → ◌≡◌ {A = Result Unit ℕ} (cond ((a && b) && c) (Ok tt) (Err p)) (Ok tt) → Name s p v
    go true true true x y z k = record { some = leb-true 1 v x; few = leb-true v 8 y; bytes = eqb-true (run_at NameByte s (p + 1)) v z }
    go true true false x y z k = absurd (let w : ◌≡◌ {A = ℕ} 0 1 = cc in omega arith)
    go true false c x y z k = absurd (let w : ◌≡◌ {A = ℕ} 0 1 = cc in omega arith)
    go false b c x y z k = absurd (let w : ◌≡◌ {A = ℕ} 0 1 = cc in omega arith)

pub limits-rest : (f : ℕ) (fs : List ℕ) (ls : List (ℕ × ℕ)) (s : List ℕ) (u : ℕ) (vs ps : List ℕ) → limits_from (f ∷ fs) ls s u vs ps ≡ Ok tt
    → limits_from fs (drop 1 ls) s (cond (is_number f) (get_or vs 0 0) u) (drop 1 vs) (drop 1 ps) ≡ Ok tt
unfolding limits_from
limits-rest f fs ls s u vs ps h =
    (first-within (field_limits f (get_or ls 0 free) s u (get_or vs 0 0) (get_or ps 0 0) (get_or vs 2 0))
    (limits_from fs (drop 1 ls) s (cond (is_number f) (get_or vs 0 0) u) (drop 1 vs) (drop 1 ps)) h).1

limits-name : (fs : List ℕ) (ls : List (ℕ × ℕ)) (s : List ℕ) (u : ℕ) (vs ps : List ℕ) → get_or ls 0 free ≡ (1, 8) → limits_from (97 ∷ fs) ls s u vs ps ≡ Ok tt
    → Name s (get_or ps 0 0) (get_or vs 0 0)
unfolding limits_from
limits-name fs ls s u vs ps e h =
    name-field s u (get_or vs 0 0) (get_or ps 0 0) (get_or vs 2 0)
    (ap (λ (l : ℕ × ℕ). field_limits 97 l s u (get_or vs 0 0) (get_or ps 0 0) (get_or vs 2 0)) (sym e)
    ∙ (first-within (field_limits 97 (get_or ls 0 free) s u (get_or vs 0 0) (get_or ps 0 0) (get_or vs 2 0))
    (limits_from fs (drop 1 ls) s (cond (is_number 97) (get_or vs 0 0) u) (drop 1 vs) (drop 1 ps)) h).0)

third-name : (f g : ℕ) (fs : List ℕ) (ls : List (ℕ × ℕ)) (s : List ℕ) (u : ℕ) (vs ps : List ℕ) → get_or (drop 1 (drop 1 ls)) 0 free ≡ (1, 8)
    → limits_from (f ∷ (g ∷ (97 ∷ fs))) ls s u vs ps ≡ Ok tt → Name s (get_or ps 2 0) (get_or vs 2 0)
third-name f g fs ls s u vs ps e h =
    let a = limits-rest f (g ∷ (97 ∷ fs)) ls s u vs ps h in
    let b = limits-rest g (97 ∷ fs) (drop 1 ls) s (cond (is_number f) (get_or vs 0 0) u) (drop 1 vs) (drop 1 ps) a in
    let c = limits-name fs (drop 1 (drop 1 ls)) s (cond (is_number g) (get_or (drop 1 vs) 0 0) (cond (is_number f) (get_or vs 0 0) u)) (drop 1 (drop 1 vs)) (drop 1 (drop 1 ps)) e b in
    rw (third ps, third vs) at c

-- the name under which FS and GM store is a name's
abbrev Titled : ℕ → List ℕ → Command → Type 0
Titled rows s (item i) = Unit {0}
Titled rows s End = Unit {0}
Titled rows s (Page c) = Unit {0}
Titled rows s (Forms (Start n)) = Name s n.at n.length
Titled rows s (Forms (Retrieve n)) = Unit {0}
Titled rows s (Forms (EraseForm n)) = Unit {0}
Titled rows s (Pictures (Store x)) = Name s x.at x.length
Titled rows s (Pictures (ErasePicture n)) = Unit {0}
Titled rows s (Values c) = Unit {0}
Titled rows s (Listing c) = Unit {0}
Titled rows s (Clock c) = Unit {0}

titles : Each (Told Titled) forms
unfolding spread in_order
titles =
    (λ rows s vs ps h. tt)
    & (λ rows s vs ps h. tt)
    & (λ rows s vs ps h. tt)
    & (λ rows s vs ps h. tt)
    & (λ rows s vs ps h. tt)
    & (λ rows s vs ps h. tt)
    & (λ rows s vs ps h. tt)
    & (λ rows s vs ps h. tt)
    & (λ rows s vs ps h. tt)
    & (λ rows s vs ps h. tt)
    & (λ rows s vs ps h. tt)
    & (λ rows s vs ps h. tt)
    & (λ rows s vs ps h. third-name 70 83 [] (bounds_of FS rows) s 0 vs ps refl h)
    & (λ rows s vs ps h. tt)
    & (λ rows s vs ps h. tt)
    & (λ rows s vs ps h. tt)
    & (λ rows s vs ps h. tt)
    & (λ rows s vs ps h. tt)
    & (λ rows s vs ps h. tt)
    & (λ rows s vs ps h. tt)
    & (λ rows s vs ps h. third-name 71 77 (44 ∷ (110 ∷ [])) (bounds_of GM rows) s 0 vs ps refl h)
    & (λ rows s vs ps h. tt)
    & (λ rows s vs ps h. tt)
    & (λ rows s vs ps h. tt)
    & (λ rows s vs ps h. tt)
    & (λ rows s vs ps h. tt)
    & (λ rows s vs ps h. tt)
    & (λ rows s vs ps h. tt)
    & (λ rows s vs ps h. tt)
    & (λ rows s vs ps h. tt)
    & (λ rows s vs ps h. tt)
    & (λ rows s vs ps h. tt)
    & (λ rows s vs ps h. tt)
    & (λ rows s vs ps h. tt)
    & (λ k rows s vs ps h. tt)

pub start-named : (rows : ℕ) (s : List ℕ) (n : Named) → read_of rows s ≡ Ok (Forms (Start n)) → Name s n.at n.length
start-named rows s n h = limits-tell Titled titles rows s (Forms (Start n)) h

pub store-named : (rows : ℕ) (s : List ℕ) (x : StorePicture) → read_of rows s ≡ Ok (Pictures (Store x)) → Name s x.at x.length
store-named rows s x h = limits-tell Titled titles rows s (Pictures (Store x)) h

name-title : (s : List ℕ) (p n : ℕ) → Name s p n → title_ok (packed_of s p n) ≡ true
name-title s p n a = title-legal s p n a.some a.few a.bytes

pub start-title : (rows : ℕ) (s : List ℕ) (n : Named) → read_of rows s ≡ Ok (Forms (Start n)) → title_ok (packed_of s n.at n.length) ≡ true
start-title rows s n h = name-title s n.at n.length (start-named rows s n h)

pub store-title : (rows : ℕ) (s : List ℕ) (x : StorePicture) → read_of rows s ≡ Ok (Pictures (Store x)) → title_ok (packed_of s x.at x.length) ≡ true
store-title rows s x h = name-title s x.at x.length (store-named rows s x h)
