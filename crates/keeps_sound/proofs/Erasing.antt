-- FK and GK: forms and pictures are erased.
-- Assumes nothing.
use mathlib.Core.Path.{◌≡◌, refl, sym, ap, ◌∙◌, subst}
use mathlib.Core.Bool.{Bool, true, false, cond, false≢true}
use mathlib.Core.List.{List}
use Prim.Native.Nat.{ℕ, ◌/◌, ◌<◌}
use native.Mathlib.Omega.{arith}
use lib.ListN.{get_or}
use lib.Dec.{eqb}
use borrow.Author.Tests.{ne_eqb, eqb-false}
use Rattle.cells.proofs.Scan.{lowest-passes}
use Rattle.std.specs.Prelude.{None, Option, Some}
use Rattle.store.specs.Entry.{entries, entry, kind, of_kind}
use Rattle.finding.specs.Find.{same_name, titled, titled_at}
use Rattle.finding.proofs.Finding.{at-says}
use Rattle.memory.specs.Memory.{Memory}
use Rattle.erasing.specs.Erase.{erased_at, erased_all}
use Rattle.store_sound.specs.Shelf.{Held, nothing, shelf_of, swept}
use Rattle.store_sound.proofs.Listing.{shelf-at}
use Rattle.store_sound.proofs.Moving.{Moved}
use Rattle.store_sound.proofs.Erase.{erase-moved}
use Rattle.store_sound.proofs.EraseAll.{Swept, erase-all-moved}
use Rattle.grammar.specs.declared.Named.{Named}
use Rattle.grammar.specs.declared.Command.TheVariants.{Forms, Pictures}
use Rattle.grammar.specs.declared.FormCommand.TheVariants.{Erase as EraseForm}
use Rattle.grammar.specs.declared.PictureCommand.TheVariants.{Erase as ErasePicture}
use Rattle.parts.specs.Names.{packed_of}
use Rattle.session.specs.declared.Session.{Session}
use Rattle.free_number.specs.After.{after_erased, after_erased_all}
use Rattle.lent.specs.Lent.{World}
use Rattle.results.specs.World.{state, memory_of, inactive}
use Rattle.results.specs.Named.{named, erased_named, erased_every}
use Rattle.session.specs.Session.{sixteen_bits}
use Rattle.results.proofs.Lengths.{directory-long}
use Rattle.form_commands.specs.Forms.{erased_form}
use Rattle.calls.specs.Does.{runs}
use Rattle.ground.proofs.Tests.{and_left}
use Rattle.keeps_sound.specs.Good.{Good}
use Rattle.keeps_sound.proofs.Freeing.{number-erased, number-swept}
use Rattle.keeps_sound.proofs.Stored.{held_ok, contents_of, contents-at, contents-of, contents-moved, good-stored, good-moved, good-ended}

-- ---- what is found

-- an entry that is found by a name is one of its kind
pub named-is : (directory : List ℕ) (picture : Bool) (n : List ℕ) (i : ℕ) → titled_at directory picture n ≡ Some i
    → (i < entries directory) × (of_kind picture (kind (entry directory i)) ≡ true)
unfolding titled
named-is directory picture n i e =
    let a = at-says (titled directory picture n) (entries directory) i e in
    let t : titled directory picture n i ≡ true = ap (titled directory picture n) (sym a.0) ∙ lowest-passes (titled directory picture n) (entries directory) (omega (arith, a.0, a.1)) in
    (a.1, and_left (of_kind picture (kind (entry directory i))) (same_name (entry directory i) n) t)

some-kind : (picture : Bool) (k : ℕ) → of_kind picture k ≡ true → k ≡ 0 → ⊥
some-kind true k o z = false≢true (rw z at o)
some-kind false k o z = false≢true (rw z at o)

-- ---- one entry

erased_at-moved : (s : Session) (w : World) → Good s w → (i : ℕ) → i < entries w.directory → (kind (entry w.directory i) ≡ 0 → ⊥)
    → Moved (memory_of w) (erased_at (memory_of w) i) i nothing
erased_at-moved s w g i b n = rw (ne_eqb (kind (entry w.directory i)) 0 n) (erase-moved w.store w.links w.directory i g.store b)

-- ---- all of a kind

held-swept : (picture : Bool) (h : Held) → held_ok h ≡ true → held_ok (swept picture h) ≡ true
held-swept picture h k = go (of_kind picture h.kind)
  where
    go : (b : Bool) → held_ok (cond b nothing h) ≡ true
    go true = refl
    go false = k

swept-contents : (picture : Bool) (m m' : Memory) → Swept picture m m' 0 (entries m.directory) → contents_of m ≡ true → contents_of m' ≡ true
swept-contents picture m m' v h = contents-of m' (λ j l.
    let b : j < entries m.directory = subst (λ (n : ℕ). j < n / 16) v.long l in
    ap held_ok (v.behind j (omega arith) (omega arith)) ∙ held-swept picture (get_or (shelf_of m) j nothing) (contents-at m h j b))

-- GK"*" leaves a form as it is
form-stays : (m : Memory) (j : ℕ) → j < entries m.directory → kind (entry m.directory j) ≡ 1 → swept true (get_or (shelf_of m) j nothing) ≡ get_or (shelf_of m) j nothing
form-stays m j b k =
    let q : (get_or (shelf_of m) j nothing).kind ≡ 1 = ap (λ (x : Held). x.kind) (shelf-at m.store m.links m.directory j b) ∙ k in
    ap (λ (n : ℕ). cond (of_kind true n) nothing (get_or (shelf_of m) j nothing)) q

-- ---- the commands

module _ (s : Session) (w : World) (g : Good s w) (z : s.owed ≡ 0) where
  erased-form : (n : List ℕ) (f : Option ℕ) → titled_at w.directory false n ≡ f → Good (erased_form s w f).session (erased_form s w f).world
  erased-form n (Some i) e =
      let a = named-is w.directory false n i e in
      let m' = erased_at (memory_of w) i in
      let v = erased_at-moved s w g i a.0 (some-kind false (kind (entry w.directory i)) a.1) in
      let c = contents-moved (memory_of w) m' i nothing v a.0 g.contents refl in
      let free = number-erased s w g m' i nothing v a.0 refl in
      let small : sixteen_bits i ≡ i = omega (arith, a.0, directory-long w g.lengths) in
      let number = (after_erased s (entry w.directory i)).free in
      rw small
      (go (eqb s.active i) refl (good-ended s w g z number m' v.sound free v.long-directory c)
      (λ ne. good-moved s w g z number m' i nothing v free a.0 refl (λ q k. ne q)))
    where
      go : (b : Bool) → eqb s.active i ≡ b → Good (inactive (erased_named s w (Some i))).session (inactive (erased_named s w (Some i))).world
          → ((s.active ≡ i → ⊥) → Good (erased_named s w (Some i)).session (erased_named s w (Some i)).world)
          → Good (cond b (inactive (erased_named s w (Some i))) (erased_named s w (Some i))).session
          (cond b (inactive (erased_named s w (Some i))) (erased_named s w (Some i))).world
      go true q x y = x
      go false q x y = y (eqb-false s.active i q)
  erased-form n None e = go (eqb s.active 65535) (good-ended s w g z s.free (memory_of w) g.store g.free refl g.contents)
    where
      go : (b : Bool) → Good (inactive (state s w)).session (inactive (state s w)).world
          → Good (cond b (inactive (state s w)) (state s w)).session (cond b (inactive (state s w)) (state s w)).world
      go true x = x
      go false x = g

  erased-forms : Good (inactive (erased_every s w false)).session (inactive (erased_every s w false)).world
  erased-forms =
      let m' = erased_all false (memory_of w) in
      let v = erase-all-moved false (memory_of w) g.store in
      good-ended s w g z (after_erased_all s false w.directory).free m' v.sound (number-swept s w g false) v.long (swept-contents false (memory_of w) m' v g.contents)

  -- FK: a form or all forms
  pub keeps-erase-form : (font line more : List ℕ) (n : Named)
      → Good (runs font w s line more (Forms (EraseForm n))).session (runs font w s line more (Forms (EraseForm n))).world
  keeps-erase-form font line more n = go n.all
    where
      go : (b : Bool) → Good (cond b (inactive (erased_every s w false)) (erased_form s w (named w false line n))).session
          (cond b (inactive (erased_every s w false)) (erased_form s w (named w false line n))).world
      go true = erased-forms
      go false = erased-form (packed_of line n.at n.length) (named w false line n) refl

  erased-picture : (n : List ℕ) (f : Option ℕ) → titled_at w.directory true n ≡ f → Good (erased_named s w f).session (erased_named s w f).world
  erased-picture n (Some i) e =
      let a = named-is w.directory true n i e in
      let m' = erased_at (memory_of w) i in
      let v = erased_at-moved s w g i a.0 (some-kind true (kind (entry w.directory i)) a.1) in
      good-moved s w g z (after_erased s (entry w.directory i)).free m' i nothing v (number-erased s w g m' i nothing v a.0 refl) a.0 refl
      (λ q k. false≢true (ap (of_kind true) (sym k) ∙ a.1))
  erased-picture n None e = g

  erased-pictures : Good (erased_every s w true).session (erased_every s w true).world
  erased-pictures =
      let m' = erased_all true (memory_of w) in
      let v = erase-all-moved true (memory_of w) g.store in
      good-stored s w g z (after_erased_all s true w.directory).free m' v.sound (number-swept s w g true) v.long (swept-contents true (memory_of w) m' v g.contents)
      (λ j b e k. v.behind j (omega arith) (omega arith) ∙ form-stays (memory_of w) j b k)

  -- GK: a picture or all pictures
  pub keeps-erase-picture : (font line more : List ℕ) (n : Named)
      → Good (runs font w s line more (Pictures (ErasePicture n))).session (runs font w s line more (Pictures (ErasePicture n))).world
  keeps-erase-picture font line more n = go n.all
    where
      go : (b : Bool) → Good (cond b (erased_every s w true) (erased_named s w (named w true line n))).session
          (cond b (erased_every s w true) (erased_named s w (named w true line n))).world
      go true = erased-pictures
      go false = erased-picture (packed_of line n.at n.length) (named w true line n) refl
