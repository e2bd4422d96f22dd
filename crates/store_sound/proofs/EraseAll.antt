-- All entries of a kind are erased: the others stay as they are.
use mathlib.Core.Path.{◌≡◌, refl, sym, ap, ◌∙◌, subst}
use mathlib.Core.Bool.{Bool, true, false, cond}
use mathlib.Core.Logic.{⊎_elim}
use Prim.Native.Nat.{ℕ, zero, suc, ◌+◌, ◌/◌, ◌≤◌, ◌<◌}
use native.Mathlib.Omega.{arith}
use lib.ListN.{length, get_or}
use Rattle.store.specs.Entry.{entries, kind, of_kind}
use Rattle.memory.specs.Memory.{Memory, entry_of}
use Rattle.ground.proofs.Tests.{same?, either}
use Rattle.store_sound.specs.Sound.{store_sound}
use Rattle.store_sound.specs.Shelf.{Held, nothing, shelf_of, swept}
use Rattle.erasing.specs.Erase.{erased, erased_if, erased_from, erased_all}
use Rattle.store_sound.proofs.Listing.{shelf-at}
use Rattle.store_sound.proofs.Moving.{moved_other, moved_here}
use Rattle.store_sound.proofs.Erase.{erase-moved}

abbrev sound_of : Memory → Bool
sound_of m = store_sound m.store m.links m.directory

-- the entries from i on, of which there are left, are swept
pub record Swept (picture : Bool) (m m' : Memory) (i left : ℕ) : Type 0 where
  pub sound : store_sound m'.store m'.links m'.directory ≡ true
  pub long : length m'.directory ≡ length m.directory
  pub before : (j : ℕ) → j < i → get_or (shelf_of m') j nothing ≡ get_or (shelf_of m) j nothing
  pub behind : (j : ℕ) → i ≤ j → j < i + left → get_or (shelf_of m') j nothing ≡ swept picture (get_or (shelf_of m) j nothing)

-- one entry
pub record SweptOne (picture : Bool) (m m' : Memory) (i : ℕ) : Type 0 where
  pub sound : store_sound m'.store m'.links m'.directory ≡ true
  pub long : length m'.directory ≡ length m.directory
  pub other : (j : ℕ) → (j ≡ i → ⊥) → get_or (shelf_of m') j nothing ≡ get_or (shelf_of m) j nothing
  pub here : get_or (shelf_of m') i nothing ≡ swept picture (get_or (shelf_of m) i nothing)

pub erased_if-swept : (picture : Bool) (m : Memory) (i : ℕ) → sound_of m ≡ true → i < entries m.directory → SweptOne picture m (erased_if picture m i) i
erased_if-swept picture m i h b =
    let at = shelf-at m.store m.links m.directory i b in
    let k : of_kind picture (get_or (shelf_of m) i nothing).kind ≡ of_kind picture (kind (entry_of m i)) = ap (λ (x : Held). of_kind picture x.kind) at in
    ⊎_elim
    (λ (y : of_kind picture (kind (entry_of m i)) ≡ true).
    let v = erase-moved m.store m.links m.directory i h b in
    let e : erased_if picture m i ≡ erased m i = ap (λ (t : Bool). cond t (erased m i) m) y in
    subst (λ (x : Memory). SweptOne picture m x i) (sym e) (record {
      sound = v.sound;
      long = v.long-directory;
      other = moved_other m (erased m i) i nothing v;
      here = moved_here m (erased m i) i nothing v b ∙ sym (ap (λ (t : Bool). cond t nothing (get_or (shelf_of m) i nothing)) (k ∙ y));
    }))
    (λ (y : of_kind picture (kind (entry_of m i)) ≡ false).
    let e : erased_if picture m i ≡ m = ap (λ (t : Bool). cond t (erased m i) m) y in
    subst (λ (x : Memory). SweptOne picture m x i) (sym e) (record {
      sound = h;
      long = refl;
      other = λ j ne. refl;
      here = sym (ap (λ (t : Bool). cond t nothing (get_or (shelf_of m) i nothing)) (k ∙ y));
    }))
    (either (of_kind picture (kind (entry_of m i))))

pub erased_from-swept : (left : ℕ) (picture : Bool) (m : Memory) (i : ℕ) → sound_of m ≡ true → i + left ≤ entries m.directory → Swept picture m (erased_from picture m i left) i left
unfolding erased_from
erased_from-swept zero picture m i h b = record { sound = h; long = refl; before = λ j l. refl; behind = λ j a l. absurd (omega arith) }
erased_from-swept (suc left) picture m i h b =
    let o = erased_if-swept picture m i h (omega arith) in
    let E' : entries (erased_if picture m i).directory ≡ entries m.directory = ap (λ (n : ℕ). n / 16) o.long in
    let r = erased_from-swept left picture (erased_if picture m i) (suc i) o.sound (omega (arith, E')) in
    record {
      sound = r.sound;
      long = r.long ∙ o.long;
      before = λ j l. r.before j (omega arith) ∙ o.other j (λ e. omega arith);
      behind = λ j a l. ⊎_elim
          (λ (e : j ≡ i). rw e (r.before i (omega arith) ∙ o.here))
          (λ (ne : j ≡ i → ⊥). r.behind j (omega arith) (omega arith) ∙ ap (swept picture) (o.other j ne))
          (same? j i);
    }

-- sound is kept, and each entry of the kind is gone while each other one stays
pub erase-all-moved : (picture : Bool) (m : Memory) → store_sound m.store m.links m.directory ≡ true
    → Swept picture m (erased_all picture m) 0 (entries m.directory)
erase-all-moved picture m h = erased_from-swept (entries m.directory) picture m 0 h (omega arith)
