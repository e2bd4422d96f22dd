-- Starting and finishing, as the code does it.
use mathlib.Core.Path.{◌≡◌, sym, ap, ◌∙◌}
use mathlib.Core.List.{List, [], ◌∷◌}
use mathlib.Core.Bool.{Bool, true, false, cond}
use Prim.Native.Nat.{ℕ, ◌+◌, ◌*◌}
use native.Mathlib.Nat.{add-zero}
use lib.ListN.{set}
use lib.Seq.{sets}
use borrow.Author.Tests.{eq-eqb, ne_eqb}
use Rattle.cells.specs.Cell.{set_cell}
use Rattle.store.specs.Entry.{entry, kind}
use Rattle.finding.specs.Find.{is_recording}
use Rattle.memory.specs.Memory.{memory}
use Rattle.room.specs.Room.{lowest_portion, lowest_entry}
use Rattle.starting.specs.Start.{new_entry, begun, finished}

pub begin-is : (ls dir : List ℕ) (k : ℕ) (n : List ℕ) (q i : ℕ) (e ls' dir' : List ℕ) → q ≡ lowest_portion ls → i ≡ lowest_entry dir → ls' ≡ set ls q 65534 → e ≡ new_entry k n q
    → dir' ≡ sets dir (i * 16 + 0) e
    → (i ≡ lowest_entry dir) × ((ls' ≡ set ls (lowest_portion ls) 65534) × (dir' ≡ set_cell 16 dir (lowest_entry dir) (new_entry k n (lowest_portion ls))))
begin-is ls dir k n q i e ls' dir' eq ei el ee ed = (
  ei,
  (
    el ∙ ap (λ (x : ℕ). set ls x 65534) eq,
    ed ∙ (λ j. sets dir (add-zero (i * 16) j) (ee j)) ∙ (λ j. sets dir (ei j * 16) (new_entry k n (eq j))),
  ),
)

module _ (st ls dir : List ℕ) (k : ℕ) (n : List ℕ) where
  pub begun-is : (ls' dir' : List ℕ) → ls' ≡ set ls (lowest_portion ls) 65534 → dir' ≡ set_cell 16 dir (lowest_entry dir) (new_entry k n (lowest_portion ls))
      → memory st ls' dir' ≡ begun (memory st ls dir) k n
  unfolding begun
  begun-is ls' dir' a b = λ j. memory st (a j) (b j)

module _ (dir : List ℕ) (i k : ℕ) (e : k ≡ kind (entry dir i)) where
  pub finish-no : (k ≡ 3 → ⊥) → (false ≡ is_recording dir i) × (dir ≡ finished dir i)
  unfolding finished
  finish-no n =
      let f : is_recording dir i ≡ false = ne_eqb (kind (entry dir i)) 3 (λ z. n (e ∙ z)) in
      (sym f, sym (ap (λ (b : Bool). cond b (set dir (i * 16) 1) dir) f))

  pub finish-yes : (dir' : List ℕ) → k ≡ 3 → dir' ≡ sets dir (i * 16 + 0) (1 ∷ []) → (true ≡ is_recording dir i) × (dir' ≡ finished dir i)
  unfolding finished
  finish-yes dir' z q =
      let f : is_recording dir i ≡ true = eq-eqb (kind (entry dir i)) 3 (sym e ∙ z) in
      (sym f, q ∙ ap (λ (a : ℕ). set dir a 1) (add-zero (i * 16)) ∙ sym (ap (λ (b : Bool). cond b (set dir (i * 16) 1) dir) f))
