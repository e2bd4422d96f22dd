-- Lists by number, and the shelf as one.
use mathlib.Core.Path.{◌≡◌, refl, sym, ap, ◌∙◌}
use mathlib.Core.List.{List, [], ◌∷◌}
use mathlib.Core.Logic.{⊎_elim}
use Prim.Native.Nat.{ℕ, zero, suc, ◌<◌}
use native.Mathlib.Omega.{arith}
use lib.ListN.{length, get_or, set, length-append, length-set, get_or-append}
use lib.Seq.{get_or_at, ext_get_or, get_or-set_same, get_or-set_other}
use Rattle.store.specs.Entry.{entries, entry}
use Rattle.ground.proofs.Tests.{same?}
use Rattle.store_sound.specs.Shelf.{list_to, Held, nothing, held_of, shelf}

module _ {A : Type 0} (f : ℕ → A) where
  pub length-list_to : (n : ℕ) → length (list_to f n) ≡ n
  length-list_to zero = refl
  length-list_to (suc n) = length-append (list_to f n) (f n ∷ []) ∙ rw (length-list_to n) (omega arith)

  pub get_or-list_to : (n i : ℕ) (d : A) → i < n → get_or (list_to f n) i d ≡ f i
  get_or-list_to zero i d h = absurd (omega arith)
  get_or-list_to (suc n) i d h = ⊎_elim
      (λ (e : i ≡ n). get_or_at (list_to f n) (f n) [] d i (length-list_to n ∙ sym e) ∙ ap f (sym e))
      (λ (ne : i ≡ n → ⊥). get_or-append (list_to f n) (f n ∷ []) d i (omega (arith, length-list_to n)) ∙ get_or-list_to n i d (omega arith))
      (same? i n)

pub list_to-set : {A : Type 0} (f g : ℕ → A) (n i : ℕ) (d : A) → ((j : ℕ) → j < n → (j ≡ i → ⊥) → g j ≡ f j) → i < n → list_to g n ≡ set (list_to f n) i (g i)
list_to-set f g n i d h b =
    ext_get_or d (list_to g n) (set (list_to f n) i (g i)) (length-list_to g n ∙ sym (length-set (list_to f n) i (g i) ∙ length-list_to f n))
    (λ j l.
    let bj : j < n = omega (arith, length-list_to g n) in
    get_or-list_to g n j d bj ∙ ⊎_elim
    (λ (e : j ≡ i). rw e (sym (get_or-set_same (list_to f n) i (g i) d (omega (arith, length-list_to f n)))))
    (λ (ne : j ≡ i → ⊥). h j bj ne ∙ sym (get_or-set_other (list_to f n) i j (g i) d ne ∙ get_or-list_to f n j d bj))
    (same? j i))

-- ---- the shelf

pub length-shelf : (st ls dir : List ℕ) → length (shelf st ls dir) ≡ entries dir
unfolding shelf
length-shelf st ls dir = length-list_to (λ (i : ℕ). held_of st ls (entry dir i)) (entries dir)

pub shelf-at : (st ls dir : List ℕ) (i : ℕ) → i < entries dir → get_or (shelf st ls dir) i nothing ≡ held_of st ls (entry dir i)
unfolding shelf
shelf-at st ls dir i b = get_or-list_to (λ (j : ℕ). held_of st ls (entry dir j)) (entries dir) i nothing b

pub shelf-set : (st ls dir st' ls' dir' : List ℕ) (i : ℕ) (x : Held) → length dir' ≡ length dir → i < entries dir
    → ((j : ℕ) → j < entries dir → (j ≡ i → ⊥) → held_of st' ls' (entry dir' j) ≡ held_of st ls (entry dir j))
    → held_of st' ls' (entry dir' i) ≡ x → shelf st' ls' dir' ≡ set (shelf st ls dir) i x
unfolding shelf
shelf-set st ls dir st' ls' dir' i x long bi h e =
    rw long (list_to-set (λ (j : ℕ). held_of st ls (entry dir j)) (λ (j : ℕ). held_of st' ls' (entry dir' j)) (entries dir) i nothing h bi
    ∙ ap (λ (y : Held). set (list_to (λ (j : ℕ). held_of st ls (entry dir j)) (entries dir)) i y) e)
