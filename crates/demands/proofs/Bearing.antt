-- On a sound directory the entry that bears a name, as §7 of paper 02 looks for it, is the one that FS and GM find under it.
-- Assumes nothing.
use mathlib.Core.Path.{◌≡◌, refl, sym, ap, ◌∙◌}
use mathlib.Core.Bool.{Bool, true, false, cond, ◌&&◌, false≢true}
use mathlib.Core.List.{List, ◌∷◌}
use mathlib.Core.Logic.{⊎_elim}
use Prim.Native.Nat.{ℕ, suc, ◌+◌, ◌≤◌, ◌<◌}
use native.Mathlib.Omega.{arith}
use lib.ListN.{length, get_or}
use lib.Dec.{eqb, leb, ltb}
use borrow.Author.Tests.{eq-eqb, eqb-true, leb-true, lt-ltb, le-ltb, ltb-true, ltb-false}
use Rattle.cells.proofs.Counts.{all-at, all_of}
use Rattle.cells.proofs.Scan.{lowest-same}
use Rattle.parts.specs.Names.{capital, name_byte}
use Rattle.store.specs.Entry.{entries, entry, kind, name_length, name, of_kind}
use Rattle.std.specs.Prelude.{None, Some}
use Rattle.finding.specs.Find.{found, same_name, titled, titled_at}
use Rattle.store_sound.specs.Sound.{name_byte_ok, name_ok}
use Rattle.keeps_sound.proofs.Titles.{legal-some, eight-at, title-byte}
use Rattle.fits.specs.Names.{bears, in_use, user_of}
use Rattle.ground.proofs.Tests.{either, and_left, and_right, and_both}
use Rattle.demands.specs.Relist.{IsName, title_of}
use Rattle.demands.proofs.Names.{name-run}

-- ---- names of legal bytes with zeros behind them have one length where their 8 bytes are the same

-- such a name of n bytes
abbrev Ends : ℕ → List ℕ → Type 0
Ends n x = (n ≤ 8) × ((k : ℕ) → k < 8 → name_byte_ok n x k ≡ true)

ends-in : (n : ℕ) (x : List ℕ) → Ends n x → (k : ℕ) → k < n → get_or x k 0 ≡ 0 → ⊥
unfolding name_byte_ok
ends-in n x h k b = legal-some (get_or x k 0) (rw (lt-ltb k n b) at (h.1 k (omega (arith, h.0))))

ends-out : (n : ℕ) (x : List ℕ) → Ends n x → (k : ℕ) → k < 8 → n ≤ k → get_or x k 0 ≡ 0
unfolding name_byte_ok
ends-out n x h k l b = eqb-true _ _ (rw (le-ltb k n b) at (h.1 k l))

not-longer : (n m : ℕ) (x y : List ℕ) → Ends n x → Ends m y → ((k : ℕ) → k < 8 → get_or x k 0 ≡ get_or y k 0) → n ≤ m
not-longer n m x y h j same = ⊎_elim
    (λ (e : ltb m n ≡ true).
    let b : m < n = ltb-true m n e in
    absurd (ends-in n x h m b (same m (omega (arith, h.0)) ∙ ends-out m y j m (omega (arith, h.0)) (omega arith))))
    (λ (e : ltb m n ≡ false). ltb-false m n e)
    (either (ltb m n))

-- ---- an entry with a sound name bears a name exactly where its 8 bytes are that name's

module _ (t : List ℕ) (n : IsName t) where
  title-ends : Ends (length t) (title_of t)
  title-ends = (n.few, title-byte (34 ∷ t) 0 (length t) n.some n.few (name-run t n))

  -- "case is folded"
  title-in : (k : ℕ) → k < length t → get_or (title_of t) k 0 ≡ capital (get_or t k 0)
  unfolding name_byte
  title-in k h =
      let z : 0 + 1 + k ≡ suc k = omega arith in
      eight-at (name_byte (34 ∷ t) 0 (length t)) k (omega (arith, n.few)) ∙ rw (lt-ltb k (length t) h, z)

  module _ (e : List ℕ) (sound : name_ok e ≡ true) where
    held_at : (k : ℕ) → k < 8 → get_or (name e) k 0 ≡ get_or e (2 + k) 0
    unfolding name
    held_at k h = eight-at (λ (j : ℕ). get_or e (2 + j) 0) k h

    held-ends : Ends (name_length e) (name e)
    unfolding name_ok
    held-ends = (
      leb-true (name_length e) 8 (and_right (leb 1 (name_length e)) _ (and_left (leb 1 (name_length e) && leb (name_length e) 8) _ sound)),
      all-at (name_byte_ok (name_length e) (name e)) 8 (and_right (leb 1 (name_length e) && leb (name_length e) 8) _ sound),
    )

    bears-same : bears e t ≡ true → same_name e (title_of t) ≡ true
    unfolding bears same_name
    bears-same h =
        let long : name_length e ≡ length t = eqb-true _ _ (and_left (eqb (name_length e) (length t)) _ h) in
        let each = all-at (λ (k : ℕ). eqb (get_or (name e) k 0) (capital (get_or t k 0))) (length t) (and_right (eqb (name_length e) (length t)) _ h) in
        all_of (λ (k : ℕ). eqb (get_or e (2 + k) 0) (get_or (title_of t) k 0)) 8 (λ k l. eq-eqb _ _ (sym (held_at k l) ∙ ⊎_elim
        (λ (y : ltb k (length t) ≡ true).
        let b = ltb-true k (length t) y in
        eqb-true _ _ (each k b) ∙ sym (title-in k b))
        (λ (y : ltb k (length t) ≡ false).
        let b : length t ≤ k = ltb-false k (length t) y in
        ends-out (name_length e) (name e) held-ends k l (omega arith) ∙ sym (ends-out (length t) (title_of t) title-ends k l b))
        (either (ltb k (length t)))))

    same-bears : same_name e (title_of t) ≡ true → bears e t ≡ true
    unfolding bears same_name
    same-bears h =
        let at8 = all-at (λ (k : ℕ). eqb (get_or e (2 + k) 0) (get_or (title_of t) k 0)) 8 h in
        let each : ((k : ℕ) → k < 8 → get_or (name e) k 0 ≡ get_or (title_of t) k 0) = λ k l. held_at k l ∙ eqb-true _ _ (at8 k l) in
        let a = not-longer (name_length e) (length t) (name e) (title_of t) held-ends title-ends each in
        let b = not-longer (length t) (name_length e) (title_of t) (name e) title-ends held-ends (λ k l. sym (each k l)) in
        let long : name_length e ≡ length t = omega (arith, a, b) in
        and_both _ _ (eq-eqb _ _ long)
        (all_of (λ (k : ℕ). eqb (get_or (name e) k 0) (capital (get_or t k 0))) (length t) (λ k l. eq-eqb _ _ (each k (omega (arith, n.few)) ∙ title-in k l)))

    bears-titled : bears e t ≡ same_name e (title_of t)
    bears-titled = same_truth _ _ bears-same same-bears
      where
        same_truth : (a b : Bool) → (a ≡ true → b ≡ true) → (b ≡ true → a ≡ true) → a ≡ b
        same_truth true b f g = sym (f refl)
        same_truth false true f g = g refl
        same_truth false false f g = refl

  -- the entry that §7 finds in use is the one that FS and GM find
  pub user-titled :
      (directory : List ℕ) (picture : Bool) → ((i : ℕ) → i < entries directory → (kind (entry directory i) ≡ 0 → ⊥) → name_ok (entry directory i) ≡ true) →
      user_of directory picture t ≡ titled_at directory picture (title_of t)
  unfolding found in_use titled
  user-titled directory picture names =
      ap (λ (x : ℕ). cond (ltb x (entries directory)) (Some x) None)
      (lowest-same (in_use directory picture t) (titled directory picture (title_of t)) 0 (entries directory) (λ i h. each i (omega arith)))
    where
      some : (p : Bool) (k : ℕ) → of_kind p k ≡ true → k ≡ 0 → ⊥
      some true k o z = false≢true (rw z at o)
      some false k o z = false≢true (rw z at o)

      each : (i : ℕ) → i < entries directory → in_use directory picture t i ≡ titled directory picture (title_of t) i
      each i h = by (of_kind picture (kind (entry directory i))) refl
        where
          by : (b : Bool) → of_kind picture (kind (entry directory i)) ≡ b → (b && bears (entry directory i) t) ≡ (b && same_name (entry directory i) (title_of t))
          by true e = bears-titled (entry directory i) (names i h (some picture _ e))
          by false e = refl
