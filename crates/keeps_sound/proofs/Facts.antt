-- The computed tests of lengths, of the session's numbers and of its activity, as facts and back.
-- Assumes nothing.
use mathlib.Core.Path.{◌≡◌}
use mathlib.Core.Bool.{true, false, not, ◌||◌}
use mathlib.Core.List.{List}
use Prim.Native.Nat.{ℕ, ◌*◌, ◌/◌, ◌%◌, ◌≤◌}
use native.Mathlib.Omega.{arith}
use lib.ListN.{length}
use lib.Dec.{eqb, ltb, leb}
use borrow.Author.Tests.{ltb-false, eqb-true, eqb-false, leb-true, le-leb, eq-eqb, not-false}
use Rattle.kinds.specs.Bytes.{between}
use Rattle.kinds.proofs.Laws.{between-facts}
use Rattle.store_sound.specs.Sound.{lent_ok}
use Rattle.sound.specs.Sound.{numbers_ok}
use Rattle.results.proofs.Answers.{or-none}
use Rattle.session.specs.declared.Session.{Session}
use Rattle.lent.specs.Lent.{World, wrong_lent, lengths_wrong, page_wrong, links_wrong, store_wrong, directory_wrong, values_wrong}
use Rattle.keeps_sound.proofs.Layers.{both, first_of, second-of}

-- ---- lengths

-- right lengths
pub record Lent (w : World) : Type 0 where
  pub whole : length w.background % 76 ≡ 0
  pub least : 76 ≤ length w.background
  pub most : length w.background ≤ 304000
  pub memory : lent_ok w.store w.links w.directory ≡ true
  pub values : length w.values ≡ 340

page-facts : (n : ℕ) → page_wrong n ≡ false → (n % 76 ≡ 0) × ((76 ≤ n) × (n ≤ 304000))
unfolding page_wrong
page-facts n e =
    let a = or-none (not (eqb (n % 76) 0)) (ltb n 76 || ltb 304000 n) e in
    let b = or-none (ltb n 76) (ltb 304000 n) a.1 in
    (eqb-true _ _ (not-false _ a.0), (ltb-false _ _ b.0, ltb-false _ _ b.1))

memory-facts : (store links directory : List ℕ) → store_wrong (length store) (length links) ≡ false → directory_wrong (length directory) ≡ false → lent_ok store links directory ≡ true
unfolding links_wrong store_wrong directory_wrong lent_ok
memory-facts store links directory e f =
    let a = or-none (ltb 2024 (length links) || eqb (length links) 0) (not (eqb (length store) (length links * 256))) e in
    let b = or-none (ltb 2024 (length links)) (eqb (length links) 0) a.0 in
    let c = or-none (not (eqb (length directory % 16) 0)) (ltb (length directory) 16 || ltb 8192 (length directory)) f in
    let d = or-none (ltb (length directory) 16) (ltb 8192 (length directory)) c.1 in
    let some : length links ≡ 0 → ⊥ = eqb-false _ _ b.1 in
    let many : length links ≤ 2024 = ltb-false _ _ b.0 in
    let whole : length directory % 16 ≡ 0 = eqb-true _ _ (not-false _ c.0) in
    let least : 16 ≤ length directory = ltb-false _ _ d.0 in
    let most : length directory ≤ 8192 = ltb-false _ _ d.1 in
    both _ _ (le-leb _ _ many)
    (both _ _ (le-leb _ _ (positive (length links) some))
    (both _ _ (not-false (eqb (length store) (length links * 256)) a.1)
    (both _ _ (eq-eqb _ _ (let h : length directory ≡ length directory / 16 * 16 = omega arith in h))
    (both _ _ (le-leb _ _ (let h : 1 ≤ length directory / 16 = omega arith in h)) (le-leb _ _ (let h : length directory / 16 ≤ 512 = omega arith in h))))))
  where
    positive : (n : ℕ) → (n ≡ 0 → ⊥) → 1 ≤ n
    positive n z = omega arith

pub lent-facts : (w : World) → wrong_lent w ≡ false → Lent w
unfolding lengths_wrong
lent-facts w e =
    let a = or-none (page_wrong (length w.background)) _ e in
    let b = or-none (store_wrong (length w.store) (length w.links)) _ a.1 in
    let c = or-none (directory_wrong (length w.directory)) (values_wrong (length w.values)) b.1 in
    let p = page-facts (length w.background) a.0 in
    record {
      whole = p.0;
      least = p.1.0;
      most = p.1.1;
      memory = memory-facts w.store w.links w.directory b.0 c.0;
      values = eqb-true _ _ (not-false _ c.1);
    }

-- ---- numbers

pub record Numbers (rows : ℕ) (s : Session) : Type 0 where
  pub wide-least : 80 ≤ s.width
  pub wide-most : s.width ≤ 608
  pub long-least : 1 ≤ s.length
  pub long-most : s.length ≤ rows
  pub turn : s.turn ≤ 1
  pub x : s.x ≤ 2048
  pub y : s.y ≤ 4096

facts-between : (a b n : ℕ) → a ≤ n → n ≤ b → between a b n ≡ true
unfolding between
facts-between a b n h k = both _ _ (le-leb _ _ h) (le-leb _ _ k)

pub numbers-facts : (rows : ℕ) (s : Session) → numbers_ok rows s ≡ true → Numbers rows s
unfolding numbers_ok
numbers-facts rows s e =
    let a = second-of (between 80 608 s.width) _ e in
    let b = second-of (between 1 rows s.length) _ a in
    let c = second-of (leb s.turn 1) _ b in
    let w = between-facts 80 608 s.width (first_of (between 80 608 s.width) _ e) in
    let l = between-facts 1 rows s.length (first_of (between 1 rows s.length) _ a) in
    record {
      wide-least = w.0;
      wide-most = w.1;
      long-least = l.0;
      long-most = l.1;
      turn = leb-true _ _ (first_of (leb s.turn 1) _ b);
      x = leb-true _ _ (first_of (leb s.x 2048) (leb s.y 4096) c);
      y = leb-true _ _ (second-of (leb s.x 2048) (leb s.y 4096) c);
    }

pub facts-numbers : (rows : ℕ) (s : Session) → Numbers rows s → numbers_ok rows s ≡ true
unfolding numbers_ok
facts-numbers rows s f =
    both _ _ (facts-between 80 608 s.width f.wide-least f.wide-most)
    (both _ _ (facts-between 1 rows s.length f.long-least f.long-most)
    (both _ _ (le-leb _ _ f.turn) (both _ _ (le-leb _ _ f.x) (le-leb _ _ f.y))))
