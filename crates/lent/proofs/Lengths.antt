-- What is known of lengths that are right.
-- Assumes nothing.
use mathlib.Core.Path.{◌≡◌, refl}
use mathlib.Core.Bool.{Bool, true, false, not, ◌||◌, true≢false}
use Prim.Native.Nat.{ℕ, ◌*◌, ◌%◌, ◌≤◌}
use lib.Dec.{eqb, ltb}
use borrow.Author.Tests.{ltb-false}
use Rattle.dots.specs.Dots.{bytes_a_row}
use Rattle.store.specs.Chain.{most_portions, bytes_a_portion}
use Rattle.lent.specs.Lent.{most_rows, page_wrong, links_wrong, store_wrong, directory_wrong, values_wrong, lengths_wrong}

or-none : (a b : Bool) → (a || b) ≡ false → (a ≡ false) × (b ≡ false)
or-none true b e = absurd (true≢false e)
or-none false b e = (refl, e)

-- a page has at most 4,000 rows
pub page-bound : (b s l d v : ℕ) → lengths_wrong b s l d v ≡ false → b ≤ most_rows * bytes_a_row
unfolding lengths_wrong page_wrong
page-bound b s l d v e =
    let p = (or-none (page_wrong b) (store_wrong s l || (directory_wrong d || values_wrong v)) e).0 in
    ltb-false _ _
    (or-none (ltb b bytes_a_row) (ltb (most_rows * bytes_a_row) b) (or-none (not (eqb (b % bytes_a_row) 0)) (ltb b bytes_a_row || ltb (most_rows * bytes_a_row) b) p).1).1

-- a store has at most 2,024 portions
pub links-few : (l : ℕ) → links_wrong l ≡ false → l ≤ most_portions
unfolding links_wrong
links-few l e = ltb-false _ _ (or-none (ltb most_portions l) (eqb l 0) e).0

pub links-bound : (b s l d v : ℕ) → lengths_wrong b s l d v ≡ false → l ≤ most_portions
unfolding lengths_wrong store_wrong
links-bound b s l d v e =
    let p = (or-none (page_wrong b) (store_wrong s l || (directory_wrong d || values_wrong v)) e).1 in
    let q = (or-none (store_wrong s l) (directory_wrong d || values_wrong v) p).0 in
    links-few l (or-none (links_wrong l) (not (eqb s (l * bytes_a_portion))) q).0
