-- What is known of lengths that are right: a directory has at most 8,192 bytes.
-- Assumes nothing.
use mathlib.Core.Path.{◌≡◌}
use mathlib.Core.Bool.{false, not, ◌||◌}
use Prim.Native.Nat.{ℕ, ◌%◌, ◌≤◌}
use lib.ListN.{length}
use lib.Dec.{eqb, ltb}
use borrow.Author.Tests.{ltb-false}
use Rattle.lent.specs.Lent.{World, wrong_lent, page_wrong, store_wrong, directory_wrong, values_wrong, lengths_wrong}
use Rattle.results.proofs.Answers.{or-none}

pub directory-bound : (b s l d v : ℕ) → lengths_wrong b s l d v ≡ false → d ≤ 8192
unfolding lengths_wrong directory_wrong
directory-bound b s l d v e =
    let p = (or-none (page_wrong b) (store_wrong s l || (directory_wrong d || values_wrong v)) e).1 in
    let q = (or-none (directory_wrong d) (values_wrong v) (or-none (store_wrong s l) (directory_wrong d || values_wrong v) p).1).0 in
    ltb-false _ _ (or-none (ltb d 16) (ltb 8192 d) (or-none (not (eqb (d % 16) 0)) (ltb d 16 || ltb 8192 d) q).1).1

pub directory-long : (w : World) → wrong_lent w ≡ false → length w.directory ≤ 8192
directory-long w e = directory-bound (length w.background) (length w.store) (length w.links) (length w.directory) (length w.values) e
