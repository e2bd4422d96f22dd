-- The field that keeps a value: how it is built, and what becomes of a value that is entered.
use Rattle.std.proofs.Common.{Ok, Err}
use mathlib.Core.Path.{◌≡◌, sym, ap, ◌∙◌}
use mathlib.Core.Bool.{true, false}
use mathlib.Core.List.{List, ◌++◌}
use Prim.Native.Nat.{ℕ, suc, ◌+◌, ◌-◌, ◌*◌, ◌≤◌, ◌<◌}
use native.Mathlib.Omega.{arith}
use lib.ListN.{length, set, replicate, length-append, length-replicate}
use lib.Seq.{sets}
use borrow.Author.Tests.{lt-ltb, le-ltb}
use Rattle.ground.proofs.Stores.{sets-append}
use Rattle.declarations.specs.declared.Declared.{Declared}
use Rattle.declarations.specs.declared.Refused.TheVariants.{Undeclared, Unfit}
use Rattle.declarations.specs.Declarations.{length_at, side_at}
use Rattle.padding.specs.Padding.{enters, padded}
use Rattle.stored_values.specs.Stored.{field, stored, variable_entered}

-- six stores, one behind another
pub field-built : (z : List ℕ) (at a b c l r size x : ℕ) (t : List ℕ) → a ≡ suc at → b ≡ suc a → size ≡ l + length t + r → c ≡ 32 - size
    → sets (sets (sets (sets (sets (sets z at (replicate 1 1)) a (replicate 1 size)) b (replicate l x)) (b + l) t) (b + l + length t) (replicate r x)) (b + size) (replicate c 0)
    ≡ sets z at (field (replicate l x ++ (t ++ replicate r x)))
unfolding field
field-built z at a b c l r size x t ea eb es ec =
    let e : length (replicate l x ++ (t ++ replicate r x)) ≡ size = rw (length-append, length-append, length-replicate, length-replicate) (omega arith) in
    let w = set (set z at 1) (suc at) size in
    rw (e, eb, ea, ec) (sym (
    sets-append w (suc (suc at)) (replicate l x ++ (t ++ replicate r x)) (replicate (32 - size) 0)
    ∙ rw e (ap (λ (v : List ℕ). sets v (suc (suc at) + size) (replicate (32 - size) 0))
    (sets-append w (suc (suc at)) (replicate l x) (t ++ replicate r x)
    ∙ rw length-replicate (sets-append (sets w (suc (suc at)) (replicate l x)) (suc (suc at) + l) t (replicate r x))))))

-- ---- a value entered

module _ (d : Declared) (n : ℕ) (text values : List ℕ) where
  pub variable-undeclared : length_at d n < 1 → stored (Err Undeclared) values ≡ variable_entered d n text values
  unfolding variable_entered
  variable-undeclared h = rw (le-ltb 0 (length_at d n) (omega arith))

  pub variable-unfit : 1 ≤ length_at d n → enters (side_at d n) (length_at d n) text ≡ false → stored (Err Unfit) values ≡ variable_entered d n text values
  unfolding variable_entered
  variable-unfit h e = rw (lt-ltb 0 (length_at d n) (omega arith), e)

  pub variable-taken : 1 ≤ length_at d n → enters (side_at d n) (length_at d n) text ≡ true
      → stored (Ok tt) (sets values (34 * n) (field (padded (side_at d n) (length_at d n) text))) ≡ variable_entered d n text values
  unfolding variable_entered
  variable-taken h e = rw (lt-ltb 0 (length_at d n) (omega arith), e)
