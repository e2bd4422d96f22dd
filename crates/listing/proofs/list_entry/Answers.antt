use mathlib.Core.Path.{◌≡◌, sym, ap, ◌∙◌}
use mathlib.Core.List.{List}
use Prim.Native.Nat.{ℕ, ◌+◌}
use native.Mathlib.Omega.{arith}
use lib.ListN.{length}
use lib.Seq.{sets}
use Rattle.listing.proofs.Run.{listed_here, listed-not}
use Rattle.listing.proofs.list_entry.Goals as goal

pub returns-then-kind_at-k : goal.returns-then-kind_at-k
returns-then-kind_at-k c = let p = c in let t = p in let a = t.args in
    let h = listed_here a.directory.now a.k a.i _ t.kind_at.ensures.0 t.if-kind_at-k.true in (
      p.put_line.ensures.0 ∙ ap (λ (l : List ℕ). a.at + length l) (sym h),
      p.put_line.ensures.1 ∙ ap (λ (l : List ℕ). sets a.output.now a.at l) (sym h),
    )

pub returns : goal.returns
returns c = let a = c.args in
    let h = listed-not a.directory.now a.k a.i _ c.kind_at.ensures.0 c.if-kind_at-k.false in
    let z : a.at ≡ a.at + 0 = omega arith in (
      z ∙ ap (λ (l : List ℕ). a.at + length l) (sym h),
      ap (λ (l : List ℕ). sets a.output.now a.at l) (sym h),
    )
