use Rattle.std.proofs.Common.{rules, ◌≡◌}
use mathlib.Core.Path.{ap, ◌∙◌}
use Prim.Native.Nat.{ℕ, ◌+◌}
use Rattle.std.proofs.iter.runs.Made.{chains}
use Rattle.std.specs.List.{fold}
use Rattle.ground.specs.Numbers.{capped}
use native.Mathlib.Nat.{zero-add}
use Rattle.pages.proofs.WholePages.{count-fold}
use Rattle.pages.specs.Pages.{black_in, black_dots}
use Rattle.pages.proofs.black_dots.Goals as goal

pub returns : goal.returns
returns c = let p = c.args.page.now in
    (let e : c.fold.result ≡ fold (λ n b. capped (n + black_in b)) 0 p = search (rules, chains) in e) ∙ count-fold p 0 ∙ ap (λ (n : ℕ). capped n) (zero-add (black_dots p))
