use mathlib.Core.Path.{◌≡◌, ap, ◌∙◌}
use mathlib.Core.List.{List}
use Prim.Native.Nat.{ℕ}
use native.Mathlib.Omega.{arith}
use lib.Dec.{eqb}
use lib.ListN.{length}
use lib.Pointwise.{pointwise}
use Rattle.store.specs.Entry.{entry}
use Rattle.verdicts.proofs.Naming.{name-same}
use Rattle.verdicts.proofs.names.is_named.Goals as goal

pub returns : goal.returns
returns c =
    let long : length c.args.title ≡ 8 = omega arith in
    c.eq.ensures ∙ ap (λ (own : List ℕ). pointwise eqb own c.args.title) c.name_at-own.ensures
    ∙ name-same (entry c.args.directory.now c.args.j) c.args.title long
