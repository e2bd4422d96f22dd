use native.Mathlib.Omega.{arith}
use mathlib.Core.Path.{sym, ◌∙◌}
use Prim.Native.Nat.{◌*◌}
use lib.ListN.{drop}
use Rattle.pcx.specs.Rules.{filled}
use Rattle.pcx.proofs.Rules.{headed-says, not-headed, is-headed, product}
use Rattle.pcx.proofs.is_legal.Goals as goal

pub returns-then-not-headed_ok : goal.returns-then-not-headed_ok
returns-then-not-headed_ok c = not-headed _ (sym c.headed_ok.ensures ∙ c.if-not-headed_ok.true)

pub overflow_mul-total : goal.overflow_mul-total
overflow_mul-total c = record { fits = omega (arith, product c.line_bytes.result c.height_of.result 65536 65536 (omega (arith, c.line_bytes.ensures.1)) c.height_of.ensures.1) }

pub filled_ok-requires : goal.filled_ok-requires
filled_ok-requires c = (headed-says c.args.bytes.now (sym c.headed_ok.ensures ∙ c.if-not-headed_ok.false)).long

pub returns : goal.returns
returns c = let a = c.args in
    is-headed a.bytes.now _ (sym c.headed_ok.ensures ∙ c.if-not-headed_ok.false)
    (c.filled_ok.ensures
    ∙ (λ i. filled (drop 128 a.bytes.now) (c.line_bytes.ensures.0 i * c.height_of.ensures.0 i)))
