use mathlib.Core.Path.{sym, ap, ◌∙◌}
use Prim.Native.Nat.{ℕ, ◌%◌}
use native.Mathlib.Omega.{arith}
use Rattle.dots.specs.Dots.{bit_of}
use Rattle.bitmaps.proofs.ByteRuns.{row-run}
use Rattle.std.proofs.Common.{rules}
use Rattle.bitmaps.proofs.Row.run_end.Goals as goal

pub run_in_byte-end-requires : goal.run_in_byte-end-requires
run_in_byte-end-requires c = (search rules, c.requires.1 ∙ ap (λ (b : ℕ). bit_of b (c.args.g % 8)) (sym c.byte.ensures))

pub overflow_sub-end : goal.overflow_sub-end
overflow_sub-end c = omega (arith, c.run_in_byte-end.ensures.more)

pub overflow_add-result : goal.overflow_add-result
overflow_add-result c = omega (arith, c.least.ensures)

pub returns : goal.returns
returns c = let a = c.args in
    row-run a.self.bits.now a.self.at a.g a.self.wide c.byte.result c.run_in_byte-end.result c.least.result c.requires.0 c.byte.ensures
    c.run_in_byte-end.ensures c.least.ensures
