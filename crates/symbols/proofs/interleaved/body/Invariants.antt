use Prim.Native.Nat.{◌*◌}
use Rattle.symbols.proofs.Fill25.{Weaving}
use Rattle.symbols.proofs.interleaved.body.Given as goal

abbrev pub invariant-loop-i : goal.invariant-loop-i
invariant-loop-i l = Weaving l.s l.initial.out l.out (2 * l.i)
