use Prim.Native.Nat.{◌≤◌, max}
use Rattle.contents.specs.Content.{cursor}
use Rattle.content_lines.proofs.Lines.{Lining}
use Rattle.content_lines.proofs.line_into.Given as goal

abbrev pub invariant-loop-left : goal.invariant-loop-left
invariant-loop-left l = Lining l.store l.links (cursor l.initial.p l.initial.at l.initial.left) l.initial.buffer l.buffer l.n l.p l.at l.left × (l.at ≤ max 255 l.initial.at)

abbrev pub decreases-loop-left : goal.decreases-loop-left
decreases-loop-left l = l.left
