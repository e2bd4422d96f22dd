-- This serves the code alone: a line that is its own normal form, as it is read. What a line of a form must be is said in `normal/Written: is_normal`.
-- Assumes nothing.
use Rattle.std.specs.Prelude.{ℕ, Bool, cond, ◌&&◌, List, length, leb, Result, Err}
use Rattle.normal.specs.Fault.{Fault}
use Rattle.grammar.specs.declared.Command.{Command}
use Rattle.normal.specs.Commands.{read_of}
use Rattle.normal.specs.FaultVariants.{Form as form}
use Rattle.writing.specs.Writing.{equal}
use Rattle.normal.specs.Written.{normal}

-- at most 255 bytes, and its own normal form
unfoldable pub is_own : List ℕ → Bool
is_own s = leb (length s) 255 && equal (normal s) s

-- such a line as it is read; any other is refused
unfoldable pub own_read : List ℕ → Result Command Fault
own_read s = cond (is_own s) (read_of 1 s) (Err (form 0))
