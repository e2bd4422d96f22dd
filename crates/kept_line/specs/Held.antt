-- What a stored line holds: an item in normal form, or nothing that a form may have.
-- Assumes nothing.
use Rattle.std.specs.Prelude.{ℕ, cond, List, Option, Some, None, Result, Ok, Err}
use Rattle.normal.specs.Fault.{Fault}
use Rattle.grammar.specs.declared.Item.{Item}
use Rattle.grammar.specs.declared.Command.{Command}
use Rattle.grammar.specs.declared.Command.TheVariants.{Item as item, End, Page, Forms, Pictures, Values, Listing, Clock}
use Rattle.normal.specs.Commands.{read_of}
use Rattle.normal.specs.Written.{is_normal}

-- "While recording only R, V, C, A, B, LO, LE, LW, X, GG and FE have a place", "LS may be recorded", "TD and TT may be recorded", "TS has no place while recording",
-- and FE is not recorded
abbrev pub held_command : Command → Option Item
held_command (item it) = Some it
held_command End = None
held_command (Page c) = None
held_command (Forms c) = None
held_command (Pictures c) = None
held_command (Values c) = None
held_command (Listing c) = None
held_command (Clock c) = None

-- what is refused is not recorded
abbrev pub held_read : Result Command Fault → Option Item
held_read (Ok c) = held_command c
held_read (Err f) = None

-- what a stored line holds: at most 255 bytes, in normal form. No item asks for the rows of a page
unfoldable pub item_in : List ℕ → Option Item
item_in line = cond (is_normal line) (held_read (read_of 1 line)) None
