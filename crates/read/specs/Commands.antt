-- What a line is read as: a command, or a refusal.
-- Assumes nothing.
use Rattle.std.specs.Prelude.{ℕ, List, Option, Some, None, Result, Ok, Err}
use Rattle.grammar.specs.Forms.{row_of, bounds_of, command_of}
use Rattle.grammar.specs.declared.Command.{Command}
use Rattle.heads.specs.Heads.{head_of, letters_fault}
use Rattle.row_fields.specs.Reading.{Got, good, bad, fields_from}
use Rattle.row_limits.specs.Limits.{limits_from}
use Rattle.read.specs.declared.Fault.{Fault}
use Rattle.read.specs.declared.Fault.TheVariants.{Form as form, Limit}

abbrev pub decided : Result Unit ℕ → Command → Result Command Fault
decided (Ok u) c = Ok c
decided (Err p) c = Err (Limit p)

-- a row's fields of values vs at places ps, on a page of so many rows
abbrev pub within_limits : ℕ → ℕ → List ℕ → List ℕ → List ℕ → Result Command Fault
within_limits row rows s vs ps = decided (limits_from (row_of row).fields (bounds_of row rows) s 0 vs ps) (command_of row s vs ps)

-- "the line has not the written form" comes before "a number, name or prompt outside its limits"
unfoldable pub judged : ℕ → ℕ → List ℕ → Got → Result Command Fault
judged row rows s (bad vs ps p) = Err (form p)
judged row rows s (good vs ps) = within_limits row rows s vs ps

unfoldable pub headed : Option ℕ → ℕ → List ℕ → Result Command Fault
headed None rows s = Err (form (letters_fault s))
headed (Some row) rows s = judged row rows s (fields_from (row_of row).fields s 0)

-- a line without its LF, on a page of so many rows
unfoldable pub read_of : ℕ → List ℕ → Result Command Fault
read_of rows s = headed (head_of s) rows s
