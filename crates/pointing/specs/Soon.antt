-- Paper 02, §2: "for a line that ends too soon, the place of its LF". A line ends too soon where some well-formed line starts with it.
-- Assumes nothing.
use Rattle.std.specs.Prelude.{ℕ, ◌≡◌, Bool, true, false, List, ◌++◌, Result, Ok, Err}
use Rattle.grammar.specs.declared.Command.{Command}
use Rattle.read.specs.Commands.{read_of}
use Rattle.read.specs.declared.Fault.{Fault}
use Rattle.read.specs.declared.Fault.TheVariants.{Form as form, Limit}

-- a line has the written form: it is a command, or a command with something outside its limits
abbrev pub is_written : Result Command Fault → Bool
is_written (Ok c) = true
is_written (Err (form p)) = false
is_written (Err (Limit p)) = true

-- some well-formed line starts with s. It may be of any length, and s itself
pub record EndsTooSoon (rows : ℕ) (s : List ℕ) : Type 0 where
  pub more : List ℕ
  pub written : is_written (read_of rows (s ++ more)) ≡ true
