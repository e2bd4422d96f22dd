-- Paper 02, §7: will it fit?
-- Assumes nothing.
use Prim.Native.Char.{code}
use Rattle.std.specs.Prelude.{ℕ, ◌+◌, ◌≤◌, ◌≡◌, true, List, ◌∷◌, ◌++◌, length}
use Rattle.kinds.specs.Bytes.{all_in}
use Rattle.classes.specs.declared.Class.TheVariants.{Quoted}
use Rattle.classes.specs.Bytes.{in_class, part}
use Rattle.writing.specs.Writing.{decimal}
use Rattle.grammar.specs.declared.Command.{Command}
use Rattle.session.specs.declared.Session.{Session}
use Rattle.answers.specs.declared.Answer.{Answer}
use Rattle.answers.specs.Answers.{answer_of}
use Rattle.lent.specs.Lent.{World}
use Rattle.unread.specs.Front.{line_of, more_of}
use Rattle.fits.specs.Fits.{fit_rows}
use Rattle.demands.specs.Calls.{Asked, sending, Says}

-- "A new call takes kind, name and size": what it answers. The session's labels owed, the links and the directory are all that it goes by
abbrev pub fits : Session → World → ℕ → List ℕ → ℕ → Answer
fits s w kind name size = answer_of (fit_rows s.owed w.links w.directory kind name size)

-- the name that a line gives: the n bytes behind the quote at a place of it
abbrev pub name_given : {w : World} {input : List ℕ} {c : Command} → Says w input c → ℕ → ℕ → List ℕ
name_given {w} {input} r at n = part (line_of input r.line) (at + 1) n

-- "for a well-formed GM also its n bytes": those that follow its line
abbrev pub bytes_given : {w : World} {input : List ℕ} {c : Command} → Says w input c → List ℕ
bytes_given {w} {input} r = more_of input r.line r.whole

-- "`GM"Name",n`", n without leading zeros
abbrev pub store_line : List ℕ → ℕ → List ℕ
store_line t n = code "G" ∷ code "M" ∷ code "\"" ∷ (t ++ (code "\"" ∷ code "," ∷ decimal n))

-- bytes that can be sent as a name, good or not, with this line: "Other bytes are 32 to 126", "Quoted text holds no quote", and "A line is up to 255 bytes"
pub record Sendable (t line : List ℕ) : Type 0 where
  pub quoted : all_in (in_class Quoted) t ≡ true
  pub short : length line ≤ 255

-- a line sent with its LF and bytes behind it; what a lends as input follows them
abbrev pub sending_with : List ℕ → List ℕ → Asked → Asked
sending_with line bytes a = sending line (record { font = a.font; output = a.output; input = bytes ++ a.input })
