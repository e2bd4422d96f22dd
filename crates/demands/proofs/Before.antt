-- The number of an answer is the one that was given before places were asked for.
-- Assumes nothing.
use Rattle.std.proofs.Common.{Result, Ok, Err}
use mathlib.Core.Path.{◌≡◌, refl, sym, ap, ◌∙◌}
use mathlib.Core.Bool.{Bool, true, false, cond}
use mathlib.Core.List.{List, [], ◌∷◌}
use Prim.Native.Nat.{ℕ}
use native.Mathlib.Omega.{arith}
use lib.ListN.{length}
use Rattle.read.specs.declared.Fault.{Fault}
use Rattle.grammar.specs.declared.Command.{Command}
use Rattle.front.specs.declared.Front.{Front}
use Rattle.front.specs.declared.Front.TheVariants.{Short, Long as LongLine, Idle, Line}
use Rattle.front.specs.Front.{front_of}
use Rattle.read.specs.declared.Fault.TheVariants.{Form as form, Limit}
use Rattle.read.specs.Commands.{read_of}
use Rattle.pointing.specs.Base.{plain_read_of, placeless}
use Rattle.pointing.proofs.Base.{reads-as-before}
use Rattle.kept_line.specs.Held.{held_command, held_read}
use Rattle.session.specs.declared.Session.{Session}
use Rattle.answers.specs.Answers.{Row, answer_of, number_of}
use Rattle.lent.specs.Lent.{World, rows_of, wrong_lent}
use Rattle.commands.specs.Rows.{line_rows}
use Rattle.unread.specs.Front.{line_of, more_of}
use Rattle.keeps_sound.specs.Table.{entry_rows, command_table, front_rows}
use Rattle.keeps_sound.specs.Station.{commanded}
use Rattle.demands.specs.Before.{rows_before, table_before}
use Rattle.demands.proofs.Refusal.{command-answer}

-- a row before both
behind : (r : Row) (a b : List Row) → number_of (answer_of a) ≡ number_of (answer_of b) → number_of (answer_of (r ∷ a)) ≡ number_of (answer_of (r ∷ b))
unfolding answer_of
behind r a b e = by r.applies
  where
    by : (t : Bool) → number_of (cond t r.answer (answer_of a)) ≡ number_of (cond t r.answer (answer_of b))
    by true = refl
    by false = e

module _ (w : World) (s : Session) (line more : List ℕ) (room : ℕ) where
  -- what differs in its place alone has the same number
  placeless-number : (x y : Result Command Fault) → placeless x ≡ placeless y → number_of (answer_of (line_rows w s line more room x)) ≡ number_of (answer_of (line_rows w s line more room y))
  unfolding answer_of number_of
  placeless-number (Ok c) (Ok d) e = let q : c ≡ d = cc in ap (λ (k : Command). number_of (answer_of (line_rows w s line more room (Ok k)))) q
  placeless-number (Ok c) (Err (form p)) e = absurd (let z : ◌≡◌ {A = ℕ} 0 1 = cc in omega arith)
  placeless-number (Ok c) (Err (Limit p)) e = absurd (let z : ◌≡◌ {A = ℕ} 0 1 = cc in omega arith)
  placeless-number (Err (form p)) (Ok c) e = absurd (let z : ◌≡◌ {A = ℕ} 0 1 = cc in omega arith)
  placeless-number (Err (form p)) (Err (form q)) e = refl
  placeless-number (Err (form p)) (Err (Limit q)) e = absurd (let z : ◌≡◌ {A = ℕ} 0 1 = cc in omega arith)
  placeless-number (Err (Limit p)) (Ok c) e = absurd (let z : ◌≡◌ {A = ℕ} 0 1 = cc in omega arith)
  placeless-number (Err (Limit p)) (Err (form q)) e = absurd (let z : ◌≡◌ {A = ℕ} 0 1 = cc in omega arith)
  placeless-number (Err (Limit p)) (Err (Limit q)) e = refl

front-number : (w : World) (s : Session) (input : List ℕ) (room : ℕ) (f : Front) → number_of (answer_of (front_rows w s input room f)) ≡ number_of (answer_of (rows_before w s input room f))
front-number w s input room Short = refl
front-number w s input room (LongLine k) = refl
front-number w s input room (Idle k) = refl
front-number w s input room (Line n k) =
    placeless-number w s (line_of input n) (more_of input n k) room (read_of (rows_of w) (line_of input n)) (plain_read_of (rows_of w) (line_of input n)) (reads-as-before (rows_of w) (line_of input n))

-- "numbers and order as before"
pub number-as-before :
    (s : Session) (font : List ℕ) (w : World) (output input : List ℕ) →
    number_of (commanded s font w output input).outcome.answer ≡ number_of (answer_of (table_before s font w (length output) input))
unfolding command_table
number-as-before s font w output input =
    ap number_of (command-answer s font w output input)
    ∙ behind _ _ _ (behind _ _ _ (behind _ _ _ (front-number w s input (length output) (front_of input))))

-- what a line holds, and with it which stored forms are sound
held-placeless : (x y : Result Command Fault) → placeless x ≡ placeless y → held_read x ≡ held_read y
held-placeless (Ok c) (Ok d) e = let q : c ≡ d = cc in ap held_command q
held-placeless (Ok c) (Err (form p)) e = absurd (let z : ◌≡◌ {A = ℕ} 0 1 = cc in omega arith)
held-placeless (Ok c) (Err (Limit p)) e = absurd (let z : ◌≡◌ {A = ℕ} 0 1 = cc in omega arith)
held-placeless (Err (form p)) (Ok c) e = absurd (let z : ◌≡◌ {A = ℕ} 0 1 = cc in omega arith)
held-placeless (Err (Limit p)) (Ok c) e = absurd (let z : ◌≡◌ {A = ℕ} 0 1 = cc in omega arith)
held-placeless (Err f) (Err g) e = refl

pub held-as-before : (rows : ℕ) (line : List ℕ) → held_read (read_of rows line) ≡ held_read (plain_read_of rows line)
held-as-before rows line = held-placeless (read_of rows line) (plain_read_of rows line) (reads-as-before rows line)
