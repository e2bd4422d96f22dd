-- Paper 02, §2: a command call that is answered 6 points to the LF exactly when some well-formed line starts with its line.
-- Assumes nothing.
use Rattle.std.proofs.Common.{Result, Ok, Err}
use mathlib.Core.Path.{◌≡◌, sym, ap, ◌∙◌}
use mathlib.Core.Bool.{Bool, true, false, cond}
use mathlib.Core.Logic.{◌↔◌}
use mathlib.Core.List.{List, ◌∷◌}
use Prim.Native.Nat.{ℕ}
use native.Mathlib.Omega.{arith}
use lib.ListN.{length}
use Rattle.read.specs.declared.Fault.{Fault}
use Rattle.grammar.specs.declared.Command.{Command}
use Rattle.front.specs.declared.Front.{Front}
use Rattle.front.specs.declared.Front.TheVariants.{Line}
use Rattle.front.specs.Front.{front_of}
use Rattle.finding.specs.Find.{recorded}
use Rattle.read.specs.declared.Fault.TheVariants.{Form as form, Limit}
use Rattle.read.specs.Commands.{read_of}
use Rattle.pointing.specs.Soon.{EndsTooSoon}
use Rattle.pointing.proofs.Soon.{too-soon}
use Rattle.session.specs.declared.Session.{Session}
use Rattle.answers.specs.declared.Answer.TheVariants.{Unwritten}
use Rattle.answers.specs.Answers.{Row, answer_of, number_of}
use Rattle.lent.specs.Lent.{World, rows_of}
use Rattle.commands.specs.Rows.{line_rows}
use Rattle.unread.specs.Front.{line_of, more_of}
use Rattle.keeps_sound.specs.Table.{command_table, front_rows}
use Rattle.keeps_sound.specs.Station.{commanded}
use Rattle.demands.proofs.Tables.{given_above}
use Rattle.demands.proofs.Refusal.{command-answer, placed-rises}

-- a row of another number is not the one that answers 6
passed : (r : Row) (rs : List Row) (p : ℕ) → (number_of r.answer ≡ 6 → ⊥) → answer_of (r ∷ rs) ≡ Unwritten p → answer_of rs ≡ Unwritten p
unfolding answer_of number_of
passed r rs p n e = by r.applies e
  where
    by : (b : Bool) → cond b r.answer (answer_of rs) ≡ Unwritten p → answer_of rs ≡ Unwritten p
    by true k = absurd (n (ap number_of k))
    by false k = k

-- a line is answered 6, at a place, where reading says so
line-unwritten :
    (w : World) (s : Session) (line more : List ℕ) (room p : ℕ) (r : Result Command Fault) → answer_of (line_rows w s line more room r) ≡ Unwritten p → r ≡ Err (form p)
unfolding answer_of number_of
line-unwritten w s line more room p (Err (form q)) e = let z : q ≡ p = cc in ap (λ (i : ℕ). Err (form i)) z
line-unwritten w s line more room p (Err (Limit q)) e = absurd (let z = ap number_of e in omega (arith, z))
line-unwritten w s line more room p (Ok c) e =
    absurd
    (given_above 7 6 (line_rows w s line more room (Ok c)) (placed-rises w s line more room c (recorded w.directory)) (omega arith) (omega arith) (ap number_of e))

-- "for a line that ends too soon, the place of its LF"
pub command-too-soon :
    (s : Session) (font : List ℕ) (w : World) (output input : List ℕ) (n k p : ℕ) → front_of input ≡ Line n k → (commanded s font w output input).outcome.answer ≡ Unwritten p →
    (p ≡ length (line_of input n)) ↔ EndsTooSoon (rows_of w) (line_of input n)
unfolding command_table number_of
command-too-soon s font w output input n k p f e =
    let t : answer_of (command_table s font w (length output) input) ≡ Unwritten p = sym (command-answer s font w output input) ∙ e in
    let u : answer_of (front_rows w s input (length output) (front_of input)) ≡ Unwritten p =
    passed _ _ p (λ z. omega (arith, z)) (passed _ _ p (λ z. omega (arith, z)) (passed _ _ p (λ z. omega (arith, z)) t)) in
    too-soon (rows_of w) (line_of input n) p
    (line-unwritten w s (line_of input n) (more_of input n k) (length output) p (read_of (rows_of w) (line_of input n))
    (ap (λ (x : Front). answer_of (front_rows w s input (length output) x)) (sym f) ∙ u))
