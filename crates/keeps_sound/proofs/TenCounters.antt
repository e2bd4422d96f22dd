-- Every call answers a session of ten flags and ten values, if it was given one.
-- Assumes nothing.
use Rattle.std.proofs.Common.{Result, Ok, Err}
use mathlib.Core.Path.{◌≡◌, refl, ◌∙◌}
use mathlib.Core.Bool.{Bool, true, false, cond}
use mathlib.Core.List.{List}
use Prim.Native.Nat.{ℕ}
use lib.ListN.{length, length-set}
use Rattle.read.specs.declared.Fault.{Fault}
use Rattle.finding.specs.Find.{recorded}
use Rattle.counters.specs.declared.Counters.{Counters}
use Rattle.grammar.specs.declared.Command.{Command}
use Rattle.front.specs.declared.Front.{Front}
use Rattle.front.specs.declared.Front.TheVariants.{Short, Long as LongLine, Idle, Line}
use Rattle.read.specs.Commands.{read_of}
use Rattle.front.specs.Front.{front_of}
use Rattle.session.specs.declared.Session.{Session}
use Rattle.answers.specs.Answers.{is_taken, answer_of}
use Rattle.lent.specs.Lent.{World, rows_of}
use Rattle.calls.specs.Does.{placed, does_line}
use Rattle.unread.specs.Front.{line_of, more_of}
use Rattle.calls.specs.Table.{command_table}
use Rattle.calls.specs.Outcomes.{After}
use Rattle.calls.specs.Station.{does_front, commanded}
use Rattle.keeps_sound.specs.Tens.{Tens}
use Rattle.keeps_sound.proofs.Counters.{placed-left}
use Rattle.std.specs.Prelude.{Option}

-- ---- a command that is taken

module _ (font : List ℕ) (w : World) (s : Session) (line more : List ℕ) (t : Tens s) where
  placed-tens : (f : Option ℕ) (c : Command) → Tens (placed font w s line more c f).session
  placed-tens f c =
      let x = placed-left font w s line more (λ (k : Counters) (active : ℕ). (length k.set ≡ 10) × (length k.value ≡ 10))
      (t.flags, t.values) (λ active. (refl, refl)) f c
      (λ e q. (length-set s.counters.set e.n 1 ∙ t.flags, length-set s.counters.value e.n e.value ∙ t.values)) in
      record { flags = x.0; values = x.1 }

  line-tens : (r : Result Command Fault) → Tens (does_line font w s line more r).session
  line-tens (Ok c) = placed-tens (recorded w.directory) c
  line-tens (Err f) = t

-- ---- a command call

module _ (font : List ℕ) (w : World) (s : Session) (t : Tens s) where
  front-tens : (input : List ℕ) (f : Front) → Tens (does_front font w s input f).session
  front-tens input Short = t
  front-tens input (LongLine k) = t
  front-tens input (Idle k) = t
  front-tens input (Line n k) = line-tens font w s (line_of input n) (more_of input n k) t (read_of (rows_of w) (line_of input n))

  settled-tens : (b : Bool) (x y : After) → Tens x.outcome.session → Tens y.outcome.session → Tens (cond b x y).outcome.session
  settled-tens true x y p q = p
  settled-tens false x y p q = q

  pub command-tens : (output input : List ℕ) → Tens (commanded s font w output input).outcome.session
  unfolding commanded
  command-tens output input =
      settled-tens (is_taken (answer_of (command_table s font w (length output) input))) _ _ (front-tens input (front_of input)) t
