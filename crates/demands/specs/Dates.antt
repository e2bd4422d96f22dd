-- Paper 02, §10: what sets the clock and the formats, and the seconds that clock calls give.
-- Assumes nothing.
use Rattle.std.specs.Prelude.{ℕ, ◌+◌, ◌≡◌, cond, List, [], ◌∷◌, leb, None}
use Rattle.finding.specs.Find.{recorded}
use Rattle.grammar.specs.declared.SetClock.{SetClock}
use Rattle.grammar.specs.declared.SetFormat.{SetFormat}
use Rattle.grammar.specs.declared.Item.TheVariants.{Format}
use Rattle.grammar.specs.declared.Command.TheVariants.{Item as item, Clock}
use Rattle.lent.specs.Lent.{World}
use Rattle.keeps_sound.specs.Calls.{Call, command, label, pass}
use Rattle.demands.specs.Calls.{Says}

-- a line that is read as TS
pub record SetsClock (w : World) (input : List ℕ) : Type 0 where
  pub clock : SetClock
  pub says : Says w input (Clock clock)

-- a line that is read as TD or TT, while no form is being recorded
pub record SetsFormat (w : World) (input : List ℕ) : Type 0 where
  pub format : SetFormat
  pub says : Says w input (item (Format format))
  pub outside : recorded w.directory ≡ None

-- "a call that gives the seconds passed, 0 to 86,400": those of all clock calls; one that gives more is refused
abbrev pub seconds_in : List Call → ℕ
seconds_in [] = 0
seconds_in (command font output input ∷ cs) = seconds_in cs
seconds_in (label font page ∷ cs) = seconds_in cs
seconds_in (pass seconds ∷ cs) = cond (leb seconds 86400) seconds 0 + seconds_in cs
