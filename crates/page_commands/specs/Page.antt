-- Q, q, ZT and ZB, N: what they do. Nothing refuses them.
-- Assumes nothing.
use Rattle.std.specs.Prelude.{cond, [], length}
use Rattle.cells.specs.Cell.{zeros}
use Rattle.grammar.specs.declared.PageCommand.{PageCommand}
use Rattle.grammar.specs.declared.PageCommand.TheVariants.{Length, Width, Turn, White}
use Rattle.session.specs.declared.Session.{Session}
use Rattle.answers.specs.declared.Answer.TheVariants.{Taken}
use Rattle.session.specs.Session.{sized, turning, sixteen_bits}
use Rattle.lent.specs.Lent.{World}
use Rattle.results.specs.World.{State, state, with_background, inactive}
use Rattle.results.specs.Result.{done, Ran, ran}

-- "Both whiten the background, as does `N`"
abbrev pub whitened : World → World
whitened w = with_background w (zeros (length w.background))

-- N "also ends the active form"
abbrev pub page_runs : World → Session → PageCommand → State
page_runs w s (Length l) = state (sized s s.width (sixteen_bits l.m)) (whitened w)
page_runs w s (Width m) = state (sized s (sixteen_bits m.m) s.length) (whitened w)
page_runs w s (Turn t) = state (turning s (cond t.half 1 0)) w
page_runs w s White = inactive (state s (whitened w))

-- what such a command leaves
abbrev pub page_by : World → Session → PageCommand → Ran
page_by w s c = ran (done Taken (page_runs w s c).session 0) (page_runs w s c).world []
