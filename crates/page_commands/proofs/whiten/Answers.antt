use Rattle.answers.specs.Answers.{answer_of, is_taken, number_of}
use Rattle.cells.specs.Cell.{zeros}
use Rattle.pages.specs.Pages.{white}
use Rattle.page_commands.proofs.whiten.Goals as goal

pub returns : goal.returns
unfolding answer_of is_taken number_of white zeros
returns c = rw (c.activate.ensures.0, c.activate.ensures.1, c.whiten.ensures)
