use Rattle.answers.specs.Answers.{answer_of, is_taken, number_of}
use Rattle.cells.specs.Cell.{zeros}
use Rattle.pages.specs.Pages.{white}
use Rattle.page_commands.proofs.set_width.Goals as goal

pub returns : goal.returns
unfolding answer_of is_taken number_of white zeros
returns c = rw (c.taken.ensures, c.sized.ensures, c.whiten.ensures, c.sixteen_bits-m.ensures)
