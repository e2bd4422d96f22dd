use Rattle.full.proofs.full_answer.Goals as goal

pub returns : goal.returns
returns c = rw (c.which_kind.ensures, c.has_entry-entry.ensures, c.needed_for.ensures)
