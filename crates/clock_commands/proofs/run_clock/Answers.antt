use Rattle.clock_commands.proofs.run_clock.Goals as goal

pub returns : goal.returns
returns c = rw (c.taken.ensures, c.clocked.ensures, c.clock_said.ensures)
