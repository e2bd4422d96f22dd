use Rattle.clock_commands.proofs.clock_said.Goals as goal

pub returns : goal.returns
returns c = rw (c.eight_bits-6.ensures, c.eight_bits-5.ensures, c.eight_bits-4.ensures, c.eight_bits-3.ensures, c.eight_bits-2.ensures, c.eight_bits.ensures)
