use Rattle.stamps.specs.Texts.{month_name}
use Rattle.stamps.proofs.Text.add_month.Goals as goal

pub returns : goal.returns
unfolding month_name
returns c = rw (← c.month_letter.ensures, ← c.month_letter-2.ensures, ← c.month_letter-3.ensures, ← c.add.ensures, ← c.add-2.ensures) c.add-3.ensures
