use Rattle.picture_commands.proofs.run_picture.Goals as goal

pub returns-in-Store : goal.returns-in-Store
returns-in-Store c = rw c.in-Store.is c.keep_picture.ensures

pub returns-in-Erase : goal.returns-in-Erase
returns-in-Erase c = rw c.in-Erase.is c.erase_picture.ensures
