use Rattle.places.proofs.has_place.Goals as goal

pub returns-in-Item : goal.returns-in-Item
returns-in-Item c = rw (c.in-Item.is, ← c.is_declaration.ensures)
