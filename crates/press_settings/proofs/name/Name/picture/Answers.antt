use Rattle.press_settings.proofs.name.Name.picture.Goals as goal
use Rattle.press_settings.proofs.Laying.{laid}

pub returns : goal.returns
returns c = laid _ _ _ _ c.name_room-room.ensures c.name-length.ensures.place c.name-length.ensures.stored
