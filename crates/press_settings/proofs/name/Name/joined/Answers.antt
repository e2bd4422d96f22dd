use Rattle.press_settings.proofs.name.Name.joined.Goals as goal
use Rattle.press_settings.proofs.Laying.{laid}

pub returns : goal.returns
returns c = laid _ _ _ _ c.name_room-room.ensures c.joined-length.ensures.place c.joined-length.ensures.stored
