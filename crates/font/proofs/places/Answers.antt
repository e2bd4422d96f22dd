use Rattle.font.proofs.Passes.{places-start}
use Rattle.font.proofs.places.Goals as goal

pub find_places-requires : goal.find_places-requires
find_places-requires c = places-start _
