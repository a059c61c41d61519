use Rattle.network.proofs.Crossings.{on_way_is_reached}
use Rattle.network.proofs.searches.on_way_is_reached.Goals as goal

pub returns : goal.returns
returns c = on_way_is_reached
