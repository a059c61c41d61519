use Rattle.network.proofs.Arcs.{fewest_is_shortest}
use Rattle.network.proofs.searches.fewest_is_shortest.Goals as goal

pub returns : goal.returns
returns c = fewest_is_shortest
