use Rattle.network.proofs.Arcs.{numbered_are_moves}
use Rattle.network.proofs.searches.numbered_are_moves.Goals as goal

pub returns : goal.returns
returns c = numbered_are_moves
