use Rattle.network.proofs.Closed.{closed_is_best}
use Rattle.network.proofs.flows.closed_is_best.Goals as goal

pub returns : goal.returns
returns c = closed_is_best
