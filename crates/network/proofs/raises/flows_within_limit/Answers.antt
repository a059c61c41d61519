use Rattle.network.proofs.Bounds.{flows_within_limit}
use Rattle.network.proofs.raises.flows_within_limit.Goals as goal

pub returns : goal.returns
returns c = flows_within_limit
