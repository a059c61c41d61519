use Rattle.network.proofs.Bounds.{flows_within_total}
use Rattle.network.proofs.raises.flows_within_total.Goals as goal

pub returns : goal.returns
returns c = flows_within_total
