use Rattle.network.proofs.Value.{value_at_most_cost}
use Rattle.network.proofs.flows.value_at_most_cost.Goals as goal

pub returns : goal.returns
returns c = value_at_most_cost
