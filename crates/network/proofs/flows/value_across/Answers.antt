use Rattle.network.proofs.Value.{value_across}
use Rattle.network.proofs.flows.value_across.Goals as goal

pub returns : goal.returns
returns c = value_across
