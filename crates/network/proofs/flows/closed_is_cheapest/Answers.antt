use Rattle.network.proofs.Closed.{closed-is-cheapest}
use Rattle.network.proofs.flows.closed_is_cheapest.Goals as goal

pub returns : goal.returns
returns c = closed-is-cheapest
