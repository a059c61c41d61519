use Rattle.network.proofs.Closed.{audited_is_cheapest}
use Rattle.network.proofs.flows.audited_is_cheapest.Goals as goal

pub returns : goal.returns
returns c = audited_is_cheapest
