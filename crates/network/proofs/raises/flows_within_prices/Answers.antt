use Rattle.network.proofs.Bounds.{flows_within_prices}
use Rattle.network.proofs.raises.flows_within_prices.Goals as goal

pub returns : goal.returns
returns c = flows_within_prices
