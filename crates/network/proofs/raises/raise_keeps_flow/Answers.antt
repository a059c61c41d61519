use Rattle.network.proofs.Raising.{raise_keeps_flow}
use Rattle.network.proofs.raises.raise_keeps_flow.Goals as goal

pub returns : goal.returns
returns c = raise_keeps_flow
