use Rattle.network.proofs.Closed.{closed_is_audited}
use Rattle.network.proofs.flows.closed_is_audited.Goals as goal

pub returns : goal.returns
returns c = closed_is_audited
