use Rattle.network.proofs.Histories.{calls_count}
use Rattle.network.proofs.history.calls_count.Goals as goal

pub returns : goal.returns
returns c = calls_count
