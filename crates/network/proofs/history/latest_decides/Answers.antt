use Rattle.network.proofs.Histories.{latest_decides}
use Rattle.network.proofs.history.latest_decides.Goals as goal

pub returns : goal.returns
returns c = latest_decides
