use Rattle.network.proofs.Shortest.{least_spare_exists}
use Rattle.network.proofs.raises.least_spare_exists.Goals as goal

pub returns : goal.returns
returns c = least_spare_exists
