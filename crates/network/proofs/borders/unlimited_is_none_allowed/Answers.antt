use Rattle.network.proofs.Blocked.{unlimited_is_none_allowed}
use Rattle.network.proofs.borders.unlimited_is_none_allowed.Goals as goal

pub returns : goal.returns
returns c = unlimited_is_none_allowed
