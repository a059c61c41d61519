use Rattle.network.proofs.Blocked.{unlimited_is_always_barred}
use Rattle.network.proofs.borders.unlimited_is_always_barred.Goals as goal

pub returns : goal.returns
returns c = unlimited_is_always_barred
