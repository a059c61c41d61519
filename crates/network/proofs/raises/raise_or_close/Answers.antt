use Rattle.network.proofs.Shortest.{raise_or_close}
use Rattle.network.proofs.raises.raise_or_close.Goals as goal

pub returns : goal.returns
returns c = raise_or_close
