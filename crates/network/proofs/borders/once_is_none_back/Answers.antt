use Rattle.network.proofs.Crossings.{once_is_none_back}
use Rattle.network.proofs.borders.once_is_none_back.Goals as goal

pub returns : goal.returns
returns c = once_is_none_back
