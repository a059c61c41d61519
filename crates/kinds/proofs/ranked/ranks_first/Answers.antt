use Rattle.kinds.proofs.Ranks.{ranks_first}
use Rattle.kinds.proofs.ranked.ranks_first.Goals as goal

pub returns : goal.returns
returns c = ranks_first
