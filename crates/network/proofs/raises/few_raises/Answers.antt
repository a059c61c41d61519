use Rattle.network.proofs.Few.{few_raises}
use Rattle.network.proofs.raises.few_raises.Goals as goal

pub returns : goal.returns
returns c = few_raises
