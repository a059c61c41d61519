use Rattle.network.proofs.Writing.{written_is_along}
use Rattle.network.proofs.searches.written_is_along.Goals as goal

pub returns : goal.returns
returns c = written_is_along
