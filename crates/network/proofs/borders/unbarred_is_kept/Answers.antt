use Rattle.network.proofs.Crossings.{unbarred_is_kept}
use Rattle.network.proofs.borders.unbarred_is_kept.Goals as goal

pub returns : goal.returns
returns c = unbarred_is_kept
