use Rattle.std.proofs.Common.{arith}
use Rattle.std.proofs.lemmas.Int.{ints, clamps}
use Rattle.kinds.proofs.size.SizePrice.plus.Goals as goal

pub returns-clause-means : goal.returns-clause-means
returns-clause-means c = omega (arith, ints, clamps)
