use Rattle.std.proofs.Common.{arith}
use Rattle.std.proofs.lemmas.Int.{ints, clamps}
use Rattle.std.proofs.lemmas.Bool.Decides.{nat_tests}
use Rattle.kinds.proofs.ranked.Ranked.held.Goals as goal

pub returns-clause-means : goal.returns-clause-means
returns-clause-means c = grind (arith, ints, clamps, nat_tests)
