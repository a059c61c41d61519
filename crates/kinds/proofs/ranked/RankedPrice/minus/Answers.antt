use Rattle.std.proofs.Common.{◌≡◌, ◌-ℤ◌, arith}
use Rattle.std.proofs.lemmas.Int.{ints}
use Rattle.kinds.specs.RankedKind.{as_one, ranked_means}
use Rattle.kinds.proofs.ranked.RankedPrice.minus.Goals as goal

pub returns-clause-means : goal.returns-clause-means
returns-clause-means c =
    let exact : as_one c.carried.result.rank c.carried.result.size ≡ ranked_means c.args.self -ℤ ranked_means c.args.other = omega (arith, ints) in
    cc
