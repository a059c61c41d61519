use Rattle.std.proofs.Common.{◌≡◌, ◌*◌, neg_ℤ, pos, arith}
use Rattle.std.proofs.lemmas.Int.{ints, clamps}
use Rattle.price.proofs.Order.{at_most}
use Rattle.price.proofs.kind.is_within_flow_limit.Goals as goal

pub returns : goal.returns
returns g c =
    let K = g.P.Price.kind in
    let test = at_most K.means g.P.PartialOrd.partial_cmp g.P.Ord.cmp g.met.P.Ord.matches_partial_cmp g.met.P.Price.order in
    let low : K.means c.minus.result ≡ neg_ℤ (pos (4096 * K.largest)) = omega (arith, ints, clamps) in
    grind (arith, ints, low, test c.minus.result c.args.total, test c.args.total c.flow_limit-limit.result)
