use Rattle.std.proofs.Common.{arith}
use Rattle.std.proofs.lemmas.Int.{ints}
use Rattle.kinds.proofs.ranked.RankedWritten.whole.Goals as goal

pub returns : goal.returns
returns c =
    let within = c.is_within_flow_limit.ensures.0 c.if-not-is_within_flow_limit.false in
    (within, omega (arith, ints))
