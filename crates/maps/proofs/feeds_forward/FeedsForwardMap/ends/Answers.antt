use Rattle.std.proofs.Common.{◌≡◌, [], rules}
use Rattle.std.specs.Option.{MatchOption}
use Rattle.sheets.proofs.Entries.{from_lent, to_lent}
use Rattle.maps.proofs.feeds_forward.FeedsForwardMap.ends.Goals as goal

pub returns-clause-from : goal.returns-clause-from
returns-clause-from g c =
    let lent : MatchOption c.get.result (c.map_or.result.from ≡ 0) (λ x. c.map_or.result.from ≡ x.now.from) = search rules in
    from_lent g.P.Price.kind _ [] _ _ c.get.ensures.lookup _ lent

pub returns-clause-to : goal.returns-clause-to
returns-clause-to g c =
    let lent : MatchOption c.get.result (c.map_or.result.to ≡ 0) (λ x. c.map_or.result.to ≡ x.now.to) = search rules in
    to_lent g.P.Price.kind _ [] _ _ c.get.ensures.lookup _ lent
