use Rattle.search.proofs.Outcome.{tells}
use Rattle.search.proofs.explore.Goals as goal

pub returns : goal.returns
returns g c =
    let p = c.in_ok-new.ensures in
    (p.takes, rw (← p.graph, ← p.start) (tells c.spread.ensures.searched (c.spread.ensures.whole tt)))
