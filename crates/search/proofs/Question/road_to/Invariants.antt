use Rattle.std.proofs.Common.{◌-◌, length, reverse}
use Rattle.search.specs.Question.{graph_of, Searched}
use Rattle.search.specs.Reading.{Reading}
use Rattle.search.proofs.Question.road_to.Given as goal

abbrev pub invariant-loop-k : goal.invariant-loop-k
invariant-loop-k g l =
    (S : Searched l.self l.reach) → Reading (graph_of l.self) l.reach.parents S.distance l.goal l.step (reverse l.arcs.items)

abbrev pub decreases-loop-k : goal.decreases-loop-k
decreases-loop-k g l = 1024 - length l.arcs.items
