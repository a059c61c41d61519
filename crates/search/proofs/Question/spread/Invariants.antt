use Rattle.std.proofs.Common.{◌-◌}
use Rattle.search.specs.Question.{IndexedFrom, Going}
use Rattle.search.proofs.Question.spread.Given as goal

abbrev pub invariant-loop-k : goal.invariant-loop-k
invariant-loop-k g l = IndexedFrom l.self l.index l.k

abbrev pub invariant-loop-step : goal.invariant-loop-step
invariant-loop-step g l = Going l.self l.work 0

abbrev pub decreases-loop-step : goal.decreases-loop-step
decreases-loop-step g l = 1024 - l.work.done
