use Rattle.std.proofs.Common.{sym}
use Rattle.std.proofs.lemmas.List.{reverse-append}
use Rattle.search.proofs.Back.{back, is_along}
use Rattle.search.proofs.Question.road_to.Goals as goal

pub loop-k-preserved : goal.loop-k-preserved
loop-k-preserved g c = λ S.
    rw (c.push.ensures.items, reverse-append, c.ends-step.ensures.from, c.from.ensures) (back S _ (c.loop-k.invariant S) (is_along _ _ (sym c.in-Some.ensures)))
