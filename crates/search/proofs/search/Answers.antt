use Rattle.std.proofs.Common.{sym, ◌∙◌}
use Rattle.std.proofs.lemmas.Bool.{true≢false}
use Rattle.search.proofs.Inner.{step_from}
use Rattle.search.proofs.Outcome.{tells}
use Rattle.search.proofs.search.Goals as goal

pub returns-then-not-reaches : goal.returns-then-not-reaches
returns-then-not-reaches g c =
    let p = c.in-Some.ensures in
    let none = sym c.if-not-reaches.ensures in
    let all = c.spread-reach.ensures.whole none in (
      p.takes,
      rw (← p.steps) (step_from _ _ (sym c.if-not-is_step.ensures)),
      rw (← p.graph, ← p.start) (λ leads. true≢false (sym (all _ leads) ∙ none)),
      rw (← p.graph, ← p.start) (tells c.spread-reach.ensures.searched all),
    )
