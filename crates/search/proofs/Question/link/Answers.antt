use Rattle.std.proofs.Common.{sym}
use Rattle.search.proofs.Inner.{step_from}
use Rattle.search.proofs.Links.{linked}
use Rattle.search.proofs.Question.link.Goals as goal

pub returns-then-is_step : goal.returns-then-is_step
returns-then-is_step g c =
    rw (c.put.ensures.first, c.put.ensures.next) (linked _ _ _ c.args.self.now.taken.few_steps c.requires.indexed c.args.self.now.taken.few_arcs c.requires.below _ c.ends-from.ensures.from (step_from _ _ (sym c.if-is_step.ensures)))
