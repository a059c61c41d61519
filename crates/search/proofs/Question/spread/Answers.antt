use Rattle.std.proofs.Common.{sym, ◌∙◌, arith}
use Rattle.search.proofs.Links.{unindexed}
use Rattle.search.proofs.Turns.{begin, place_in_hand}
use Rattle.search.proofs.Outcome.{searched, whole}
use Rattle.search.proofs.Question.spread.Goals as goal

pub loop-k-init : goal.loop-k-init
loop-k-init g c = rw (c.new-index.ensures.first, c.new-index.ensures.next) (unindexed _ _ _ c.args.self.now.taken.few_steps)

pub loop-step-init : goal.loop-step-init
loop-step-init g c =
    let taken = c.args.self.now.taken in
    rw (c.push.ensures.parents, c.push.ensures.queue, c.push.ensures.done, c.none.ensures, c.new.ensures) (begin _ _ (taken.start.0, omega arith))

pub loop-step-smaller : goal.loop-step-smaller
loop-step-smaller g c =
    omega (arith, c.scan.ensures.done, place_in_hand c.loop-step.invariant c.in-Some.step (sym c.next_step.ensures ∙ c.in-Some.is))

pub returns-then-is_some_and-clause-searched : goal.returns-then-is_some_and-clause-searched
returns-then-is_some_and-clause-searched g c = searched c.loop-step.invariant

pub returns-in_default-clause-searched : goal.returns-in_default-clause-searched
returns-in_default-clause-searched g c = searched c.loop-step.invariant

pub returns-in_default-clause-whole : goal.returns-in_default-clause-whole
returns-in_default-clause-whole g c = λ _. whole c.loop-step.invariant (sym c.next_step.ensures ∙ c.in_default.is)
