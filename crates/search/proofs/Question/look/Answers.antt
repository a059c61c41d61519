use Rattle.std.proofs.Common.{◌≡◌, true, sym, subst, arith}
use Rattle.search.specs.Progress.{Known}
use Rattle.search.specs.Question.{graph_of}
use Rattle.search.proofs.Turns.{push, room, pass}
use Rattle.search.proofs.Question.look.Goals as goal

pub push-requires-clause-room : goal.push-requires-clause-room
push-requires-clause-room g c = room c.requires.progress c.if-is_fresh.ensures.fresh (sym c.ends.ensures.to) c.requires.leaves

pub returns-then-is_fresh-clause-progress : goal.returns-then-is_fresh-clause-progress
returns-then-is_fresh-clause-progress g c =
    rw (c.push.ensures.parents, c.push.ensures.queue, c.push.ensures.done) (push c.requires.progress c.if-is_fresh.ensures.fresh (sym c.ends.ensures.to) c.requires.leaves)

pub returns-else-is_fresh-clause-progress : goal.returns-else-is_fresh-clause-progress
returns-else-is_fresh-clause-progress g c =
    pass c.requires.progress _ (λ k low high pk at.
    let is : c.args.k ≡ k = omega arith in
    let M = graph_of c.args.self.now in
    subst (λ j. M.passable j ≡ true → Known c.args.work.now.reach.parents (M.to j)) is c.if-is_fresh.ensures.other pk)
