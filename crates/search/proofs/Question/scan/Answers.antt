use Rattle.std.proofs.Common.{◌+◌, refl, ◌∙◌, arith}
use Rattle.search.specs.Question.{graph_of}
use Rattle.search.proofs.Inner.{below}
use Rattle.search.proofs.Links.{leaves, after}
use Rattle.search.proofs.Turns.{step_in_hand, step_within, place_in_hand, skip, turn}
use Rattle.search.proofs.Question.scan.Goals as goal

pub first-next-requires : goal.first-next-requires
first-next-requires g c = step_in_hand c.requires.progress _ c.requires.next

pub loop-next-init : goal.loop-next-init
loop-next-init g c =
    let q = c.args.self.now in
    let is = step_within q.arcs q.steps (g.M.Map.graph q.map.now) c.requires.progress.state q.taken.start _ _ c.requires.next in
    let first = c.requires.indexed.starts c.args.step is in
    rw c.first-next.ensures (record {
      done = refl;
      at = c.requires.next;
      leaves = leaves (graph_of q) q.arcs c.args.step 0 _ first;
      going = skip c.requires.progress q.arcs c.args.step _ c.requires.next first;
    })

pub loop-next-preserved : goal.loop-next-preserved
loop-next-preserved g c =
    let q = c.args.self.now in
    let inv = c.loop-next.invariant in
    let here = rw c.in-Some.is at inv.leaves in
    let is = step_within q.arcs q.steps (g.M.Map.graph q.map.now) inv.going.state q.taken.start _ _ inv.at in
    let next = after c.requires.indexed c.args.step c.in-Some.k here.0 here.1 is in
    let at = c.look.ensures.next ∙ inv.at in
    rw c.after-next.ensures (record {
      done = c.look.ensures.done ∙ inv.done;
      at = at;
      leaves = leaves (graph_of q) q.arcs c.args.step (c.in-Some.k + 1) _ next;
      going = skip c.look.ensures.progress q.arcs c.args.step _ at next;
    })

pub overflow_add-work : goal.overflow_add-work
overflow_add-work g c =
    let inv = c.loop-next.invariant in
    omega (arith, place_in_hand inv.going c.args.step inv.at)

pub returns-clause-progress : goal.returns-clause-progress
returns-clause-progress g c =
    let q = c.args.self.now in
    let inv = c.loop-next.invariant in
    turn (rw c.in_default.is at inv.going) _ inv.at (below q.arcs q.steps (g.M.Map.graph q.map.now))
