use Rattle.std.proofs.Common.{◌≡◌, ◌-◌, ◌<◌, Some, IfSome, unwrap_or}
use Rattle.search.specs.Work.{next_step}
use Rattle.search.specs.Question.{graph_of, Going}
use Rattle.search.proofs.Question.scan.Given as goal

abbrev pub invariant-loop-next : goal.invariant-loop-next
invariant-loop-next g l = record {
  done : l.work.done ≡ l.initial.work.done;
  at : next_step l.work ≡ Some l.step;
  leaves : IfSome l.next (λ k. (k < l.self.arcs) × ((graph_of l.self).from k ≡ l.step));
  going : Going l.self l.work (unwrap_or l.next l.self.arcs);
}

abbrev pub decreases-loop-next : goal.decreases-loop-next
decreases-loop-next g l = l.self.arcs - unwrap_or l.next l.self.arcs
