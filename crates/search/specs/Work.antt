-- The queue of a search. Only the search's own code needs this.
use Rattle.std.specs.Prelude.{ℕ, Option, slice_get}
use Rattle.search.specs.declared.Work.{Work}

-- the step that is next in the queue
abbrev pub next_step : Work → Option ℕ
next_step work = slice_get work.queue.items work.done
