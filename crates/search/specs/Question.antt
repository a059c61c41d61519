-- What a question asks, and the state of the search that answers it. Only the search's own code needs this.
use Rattle.std.specs.Prelude.{◌≡◌, ℕ, true}
use Rattle.network.specs.Walk.{Map, Leads}
use Rattle.search.specs.Inside.{inside}
use Rattle.search.specs.Answers.{Takes}
use Rattle.search.specs.Record.{reached}
use Rattle.search.specs.Index.{Indexed}
use Rattle.search.specs.Progress.{Progress, LeadsBack}
use Rattle.search.specs.declared.Index.{Index}
use Rattle.search.specs.declared.Question.{Question}
use Rattle.search.specs.declared.reach.Reach.{Reach}
use Rattle.search.specs.declared.Work.{Work}

-- a question of a map of type A, B being its trait's members
module _ {A : _} {B : _} (q : Question A B) where
  -- the arcs that it takes
  abbrev pub graph_of : Map ℕ
  graph_of = inside q.arcs q.steps (B.graph q.map.now)

  -- it asks for the roads from step s, of the arcs of M that a search on the steps 1 to n takes
  pub record Poses (arcs : ℕ) (M : Map ℕ) (n s : ℕ) : Type 0 where
    pub takes : Takes arcs n s
    pub graph : graph_of ≡ inside arcs n M
    pub steps : q.steps ≡ n
    pub start : q.start ≡ s

  -- the index holds its arcs from number i on that leave a step
  abbrev pub IndexedFrom : Index → ℕ → Type 0
  IndexedFrom index i = Indexed graph_of q.arcs q.steps index.first index.next i

  -- a search at work: of the step that is next in the queue, the arcs below b are done
  abbrev pub Going : Work → ℕ → Type 0
  Going work b = Progress graph_of q.start work.reach.parents work.queue.items work.done b

  -- the parents lead back to the start by the fewest arcs
  abbrev pub Searched : Reach → Type 0
  Searched r = LeadsBack graph_of q.start r.parents

  -- nothing is left to be reached
  abbrev pub Whole : Reach → Type 0
  Whole r = (v : ℕ) → Leads graph_of q.start v → reached r v ≡ true
