-- The state of a search. Only the search's own code needs this.
use Rattle.std.specs.Prelude.{◌≡◌, ℕ, ◌+◌, ◌<◌, ◌≤◌, true, false, List, length, slice_get, Option, Some, None, is_some, count_by}
use Rattle.network.specs.Walk.{Map, Walk}
use Rattle.search.specs.Inside.{Step}
use Rattle.search.specs.Record.{parent_of}
use Rattle.search.specs.declared.reach.Parent.{Parent}
use Rattle.search.specs.declared.reach.Parent.TheVariants.{Start, Along}

-- step v was reached
abbrev pub Known : List (Option Parent) → ℕ → Type 0
Known parents v = is_some (parent_of parents v) ≡ true

-- one may pass arc k, to a step that was not reached yet
pub record Fresh (M : Map ℕ) (parents : List (Option Parent)) (k : ℕ) : Type 0 where
  pub passable : M.passable k ≡ true
  pub step : Step 1024 (M.to k)
  pub new : is_some (parent_of parents (M.to k)) ≡ false

-- what the parent of step v says, where d is the distance from the start s
abbrev pub Says : Map ℕ → ℕ → List (Option Parent) → (ℕ → ℕ) → ℕ → Option Parent → Type 0
Says M s parents d v None = Unit {0}
Says M s parents d v (Some Start) = v ≡ s
Says M s parents d v (Some (Along k)) = (M.passable k ≡ true) × (M.to k ≡ v) × Known parents (M.from k) × (d v ≡ d (M.from k) + 1)

-- arc k was looked at: its end is reached, and no later than by it
abbrev pub Seen : Map ℕ → List (Option Parent) → (ℕ → ℕ) → ℕ → Type 0
Seen M parents d k = Known parents (M.to k) × (d (M.to k) ≤ d (M.from k) + 1)

-- the queue has the reached steps, in the order of their distance
pub record Ordered (M : Map ℕ) (s : ℕ) (parents : List (Option Parent)) (queue : List ℕ) : Type 0 where
  pub distance : ℕ → ℕ
  pub table : length parents ≡ 1024
  pub start_known : Known parents s
  pub start_distance : distance s ≡ 0
  pub says : (v : ℕ) → Says M s parents distance v (parent_of parents v)
  pub counted : count_by is_some parents ≡ length queue
  pub queued : (i v : ℕ) → slice_get queue i ≡ Some v → Known parents v
  pub found : (v : ℕ) → Known parents v → (i : ℕ) × (slice_get queue i ≡ Some v)
  pub near : (i v : ℕ) → slice_get queue i ≡ Some v → distance v ≤ i
  pub order : (i j u v : ℕ) → i ≤ j → slice_get queue i ≡ Some u → slice_get queue j ≡ Some v → distance u ≤ distance v

-- and the first h of them are done, and of the next one the arcs below b
pub record Progress (M : Map ℕ) (s : ℕ) (parents : List (Option Parent)) (queue : List ℕ) (h b : ℕ) : Type 0 where
  pub state : Ordered M s parents queue
  pub ahead : (u v : ℕ) → slice_get queue h ≡ Some u → Known parents v → state.distance v ≤ state.distance u + 1
  pub done : (i k : ℕ) → i < h → M.passable k ≡ true → slice_get queue i ≡ Some (M.from k) → Seen M parents state.distance k
  pub doing : (k : ℕ) → k < b → M.passable k ≡ true → slice_get queue h ≡ Some (M.from k) → Seen M parents state.distance k

-- the parents lead back to the start by the fewest arcs
pub record LeadsBack (M : Map ℕ) (s : ℕ) (parents : List (Option Parent)) : Type 0 where
  pub distance : ℕ → ℕ
  pub start_distance : distance s ≡ 0
  pub says : (v : ℕ) → Says M s parents distance v (parent_of parents v)
  pub least : (v : ℕ) → Known parents v → (w : List ℕ) → Walk M s w v → distance v ≤ length w
  pub short : (v : ℕ) → Known parents v → distance v < 1024
