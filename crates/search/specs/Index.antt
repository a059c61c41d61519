-- The arcs that leave each step, in rising order, through two tables. Only the index's own code needs this.
use Rattle.std.specs.Prelude.{◌≡◌, ℕ, ◌+◌, ◌-◌, ◌<◌, ◌≤◌, List, length, ◌≢◌, Option, Some, None, nat_eq, if◌then◌else◌, slice_index}
use Rattle.network.specs.Walk.{Map}
use Rattle.search.specs.Inside.{Step}

-- of the arcs from number i on, the first that leaves u; or none does
abbrev pub Next : Map ℕ → ℕ → ℕ → ℕ → Option ℕ → Type 0
Next M arcs u i None = (k : ℕ) → i ≤ k → k < arcs → M.from k ≢ u
Next M arcs u i (Some r) = (i ≤ r) × (r < arcs) × (M.from r ≡ u) × ((k : ℕ) → i ≤ k → k < r → M.from k ≢ u)

-- the arc that an entry holds
abbrev pub arc_in : ℕ → Option ℕ
arc_in r = if nat_eq r 65535 then None else Some r

-- the tables hold the arcs from number i on that leave one of the steps 1 to n
pub record Indexed (M : Map ℕ) (arcs n : ℕ) (first next : List ℕ) (i : ℕ) : Type 0 where
  pub firsts : length first ≡ 1024
  pub nexts : length next ≡ 8192
  pub starts : (u : ℕ) → Step n u → Next M arcs u i (arc_in (slice_index first (u - 1)))
  pub follows : (k : ℕ) → i ≤ k → k < arcs → Step n (M.from k) → Next M arcs (M.from k) (k + 1) (arc_in (slice_index next k))
