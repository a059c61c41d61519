-- The arcs that a search takes.
use Rattle.std.specs.Prelude.{ℕ, ◌≤◌, Bool, ◌&&◌, nat_le, nat_lt}
use Rattle.network.specs.Walk.{Map}

-- v is one of the steps 1 to n
abbrev pub Step : ℕ → ℕ → Type 0
Step n v = (1 ≤ v) × (v ≤ n)

abbrev pub is_step : ℕ → ℕ → Bool
is_step n v = nat_le 1 v && nat_le v n

-- of a map that has so many arcs, numbered from 0, those that do not lead out of the steps 1 to n
abbrev pub inside : ℕ → ℕ → Map ℕ → Map ℕ
inside arcs n M = record { from = M.from; to = M.to; passable = λ k. nat_lt k arcs && (M.passable k && is_step n (M.to k)) }
