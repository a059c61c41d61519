-- Moves by number, as the maps of moves have them: arc 2k is feed k forward, arc 2k + 1 feed k backward.
use Rattle.std.specs.Prelude.{ℕ, Bool, ℤ}
use Rattle.network.specs.Chart.{Chart, Flows}
use Rattle.network.specs.Walk.{Map}
use Rattle.network.specs.Move.{has_spare}
use Rattle.network.specs.Arc.{numbered}

-- moves under a rule: it tells of each feed, by its number, its bar and its price, whether one may pass it forward
abbrev pub ruled_arcs : Chart → (ℕ → Bool → ℤ → Bool) → Map ℕ
ruled_arcs C may = numbered C (λ k. may k (C.barred k) (C.price k))

-- moves without limit
abbrev pub unlimited_arcs : Chart → Map ℕ
unlimited_arcs C = numbered C C.barred

-- open moves at the flows f
abbrev pub open_arcs : Chart → Flows → Map ℕ
open_arcs C f = numbered C (has_spare C f)
