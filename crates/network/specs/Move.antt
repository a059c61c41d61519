-- Moves along feeds, forward and backward (arcs of the residual network).
use Rattle.std.specs.Prelude.{ℕ, Bool, true, ◌&&◌, ◌||◌, int_lt, nat_lt}
use Rattle.network.specs.Chart.{Chart, Flows}
use Rattle.network.specs.Walk.{Map, Leads}

-- along feed k from its start to its end, or against it
pub data Move : Type 0 where
  forward backward : ℕ → Move

abbrev pub move_feed : Move → ℕ
move_feed (forward k) = k
move_feed (backward k) = k

abbrev pub move_from : Chart → Move → ℕ
move_from C (forward k) = C.from k
move_from C (backward k) = C.to k

abbrev pub move_to : Chart → Move → ℕ
move_to C (forward k) = C.to k
move_to C (backward k) = C.from k

-- one may move forward where `may` says so, and backward always
abbrev pub permits : (ℕ → Bool) → Move → Bool
permits may (forward k) = may k
permits may (backward k) = true

abbrev pub moves : Chart → (ℕ → Bool) → Map Move
moves C may = record { from = move_from C; to = move_to C; passable = λ x. nat_lt (move_feed x) C.count && permits may x }

-- moves without limit: forward along barred feeds, backward along all
abbrev pub unlimited_moves : Chart → Map Move
unlimited_moves C = moves C C.barred

-- feed k has room for more flow: it is barred, or its flow is less than its price
abbrev pub has_spare : Chart → Flows → ℕ → Bool
has_spare C f k = C.barred k || int_lt (f k) (C.price k)

-- open moves at the flows f: forward along feeds that have room, backward along all
abbrev pub open_moves : Chart → Flows → Map Move
open_moves C f = moves C (has_spare C f)

-- they lead from source to sink
abbrev pub UnlimitedWay : Chart → Type 0
UnlimitedWay C = Leads (unlimited_moves C) C.source C.sink
