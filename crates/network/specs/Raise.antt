-- Raising the flows along open ways (augmenting paths).
use Rattle.std.specs.Prelude.{◌≡◌, ℕ, suc, ◌<◌, ◌≤◌, false, cond, List, [], ◌∷◌, length, ℤ, pos, ◌+ℤ◌, ◌-ℤ◌, neg_ℤ, ◌≤ℤ◌, ◌==◌}
use Rattle.network.specs.Chart.{Chart, Flows}
use Rattle.network.specs.Walk.{In, Road}
use Rattle.network.specs.Move.{Move, forward, backward, move_feed, open_moves}

-- from source to sink by open moves, meeting no step twice (an augmenting path)
abbrev pub OpenWay : Chart → Flows → List Move → Type 0
OpenWay C f w = Road (open_moves C f) C.source w C.sink

-- no open way has fewer moves
abbrev pub Shortest : Chart → Flows → List Move → Type 0
Shortest C f w = (u : List Move) → OpenWay C f u → length w ≤ length u

abbrev pub OpenWayLeft : Chart → Flows → Type 0
OpenWayLeft C f = (w : List Move) × OpenWay C f w

abbrev pub ShortestLeft : Chart → Flows → Type 0
ShortestLeft C f = (w : List Move) × OpenWay C f w × Shortest C f w

-- by how much an unbarred feed's flow can grow (residual capacity); a barred feed has no limit
abbrev pub spare : Chart → Flows → ℕ → ℤ
spare C f k = C.price k -ℤ f k

-- a is the least spare of the unbarred feeds that the moves pass forward (bottleneck)
pub record LeastSpare (C : Chart) (f : Flows) (w : List Move) (a : ℤ) : Type 0 where
  pub at_most : (k : ℕ) → In (forward k) w → C.barred k ≡ false → a ≤ℤ spare C f k
  pub one_is : (k : ℕ) × In (forward k) w × (C.barred k ≡ false) × (a ≡ spare C f k)

-- what a move does to its feed's flow when a is moved along it
abbrev pub change : ℤ → Move → ℤ
change a (forward k) = a
change a (backward k) = neg_ℤ a

-- what the moves together do to feed k's flow
abbrev pub carried : ℤ → List Move → Flows
carried a [] k = pos 0
carried a (x ∷ w) k = cond (move_feed x == k) (change a x) (pos 0) +ℤ carried a w k

-- the flows after a was added to each feed moved forward and taken from each moved backward
abbrev pub along : ℤ → List Move → Flows → Flows
along a w f k = f k +ℤ carried a w k

-- one raise turns the flows f into g: along one shortest open way, by its least spare a (augmentation)
pub record Raise (C : Chart) (f : Flows) (a : ℤ) (g : Flows) : Type 0 where
  pub way : List Move
  pub is_open : OpenWay C f way
  pub shortest : Shortest C f way
  pub least : LeastSpare C f way a
  pub flows : (k : ℕ) → k < C.count → g k ≡ along a way f k

-- n raises, one after another from zero flows on, lead to the flows f
pub data Raises (C : Chart) : ℕ → Flows → Type 0 where
  begun : {f : Flows} → ((k : ℕ) → k < C.count → f k ≡ pos 0) → Raises C 0 f
  raised : {n : ℕ} {f g : Flows} {a : ℤ} → Raises C n f → Raise C f a g → Raises C (suc n) g

-- their amounts added up
abbrev pub total_raised : {C : Chart} {n : ℕ} {f : Flows} → Raises C n f → ℤ
total_raised (begun z) = pos 0
total_raised (raised {a = a} r s) = total_raised r +ℤ a
