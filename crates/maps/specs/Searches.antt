-- What the searches on a chart answer: on any chart, by the rule of the search; on a fit one, in the chart's own words.
use Rattle.std.specs.Prelude.{◌≡◌, ℕ, ◌*◌, ◌≤◌, true, ◌↔◌, map, Some, None, Option, Ok, Err, Result}
use Rattle.network.specs.Chart.{Chart, Fit, Flows}
use Rattle.network.specs.Walk.{Map, Walk, Leads, reversed}
use Rattle.network.specs.Border.{feeds_forward}
use Rattle.network.specs.Move.{unlimited_moves, UnlimitedWay}
use Rattle.network.specs.Flow.{Closed}
use Rattle.network.specs.Raise.{OpenWay, Shortest}
use Rattle.network.specs.Arc.{move_of}
use Rattle.search.specs.Answers.{Answers, Explores}
use Rattle.search.specs.Record.{reached}
use Rattle.search.specs.declared.NoRoad.{NoRoad}
use Rattle.search.specs.declared.NoRoad.TheVariants.{OutOfRange, Missing}
use Rattle.search.specs.declared.reach.Reach.{Reach}
use Rattle.search.specs.declared.road.Road.{Road}
use Rattle.maps.specs.Graphs.{unlimited_arcs, open_arcs}

-- at most 1,024 steps and 4,096 feeds
pub record WithinLimits (C : Chart) : Type 0 where
  pub few_steps : C.steps ≤ 1024
  pub few_feeds : C.count ≤ 4096

-- A road is seen as the numbers of its arcs

-- an open way with the fewest moves; or the steps that are reached are the early side of the border that closes
abbrev pub OpenWayAnswer : Chart → Flows → Result Road NoRoad → Type 0
OpenWayAnswer C f (Ok r) = OpenWay C f (map move_of r) × Shortest C f (map move_of r)
OpenWayAnswer C f (Err OutOfRange) = WithinLimits C → ⊥
OpenWayAnswer C f (Err (Missing r)) = Closed C f (reached r)

-- moves without limit that lead from source to sink; or there are none
abbrev pub UnlimitedWayAnswer : Chart → Result Road NoRoad → Type 0
UnlimitedWayAnswer C (Ok r) = Walk (unlimited_moves C) C.source (map move_of r) C.sink
UnlimitedWayAnswer C (Err OutOfRange) = WithinLimits C → ⊥
UnlimitedWayAnswer C (Err (Missing r)) = UnlimitedWay C → ⊥

-- exactly the steps to which the map M of the chart leads from step a
abbrev pub ReachAnswer : Chart → Map ℕ → ℕ → Option Reach → Type 0
ReachAnswer C M a None = WithinLimits C → ⊥
ReachAnswer C M a (Some r) = (v : ℕ) → (reached r v ≡ true) ↔ Leads M a v

-- Each search: what it answers on every chart, and on a fit one

pub record SearchOpenWay (C : Chart) (f : Flows) (r : Result Road NoRoad) : Type 0 where
  pub answer : Answers (2 * C.count) (open_arcs C f) C.steps C.source C.sink r
  pub fit : Fit C → OpenWayAnswer C f r

pub record SearchUnlimitedWay (C : Chart) (r : Result Road NoRoad) : Type 0 where
  pub answer : Answers (2 * C.count) (unlimited_arcs C) C.steps C.source C.sink r
  pub fit : Fit C → UnlimitedWayAnswer C r

pub record SearchFromSource (C : Chart) (r : Option Reach) : Type 0 where
  pub answer : Explores C.count (feeds_forward C) C.steps C.source r
  pub fit : Fit C → ReachAnswer C (feeds_forward C) C.source r

pub record SearchToSink (C : Chart) (r : Option Reach) : Type 0 where
  pub answer : Explores C.count (reversed (feeds_forward C)) C.steps C.sink r
  pub fit : Fit C → ReachAnswer C (reversed (feeds_forward C)) C.sink r
