-- What is proved of charts, borders, flows and raises.
use Rattle.std.specs.Prelude.{◌≡◌, ℕ, ◌*◌, ◌<◌, ◌≤◌, Bool, ◌⊎◌, ◌↔◌, List, [], ◌∷◌, ◌++◌, map, length, get_or, ℤ, pos, ◌+ℤ◌, ◌-ℤ◌, ◌≤ℤ◌, ◌<ℤ◌, slice_index_or}
use Rattle.network.specs.Chart.{Chart, Step, Fit, Limited, Sides, Flows}
use Rattle.network.specs.Walk.{Walk, Leads, Road, In, reversed}
use Rattle.network.specs.Sum.{sum, sum_over}
use Rattle.network.specs.Border.{feeds_forward, OnWay, AllOnWays, Border, kept, runs_back, cost, CrossedOnce, CrossedUnbarred, NoneBack, KeptUnbarred, Allowed, NoneAllowed, AlwaysBarred, Best}
use Rattle.network.specs.Move.{Move, move_feed, has_spare, UnlimitedWay}
use Rattle.network.specs.Flow.{Flow, Within, value, Closed, CanClose, Cheapest}
use Rattle.network.specs.Raise.{OpenWay, Shortest, OpenWayLeft, ShortestLeft, LeastSpare, along, Raises, total_raised}
use Rattle.network.specs.Audit.{early_by, Audited}
use Rattle.network.specs.Arc.{move_of, numbered, AsMoves, written}
use Rattle.network.specs.History.{Told, history, raises_after, served_call, OneMore, Latest}

-- Borders by their ways and by their feeds

-- where no step is idle, every way crosses a border exactly once just where no feed runs back
abbrev pub OnceIsNoneBack : Type 0
OnceIsNoneBack = (C : Chart) → Fit C → AllOnWays C → (early : Sides) → Border C early
    → CrossedOnce C early ↔ NoneBack C early

-- and then every way crosses at an unbarred feed just where no kept feed is barred
abbrev pub UnbarredIsKept : Type 0
UnbarredIsKept = (C : Chart) → Fit C → AllOnWays C → (early : Sides) → Border C early → NoneBack C early
    → CrossedUnbarred C early ↔ KeptUnbarred C early

-- Charts without an allowed border

abbrev pub UnlimitedIsNoneAllowed : Type 0
UnlimitedIsNoneAllowed = (C : Chart) → Fit C → UnlimitedWay C ↔ NoneAllowed C

abbrev pub UnlimitedIsAlwaysBarred : Type 0
UnlimitedIsAlwaysBarred = (C : Chart) → Fit C → AllOnWays C → UnlimitedWay C ↔ AlwaysBarred C

-- Flows and borders (maximum flow, minimum cut)

-- what the kept feeds carry, less what the feeds running back do, is the value
abbrev pub ValueAcross : Type 0
ValueAcross = (C : Chart) → Fit C → (f : Flows) → Flow C f → (early : Sides) → Border C early
    → sum_over C (kept C early) f -ℤ sum_over C (runs_back C early) f ≡ value C f

abbrev pub ValueAtMostCost : Type 0
ValueAtMostCost = (C : Chart) → Fit C → (f : Flows) → Flow C f → (early : Sides) → Allowed C early
    → value C f ≤ℤ cost C early

-- a closed border, by its feeds
abbrev pub ClosedIsCheapest : Type 0
ClosedIsCheapest = (C : Chart) → Fit C → (f : Flows) → Flow C f → (early : Sides) → Closed C f early
    → Cheapest C f early

-- and by its ways
abbrev pub ClosedIsBest : Type 0
ClosedIsBest = (C : Chart) → Fit C → AllOnWays C → (f : Flows) → Flow C f → (early : Sides) → Closed C f early
    → Best C early

-- Raises

-- an open way has a least spare, unless its moves are all without limit
abbrev pub LeastSpareExists : Type 0
LeastSpareExists = (C : Chart) → (UnlimitedWay C → ⊥) → (f : Flows) (w : List Move) → OpenWay C f w
    → (a : ℤ) × LeastSpare C f w a

-- what moving the amount a along the moves w does to a flow f
pub record RaisedWell (C : Chart) (f : Flows) (w : List Move) (a : ℤ) : Type 0 where
  pub positive : pos 0 <ℤ a
  pub flow : Flow C (along a w f)
  pub value_more : value C (along a w f) ≡ value C f +ℤ a

abbrev pub RaiseKeepsFlow : Type 0
RaiseKeepsFlow = (C : Chart) → Fit C → (f : Flows) → Flow C f → (w : List Move) → OpenWay C f w
    → (a : ℤ) → LeastSpare C f w a → RaisedWell C f w a

-- what the flows f are after raises
pub record RaisedFlow (C : Chart) {n : ℕ} {f : Flows} (r : Raises C n f) : Type 0 where
  pub flow : Flow C f
  pub value_is_total : value C f ≡ total_raised r
  pub within_total : (k : ℕ) → k < C.count → Within (total_raised r) (f k)

abbrev pub FlowsWithinTotal : Type 0
FlowsWithinTotal = (C : Chart) → Fit C → (n : ℕ) (f : Flows) (r : Raises C n f) → RaisedFlow C r

abbrev pub FlowsWithinPrices : Type 0
FlowsWithinPrices = (C : Chart) → Fit C → (UnlimitedWay C → ⊥) → (n : ℕ) (f : Flows) → Raises C n f
    → (k : ℕ) → k < C.count → Within (sum C.count C.price) (f k)

abbrev pub FlowsWithinLimit : Type 0
FlowsWithinLimit = (C : Chart) → Fit C → (largest : ℕ) → Limited largest C → (UnlimitedWay C → ⊥)
    → (n : ℕ) (f : Flows) → Raises C n f → (k : ℕ) → k < C.count → Within (pos (4096 * largest)) (f k)

-- either a shortest open way is left or the border can be closed, and never both
abbrev pub RaiseOrClose : Type 0
RaiseOrClose = (C : Chart) → Fit C → (f : Flows)
    → (ShortestLeft C f ⊎ CanClose C f) × (OpenWayLeft C f → CanClose C f → ⊥)

abbrev pub FewRaises : Type 0
FewRaises = (C : Chart) → Fit C → (n : ℕ) (f : Flows) → Raises C n f → n ≤ C.steps * C.count

-- Audits

-- what passes an audit is an allowed border that costs the value, and no allowed border costs less
abbrev pub AuditedIsCheapest : Type 0
AuditedIsCheapest = (C : Chart) → Fit C → (f : Flows) (side : ℕ → ℕ) → Audited C f side
    → Allowed C (early_by side) × (cost C (early_by side) ≡ value C f)
    × ((other : Sides) → Allowed C other → cost C (early_by side) ≤ℤ cost C other)

-- a closed border passes
abbrev pub ClosedIsAudited : Type 0
ClosedIsAudited = (C : Chart) → Fit C → (f : Flows) → Flow C f
    → (side : ℕ → ℕ) → ((v : ℕ) → Step C v → (side v ≡ 1) ⊎ (side v ≡ 2)) → Closed C f (early_by side)
    → Audited C f side

-- What a search over numbered arcs, and flows in a list, serve for

abbrev pub NumberedAreMoves : Type 0
NumberedAreMoves = (C : Chart) (may : ℕ → Bool) → AsMoves C may

-- a road with the fewest numbered arcs is a shortest open way
abbrev pub FewestIsShortest : Type 0
FewestIsShortest = (C : Chart) (f : Flows) (js : List ℕ) → Road (numbered C (has_spare C f)) C.source js C.sink
    → ((u : List ℕ) → Walk (numbered C (has_spare C f)) C.source u C.sink → length js ≤ length u)
    → OpenWay C f (map move_of js) × Shortest C f (map move_of js)

-- a step lies on a way just where feeds lead to it from the source, and reversed feeds from the sink
abbrev pub OnWayIsReached : Type 0
OnWayIsReached = (C : Chart) (v : ℕ)
    → OnWay C v ↔ (Leads (feeds_forward C) C.source v × Leads (reversed (feeds_forward C)) C.sink v)

-- flows written one entry after the other are the flows after the raise
abbrev pub WrittenIsAlong : Type 0
WrittenIsAlong = (a : ℤ) (w : List Move) (fs : List ℤ) → ((x : Move) → In x w → move_feed x < length fs)
    → (k : ℕ) → slice_index_or (written a w fs) k (pos 0) ≡ along a w (λ j. get_or fs j (pos 0)) k

-- Histories

-- each served enter makes one feed more, each served raise counts, begin starts the count anew, a refused call is nothing
abbrev pub CallsCount : Type 0
CallsCount = (n s t r : ℕ) (calls : List Told)
    → OneMore (history n s t calls) (λ x. history n s t (calls ++ (x ∷ []))) (history n s t calls).count
    (λ x. raises_after r (calls ++ (x ∷ []))) (raises_after r calls)

-- a feed's ends come from the enter that made it, its price and bar from the latest served call that sets them
abbrev pub LatestDecides : Type 0
LatestDecides = (n s t : ℕ) (earlier later : List Told)
    → Latest (λ c. history n s t (earlier ++ (served_call c ∷ later))) (history n s t earlier).count later
