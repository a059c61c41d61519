-- Ways (walks from source to sink), borders (s-t cuts), and how ways cross them.
use Rattle.std.specs.Prelude.{◌≡◌, ℕ, suc, ◌+◌, ◌<◌, ◌≤◌, Bool, true, false, cond, not, ◌&&◌, ◌||◌, ◌⊎◌, List, [], ◌∷◌, ℤ, ◌≤ℤ◌, nat_lt}
use Rattle.network.specs.Chart.{Chart, Step, Sides}
use Rattle.network.specs.Walk.{Map, Walk, met, In}
use Rattle.network.specs.Sum.{sum_over, how_many}

-- every feed can be passed from its start to its end
abbrev pub feeds_forward : Chart → Map ℕ
feeds_forward C = record { from = C.from; to = C.to; passable = λ k. nat_lt k C.count }

-- a way: feeds that lead from source to sink (a directed walk; steps and feeds may come again)
abbrev pub Way : Chart → List ℕ → Type 0
Way C w = Walk (feeds_forward C) C.source w C.sink

-- some way meets step v
abbrev pub OnWay : Chart → ℕ → Type 0
OnWay C v = (w : List ℕ) × Way C w × In v (met (feeds_forward C) C.source w)

-- no step is idle (each node lies on some walk from source to sink)
abbrev pub AllOnWays : Chart → Type 0
AllOnWays C = (v : ℕ) → Step C v → OnWay C v

-- a border: sides with the source early and the sink late (an s-t cut)
abbrev pub Border : Chart → Sides → Type 0
Border C early = (early C.source ≡ true) × (early C.sink ≡ false)

-- from early to late: the picture is stored (forward arc of the cut)
abbrev pub kept : Chart → Sides → ℕ → Bool
kept C early k = early (C.from k) && not (early (C.to k))

-- from late to early (backward arc of the cut)
abbrev pub runs_back : Chart → Sides → ℕ → Bool
runs_back C early k = not (early (C.from k)) && early (C.to k)

-- its ends have different sides
abbrev pub crosses : Chart → Sides → ℕ → Bool
crosses C early k = kept C early k || runs_back C early k

-- at how many of its feeds a way crosses the border; a feed that comes twice is counted twice
abbrev pub crossings : Chart → Sides → List ℕ → ℕ
crossings C early [] = 0
crossings C early (k ∷ w) = cond (crosses C early k) 1 0 + crossings C early w

-- the prices of the kept feeds added up (capacity of the cut)
abbrev pub cost : Chart → Sides → ℤ
cost C early = sum_over C (kept C early) C.price

-- how many of the steps 1 to n are early
abbrev pub early_steps : Chart → Sides → ℕ
early_steps C early = how_many C.steps (λ i. early (suc i))

-- Borders by their ways, as owners are promised

abbrev pub CrossedOnce : Chart → Sides → Type 0
CrossedOnce C early = (w : List ℕ) → Way C w → crossings C early w ≡ 1

abbrev pub CrossedUnbarred : Chart → Sides → Type 0
CrossedUnbarred C early = (w : List ℕ) → Way C w → (k : ℕ) → In k w → crosses C early k ≡ true → C.barred k ≡ false

-- every way crosses the border exactly once, at an unbarred feed
pub record Proper (C : Chart) (early : Sides) : Type 0 where
  pub border : Border C early
  pub once : CrossedOnce C early
  pub unbarred : CrossedUnbarred C early

-- Borders by their feeds, as can be looked up in a chart

abbrev pub NoneBack : Chart → Sides → Type 0
NoneBack C early = (k : ℕ) → k < C.count → runs_back C early k ≡ false

abbrev pub KeptUnbarred : Chart → Sides → Type 0
KeptUnbarred C early = (k : ℕ) → k < C.count → kept C early k ≡ true → C.barred k ≡ false

-- no feed runs back, and no kept feed is barred (a cut of finite capacity, were barred feeds and feeds taken backward
-- given infinite ones)
pub record Allowed (C : Chart) (early : Sides) : Type 0 where
  pub border : Border C early
  pub none_back : NoneBack C early
  pub kept_unbarred : KeptUnbarred C early

-- each border has a feed that runs back or keeps a barred feed
abbrev pub NoneAllowed : Chart → Type 0
NoneAllowed C = (early : Sides) → Border C early
    → (k : ℕ) × (k < C.count) × ((runs_back C early k ≡ true) ⊎ ((kept C early k ≡ true) × (C.barred k ≡ true)))

-- each border that every way crosses exactly once keeps a barred feed
abbrev pub AlwaysBarred : Chart → Type 0
AlwaysBarred C = (early : Sides) → Border C early → CrossedOnce C early
    → (k : ℕ) × (k < C.count) × (kept C early k ≡ true) × (C.barred k ≡ true)

-- the border of a closed book: no proper border costs less, and none that costs the same has fewer early steps (the
-- minimum cut nearest to the source)
pub record Best (C : Chart) (early : Sides) : Type 0 where
  pub proper : Proper C early
  pub cheapest : (other : Sides) → Proper C other → cost C early ≤ℤ cost C other
  pub fewest : (other : Sides) → Proper C other → cost C other ≡ cost C early
      → early_steps C early ≤ early_steps C other
