-- Charts (networks): steps (nodes) joined by feeds (arcs), each feed with a price (capacity).
use Rattle.std.specs.Prelude.{◌≡◌, ℕ, ◌<◌, ◌≤◌, Bool, ℤ, pos, ◌≤ℤ◌}

pub record Chart : Type 0 where
  -- the steps are 1 to `steps`; source and sink are two of them
  pub steps : ℕ
  pub source : ℕ
  pub sink : ℕ
  -- the feeds are 0 to `count` - 1, as the entries of a sheet are counted: feed 0 was entered first
  pub count : ℕ
  -- feed k runs from step `from k` to step `to k`
  pub from : ℕ → ℕ
  pub to : ℕ → ℕ
  pub price : ℕ → ℤ
  -- the picture of a barred feed must not be stored (an arc that may not be cut)
  pub barred : ℕ → Bool

abbrev pub Step : Chart → ℕ → Type 0
Step C v = (1 ≤ v) × (v ≤ C.steps)

-- source and sink are two steps, every feed runs from a step to a step, and no price is below 0
pub record Fit (C : Chart) : Type 0 where
  pub source_step : Step C C.source
  pub sink_step : Step C C.sink
  pub apart : C.source ≡ C.sink → ⊥
  pub from_step : (k : ℕ) → k < C.count → Step C (C.from k)
  pub to_step : (k : ℕ) → k < C.count → Step C (C.to k)
  pub price_low : (k : ℕ) → k < C.count → pos 0 ≤ℤ C.price k

-- at most 4,096 feeds, none priced above the largest price
pub record Limited (largest : ℕ) (C : Chart) : Type 0 where
  pub few : C.count ≤ 4096
  pub price_high : (k : ℕ) → k < C.count → C.price k ≤ℤ pos largest

-- sides of the steps: `early v` where step v is early, else it is late (a division of the nodes in two)
abbrev pub Sides : Type 0
Sides = ℕ → Bool

-- flows of the feeds: `f k` is feed k's, and may be negative
abbrev pub Flows : Type 0
Flows = ℕ → ℤ
