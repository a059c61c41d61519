-- The five conditions by which a reader checks a border and its flows (a certificate of optimality).
use Rattle.std.specs.Prelude.{◌≡◌, ℕ, ◌<◌, true, false, ◌⊎◌, ◌==◌}
use Rattle.network.specs.Chart.{Chart, Step, Sides, Flows}
use Rattle.network.specs.Border.{kept, NoneBack}
use Rattle.network.specs.Flow.{Conserved, WithinPrices}

-- sides give each step v a byte `side v`: 1 early, 2 late

abbrev pub early_by : (ℕ → ℕ) → Sides
early_by side v = side v == 1

-- each side is 1 or 2, the source's 1 and the sink's 2
pub record SidesFit (C : Chart) (side : ℕ → ℕ) : Type 0 where
  pub one_or_two : (v : ℕ) → Step C v → (side v ≡ 1) ⊎ (side v ≡ 2)
  pub source_early : side C.source ≡ 1
  pub sink_late : side C.sink ≡ 2

-- each kept feed is unbarred, and its flow equals its price
abbrev pub KeptFull : Chart → Flows → Sides → Type 0
KeptFull C f early = (k : ℕ) → k < C.count → kept C early k ≡ true → (C.barred k ≡ false) × (f k ≡ C.price k)

pub record Audited (C : Chart) (f : Flows) (side : ℕ → ℕ) : Type 0 where
  pub sides_fit : SidesFit C side
  pub none_back : NoneBack C (early_by side)
  pub conserved : Conserved C f
  pub within_prices : WithinPrices C f
  pub kept_full : KeptFull C f (early_by side)
