-- Flows, and the border that they close.
use Rattle.std.specs.Prelude.{◌≡◌, ℕ, ◌<◌, ◌≤◌, true, false, ◌↔◌, ℤ, ◌-ℤ◌, neg_ℤ, ◌≤ℤ◌, ◌≢◌, nat_eq}
use Rattle.network.specs.Chart.{Chart, Step, Sides, Flows}
use Rattle.network.specs.Walk.{Leads}
use Rattle.network.specs.Sum.{sum_over}
use Rattle.network.specs.Border.{Allowed, cost, early_steps}
use Rattle.network.specs.Move.{open_moves}

abbrev pub outflow : Chart → Flows → ℕ → ℤ
outflow C f v = sum_over C (λ k. nat_eq (C.from k) v) f

abbrev pub inflow : Chart → Flows → ℕ → ℤ
inflow C f v = sum_over C (λ k. nat_eq (C.to k) v) f

-- at each step but source and sink as much flows in as out (conservation)
abbrev pub Conserved : Chart → Flows → Type 0
Conserved C f = (v : ℕ) → Step C v → (v ≢ C.source) → (v ≢ C.sink) → inflow C f v ≡ outflow C f v

-- no unbarred feed carries more than its price; a flow has no lower limit
abbrev pub WithinPrices : Chart → Flows → Type 0
WithinPrices C f = (k : ℕ) → k < C.count → C.barred k ≡ false → f k ≤ℤ C.price k

-- a feasible flow, where arcs have no lower bounds
pub record Flow (C : Chart) (f : Flows) : Type 0 where
  pub conserved : Conserved C f
  pub within_prices : WithinPrices C f

-- z is at most b, on either side of 0
abbrev pub Within : ℤ → ℤ → Type 0
Within b z = (neg_ℤ b ≤ℤ z) × (z ≤ℤ b)

-- what leaves the source, less what comes back to it (value of the flow)
abbrev pub value : Chart → Flows → ℤ
value C f = outflow C f C.source -ℤ inflow C f C.source

-- open moves lead from the source to step v (reachable in the residual network)
abbrev pub Reached : Chart → Flows → ℕ → Type 0
Reached C f v = Leads (open_moves C f) C.source v

-- the early steps are exactly those that open moves reach, and the sink is none of them
pub record Closed (C : Chart) (f : Flows) (early : Sides) : Type 0 where
  pub sink_apart : Reached C f C.sink → ⊥
  pub early_reached : (v : ℕ) → Step C v → (early v ≡ true) ↔ Reached C f v

abbrev pub CanClose : Chart → Flows → Type 0
CanClose C f = (early : Sides) × Closed C f early

-- an allowed border that costs the value: none costs less, and it lies inside every other that costs the same
pub record Cheapest (C : Chart) (f : Flows) (early : Sides) : Type 0 where
  pub allowed : Allowed C early
  pub cost_is_value : cost C early ≡ value C f
  pub no_cheaper : (other : Sides) → Allowed C other → cost C early ≤ℤ cost C other
  pub inside : (other : Sides) → Allowed C other → cost C other ≡ cost C early
      → (v : ℕ) → Step C v → early v ≡ true → other v ≡ true
  pub fewest : (other : Sides) → Allowed C other → cost C other ≡ cost C early
      → early_steps C early ≤ early_steps C other
