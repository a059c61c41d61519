-- What a search answers.
use Rattle.std.specs.Prelude.{◌≡◌, ℕ, ◌≤◌, true, ◌↔◌, List, length, Some, None, Option, Ok, Err, Result}
use Rattle.network.specs.Walk.{Map, Walk, Leads, Road as IsRoad}
use Rattle.search.specs.Inside.{Step, inside}
use Rattle.search.specs.Record.{reached}
use Rattle.search.specs.declared.NoRoad.{NoRoad}
use Rattle.search.specs.declared.NoRoad.TheVariants.{OutOfRange, Missing}
use Rattle.search.specs.declared.reach.Reach.{Reach}
use Rattle.search.specs.declared.road.Road.{Road}

-- the arcs lead from a to b and meet no step twice, and no walk from a to b has fewer (a shortest path)
pub record ShortestRoad (M : Map ℕ) (a : ℕ) (w : List ℕ) (b : ℕ) : Type 0 where
  pub road : IsRoad M a w b
  pub fewest : (u : List ℕ) → Walk M a u b → length w ≤ length u

-- the record tells exactly the steps to which passable arcs lead from a
abbrev pub Tells : Map ℕ → ℕ → Reach → Type 0
Tells M a r = (v : ℕ) → (reached r v ≡ true) ↔ Leads M a v

-- what a search takes: at most 1,024 steps and 8,192 arcs, and one of the steps to start from
pub record Takes (arcs n s : ℕ) : Type 0 where
  pub few_arcs : arcs ≤ 8192
  pub few_steps : n ≤ 1024
  pub start : Step n s

-- the question for a road from step s to step g of the steps 1 to n
abbrev pub Answers : ℕ → Map ℕ → ℕ → ℕ → ℕ → Result Road NoRoad → Type 0
Answers arcs M n s g (Ok r) = Takes arcs n s × Step n g × ShortestRoad (inside arcs n M) s r g
Answers arcs M n s g (Err OutOfRange) = Takes arcs n s → Step n g → ⊥
Answers arcs M n s g (Err (Missing r)) = Takes arcs n s × Step n g × (Leads (inside arcs n M) s g → ⊥) × Tells (inside arcs n M) s r

-- the question for all steps that are reached from step s
abbrev pub Explores : ℕ → Map ℕ → ℕ → ℕ → Option Reach → Type 0
Explores arcs M n s None = Takes arcs n s → ⊥
Explores arcs M n s (Some r) = Takes arcs n s × Tells (inside arcs n M) s r
