-- A road that is read off the parents, from the goal g back to `step`: w are its arcs from there on. Only that code needs
-- this.
use Rattle.std.specs.Prelude.{◌≡◌, ℕ, ◌+◌, ◌≤◌, List, length, Option}
use Rattle.network.specs.Walk.{Map, Walk, met, In, Distinct}
use Rattle.search.specs.Progress.{Known}
use Rattle.search.specs.declared.reach.Parent.{Parent}

pub record Reading (M : Map ℕ) (parents : List (Option Parent)) (d : ℕ → ℕ) (g step : ℕ) (w : List ℕ) : Type 0 where
  pub known : Known parents step
  pub goal_known : Known parents g
  pub walk : Walk M step w g
  pub distinct : Distinct (met M step w)
  pub farther : (v : ℕ) → In v (met M step w) → d step ≤ d v
  pub distances : d step + length w ≡ d g
