-- Arcs inside the steps, by what the code tests.
use Rattle.std.proofs.Common.{◌≡◌, ℕ, ◌<◌, true, arith}
use Rattle.std.proofs.lemmas.Bool.Decides.{nat_tests}
use Rattle.network.specs.Walk.{Map}
use Rattle.search.specs.Inside.{Step, is_step, inside}

pub step_from : (n v : ℕ) → is_step n v ≡ true → Step n v
step_from n v t = grind (arith, nat_tests)

pub step_is : (n v : ℕ) → Step n v → is_step n v ≡ true
step_is n v s = grind (arith, nat_tests)

module _ (arcs n : ℕ) (M : Map ℕ) (k : ℕ) where
  pub passes : k < arcs → M.passable k ≡ true → Step n (M.to k) → (inside arcs n M).passable k ≡ true
  passes l p s = grind (arith, nat_tests)

  pub below : (inside arcs n M).passable k ≡ true → k < arcs
  below p = grind (arith, nat_tests)

  pub passed : (inside arcs n M).passable k ≡ true → M.passable k ≡ true
  passed p = grind (arith, nat_tests)

  pub ends_inside : (inside arcs n M).passable k ≡ true → Step n (M.to k)
  ends_inside p = grind (arith, nat_tests)
