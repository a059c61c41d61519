-- What lists of totals add up to.
use Rattle.std.specs.Prelude.{ℕ, ◌≤◌, List, [], ◌∷◌, map, length, ℤ, pos, ◌+ℤ◌}
use Rattle.std.specs.List.{AllByRecursion}
use Rattle.price.specs.Kind.{Between, PriceKind, flow_limit, nearest}

-- the exact sum
abbrev pub sum_ℤ : List ℤ → ℤ
sum_ℤ [] = pos 0
sum_ℤ (z ∷ zs) = z +ℤ sum_ℤ zs

-- what totals add up to
abbrev pub sum_of : {P : Type 0} → PriceKind P → List P → ℤ
sum_of K xs = sum_ℤ (map K.means xs)

-- numbers added to z in turn, where each sum is held between minus and plus n
abbrev pub held_sum : ℕ → ℤ → List ℤ → ℤ
held_sum n z [] = z
held_sum n z (x ∷ xs) = held_sum n (nearest n (z +ℤ x)) xs

-- at most 4,096 totals, each within the flow limit
pub record Modest {P : Type 0} (K : PriceKind P) (xs : List P) : Type 0 where
  pub few : length xs ≤ 4096
  pub small : AllByRecursion (λ x. Between (flow_limit K) (K.means x)) xs
