-- Ranked prices: a total means its rank times 2^44, and its size in MiB.
use Rattle.std.specs.Prelude.{◌≡◌, ℕ, ◌/◌, ◌%◌, ◌^◌, ◌<◌, ◌≤◌, Bool, true, cond, ◌&&◌, List, map, length, ℤ, pos, ◌+ℤ◌, ◌*ℤ◌, neg_ℤ, ◌<ℤ◌, Some, None, sum_by, Option, int_le, nat_le, nat_lt}
use Rattle.std.specs.List.{AllByRecursion}
use Rattle.price.specs.Kind.{PriceKind, reach_of}
use Rattle.price.specs.Sums.{sum_of, sum_ℤ}
use Rattle.kinds.specs.declared.ranked.Ranked.{Ranked}

-- a rank and a size in one number
abbrev pub as_one : ℤ → ℕ → ℤ
as_one rank size = rank *ℤ pos (2 ^ 44) +ℤ pos size

-- rank 15 and 4,294,967,295 MiB
abbrev pub ranked_largest : ℕ
ranked_largest = 263887085633535

-- a size below 2^44, and a number within the reach
abbrev pub ranked_named : Ranked → Bool
ranked_named t = nat_lt t.size (2 ^ 44) && int_le (neg_ℤ (pos (reach_of ranked_largest))) (as_one t.rank t.size) && int_le (as_one t.rank t.size) (pos (reach_of ranked_largest))

abbrev pub ranked_means : Ranked → ℤ
ranked_means t = cond (ranked_named t) (as_one t.rank t.size) (pos (reach_of ranked_largest))

abbrev pub ranked_price : Ranked → Bool
ranked_price t = int_le (pos 0) t.rank && int_le t.rank (pos 15) && nat_le t.size 4294967295

abbrev pub ranked_kind : PriceKind Ranked
ranked_kind = record { means = ranked_means; largest = ranked_largest; named = ranked_named; price = ranked_price }

-- a whole number's rank and size are its quotient and its remainder by 2^44; it is a price where both are in range
abbrev pub ranked_of_whole : ℕ → Option Ranked
ranked_of_whole n = cond (nat_le (n / 2 ^ 44) 15 && nat_le (n % 2 ^ 44) 4294967295) (Some (record { rank = pos (n / 2 ^ 44); size = n % 2 ^ 44 })) None

abbrev pub ranks : List Ranked → ℤ
ranks ts = sum_ℤ (map (λ t. t.rank) ts)

abbrev pub sizes : List Ranked → ℕ
sizes ts = sum_by (λ t. t.size) ts

-- at most 4,096 prices
pub record Prices (ts : List Ranked) : Type 0 where
  pub few : length ts ≤ 4096
  pub each : AllByRecursion (λ t. ranked_price t ≡ true) ts

-- prices add up to less where their ranks add up to less, and at equal ranks where their sizes do
abbrev pub RanksFirst : Type 0
RanksFirst = (xs ys : List Ranked) → Prices xs → Prices ys
    → (ranks xs <ℤ ranks ys → sum_of ranked_kind xs <ℤ sum_of ranked_kind ys)
    × (ranks xs ≡ ranks ys → sizes xs < sizes ys → sum_of ranked_kind xs <ℤ sum_of ranked_kind ys)
