-- A kind of prices: what each of its totals means, its largest price, and which totals are prices.
use Rattle.std.specs.Prelude.{◌≡◌, ℕ, ◌*◌, ◌^◌, Bool, true, false, ℤ, pos, neg_ℤ, ◌≤ℤ◌}
use Rattle.std.specs.Int.{int_max, int_min}

-- z lies between minus and plus n
pub record Between (n : ℕ) (z : ℤ) : Type 0 where
  pub low : neg_ℤ (pos n) ≤ℤ z
  pub high : z ≤ℤ pos n

-- z, or the end nearer to it of the numbers from minus n to n
abbrev pub nearest : ℕ → ℤ → ℤ
nearest n z = int_max (neg_ℤ (pos n)) (int_min z (pos n))

-- how far from 0 the totals of a kind lie at most, by its largest price
abbrev pub reach_of : ℕ → ℕ
reach_of largest = 2 ^ 24 * largest

-- totals are plain records: their fields may hold anything
pub record PriceKind (P : Type 0) : Type 0 where
  -- the whole number, perhaps negative, that a total means
  pub means : P → ℤ
  -- what the largest price means
  pub largest : ℕ
  -- the totals whose fields hold what the kind names
  pub named : P → Bool
  -- the totals that are prices
  pub price : P → Bool

abbrev pub reach : {P : Type 0} → PriceKind P → ℕ
reach K = reach_of K.largest

-- how far from 0 a flow may lie: 4,096 times the largest price
abbrev pub flow_limit : {P : Type 0} → PriceKind P → ℕ
flow_limit K = 4096 * K.largest

-- two totals are the same where they mean the same number
abbrev pub Same : {P : Type 0} → PriceKind P → P → P → Type 0
Same K x y = K.means x ≡ K.means y

-- what every kind of prices shows
pub record Sound {P : Type 0} (K : PriceKind P) : Type 0 where
  pub within : (x : P) → Between (reach K) (K.means x)
  -- a total that the kind does not name is read as the upper end of the reach
  pub unnamed : (x : P) → K.named x ≡ false → K.means x ≡ pos (reach K)
  pub price_low : (x : P) → K.price x ≡ true → pos 0 ≤ℤ K.means x
  pub price_high : (x : P) → K.price x ≡ true → K.means x ≤ℤ pos K.largest
