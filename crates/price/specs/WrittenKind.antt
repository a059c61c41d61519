-- Prices as whole numbers, and totals as decimal digits.
use Rattle.std.specs.Prelude.{◌≡◌, ℕ, true, List, pos, Some, None, decimal, Option, unsigned_abs}
use Rattle.price.specs.Kind.{PriceKind}

-- p is a price that means n
pub record IsPriceOf {P : Type 0} (K : PriceKind P) (n : ℕ) (p : P) : Type 0 where
  pub price : K.price p ≡ true
  pub means : K.means p ≡ pos n

-- a price that means n, or none where there is none
abbrev pub PriceOf : {P : Type 0} → PriceKind P → ℕ → Option P → Type 0
PriceOf K n None = (p : _) → IsPriceOf K n p → ⊥
PriceOf K n (Some p) = IsPriceOf K n p

-- the decimal digits of a total, its sign left out
abbrev pub digits_of : {P : Type 0} → PriceKind P → P → List ℕ
digits_of K x = decimal (unsigned_abs (K.means x))
