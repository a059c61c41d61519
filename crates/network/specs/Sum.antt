-- Sums and counts over the numbers below n.
use Rattle.std.specs.Prelude.{ℕ, zero, suc, ◌+◌, Bool, cond, ℤ, pos, ◌+ℤ◌}
use Rattle.network.specs.Chart.{Chart}

-- g 0 + .. + g (n - 1)
abbrev pub sum : ℕ → (ℕ → ℤ) → ℤ
sum zero g = pos 0
sum (suc n) g = sum n g +ℤ g n

-- how many of the numbers 0 to n - 1 pass
abbrev pub how_many : ℕ → (ℕ → Bool) → ℕ
how_many zero t = 0
how_many (suc n) t = how_many n t + cond (t n) 1 0

-- g k added up over the feeds k that pass
abbrev pub sum_over : Chart → (ℕ → Bool) → (ℕ → ℤ) → ℤ
sum_over C t g = sum C.count (λ k. cond (t k) (g k) (pos 0))
