-- What tests of order say of meanings.
use Rattle.std.proofs.Common.{◌≡◌, Some, Option, ℤ, ◌≤ℤ◌, Ordering, Decides, rules}
use Rattle.std.specs.Ordering.{int_cmp, partial_le}

pub at_most : {P : Type 0} (means : P → ℤ) (C : P → P → Option Ordering) (R : P → P → Ordering) → ((x y : P) → C x y ≡ Some (R x y)) → ((x y : P) → R x y ≡ int_cmp (means x) (means y))
    → (x y : P) → Decides (partial_le C x y) (means x ≤ℤ means y)
at_most means C R agrees order x y = rw (agrees x y, order x y) (search rules)
