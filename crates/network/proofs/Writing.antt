-- Writing a list of flows, one entry for each move, is the raise.
use Rattle.std.proofs.Common.{◌≡◌, ℕ, ◌<◌, cond, eqb, List, [], ◌∷◌, length, get_or, set, ℤ, pos, ◌+ℤ◌, sym, refl, inl, inr, arith, length-set, get_or-set_other, get_or-set_same}
use Rattle.std.proofs.lemmas.Int.{ints}
use Rattle.std.proofs.lemmas.Bool.{cases_eq, eq-eqb, ne_eqb}
use Rattle.network.specs.Move.{move_feed}
use Rattle.network.specs.Raise.{change}
use Rattle.network.specs.Laws.{WrittenIsAlong}

-- one entry
put : (fs : List ℤ) (j : ℕ) (z : ℤ) → j < length fs → (k : ℕ) → get_or (set fs j (get_or fs j (pos 0) +ℤ z)) k (pos 0) ≡ get_or fs k (pos 0) +ℤ cond (eqb j k) z (pos 0)
put fs j z l k =
    elim (cases_eq j k) [
      | inl q ↦ rw (← q, eq-eqb j j refl, get_or-set_same)
      | inr q ↦ (let n : k ≡ j → ⊥ = λ e. q (sym e) in rw (ne_eqb j k q, get_or-set_other) (omega (arith, ints)))
    ]

pub written_is_along : WrittenIsAlong
written_is_along a [] fs h k = omega (arith, ints)
written_is_along a (x ∷ w) fs h k =
    let next : List ℤ = set fs (move_feed x) (get_or fs (move_feed x) (pos 0) +ℤ change a x) in
    let ih = written_is_along a w next (λ y i. simp length-set (h y (inr i))) k in
    let p = put fs (move_feed x) (change a x) (h x (inl refl)) k in
    omega (arith, ints)
