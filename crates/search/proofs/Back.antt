-- A road read back from the goal, one arc after the other.
use Rattle.std.proofs.Common.{◌≡◌, ℕ, Option, Some, None, List, ◌∷◌, subst, arith}
use Rattle.network.specs.Walk.{Map}
use Rattle.search.specs.Record.{parent_of, arc_of}
use Rattle.search.specs.Progress.{Says, LeadsBack}
use Rattle.search.specs.Reading.{Reading}
use Rattle.search.specs.declared.reach.Parent.{Parent}
use Rattle.search.specs.declared.reach.Parent.TheVariants.{Start, Along}

-- how a step that is reached by arc k was reached
pub is_along : (p : Option Parent) (k : ℕ) → arc_of p ≡ Some k → p ≡ Some (Along k)
is_along None k e = cc
is_along (Some Start) k e = cc
is_along (Some (Along j)) k e = cc

-- with one arc more
pub back : {M : Map ℕ} {s : ℕ} {parents : List (Option Parent)} (S : LeadsBack M s parents) (g : ℕ) {step : ℕ} {w : List ℕ} → Reading M parents S.distance g step w
    → {k : ℕ} → parent_of parents step ≡ Some (Along k) → Reading M parents S.distance g (M.from k) (k ∷ w)
back {M} {s} {parents} S g {step} {w} R {k} e =
    let says : Says M s parents S.distance step (Some (Along k)) = subst (Says M s parents S.distance step) e (S.says step) in
    grind arith
