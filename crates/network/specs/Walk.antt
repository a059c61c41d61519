-- Maps of steps (directed graphs), and walks on them.
use Rattle.std.specs.Prelude.{◌≡◌, ℕ, Bool, true, ◌⊎◌, List, [], ◌∷◌}

-- arcs, each with the step it leaves, the step it ends at, and whether one may pass
pub record Map (A : Type 0) : Type 0 where
  pub from : A → ℕ
  pub to : A → ℕ
  pub passable : A → Bool

-- the arcs lead from step a to step b: each is passable and leaves the step where the one before ended (a walk; steps
-- and arcs may come again)
abbrev pub Walk : {A : Type 0} → Map A → ℕ → List A → ℕ → Type 0
Walk M a [] b = a ≡ b
Walk M a (x ∷ w) b = (M.passable x ≡ true) × (M.from x ≡ a) × Walk M (M.to x) w b

-- passable arcs lead from a to b (b is reachable from a)
abbrev pub Leads : {A : Type 0} → Map A → ℕ → ℕ → Type 0
Leads {A} M a b = (w : List A) × Walk M a w b

-- the steps that the arcs meet from step a on, in their order
abbrev pub met : {A : Type 0} → Map A → ℕ → List A → List ℕ
met M a [] = a ∷ []
met M a (x ∷ w) = a ∷ met M (M.to x) w

-- x stands in the list
abbrev pub In : {A : Type 0} → A → List A → Type 0
In x [] = ⊥
In x (y ∷ ys) = (y ≡ x) ⊎ In x ys

-- no number stands twice
abbrev pub Distinct : List ℕ → Type 0
Distinct [] = Unit {0}
Distinct (v ∷ vs) = (In v vs → ⊥) × Distinct vs

-- a walk that meets no step twice (a path)
abbrev pub Road : {A : Type 0} → Map A → ℕ → List A → ℕ → Type 0
Road M a w b = Walk M a w b × Distinct (met M a w)

-- the same arcs, each passed against its direction
abbrev pub reversed : {A : Type 0} → Map A → Map A
reversed M = record { from = M.to; to = M.from; passable = M.passable }
