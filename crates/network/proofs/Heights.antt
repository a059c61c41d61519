-- Walks under a height that rises by at most one with each arc, as a distance does.
use Rattle.std.proofs.Common.{◌≡◌, ℕ, ◌+◌, ◌≤◌, true, List, [], ◌∷◌, length, ap, subst, inl, inr, arith}
use Rattle.network.specs.Walk.{Map, Walk, met, In, Distinct}

module _ {A : Type 0} (M : Map A) (d : ℕ → ℕ) (slow : (x : A) → M.passable x ≡ true → d (M.to x) ≤ d (M.from x) + 1) where
  pub rise : (a : ℕ) (w : List A) (b : ℕ) → Walk M a w b → d b ≤ d a + length w
  rise a [] b h = rw h (omega arith)
  rise a (x ∷ w) b h =
      let ih = rise (M.to x) w b h.2 in
      let s = slow x h.0 in
      let e = ap d h.1 in
      omega arith

  -- in a walk that rises as much as it can, each arc rises by one
  pub each_rises : (a : ℕ) (w : List A) (b : ℕ) → Walk M a w b → d b ≡ d a + length w → (x : A) → In x w → d (M.to x) ≡ d (M.from x) + 1
  each_rises a [] b h q x i = absurd i
  each_rises a (y ∷ w) b h q x i =
      let r = rise (M.to y) w b h.2 in
      let s = slow y h.0 in
      let e = ap d h.1 in
      elim i [
        | inl p ↦ (let z : d (M.to y) ≡ d (M.from y) + 1 = omega arith in subst (λ t. d (M.to t) ≡ d (M.from t) + 1) p z)
        | inr j ↦ each_rises (M.to y) w b h.2 (omega arith) x j
      ]

  met_above : (a : ℕ) (w : List A) (b : ℕ) → Walk M a w b → d b ≡ d a + length w → (v : ℕ) → In v (met M a w) → d a ≤ d v
  met_above a [] b h q v (inl e) = rw e (omega arith)
  met_above a [] b h q v (inr i) = absurd i
  met_above a (y ∷ w) b h q v (inl e) = rw e (omega arith)
  met_above a (y ∷ w) b h q v (inr i) =
      let r = rise (M.to y) w b h.2 in
      let s = slow y h.0 in
      let e = ap d h.1 in
      let m = met_above (M.to y) w b h.2 (omega arith) v i in
      omega arith

  -- so it meets no step twice
  pub rising_distinct : (a : ℕ) (w : List A) (b : ℕ) → Walk M a w b → d b ≡ d a + length w → Distinct (met M a w)
  rising_distinct a [] b h q = ((λ i. i), tt)
  rising_distinct a (y ∷ w) b h q =
      let r = rise (M.to y) w b h.2 in
      let s = slow y h.0 in
      let e = ap d h.1 in
      let q' : d b ≡ d (M.to y) + length w = omega arith in (
        (λ i. let m = met_above (M.to y) w b h.2 q' a i in omega arith),
        rising_distinct (M.to y) w b h.2 q',
      )
