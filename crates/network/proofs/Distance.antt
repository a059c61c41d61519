-- Distances from a step, by the fewest arcs.
use Rattle.std.proofs.Common.{◌≡◌, ℕ, zero, suc, ◌+◌, ◌≤◌, Bool, true, cond, ◌⊎◌, List, [], ◌∷◌, ◌++◌, length, refl, ap, ◌∙◌, inl, inr, arith, length-append}
use Rattle.std.proofs.lemmas.Bool.{cases_Bool}
use Rattle.network.specs.Walk.{Map, Walk, Leads}
use Rattle.network.proofs.Walks.{walk_push}
use Rattle.network.proofs.Reach.{Finite, Near, within, decides_within, decides_reached}

-- the least number that passes, n where none below n does
least : ℕ → (ℕ → Bool) → ℕ
least zero t = 0
least (suc n) t = cond (t 0) 0 (suc (least n (λ k. t (suc k))))

least_most : (n : ℕ) (t : ℕ → Bool) → least n t ≤ n
unfolding least
least_most zero t = omega arith
least_most (suc n) t = let h = least_most n (λ k. t (suc k)) in grind arith

least_at_most : (n k : ℕ) (t : ℕ → Bool) → t k ≡ true → least n t ≤ k
unfolding least
least_at_most zero k t e = omega arith
least_at_most (suc n) zero t e = rw e (omega arith)
least_at_most (suc n) (suc k) t e = let h = least_at_most n k (λ i. t (suc i)) e in grind arith

least_passes : (n : ℕ) (t : ℕ → Bool) → (least n t ≡ n) ⊎ (t (least n t) ≡ true)
unfolding least
least_passes zero t = inl refl
least_passes (suc n) t =
    elim (cases_Bool (t 0)) [
      | inl e ↦ rw e (inr e)
      | inr e ↦ rw e (elim (least_passes n (λ k. t (suc k))) [ inl h ↦ inl (ap suc h) | inr h ↦ inr h ])
    ]

module _ {M : Map ℕ} {n s : ℕ} (F : Finite M n s) where
  -- n where v is not reached
  pub dist : ℕ → ℕ
  dist v = least n (λ k. within F k s v)

  pub dist_most : (v : ℕ) → dist v ≤ n
  unfolding dist
  dist_most v = least_most n (λ k. within F k s v)

  pub dist_at_most : (w : List ℕ) (v : ℕ) → Walk M s w v → dist v ≤ length w
  unfolding dist Near
  dist_at_most w v h = least_at_most n (length w) (λ k. within F k s v) ((decides_within F (length w) s v).1 (w, h, omega arith))

  pub dist_start : dist s ≡ 0
  dist_start = omega (arith, dist_at_most [] s refl)

  as_long : (v : ℕ) → within F (dist v) s v ≡ true → (w : List ℕ) × Walk M s w v × (length w ≡ dist v)
  unfolding Near
  as_long v e =
      let r = (decides_within F (dist v) s v).0 e in
      (r.0, r.1, omega (arith, r.2, dist_at_most r.0 v r.1))

  pub dist_cases : (v : ℕ) → (dist v ≡ n) ⊎ ((w : List ℕ) × Walk M s w v × (length w ≡ dist v))
  unfolding dist
  dist_cases v = elim (least_passes n (λ k. within F k s v)) [ inl e ↦ inl e | inr e ↦ inr (as_long v e) ]

  -- where v is reached, some walk to it is as long as its distance
  pub dist_walk : (v : ℕ) → Leads M s v → (w : List ℕ) × Walk M s w v × (length w ≡ dist v)
  dist_walk v r =
      elim (dist_cases v) [
        | inl e ↦ as_long v (ap (λ k. within F k s v) e ∙ (decides_reached F v).1 r)
        | inr h ↦ h
      ]

  pub dist_more : (j : ℕ) → M.passable j ≡ true → dist (M.to j) ≤ dist (M.from j) + 1
  dist_more j p =
      elim (dist_cases (M.from j)) [
        | inl e ↦ omega (arith, dist_most (M.to j))
        | inr r ↦ (let h = dist_at_most (r.0 ++ (j ∷ [])) (M.to j) (walk_push M s r.0 j r.1 p) in
            let l : length (r.0 ++ (j ∷ [])) ≡ dist (M.from j) + 1 = simp length-append (omega (arith, r.2)) in
            omega arith)
      ]
