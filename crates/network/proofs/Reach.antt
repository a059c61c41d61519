-- Which steps are reached from a step, on a map of finitely many steps and arcs: it can be decided.
use Rattle.std.proofs.Common.{◌≡◌, ℕ, zero, suc, ◌+◌, ◌-◌, ◌<◌, ◌≤◌, Bool, true, false, not, ◌&&◌, ◌||◌, eqb, ◌⊎◌, List, [], ◌∷◌, ◌++◌, length, Decides, sym, refl, ap, ◌∙◌, subst, inl, inr, add-zero, add-suc, arith, length-append}
use Rattle.std.proofs.lemmas.Bool.{cases_Bool, not-true, not_from_false, and_from, and_parts, both_ways}
use Rattle.std.proofs.lemmas.Bool.Decides.{Decides-below_or, Decides-and, Decides-or, Decides-eqb, Decides-like}
use Rattle.network.specs.Walk.{Map, Walk, Leads}
use Rattle.network.specs.Sum.{how_many}
use Rattle.network.proofs.Walks.{walk_push}
use Rattle.network.proofs.Sums.{how_many_most, how_many_less}

-- whether t holds somewhere below n
pub some : ℕ → (ℕ → Bool) → Bool
some zero t = false
some (suc n) t = t n || some n t

pub decides_some : (n : ℕ) (t : ℕ → Bool) → Decides (some n t) ((j : ℕ) × (j < n) × (t j ≡ true))
unfolding some
decides_some n t = Decides-below_or t (λ j. t j ≡ true) (λ m. some m t) (λ j. ((λ e. e), (λ e. e))) refl (λ _. refl) n

-- the last arc of a walk of more than none
walk_last : (M : Map ℕ) (a i : ℕ) (w : List ℕ) (b : ℕ) → Walk M a (i ∷ w) b
    → (u : List ℕ) × (j : ℕ) × Walk M a u (M.from j) × (M.passable j ≡ true) × (M.to j ≡ b) × (length u ≡ length w)
walk_last M a i [] b h = ([], i, sym h.1, h.0, h.2, refl)
walk_last M a i (k ∷ w) b h =
    let r = walk_last M (M.to i) k w b h.2 in
    (i ∷ r.0, r.1, (h.0, h.1, r.2), r.3, r.4, ap suc r.5)

-- a map of n steps and finitely many arcs, and one of its steps
pub record Finite (M : Map ℕ) (n s : ℕ) : Type 0 where
  pub arcs : ℕ
  pub below : (j : ℕ) → M.passable j ≡ true → j < arcs
  pub start : (1 ≤ s) × (s ≤ n)
  pub ends : (j : ℕ) → M.passable j ≡ true → (1 ≤ M.to j) × (M.to j ≤ n)

module _ {M : Map ℕ} {n s : ℕ} (F : Finite M n s) where
  -- a walk of at most k arcs
  unfoldable pub Near : ℕ → ℕ → ℕ → Type 0
  Near k a b = (w : List ℕ) × Walk M a w b × (length w ≤ k)

  pub within : ℕ → ℕ → ℕ → Bool
  within zero a b = eqb a b
  within (suc k) a b = eqb a b || some F.arcs (λ j. M.passable j && (eqb (M.from j) a && within k (M.to j) b))

  -- one arc more, at the front
  decides_more : (k : ℕ) → ((a b : ℕ) → Decides (within k a b) (Near k a b)) → (a b : ℕ) → Decides (within (suc k) a b) (Near (suc k) a b)
  unfolding within Near
  decides_more k ih a b = Decides-like (within (suc k) a b) there back (Decides-or (eqb a b) (some F.arcs first) (Decides-eqb a b) (decides_some F.arcs first))
    where
      first : ℕ → Bool
      first j = M.passable j && (eqb (M.from j) a && within k (M.to j) b)

      decides_first : (j : ℕ) → Decides (first j) ((M.passable j ≡ true) × ((M.from j ≡ a) × Near k (M.to j) b))
      decides_first j = Decides-and (M.passable j) _ ((λ e. e), (λ e. e)) (Decides-and (eqb (M.from j) a) _ (Decides-eqb (M.from j) a) (ih (M.to j) b))

      there : (a ≡ b) ⊎ ((j : ℕ) × (j < F.arcs) × (first j ≡ true)) → Near (suc k) a b
      there (inl e) = ([], e, omega arith)
      there (inr (j, l, e)) = let r = (decides_first j).0 e in (j ∷ r.1.1.0, (r.0, r.1.0, r.1.1.1), omega (arith, r.1.1.2))

      back : Near (suc k) a b → (a ≡ b) ⊎ ((j : ℕ) × (j < F.arcs) × (first j ≡ true))
      back ([], h, l) = inl h
      back (j ∷ w, h, l) = inr (j, F.below j h.0, (decides_first j).1 (h.0, (h.1, (w, h.2, omega arith))))

  pub decides_within : (k a b : ℕ) → Decides (within k a b) (Near k a b)
  unfolding within Near
  decides_within zero a b = Decides-like (eqb a b) (λ e. ([], e, omega arith)) none (Decides-eqb a b)
    where
      none : (w : List ℕ) × Walk M a w b × (length w ≤ 0) → a ≡ b
      none ([], h, l) = h
      none (x ∷ w, h, l) = absurd (omega arith)
  decides_within (suc k) a b = decides_more k (decides_within k) a b

  -- what is reached at all is reached in n arcs

  reached : ℕ → ℕ → Bool
  reached k i = within k s (suc i)

  -- one arc more reaches no further step
  Settled : ℕ → Type 0
  Settled k = (v : ℕ) → Near (suc k) s v → Near k s v

  settled_more : (k : ℕ) → Settled k → Settled (suc k)
  unfolding Settled Near
  settled_more k h v ([], e, l) = ([], e, omega arith)
  settled_more k h v (i ∷ w, e, l) =
      let r = walk_last M s i w v e in
      let q = h (M.from r.1) (r.0, r.2, omega (arith, r.5)) in
      (q.0 ++ (r.1 ∷ []), subst (λ x. Walk M s (q.0 ++ (r.1 ∷ [])) x) r.4 (walk_push M s q.0 r.1 q.1 r.3), simp length-append (omega (arith, q.2)))

  near_step : (w : List ℕ) (v : ℕ) → Walk M s w v → (1 ≤ v) × (v ≤ n)
  near_step [] v h = subst (λ x. (1 ≤ x) × (x ≤ n)) h F.start
  near_step (i ∷ w) v h = let r = walk_last M s i w v h in subst (λ x. (1 ≤ x) × (x ≤ n)) r.4 (F.ends r.1 r.3)

  within_more : (k v : ℕ) → within k s v ≡ true → within (suc k) s v ≡ true
  unfolding Near
  within_more k v e = let r = (decides_within k s v).0 e in (decides_within (suc k) s v).1 (r.0, r.1, omega (arith, r.2))

  fresh : ℕ → ℕ → Bool
  fresh k i = reached (suc k) i && not (reached k i)

  found_fresh : (k v : ℕ) → Near (suc k) s v → within k s v ≡ false → (i : ℕ) × (i < n) × (fresh k i ≡ true)
  unfolding fresh reached Near
  found_fresh k v q g =
      let st = near_step q.0 v q.1 in
      let e : suc (v - 1) ≡ v = omega arith in
      (v - 1, omega arith, and_from (reached (suc k) (v - 1)) (not (reached k (v - 1))) (ap (within (suc k) s) e ∙ (decides_within (suc k) s v).1 q) (not_from_false (reached k (v - 1)) (ap (within k s) e ∙ g)))

  -- either one arc more reaches no further step, or it reaches more steps
  one_more : (k : ℕ) → Settled k ⊎ (how_many n (reached k) < how_many n (reached (suc k)))
  unfolding Settled fresh reached
  one_more k =
      elim (cases_Bool (some n (fresh k))) [
        | inl e ↦ (let r = (decides_some n (fresh k)).0 e in
            let p = and_parts (reached (suc k) r.0) (not (reached k r.0)) r.2 in
            inr (how_many_less n (reached k) (reached (suc k)) (λ i l. within_more k (suc i)) r.0 r.1 (not-true (reached k r.0) p.1) p.0))
        | inr e ↦ inl (λ v q. elim (cases_Bool (within k s v)) [
          | inl g ↦ (decides_within k s v).0 g
          | inr g ↦ absurd (both_ways (some n (fresh k)) e ((decides_some n (fresh k)).1 (found_fresh k v q g)))
        ])
      ]

  -- either one arc more reaches no further step, or more than k steps are reached in k arcs
  grown : (k : ℕ) → Settled k ⊎ (suc k ≤ how_many n (reached k))
  unfolding reached within
  grown zero =
      let e : s ≡ suc (s - 1) = omega (arith, F.start) in
      inr (omega (arith, how_many_less n (λ _. false) (reached zero) (λ i l h. absurd (both_ways false refl h)) (s - 1) (omega (arith, F.start)) refl ((Decides-eqb s (suc (s - 1))).1 e)))
  grown (suc k) =
      elim (grown k) [
        | inl h ↦ inl (settled_more k h)
        | inr c ↦ elim (one_more k) [ inl h ↦ inl (settled_more k h) | inr d ↦ inr (omega arith) ]
      ]

  settled : (i : ℕ) → Settled (n + i)
  settled zero =
      rw add-zero
      (elim (grown n) [
        | inl h ↦ h
        | inr c ↦ absurd (omega (arith, c, how_many_most n (reached n)))
      ])
  settled (suc i) = rw add-suc (settled_more (n + i) (settled i))

  near_all : (i v : ℕ) → Near (n + i) s v → Near n s v
  unfolding Settled
  near_all zero v h = rw add-zero at h
  near_all (suc i) v h = near_all i v (settled i v (rw add-suc at h))

  pub decides_reached : (v : ℕ) → Decides (within n s v) (Leads M s v)
  unfolding Near
  decides_reached v = Decides-like (within n s v) (λ r. (r.0, r.1)) (λ r. near_all (length r.0) v (r.0, r.1, omega arith)) (decides_within n s v)
