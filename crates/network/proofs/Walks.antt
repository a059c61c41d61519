-- Walks joined, cut and reversed; what holds of their arcs and the steps that they meet.
use Rattle.std.proofs.Common.{◌≡◌, ℕ, true, false, List, [], ◌∷◌, ◌++◌, sym, refl, ap, ◌∙◌, subst, inl, inr, arith}
use Rattle.std.proofs.lemmas.Bool.{cases_Bool}
use Rattle.network.specs.Chart.{Sides}
use Rattle.network.specs.Walk.{Map, Walk, Leads, met, In, reversed}

module _ {A : Type 0} (M : Map A) where
  pub walk_join : (a : ℕ) (u : List A) (b : ℕ) (w : List A) (c : ℕ) → Walk M a u b → Walk M b w c → Walk M a (u ++ w) c
  walk_join a [] b w c h k = subst (λ x. Walk M x w c) (sym h) k
  walk_join a (x ∷ u) b w c h k = (h.0, h.1, walk_join (M.to x) u b w c h.2 k)

  pub walk_push : (a : ℕ) (u : List A) (x : A) → Walk M a u (M.from x) → M.passable x ≡ true → Walk M a (u ++ (x ∷ [])) (M.to x)
  walk_push a u x h p = walk_join a u (M.from x) (x ∷ []) (M.to x) h (p, refl, refl)

  pub walk_passable : (a : ℕ) (w : List A) (b : ℕ) → Walk M a w b → (x : A) → In x w → M.passable x ≡ true
  walk_passable a [] b h x i = absurd i
  walk_passable a (y ∷ w) b h x (inl e) = subst (λ z. M.passable z ≡ true) e h.0
  walk_passable a (y ∷ w) b h x (inr i) = walk_passable (M.to y) w b h.2 x i

  pub met_first : (a : ℕ) (w : List A) → In a (met M a w)
  met_first a [] = inl refl
  met_first a (x ∷ w) = inl refl

  -- both ends of each arc are met
  pub met_ends : (a : ℕ) (w : List A) (b : ℕ) → Walk M a w b → (x : A) → In x w → In (M.from x) (met M a w) × In (M.to x) (met M a w)
  met_ends a [] b h x i = absurd i
  met_ends a (y ∷ w) b h x (inl e) = subst (λ z. In (M.from z) (met M a (y ∷ w)) × In (M.to z) (met M a (y ∷ w))) e (inl (sym h.1), inr (met_first (M.to y) w))
  met_ends a (y ∷ w) b h x (inr i) = let r = met_ends (M.to y) w b h.2 x i in (inr r.0, inr r.1)

  -- the step where two walks are joined is met
  pub met_join : (a : ℕ) (u : List A) (b : ℕ) (w : List A) → Walk M a u b → In b (met M a (u ++ w))
  met_join a [] b w h = subst (λ x. In x (met M a w)) h (met_first a w)
  met_join a (x ∷ u) b w h = inr (met_join (M.to x) u b w h.2)

  -- a walk can be cut at each step that it meets
  pub walk_cut : (a : ℕ) (w : List A) (b : ℕ) → Walk M a w b → (v : ℕ) → In v (met M a w) → Leads M a v × Leads M v b
  walk_cut a [] b h v (inl e) = (([], e), ([], sym e ∙ h))
  walk_cut a [] b h v (inr i) = absurd i
  walk_cut a (x ∷ w) b h v (inl e) = (([], e), (x ∷ w, subst (λ y. Walk M y (x ∷ w) b) e h))
  walk_cut a (x ∷ w) b h v (inr i) =
      let r = walk_cut (M.to x) w b h.2 v i in
      ((x ∷ r.0.0, (h.0, h.1, r.0.1)), r.1)

  -- a walk from early to late has an arc from early to late
  pub walk_leaves : (early : Sides) (a : ℕ) (w : List A) (b : ℕ) → Walk M a w b → early a ≡ true → early b ≡ false
      → (x : A) × (M.passable x ≡ true) × (early (M.from x) ≡ true) × (early (M.to x) ≡ false)
  walk_leaves early a [] b h p q = absurd (grind arith)
  walk_leaves early a (x ∷ w) b h p q =
      elim (cases_Bool (early (M.to x))) [
        | inl e ↦ walk_leaves early (M.to x) w b h.2 e q
        | inr e ↦ (x, h.0, ap early h.1 ∙ p, e)
      ]

-- a walk taken backward is a walk on the reversed map
pub leads_back : {A : Type 0} (M : Map A) (a : ℕ) (w : List A) (b : ℕ) → Walk M a w b → Leads (reversed M) b a
leads_back M a [] b h = ([], sym h)
leads_back M a (x ∷ w) b h =
    let r = leads_back M (M.to x) w b h.2 in
    (r.0 ++ (x ∷ []), subst (λ y. Walk (reversed M) b (r.0 ++ (x ∷ [])) y) h.1 (walk_push (reversed M) b r.0 x r.1 h.0))
