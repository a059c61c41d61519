-- A map none of whose arcs leads out of the steps: the search walks on the whole map.
use Rattle.std.proofs.Common.{◌≡◌, ℕ, ◌<◌, true, ◌↔◌, List, [], ◌∷◌}
use Rattle.network.specs.Walk.{Map, Walk, Leads}
use Rattle.search.specs.Inside.{Step, inside}
use Rattle.search.specs.Answers.{ShortestRoad, Tells}
use Rattle.search.specs.declared.reach.Reach.{Reach}
use Rattle.search.proofs.Inner.{passes, passed}

module _ (arcs n : ℕ) (M : Map ℕ) (inward : (k : ℕ) → M.passable k ≡ true → (k < arcs) × Step n (M.to k)) where
  walk_inside : (a : ℕ) (w : List ℕ) (b : ℕ) → Walk M a w b → Walk (inside arcs n M) a w b
  walk_inside a [] b h = h
  walk_inside a (k ∷ w) b (p, from, h) = let s = inward k p in (passes arcs n M k s.0 p s.1, from, walk_inside (M.to k) w b h)

  walk_outside : (a : ℕ) (w : List ℕ) (b : ℕ) → Walk (inside arcs n M) a w b → Walk M a w b
  walk_outside a [] b h = h
  walk_outside a (k ∷ w) b (p, from, h) = (passed arcs n M k p, from, walk_outside (M.to k) w b h)

  pub leads_same : (a b : ℕ) → Leads (inside arcs n M) a b ↔ Leads M a b
  leads_same a b = ((λ (w, h). (w, walk_outside a w b h)), (λ (w, h). (w, walk_inside a w b h)))

  pub shortest_same : (a : ℕ) (w : List ℕ) (b : ℕ) → ShortestRoad (inside arcs n M) a w b → ShortestRoad M a w b
  shortest_same a w b r = record {
    road = (walk_outside a w b r.road.0, r.road.1);
    fewest = λ u h. r.fewest u (walk_inside a u b h);
  }

  pub tells_same : (a : ℕ) (r : Reach) → Tells (inside arcs n M) a r → Tells M a r
  tells_same a r t v = ((λ k. (leads_same a v).0 ((t v).0 k)), (λ l. (t v).1 ((leads_same a v).1 l)))
