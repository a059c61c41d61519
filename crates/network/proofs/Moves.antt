-- What moves reach from the source of a chart, and in how many moves.
use Rattle.std.proofs.Common.{◌≡◌, ℕ, ◌+◌, ◌*◌, ◌≤◌, Bool, true, ◌⊎◌, List, [], ◌∷◌, ◌++◌, map, length, Decides, refl, inl, inr}
use lib.ListN.{length-map}
use Rattle.std.proofs.lemmas.Bool.Decides.{Decides-like}
use Rattle.network.specs.Chart.{Chart, Fit}
use Rattle.network.specs.Walk.{Walk, Leads}
use Rattle.network.specs.Move.{Move, move_from, move_to, moves}
use Rattle.network.specs.Arc.{move_of, arc_of, numbered, AsMoves}
use Rattle.network.proofs.Walks.{walk_push}
use Rattle.network.proofs.Arcs.{move_steps, numbered_are_moves}
use Rattle.network.proofs.Reach.{Finite, within, decides_reached}
use Rattle.network.proofs.Distance.{dist, dist_most, dist_start, dist_cases, dist_walk, dist_more}

module _ (C : Chart) (may : ℕ → Bool) (fit : Fit C) where
  same : AsMoves C may
  same = numbered_are_moves C may

  finite : Finite (numbered C may) C.steps C.source
  finite = record { arcs = 2 * C.count; below = same.arcs; start = fit.source_step; ends = λ j p. (move_steps C may fit (move_of j) p).1 }

  -- whether moves lead from the source to v
  pub found : ℕ → Bool
  found v = within finite C.steps C.source v

  pub decides_found : (v : ℕ) → Decides (found v) (Leads (moves C may) C.source v)
  unfolding found
  decides_found v =
      Decides-like (found v) (λ r. (map move_of r.0, same.to_moves C.source r.0 v r.1)) (λ r. (map arc_of r.0, same.to_arcs C.source r.0 v r.1))
      (decides_reached finite v)

  pub found_source : found C.source ≡ true
  found_source = (decides_found C.source).1 ([], refl)

  -- a move from a step that is found leads to one that is found
  pub found_more : (x : Move) → (moves C may).passable x ≡ true → found (move_from C x) ≡ true → found (move_to C x) ≡ true
  found_more x p e =
      let r = (decides_found (move_from C x)).0 e in
      (decides_found (move_to C x)).1 (r.0 ++ (x ∷ []), walk_push (moves C may) C.source r.0 x r.1 p)

  -- the distance of v from the source, by moves
  pub far : ℕ → ℕ
  far v = dist finite v

  pub far_most : (v : ℕ) → far v ≤ C.steps
  unfolding far
  far_most v = dist_most finite v

  pub far_source : far C.source ≡ 0
  unfolding far
  far_source = dist_start finite

  pub far_more : (x : Move) → (moves C may).passable x ≡ true → far (move_to C x) ≤ far (move_from C x) + 1
  unfolding far
  far_more x p =
      let d = dist_more finite (arc_of x) in
      (rw (same.move_of_arc x) at d) p

  moves_of : (v : ℕ) → (js : List ℕ) × Walk (numbered C may) C.source js v × (length js ≡ far v) → (w : List Move) × Walk (moves C may) C.source w v × (length w ≡ far v)
  moves_of v r = (map move_of r.0, same.to_moves C.source r.0 v r.1, simp length-map r.2)

  -- either v is as far as can be, or some moves to it are as many as its distance
  pub far_cases : (v : ℕ) → (far v ≡ C.steps) ⊎ ((w : List Move) × Walk (moves C may) C.source w v × (length w ≡ far v))
  unfolding far
  far_cases v = elim (dist_cases finite v) [ inl e ↦ inl e | inr r ↦ inr (moves_of v r) ]

  pub far_walk : (v : ℕ) → Leads (moves C may) C.source v → (w : List Move) × Walk (moves C may) C.source w v × (length w ≡ far v)
  unfolding far
  far_walk v r = moves_of v (dist_walk finite v (map arc_of r.0, same.to_arcs C.source r.0 v r.1))
