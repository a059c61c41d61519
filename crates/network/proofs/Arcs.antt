-- Which moves pass; and numbered arcs have the same walks as moves.
use Rattle.std.proofs.Common.{◌≡◌, ℕ, ◌+◌, ◌*◌, ◌/◌, ◌%◌, ◌<◌, Bool, true, ltb, List, [], ◌∷◌, map, length, refl, ap, subst, inl, inr, arith}
use lib.ListN.{length-map}
use Rattle.std.proofs.lemmas.Bool.{ltb-true, lt-ltb, and_from, and_parts, cases_eq, eq-eqb, ne_eqb}
use Rattle.network.specs.Chart.{Chart, Step, Fit}
use Rattle.network.specs.Walk.{Walk, met, Distinct}
use Rattle.network.specs.Move.{Move, forward, backward, move_feed, move_from, move_to, permits, moves, has_spare}
use Rattle.network.specs.Arc.{move_of, arc_of, numbered}
use Rattle.network.specs.Laws.{NumberedAreMoves, FewestIsShortest}

move_of_arc : (x : Move) → move_of (arc_of x) ≡ x
move_of_arc (forward k) =
    let r : (2 * k) % 2 ≡ 0 = omega arith in
    let q : (2 * k) / 2 ≡ k = omega arith in
    rw (r, q)
move_of_arc (backward k) =
    let r : (2 * k + 1) % 2 ≡ 1 = omega arith in
    let q : (2 * k + 1) / 2 ≡ k = omega arith in
    rw (r, q)

arc_of_move : (j : ℕ) → arc_of (move_of j) ≡ j
arc_of_move j =
    elim (cases_eq (j % 2) 0) [
      | inl e ↦ rw (eq-eqb (j % 2) 0 e) (omega arith)
      | inr e ↦ rw (ne_eqb (j % 2) 0 e) (omega arith)
    ]

module _ (C : Chart) (may : ℕ → Bool) where
  pub move_feed_lem : (x : Move) → (moves C may).passable x ≡ true → move_feed x < C.count
  move_feed_lem x p = ltb-true (move_feed x) C.count (and_parts (ltb (move_feed x) C.count) (permits may x) p).0

  pub backward_passes : (k : ℕ) → k < C.count → (moves C may).passable (backward k) ≡ true
  backward_passes k l = and_from (ltb k C.count) true (lt-ltb k C.count l) refl

  pub forward_passes : (k : ℕ) → k < C.count → may k ≡ true → (moves C may).passable (forward k) ≡ true
  forward_passes k l m = and_from (ltb k C.count) (may k) (lt-ltb k C.count l) m

  pub forward_may : (k : ℕ) → (moves C may).passable (forward k) ≡ true → may k ≡ true
  forward_may k p = (and_parts (ltb k C.count) (may k) p).1

  -- the ends of a move are steps
  pub move_steps : Fit C → (x : Move) → (moves C may).passable x ≡ true → Step C (move_from C x) × Step C (move_to C x)
  move_steps fit (forward k) p = let l = move_feed_lem (forward k) p in (fit.from_step k l, fit.to_step k l)
  move_steps fit (backward k) p = let l = move_feed_lem (backward k) p in (fit.to_step k l, fit.from_step k l)

  arc_below : (x : Move) → (moves C may).passable x ≡ true → arc_of x < 2 * C.count
  arc_below (forward k) p = omega (arith, move_feed_lem (forward k) p)
  arc_below (backward k) p = omega (arith, move_feed_lem (backward k) p)

  to_moves : (a : ℕ) (js : List ℕ) (b : ℕ) → Walk (numbered C may) a js b → Walk (moves C may) a (map move_of js) b
  to_moves a [] b h = h
  to_moves a (j ∷ js) b h = (h.0, h.1, to_moves (move_to C (move_of j)) js b h.2)

  to_arcs : (a : ℕ) (w : List Move) (b : ℕ) → Walk (moves C may) a w b → Walk (numbered C may) a (map arc_of w) b
  to_arcs a [] b h = h
  to_arcs a (x ∷ w) b h = rw (move_of_arc x) (h.0, h.1, to_arcs (move_to C x) w b h.2)

  same_steps : (a : ℕ) (js : List ℕ) → met (numbered C may) a js ≡ met (moves C may) a (map move_of js)
  same_steps a [] = refl
  same_steps a (j ∷ js) = ap (λ vs. a ∷ vs) (same_steps (move_to C (move_of j)) js)

pub numbered_are_moves : NumberedAreMoves
numbered_are_moves C may = record {
  move_of_arc = move_of_arc;
  arc_of_move = arc_of_move;
  arcs = λ j p. (let l = arc_below C may (move_of j) p in rw (arc_of_move j) at l);
  to_moves = to_moves C may;
  to_arcs = to_arcs C may;
  same_steps = same_steps C may;
}

pub fewest_is_shortest : FewestIsShortest
fewest_is_shortest C f js road fewest =
    let same = numbered_are_moves C (has_spare C f) in (
      (same.to_moves C.source js C.sink road.0, subst Distinct (same.same_steps C.source js) road.1),
      (λ u o. let l = fewest (map arc_of u) (same.to_arcs C.source u C.sink o.0) in
          let a : length (map arc_of u) ≡ length u = length-map u arc_of in
          let b : length (map move_of js) ≡ length js = length-map js move_of in
          omega arith),
    )
