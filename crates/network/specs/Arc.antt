-- Moves by number, as a search counts arcs, and flows in a list, as a sheet holds them.
use Rattle.std.specs.Prelude.{◌≡◌, ℕ, ◌+◌, ◌*◌, ◌/◌, ◌%◌, ◌<◌, Bool, true, cond, List, [], ◌∷◌, map, ℤ, pos, ◌+ℤ◌, ◌==◌, slice_index_or, slice_set}
use Rattle.network.specs.Chart.{Chart}
use Rattle.network.specs.Walk.{Map, Walk, met}
use Rattle.network.specs.Move.{Move, forward, backward, move_feed, move_from, move_to, moves}
use Rattle.network.specs.Raise.{change}

-- arc 2k is feed k forward, and arc 2k + 1 is feed k backward
abbrev pub move_of : ℕ → Move
move_of j = cond (j % 2 == 0) (forward (j / 2)) (backward (j / 2))

abbrev pub arc_of : Move → ℕ
arc_of (forward k) = 2 * k
arc_of (backward k) = 2 * k + 1

-- the map of moves, its arcs by number
abbrev pub numbered : Chart → (ℕ → Bool) → Map ℕ
numbered C may = record { from = λ j. move_from C (move_of j); to = λ j. move_to C (move_of j); passable = λ j. (moves C may).passable (move_of j) }

-- walks over numbered arcs and walks over moves are the same
pub record AsMoves (C : Chart) (may : ℕ → Bool) : Type 0 where
  pub move_of_arc : (x : Move) → move_of (arc_of x) ≡ x
  pub arc_of_move : (j : ℕ) → arc_of (move_of j) ≡ j
  pub arcs : (j : ℕ) → (numbered C may).passable j ≡ true → j < 2 * C.count
  pub to_moves : (a : ℕ) (js : List ℕ) (b : ℕ) → Walk (numbered C may) a js b → Walk (moves C may) a (map move_of js) b
  pub to_arcs : (a : ℕ) (w : List Move) (b : ℕ) → Walk (moves C may) a w b → Walk (numbered C may) a (map arc_of w) b
  pub same_steps : (a : ℕ) (js : List ℕ) → met (numbered C may) a js ≡ met (moves C may) a (map move_of js)

-- a list of flows after a was moved along w: one entry is written for each move in turn
abbrev pub written : ℤ → List Move → List ℤ → List ℤ
written a [] fs = fs
written a (x ∷ w) fs = written a w (slice_set fs (move_feed x) (slice_index_or fs (move_feed x) (pos 0) +ℤ change a x))
