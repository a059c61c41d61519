-- A shortest open way is left, or the border can be closed; and an open way has a least spare.
use Rattle.std.proofs.Common.{◌≡◌, ℕ, true, false, ◌⊎◌, List, [], ◌∷◌, ℤ, ◌≤ℤ◌, sym, refl, ap, ◌∙◌, inl, inr, arith}
use Rattle.std.proofs.lemmas.Int.{ints, by_lt_z}
use Rattle.std.proofs.lemmas.Bool.{cases_Bool, both_ways}
use Rattle.network.specs.Chart.{Chart, Fit, Flows}
use Rattle.network.specs.Walk.{Walk, In}
use Rattle.network.specs.Move.{Move, forward, backward, move_feed, has_spare, open_moves, unlimited_moves}
use Rattle.network.specs.Flow.{Reached}
use Rattle.network.specs.Raise.{ShortestLeft, LeastSpare, spare}
use Rattle.network.specs.Laws.{RaiseOrClose, LeastSpareExists}
use Rattle.network.proofs.Walks.{walk_passable}
use Rattle.network.proofs.Arcs.{move_feed_lem, forward_passes, forward_may}
use Rattle.network.proofs.Moves.{found, decides_found, far, far_source, far_more, far_walk}
use Rattle.network.proofs.Heights.{rise, rising_distinct}

-- open moves to the sink as many as its distance are a shortest open way
shortest_left : (C : Chart) → Fit C → (f : Flows) → Reached C f C.sink → ShortestLeft C f
shortest_left C fit f r =
    let d = far C (has_spare C f) fit in
    let slow = far_more C (has_spare C f) fit in
    let s = far_walk C (has_spare C f) fit C.sink r in
    let z = far_source C (has_spare C f) fit in (
      s.0,
      (s.1, rising_distinct (open_moves C f) d slow C.source s.0 C.sink s.1 (omega (arith, s.2))),
      (λ u o. let t = rise (open_moves C f) d slow C.source u C.sink o.0 in omega (arith, s.2)),
    )

pub raise_or_close : RaiseOrClose
raise_or_close C fit f = (
  elim (cases_Bool (found C (has_spare C f) fit C.sink)) [
    | inl e ↦ inl (shortest_left C fit f ((decides_found C (has_spare C f) fit C.sink).0 e))
    | inr e ↦ inr (
      found C (has_spare C f) fit,
      record {
        sink_apart = λ r. both_ways (found C (has_spare C f) fit C.sink) e ((decides_found C (has_spare C f) fit C.sink).1 r);
        early_reached = λ v s. decides_found C (has_spare C f) fit v;
      },
    )
  ],
  (λ o c. c.1.sink_apart (o.0, o.1.0)),
)

pub not_both : (j k : ℕ) → backward j ≡ forward k → ⊥
not_both j k e = let z : ◌≡◌ {A = ℕ} 0 1 = cc in omega arith

-- one more move at the front, whose spare is no less
extend : (C : Chart) (f : Flows) (x : Move) (w : List Move) (a : ℤ) → LeastSpare C f w a → ((k : ℕ) → x ≡ forward k → C.barred k ≡ false → a ≤ℤ spare C f k) → LeastSpare C f (x ∷ w) a
extend C f x w a ls head = record {
  at_most = λ k i b. elim i [ inl e ↦ head k e b | inr j ↦ ls.at_most k j b ];
  one_is = (ls.one_is.0, inr ls.one_is.1, ls.one_is.2, ls.one_is.3);
}

abbrev SpareOrNone : Chart → Flows → ℕ → List Move → ℕ → Type 0
SpareOrNone C f a w b = Walk (unlimited_moves C) a w b ⊎ ((s : ℤ) × LeastSpare C f w s)

-- open moves have a least spare, or all are without limit
least_spare : (C : Chart) (f : Flows) (a : ℕ) (w : List Move) (b : ℕ) → Walk (open_moves C f) a w b → SpareOrNone C f a w b
least_spare C f a [] b h = inl h
least_spare C f a (backward j ∷ w) b h =
    elim (least_spare C f (C.from j) w b h.2) [
      | inl u ↦ inl (h.0, h.1, u)
      | inr r ↦ inr (r.0, extend C f (backward j) w r.0 r.1 (λ k e n. absurd (not_both j k e)))
    ]
least_spare C f a (forward j ∷ w) b h = go (cases_Bool (C.barred j)) (least_spare C f (C.to j) w b h.2)
  where
    same : (k : ℕ) → forward j ≡ forward k → spare C f j ≡ spare C f k
    same k e = ap (λ x. spare C f (move_feed x)) e

    -- feed j's spare is the least, where the other moves have none less
    first : C.barred j ≡ false → ((k : ℕ) → In (forward k) w → C.barred k ≡ false → spare C f j ≤ℤ spare C f k) → LeastSpare C f (forward j ∷ w) (spare C f j)
    first n rest = record {
      at_most = λ k i b. elim i [
        | inl e ↦ (let q = same k e in omega (arith, ints))
        | inr i ↦ rest k i b
      ];
      one_is = (j, inl refl, n, refl);
    }

    go : (C.barred j ≡ true) ⊎ (C.barred j ≡ false) → SpareOrNone C f (C.to j) w b → SpareOrNone C f a (forward j ∷ w) b
    go (inl t) (inl u) = inl (forward_passes C C.barred j (move_feed_lem C (has_spare C f) (forward j) h.0) t, h.1, u)
    go (inl t) (inr r) = inr (r.0, extend C f (forward j) w r.0 r.1 (λ k e n. absurd (both_ways (C.barred k) n (ap (λ x. C.barred (move_feed x)) (sym e) ∙ t))))
    go (inr n) (inl u) = inr (spare C f j, first n (λ k i c. absurd (both_ways (C.barred k) c (forward_may C C.barred k (walk_passable (unlimited_moves C) (C.to j) w b u (forward k) i)))))
    go (inr n) (inr r) = by_lt_z r.0 (spare C f j)
        (λ l. inr (r.0, extend C f (forward j) w r.0 r.1 (λ k e c. let q = same k e in omega (arith, ints))))
        (λ l. inr (spare C f j, first n (λ k i c. let q = r.1.at_most k i c in omega (arith, ints))))

pub least_spare_exists : LeastSpareExists
least_spare_exists C none f w ow =
    elim (least_spare C f C.source w C.sink ow.0) [
      | inl u ↦ absurd (none (w, u))
      | inr r ↦ r
    ]
