-- Moving an amount along an open way: each feed is used at most once, the inner steps stay balanced, and by the least
-- spare no price is exceeded.
use Rattle.std.proofs.Common.{◌≡◌, ℕ, ◌<◌, Bool, true, false, cond, eqb, ◌⊎◌, List, [], ◌∷◌, ℤ, pos, ◌+ℤ◌, ◌-ℤ◌, neg_ℤ, ◌<ℤ◌, sym, refl, ap, ◌∙◌, subst, inl, inr, arith}
use lib.Signed.{lt_z}
use Rattle.std.proofs.lemmas.Int.{ints}
use Rattle.std.proofs.lemmas.Bool.{cases_eq, ne_eqb, eq-eqb, or_cases, both_ways}
use Rattle.network.specs.Chart.{Chart, Fit, Flows}
use Rattle.network.specs.Walk.{Walk, met, In, Distinct}
use Rattle.network.specs.Move.{Move, forward, backward, move_feed, move_from, move_to, moves, has_spare, open_moves}
use Rattle.network.specs.Flow.{outflow, inflow, Conserved, WithinPrices, Flow, Within, value}
use Rattle.network.specs.Raise.{OpenWay, LeastSpare, change, carried, along}
use Rattle.network.specs.Laws.{RaiseKeepsFlow}
use Rattle.network.proofs.Walks.{walk_passable, met_ends}
use Rattle.network.proofs.Arcs.{move_feed_lem, forward_may}
use Rattle.network.proofs.Sums.{sum_over-zero, sum_over_plus, sum_over_at}

-- whether moves use feed k
used_or_not : (w : List Move) (k : ℕ) → ((x : Move) × In x w × (move_feed x ≡ k)) ⊎ ((x : Move) → In x w → move_feed x ≡ k → ⊥)
used_or_not [] k = inr (λ x i e. i)
used_or_not (y ∷ w) k =
    elim (cases_eq (move_feed y) k) [
      | inl e ↦ inl (y, inl refl, e)
      | inr n ↦ elim (used_or_not w k) [
        | inl r ↦ inl (r.0, inr r.1, r.2)
        | inr m ↦ inr (λ x i e. elim i [ inl q ↦ n (ap move_feed q ∙ e) | inr j ↦ m x j e ])
      ]
    ]

carried_none : (a : ℤ) (w : List Move) (k : ℕ) → ((x : Move) → In x w → move_feed x ≡ k → ⊥) → carried a w k ≡ pos 0
carried_none a [] k n = refl
carried_none a (y ∷ w) k n =
    let ih = carried_none a w k (λ x i. n x (inr i)) in
    rw (ne_eqb (move_feed y) k (n y (inl refl))) (omega (arith, ints))

-- two moves along one feed start at the same step, or one starts where the other ends
same_feed : (C : Chart) (x y : Move) → move_feed x ≡ move_feed y → (move_from C x ≡ move_from C y) ⊎ (move_to C x ≡ move_from C y)
same_feed C (forward j) (forward k) e = inl (ap C.from e)
same_feed C (forward j) (backward k) e = inr (ap C.to e)
same_feed C (backward j) (forward k) e = inr (ap C.from e)
same_feed C (backward j) (backward k) e = inl (ap C.to e)

cond_neg : (t : Bool) (a : ℤ) → cond t (neg_ℤ a) (pos 0) ≡ neg_ℤ (cond t a (pos 0))
cond_neg true a = refl
cond_neg false a = refl

module _ (C : Chart) (may : ℕ → Bool) (a : ℤ) where
  -- a walk that does not meet the start of y does not use its feed
  not_again : (y : Move) (b : ℕ) (w : List Move) (c : ℕ) → Walk (moves C may) b w c → (In (move_from C y) (met (moves C may) b w) → ⊥) → (x : Move) → In x w → move_feed x ≡ move_feed y → ⊥
  not_again y b w c h n x i e =
      let r = met_ends (moves C may) b w c h x i in
      elim (same_feed C x y e) [
        | inl q ↦ n (subst (λ v. In v (met (moves C may) b w)) q r.0)
        | inr q ↦ n (subst (λ v. In v (met (moves C may) b w)) q r.1)
      ]

  -- where no step is met twice, a move alone changes its feed
  pub carried_once : (b : ℕ) (w : List Move) (c : ℕ) → Walk (moves C may) b w c → Distinct (met (moves C may) b w) → (x : Move) → In x w → carried a w (move_feed x) ≡ change a x
  carried_once b [] c h d x i = absurd i
  carried_once b (y ∷ w) c h d x i =
      let again = not_again y (move_to C y) w c h.2 (subst (λ v. In v (met (moves C may) (move_to C y) w) → ⊥) (sym h.1) d.0) in
      elim i [
        | inl e ↦ (let z = carried_none a w (move_feed y) again in
            let q : carried a (y ∷ w) (move_feed y) ≡ change a y = rw (eq-eqb (move_feed y) (move_feed y) refl) (omega (arith, ints)) in
            subst (λ t. carried a (y ∷ w) (move_feed t) ≡ change a t) e q)
        | inr j ↦ (let ih = carried_once (move_to C y) w c h.2 d.1 x j in
            rw (ne_eqb (move_feed y) (move_feed x) (λ q. again x j (sym q))) (omega (arith, ints)))
      ]

  -- a at step u, nothing elsewhere
  abbrev here : ℕ → ℕ → ℤ
  here u v = cond (eqb u v) a (pos 0)

  -- one move takes a from its start to its end
  net_move : (x : Move) → move_feed x < C.count → (v : ℕ)
      → outflow C (λ k. cond (eqb (move_feed x) k) (change a x) (pos 0)) v -ℤ inflow C (λ k. cond (eqb (move_feed x) k) (change a x) (pos 0)) v ≡ here (move_from C x) v -ℤ here (move_to C x) v
  net_move x l v =
      let o = sum_over_at C (λ k. eqb (C.from k) v) (move_feed x) (change a x) l in
      let i = sum_over_at C (λ k. eqb (C.to k) v) (move_feed x) (change a x) l in
      o_i x o i
    where
      o_i : (x : Move)
          → outflow C (λ k. cond (eqb (move_feed x) k) (change a x) (pos 0)) v ≡ cond (eqb (C.from (move_feed x)) v) (change a x) (pos 0)
          → inflow C (λ k. cond (eqb (move_feed x) k) (change a x) (pos 0)) v ≡ cond (eqb (C.to (move_feed x)) v) (change a x) (pos 0)
          → outflow C (λ k. cond (eqb (move_feed x) k) (change a x) (pos 0)) v -ℤ inflow C (λ k. cond (eqb (move_feed x) k) (change a x) (pos 0)) v ≡ here (move_from C x) v -ℤ here (move_to C x) v
      o_i (forward k) o i = omega (arith, ints)
      o_i (backward k) o i =
          let p = cond_neg (eqb (C.from k) v) a in
          let q = cond_neg (eqb (C.to k) v) a in
          omega (arith, ints)

  -- and so does a walk
  net_walk : (b : ℕ) (w : List Move) (c : ℕ) → Walk (moves C may) b w c → (v : ℕ) → outflow C (carried a w) v -ℤ inflow C (carried a w) v ≡ here b v -ℤ here c v
  net_walk b [] c h v =
      let o = sum_over-zero C (λ k. eqb (C.from k) v) (carried a []) (λ k l. refl) in
      let i = sum_over-zero C (λ k. eqb (C.to k) v) (carried a []) (λ k l. refl) in
      let e : here b v ≡ here c v = ap (λ u. here u v) h in
      omega (arith, ints)
  net_walk b (x ∷ w) c h v =
      let one : ℕ → ℤ = λ k. cond (eqb (move_feed x) k) (change a x) (pos 0) in
      let o = sum_over_plus C (λ k. eqb (C.from k) v) one (carried a w) in
      let i = sum_over_plus C (λ k. eqb (C.to k) v) one (carried a w) in
      let n = net_move x (move_feed_lem C may x h.0) v in
      let ih = net_walk (move_to C x) w c h.2 v in
      let e : here (move_from C x) v ≡ here b v = ap (λ u. here u v) h.1 in
      omega (arith, ints)

module _ (C : Chart) (fit : Fit C) (f : Flows) (fl : Flow C f) (w : List Move) (ow : OpenWay C f w) (a : ℤ) (ls : LeastSpare C f w a) where
  pub spare_positive : pos 0 <ℤ a
  spare_positive =
      let k = ls.one_is.0 in
      let p = walk_passable (open_moves C f) C.source w C.sink ow.0 (forward k) ls.one_is.1 in
      let e = ls.one_is.3 in
      elim (or_cases (C.barred k) (lt_z (f k) (C.price k)) (forward_may C (has_spare C f) k p)) [
        | inl h ↦ absurd (both_ways (C.barred k) ls.one_is.2 h)
        | inr h ↦ omega (arith, ints)
      ]

  -- feed k is not used, moved forward, or moved backward
  abbrev Use : ℕ → Type 0
  Use k = (carried a w k ≡ pos 0) ⊎ ((In (forward k) w × (carried a w k ≡ a)) ⊎ (In (backward k) w × (carried a w k ≡ neg_ℤ a)))

  pub use_cases : (k : ℕ) → Use k
  use_cases k =
      elim (used_or_not w k) [
        | inl r ↦ (let e = carried_once C (has_spare C f) a C.source w C.sink ow.0 ow.1 r.0 r.1 in by_kind r.0 r.1 r.2 e)
        | inr n ↦ inl (carried_none a w k n)
      ]
    where
      by_kind : (x : Move) → In x w → move_feed x ≡ k → carried a w (move_feed x) ≡ change a x → Use k
      by_kind (forward j) i e c = inr (inl (subst (λ z. In (forward z) w × (carried a w z ≡ a)) e (i, c)))
      by_kind (backward j) i e c = inr (inr (subst (λ z. In (backward z) w × (carried a w z ≡ neg_ℤ a)) e (i, c)))

  pub raised_near : (k : ℕ) → Within a (carried a w k)
  raised_near k =
      let p = spare_positive in
      elim (use_cases k) [
        | inl u ↦ omega (arith, ints)
        | inr (inl u) ↦ (let e = u.1 in omega (arith, ints))
        | inr (inr u) ↦ (let e = u.1 in omega (arith, ints))
      ]

  raised_within : WithinPrices C (along a w f)
  raised_within k l b =
      let p = spare_positive in
      let r = fl.within_prices k l b in
      elim (use_cases k) [
        | inl u ↦ omega (arith, ints)
        | inr (inl u) ↦ (let s = ls.at_most k u.0 b in let e = u.1 in omega (arith, ints))
        | inr (inr u) ↦ (let e = u.1 in omega (arith, ints))
      ]

  raised_net : (v : ℕ) → outflow C (along a w f) v -ℤ inflow C (along a w f) v ≡ (outflow C f v -ℤ inflow C f v) +ℤ (cond (eqb C.source v) a (pos 0) -ℤ cond (eqb C.sink v) a (pos 0))
  raised_net v =
      let o = sum_over_plus C (λ k. eqb (C.from k) v) f (carried a w) in
      let i = sum_over_plus C (λ k. eqb (C.to k) v) f (carried a w) in
      let n = net_walk C (has_spare C f) a C.source w C.sink ow.0 v in
      omega (arith, ints)

  raised_conserved : Conserved C (along a w f)
  raised_conserved v st ns nk =
      let n = raised_net v in
      let c = fl.conserved v st ns nk in
      let x : cond (eqb C.source v) a (pos 0) ≡ pos 0 = rw (ne_eqb C.source v (λ q. ns (sym q))) in
      let y : cond (eqb C.sink v) a (pos 0) ≡ pos 0 = rw (ne_eqb C.sink v (λ q. nk (sym q))) in
      omega (arith, ints)

  raised_value : value C (along a w f) ≡ value C f +ℤ a
  raised_value =
      let n = raised_net C.source in
      let x : cond (eqb C.source C.source) a (pos 0) ≡ a = rw (eq-eqb C.source C.source refl) in
      let y : cond (eqb C.sink C.source) a (pos 0) ≡ pos 0 = rw (ne_eqb C.sink C.source (λ q. fit.apart (sym q))) in
      omega (arith, ints)

pub raise_keeps_flow : RaiseKeepsFlow
raise_keeps_flow C fit f fl w ow a ls = record {
  positive = spare_positive C fit f fl w ow a ls;
  flow = record { conserved = raised_conserved C fit f fl w ow a ls; within_prices = raised_within C fit f fl w ow a ls };
  value_more = raised_value C fit f fl w ow a ls;
}
