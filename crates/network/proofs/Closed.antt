-- A border whose kept feeds are full costs the value. The steps that open moves reach are such a border, and it lies
-- inside every other that costs as much.
use Rattle.std.proofs.Common.{◌≡◌, ℕ, suc, ◌<◌, Bool, true, false, cond, ◌||◌, eqb, [], ◌∷◌, ◌++◌, ℤ, pos, ◌≤ℤ◌, sym, refl, ◌∙◌, inl, inr, arith}
use lib.Signed.{lt_z}
use Rattle.std.proofs.lemmas.Int.{ints}
use Rattle.std.proofs.lemmas.Bool.{cases_Bool, or_cases, or_parts, both_ways, eqb-true, eq-eqb}
use Rattle.network.specs.Chart.{Chart, Step, Fit, Sides, Flows}
use Rattle.network.specs.Border.{Border, kept, NoneBack, Allowed, cost}
use Rattle.network.specs.Move.{Move, forward, backward, move_from, move_to, has_spare, open_moves}
use Rattle.network.specs.Flow.{Flow, value, Reached, Closed, Cheapest}
use Rattle.network.specs.Audit.{early_by, KeptFull}
use Rattle.network.specs.Laws.{ClosedIsCheapest, ClosedIsBest, AuditedIsCheapest, ClosedIsAudited}
use Rattle.network.proofs.Walks.{walk_push, walk_leaves}
use Rattle.network.proofs.Sums.{sum_same, sum_less, how_many_le}
use Rattle.network.proofs.Crossings.{allowed_from_proper, proper_from_allowed}
use Rattle.network.proofs.Arcs.{move_feed_lem, backward_passes, forward_passes, forward_may, move_steps}
use Rattle.network.proofs.Value.{kept_carry_value, kept_within, value_at_most_cost}

-- no feed runs back, and the kept feeds are full
record Saturated (C : Chart) (f : Flows) (early : Sides) : Type 0 where
  border : Border C early
  none_back : NoneBack C early
  kept_full : KeptFull C f early

cond_same : (b : Bool) (x y : ℤ) → (b ≡ true → x ≡ y) → cond b x (pos 0) ≡ cond b y (pos 0)
cond_same true x y h = h refl
cond_same false x y h = refl

module _ (C : Chart) (fit : Fit C) (f : Flows) (fl : Flow C f) where
  module _ (early : Sides) (sat : Saturated C f early) where
    saturated_allowed : Allowed C early
    saturated_allowed = record { border = sat.border; none_back = sat.none_back; kept_unbarred = λ k l e. (sat.kept_full k l e).0 }

    saturated_cost : cost C early ≡ value C f
    saturated_cost =
        sym (sum_same C.count (λ k. cond (kept C early k) (f k) (pos 0)) (λ k. cond (kept C early k) (C.price k) (pos 0)) (λ k l. cond_same (kept C early k) (f k) (C.price k) (λ e. (sat.kept_full k l e).1)))
        ∙ kept_carry_value C fit f fl early sat.border sat.none_back

    saturated_least : (other : Sides) → Allowed C other → cost C early ≤ℤ cost C other
    saturated_least other al = let v = value_at_most_cost C fit f fl other al in let e = saturated_cost in omega (arith, ints)

  -- an allowed border that costs the value keeps full feeds, so no open move leaves its early side
  module _ (other : Sides) (al : Allowed C other) (eq : cost C other ≡ value C f) where
    full : (k : ℕ) → k < C.count → kept C other k ≡ true → lt_z (f k) (C.price k) ≡ true → ⊥
    full k l e s =
        let v = kept_carry_value C fit f fl other al.border al.none_back in
        let less = sum_less C.count (λ k. cond (kept C other k) (f k) (pos 0)) (λ k. cond (kept C other k) (C.price k) (pos 0)) (kept_within C f fl other al.kept_unbarred) k l (rw e (omega (arith, ints))) in
        omega (arith, ints)

    no_leaving : (x : Move) → (open_moves C f).passable x ≡ true → other (move_from C x) ≡ true → other (move_to C x) ≡ false → ⊥
    no_leaving (forward k) p a b =
        let l = move_feed_lem C (has_spare C f) (forward k) p in
        let kp : kept C other k ≡ true = grind arith in
        elim (or_cases (C.barred k) (lt_z (f k) (C.price k)) (forward_may C (has_spare C f) k p)) [ inl h ↦ both_ways (C.barred k) (al.kept_unbarred k l kp) h | inr h ↦ full k l kp h ]
    no_leaving (backward k) p a b =
        let n = al.none_back k (move_feed_lem C (has_spare C f) (backward k) p) in
        absurd (grind arith)

    reached-inside : (v : ℕ) → Reached C f v → other v ≡ true
    reached-inside v r =
        elim (cases_Bool (other v)) [
          | inl e ↦ e
          | inr e ↦ (let x = walk_leaves (open_moves C f) other C.source r.0 v r.1 al.border.0 e in absurd (no_leaving x.0 x.1 x.2 x.3))
        ]

  module _ (early : Sides) (cl : Closed C f early) where
    -- an open move from an early step leads to an early step
    stays_early : (x : Move) → (open_moves C f).passable x ≡ true → early (move_from C x) ≡ true → early (move_to C x) ≡ true
    stays_early x p e =
        let s = move_steps C (has_spare C f) fit x p in
        let r = (cl.early_reached (move_from C x) s.0).0 e in
        (cl.early_reached (move_to C x) s.1).1 (r.0 ++ (x ∷ []), walk_push (open_moves C f) C.source r.0 x r.1 p)

    closed_border : Border C early
    closed_border = (
      (cl.early_reached C.source fit.source_step).1 ([], refl),
      elim (cases_Bool (early C.sink)) [
        | inl e ↦ absurd (cl.sink_apart ((cl.early_reached C.sink fit.sink_step).0 e))
        | inr e ↦ e
      ],
    )

    closed_full : KeptFull C f early
    closed_full k l e =
        let b : has_spare C f k ≡ true → early (C.from k) ≡ true → early (C.to k) ≡ true = λ o. stays_early (forward k) (forward_passes C (has_spare C f) k l o) in
        let o : (C.barred k || lt_z (f k) (C.price k)) ≡ false = grind arith in
        let q = or_parts (C.barred k) (lt_z (f k) (C.price k)) o in
        let w = fl.within_prices k l q.0 in
        let g = q.1 in
        (q.0, omega (arith, ints))

    saturated : Saturated C f early
    saturated = record {
      border = closed_border;
      none_back = λ k l. (let b = stays_early (backward k) (backward_passes C (has_spare C f) k l) in grind arith);
      kept_full = closed_full;
    }

    inside : (other : Sides) → Allowed C other → cost C other ≡ cost C early → (v : ℕ) → Step C v → early v ≡ true → other v ≡ true
    inside other al e v s h = reached-inside other al (e ∙ saturated_cost early saturated) v ((cl.early_reached v s).0 h)

    cheapest : Cheapest C f early
    cheapest = record {
      allowed = saturated_allowed early saturated;
      cost_is_value = saturated_cost early saturated;
      no_cheaper = saturated_least early saturated;
      inside = inside;
      fewest = λ other al e. how_many_le C.steps (λ i. early (suc i)) (λ i. other (suc i)) (λ i l h. inside other al e (suc i) (omega arith) h);
    }

pub closed_is_cheapest : ClosedIsCheapest
closed_is_cheapest = cheapest

pub closed_is_best : ClosedIsBest
closed_is_best C fit on f fl early cl =
    let c = closed_is_cheapest C fit f fl early cl in
    record {
      proper = proper_from_allowed C fit on early c.allowed;
      cheapest = λ other p. c.no_cheaper other (allowed_from_proper C fit on other p);
      fewest = λ other p e. c.fewest other (allowed_from_proper C fit on other p) e;
    }

pub audited_is_cheapest : AuditedIsCheapest
audited_is_cheapest C fit f side au =
    let fl : Flow C f = record { conserved = au.conserved; within_prices = au.within_prices } in
    let sat : Saturated C f (early_by side) = record {
      border = (eq-eqb (side C.source) 1 au.sides_fit.source_early, rw au.sides_fit.sink_late);
      none_back = au.none_back;
      kept_full = au.kept_full;
    } in
    (saturated_allowed C fit f fl (early_by side) sat, saturated_cost C fit f fl (early_by side) sat, saturated_least C fit f fl (early_by side) sat)

pub closed_is_audited : ClosedIsAudited
closed_is_audited C fit f fl side two cl =
    let sat = saturated C fit f fl (early_by side) cl in
    record {
      sides_fit = record {
        one_or_two = two;
        source_early = eqb-true (side C.source) 1 sat.border.0;
        sink_late = elim (two C.sink fit.sink_step) [ inl e ↦ absurd (both_ways (eqb (side C.sink) 1) sat.border.1 (eq-eqb (side C.sink) 1 e)) | inr e ↦ e ];
      };
      none_back = sat.none_back;
      conserved = fl.conserved;
      within_prices = fl.within_prices;
      kept_full = sat.kept_full;
    }
