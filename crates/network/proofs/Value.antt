-- What flows across a border is the value, so the value is at most the cost of an allowed border.
use Rattle.std.proofs.Common.{◌≡◌, ℕ, suc, ◌-◌, ◌<◌, ◌≤◌, Bool, true, false, cond, not, ◌&&◌, eqb, ℤ, pos, ◌-ℤ◌, ◌≤ℤ◌, sym, refl, ap, ◌∙◌, ap₂, inl, inr, arith}
use Rattle.std.proofs.lemmas.Int.{ints}
use Rattle.std.proofs.lemmas.Bool.{cases_eq, ne_eqb, eq-eqb}
use Rattle.network.specs.Chart.{Chart, Fit, Sides, Flows}
use Rattle.network.specs.Sum.{sum, sum_over}
use Rattle.network.specs.Border.{Border, kept, runs_back, NoneBack, KeptUnbarred}
use Rattle.network.specs.Flow.{outflow, inflow, Flow, value}
use Rattle.network.specs.Laws.{ValueAcross, ValueAtMostCost}
use Rattle.network.proofs.Sums.{cond-zero, sum_same, sum-zero, sum_minus, sum_le, sum_at, sum_swap, sum-cond}

cond_minus : (b : Bool) (x y : ℤ) → cond b (x -ℤ y) (pos 0) ≡ cond b x (pos 0) -ℤ cond b y (pos 0)
cond_minus true x y = refl
cond_minus false x y = refl

cond_le : (b : Bool) (x y : ℤ) → (b ≡ true → x ≤ℤ y) → cond b x (pos 0) ≤ℤ cond b y (pos 0)
cond_le true x y h = h refl
cond_le false x y h = omega (arith, ints)

-- what early steps send out, or take in, is what the feeds that start, or end, at them carry
gather : (n m : ℕ) (end : ℕ → ℕ) → ((k : ℕ) → k < m → (1 ≤ end k) × (end k ≤ n)) → (early : Sides) (f : Flows)
    → sum n (λ i. cond (early (suc i)) (sum m (λ k. cond (eqb (end k) (suc i)) (f k) (pos 0))) (pos 0)) ≡ sum m (λ k. cond (early (end k)) (f k) (pos 0))
gather n m end st early f =
    sum_same n _ _ (λ i l. sum-cond m (early (suc i)) (λ k. cond (eqb (end k) (suc i)) (f k) (pos 0)))
    ∙ sum_swap n m (λ i k. cond (early (suc i)) (cond (eqb (end k) (suc i)) (f k) (pos 0)) (pos 0))
    ∙ sum_same m _ _ (λ k l. one k (st k l))
  where
    one : (k : ℕ) → (1 ≤ end k) × (end k ≤ n) → sum n (λ i. cond (early (suc i)) (cond (eqb (end k) (suc i)) (f k) (pos 0)) (pos 0)) ≡ cond (early (end k)) (f k) (pos 0)
    one k s =
        let e : suc (end k - 1) ≡ end k = omega arith in
        sum_at n (λ i. cond (early (suc i)) (cond (eqb (end k) (suc i)) (f k) (pos 0)) (pos 0)) (end k - 1) (omega arith)
        (λ i l q. let z = ne_eqb (end k) (suc i) (λ p. q (omega arith)) in grind arith)
        ∙ (let z = eq-eqb (end k) (suc (end k - 1)) (sym e) in let y = ap early e in grind arith)

-- what goes over the border, by the sides of a feed's ends
ends : (a b : Bool) (z : ℤ) → cond (a && not b) z (pos 0) -ℤ cond (not a && b) z (pos 0) ≡ cond a z (pos 0) -ℤ cond b z (pos 0)
ends true true z = omega (arith, ints)
ends true false z = omega (arith, ints)
ends false true z = omega (arith, ints)
ends false false z = omega (arith, ints)

module _ (C : Chart) (fit : Fit C) (f : Flows) (early : Sides) where
  net : ℕ → ℤ
  net i = cond (early (suc i)) (outflow C f (suc i) -ℤ inflow C f (suc i)) (pos 0)

  net_by_ends : sum C.steps net ≡ sum_over C (λ k. early (C.from k)) f -ℤ sum_over C (λ k. early (C.to k)) f
  unfolding net
  net_by_ends =
      sum_same C.steps net (λ i. cond (early (suc i)) (outflow C f (suc i)) (pos 0) -ℤ cond (early (suc i)) (inflow C f (suc i)) (pos 0)) (λ i l. cond_minus (early (suc i)) (outflow C f (suc i)) (inflow C f (suc i)))
      ∙ sum_minus C.steps (λ i. cond (early (suc i)) (outflow C f (suc i)) (pos 0)) (λ i. cond (early (suc i)) (inflow C f (suc i)) (pos 0))
      ∙ ap₂ (λ x y. x -ℤ y) (gather C.steps C.count C.from fit.from_step early f) (gather C.steps C.count C.to fit.to_step early f)

  across_by_ends : sum_over C (kept C early) f -ℤ sum_over C (runs_back C early) f ≡ sum_over C (λ k. early (C.from k)) f -ℤ sum_over C (λ k. early (C.to k)) f
  across_by_ends =
      sym (sum_minus C.count (λ k. cond (kept C early k) (f k) (pos 0)) (λ k. cond (runs_back C early k) (f k) (pos 0)))
      ∙ sum_same C.count _ _ (λ k l. ends (early (C.from k)) (early (C.to k)) (f k))
      ∙ sum_minus C.count (λ k. cond (early (C.from k)) (f k) (pos 0)) (λ k. cond (early (C.to k)) (f k) (pos 0))

  -- of the early steps only the source sends out more than it takes in
  net_is_value : Flow C f → Border C early → sum C.steps net ≡ value C f
  unfolding net
  net_is_value fl bd =
      sum_at C.steps net (C.source - 1) (omega (arith, fit.source_step)) elsewhere
      ∙ here
    where
      e : suc (C.source - 1) ≡ C.source
      e = omega (arith, fit.source_step)

      here : net (C.source - 1) ≡ value C f
      here = rw e (rw bd.0)

      elsewhere : (i : ℕ) → i < C.steps → (i ≡ C.source - 1 → ⊥) → net i ≡ pos 0
      elsewhere i l q =
          elim (cases_eq (suc i) C.sink) [
            | inl p ↦ (let z = ap early p ∙ bd.1 in rw z)
            | inr p ↦ (let z = fl.conserved (suc i) (omega arith) (λ h. q (omega arith)) p in
                let y : outflow C f (suc i) -ℤ inflow C f (suc i) ≡ pos 0 = omega (arith, ints) in
                cond-zero (early (suc i)) (outflow C f (suc i) -ℤ inflow C f (suc i)) y)
          ]

pub value_across : ValueAcross
value_across C fit f fl early bd = across_by_ends C fit f early ∙ sym (net_by_ends C fit f early) ∙ net_is_value C fit f early fl bd

-- where no feed runs back, the kept feeds carry the value
pub kept_carry_value : (C : Chart) → Fit C → (f : Flows) → Flow C f → (early : Sides) → Border C early → NoneBack C early → sum_over C (kept C early) f ≡ value C f
kept_carry_value C fit f fl early bd none =
    let a = value_across C fit f fl early bd in
    let z : sum_over C (runs_back C early) f ≡ pos 0 = sum-zero C.count (λ k. cond (runs_back C early k) (f k) (pos 0)) (λ k l. rw (none k l)) in
    omega (arith, ints)

-- a kept feed carries at most its price
pub kept_within : (C : Chart) (f : Flows) → Flow C f → (early : Sides) → KeptUnbarred C early → (k : ℕ) → k < C.count → cond (kept C early k) (f k) (pos 0) ≤ℤ cond (kept C early k) (C.price k) (pos 0)
kept_within C f fl early ku k l = cond_le (kept C early k) (f k) (C.price k) (λ e. fl.within_prices k l (ku k l e))

pub value_at_most_cost : ValueAtMostCost
value_at_most_cost C fit f fl early al =
    let v = kept_carry_value C fit f fl early al.border al.none_back in
    let s = sum_le C.count (λ k. cond (kept C early k) (f k) (pos 0)) (λ k. cond (kept C early k) (C.price k) (pos 0)) (kept_within C f fl early al.kept_unbarred) in
    omega (arith, ints)
