-- Flows after raises: no flow lies farther from 0 than the total raised, and that is at most the sum of the prices.
use Rattle.std.proofs.Common.{◌≡◌, ℕ, ◌*◌, ◌<◌, ◌≤◌, Bool, true, false, cond, eqb, ℤ, pos, ◌+ℤ◌, ◌-ℤ◌, ◌≤ℤ◌, sym, ◌∙◌, ap₂, mul-le-mul_right, arith}
use Rattle.std.proofs.lemmas.Int.{ints}
use Rattle.network.specs.Chart.{Chart, Flows}
use Rattle.network.specs.Border.{kept}
use Rattle.network.specs.Flow.{Flow, value}
use Rattle.network.specs.Raise.{along, begun, raised, total_raised}
use Rattle.network.specs.Laws.{FlowsWithinTotal, FlowsWithinPrices, FlowsWithinLimit}
use Rattle.network.proofs.Sums.{sum_le, sum_most, sum_over_same, sum_over-zero}
use Rattle.network.proofs.Blocked.{some_allowed}
use Rattle.network.proofs.Value.{value_at_most_cost}
use Rattle.network.proofs.Raising.{raise_keeps_flow, raised_near}

-- only the flows of the feeds count
module _ (C : Chart) (f g : Flows) (e : (k : ℕ) → k < C.count → g k ≡ f k) where
  same_value : value C g ≡ value C f
  same_value = ap₂ (λ x y. x -ℤ y) (sum_over_same C (λ k. eqb (C.from k) C.source) g f e) (sum_over_same C (λ k. eqb (C.to k) C.source) g f e)

  same_flow : Flow C f → Flow C g
  same_flow fl = record {
    conserved = λ v s ns nk. sum_over_same C (λ k. eqb (C.to k) v) g f e ∙ fl.conserved v s ns nk ∙ sym (sum_over_same C (λ k. eqb (C.from k) v) g f e);
    within_prices = λ k l b. rw (e k l) (fl.within_prices k l b);
  }

pub flows_within_total : FlowsWithinTotal
flows_within_total C fit n f (begun z) = record {
  flow = record {
    conserved = λ v s ns nk. sum_over-zero C (λ k. eqb (C.to k) v) f z ∙ sym (sum_over-zero C (λ k. eqb (C.from k) v) f z);
    within_prices = λ k l b. rw (z k l) (fit.price_low k l);
  };
  value_is_total = ap₂ (λ x y. x -ℤ y) (sum_over-zero C (λ k. eqb (C.from k) C.source) f z) (sum_over-zero C (λ k. eqb (C.to k) C.source) f z);
  within_total = λ k l. (let e = z k l in omega (arith, ints));
}
flows_within_total C fit n g (raised {n = m} {f = f} {a = a} r s) =
    let b = flows_within_total C fit m f r in
    let q = raise_keeps_flow C fit f b.flow s.way s.is_open a s.least in
    let v : value C f ≡ total_raised r = b.value_is_total in
    let u : value C g ≡ value C f +ℤ a = same_value C (along a s.way f) g s.flows ∙ q.value_more in
    record {
      flow = same_flow C (along a s.way f) g s.flows q.flow;
      value_is_total = omega (arith, ints);
      within_total = λ k l. (let x = s.flows k l in let y = raised_near C fit f b.flow s.way s.is_open a s.least k in let z = b.within_total k l in omega (arith, ints));
    }

cond_below : (b : Bool) (x : ℤ) → pos 0 ≤ℤ x → cond b x (pos 0) ≤ℤ x
cond_below true x h = omega (arith, ints)
cond_below false x h = h

pub flows_within_prices : FlowsWithinPrices
flows_within_prices C fit none n f r k l =
    let b = flows_within_total C fit n f r in
    let s = some_allowed C fit none in
    let v = value_at_most_cost C fit f b.flow s.0 s.1 in
    let e = b.value_is_total in
    let p = sum_le C.count (λ k. cond (kept C s.0 k) (C.price k) (pos 0)) C.price (λ k l. cond_below (kept C s.0 k) (C.price k) (fit.price_low k l)) in
    let z = b.within_total k l in
    omega (arith, ints)

pub flows_within_limit : FlowsWithinLimit
flows_within_limit C fit largest lim none n f r k l =
    let w = flows_within_prices C fit none n f r k l in
    let s = sum_most C.count largest C.price lim.price_high in
    let m : C.count * largest ≤ 4096 * largest = mul-le-mul_right largest lim.few in
    omega (arith, ints)
