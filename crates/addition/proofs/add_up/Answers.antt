use Rattle.std.proofs.Common.{◌≡◌, arith, inl, inr}
use Rattle.std.proofs.lemmas.Result.{err_from_is_err_and}
use Rattle.refusal.specs.declared.Refusal.TheVariants.{NotAPrice}
use Rattle.addition.proofs.Progress.{finished, no_price, one_more}
use Rattle.addition.proofs.add_up.Goals as goal

pub returns-in_err-price : goal.returns-in_err-price
returns-in_err-price g c =
    let p = err_from_is_err_and c.from_residual.result c.from_residual.ensures.1 in
    let bad = rw c.in_err-price.ensures.ok_part at c.price_on.ensures in
    let steps = c.in-Some.ensures.steps in
    let refused = no_price g.W.Price.kind c.loop-line.invariant steps.0 bad in
    let cause : c.in_err-price.field-0.0 ≡ NotAPrice c.in-Some.number = grind arith in
    rw (p.1, p.2, cause, steps.1.0) refused

pub loop-line-preserved : goal.loop-line-preserved
loop-line-preserved g c =
    let writes = rw c.in_ok-price.ensures.ok_part at c.price_on.ensures in
    let steps = c.in-Some.ensures.steps in
    one_more g.W.Price.kind g.met.W.Price.sound c.loop-line.invariant steps.0 writes (omega arith) (omega arith) c.plus-total.ensures.means

pub returns : goal.returns
returns g c = finished g.W.Price.kind c.loop-line.invariant (elim c.in-None.ensures.steps [ inl l ↦ l.1.0 | inr r ↦ absurd (omega (arith, c.loop-line.invariant.few, c.loop-line.invariant.next_line)) ])
