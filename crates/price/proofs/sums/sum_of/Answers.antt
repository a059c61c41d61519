use Rattle.std.proofs.Common.{pos, subst, ◌∙◌, rules}
use Rattle.std.proofs.lemmas.Fn.{fold_over, fronts, slice_gives}
use Rattle.price.specs.Kind.{reach}
use Rattle.price.proofs.Exact.{IsHeldSum, held_push, modest_exact}
use Rattle.price.proofs.sums.sum_of.Goals as goal

pub returns : goal.returns
returns g c =
    let K = g.P.Price.kind in
    let step = held_push K (reach K) (pos 0) in
    let sum = subst (λ xs. IsHeldSum K xs c.fold.result) c.iter.ensures.rest
    (fold_over fronts (λ y. y.now) _ (IsHeldSum K) _ (λ ys a x b f' so call. let push = step ys x.now in search rules) _ _ _ _ (slice_gives c.iter.result) (search rules) c.fold.ensures.ran) in
    record { means = sum.means; exact = λ m. sum.means ∙ modest_exact K c.args.totals.now m; named = sum.named }
