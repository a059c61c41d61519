-- The map of feeds forward does not depend on bars, source, sink or the number of steps.
use Rattle.std.proofs.Common.{◌≡◌, ℕ, ltb, List, [], length, Option, sym, ap, subst, ◌∙◌}
use mathlib.Core.Path.{fun_ext}
use Rattle.price.specs.Kind.{PriceKind}
use Rattle.network.specs.Walk.{Map}
use Rattle.network.specs.Border.{feeds_forward}
use Rattle.search.specs.Answers.{Explores}
use Rattle.search.specs.declared.reach.Reach.{Reach}
use Rattle.sheets.specs.Sheets.{chart_of, feeds_chart}
use Rattle.sheets.specs.declared.Feed.{Feed}
use Rattle.sheets.proofs.Entries.{count_is, from_same, to_same}

with_parts : (ℕ → ℕ) → (ℕ → ℕ) → ℕ → Map ℕ
with_parts from to count = record { from = from; to = to; passable = λ k. ltb k count }

module _ {P : Type 0} (K : PriceKind P) (n s t : ℕ) (feeds : List (Feed P)) (bars : List ℕ) where
  pub forward_same : feeds_forward (feeds_chart K feeds []) ≡ feeds_forward (chart_of K n s t feeds bars)
  unfolding with_parts
  forward_same =
      let C = feeds_chart K feeds [] in
      let D = chart_of K n s t feeds bars in
      ap (λ x. with_parts x C.to C.count) (fun_ext (from_same K feeds [] bars))
      ∙ ap (λ x. with_parts D.from x C.count) (fun_ext (to_same K feeds [] bars))
      ∙ ap (with_parts D.from D.to) (count_is K feeds [] ∙ sym (count_is K feeds bars))

  -- and so neither does a search on it, whichever way its arcs are turned
  pub explores_same : (turn : Map ℕ → Map ℕ) (a : ℕ) (r : Option Reach) → Explores (length feeds) (turn (feeds_forward (feeds_chart K feeds []))) n a r
      → let D = chart_of K n s t feeds bars in Explores D.count (turn (feeds_forward D)) n a r
  explores_same turn a r h =
      let D = chart_of K n s t feeds bars in
      subst (λ (x : ℕ). Explores x (turn (feeds_forward D)) n a r) (sym (count_is K feeds bars))
      (subst (λ (M : Map ℕ). Explores (length feeds) (turn M) n a r) forward_same h)
