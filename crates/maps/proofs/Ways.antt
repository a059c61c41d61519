-- On a fit chart the search's answers are the chart's own.
use Rattle.std.proofs.Common.{◌≡◌, ℕ, ◌*◌, ◌<◌, Bool, true, ◌↔◌, map, Some, None, Option, Ok, Err, Result, arith}
use Rattle.std.proofs.lemmas.Bool.{ltb-true}
use Rattle.network.specs.Chart.{Chart, Step, Fit, Flows}
use Rattle.network.specs.Walk.{Map, Leads, reversed}
use Rattle.network.specs.Border.{feeds_forward}
use Rattle.network.specs.Move.{moves, has_spare}
use Rattle.network.specs.Arc.{move_of, arc_of, numbered}
use Rattle.network.proofs.Arcs.{numbered_are_moves, move_steps, fewest_is_shortest}
use Rattle.search.specs.Answers.{Answers, Explores, ShortestRoad}
use Rattle.search.specs.Record.{reached}
use Rattle.search.specs.declared.NoRoad.{NoRoad}
use Rattle.search.specs.declared.NoRoad.TheVariants.{OutOfRange, Missing}
use Rattle.search.specs.declared.reach.Reach.{Reach}
use Rattle.search.specs.declared.road.Road.{Road}
use Rattle.search.proofs.Inward.{leads_same, shortest_same, tells_same}
use Rattle.maps.specs.Searches.{WithinLimits, OpenWayAnswer, UnlimitedWayAnswer, ReachAnswer, SearchOpenWay, SearchUnlimitedWay, SearchFromSource, SearchToSink}

module _ (C : Chart) (may : ℕ → Bool) where
  -- of moves that go forward along the feeds that may be passed
  abbrev MovesAnswer : Result Road NoRoad → Type 0
  MovesAnswer (Ok r) = ShortestRoad (numbered C may) C.source r C.sink
  MovesAnswer (Err OutOfRange) = WithinLimits C → ⊥
  MovesAnswer (Err (Missing r)) = (Leads (moves C may) C.source C.sink → ⊥) × ((v : ℕ) → (reached r v ≡ true) ↔ Leads (moves C may) C.source v)

  -- numbered arcs lead where moves do
  leads_moves : (a b : ℕ) → Leads (numbered C may) a b ↔ Leads (moves C may) a b
  leads_moves a b =
      let same = numbered_are_moves C may in (
        (λ (w, h). (map move_of w, same.to_moves a w b h)),
        (λ (w, h). (map arc_of w, same.to_arcs a w b h)),
      )

  module _ (fit : Fit C) where
    inward : (j : ℕ) → (numbered C may).passable j ≡ true → (j < 2 * C.count) × Step C ((numbered C may).to j)
    inward j p = ((numbered_are_moves C may).arcs j p, (move_steps C may fit (move_of j) p).1)

    moves_answer : (r : Result Road NoRoad) → Answers (2 * C.count) (numbered C may) C.steps C.source C.sink r → MovesAnswer r
    moves_answer (Ok r) (takes, goal, road) = shortest_same (2 * C.count) C.steps (numbered C may) inward C.source _ C.sink road
    moves_answer (Err OutOfRange) h = λ l. h (record { few_arcs = omega (arith, l.few_feeds); few_steps = l.few_steps; start = fit.source_step }) fit.sink_step
    moves_answer (Err (Missing r)) (takes, goal, none, tells) =
        let inside = leads_same (2 * C.count) C.steps (numbered C may) inward C.source in
        let told = tells_same (2 * C.count) C.steps (numbered C may) inward C.source r tells in (
          (λ l. none ((inside C.sink).1 ((leads_moves C.source C.sink).1 l))),
          (λ v. ((λ k. (leads_moves C.source v).0 ((told v).0 k)), (λ l. (told v).1 ((leads_moves C.source v).1 l)))),
        )

module _ (C : Chart) where
  open_way_answer : (f : Flows) (r : Result Road NoRoad) → MovesAnswer C (has_spare C f) r → OpenWayAnswer C f r
  open_way_answer f (Ok r) s = fewest_is_shortest C f _ s.road s.fewest
  open_way_answer f (Err OutOfRange) h = h
  open_way_answer f (Err (Missing r)) (none, tells) = record { sink_apart = none; early_reached = λ v st. tells v }

  pub search_open_way : (f : Flows) (r : Result Road NoRoad) → Answers (2 * C.count) (numbered C (has_spare C f)) C.steps C.source C.sink r → SearchOpenWay C f r
  search_open_way f r h = record { answer = h; fit = λ fit. open_way_answer f r (moves_answer C (has_spare C f) fit r h) }

  unlimited_way_answer : (r : Result Road NoRoad) → MovesAnswer C C.barred r → UnlimitedWayAnswer C r
  unlimited_way_answer (Ok r) s = (numbered_are_moves C C.barred).to_moves C.source _ C.sink s.road.0
  unlimited_way_answer (Err OutOfRange) h = h
  unlimited_way_answer (Err (Missing r)) (none, tells) = none

  pub search_unlimited_way : (r : Result Road NoRoad) → Answers (2 * C.count) (numbered C C.barred) C.steps C.source C.sink r → SearchUnlimitedWay C r
  search_unlimited_way r h = record { answer = h; fit = λ fit. unlimited_way_answer r (moves_answer C C.barred fit r h) }

  -- a map with an arc for each feed, from step a on
  reach_answer : (M : Map ℕ) (a : ℕ) → Step C a → ((k : ℕ) → M.passable k ≡ true → (k < C.count) × Step C (M.to k))
      → (r : Option Reach) → Explores C.count M C.steps a r → ReachAnswer C M a r
  reach_answer M a st inward None h = λ l. h (record { few_arcs = omega (arith, l.few_feeds); few_steps = l.few_steps; start = st })
  reach_answer M a st inward (Some r) (takes, tells) = tells_same C.count C.steps M inward a r tells

  pub search_from_source : (r : Option Reach) → Explores C.count (feeds_forward C) C.steps C.source r → SearchFromSource C r
  search_from_source r h = record {
    answer = h;
    fit = λ fit. reach_answer (feeds_forward C) C.source fit.source_step (λ k p. let l = ltb-true k C.count p in (l, fit.to_step k l)) r h;
  }

  pub search_to_sink : (r : Option Reach) → Explores C.count (reversed (feeds_forward C)) C.steps C.sink r → SearchToSink C r
  search_to_sink r h = record {
    answer = h;
    fit = λ fit. reach_answer (reversed (feeds_forward C)) C.sink fit.sink_step (λ k p. let l = ltb-true k C.count p in (l, fit.from_step k l)) r h;
  }
