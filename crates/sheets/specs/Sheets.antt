-- The chart and the flows that sheets mean. Every entry of the feed sheet counts.
use Rattle.std.specs.Prelude.{List, [], ◌∷◌, map, ℕ, eqb, pos, get_or}
use Rattle.price.specs.Kind.{PriceKind}
use Rattle.network.specs.Chart.{Chart, Flows}
use Rattle.network.specs.History.{charted, Feed as Entered}
use Rattle.sheets.specs.declared.Feed.{Feed}

-- a feed and its bar byte, 1 where its picture may not be stored
abbrev pub entered : {P : Type 0} → PriceKind P → Feed P → ℕ → Entered
entered K x bar = record { from = x.from; to = x.to; price = K.means x.price; barred = eqb bar 1 }

-- the feeds of a sheet with their bars; where the bar sheet is shorter, the feeds beyond it are not barred
abbrev pub feeds_of : {P : Type 0} → PriceKind P → List (Feed P) → List ℕ → List Entered
feeds_of K [] bars = []
feeds_of K (x ∷ xs) [] = entered K x 0 ∷ feeds_of K xs []
feeds_of K (x ∷ xs) (bar ∷ bars) = entered K x bar ∷ feeds_of K xs bars

-- the chart with n steps, source s and sink t
abbrev pub chart_of : {P : Type 0} → PriceKind P → ℕ → ℕ → ℕ → List (Feed P) → List ℕ → Chart
chart_of K n s t feeds bars = charted n s t (feeds_of K feeds bars)

-- the same, where steps, source and sink do not matter
abbrev pub feeds_chart : {P : Type 0} → PriceKind P → List (Feed P) → List ℕ → Chart
feeds_chart K feeds bars = chart_of K 0 0 0 feeds bars

-- what flows along each feed; nothing where the flow sheet is shorter
abbrev pub flows_of : {P : Type 0} → PriceKind P → List P → Flows
flows_of K flows k = get_or (map K.means flows) k (pos 0)
