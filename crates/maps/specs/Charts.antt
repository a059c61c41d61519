-- Which chart lent sheets mean.
use Rattle.price.specs.Kind.{PriceKind}
use Rattle.network.specs.Chart.{Chart}
use Rattle.sheets.specs.Sheets.{chart_of}
use Rattle.maps.specs.declared.Chart.{Chart as Sheets}

abbrev pub chart_meant : {P : Type 0} → PriceKind P → Sheets P → Chart
chart_meant K c = chart_of K c.steps c.source c.sink c.feeds.now c.bars.now
