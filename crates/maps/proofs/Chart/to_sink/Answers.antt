use Rattle.network.specs.Walk.{reversed}
use Rattle.maps.proofs.Bars.{explores_same}
use Rattle.maps.proofs.Ways.{search_to_sink}
use Rattle.maps.proofs.Chart.to_sink.Goals as goal

pub returns : goal.returns
returns g c = λ source bars. search_to_sink _ _ (explores_same g.P.Price.kind _ source c.args.self.now.sink c.args.self.now.feeds.now bars reversed _ _ c.explore.ensures)
