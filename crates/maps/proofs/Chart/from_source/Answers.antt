use Rattle.maps.proofs.Bars.{explores_same}
use Rattle.maps.proofs.Ways.{search_from_source}
use Rattle.maps.proofs.Chart.from_source.Goals as goal

pub returns : goal.returns
returns g c = λ sink bars. search_from_source _ _ (explores_same g.P.Price.kind _ c.args.self.now.source sink c.args.self.now.feeds.now bars (λ M. M) _ _ c.explore.ensures)
