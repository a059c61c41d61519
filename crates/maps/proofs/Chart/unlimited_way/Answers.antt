use Rattle.maps.proofs.Ways.{search_unlimited_way}
use Rattle.maps.proofs.Chart.unlimited_way.Goals as goal

pub returns : goal.returns
returns g c = search_unlimited_way _ _ c.way.ensures
