use Rattle.maps.proofs.Ways.{search_open_way}
use Rattle.maps.proofs.Chart.open_way.Goals as goal

pub returns : goal.returns
returns g c = search_open_way _ _ _ c.way.ensures
