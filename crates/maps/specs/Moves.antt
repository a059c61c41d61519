-- Which move of the network a move of a sheet is.
use Rattle.network.specs.Move.{Move as NetworkMove, forward, backward}
use Rattle.maps.specs.declared.moves.Move.{Move}
use Rattle.maps.specs.declared.moves.Move.TheVariants.{Forward, Backward}

abbrev pub move_meant : Move → NetworkMove
move_meant (Forward k) = forward k
move_meant (Backward k) = backward k
