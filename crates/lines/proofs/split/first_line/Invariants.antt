use Rattle.lines.proofs.Cuts.{NoFeed}
use Rattle.lines.proofs.split.first_line.Given as goal

abbrev pub invariant-loop-i : goal.invariant-loop-i
invariant-loop-i l = NoFeed l.text 0 l.i
