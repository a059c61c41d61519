use Rattle.lines.specs.Left.{lines_left}
use Rattle.lines.specs.Split.{lines_of}
use Rattle.addition.proofs.Progress.{Progress}
use Rattle.addition.proofs.add_up.Given as goal

abbrev pub invariant-loop-line : goal.invariant-loop-line
invariant-loop-line g l = Progress g.W.Price.kind (lines_of l.text) (lines_left l.line-iterator.a) l.line-iterator.b.start l.total
