use Rattle.lines.proofs.Cuts.{cut_at, uncut_at}
use Rattle.lines.proofs.split.first_long_line.Goals as goal

pub returns-in-Some : goal.returns-in-Some
returns-in-Some c = cut_at c.args.text.now c.in-Some.end c.in-Some.ensures

pub returns-in-None : goal.returns-in-None
returns-in-None c = uncut_at c.args.text.now c.requires c.in-None.ensures
