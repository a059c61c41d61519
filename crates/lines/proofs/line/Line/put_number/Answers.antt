use Rattle.std.proofs.lemmas.Fmt.{decimal_digit}
use Rattle.lines.proofs.line.Line.put_number.Goals as goal

pub returns-then-n-lt10 : goal.returns-then-n-lt10
returns-then-n-lt10 c = rw (decimal_digit c.args.n c.if-n-lt10.true) c.push.ensures
