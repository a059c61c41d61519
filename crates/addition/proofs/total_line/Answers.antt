use Rattle.std.proofs.Common.{refl}
use Rattle.lines.proofs.Joins.{Puts}
use Rattle.addition.proofs.TotalLine.{parts, whole_line}
use Rattle.addition.proofs.total_line.Goals as goal

pub returns : goal.returns
returns g c =
    let K = g.W.Price.kind in
    let start = c.new-line.result.bytes in
    let end = c.push.new.self.bytes in
    let digits = rw (c.put_digits.ensures.served.1 c.requires) at c.put_digits.ensures.line in
    let puts : Puts start (parts K c.args.total) end = (_, c.put.ensures, (_, digits, (_, c.push.ensures, refl))) in
    whole_line K g.met.W.Written.short c.args.total start end c.requires c.new-line.ensures puts
