use Rattle.std.proofs.Common.{refl, arith}
use Rattle.lines.proofs.Joins.{Puts}
use Rattle.refusal.proofs.Told.{parts, told}
use Rattle.refusal.proofs.Refusal.line.Goals as goal

pub returns : goal.returns
returns c =
    let start = c.new-line.result.bytes in
    let end = c.push-2.new.self.bytes in
    let puts : Puts start (parts c.from.result c.place.result) end = (_, c.put.ensures, (_, c.put_number.ensures, (_, c.push.ensures, (_, c.put_number-2.ensures, (_, c.push-2.ensures, refl))))) in
    let whole = told c.from.result c.place.result start end (omega arith) (omega arith) c.new-line.ensures puts in
    rw (c.from.ensures, c.number.ensures, c.place.ensures) at whole
