use Rattle.std.proofs.Common.{rules, ◌∙◌, ◌≡◌, ◌++◌, take}
use Rattle.lines.proofs.Joins.{joined_room}
use Rattle.lines.proofs.line.Line.put.Goals as goal

pub returns : goal.returns
returns c =
    let whole = joined_room c.self.inside.bytes.items c.args.text.now c.remaining_capacity.result c.remaining_capacity.ensures in
    let added : c.try_extend_from_slice.new.self.items ≡ c.self.inside.bytes.items ++ take c.min-room.result c.args.text.now = search rules in
    rw (← c.self.view_is) (rw c.min-room.ensures at added ∙ whole)
