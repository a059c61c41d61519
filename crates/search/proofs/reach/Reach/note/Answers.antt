use Rattle.std.proofs.Common.{◌-◌, Some, set, ap}
use Rattle.std.proofs.lemmas.List.{map-set}
use Rattle.search.specs.Table.{Parents}
use Rattle.search.proofs.reach.Reach.note.Goals as goal

pub returns : goal.returns
returns c = rw (map-set, c.entry_of.ensures) (ap (λ (p : Parents). set p.parents (c.args.step - 1) (Some c.args.parent)) c.self.view_is)
