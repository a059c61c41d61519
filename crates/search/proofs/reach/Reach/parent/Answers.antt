use Rattle.std.proofs.Common.{sym, ap, ◌∙◌, arith}
use Rattle.search.specs.Table.{Parents, parent_in}
use Rattle.search.specs.Record.{parent_of}
use Rattle.search.proofs.Parents.{parent_read}
use Rattle.search.proofs.reach.Reach.parent.Goals as goal

pub returns : goal.returns
returns c =
    let entry = c.in_ok-get.ensures.lookup.3 in
    let read = parent_read c.self.inside.table c.in_ok-checked_sub.field-0 c.args.step (omega arith) entry.0 in
    c.parent_in.ensures ∙ ap parent_in (entry.1 0) ∙ sym read ∙ ap (λ (p : Parents). parent_of p.parents c.args.step) c.self.view_is
