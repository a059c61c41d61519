use Rattle.addition.proofs.Progress.{total_within}
use Rattle.addition.proofs.answer_text.Goals as goal

pub total_line-requires : goal.total_line-requires
total_line-requires g c = total_within g.W.Price.kind g.met.W.Price.sound _ c.in_ok-total.total c.in_ok-total.ensures
