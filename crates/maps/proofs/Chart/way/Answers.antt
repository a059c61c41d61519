use Rattle.std.proofs.Common.{ℕ, ◌*◌, sym, subst}
use Rattle.search.specs.Answers.{Answers}
use Rattle.sheets.proofs.Entries.{count_is}
use Rattle.maps.specs.Charts.{chart_meant}
use Rattle.maps.specs.Graphs.{ruled_arcs}
use Rattle.maps.proofs.Chart.way.Goals as goal

pub returns : goal.returns
returns g c =
    let K = g.P.Price.kind in
    let sheets = c.args.self.now in
    let C = chart_meant K sheets in
    subst (λ (x : ℕ). Answers (2 * x) (ruled_arcs C (g.R.Rule.may c.args.rule)) C.steps C.source C.sink c.search.result) (sym (count_is K sheets.feeds.now sheets.bars.now)) c.search.ensures
