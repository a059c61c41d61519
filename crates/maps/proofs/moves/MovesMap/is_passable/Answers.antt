use Rattle.std.proofs.Common.{◌≡◌, ltb, ◌&&◌, Some, refl, sym, ◌∙◌}
use Rattle.std.proofs.lemmas.Bool.{ltb-true}
use Rattle.sheets.specs.Sheets.{feeds_chart}
use Rattle.sheets.proofs.Entries.{count_is, price_lent, barred_is}
use Rattle.maps.proofs.moves.MovesMap.is_passable.Goals as goal

pub returns-in-Some : goal.returns-in-Some
returns-in-Some g c =
    let K = g.P.Price.kind in
    let m = c.args.self.now in
    let C = feeds_chart K m.feeds.now m.bars.now in
    let k = c.in-Forward.k in
    let lookup = c.in-Some.ensures.lookup in
    let bar : C.barred k ≡ c.is_barred.result = barred_is K m.feeds.now m.bars.now k (ltb-true _ _ (sym lookup.0)) ∙ sym c.is_barred.ensures in
    let price = price_lent K m.feeds.now m.bars.now k (Some c.in-Some.feed) lookup (K.means c.in-Some.feed.now.price) refl in
    let passed : c.may_pass.result ≡ (ltb k C.count && g.R.Rule.may m.rule k (C.barred k) (C.price k)) = rw (count_is K m.feeds.now m.bars.now, bar, ← price, ← lookup.0) c.may_pass.ensures in
    rw (← c.in-Forward.ensures) passed
