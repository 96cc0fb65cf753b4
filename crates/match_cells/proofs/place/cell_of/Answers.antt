use Rattle.std.proofs.Common.{◌∙◌, ◌<◌, Bool, ap, sym, length, arith}
use Rattle.std.specs.Ordering.{is_eq}
use Rattle.std.proofs.lemmas.List.{get_or_default}
use Rattle.match_cells.proofs.Places.{between}
use Rattle.match_cells.proofs.place.cell_of.Goals as goal

pub returns-else-is_eq-clause-cell : goal.returns-else-is_eq-clause-cell
returns-else-is_eq-clause-cell g c =
    let order = g.K.LineKey.order in
    let x = g.Q.Sought.meant c.args.x in
    let cuts = c.args.cuts.now in
    let p = c.below-p.result in
    let m : p < length cuts = omega (arith, c.below-p.ensures.within) in
    let at = λ (d : g.row.K.Denot). c.index-cuts-p.is ∙ get_or_default cuts p c.index-cuts-p.result d m in
    between g.met.K.LineKey.total g.met.K.LineKey.exact x cuts p m c.requires.rising c.below-p.ensures.before c.below-p.ensures.behind
    (λ (d : g.row.K.Denot). ap {B = Bool} (λ (y : g.row.K.Denot). is_eq (order y x)) (sym (at d)) ∙ (ap is_eq (sym c.against.ensures) ∙ (sym c.is_eq.ensures ∙ c.if-is_eq.false)))
