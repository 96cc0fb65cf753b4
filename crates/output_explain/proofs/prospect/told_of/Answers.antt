use Rattle.std.proofs.Common.{rules, sym}
use Rattle.std.proofs.lemmas.Fn.{always_returns_same}
use Rattle.output_explain.proofs.Looking.{order_of, orders_rise, found_at, lost_at}
use Rattle.output_explain.proofs.prospect.told_of.Goals as goal

pub returns-in-Ok : goal.returns-in-Ok
returns-in-Ok c =
    let rows = c.args.rows.now in
    let id = c.args.id in
    sym (found_at rows id c.requires c.in-Ok.place c.in-Ok.ensures.bound
    (c.in-Ok.ensures.position (order_of rows id c.requires) (always_returns_same _ _ _ (λ a r q called. (search rules, search rules)))) _)

pub returns-in-Err : goal.returns-in-Err
returns-in-Err c =
    let rows = c.args.rows.now in
    let id = c.args.id in
    sym (lost_at rows id c.requires c.in-Err.field-0
    (c.in-Err.ensures.position (order_of rows id c.requires) (always_returns_same _ _ _ (λ a r q called. (search rules, search rules))) (orders_rise rows id c.requires)))
