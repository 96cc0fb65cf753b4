use Rattle.std.proofs.Common.{[], ap₂, ◌∙◌, ℕ, List}
use Rattle.base_order.proofs.Rows.{rows-more}
use Rattle.base_order.proofs.build.empty_rows.Goals as goal

pub loop-preserved : goal.loop-preserved
loop-preserved c =
    let row = c.in_ok-new.ensures in
    c.in_ok-push.ensures.items ∙ rows-more (λ j. record { width = c.args.count; members = [] }) c.loop.counter c.loop.rows.items c.in_ok-new.field-0 c.loop.invariant
    (ap₂ (λ (w : ℕ) (m : List ℕ). record { width = w; members = m }) row.width row.members)
