-- Defines what it says that the canonical order is a total order.
use Rattle.std.specs.Cmp.{IsTotalOrder, on_total, then_total, nat_cmp_total}
use Rattle.std.specs.Cmp.Lexicographic.{options_total, lists_total, nat_list_cmp_total}
use Rattle.filter_values.specs.OrderTotal.{kind_total, value_total}
use Rattle.filter_constraints.specs.Order.{op_rank, op_cmp, constraint_cmp, list_cmp}

pub op_total : IsTotalOrder op_cmp
op_total = on_total op_rank nat_cmp_total

pub constraint_total : IsTotalOrder constraint_cmp
constraint_total = then_total (on_total (λ c. c.name) nat_list_cmp_total)
    (then_total (on_total (λ c. c.kind) kind_total) (then_total (on_total (λ c. c.op) op_total) (on_total (λ c. c.operand) (options_total value_total))))

pub list_total : IsTotalOrder list_cmp
list_total = lists_total constraint_total
