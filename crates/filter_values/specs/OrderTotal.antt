-- States that the orders of kinds and of values are total orders.
use Rattle.std.specs.Cmp.{IsTotalOrder, on_total, then_total, nat_cmp_total, int_cmp_total}
use Rattle.std.specs.Cmp.Lexicographic.{nat_list_cmp_total}
use Rattle.filter_values.specs.Value.{kind_of}
use Rattle.filter_values.specs.Order.{kind_rank, kind_cmp, truth_rank, number_in, bytes_in, value_cmp}

pub kind_total : IsTotalOrder kind_cmp
kind_total = on_total kind_rank nat_cmp_total

pub value_total : IsTotalOrder value_cmp
value_total = then_total (on_total kind_of kind_total)
    (then_total (on_total truth_rank nat_cmp_total) (then_total (on_total number_in int_cmp_total) (on_total bytes_in nat_list_cmp_total)))
