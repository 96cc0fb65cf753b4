use Rattle.std.proofs.Common.{◌≡◌, ◌-◌, ◌==◌, ◌&&◌, not, filter, get_or}
use Rattle.std.specs.List.{range_with_len}
use Rattle.base_tree.proofs.row.Row.neighbours.Given as goal

abbrev pub invariant-loop-b : goal.invariant-loop-b
invariant-loop-b l = l.numbers.items ≡ filter (λ b. not (b == l.a) && (get_or l.self b 0 == b)) (range_with_len 1 (l.b - 1))
