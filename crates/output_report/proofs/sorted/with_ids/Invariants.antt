use Rattle.std.proofs.Common.{◌≡◌, take, map}
use Rattle.net_inbox.specs.Inbox.{delivery_at}
use Rattle.output_report.proofs.sorted.with_ids.Given as goal

abbrev pub invariant-loop-number : goal.invariant-loop-number
invariant-loop-number l = l.keyed.items ≡ map (λ n. record { id = (delivery_at l.deliveries n).id; number = n }) (take l.number-index l.numbers)
