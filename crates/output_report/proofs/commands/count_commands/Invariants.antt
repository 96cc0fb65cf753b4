use Rattle.std.proofs.Common.{◌≡◌, ◌+◌, drop}
use Rattle.base.specs.Numbers.{sum_over}
use Rattle.net_model.specs.Sound.{controls, publishes}
use Rattle.output_report.proofs.commands.count_commands.Given as goal

abbrev pub invariant-loop-client : goal.invariant-loop-client
invariant-loop-client l =
    (l.publishes + sum_over publishes (drop l.client-index l.clients) ≡ sum_over publishes l.clients)
    × (l.controls + sum_over controls (drop l.client-index l.clients) ≡ sum_over controls l.clients)
