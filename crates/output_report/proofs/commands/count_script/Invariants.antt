use Rattle.std.proofs.Common.{◌≡◌, ◌+◌, ◌≤◌, not, drop}
use Rattle.base.specs.Numbers.{sum_over, count}
use Rattle.law_routing.specs.Clients.{is_publish}
use Rattle.net_model.specs.Real.{real}
use Rattle.net_model.specs.Meaning.{command_of}
use Rattle.net_model.specs.Sound.{controls, publishes}
use Rattle.output_report.proofs.commands.count_script.Given as goal

abbrev pub invariant-loop-command : goal.invariant-loop-command
invariant-loop-command l =
    (l.publishes + sum_over (λ step. count (is_publish real (command_of step.1))) (drop l.command-index l.client.script) ≡ publishes l.client)
    × (l.controls + sum_over (λ step. count (not (is_publish real (command_of step.1)))) (drop l.command-index l.client.script) ≡ controls l.client)
    × (l.publishes + l.controls ≤ l.command-index)
