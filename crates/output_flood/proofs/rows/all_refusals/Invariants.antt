use Rattle.std.proofs.Common.{◌≡◌, ◌++◌, ◌≤◌, drop}
use Rattle.base.specs.Numbers.{sum_over}
use Rattle.net_model.specs.Sound.{publishes}
use Rattle.output_flood.specs.Publications.{all_refusals_of}
use Rattle.output_flood.proofs.rows.all_refusals.Given as goal

abbrev pub invariant-loop-client : goal.invariant-loop-client
invariant-loop-client l = (l.all.items ++ all_refusals_of l.semantics (drop l.client-index l.clients) ≡ all_refusals_of l.semantics l.clients)
    × (sum_over publishes (drop l.client-index l.clients) ≤ 100000)
