use Rattle.std.proofs.Common.{◌≡◌, max, drop}
use Rattle.net_model.specs.Nets.{most_barriers}
use Rattle.net_model.proofs.net.Net.phases.Given as goal

abbrev pub invariant-loop-client : goal.invariant-loop-client
invariant-loop-client l = max l.most (most_barriers (drop l.client-index l.client-items)) ≡ most_barriers l.client-items
