use Rattle.std.proofs.Common.{◌≡◌, ◌++◌, ◌≤◌, ◌+◌, drop}
use Rattle.base.specs.Numbers.{sum_over}
use Rattle.net_model.specs.Sound.{publishes}
use Rattle.output_flood.specs.Publications.{accepted_of}
use Rattle.output_flood.proofs.rows.accepted.Given as goal

abbrev pub invariant-loop-i : goal.invariant-loop-i
invariant-loop-i l = (l.accepted.items ++ accepted_of l.semantics (l.i + 1) (drop l.i l.clients) ≡ accepted_of l.semantics 1 l.clients)
    × (sum_over publishes (drop l.i l.clients) ≤ 100000)
