use Rattle.std.proofs.Common.{◌≡◌, drop}
use Rattle.net_inbox.specs.Inbox.{in_order}
use Rattle.program_sequential.specs.Explanations.{is_received}
use Rattle.program_sequential.proofs.explanation.is_received.Given as goal

abbrev pub invariant-loop-number : goal.invariant-loop-number
invariant-loop-number l = is_received l.id (drop l.number-index (in_order l.received)) ≡ is_received l.id (in_order l.received)
