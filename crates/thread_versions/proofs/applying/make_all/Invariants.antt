use Rattle.std.proofs.Common.{◌≡◌, drop, fold}
use Rattle.thread_versions.specs.Pairs.{made}
use Rattle.thread_versions.proofs.applying.make_all.Given as goal

abbrev pub invariant-loop-change : goal.invariant-loop-change
invariant-loop-change l = record {
  same : l.interfaces ≡ l.forwarding.interfaces;
  kept : l.forwarding.interfaces ≡ l.fn.forwarding.interfaces;
  rest : fold made l.forwarding (drop l.change-index l.changes) ≡ fold made l.fn.forwarding l.changes;
}
