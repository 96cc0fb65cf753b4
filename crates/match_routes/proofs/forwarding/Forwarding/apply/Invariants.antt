use Rattle.std.proofs.Common.{◌≡◌, drop}
use Rattle.match_routes.specs.Installed.{IsOfSame, AreKnown, all_changed}
use Rattle.match_routes.proofs.forwarding.Forwarding.apply.Given as goal

abbrev pub invariant-loop-change : goal.invariant-loop-change
invariant-loop-change l = record {
  same : IsOfSame l.self l.fn.self;
  known : AreKnown l.self (drop l.change-index l.changes);
  pairs : all_changed (drop l.change-index l.changes) l.self.pairs ≡ all_changed l.changes l.fn.self.pairs;
}
