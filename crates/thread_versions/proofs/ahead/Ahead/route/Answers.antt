use Rattle.thread_versions.proofs.Pairs.{is-route}
use Rattle.thread_versions.proofs.ahead.Ahead.route.Goals as goal

pub returns-clause-routed : goal.returns-clause-routed
returns-clause-routed c = let a = c.args.self.now in is-route a.matched.members a.front.seen.log a.route a.routed
