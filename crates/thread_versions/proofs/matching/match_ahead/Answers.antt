use Rattle.thread_versions.proofs.Pairs.{is-route}
use Rattle.thread_versions.proofs.matching.match_ahead.Goals as goal

pub returns-then-front-ahead-clause-route : goal.returns-then-front-ahead-clause-route
returns-then-front-ahead-clause-route g c =
    let a = c.in_ok-ahead.ahead in
    is-route a.matched.members a.front.seen.log a.route a.routed
