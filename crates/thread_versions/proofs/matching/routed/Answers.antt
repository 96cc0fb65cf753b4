use Rattle.std.proofs.Common.{◌∙◌, sym, ap}
use Rattle.thread_versions.specs.Pairs.{pairs_after, route_of}
use Rattle.thread_versions.proofs.Pairs.{route-is}
use Rattle.thread_versions.proofs.matching.routed.Goals as goal

pub invariant_of-result : goal.invariant_of-result
invariant_of-result c =
    let version = c.args.version.now in
    let by = route-is c.args.matched.now.members version.forwarding.pairs version.front.seen.log c.in_ok-route.field-0 c.requires.folded c.in_ok-route.ensures in record {
      routed = by
          ∙ ap (λ n. route_of n.members (pairs_after version.front.seen.log)) (sym c.in_ok-owned.ensures)
          ∙ ap (λ s. route_of c.in_ok-owned.field-0.members (pairs_after s.log)) (sym c.again.ensures.1);
    }
