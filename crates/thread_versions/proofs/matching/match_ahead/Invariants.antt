use Rattle.std.proofs.Common.{◌≡◌}
use Rattle.thread_versions.specs.Ends.{width_of}
use Rattle.thread_versions.proofs.matching.match_ahead.Given as goal

abbrev pub invariant-loop : goal.invariant-loop
invariant-loop g l =
    (goal.iterator-loop g).can_next l.iterator' × (goal.iterator-loop g).is_finite l.iterator' × (l.viewer.front.seen ≡ l.initial.viewer.front.seen)
    × (width_of l.viewer ≡ width_of l.initial.viewer)
