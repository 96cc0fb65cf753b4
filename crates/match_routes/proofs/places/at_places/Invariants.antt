use Rattle.match_routes.proofs.Joined.{IsListedTo}
use Rattle.match_routes.proofs.places.at_places.Given as goal

abbrev pub invariant-loop-k : goal.invariant-loop-k
invariant-loop-k l = IsListedTo l.fn.places.items l.interfaces l.k l.route.items
