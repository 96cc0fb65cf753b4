use Rattle.std.proofs.Common.{◌≡◌, ◌++◌}
use Rattle.output_patterns.specs.Published.{names_in, notices_in}
use Rattle.output_patterns.proofs.published.publications.Given as goal

abbrev pub invariant-loop-client : goal.invariant-loop-client
invariant-loop-client l =
    (l.names.items ++ names_in l.client-iterator.rest.items ≡ names_in l.fn.clients.items)
    × (l.notices.items ++ notices_in l.client-iterator.rest.items ≡ notices_in l.fn.clients.items)
