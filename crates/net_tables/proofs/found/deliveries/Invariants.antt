use Rattle.std.proofs.Common.{◌≡◌, take, map}
use Rattle.net_tables.specs.Found.{delivery_of}
use Rattle.net_tables.proofs.found.deliveries.Given as goal

-- those so far were put in
abbrev pub invariant-loop-known : goal.invariant-loop-known
invariant-loop-known l = l.builder ≡ map delivery_of (take l.known-index l.publications)
