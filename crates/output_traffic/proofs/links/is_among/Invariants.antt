use Rattle.std.proofs.Common.{◌≡◌, drop}
use Rattle.law_routing.specs.Server.{is_among}
use Rattle.output_traffic.proofs.links.is_among.Given as goal

-- it is among all where it is among those that are left
abbrev pub invariant-loop-other : goal.invariant-loop-other
invariant-loop-other l = is_among l.number (drop l.other-index l.numbers) ≡ is_among l.number l.numbers
