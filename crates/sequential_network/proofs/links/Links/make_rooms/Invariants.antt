use Rattle.std.proofs.Common.{◌≡◌, ℕ, take, true}
use Rattle.base.specs.Sets.{Has}
use Rattle.sequential_network.specs.Links.{has_room, AreSame}
use Rattle.sequential_network.proofs.links.Links.make_rooms.Given as goal

abbrev pub invariant-loop-to : goal.invariant-loop-to
invariant-loop-to l = ((link : ℕ) → Has link (take l.to-index l.links) → has_room l.self l.from link ≡ true) × AreSame l.initial.self l.self
