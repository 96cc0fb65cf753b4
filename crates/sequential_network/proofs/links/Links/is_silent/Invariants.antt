use Rattle.std.proofs.Common.{◌≡◌, ℕ, ◌<◌, []}
use Rattle.sequential_network.specs.Links.{messages_at}
use Rattle.sequential_network.proofs.links.Links.is_silent.Given as goal

abbrev pub invariant-loop-to : goal.invariant-loop-to
invariant-loop-to l = (b : ℕ) → b < l.to → messages_at l.self l.from b ≡ []
