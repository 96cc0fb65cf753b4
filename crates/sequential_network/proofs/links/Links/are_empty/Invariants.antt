use Rattle.std.proofs.Common.{◌≡◌, ℕ, ◌<◌, []}
use Rattle.sequential_network.specs.Links.{messages_at}
use Rattle.sequential_network.proofs.links.Links.are_empty.Given as goal

abbrev pub invariant-loop-from : goal.invariant-loop-from
invariant-loop-from l = (a b : ℕ) → a < l.from → messages_at l.self a b ≡ []
