use Rattle.std.proofs.Common.{◌≡◌, ℕ, List, map}
use Rattle.std.specs.List.{range_with_len}
use Rattle.filter_text.specs.Deliveries.{Delivery}
use Rattle.sequential_network.specs.Inboxes.{HaveInboxes}
use Rattle.sequential_network.proofs.inboxes.take_inboxes.Given as goal

-- the first clients' inboxes are listed, and the others have theirs
abbrev pub invariant-loop-place : goal.invariant-loop-place
invariant-loop-place g l = record {
  listed : (delivered : ℕ → List Delivery) → HaveInboxes g.P.Server.stepping l.net delivered 0 l.initial.servers.places.items
      → (l.lists.items ≡ map delivered (range_with_len 1 l.place)) × HaveInboxes g.P.Server.stepping l.net delivered l.place l.servers.places.items;
  journal : l.servers.journal ≡ l.initial.servers.journal;
}
