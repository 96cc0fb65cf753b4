use Rattle.std.proofs.Common.{◌≡◌, ℕ, List, map}
use Rattle.std.specs.List.{range_with_len}
use Rattle.filter_text.specs.Deliveries.{Delivery}
use Rattle.sequential_network.specs.Inboxes.{HaveInboxes}
use Rattle.sequential_network.specs.Stepping.{peers}
use Rattle.thread_outcome.proofs.inboxes.take_inboxes.Given as goal

-- the first clients' inboxes are listed, and the others have theirs
abbrev pub invariant-loop-place : goal.invariant-loop-place
invariant-loop-place l = (delivered : ℕ → List Delivery) → HaveInboxes peers l.net delivered 0 l.initial.cores
    → (l.lists.items ≡ map delivered (range_with_len 1 l.place)) × HaveInboxes peers l.net delivered l.place l.cores
