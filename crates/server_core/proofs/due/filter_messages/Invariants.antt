use Rattle.std.proofs.Common.{◌≡◌, ℕ, List, Some, slice_get, take}
use Rattle.law_routing.specs.Server.{Message}
use Rattle.net_model.specs.Real.{real}
use Rattle.server_stock.specs.Sides.{Announced}
use Rattle.server_message.specs.Parts.{sent_by}
use Rattle.server_core.specs.Showing.{AnnouncesFilters}
use Rattle.server_core.proofs.due.filter_messages.Given as goal

abbrev pub invariant-loop-p : goal.invariant-loop-p
invariant-loop-p l = (messages : ℕ → List (Message real)) → ((p link : ℕ) (t : Announced) → slice_get l.links p ≡ Some link → slice_get l.filters.announced p ≡ Some t
    → AnnouncesFilters l.filters.items t (messages link)) → l.sent.items ≡ sent_by l.tables messages (take l.p l.links)
