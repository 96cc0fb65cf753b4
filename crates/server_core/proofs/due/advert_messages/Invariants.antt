use Rattle.std.proofs.Common.{◌≡◌, ◌≢◌, ℕ, List, Some, slice_get, take}
use Rattle.law_routing.specs.Server.{Message}
use Rattle.net_model.specs.Real.{real}
use Rattle.server_stock.specs.Sides.{Announced}
use Rattle.server_message.specs.Parts.{sent_by}
use Rattle.server_core.specs.Showing.{AnnouncesFilters, AnnouncesAdverts}
use Rattle.server_core.proofs.due.advert_messages.Given as goal

abbrev pub invariant-loop-p : goal.invariant-loop-p
invariant-loop-p l = (messages : ℕ → List (Message real)) → ((p : ℕ) (t : Announced) → slice_get l.links p ≡ Some l.interface → slice_get l.filters.announced p ≡ Some t
    → AnnouncesFilters l.filters.items t (messages l.interface)) → ((p link : ℕ) (t : Announced) → slice_get l.links p ≡ Some link → link ≢ l.interface → slice_get l.adverts.announced p ≡ Some t
    → AnnouncesAdverts l.adverts.items t (messages link)) → l.sent.items ≡ sent_by l.tables messages (take l.p l.links)
