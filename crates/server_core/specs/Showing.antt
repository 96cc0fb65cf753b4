-- What is held by numbers, as the pairs of an interface and an item that contracts see; and what was announced on a link, as its messages.
use Rattle.std.specs.Prelude.{◌≡◌, ℕ, List, map, take, length}
use Rattle.std.specs.List.{flat_map}
use Rattle.filter_constraints.specs.Constraint.{ConstraintParts}
use Rattle.filter_types.specs.Before.{list_before}
use Rattle.base.specs.Sets.{IsRising}
use Rattle.filter_text.specs.Messages.{Lists}
use Rattle.law_routing.specs.Server.{Message}
use Rattle.net_model.specs.Real.{real}
use Rattle.server_spec.specs.Holdings.{Holding}
use Rattle.server_spec.specs.Control.{Controlled, filter_change, advert_change}
use Rattle.server_stock.specs.Sides.{Announced}
use Rattle.server_stock.specs.Stock.{IsAnnounced}
use Rattle.filter_text.specs.declared.semantics.Semantics.TheVariants.{Advertisement}
use Rattle.net_model.specs.Parts.{NetParts}
use Rattle.net_tables.specs.Known.{known_filters, known_adverts}
use Rattle.server_control.specs.Control.{Controlled as Numbered, subs, advs}

-- what interfaces hold, interface by interface
abbrev pub holdings_by : List ℕ → (ℕ → Lists) → List (Holding (List ConstraintParts))
holdings_by interfaces held = flat_map (λ i. map (λ x. record { interface = i; item = x }) (held i)) interfaces

-- a control by numbers, as its pairs
abbrev pub shown : Numbered → Controlled
shown control = record {
  semantics = control.semantics;
  links = take (length control.filters.announced) control.filters.interfaces;
  filters = holdings_by control.filters.interfaces (subs control);
  adverts = holdings_by control.adverts.interfaces (advs control);
}

-- what was announced on a link represents these messages on filters
pub record AnnouncesFilters (items : Lists) (announced : Announced) (messages : List (Message real)) : Type 0 where
  pub old : Lists
  pub new : Lists
  pub is_announced : IsAnnounced list_before items old new announced
  pub old_rising : IsRising list_before old
  pub new_rising : IsRising list_before new
  pub change : filter_change old new ≡ messages

-- the same of advertisements
pub record AnnouncesAdverts (items : Lists) (announced : Announced) (messages : List (Message real)) : Type 0 where
  pub old : Lists
  pub new : Lists
  pub is_announced : IsAnnounced list_before items old new announced
  pub old_rising : IsRising list_before old
  pub new_rising : IsRising list_before new
  pub change : advert_change old new ≡ messages

-- what was announced on a link, of the filters of a net
pub record FiltersAnnounced (net : NetParts) (items : Lists) (announced : Announced) (messages : List (Message real)) : Type 0 where
  pub items_are : items ≡ known_filters net.clients
  pub announces : AnnouncesFilters items announced messages

-- of its advertisements, under advertisement semantics
pub record AdvertsAnnounced (net : NetParts) (items : Lists) (announced : Announced) (messages : List (Message real)) : Type 0 where
  pub items_are : items ≡ known_adverts net.clients
  pub steered : net.semantics ≡ Advertisement
  pub announces : AnnouncesAdverts items announced messages
