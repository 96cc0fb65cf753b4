-- What clients have of which nothing is handed on yet, while a network of whatever kind is taken apart.
use Rattle.std.specs.Prelude.{◌≡◌, ℕ, ◌-◌, ◌<◌, ◌≤◌, List, length, slice_get, Some}
use Rattle.base.specs.Sets.{Has}
use Rattle.filter_text.specs.Deliveries.{Delivery}
use Rattle.net_model.specs.Parts.{NetParts}
use Rattle.net_model.specs.Nets.{first_tree, home_of}
use Rattle.server_spec.specs.Session.{SessionParts}
use Rattle.server_core.specs.Clients.{client_numbers}
use Rattle.sequential_network.specs.Stepping.{Stepping}

-- the clients behind the first so many live at their homes, with what was delivered to each
pub record HaveInboxes {P : Type 0} (kind : Stepping P) (net : NetParts) (delivered : ℕ → List Delivery) (done : ℕ) (cores : List P) : Type 0 where
  pub all : length cores ≡ (first_tree net.trees).count
  pub nets : (client : ℕ) (core : P) → done < client → client ≤ length net.clients → slice_get cores (home_of net client - 1) ≡ Some core
      → (kind.core core).net ≡ net
  pub lives : (client : ℕ) (core : P) → done < client → client ≤ length net.clients → slice_get cores (home_of net client - 1) ≡ Some core
      → Has client (client_numbers (kind.core core).clients)
  pub inbox : (client : ℕ) (core : P) (s : SessionParts) → done < client → client ≤ length net.clients
      → slice_get cores (home_of net client - 1) ≡ Some core → Has s (kind.core core).clients → s.client ≡ client → s.inbox ≡ delivered client
