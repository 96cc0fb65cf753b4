-- What each server holds of its neighbours once a tree comes into force, from what the clients of each server have together.
use Rattle.std.specs.Prelude.{◌≡◌, ◌↔◌, ℕ, zero, suc, ◌≤◌, List, [], Option, Some, None, slice_get}
use Rattle.base.specs.Sets.{Has, IsRising}
use Rattle.filter_constraints.specs.Constraint.{ConstraintParts}
use Rattle.filter_types.specs.Before.{list_before}
use Rattle.filter_text.specs.declared.semantics.Semantics.{Semantics}
use Rattle.base_tree.specs.Tree.{Topology, servers_of, links_of}
use Rattle.law_routing.specs.Net.{Net}
use Rattle.law_routing.specs.Flow.{flow, flow_ad}
use Rattle.law_routing.specs.Server.{client_interface}
use Rattle.net_model.specs.Real.{real}
use Rattle.server_spec.specs.declared.control.HeldLink.{HeldLink}
use Rattle.server_spec.specs.Control.{by_adverts}
use Rattle.server_spec.specs.declared.home.Home.{Home}

-- the home of a server, numbered from 1
abbrev pub home_at : List Home → ℕ → Option Home
home_at homes zero = None
home_at homes (suc place) = slice_get homes place

-- the sets of a home, where there is one
abbrev pub home_filters : Option Home → List (List ConstraintParts)
home_filters None = []
home_filters (Some home) = home.filters

abbrev pub home_adverts : Option Home → List (List ConstraintParts)
home_adverts None = []
home_adverts (Some home) = home.adverts

-- the sets that are given of a server
abbrev pub filters_of : List Home → ℕ → List (List ConstraintParts)
filters_of homes server = home_filters (home_at homes server)

abbrev pub adverts_of : List Home → ℕ → List (List ConstraintParts)
adverts_of homes server = home_adverts (home_at homes server)

-- the net has these semantics and this tree; its clients are numbered from 1
pub record IsNetOn (semantics : Semantics) (tree : Topology) (net : Net real) : Type 0 where
  pub adverts : net.adverts ≡ by_adverts semantics
  pub servers : net.servers ≡ servers_of tree
  pub links : net.links ≡ links_of tree
  pub counted : (server client : ℕ) → Has client (net.clients server) → 1 ≤ client

-- what is given of each server has exactly what one of its clients has, by the client's interface
abbrev pub IsUnionOfClients : Net real → (ℕ → ℕ → List (List ConstraintParts)) → (ℕ → List (List ConstraintParts)) → Type 0
IsUnionOfClients net sets given = (server : ℕ) → Has server net.servers → (x : List ConstraintParts)
    → Has x (given server) ↔ ((client : ℕ) × Has client (net.clients server) × Has x (sets server (client_interface client)))

-- what a server holds of a neighbour is what flows, whatever the net on the tree and its clients' sets, of which the homes are the unions
pub record IsFlow (semantics : Semantics) (tree : Topology) (homes : List Home) (server : ℕ) (held : HeldLink) : Type 0 where
  pub filters : (net : Net real) (sets ad_sets : ℕ → ℕ → List (List ConstraintParts)) → IsNetOn semantics tree net
      → IsUnionOfClients net sets (filters_of homes) → IsUnionOfClients net ad_sets (adverts_of homes)
      → held.filters ≡ flow real net sets ad_sets server held.link
  pub adverts : (net : Net real) (ad_sets : ℕ → ℕ → List (List ConstraintParts)) → IsNetOn semantics tree net
      → IsUnionOfClients net ad_sets (adverts_of homes) → held.adverts ≡ flow_ad real net ad_sets server held.link

-- what a control asks of the links that it is given: numbers of servers, each once, with rising sets
pub record AreGivenLinks (links : List HeldLink) : Type 0 where
  pub small : (h : HeldLink) → Has h links → h.link ≤ 64
  pub distinct : (a b : HeldLink) → Has a links → Has b links → a.link ≡ b.link → a ≡ b
  pub filters : (h : HeldLink) → Has h links → IsRising list_before h.filters
  pub adverts : (h : HeldLink) → Has h links → IsRising list_before h.adverts
