-- Defines the lists of clients as the network knows them, ways through the tree, and when the network is at rest.
use Rattle.std.specs.Prelude.{◌≡◌, ℕ, ◌+◌, true, false, List, [], ◌∷◌, length, take}
use Rattle.base.specs.Sets.{Has}
use Rattle.law_machine.specs.Runs.{IsQuiet}
use Rattle.law_routing.specs.Theory.{Theory}
use Rattle.law_routing.specs.Net.{Net}
use Rattle.law_routing.specs.Clients.{filters_after, adverts_after}
use Rattle.law_routing.specs.Server.{sent, sent_adverts, client_interface}
use Rattle.law_routing.specs.Routing.{routing_machine, Network}

module _ (theory : Theory) (net : Net theory) where
  -- the filters of a client, after those of its commands that were executed
  abbrev pub filters_of : Network theory net → ℕ → List theory.Filter
  filters_of network client = filters_after theory [] (take ((network.state (net.home client)).done client) (net.script client))

  -- and its advertisements
  abbrev pub adverts_of : Network theory net → ℕ → List theory.Advert
  adverts_of network client = adverts_after theory [] (take ((network.state (net.home client)).done client) (net.script client))

  -- a way from a server along neighbours that does not turn back, coming from before
  abbrev pub IsOnwardWay : ℕ → ℕ → List ℕ → Type 0
  IsOnwardWay before server [] = Unit {0}
  IsOnwardWay before server (next ∷ path) = Has next (net.links server) × (next ≡ before → ⊥) × IsOnwardWay server next path

  -- where a way from a server ends
  abbrev pub end_of : ℕ → List ℕ → ℕ
  end_of server [] = server
  end_of server (next ∷ path) = end_of next path

  -- there is a way from a server to another
  pub record HasWay (server other : ℕ) : Type 0 where
    pub path : List ℕ
    pub way : IsOnwardWay server server path
    pub end : end_of server path ≡ other

  -- nothing is on its way or pending, what is installed is what is held, clients' sets are their lists, and what is held of a neighbour is what it sends
  pub record IsAtRest (network : Network theory net) : Type 0 where
    pub empty : (a b : ℕ) → network.taken a b ≡ length (network.put a b)
    pub none_pending : (server : ℕ) → (network.state server).pending ≡ false
    pub installed : (server interface : ℕ) → (network.state server).installed interface ≡ (network.state server).subs interface
    pub filters : (server client : ℕ) → Has client (net.clients server) → (network.state server).subs (client_interface client) ≡ filters_of network client
    pub adverts : (server client : ℕ) → Has client (net.clients server) → net.adverts ≡ true
        → (network.state server).advs (client_interface client) ≡ adverts_of network client
    pub subs : (from to : ℕ) → Has to (net.links from) → (network.state to).subs from ≡ sent theory net (network.state from) from to
    pub advs : (from to : ℕ) → Has to (net.links from) → (network.state to).advs from ≡ sent_adverts theory net (network.state from) from to

  -- all commands are executed, all links are empty and nothing is pending
  pub record IsDrained (network : Network theory net) : Type 0 where
    pub quiet : IsQuiet (routing_machine theory net) network
    pub taken : (server client : ℕ) → Has client (net.clients server) → (network.state server).done client ≡ length (net.script client)
