-- The clients that live at a neighbour of a server or beyond it, and what they subscribe to.
use Rattle.std.specs.Prelude.{ℕ, List, filter}
use Rattle.std.specs.List.{flat_map}
use Rattle.base.specs.Sets.{set_of}
use Rattle.base_tree.specs.Hops.{side}
use Rattle.law_routing.specs.Theory.{Theory}
use Rattle.law_routing.specs.Net.{Net}
use Rattle.law_routing.specs.Routing.{Network}
use Rattle.law_routing.specs.Rest.{filters_of}

module _ (theory : Theory) (net : Net theory) where
  -- the clients of the servers to which the way from a server begins with this neighbour
  abbrev pub clients_beyond : ℕ → ℕ → List ℕ
  clients_beyond server neighbour = flat_map net.clients (filter (side net.hop server neighbour) net.servers)

  -- the union of their lists of filters
  abbrev pub filters_beyond : Network theory net → ℕ → ℕ → List theory.Filter
  filters_beyond network server neighbour = set_of theory.before (flat_map (filters_of theory net network) (clients_beyond server neighbour))
