-- What plain flooding puts on each link: each accepted publication once over each link of the tree in force in its phase, but back to where it came from.
use Rattle.std.specs.Prelude.{ℕ, Bool, ◌&&◌, List, length}
use Rattle.base_tree.specs.Hops.{side}
use Rattle.base_tree.specs.Tree.{Topology, links_of, hop_of}
use Rattle.law_routing.specs.Server.{is_among}
pub use Rattle.law_phases.specs.Economy.{is_accepted, accepted_phases, floods_over, flooded_by, flooded}
use Rattle.net_model.specs.Real.{real}
use Rattle.net_model.specs.Parts.{NetParts}
use Rattle.net_model.specs.Nets.{phased_net, clients_in, script_of}
use Rattle.net_model.specs.Lists.{refused_ordinals}

-- the same on one tree
abbrev pub is_flooded : Topology → ℕ → ℕ → ℕ → Bool
is_flooded tree home from to = is_among to (links_of tree from) && side (hop_of tree) to from home

-- WHAT PLAIN FLOODING PUTS on the link from one server to another
abbrev pub flood_on : NetParts → ℕ → ℕ → ℕ
flood_on net from to = flooded real (phased_net net) (clients_in net) from to

-- the ordinals of a client's refused publishes
abbrev pub refused_of : NetParts → ℕ → List ℕ
refused_of net client = refused_ordinals net client (length (script_of net client))
