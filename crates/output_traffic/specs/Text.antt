-- What each link carried beside plain flooding, as a text and as a graph.
use Rattle.std.specs.Prelude.{ℕ, zero, suc, ◌+◌, ◌*◌, ◌/◌, Bool, true, false, List, [], ◌∷◌, ◌++◌, codes}
use Rattle.std.specs.List.{flat_map}
use Rattle.base.specs.Text.{labelled}
use Rattle.base.specs.Numbers.{sum_over}
use Rattle.filter_text.specs.declared.sent.Sent.{Sent}
use Rattle.net_model.specs.Parts.{ClientParts, NetParts, EntryParts}
use Rattle.net_model.specs.Nets.{servers_in}
use Rattle.output_traffic.specs.declared.loads.Direction.{Direction}
use Rattle.output_traffic.specs.Carried.{notices_on, changes_on}
use Rattle.output_traffic.specs.Flood.{flood_on}
use Rattle.output_traffic.specs.Links.{links_in}

-- of the link from one server to another: the notifications that it carried, those that plain flooding puts there, and the messages on filters and
-- advertisements that it carried
pub record Loads : Type 0 where
  pub notices : ℕ → ℕ → ℕ
  pub flood : ℕ → ℕ → ℕ
  pub messages : ℕ → ℕ → ℕ

-- the loads of a net's links by a journal, with the messages of its entries beside them
abbrev pub loads_of : NetParts → List EntryParts → List (List Sent) → Loads
loads_of net journal outs = record { notices = notices_on journal outs; flood = flood_on net; messages = changes_on journal outs }

-- one of them
abbrev pub direction_of : Loads → ℕ → ℕ → Direction
direction_of loads from to =
    record { from = from; to = to; notices = loads.notices from to; flood = loads.flood from to; messages = loads.messages from to }

-- the end of a line: ` notices N flood F messages M`
unfoldable pub counts_end : ℕ → ℕ → ℕ → List ℕ
counts_end notices flood messages =
    labelled (codes " notices ") notices ++ labelled (codes " flood ") flood ++ labelled (codes " messages ") messages ++ codes "\n"

-- `link FROM TO notices N flood F messages M`
unfoldable pub direction_line : Direction → List ℕ
direction_line d = labelled (codes "link ") d.from ++ labelled (codes " ") d.to ++ counts_end d.notices d.flood d.messages

-- the sum of a quantity over both directions of each link
abbrev pub in_all : (ℕ → ℕ → ℕ) → List (ℕ × ℕ) → ℕ
in_all quantity links = sum_over (λ link. quantity link.0 link.1 + quantity link.1 link.0) links

-- `traffic notices N flood F messages M`
unfoldable pub total_line : ℕ → ℕ → ℕ → List ℕ
total_line notices flood messages = codes "traffic" ++ counts_end notices flood messages

-- how wide a direction is drawn, from 1 to 9, by the share of flooding's notifications that it carried
abbrev pub width : ℕ → ℕ → ℕ
width notices zero = 1
width notices (suc flood) = 1 + 8 * notices / suc flood

-- `  SERVER [shape=circle];`
unfoldable pub server_node : ℕ → List ℕ
server_node server = labelled (codes "  ") server ++ codes " [shape=circle];\n"

-- a client by its number and its name, tied to its server
unfoldable pub client_node : ℕ → ClientParts → List ℕ
client_node number client =
    labelled (codes "  c") number ++ codes " [shape=box, label=\"" ++ client.name ++ codes "\"];\n"
    ++ labelled (codes "  c") number ++ labelled (codes " -> ") client.home ++ codes " [dir=none];\n"

-- clients numbered on from a number
abbrev pub client_nodes : ℕ → List ClientParts → List ℕ
client_nodes number [] = []
client_nodes number (client ∷ clients) = client_node number client ++ client_nodes (suc number) clients

-- `  FROM -> TO [label="N of F, M", penwidth=W];`
unfoldable pub direction_arrow : Direction → List ℕ
direction_arrow d =
    labelled (codes "  ") d.from ++ labelled (codes " -> ") d.to ++ labelled (codes " [label=\"") d.notices ++ labelled (codes " of ") d.flood
    ++ labelled (codes ", ") d.messages ++ labelled (codes "\", penwidth=") (width d.notices d.flood) ++ codes "];\n"

-- a direction, as an arrow of the graph or as a line of the text
abbrev pub direction_printed : Bool → Direction → List ℕ
direction_printed true d = direction_arrow d
direction_printed false d = direction_line d

-- both directions of a link
abbrev pub link_printed : Bool → Loads → ℕ × ℕ → List ℕ
link_printed graph loads link = direction_printed graph (direction_of loads link.0 link.1) ++ direction_printed graph (direction_of loads link.1 link.0)

-- THE TEXT OF THE TRAFFIC: each link in both directions, and the sums
abbrev pub traffic_text : NetParts → Loads → List ℕ
traffic_text net loads =
    flat_map (link_printed false loads) (links_in net)
    ++ total_line (in_all loads.notices (links_in net)) (in_all loads.flood (links_in net)) (in_all loads.messages (links_in net))

-- THE GRAPH OF THE TRAFFIC: its servers, its clients, and an arrow for each direction of each link
abbrev pub traffic_graph : NetParts → Loads → List ℕ
traffic_graph net loads =
    codes "digraph traffic {\n" ++ flat_map server_node (servers_in net) ++ client_nodes 1 net.clients ++ flat_map (link_printed true loads) (links_in net)
    ++ codes "}\n"

-- WHAT THE WORD `traffic` PRINTS: the text, or the graph
abbrev pub traffic_printed : Bool → NetParts → Loads → List ℕ
traffic_printed true net loads = traffic_graph net loads
traffic_printed false net loads = traffic_text net loads
