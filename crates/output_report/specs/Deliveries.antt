-- Defines the text of what clients received.
use Rattle.std.specs.Prelude.{ℕ, Bool, cond, List, [], ◌∷◌, ◌++◌, codes}
use Rattle.std.specs.List.{flat_map}
use Rattle.filter_text.specs.Deliveries.{Delivery}
use Rattle.net_model.specs.Parts.{ClientParts, NetParts}
use Rattle.output_flood.specs.Flooding.{id_before}
use Rattle.output_report.specs.Lines.{client_line, refused_line, publication_line}

-- a delivery put in front of those whose id is not before its own
abbrev pub put_by_id : Delivery → List Delivery → List Delivery
put_by_id d [] = d ∷ []
put_by_id d (e ∷ rest) = cond (id_before e.id d.id) (e ∷ put_by_id d rest) (d ∷ e ∷ rest)

-- deliveries by publisher and ordinal; those of one publication in their order
abbrev pub by_id : List Delivery → List Delivery
by_id [] = []
by_id (d ∷ rest) = put_by_id d (by_id rest)

-- the deliveries in the order that is wanted
abbrev pub ordered : Bool → List Delivery → List Delivery
ordered sorted received = cond sorted (by_id received) received

-- `deliver PUBLISHER ORDINAL NOTICE`
unfoldable pub delivery_line : List ClientParts → Delivery → List ℕ
delivery_line clients d = publication_line (codes "deliver ") clients d.id d.bytes

-- a client, its refused publishes, and its deliveries
unfoldable pub delivery_section : List ClientParts → Bool → ClientParts → List ℕ → List Delivery → List ℕ
delivery_section clients sorted client refused received =
    client_line client.name ++ flat_map refused_line refused ++ flat_map (delivery_line clients) (ordered sorted received)

-- all clients, with their refused publishes and their deliveries beside them
abbrev pub delivery_sections : List ClientParts → Bool → List ClientParts → List (List ℕ) → List (List Delivery) → List ℕ
delivery_sections clients sorted [] refused received = []
delivery_sections clients sorted (client ∷ rest) [] received = []
delivery_sections clients sorted (client ∷ rest) (ordinals ∷ refused) [] = []
delivery_sections clients sorted (client ∷ rest) (ordinals ∷ refused) (list ∷ received) =
    delivery_section clients sorted client ordinals list ++ delivery_sections clients sorted rest refused received

-- THE TEXT OF WHAT THE CLIENTS RECEIVED
abbrev pub deliveries_text : NetParts → List (List ℕ) → List (List Delivery) → Bool → List ℕ
deliveries_text net refused received sorted = delivery_sections net.clients sorted net.clients refused received
