-- Defines the text of what flooding owes and allows.
use Rattle.std.specs.Prelude.{ℕ, Bool, true, false, List, [], ◌∷◌, ◌++◌, codes}
use Rattle.std.specs.List.{flat_map}
use Rattle.net_model.specs.Parts.{ClientParts, NetParts}
use Rattle.output_flood.specs.declared.owed.OwedRow.{OwedRow}
use Rattle.output_report.specs.Lines.{client_line, refused_line, publication_line}
use Rattle.output_report.specs.Published.{texts_in, text_at}

-- what is owed is delivered; what is allowed alone may be
abbrev pub row_word : Bool → List ℕ
row_word true = codes "deliver "
row_word false = codes "may "

-- the line of a row, by the texts of what clients publish
unfoldable pub row_line : List ClientParts → List (List (List ℕ)) → OwedRow → List ℕ
row_line clients texts row = publication_line (row_word row.must) clients row.id (text_at texts row.id)

-- a client, its refused publishes, and its rows
unfoldable pub flood_section : List ClientParts → List (List (List ℕ)) → ClientParts → List ℕ → List OwedRow → List ℕ
flood_section clients texts client refused rows = client_line client.name ++ flat_map refused_line refused ++ flat_map (row_line clients texts) rows

-- all clients, with their refused publishes and their rows beside them
abbrev pub flood_sections : List ClientParts → List (List (List ℕ)) → List ClientParts → List (List ℕ) → List (List OwedRow) → List ℕ
flood_sections clients texts [] refused rows = []
flood_sections clients texts (client ∷ rest) [] rows = []
flood_sections clients texts (client ∷ rest) (ordinals ∷ refused) [] = []
flood_sections clients texts (client ∷ rest) (ordinals ∷ refused) (list ∷ rows) =
    flood_section clients texts client ordinals list ++ flood_sections clients texts rest refused rows

-- THE TEXT OF WHAT FLOODING BRINGS
abbrev pub flood_text : NetParts → List (List ℕ) → List (List OwedRow) → List ℕ
flood_text net refused rows = flood_sections net.clients (texts_in net.clients) net.clients refused rows
