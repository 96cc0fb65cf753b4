-- What waits to be written, as contracts see it; no promise to a caller speaks of it.
use Rattle.std.specs.Prelude.{ℕ, List, [], ◌++◌}
use Rattle.net_model.specs.Parts.{EntryParts}
use Rattle.document_format.specs.DocumentText.{document_text}
use Rattle.program_sequential.specs.declared.body.Body.{Body}
use Rattle.program_sequential.specs.declared.body.Body.TheVariants.{Nothing, Received, Flooded, Found, Formatted, Carried}

-- the text and the journal
pub record PrintedParts : Type 0 where
  pub text : List ℕ
  pub journal : List EntryParts

-- the text of what clients received, of what flooding brings, of where patterns occur, of a document, or of what links carried
abbrev pub body_text : Body → List ℕ
body_text Nothing = []
body_text (Received text) = text
body_text (Flooded text) = text
body_text (Found text) = text
body_text (Formatted net) = document_text net
body_text (Carried text) = text

abbrev pub printed_parts : Body → List ℕ → List EntryParts → PrintedParts
printed_parts body rest journal = record { text = body_text body ++ rest; journal = journal }
