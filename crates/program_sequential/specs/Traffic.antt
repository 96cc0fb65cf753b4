-- What is printed of what the links of a document carry in its walk.
use Rattle.std.specs.Prelude.{◌≡◌, ℕ, Bool, List}
use Rattle.net_model.specs.Parts.{NetParts, EntryParts}
use Rattle.net_turns.specs.Network.{IsLegal, IsDrainedBy}
use Rattle.net_turns.specs.Told.{told_by}
use Rattle.document_reader.specs.Net.{IsNetOf}
use Rattle.output_traffic.specs.Text.{loads_of, traffic_printed}
use Rattle.output_traffic.specs.Laws.{AsManyWhereOwed, NeverMore}
use Rattle.program_sequential.specs.declared.words.Schedule.TheVariants.{Walk}
use Rattle.program_sequential.specs.Runs.{GoesBy}

-- THE TEXT OF THE TRAFFIC of a journal, or its graph: what its entries put on each link, beside what plain flooding puts there
abbrev pub traffic_of : Bool → NetParts → List EntryParts → List ℕ
traffic_of graph net journal = traffic_printed graph net (loads_of net journal (told_by net journal))

-- the text is that of the traffic of a document's walk, in which no link carries more notifications than plain flooding puts on it, and as many where all
-- that flooding sends over it is owed to clients beyond
pub record IsTrafficOf (graph : Bool) (input text : List ℕ) (journal : List EntryParts) : Type 0 where
  pub net : NetParts
  pub well_formed : IsNetOf input net
  pub legal : IsLegal net journal
  pub drained : IsDrainedBy net journal
  pub goes_by : GoesBy Walk net journal
  pub printed : text ≡ traffic_of graph net journal
  pub never_more : NeverMore net journal (told_by net journal)
  pub as_many : AsManyWhereOwed net journal (told_by net journal)
