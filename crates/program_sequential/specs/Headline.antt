-- Defines the headline: what the printed text of a run promises.
use Rattle.std.specs.Prelude.{ℕ, List}
use Rattle.net_model.specs.Parts.{NetParts, EntryParts}
use Rattle.document_reader.specs.Net.{IsNetOf}
use Rattle.program_sequential.specs.declared.words.Schedule.{Schedule}
use Rattle.program_sequential.specs.declared.words.Shown.{Shown}
use Rattle.program_sequential.specs.Promise.{ClientLists, ClientPromise}
use Rattle.program_sequential.specs.Network.{NetworkPromise}

-- THE HEADLINE: for every well-formed input and every interleaving of commands, receptions and table updates, the text is what the clients are promised,
-- and the journal what the network is, with the same lists
pub record Headline (schedule : Schedule) (shown : Shown) (input text : List ℕ) (journal : List EntryParts) : Type 0 where
  pub net : NetParts
  pub well_formed : IsNetOf input net
  pub lists : ClientLists
  pub trace : List ℕ
  pub clients : ClientPromise shown input text net lists trace
  pub network : NetworkPromise schedule shown net journal lists trace
