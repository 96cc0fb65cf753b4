-- The merge of all journals is in the order of stamps and servers.
use Rattle.std.proofs.Common.{List, [], ◌∷◌}
use Rattle.law_machine.specs.Journals.{IsInOrder}
use Rattle.law_routing.specs.Net.{Net}
use Rattle.law_routing.specs.Routing.{routing_machine}
use Rattle.law_phases.specs.Trees.{entry_on, net_at}
use Rattle.net_model.specs.Real.{real}
use Rattle.net_model.specs.Parts.{NetParts, EntryParts}
use Rattle.net_model.specs.Meaning.{entry_of, journal_of}
use Rattle.net_model.specs.Nets.{phased_net}
use Rattle.net_journal.specs.Merging.{IsMergeOf, entries_in}
use Rattle.program_sequential.specs.Runs.{IsByStamp}
use Rattle.base.proofs.Sets.{map-has}

by-order : (net : Net real) (entries : List EntryParts) → IsInOrder (routing_machine real net) (entries_in net entries) → IsByStamp entries
by-order net [] order = tt
by-order net (e ∷ entries) order = (
  λ other h. order.0 (entry_on real net (entry_of other)) (map-has (entry_on real net) (journal_of entries) (entry_of other) (map-has entry_of entries other h)),
  by-order net entries order.1,
)

pub by-stamp : (net : NetParts) (journals : List (List EntryParts)) (merged : List EntryParts) → IsMergeOf journals merged → IsByStamp merged
by-stamp net journals merged merge = by-order (net_at real (phased_net net) 0) merged (merge (net_at real (phased_net net) 0)).order
