-- Defines the journals of servers 1, 2, .., and one list of all their entries.
use Rattle.std.specs.Prelude.{◌≡◌, ℕ, zero, suc, ◌<◌, cond, leb, List, [], ◌∷◌, slice_index_or}
use Rattle.std.specs.List.{flat_map}
use Rattle.base.specs.Sets.{Has}
use Rattle.law_machine.specs.Journals.{IsMerge}
use Rattle.law_routing.specs.Net.{Net}
use Rattle.law_routing.specs.Routing.{routing_machine, NetEntry}
use Rattle.law_phases.specs.Trees.{JournalEntry, entries_on}
use Rattle.net_model.specs.Real.{real}
use Rattle.net_model.specs.Parts.{EntryParts}
use Rattle.net_model.specs.Meaning.{journal_of}

-- entries of this server, whose stamps rise
abbrev pub IsJournalOf : ℕ → List EntryParts → Type 0
IsJournalOf server [] = Unit {0}
IsJournalOf server (entry ∷ entries) =
    (entry.server ≡ server) × ((other : EntryParts) → Has other entries → entry.stamp < other.stamp) × IsJournalOf server entries

-- the journal of a server, of those of servers 1, 2, ..; another number has none
abbrev pub journal_at : List (List EntryParts) → ℕ → List EntryParts
journal_at journals zero = []
journal_at journals (suc place) = slice_index_or journals place []

-- each is a journal of its server
abbrev pub AreServerJournals : List (List EntryParts) → Type 0
AreServerJournals journals = (server : ℕ) → IsJournalOf server (journal_at journals server)

-- the journals as runs over trees by phase see them
abbrev pub journals_in : List (List EntryParts) → ℕ → List JournalEntry
journals_in journals server = journal_of (journal_at journals server)

-- entries as the laws of runs see them, on a net of one tree
abbrev pub entries_in : (net : Net real) → List EntryParts → List (NetEntry real net)
entries_in net entries = entries_on real net (journal_of entries)

-- the entries of these journals, each once, by stamp and then by server: the merge of the laws of runs, whatever the net
abbrev pub IsMergeOf : List (List EntryParts) → List EntryParts → Type 0
IsMergeOf journals merged =
    (net : Net real) → IsMerge (routing_machine real net) (λ server. entries_in net (journal_at journals server)) (entries_in net merged)

-- an entry put in among others by its stamp, before those of equal stamps
abbrev pub placed : EntryParts → List EntryParts → List EntryParts
placed entry [] = entry ∷ []
placed entry (other ∷ others) = cond (leb entry.stamp other.stamp) (entry ∷ other ∷ others) (other ∷ placed entry others)

-- entries by stamp; those of equal stamps stay in their order
abbrev pub by_stamp : List EntryParts → List EntryParts
by_stamp [] = []
by_stamp (entry ∷ entries) = placed entry (by_stamp entries)

-- the entries of journals of servers 1, 2, .. as one list, by stamp and then by server
unfoldable pub merged_of : List (List EntryParts) → List EntryParts
merged_of journals = by_stamp (flat_map (λ journal. journal) journals)
