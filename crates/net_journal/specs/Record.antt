-- Defines what contracts see of a record: its entries, and whether they are kept.
use Rattle.std.specs.Prelude.{Bool, false, List, map}
use Rattle.net_model.specs.Parts.{EntryParts}
use Rattle.net_journal.specs.Merging.{merged_of}
use Rattle.net_journal.specs.declared.records.Journals.{Journals}
use Rattle.net_journal.specs.declared.records.Journals.TheVariants.{One, Several}

-- the entries, and whether they stand in memory
pub record RecordParts : Type 0 where
  pub entries : List EntryParts
  pub kept : Bool

abbrev pub record_parts : List EntryParts → Bool → RecordParts
record_parts entries kept = record { entries = entries; kept = kept }

-- the entries of one journal, or those of several journals as one list
abbrev pub entries_of : Journals → List EntryParts
entries_of (One journal) = journal.entries
entries_of (Several journals) = merged_of (map (λ journal. journal.entries) journals.items)

abbrev pub is_kept : Journals → Bool
is_kept (One journal) = journal.kept
is_kept (Several journals) = false
