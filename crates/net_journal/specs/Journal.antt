-- Defines what contracts see of a journal: its entries, and whether they are kept.
use Rattle.std.specs.Prelude.{◌≡◌, ◌<◌, ◌-◌, ◌^◌, Bool, true, false, List, length, min, vec_len, vec_capacity}
use Rattle.net_model.specs.Parts.{EntryParts}
use Rattle.net_journal.specs.Past.{entries_before}
use Rattle.net_journal.specs.declared.journal.Entries.{Entries}
use Rattle.net_journal.specs.declared.journal.Entries.TheVariants.{Kept, Passed}

-- the entries, whether they stand in memory, and whether there is room for one more
pub record JournalParts : Type 0 where
  pub entries : List EntryParts
  pub kept : Bool
  pub room : Bool

abbrev pub journal_parts : List EntryParts → Bool → Bool → JournalParts
journal_parts entries kept room = record { entries = entries; kept = kept; room = room }

-- the entries that are kept, or that passed
abbrev pub entries_of : Entries → List EntryParts
entries_of (Kept entries) = entries.items
entries_of (Passed past count) = entries_before past

abbrev pub is_kept : Entries → Bool
is_kept (Kept entries) = true
is_kept (Passed past count) = false

-- those that passed are counted as far as 64 bits count, and where entries are kept room is place for one more
abbrev pub IsJournal : Entries → Bool → Type 0
IsJournal (Kept entries) room = room ≡ true → vec_len entries < vec_capacity entries
IsJournal (Passed past count) room = count ≡ min (length (entries_before past)) (2 ^ 64 - 1)
