-- Defines the entries that exist in proofs alone.
use Rattle.std.specs.Prelude.{List, [], ◌∷◌, ◌++◌}
use Rattle.net_model.specs.Parts.{EntryParts}
use Rattle.net_journal.specs.declared.past.Past.{Past, Nothing, Then'}

-- the entries that passed, the first one first
abbrev pub entries_before : Past → List EntryParts
entries_before Nothing = []
entries_before (Then' s before entry) = entries_before before ++ entry ∷ []
