-- Threads may share a matcher.
use denote.Param.Send.{IsSync, sendable}
use Rattle.std.proofs.Crossing.{crosses}
use Rattle.std.proofs.MapsCrossing as maps
use Rattle.match_texts.specs.contracts.key.TextKey as TextKey
use Rattle.match_texts.specs.contracts.marked.Marked as Marked
use Rattle.match_texts.specs.contracts.patterns.Patterns as Patterns
use Rattle.match_texts.specs.contracts.texts.Texts as Texts
use Rattle.match_cells.specs.contracts.counts.Counts as Counts
use Rattle.match_cells.specs.contracts.history.History as History
use Rattle.match_cells.specs.contracts.cells.Cells as Cells
use Rattle.match_numbers.specs.contracts.part.Part as Part
use Rattle.match_filters.specs.contracts.parts.Parts as Parts
use Rattle.match_filters.specs.contracts.texts.TextShelves as TextShelves
use Rattle.match_filters.specs.contracts.index.Index as Index
use Rattle.match_filters.specs.contracts.matcher.Matcher as Matcher

key_sync : IsSync TextKey.the_field.row
key_sync = search (sendable, crosses) depth 20

marked_sync : IsSync Marked.the_field.row
marked_sync = search (sendable, crosses, maps.BTreeMap-sync) depth 20

patterns_sync : IsSync Patterns.the_field.row
patterns_sync = let a = marked_sync in search (sendable, crosses) depth 20

texts_sync : IsSync Texts.the_field.row
texts_sync = let a = patterns_sync in search (sendable, crosses) depth 20

counts_sync : IsSync Counts.the_field.row
counts_sync = search (sendable, crosses) depth 20

history_sync : IsSync History.the_field.row
history_sync = search (sendable, crosses) depth 20

cells_sync : IsSync Cells.the_field.row
cells_sync = let a = history_sync in search (sendable, crosses) depth 20

part_sync : IsSync Part.the_field.row
part_sync = let a = cells_sync in let b = key_sync in search (sendable, crosses) depth 20

parts_sync : IsSync Parts.the_field.row
parts_sync = let a = part_sync in search (sendable, crosses, maps.BTreeMap-sync) depth 20

shelves_sync : IsSync TextShelves.the_field.row
shelves_sync = let a = texts_sync in search (sendable, crosses, maps.BTreeMap-sync) depth 20

index_sync : IsSync Index.the_field.row
index_sync = let a = parts_sync in let b = shelves_sync in search (sendable, crosses) depth 20

pub matcher_sync : IsSync Matcher.the_field.row
matcher_sync = let a = index_sync in let b = counts_sync in search (sendable, crosses) depth 20
