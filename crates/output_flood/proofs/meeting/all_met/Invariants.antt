use Rattle.std.proofs.Common.{◌≡◌, ℕ, length, take}
use Rattle.base.specs.Sets.{Has}
use Rattle.output_flood.specs.Tables.{IsRoom, AreTables, MeetsAt}
use Rattle.output_flood.proofs.meeting.all_met.Given as goal

abbrev pub invariant-loop-place : goal.invariant-loop-place
invariant-loop-place l = record {
  count : length l.mets.items ≡ length l.publications;
  room : IsRoom (length l.filters) l.room;
  tables : AreTables l.filters l.scripts l.tables;
  met : (x : ℕ × ℕ) → Has x (take l.place-index l.place-items) → MeetsAt l.catalogue.clients l.publications l.mets.items x.1;
}
