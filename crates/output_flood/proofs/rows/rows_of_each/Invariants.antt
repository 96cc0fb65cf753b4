use Rattle.std.proofs.Common.{◌≡◌, length, take}
use Rattle.output_flood.specs.Rows.{HaveRows}
use Rattle.output_flood.proofs.rows.rows_of_each.Given as goal

abbrev pub invariant-loop-k : goal.invariant-loop-k
invariant-loop-k l = record {
  count : length l.all.items ≡ length l.clients;
  rows : HaveRows l.clients (take l.k l.publications) l.all.items;
}
