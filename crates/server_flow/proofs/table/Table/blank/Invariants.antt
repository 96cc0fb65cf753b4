use Rattle.std.proofs.Common.{◌≡◌, length}
use Rattle.server_flow.proofs.table.Table.blank.Given as goal

abbrev pub invariant-loop : goal.invariant-loop
invariant-loop l = length l.rows.items ≡ l.counter
