use Rattle.std.proofs.Common.{◌≡◌, [], replicate}
use Rattle.server_stock.proofs.holders.empty_rows.Given as goal

abbrev pub invariant-loop : goal.invariant-loop
invariant-loop l = l.rows.items ≡ replicate l.counter (record { width = l.width; members = [] })
