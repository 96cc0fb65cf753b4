use Rattle.std.proofs.Common.{◌≡◌, ◌++◌, take}
use Rattle.thread_cell.specs.Kept.{clients_among}
use Rattle.thread_cell.proofs.starting.put_above.Given as goal

abbrev pub invariant-loop-interface : goal.invariant-loop-interface
invariant-loop-interface l = l.all.items ≡ l.initial.all.items ++ clients_among (take l.interface-index l.interfaces)
