use Rattle.thread_cell.proofs.table_update.is_touched.Given as goal

abbrev pub invariant-loop-other : goal.invariant-loop-other
invariant-loop-other l = Unit {0}
