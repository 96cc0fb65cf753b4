use Rattle.std.proofs.Common.{take}
use Rattle.base.specs.Sets.{Has}
use Rattle.match_routes.specs.declared.table_change.TableChange.{TableChange}
use Rattle.thread_cell.specs.Versions.{AreTouched, IsOfHeld}
use Rattle.thread_cell.proofs.table_update.mends.Given as goal

abbrev pub invariant-loop-change : goal.invariant-loop-change
invariant-loop-change l = record {
  touched : AreTouched l.mends.items (take l.change-index l.changes);
  same : AreTouched l.changes l.mends.items;
  held : (mend : TableChange) → Has mend l.mends.items → IsOfHeld l.core mend;
}
