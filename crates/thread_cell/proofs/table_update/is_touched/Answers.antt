use Rattle.std.proofs.Common.{get_or}
use Rattle.match_routes.specs.declared.table_change.TableChange.TheVariants.{Put}
use Rattle.thread_cell.proofs.table_update.is_touched.Goals as goal
use Rattle.base.proofs.Sets.{get_or-has}

pub returns-then-are_of_one_pair : goal.returns-then-are_of_one_pair
returns-then-are_of_one_pair c y = (
  get_or c.args.changes.now c.loop-other.other-index (Put 0 0),
  get_or-has c.args.changes.now c.loop-other.other-index (Put 0 0) c.loop-other-test.true,
  c.are_of_one_pair.ensures c.if-are_of_one_pair.true,
)
