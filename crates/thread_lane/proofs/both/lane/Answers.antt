use Rattle.std.proofs.Common.{rules}
use Rattle.thread_lane.proofs.Marks.{fork_marked}
use Rattle.thread_lane.proofs.both.lane.Goals as goal

pub split_seat-theirs-requires : goal.split_seat-theirs-requires
split_seat-theirs-requires g c = (search rules, search rules, fork_marked _ _)
