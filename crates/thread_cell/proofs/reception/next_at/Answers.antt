use Rattle.std.proofs.Common.{get_or}
use Rattle.thread_cell.proofs.Places.{found}
use Rattle.thread_cell.proofs.reception.next_at.Goals as goal

pub returns : goal.returns
returns c =
    (get_or c.args.links.now c.args.place c.index-links-place.result, found c.args.links.now c.args.place c.index-links-place.result c.requires.place, c.first.ensures)
