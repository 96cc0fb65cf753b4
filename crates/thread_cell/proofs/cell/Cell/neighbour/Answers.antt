use Rattle.std.proofs.Common.{◌<◌, length, sym, subst}
use Rattle.thread_cell.specs.Cell.{CellParts}
use Rattle.thread_cell.specs.Links.{IsNeighbour}
use Rattle.thread_cell.proofs.Places.{read-neighbour}
use Rattle.thread_cell.proofs.cell.Cell.neighbour.Goals as goal

pub returns : goal.returns
returns c =
    subst (λ (z : CellParts). IsNeighbour c.args.place c.index.result.now.neighbour z.held.links.items) c.self.view_is
    (read-neighbour c.args.place c.self.inside.held.links.items c.index.result.now (subst (λ (z : CellParts). c.args.place < length z.held.links.items) (sym c.self.view_is) c.requires) c.index.ensures)
