use Rattle.std.proofs.Common.{ℕ, subst}
use Rattle.std.specs.Option.{IfSome, IfNone}
use Rattle.thread_cell.specs.Cell.{CellParts}
use Rattle.thread_cell.specs.Links.{IsNeighbour}
use Rattle.thread_cell.proofs.cell.Cell.place_of.Goals as goal

pub returns-clause-some : goal.returns-clause-some
returns-clause-some c =
    subst (λ (z : CellParts). IfSome c.place_in.result (λ place. IsNeighbour place c.args.neighbour z.held.links.items)) c.self.view_is
    (subst (λ l. IfSome c.place_in.result (λ place. IsNeighbour place c.args.neighbour l)) c.deref.ensures.value c.place_in.ensures.some)

pub returns-clause-none : goal.returns-clause-none
returns-clause-none c =
    subst (λ (z : CellParts). IfNone c.place_in.result ((place : ℕ) → IsNeighbour place c.args.neighbour z.held.links.items → ⊥)) c.self.view_is
    (subst (λ l. IfNone c.place_in.result ((place : ℕ) → IsNeighbour place c.args.neighbour l → ⊥)) c.deref.ensures.value c.place_in.ensures.none)
