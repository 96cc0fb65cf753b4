use Rattle.std.proofs.Common.{refl, sym, subst}
use Rattle.base.specs.Sets.{Has}
use Rattle.net_model.specs.declared.turn.Act.TheVariants.{Receive}
use Rattle.thread_cell.specs.Cell.{CellParts}
use Rattle.thread_cell.specs.Asked.{Suits}
use Rattle.thread_cell.proofs.Keeping.{suits-held}
use Rattle.thread_cell.proofs.Lookings.{kept-looked}
use Rattle.thread_cell.specs.Looking.{IsLookedFor}
use Rattle.thread_cell.proofs.cell.Cell.look.Goals as goal

pub look_from-requires : goal.look_from-requires
look_from-requires g c =
    subst (Has c.args.from) (sym c.self.invariant.0.now.neighbours)
    (suits-held c.self.inside.tables.now c.self.inside.root c.self.inside.journal.entries c.self.inside.held c.self.invariant.0 (Receive c.args.from) (subst (λ (z : CellParts). Suits (Receive c.args.from) z.root) (sym c.self.view_is) c.requires) c.self.invariant.0.net_is)

pub invariant_of-self : goal.invariant_of-self
invariant_of-self g c = (
  kept-looked c.self.inside.tables.now c.self.inside.root c.self.inside.journal.entries c.self.inside.held _ c.self.invariant.0 refl c.look_from.ensures.unmoved refl refl,
  c.self.invariant.1,
)

pub returns-clause-looked : goal.returns-clause-looked
returns-clause-looked g c =
    subst (λ (z : CellParts). IsLookedFor z.root.net.value c.args.from z.held.links.items c.look_from.new.links.items c.look_from.result) c.self.view_is
    (subst (λ n. IsLookedFor n c.args.from c.self.inside.held.links.items c.look_from.new.links.items c.look_from.result) (sym c.self.invariant.0.net_is) c.look_from.ensures.looked)
