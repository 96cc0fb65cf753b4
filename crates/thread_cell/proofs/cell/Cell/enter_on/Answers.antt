use Rattle.std.proofs.Common.{refl, sym, subst, ◌∙◌}
use Rattle.thread_cell.specs.Cell.{CellParts, cell_parts}
use Rattle.server_control.specs.Held.{held_in, AreHeldIn}
use Rattle.thread_cell.specs.Relinking.{CanMove}
use Rattle.thread_cell.proofs.Keeping.{some-server, kept-still}
use Rattle.thread_cell.proofs.Rehung.{kept-moved}
use Rattle.thread_cell.proofs.cell.Cell.enter_on.Goals as goal

pub put_on-requires-clause-stands : goal.put_on-requires-clause-stands
put_on-requires-clause-stands g c = some-server c.self.inside.tables.now c.self.inside.root c.self.inside.journal.entries c.self.inside.held c.self.invariant.0

pub invariant_of-self : goal.invariant_of-self
invariant_of-self g c = (
  kept-still c.self.inside.tables.now c.self.inside.root c.self.inside.journal.entries c.self.inside.held c.self.invariant.0 c.put_on.new.held c.self.inside.journal.entries (c.in_err-put_on.ensures.still c.self.inside.journal.entries) c.put_on.ensures.held,
  c.self.invariant.1,
)

pub invariant_of-self-2 : goal.invariant_of-self-2
invariant_of-self-2 g c =
    let e = c.enter.ensures in (
      kept-moved c.self.inside.tables.now c.self.inside.root c.enter.new.self c.self.inside.journal.entries c.self.inside.held c.put_on.new.held _ c.args.clock (held_in c.args.given.now) c.args.links.items c.self.invariant.0
          (subst (λ p. CanMove p c.args.clock (held_in c.args.given.now) c.args.links.items (cell_parts c.self.inside.root c.self.inside.journal.entries c.self.inside.held)) (sym e.phase_is) (subst (λ (z : CellParts). CanMove c.args.phase c.args.clock (held_in c.args.given.now) c.args.links.items z) (sym c.self.view_is) c.requires.can))
          c.requires.low c.put_on.ensures.held c.in_ok-put_on.ensures.put c.raise.ensures refl e.net e.server e.before e.core e.links e.viewer refl refl,
      c.self.invariant.1 ∙ sym e.keeps,
    )

pub put_on-requires-clause-net : goal.put_on-requires-clause-net
put_on-requires-clause-net g c =
    subst (λ n. AreHeldIn n c.args.given.now) (c.self.invariant.0.net_is ∙ sym c.self.invariant.0.run) (subst (λ (z : CellParts). AreHeldIn z.root.net.value c.args.given.now) (sym c.self.view_is) c.requires.net)
