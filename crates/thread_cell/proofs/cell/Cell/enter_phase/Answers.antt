use Rattle.std.proofs.Common.{◌≡◌, ◌≤◌, true, refl, sym, subst, ◌∙◌}
use Rattle.net_model.specs.Real.{real}
use Rattle.law_phases.specs.Trees.{is_one_tree}
use Rattle.net_model.specs.Nets.{phased_net}
use Rattle.thread_cell.specs.Cell.{CellParts, HasEntered, HasNoneBelow, cell_parts}
use Rattle.thread_cell.proofs.Entering.{entered}
use Rattle.thread_cell.proofs.cell.Cell.enter_phase.Goals as goal

pub invariant_of-self : goal.invariant_of-self
invariant_of-self c =
    let e = c.enter.ensures in (
      entered c.self.inside.tables.now c.self.inside.root c.enter.new.self c.self.inside.journal.entries c.self.inside.held _ c.args.clock c.self.invariant.0
          (subst (λ (z : CellParts). z.held.core.clock ≤ c.args.clock) (sym c.self.view_is) c.requires.clock) c.requires.low
          (subst (λ p. is_one_tree real (phased_net c.self.inside.tables.now) c.self.inside.root.phase p ≡ true) (sym e.phase_is) (subst (λ n. is_one_tree real (phased_net n) c.self.inside.root.phase c.args.phase ≡ true) c.self.invariant.0.net_is (subst (λ (z : CellParts). is_one_tree real (phased_net z.root.net.value) z.root.phase c.args.phase ≡ true) (sym c.self.view_is) c.requires.tree)))
          (subst (λ p. c.self.inside.root.phase ≤ p) (sym e.phase_is) (subst (λ (z : CellParts). z.root.phase ≤ c.args.phase) (sym c.self.view_is) c.requires.phase))
          (subst (λ p. HasNoneBelow p c.self.inside.held.core.clients) (sym e.phase_is) (subst (λ (z : CellParts). HasNoneBelow c.args.phase z.held.core.clients) (sym c.self.view_is) c.requires.through))
          e.net e.server e.before e.core e.links e.viewer c.raise.ensures refl refl refl,
      c.self.invariant.1 ∙ sym e.keeps,
    )

pub returns-clause-entered : goal.returns-clause-entered
returns-clause-entered c = subst (λ (z : CellParts). HasEntered z.root c.args.phase (cell_parts c.enter.new.self c.self.inside.journal.entries (record c.self.inside.held { core = c.raise.new.self }))) c.self.view_is c.enter.ensures
