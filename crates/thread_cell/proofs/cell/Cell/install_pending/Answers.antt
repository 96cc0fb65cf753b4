use Rattle.std.proofs.Common.{ap, ◌∙◌}
use Rattle.server_core.specs.Core.{CoreParts}
use Rattle.net_model.specs.declared.turn.Act.TheVariants.{TableUpdate}
use Rattle.thread_cell.proofs.Walkers.{sight-after, idle-is}
use Rattle.thread_cell.proofs.cell.Cell.install_pending.Goals as goal

pub returns-clause-idle : goal.returns-clause-idle
returns-clause-idle g c q =
    let i = idle-is c.args.self.now.root.phase TableUpdate c.args.self.now.held c.turn.new.self.held c.args.self.now.journal c.turn.new.self.journal _ c.in_ok-turned.ensures.answers (c.was_made.ensures q) in
    (sight-after c.args.self.now c.turn.new.self c.turn.ensures.root i.0, ap (λ (k : CoreParts). k.pending) i.0.core ∙ i.1)
