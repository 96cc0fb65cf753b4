use Rattle.std.proofs.Common.{ap, ◌∙◌}
use Rattle.thread_cell.specs.Together.{Sight}
use Rattle.thread_cell.proofs.cell.Cell.walk_tasks.Goals as goal
use Rattle.law_machine.proofs.Lists.{prefix-trans}

pub returns-else-installed-clause-idle : goal.returns-else-installed-clause-idle
returns-else-installed-clause-idle g c q =
    let t = c.in_ok-took.ensures.idle q in
    let p = c.in_ok-installed.ensures.idle c.if-installed.false in (
      t.0 ∙ p.0,
      ap (λ (s : Sight). s.core.pending) t.0 ∙ p.1,
      t.1,
    )

pub returns-then-installed-clause-grown : goal.returns-then-installed-clause-grown
returns-then-installed-clause-grown g c = prefix-trans _ _ _ c.install_pending.ensures.grown c.take_commands.ensures.grown

pub returns-else-installed-clause-grown : goal.returns-else-installed-clause-grown
returns-else-installed-clause-grown g c = prefix-trans _ _ _ c.install_pending.ensures.grown c.take_commands.ensures.grown

pub returns-in_err-took-clause-grown : goal.returns-in_err-took-clause-grown
returns-in_err-took-clause-grown g c = prefix-trans _ _ _ c.install_pending.ensures.grown c.take_commands.ensures.grown
