use Rattle.std.proofs.Common.{◌-◌, ◌+◌, ◌++◌, drop, sym, ap, subst, ◌∙◌, append_assoc}
use Rattle.std.specs.List.{flat_map}
use Rattle.base_devices.specs.Pending.{outlet, Went}
use Rattle.base_devices.proofs.Outlets.{went-then}
use Rattle.document_format.specs.CommandText.{command_text}
use Rattle.document_format.specs.DocumentText.{barrier_lines, ended, step_lines}
use Rattle.document_format.proofs.Chain.{step_next, step_last}
use Rattle.document_format.proofs.script.put_steps.Goals as goal

pub loop-at-preserved : goal.loop-at-preserved
loop-at-preserved g c =
    let (done, went, rest) = c.loop-at.invariant in
    let step = c.loop-at-item.result in
    let script = c.args.script.now in
    let i = c.loop-at.at-index in
    let text = flat_map ended (barrier_lines (step.0 - c.loop-at.phase)) ++ ended (command_text step.1) in
    let next = step_next c.loop-at.phase script i c.args.barriers step c.loop-at-test.true c.loop-at-item.is in (
      done ++ text,
      went-then _ _ _ done text went (went-then _ _ _ _ _ (rw c.saturating_sub.ensures at c.put_barriers.ensures) c.put_command.ensures),
      append_assoc done text (flat_map ended (step_lines step.0 (drop (i + 1) script) c.args.barriers)) ∙ ap (λ l. done ++ l) (sym next) ∙ rest,
    )

pub returns : goal.returns
returns g c =
    let (done, went, rest) = c.loop-at.invariant in
    let new = outlet (g.K.Sink.state c.put_barriers-2.new.sink) c.put_barriers-2.new.out in
    let last = step_last c.loop-at.phase c.args.script.now c.loop-at.at-index c.args.barriers c.loop-at-test.false in
    subst (Went (outlet (g.K.Sink.state c.args.sink.now) c.args.out.now) new)
    (ap (λ l. done ++ l) (sym last) ∙ rest)
    (went-then _ _ _ done _ went (rw c.saturating_sub-2.ensures at c.put_barriers-2.ensures))
