use Rattle.std.proofs.Common.{◌∙◌}
use Rattle.output_patterns.proofs.Stepping.{step_told, told_fault}
use Rattle.output_patterns.proofs.step.step_filter.Goals as goal

pub returns-in-Ok : goal.returns-in-Ok
returns-in-Ok c = rw (step_told c.args.version c.args.line.now c.deref.result.now c.in-Ok.command (c.deref.ensures.value ∙ c.in_ok-text.ensures) c.in-Ok.ensures.command) c.filter_of.ensures

pub returns : goal.returns
returns c =
    told_fault c.args.version c.args.line.now c.deref.result.now c.script_command.result c.in-Err.fault c.step_fault.result (c.deref.ensures.value ∙ c.in_ok-text.ensures) c.in-Err.is c.step_fault.ensures
    c.script_command.ensures.syntax c.script_command.ensures.value c.script_command.ensures.operand c.script_command.ensures.count c.script_command.ensures.repeat
