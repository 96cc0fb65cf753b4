use Rattle.std.proofs.Common.{ℕ, ◌∙◌, ap, subst, sym}
use Rattle.document_reader.specs.Answer.{FailsByRule}
use Rattle.document_reader.specs.Commands.{command_of}
use Rattle.document_reader.proofs.Spelled.{command_told, told_fault}
use Rattle.document_reader.proofs.scripts.command_of.Goals as goal

pub returns-in-Ok : goal.returns-in-Ok
returns-in-Ok c = ap (λ (v : ℕ). command_of v c.args.line) (sym c.number.ensures.value) ∙ command_told c.number.result c.args.line c.in-Ok.command c.in-Ok.ensures.command

pub returns-in-Err : goal.returns-in-Err
returns-in-Err c =
    subst (λ (v : ℕ). FailsByRule c.line_fault.result (command_of v c.args.line)) c.number.ensures.value
    (told_fault c.number.result c.args.line c.command.result c.in-Err.fault c.line_fault.result c.in-Err.is c.line_fault.ensures
    c.command.ensures.syntax c.command.ensures.value c.command.ensures.operand c.command.ensures.count c.command.ensures.repeat)
