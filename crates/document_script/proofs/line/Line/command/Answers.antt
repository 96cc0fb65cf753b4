use Rattle.document_script.specs.declared.fault.ScriptFault.TheVariants as faults
use Rattle.document_script.specs.Command.{form_of}
use Rattle.document_script.proofs.CommandLaws.{fault_told}
use Rattle.document_script.proofs.line.Line.command.Goals as goal

pub returns-clause-syntax : goal.returns-clause-syntax
returns-clause-syntax c = fault_told c.answered.result (form_of c.args.version c.args.self) faults.Syntax c.answered.ensures

pub returns-clause-value : goal.returns-clause-value
returns-clause-value c = fault_told c.answered.result (form_of c.args.version c.args.self) faults.Value c.answered.ensures

pub returns-clause-operand : goal.returns-clause-operand
returns-clause-operand c = fault_told c.answered.result (form_of c.args.version c.args.self) faults.Operand c.answered.ensures

pub returns-clause-count : goal.returns-clause-count
returns-clause-count c = fault_told c.answered.result (form_of c.args.version c.args.self) faults.Count c.answered.ensures

pub returns-clause-repeat : goal.returns-clause-repeat
returns-clause-repeat c = fault_told c.answered.result (form_of c.args.version c.args.self) faults.Repeat c.answered.ensures
