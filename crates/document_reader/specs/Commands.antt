-- Defines the command of a line of a script, or what is at fault with it.
use Rattle.std.specs.Prelude.{◌≡◌, ℕ, List, [], Option, Some, None, Result, Ok, Err}
use Rattle.base.specs.Sets.{set_of}
use Rattle.filter_types.specs.Canonical.{canonical}
use Rattle.filter_types.specs.Notice.{is_name_less}
use Rattle.filter_text.specs.declared.command.Command.{Command}
use Rattle.filter_text.specs.declared.command.Command.TheVariants as commands
use Rattle.document_script.specs.declared.fault.ScriptFault.{ScriptFault}
use Rattle.document_script.specs.declared.fault.ScriptFault.TheVariants as faults
use Rattle.document_script.specs.declared.verb.Verb.TheVariants as verbs
use Rattle.document_script.specs.Form.{CommandForm}
use Rattle.document_script.specs.Form.CommandForm.{control, publish}
use Rattle.document_script.specs.Command.{fault_in, fits, form_of, wholes}
use Rattle.document_reader.specs.declared.fault.Fault.{Fault}
use Rattle.document_reader.specs.declared.fault.LineFault.{LineFault}
use Rattle.document_reader.specs.declared.fault.LineFault.TheVariants.{NoMemory, Kind}
use Rattle.document_reader.specs.declared.fault.Fault.TheVariants as is

-- a fault of a command line, as one of a document; out of memory is no fault of a line
abbrev pub document_fault : ScriptFault → Fault
document_fault faults.Syntax = is.Syntax
document_fault faults.Value = is.Value
document_fault faults.Operand = is.Operand
document_fault faults.Count = is.Count
document_fault faults.Repeat = is.Repeat
document_fault faults.NoMemory = is.Syntax

-- the command of a form without fault: constraints once each, in canonical order; attributes by their names, of which no two
-- are the same (no form has the first word `publish` and constraints)
abbrev pub command_in : CommandForm → Command
command_in (control verbs.Subscribe parts) = commands.Subscribe (canonical (wholes parts))
command_in (control verbs.Unsubscribe parts) = commands.Unsubscribe (canonical (wholes parts))
command_in (control verbs.Advertise parts) = commands.Advertise (canonical (wholes parts))
command_in (control verbs.Unadvertise parts) = commands.Unadvertise (canonical (wholes parts))
command_in (control verbs.Publish parts) = commands.Publish []
command_in (publish attributes) = commands.Publish (set_of is_name_less (fits attributes))

-- the fault, if there is one, and else the form's command
abbrev pub unless_fault : Option ScriptFault → CommandForm → Result Command Fault
unless_fault (Some fault) form = Err (document_fault fault)
unless_fault None form = Ok (command_in form)

-- a line without a form is at fault by that
abbrev pub command_of_form : Option CommandForm → Result Command Fault
command_of_form None = Err is.Syntax
command_of_form (Some form) = unless_fault (fault_in form) form

-- the command of a line, or its first fault, in documents of the version
unfoldable pub command_of : ℕ → List ℕ → Result Command Fault
command_of version line = command_of_form (form_of version line)

-- the fault of a line that a fault of its command is; out of memory stays what it is
abbrev pub Tells : LineFault Fault → ScriptFault → Type 0
Tells fault faults.NoMemory = fault ≡ NoMemory
Tells fault e = fault ≡ Kind (document_fault e)
