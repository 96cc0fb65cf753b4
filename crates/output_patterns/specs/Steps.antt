-- Defines the filter of a step.
use Rattle.std.specs.Prelude.{ℕ, List, ◌++◌, drop, Result, Ok, Err, codes}
use Rattle.filter_constraints.specs.Constraint.{ConstraintParts}
use Rattle.filter_text.specs.declared.command.Command.{Command}
use Rattle.filter_text.specs.declared.command.Command.TheVariants as commands
use Rattle.document_script.specs.Tokens.{skip}
use Rattle.document_reader.specs.Commands.{command_of}
use Rattle.document_reader.specs.declared.fault.Fault.{Fault}
use Rattle.document_reader.specs.declared.fault.Fault.TheVariants as inputs
use Rattle.output_patterns.specs.declared.fault.PatternKind.{PatternKind}
use Rattle.output_patterns.specs.declared.fault.PatternKind.TheVariants as is

-- a line that begins with the word `step`, which has 4 bytes, with `subscribe` in its place
abbrev pub as_subscribe : List ℕ → List ℕ
as_subscribe line = codes "subscribe" ++ drop 4 (skip line)

-- a fault of a subscription, as one of a step: it has no others than these four
abbrev pub step_fault : Fault → PatternKind
step_fault inputs.Value = is.Value
step_fault inputs.Operand = is.Operand
step_fault inputs.Count = is.Count
step_fault e = is.Syntax

-- the filter of a subscription; a line with `subscribe` in front is no other command
abbrev pub filter_of : Result Command Fault → Result (List ConstraintParts) PatternKind
filter_of (Ok (commands.Subscribe f)) = Ok f
filter_of (Ok command) = Err is.Syntax
filter_of (Err e) = Err (step_fault e)

-- the filter of a line `step`, or its first fault: what a subscription has in documents of the version
unfoldable pub step_filter : ℕ → List ℕ → Result (List ConstraintParts) PatternKind
step_filter version line = filter_of (command_of version (as_subscribe line))
