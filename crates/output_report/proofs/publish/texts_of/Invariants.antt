use Rattle.std.proofs.Common.{◌≡◌, ◌++◌, drop}
use Rattle.output_report.specs.Published.{script_texts}
use Rattle.output_report.proofs.publish.texts_of.Given as goal

abbrev pub invariant-loop-command : goal.invariant-loop-command
invariant-loop-command l = l.texts.items ++ script_texts (drop l.command-index l.script) ≡ script_texts l.script
