use Rattle.std.proofs.Common.{drop}
use Rattle.program_sequential.specs.Promise.{IsScriptOfNotices}
use Rattle.program_sequential.proofs.notices.lemma_script_notices.Given as goal

abbrev pub invariant-loop-command : goal.invariant-loop-command
invariant-loop-command l = IsScriptOfNotices (drop l.command-index l.script) → IsScriptOfNotices l.script
