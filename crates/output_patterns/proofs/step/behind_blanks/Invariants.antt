use Rattle.std.proofs.Common.{◌≡◌, drop}
use Rattle.document_script.specs.Tokens.{skip}
use Rattle.output_patterns.proofs.step.behind_blanks.Given as goal

abbrev pub invariant-loop-i : goal.invariant-loop-i
invariant-loop-i l = skip (drop l.i l.line) ≡ skip l.line
