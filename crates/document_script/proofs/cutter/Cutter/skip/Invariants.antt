use Rattle.std.proofs.Common.{◌≡◌, drop}
use Rattle.document_script.specs.Tokens.{skip}
use Rattle.document_script.proofs.cutter.Cutter.skip.Given as goal

abbrev pub invariant-loop-i : goal.invariant-loop-i
invariant-loop-i l = skip (drop l.i l.bytes) ≡ skip l.bytes
