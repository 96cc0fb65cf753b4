use Rattle.std.proofs.Common.{◌≡◌, [], take, drop}
use Rattle.document_script.specs.Tokens.{run_at}
use Rattle.document_script.proofs.cutter.Cutter.run.Given as goal

abbrev pub invariant-loop-i : goal.invariant-loop-i
invariant-loop-i l = run_at (take l.i l.bytes) (drop l.i l.bytes) ≡ run_at [] l.bytes
