use Rattle.std.proofs.Common.{◌≡◌, [], false, take, drop}
use Rattle.document_script.specs.Tokens.{quoted_at}
use Rattle.document_script.proofs.cutter.Cutter.plain_len.Given as goal

abbrev pub invariant-loop-i : goal.invariant-loop-i
invariant-loop-i l = quoted_at (take l.i l.bytes) false (drop l.i l.bytes) ≡ quoted_at [] false l.bytes
