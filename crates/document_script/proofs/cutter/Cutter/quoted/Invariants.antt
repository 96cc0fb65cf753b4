use Rattle.std.proofs.Common.{◌≡◌, [], false, drop}
use Rattle.document_script.specs.Tokens.{quoted_at}
use Rattle.document_script.proofs.cutter.Cutter.quoted.Given as goal

abbrev pub invariant-loop-i : goal.invariant-loop-i
invariant-loop-i l = record { read : quoted_at l.read.items l.slashed (drop l.i l.bytes) ≡ quoted_at [] false l.bytes; same : l.self.rest.now ≡ l.fn.self.rest.now }
