use Rattle.std.proofs.Common.{◌≡◌, [], false, drop}
use Rattle.filter_text.specs.Values.{body_at}
use Rattle.filter_text.proofs.reader.Reader.body.Given as goal

abbrev pub invariant-loop-i : goal.invariant-loop-i
invariant-loop-i l = body_at l.text.items l.slashed (drop l.i l.bytes) ≡ body_at [] false l.bytes
