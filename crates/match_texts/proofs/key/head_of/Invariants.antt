use Rattle.std.proofs.Common.{◌≡◌}
use Rattle.match_texts.specs.Keys.{number_of}
use Rattle.match_texts.proofs.key.head_of.Given as goal

abbrev pub invariant-loop-i : goal.invariant-loop-i
invariant-loop-i l = l.head ≡ number_of l.i l.x
