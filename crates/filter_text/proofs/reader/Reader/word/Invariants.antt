use Rattle.std.proofs.Common.{◌≡◌, [], take, drop}
use Rattle.filter_text.specs.Words.{word_at}
use Rattle.filter_text.proofs.reader.Reader.word.Given as goal

abbrev pub invariant-loop-i : goal.invariant-loop-i
invariant-loop-i l = word_at (take l.i l.bytes) (drop l.i l.bytes) ≡ word_at [] l.bytes
