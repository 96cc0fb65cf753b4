use Rattle.std.proofs.Common.{◌≡◌, map, take}
use Rattle.net_tables.specs.Words.{text_word}
use Rattle.net_tables.proofs.words.text_words.Given as goal

abbrev pub invariant-loop-i : goal.invariant-loop-i
invariant-loop-i l = l.words.items ≡ map text_word (take l.i l.subs)
