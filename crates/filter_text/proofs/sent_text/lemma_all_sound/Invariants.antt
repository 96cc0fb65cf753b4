use Rattle.std.proofs.Common.{drop}
use Rattle.filter_text.specs.MessageText.{Each}
use Rattle.filter_text.proofs.sent_text.lemma_all_sound.Given as goal

abbrev pub invariant-loop-list : goal.invariant-loop-list
invariant-loop-list g l = Each g.L.Listed.IsSound (drop l.list-index l.lists) → Each g.L.Listed.IsSound l.lists
