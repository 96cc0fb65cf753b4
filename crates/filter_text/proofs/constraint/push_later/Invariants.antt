use Rattle.std.proofs.Common.{◌≡◌, ◌++◌, take, drop}
use Rattle.filter_text.specs.NoticeText.{later}
use Rattle.filter_text.specs.FilterText.{constraint_text, AreNamed}
use Rattle.filter_text.proofs.constraint.push_later.Given as goal

abbrev pub invariant-loop-constraint : goal.invariant-loop-constraint
invariant-loop-constraint l = record { text : l.out.items ≡ l.fn.out.items ++ later constraint_text (take l.constraint-index l.rest); named : AreNamed (drop l.constraint-index l.rest) → AreNamed l.rest }
