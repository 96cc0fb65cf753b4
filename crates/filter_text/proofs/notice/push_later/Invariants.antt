use Rattle.std.proofs.Common.{◌≡◌, ◌++◌, take}
use Rattle.filter_text.specs.NoticeText.{attribute_text, later}
use Rattle.filter_text.proofs.notice.push_later.Given as goal

abbrev pub invariant-loop-attribute : goal.invariant-loop-attribute
invariant-loop-attribute l = l.out.items ≡ l.fn.out.items ++ later attribute_text (take l.attribute-index l.rest)
