use Rattle.std.proofs.Common.{◌≡◌, ◌++◌, take}
use Rattle.filter_constraints.specs.Bytes.{has_suffix}
use Rattle.match_index.specs.Lines.{ids_with}
use Rattle.match_texts.specs.Groups.{groups_pairs}
use Rattle.match_texts.proofs.meet.meet_suffixes.Given as goal

abbrev pub invariant-loop-i : goal.invariant-loop-i
invariant-loop-i l = l.found.items ≡ l.fn.found.items ++ ids_with (λ k. has_suffix l.x k) (groups_pairs (take l.i l.groups))
