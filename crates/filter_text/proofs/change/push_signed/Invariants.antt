use Rattle.std.proofs.Common.{◌≡◌, ◌++◌, take, drop}
use Rattle.std.specs.List.{flat_map}
use Rattle.filter_text.specs.MessageText.{signed, Each}
use Rattle.filter_text.proofs.change.push_signed.Given as goal

abbrev pub invariant-loop-list : goal.invariant-loop-list
invariant-loop-list g l = record {
  text : l.out.items ≡ l.fn.out.items ++ flat_map (λ x. signed l.sign (g.L.Listed.text x)) (take l.list-index l.lists);
  sound : Each g.L.Listed.IsSound (drop l.list-index l.lists) → Each g.L.Listed.IsSound l.lists;
}
