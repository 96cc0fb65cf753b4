use Rattle.std.proofs.Common.{◌≡◌, ◌++◌, take}
use Rattle.match_index.specs.Pairs.{KeepsBeginning}
use Rattle.match_index.proofs.append.append_ids.Given as goal

abbrev pub invariant-loop-id : goal.invariant-loop-id
invariant-loop-id l = record {
  appended : l.found.items ≡ l.fn.found.items ++ take l.id-index l.ids;
  begins : KeepsBeginning l.fn.found.items l.found.items;
}
