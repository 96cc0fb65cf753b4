use Rattle.std.proofs.Common.{◌≡◌, ◌++◌, ◌∷◌, take}
use Rattle.std.specs.List.{flat_map}
use Rattle.filter_text.specs.ValueText.{escape}
use Rattle.filter_text.proofs.string.push_string.Given as goal

abbrev pub invariant-loop-b : goal.invariant-loop-b
invariant-loop-b l = l.out.items ≡ l.fn.out.items ++ 34 ∷ flat_map escape (take l.b-index l.text)
