use Rattle.std.proofs.Common.{◌≡◌, ◌++◌, take}
use Rattle.std.specs.List.{flat_map}
use Rattle.output_explain.specs.Text.{advert_lines}
use Rattle.output_explain.proofs.text.push_adverts.Given as goal

abbrev pub invariant-loop-fact : goal.invariant-loop-fact
invariant-loop-fact l = l.out.items ≡ l.initial.out.items ++ flat_map advert_lines (take l.fact-index l.facts)
