use Rattle.std.proofs.Common.{◌≡◌, ◌≤◌, drop}
use Rattle.output_explain.specs.Asked.{found_from}
use Rattle.output_explain.proofs.find.publish_of.Given as goal

abbrev pub invariant-loop-index : goal.invariant-loop-index
invariant-loop-index l = (found_from l.number l.index l.count (drop l.index l.script) ≡ found_from l.number 0 0 l.script) × (l.count ≤ l.index)
