use Rattle.std.proofs.Common.{◌≡◌, take, map}
use Rattle.output_report.proofs.sorted.numbers_of.Given as goal

abbrev pub invariant-loop-one : goal.invariant-loop-one
invariant-loop-one l = l.numbers.items ≡ map (λ one. one.number) (take l.one-index l.keyed)
