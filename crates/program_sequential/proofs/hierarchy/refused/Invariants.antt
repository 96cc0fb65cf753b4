use Rattle.std.proofs.Common.{◌≡◌, map}
use Rattle.std.specs.List.{range_with_len}
use Rattle.hierarchy_turns.specs.Network.{refused_by}
use Rattle.program_sequential.proofs.hierarchy.refused.Given as goal

abbrev pub invariant-loop-place : goal.invariant-loop-place
invariant-loop-place g l = l.lists.items ≡ map (refused_by l.network.net l.network.journal) (range_with_len 1 l.place)
