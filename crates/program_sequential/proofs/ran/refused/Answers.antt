use Rattle.std.proofs.Common.{◌+◌, arith}
use Rattle.std.proofs.lemmas.Grind.{common_steps}
use Rattle.std.proofs.lemmas.List.FromFn.{map-range_with_len_more}
use Rattle.net_turns.specs.Network.{refused_by}
use Rattle.program_sequential.proofs.ran.refused.Goals as goal

pub loop-place-preserved : goal.loop-place-preserved
loop-place-preserved g c =
    grind (
      arith,
      common_steps,
      map-range_with_len_more (refused_by c.args.network.now.net c.args.network.now.journal) 1 c.loop-place.place (c.loop-place.place + 1) (omega arith),
    )
