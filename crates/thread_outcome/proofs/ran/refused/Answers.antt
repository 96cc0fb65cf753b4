use Rattle.std.proofs.Common.{◌+◌, arith}
use Rattle.std.proofs.lemmas.Grind.{common_steps}
use Rattle.std.proofs.lemmas.List.FromFn.{map-range_with_len_more}
use Rattle.net_turns.specs.Network.{refused_by}
use Rattle.thread_outcome.proofs.ran.refused.Goals as goal

pub loop-place-preserved : goal.loop-place-preserved
loop-place-preserved c =
    grind (
      arith,
      common_steps,
      map-range_with_len_more (refused_by c.args.end.now.net.now c.args.end.now.journal.now.entries) 1 c.loop-place.place (c.loop-place.place + 1) (omega arith),
    )
