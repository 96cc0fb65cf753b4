use Rattle.std.proofs.Common.{ap, arith, get_or}
use Rattle.base.specs.Numbers.{count}
use Rattle.net_model.specs.Nets.{topology_at}
use Rattle.output_traffic.specs.Flood.{is_flooded}
use Rattle.output_traffic.proofs.Clients.{sum-next}
use Rattle.output_traffic.proofs.flood.add_phases.Goals as goal
use Rattle.net_model.proofs.SoundNets.{count-at}

pub add_publication-requires : goal.add_publication-requires
add_publication-requires c =
    let phase = get_or c.args.phases.now c.loop-phase.phase-index 0 in
    (c.requires.home.0, omega (arith, c.requires.home.1, ap (λ t. t.count) c.tree.ensures, count-at c.args.net.now c.requires.sound phase))

pub loop-phase-preserved : goal.loop-phase-preserved
loop-phase-preserved c from to lf lt small =
    let kept = c.loop-phase.invariant from to lf lt small in
    let tree = ap (λ t. count (is_flooded t c.args.home from to)) c.tree.ensures in
    let next = sum-next (λ phase. count (is_flooded (topology_at c.args.net.now phase) c.args.home from to)) c.args.phases.now c.loop-phase.phase-index 0 c.loop-phase-test.true in
    omega (arith, kept, tree, next, c.add_publication.ensures from to lf lt (omega (arith, small, kept, tree, next)))
