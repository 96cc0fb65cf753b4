use Rattle.std.proofs.Common.{◌++◌, take}
use Rattle.base_devices.proofs.Pieces.{moves_front}
use Rattle.base_devices.proofs.Outlets.{took-then}
use Rattle.base_devices.proofs.whole.write_all.Goals as goal

pub loop-rest-preserved : goal.loop-rest-preserved
loop-rest-preserved g c =
    let (done, split, taken, later) = c.loop-rest.invariant in
    let rest = c.loop-rest.rest.now in
    let n = c.in_ok-count.count in
    (done ++ take n rest, moves_front _ done rest n split, took-then _ _ _ done (take n rest) taken (record { taken = c.in_ok-count.ensures.taken; held = c.in_ok-count.ensures.contents }), rw (later, c.in_ok-count.ensures.cause.kept))
