use Rattle.std.proofs.Common.{get_or, ◌∙◌}
use Rattle.std.proofs.lemmas.Option.{slice_get-get_or}
use Rattle.server_spec.proofs.Telling.{next-has}
use Rattle.sequential_network.proofs.links.Links.make_rooms.Goals as goal
use Rattle.base.proofs.Sets.{get-has}

pub make_room-requires : goal.make_room-requires
make_room-requires c =
    let at = slice_get-get_or c.args.links.now c.loop-to.to-index 0 c.loop-to-test.true in
    (c.requires.from, c.requires.small (get_or c.args.links.now c.loop-to.to-index 0) (get-has c.args.links.now c.loop-to.to-index (get_or c.args.links.now c.loop-to.to-index 0) at))

pub loop-to-preserved : goal.loop-to-preserved
loop-to-preserved c =
    let link = get_or c.args.links.now c.loop-to.to-index 0 in
    let at = slice_get-get_or c.args.links.now c.loop-to.to-index 0 c.loop-to-test.true in (
      next-has c.args.links.now c.loop-to.to-index link at (λ x h. c.make_room.ensures.kept c.args.from x (c.loop-to.invariant.0 x h)) c.in_ok-make_room.ensures.room,
      λ a b. c.make_room.ensures.same a b ∙ c.loop-to.invariant.1 a b,
    )
