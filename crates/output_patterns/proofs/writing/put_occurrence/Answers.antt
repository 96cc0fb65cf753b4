use Rattle.std.proofs.Common.{◌++◌, sym, subst}
use Rattle.std.specs.Prelude.{codes}
use Rattle.std.specs.List.{flat_map}
use Rattle.std.proofs.lemmas.List.{take_all}
use Rattle.base_devices.specs.Pending.{outlet, Went}
use Rattle.base_devices.proofs.Outlets.{went-then}
use Rattle.net_inbox.specs.Inbox.{in_order}
use Rattle.output_patterns.specs.Found.{found_line, place_text}
use Rattle.output_patterns.proofs.writing.put_occurrence.Goals as goal
use Rattle.base.proofs.Lists.{flat_map-take-next}

pub loop-place-preserved : goal.loop-place-preserved
loop-place-preserved g c =
    subst (Went (outlet (g.K.Sink.state c.put.new.sink) c.put.new.self)
    (outlet (g.K.Sink.state c.put_place.new.sink) c.put_place.new.out))
    (sym (flat_map-take-next (place_text c.args.heard.names.now (in_order c.args.heard.received)) c.args.places.now c.loop-place.place-index _ c.loop-place-test.true))
    (went-then _ _ _ _ _ c.loop-place.invariant c.put_place.ensures)

pub returns : goal.returns
unfolding found_line
returns g c =
    let places = flat_map (place_text c.args.heard.names.now (in_order c.args.heard.received)) c.args.places.now in
    went-then _ _ _ (codes "found" ++ places) (codes "\n") (went-then _ _ _ (codes "found") places c.put.ensures (rw (take_all _ c.args.places.now c.loop-place-test.false) at c.loop-place.invariant)) c.put-2.ensures
