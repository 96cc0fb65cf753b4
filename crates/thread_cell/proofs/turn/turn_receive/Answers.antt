use Rattle.std.proofs.Common.{arith, refl, sym, ap, subst, ◌∙◌}
use Rattle.std.proofs.lemmas.Grind.{common_steps}
use Rattle.thread_cell.specs.Heard.{heard, heard_stamped}
use Rattle.thread_cell.specs.Ahead.{IsReceptionBy}
use Rattle.thread_cell.specs.LaneReceiving.{IsNextAt}
use Rattle.thread_cell.proofs.Shown.{same-one}
use Rattle.thread_cell.proofs.Turning.{sight-roomed, still, held-still, distinct-left, sends-of, sends-in-order}
use Rattle.thread_cell.proofs.Sooner.{looked-some, looked-none}
use Rattle.thread_cell.proofs.Choosing.{known-of, missed-by, reception-by}
use Rattle.thread_cell.proofs.Gained.{left-yet, place-yet, from-neighbour, worn-yet, spare-gained, few-gained, distinct-gained, neighbours-gained, long-gained, held-gained, reception-gained}
use Rattle.thread_cell.proofs.turn.turn_receive.Goals as goal
use Rattle.base.proofs.Results.{on-err}

pub returns-then-not-look_at-clause-taken : goal.returns-then-not-look_at-clause-taken
returns-then-not-look_at-clause-taken g c phase =
    missed-by phase c.args.held.now _ c.args.journal.now.entries c.args.journal.now.entries c.args.matched c.args.place (
      still _ _ _ _ refl c.look_at.ensures.unmoved refl (same-one _) refl,
      looked-none c.args.place _ _ c.look_at.result c.look_at.ensures.looked c.if-not-look_at.true,
    )

pub returns-then-not-look_at-clause-held : goal.returns-then-not-look_at-clause-held
returns-then-not-look_at-clause-held g c =
    held-still c.args.held.now _ c.requires.held refl c.look_at.ensures.unmoved c.requires.held.shown c.requires.held.handed

pub returns-in_err-outs-clause-still : goal.returns-in_err-outs-clause-still
returns-in_err-outs-clause-still g c =
    on-err _ (still c.args.held.now _ _ _ refl (left-yet c.args.held.now c.requires.held c.args.place c.requires.place c.look_at.new.links.items c.make_room.new.links.items c.look_at.ensures.unmoved c.make_room.ensures.roomed) c.make_room.ensures.journal (same-one _) refl)

pub returns-in_err-outs-clause-held : goal.returns-in_err-outs-clause-held
returns-in_err-outs-clause-held g c =
    held-still c.args.held.now _ c.requires.held refl (left-yet c.args.held.now c.requires.held c.args.place c.requires.place c.look_at.new.links.items c.make_room.new.links.items c.look_at.ensures.unmoved c.make_room.ensures.roomed) c.requires.held.shown c.requires.held.handed

pub index-requires : goal.index-requires
index-requires g c =
    let lt = place-yet c.args.held.now c.requires.held c.args.place c.requires.place c.look_at.new.links.items c.make_room.new.links.items c.look_at.ensures.unmoved c.make_room.ensures.roomed in
    let k = c.make_room.new.links.ok in
    omega (arith, k.0, lt)

pub next_at-next-requires-clause-place : goal.next_at-next-requires-clause-place
next_at-next-requires-clause-place g c =
    rw c.deref.ensures.value (place-yet c.args.held.now c.requires.held c.args.place c.requires.place c.look_at.new.links.items c.make_room.new.links.items c.look_at.ensures.unmoved c.make_room.ensures.roomed)

pub next_at-next-requires-clause-seen : goal.next_at-next-requires-clause-seen
next_at-next-requires-clause-seen g c =
    rw c.deref.ensures.value (sight-roomed c.args.place c.look_at.new.links.items c.make_room.new.links.items c.make_room.ensures.roomed (looked-some c.args.place _ _ c.look_at.result c.look_at.ensures.looked c.if-not-look_at.false))

pub receive_heard-requires-clause-from : goal.receive_heard-requires-clause-from
receive_heard-requires-clause-from g c =
    from-neighbour c.args.held.now c.requires.held c.args.place c.requires.place c.look_at.new.links.items c.make_room.new.links.items c.look_at.ensures.unmoved c.make_room.ensures.roomed c.index.result.now c.index.ensures

pub receive_heard-requires-clause-known : goal.receive_heard-requires-clause-known
receive_heard-requires-clause-known g c =
    known-of c.args.held.now.publisher c.args.held.now.core c.args.matched c.load-load.result.now c.choose_of-choice.result c.route.result
    (c.choose_of-choice.ensures c.args.held.now.publisher c.requires.held.shown c.requires.judged) c.route.ensures

pub returns-in_err-step-clause-still : goal.returns-in_err-step-clause-still
returns-in_err-step-clause-still g c =
    on-err _ (still c.args.held.now _ _ _ c.in_err-step.ensures.err (left-yet c.args.held.now c.requires.held c.args.place c.requires.place c.look_at.new.links.items c.make_room.new.links.items c.look_at.ensures.unmoved c.make_room.ensures.roomed) c.make_room.ensures.journal (same-one _) refl)

pub returns-in_err-step-clause-held : goal.returns-in_err-step-clause-held
returns-in_err-step-clause-held g c =
    held-still c.args.held.now _ c.requires.held c.in_err-step.ensures.err (left-yet c.args.held.now c.requires.held c.args.place c.requires.place c.look_at.new.links.items c.make_room.new.links.items c.look_at.ensures.unmoved c.make_room.ensures.roomed) c.receive_heard.ensures.installed c.requires.held.handed

pub returns-in_err-step-clause-worn : goal.returns-in_err-step-clause-worn
returns-in_err-step-clause-worn g c s e =
    let w = c.in_err-step.ensures.worn s (grind (arith, common_steps, e, c.from_residual-in_err-step.ensures.1)) in
    worn-yet c.args.held.now c.requires.held c.args.place c.requires.place c.look_at.new.links.items c.make_room.new.links.items c.look_at.ensures.unmoved c.make_room.ensures.roomed c.index.result.now c.index.ensures c.next_at-next.result.now (subst (IsNextAt c.args.place c.next_at-next.result.now) c.deref.ensures.value c.next_at-next.ensures) s c.stamp.result c.stamp.ensures.stamp w.0 w.1

pub receive_at-requires-clause-place : goal.receive_at-requires-clause-place
receive_at-requires-clause-place g c =
    place-yet c.args.held.now c.requires.held c.args.place c.requires.place c.look_at.new.links.items c.make_room.new.links.items c.look_at.ensures.unmoved c.make_room.ensures.roomed

pub receive_at-requires-clause-seen : goal.receive_at-requires-clause-seen
receive_at-requires-clause-seen g c =
    sight-roomed c.args.place c.look_at.new.links.items c.make_room.new.links.items c.make_room.ensures.roomed (looked-some c.args.place _ _ c.look_at.result c.look_at.ensures.looked c.if-not-look_at.false)

pub receive_at-requires-clause-distinct : goal.receive_at-requires-clause-distinct
receive_at-requires-clause-distinct g c =
    distinct-left c.args.held.now c.requires.held c.make_room.new.links.items (left-yet c.args.held.now c.requires.held c.args.place c.requires.place c.look_at.new.links.items c.make_room.new.links.items c.look_at.ensures.unmoved c.make_room.ensures.roomed) c.requires.stands

pub enter-requires-clause-spare : goal.enter-requires-clause-spare
enter-requires-clause-spare g c =
    spare-gained c.args.held.now c.requires.held c.args.place c.requires.place c.look_at.new.links.items c.make_room.new.links.items c.look_at.ensures.unmoved c.make_room.ensures.roomed c.index.result.now c.index.ensures c.next_at-next.result.now (subst (IsNextAt c.args.place c.next_at-next.result.now) c.deref.ensures.value c.next_at-next.ensures) c.receive_at.new.links.items (c.receive_at.ensures.taken c.next_at-next.result.now) c.in_ok-outs.ensures.spare

pub enter-requires-clause-few : goal.enter-requires-clause-few
enter-requires-clause-few g c =
    few-gained c.args.held.now c.requires.held c.args.place c.requires.place c.look_at.new.links.items c.make_room.new.links.items c.look_at.ensures.unmoved c.make_room.ensures.roomed c.index.result.now c.index.ensures c.next_at-next.result.now (subst (IsNextAt c.args.place c.next_at-next.result.now) c.deref.ensures.value c.next_at-next.ensures) c.receive_at.new.links.items (c.receive_at.ensures.taken c.next_at-next.result.now)

pub enter-requires-clause-net : goal.enter-requires-clause-net
enter-requires-clause-net g c =
    (c.args.held.now.core.net, sends-of c.args.held.now.core c.receive_heard.new.core c.requires.stands _ _ _ c.in_ok-step.step.sent.items c.in_ok-step.ensures.step)

pub enter-requires-clause-distinct : goal.enter-requires-clause-distinct
enter-requires-clause-distinct g c =
    distinct-gained c.args.held.now c.requires.held c.args.place c.requires.place c.look_at.new.links.items c.make_room.new.links.items c.look_at.ensures.unmoved c.make_room.ensures.roomed c.index.result.now c.index.ensures c.next_at-next.result.now (subst (IsNextAt c.args.place c.next_at-next.result.now) c.deref.ensures.value c.next_at-next.ensures) c.receive_at.new.links.items (c.receive_at.ensures.taken c.next_at-next.result.now) c.requires.stands

pub enter-requires-clause-order : goal.enter-requires-clause-order
enter-requires-clause-order g c =
    sends-in-order c.args.held.now.core c.receive_heard.new.core c.requires.stands _ _ _ c.in_ok-step.step.sent.items c.in_ok-step.ensures.step c.receive_at.new.links.items
    (neighbours-gained c.args.held.now c.requires.held c.args.place c.requires.place c.look_at.new.links.items c.make_room.new.links.items c.look_at.ensures.unmoved c.make_room.ensures.roomed c.index.result.now c.index.ensures c.next_at-next.result.now (subst (IsNextAt c.args.place c.next_at-next.result.now) c.deref.ensures.value c.next_at-next.ensures) c.receive_at.new.links.items (c.receive_at.ensures.taken c.next_at-next.result.now))

pub enter-requires-clause-outs : goal.enter-requires-clause-outs
enter-requires-clause-outs g c =
    let n = long-gained c.args.held.now c.requires.held c.args.place c.requires.place c.look_at.new.links.items c.make_room.new.links.items c.look_at.ensures.unmoved c.make_room.ensures.roomed c.index.result.now c.index.ensures c.next_at-next.result.now (subst (IsNextAt c.args.place c.next_at-next.result.now) c.deref.ensures.value c.next_at-next.ensures) c.receive_at.new.links.items (c.receive_at.ensures.taken c.next_at-next.result.now) in
    let o = c.in_ok-outs.ensures.outs in
    (o.0, omega (arith, n, o.1))

pub returns-clause-held : goal.returns-clause-held
returns-clause-held g c =
    held-gained c.args.held.now c.requires.held c.args.place c.requires.place c.look_at.new.links.items c.make_room.new.links.items c.look_at.ensures.unmoved c.make_room.ensures.roomed c.index.result.now c.index.ensures c.next_at-next.result.now (subst (IsNextAt c.args.place c.next_at-next.result.now) c.deref.ensures.value c.next_at-next.ensures) c.receive_at.new.links.items (c.receive_at.ensures.taken c.next_at-next.result.now) _ c.requires.stands c.load-load.result.now c.stamp.result c.load-load.ensures c.stamp.ensures.stamp c.in_ok-step.step.stamp c.in_ok-step.step.sent.items c.in_ok-step.ensures.step (c.enter.ensures.given c.args.held.now.core.net) c.in_ok-step.ensures.low c.receive_heard.ensures.installed c.requires.held.handed

pub returns-clause-taken : goal.returns-clause-taken
returns-clause-taken g c phase =
    subst (IsReceptionBy phase c.args.place c.args.matched c.args.held.now _ c.args.journal.now.entries c.enter.new.journal.entries) (sym c.turned.ensures)
    (reception-by phase c.args.held.now _ c.args.journal.now.entries c.enter.new.journal.entries c.args.matched c.args.place c.load-load.result.now c.choose_of-choice.result (c.choose_of-choice.ensures c.args.held.now.publisher c.requires.held.shown c.requires.judged)
    (heard_stamped c.args.held.now.core.net c.next_at-next.result.now) (ap (heard c.args.held.now.core.net) c.load-load.ensures)
    (reception-gained c.args.held.now c.requires.held c.args.place c.requires.place c.look_at.new.links.items c.make_room.new.links.items c.look_at.ensures.unmoved c.make_room.ensures.roomed c.index.result.now c.index.ensures c.next_at-next.result.now (subst (IsNextAt c.args.place c.next_at-next.result.now) c.deref.ensures.value c.next_at-next.ensures) c.receive_at.new.links.items (c.receive_at.ensures.taken c.next_at-next.result.now) _ c.requires.stands c.load-load.result.now c.stamp.result c.load-load.ensures c.stamp.ensures.stamp c.in_ok-step.step.stamp c.in_ok-step.step.sent.items c.in_ok-step.ensures.step (c.enter.ensures.given c.args.held.now.core.net)
    phase c.args.journal.now.entries c.make_room.new.journal.entries c.enter.new.journal.entries c.args.server c.look_at.result c.look_at.ensures.looked c.if-not-look_at.false c.requires.server c.make_room.ensures.journal c.enter.ensures.entry (same-one _)))

pub returns-in_err-outs-clause-kept : goal.returns-in_err-outs-clause-kept
returns-in_err-outs-clause-kept g c = c.make_room.ensures.kept

pub returns-in_err-step-clause-kept : goal.returns-in_err-step-clause-kept
returns-in_err-step-clause-kept g c = c.make_room.ensures.kept

pub returns-clause-kept : goal.returns-clause-kept
returns-clause-kept g c = c.enter.ensures.kept ∙ c.make_room.ensures.kept

pub receive_heard-requires-clause-stamp : goal.receive_heard-requires-clause-stamp
receive_heard-requires-clause-stamp g c = c.stamp.ensures.low

pub receive_heard-requires-clause-installed : goal.receive_heard-requires-clause-installed
receive_heard-requires-clause-installed g c = c.requires.held.shown

pub enter-requires-clause-low : goal.enter-requires-clause-low
enter-requires-clause-low g c = c.in_ok-step.ensures.low

pub enter-requires-clause-entry : goal.enter-requires-clause-entry
enter-requires-clause-entry g c = c.in_ok-outs.ensures.entry
