use Rattle.std.proofs.Common.{[], refl, ◌∙◌, arith}
use Rattle.std.proofs.lemmas.Grind.{common_steps}
use Rattle.law_machine.specs.Machine.{Does}
use Rattle.law_routing.specs.Step.{NextCommand}
use Rattle.net_model.specs.declared.turn.Act.TheVariants as acts
use Rattle.thread_cell.proofs.Shown.{same-one}
use Rattle.thread_cell.proofs.Unmoved.{unmoved-roomed}
use Rattle.thread_cell.proofs.Turning.{still, held-still, held-after, did, did-links, room-left, distinct-left, neighbours-left, long-left, sends-of, sends-in-order}
use Rattle.thread_cell.proofs.turn.turn_command.Goals as goal
use Rattle.base.proofs.Results.{on-err}

pub returns-in_err-outs-clause-still : goal.returns-in_err-outs-clause-still
returns-in_err-outs-clause-still c = on-err _ (still _ _ _ _ refl (unmoved-roomed _ _ c.make_room.ensures.roomed) c.make_room.ensures.journal (same-one _) refl)

pub returns-in_err-outs-clause-held : goal.returns-in_err-outs-clause-held
returns-in_err-outs-clause-held c = held-still c.args.held.now _ c.requires.held refl (unmoved-roomed _ _ c.make_room.ensures.roomed) c.requires.held.shown c.requires.held.handed

pub returns-in_err-step-clause-still : goal.returns-in_err-step-clause-still
returns-in_err-step-clause-still c = on-err _ (still _ _ _ _ c.in_err-step.ensures.err (unmoved-roomed _ _ c.make_room.ensures.roomed) c.make_room.ensures.journal (same-one _) refl)

pub returns-in_err-step-clause-held : goal.returns-in_err-step-clause-held
returns-in_err-step-clause-held c = held-still c.args.held.now _ c.requires.held c.in_err-step.ensures.err (unmoved-roomed _ _ c.make_room.ensures.roomed) c.take_command.ensures.installed c.requires.held.handed

pub enter-requires-clause-few : goal.enter-requires-clause-few
enter-requires-clause-few c = room-left c.args.held.now c.requires.held _ (unmoved-roomed _ _ c.make_room.ensures.roomed)

pub enter-requires-clause-net : goal.enter-requires-clause-net
enter-requires-clause-net c = (c.args.held.now.core.net, sends-of c.args.held.now.core c.take_command.new.core c.requires.stands (Does (NextCommand c.args.client)) 0 _ c.in_ok-step.step.sent.items c.in_ok-step.ensures.step)

pub enter-requires-clause-distinct : goal.enter-requires-clause-distinct
enter-requires-clause-distinct c = distinct-left c.args.held.now c.requires.held _ (unmoved-roomed _ _ c.make_room.ensures.roomed) c.requires.stands

pub enter-requires-clause-order : goal.enter-requires-clause-order
enter-requires-clause-order c =
    sends-in-order c.args.held.now.core c.take_command.new.core c.requires.stands (Does (NextCommand c.args.client)) 0 _ c.in_ok-step.step.sent.items c.in_ok-step.ensures.step
    c.make_room.new.links.items (neighbours-left c.args.held.now c.requires.held _ (unmoved-roomed _ _ c.make_room.ensures.roomed))

pub enter-requires-clause-outs : goal.enter-requires-clause-outs
enter-requires-clause-outs c =
    let n = long-left c.args.held.now c.requires.held _ (unmoved-roomed _ _ c.make_room.ensures.roomed) in
    let o = c.in_ok-outs.ensures.outs in
    (o.0, omega (arith, n, o.1))

pub returns-clause-made : goal.returns-clause-made
returns-clause-made c phase due =
    did phase (NextCommand c.args.client) (acts.Command c.args.client) c.args.held.now _ c.make_room.new.links.items c.args.journal.now.entries c.make_room.new.journal.entries c.enter.new.journal.entries c.args.server c.in_ok-step.step.stamp c.in_ok-step.step.sent.items refl due
    c.in_ok-step.ensures.step (unmoved-roomed _ _ c.make_room.ensures.roomed) (c.enter.ensures.given c.args.held.now.core.net (sends-of c.args.held.now.core c.take_command.new.core c.requires.stands (Does (NextCommand c.args.client)) 0 _ c.in_ok-step.step.sent.items c.in_ok-step.ensures.step))
    c.requires.server c.make_room.ensures.journal c.enter.ensures.entry (same-one _)

pub returns-clause-held : goal.returns-clause-held
returns-clause-held c =
    held-after c.args.held.now _ (Does (NextCommand c.args.client)) 0 c.in_ok-step.step.stamp c.in_ok-step.step.sent.items c.args.held.now.core.net (λ n. []) c.requires.held c.in_ok-step.ensures.step c.in_ok-step.ensures.low
    (did-links c.args.held.now.links.items c.make_room.new.links.items c.enter.new.links.items c.args.held.now.core.net c.in_ok-step.step.stamp c.in_ok-step.step.sent.items (unmoved-roomed _ _ c.make_room.ensures.roomed) (c.enter.ensures.given c.args.held.now.core.net (sends-of c.args.held.now.core c.take_command.new.core c.requires.stands (Does (NextCommand c.args.client)) 0 _ c.in_ok-step.step.sent.items c.in_ok-step.ensures.step)))
    c.take_command.ensures.installed c.requires.held.handed

pub returns-in_err-step-clause-worn : goal.returns-in_err-step-clause-worn
returns-in_err-step-clause-worn c s e = c.in_err-step.ensures.worn s (grind (arith, common_steps, e, c.from_residual-in_err-step.ensures.1))

pub returns-in_err-outs-clause-kept : goal.returns-in_err-outs-clause-kept
returns-in_err-outs-clause-kept c = c.make_room.ensures.kept

pub returns-in_err-step-clause-kept : goal.returns-in_err-step-clause-kept
returns-in_err-step-clause-kept c = c.make_room.ensures.kept

pub returns-clause-kept : goal.returns-clause-kept
returns-clause-kept c = c.enter.ensures.kept ∙ c.make_room.ensures.kept

pub enter-requires-clause-spare : goal.enter-requires-clause-spare
enter-requires-clause-spare c = c.in_ok-outs.ensures.spare

pub enter-requires-clause-low : goal.enter-requires-clause-low
enter-requires-clause-low c = c.in_ok-step.ensures.low

pub enter-requires-clause-entry : goal.enter-requires-clause-entry
enter-requires-clause-entry c = c.in_ok-outs.ensures.entry
