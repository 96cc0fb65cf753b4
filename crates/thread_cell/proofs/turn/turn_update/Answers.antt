use Rattle.std.proofs.Common.{◌≡◌, true, false, ◌<◌, ◌^◌, [], refl, sym, subst, ◌∙◌, arith}
use Rattle.law_machine.specs.Machine.{Does}
use Rattle.law_routing.specs.Step.{TableUpdate}
use Rattle.net_model.specs.declared.turn.Act.TheVariants as acts
use Rattle.thread_cell.proofs.Shown.{same-one}
use Rattle.thread_cell.proofs.Unmoved.{all-unmoved, unmoved-roomed}
use Rattle.thread_cell.proofs.Turning.{still, held-still, did, did-links, held-after, room-left, distinct-left, long-left, unmoved-kept, silent-net, installed-silent}
use Rattle.thread_cell.proofs.turn.turn_update.Goals as goal
use Rattle.base.proofs.Results.{on-err}

pub returns-then-is_calm-clause-answers : goal.returns-then-is_calm-clause-answers
returns-then-is_calm-clause-answers g c phase = (still _ _ _ _ refl (all-unmoved c.args.held.now.links.items) refl (same-one _) refl, c.is_calm.ensures.0 c.if-is_calm.true)

pub returns-then-clock-eq-LAST_STAMP-clause-still : goal.returns-then-clock-eq-LAST_STAMP-clause-still
returns-then-clock-eq-LAST_STAMP-clause-still g c = still _ _ _ _ refl (all-unmoved c.args.held.now.links.items) refl (same-one _) refl

pub returns-in_err-outs-clause-still : goal.returns-in_err-outs-clause-still
returns-in_err-outs-clause-still g c = on-err _ (still _ _ _ _ refl (unmoved-roomed _ _ c.make_room.ensures.roomed) c.make_room.ensures.journal (same-one _) refl)

pub returns-in_err-outs-clause-held : goal.returns-in_err-outs-clause-held
returns-in_err-outs-clause-held g c = held-still c.args.held.now _ c.requires.held refl (unmoved-roomed _ _ c.make_room.ensures.roomed) c.requires.held.shown c.requires.held.handed

pub returns-in_err-stamp-clause-still : goal.returns-in_err-stamp-clause-still
returns-in_err-stamp-clause-still g c =
    on-err _ (still _ _ _ _ c.in_err-stamp.ensures.err.0 (unmoved-kept c.args.held.now.links c.make_room.new.links c.publish.new.held.links c.make_room.ensures.roomed c.publish.ensures.links) c.make_room.ensures.journal c.publish.ensures.publisher c.in_err-stamp.ensures.err.1)

pub returns-in_err-stamp-clause-held : goal.returns-in_err-stamp-clause-held
returns-in_err-stamp-clause-held g c =
    held-still c.args.held.now _ c.requires.held c.in_err-stamp.ensures.err.0 (unmoved-kept c.args.held.now.links c.make_room.new.links c.publish.new.held.links c.make_room.ensures.roomed c.publish.ensures.links) c.publish.ensures.shown c.publish.ensures.handed

pub enter-requires-clause-few : goal.enter-requires-clause-few
enter-requires-clause-few g c = room-left c.args.held.now c.requires.held c.publish.new.held.links.items (unmoved-kept c.args.held.now.links c.make_room.new.links c.publish.new.held.links c.make_room.ensures.roomed c.publish.ensures.links)

pub enter-requires-clause-distinct : goal.enter-requires-clause-distinct
enter-requires-clause-distinct g c = distinct-left c.args.held.now c.requires.held c.publish.new.held.links.items (unmoved-kept c.args.held.now.links c.make_room.new.links c.publish.new.held.links c.make_room.ensures.roomed c.publish.ensures.links) c.requires.stands

pub enter-requires-clause-outs : goal.enter-requires-clause-outs
enter-requires-clause-outs g c =
    let n = long-left c.args.held.now c.requires.held c.publish.new.held.links.items (unmoved-kept c.args.held.now.links c.make_room.new.links c.publish.new.held.links c.make_room.ensures.roomed c.publish.ensures.links) in
    let o = c.in_ok-outs.ensures.outs in
    (o.0, omega (arith, n, o.1))

pub enter-requires-clause-net : goal.enter-requires-clause-net
enter-requires-clause-net g c = (c.args.held.now.core.net, silent-net c.args.held.now.core.net c.silent-step.result.sent.items c.silent-step.ensures.1)

pub returns-clause-answers : goal.returns-clause-answers
returns-clause-answers g c phase =
    let u = unmoved-kept c.args.held.now.links c.make_room.new.links c.publish.new.held.links c.make_room.ensures.roomed c.publish.ensures.links in
    let step = installed-silent c.args.held.now.core c.publish.new.held.core c.in_ok-stamp.stamp c.silent-step.result.stamp c.silent-step.result.sent.items c.silent-step.ensures.0 c.silent-step.ensures.1 c.in_ok-stamp.ensures.step in record {
      input = Does TableUpdate;
      turn = did phase TableUpdate acts.TableUpdate c.args.held.now _ c.publish.new.held.links.items c.args.journal.now.entries c.make_room.new.journal.entries c.enter.new.journal.entries c.args.server c.silent-step.result.stamp c.silent-step.result.sent.items refl tt
          step u (c.enter.ensures.given c.args.held.now.core.net (silent-net c.args.held.now.core.net c.silent-step.result.sent.items c.silent-step.ensures.1))
          c.requires.server c.make_room.ensures.journal c.enter.ensures.entry c.publish.ensures.publisher;
      busy = λ e. let t = c.is_calm.ensures.1 e in let q : true ≡ false = sym t ∙ c.if-is_calm.false in absurd cc;
    }

pub returns-clause-held : goal.returns-clause-held
returns-clause-held g c =
    held-after c.args.held.now _ (Does TableUpdate) 0 c.silent-step.result.stamp c.silent-step.result.sent.items c.args.held.now.core.net (λ n. []) c.requires.held
    (installed-silent c.args.held.now.core c.publish.new.held.core c.in_ok-stamp.stamp c.silent-step.result.stamp c.silent-step.result.sent.items c.silent-step.ensures.0 c.silent-step.ensures.1 c.in_ok-stamp.ensures.step)
    (subst (λ n. n < 2 ^ 62) (sym c.silent-step.ensures.0) c.in_ok-stamp.ensures.low)
    (did-links c.args.held.now.links.items c.publish.new.held.links.items c.enter.new.links.items c.args.held.now.core.net c.silent-step.result.stamp c.silent-step.result.sent.items
    (unmoved-kept c.args.held.now.links c.make_room.new.links c.publish.new.held.links c.make_room.ensures.roomed c.publish.ensures.links)
    (c.enter.ensures.given c.args.held.now.core.net (silent-net c.args.held.now.core.net c.silent-step.result.sent.items c.silent-step.ensures.1)))
    c.publish.ensures.shown c.publish.ensures.handed

pub returns-in_err-outs-clause-kept : goal.returns-in_err-outs-clause-kept
returns-in_err-outs-clause-kept g c = c.make_room.ensures.kept

pub returns-in_err-stamp-clause-kept : goal.returns-in_err-stamp-clause-kept
returns-in_err-stamp-clause-kept g c = c.make_room.ensures.kept

pub returns-clause-kept : goal.returns-clause-kept
returns-clause-kept g c = c.enter.ensures.kept ∙ c.make_room.ensures.kept

pub publish-requires-clause-handed : goal.publish-requires-clause-handed
publish-requires-clause-handed g c = c.requires.held.handed

pub publish-requires-clause-shown : goal.publish-requires-clause-shown
publish-requires-clause-shown g c = c.requires.held.shown

pub enter-requires-clause-entry : goal.enter-requires-clause-entry
enter-requires-clause-entry g c = c.in_ok-outs.ensures.entry
