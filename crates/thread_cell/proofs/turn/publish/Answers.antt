use Rattle.std.proofs.Common.{◌++◌, refl, ap, subst, ◌∙◌}
use Rattle.base.specs.Sets.{Has}
use Rattle.thread_versions.specs.Ends.{installed, forwarding_of}
use Rattle.thread_cell.proofs.HandOver.{pairs_after_handed, pending-known, known-later}
use Rattle.server_core.proofs.Stamps.{never_publishes}
use Rattle.thread_cell.proofs.Shown.{installed-still, same-on, wide-later, wide-stays}
use Rattle.thread_cell.proofs.turn.publish.Goals as goal

pub hand_over-requires-clause-known : goal.hand_over-requires-clause-known
hand_over-requires-clause-known g c change h =
    known-later c.args.held.now.publisher c.mend.new.publisher change c.mend.ensures.same.0
    (pending-known c.args.held.now.core (forwarding_of c.args.held.now.publisher) _ _ _ _ c.args.held.now.core.pending c.requires.shown.wide refl c.requires.shown.wide.reaches c.pending.ensures.pending change (subst (Has change) c.pending.ensures.changes h))

pub returns-in_err-mend-clause-shown : goal.returns-in_err-mend-clause-shown
returns-in_err-mend-clause-shown g c = installed-still c.args.held.now.publisher c.mend.new.publisher c.args.held.now.core c.mend.ensures.same.0 c.mend.ensures.same.1 c.requires.shown

pub returns-in_err-hand_over-clause-publisher : goal.returns-in_err-hand_over-clause-publisher
returns-in_err-hand_over-clause-publisher g c = same-on c.args.held.now.publisher c.mend.new.publisher c.hand_over.new.publisher c.mend.ensures.same.0 c.hand_over.ensures.same.0

pub returns-in_err-hand_over-clause-shown : goal.returns-in_err-hand_over-clause-shown
returns-in_err-hand_over-clause-shown g c =
    installed-still c.args.held.now.publisher c.hand_over.new.publisher c.args.held.now.core (same-on c.args.held.now.publisher c.mend.new.publisher c.hand_over.new.publisher c.mend.ensures.same.0 c.hand_over.ensures.same.0)
    (c.hand_over.ensures.same.1 ∙ c.mend.ensures.same.1) c.requires.shown

pub returns-in_err-publish-clause-publisher : goal.returns-in_err-publish-clause-publisher
returns-in_err-publish-clause-publisher g c =
    same-on c.args.held.now.publisher c.hand_over.new.publisher c.publish.new.self (same-on c.args.held.now.publisher c.mend.new.publisher c.hand_over.new.publisher c.mend.ensures.same.0 c.hand_over.ensures.same.0) c.publish.ensures.same

pub returns-in_err-publish-clause-shown : goal.returns-in_err-publish-clause-shown
returns-in_err-publish-clause-shown g c =
    installed-still c.args.held.now.publisher c.publish.new.self c.args.held.now.core
    (same-on c.args.held.now.publisher c.hand_over.new.publisher c.publish.new.self (same-on c.args.held.now.publisher c.mend.new.publisher c.hand_over.new.publisher c.mend.ensures.same.0 c.hand_over.ensures.same.0) c.publish.ensures.same)
    (c.in_err-publish.ensures.installed ∙ c.hand_over.ensures.same.1 ∙ c.mend.ensures.same.1) c.requires.shown

pub unreachable-requires : goal.unreachable-requires
unreachable-requires g c = never_publishes c.publish-2.result c.in-Err.field-0 c.in-Err.is c.args.held.now.core.clock c.requires.low c.publish-2.ensures.exhausted c.publish-2.ensures.memory

pub returns-clause-publisher : goal.returns-clause-publisher
returns-clause-publisher g c =
    same-on c.args.held.now.publisher c.hand_over.new.publisher c.publish.new.self (same-on c.args.held.now.publisher c.mend.new.publisher c.hand_over.new.publisher c.mend.ensures.same.0 c.hand_over.ensures.same.0) c.publish.ensures.same

pub returns-clause-shown : goal.returns-clause-shown
returns-clause-shown g c =
    let handed = c.in_ok-hand_over.ensures.all ∙ ap (λ z. c.mend.new.handed.items ++ z) c.pending.ensures.changes in
    let same = same-on c.args.held.now.publisher c.hand_over.new.publisher c.publish.new.self (same-on c.args.held.now.publisher c.mend.new.publisher c.hand_over.new.publisher c.mend.ensures.same.0 c.hand_over.ensures.same.0) c.publish.ensures.same in
    record {
      wide = wide-later c.args.held.now.publisher c.publish.new.self c.publish-2.new.self same
          (wide-stays c.args.held.now.core c.publish-2.new.self c.in-Ok.ensures.step.same_net (forwarding_of c.args.held.now.publisher) (λ i h. c.requires.shown.wide.reaches i (subst (Has i) c.in-Ok.ensures.interfaces h)) c.requires.shown.wide);
      pairs = pairs_after_handed c.args.held.now.core c.publish-2.new.self (installed c.args.held.now.publisher) c.mend.new.handed.items (installed c.publish.new.self) c.in-Ok.stamp c.requires.stands c.in-Ok.ensures.step c.pending.ensures.pending c.lemma_sound.ensures c.in_ok-mend.ensures.mended
          (c.in_ok-publish.ensures.installed ∙ c.hand_over.ensures.handed ∙ ap (λ z. z ++ c.hand_over.new.handed.items) (c.hand_over.ensures.same.1 ∙ c.mend.ensures.same.1) ∙ ap (λ z. installed c.args.held.now.publisher ++ z) handed) c.requires.shown.pairs;
    }
