use Rattle.std.proofs.Common.{◌≡◌, get_or, ap, subst, ◌∙◌}
use Rattle.net_turns.specs.Retold.{turn_of_entry}
use Rattle.net_turns.proofs.retelling.retold.Goals as goal

pub loop-entry-init : goal.loop-entry-init
loop-entry-init g c =
    let at = g.N.Turning.seen in
    g.N.Turning.telling.retold_none (at c.args.network.now).net c.args.journal.now (at c.args.network.now) c.in_ok-told.told.items c.requires.start c.in_ok-told.ensures.items

pub loop-entry-preserved : goal.loop-entry-preserved
loop-entry-preserved g c =
    let t = g.N.Turning.trying in
    let at = g.N.Turning.seen in
    let turn-is : c.turn_of.result ≡ turn_of_entry (get_or c.args.journal.now c.loop-entry.entry-index c.entry-item.result) = c.turn_of.ensures ∙ ap turn_of_entry c.entry-item.is in
    g.N.Turning.telling.retold_more (at c.args.network.now).net c.args.journal.now c.requires.legal c.loop-entry.entry-index c.entry-item.result c.loop-entry-test.true c.in_ok-make.field-0 (at c.loop-entry.network) (at c.make.new.self) c.loop-entry.told.items c.in_ok-texts.texts c.push.new.self.items
    c.loop-entry.invariant (subst (λ z. t.IsTurn c.in_ok-make.field-0 z (at c.loop-entry.network) (at c.make.new.self)) turn-is c.in_ok-make.ensures.turn) c.in_ok-texts.ensures c.in_ok-push.ensures.items
