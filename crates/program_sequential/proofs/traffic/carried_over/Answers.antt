use Rattle.std.proofs.Common.{◌≡◌, ◌++◌, ◌∷◌, [], get_or, ap, subst, ◌∙◌}
use Rattle.net_turns.specs.Retold.{turn_of_entry}
use Rattle.net_turns.specs.Turns.{IsTurn}
use Rattle.output_traffic.specs.Tallied.{Carries}
use Rattle.program_sequential.proofs.Carrying.{counted-more}
use Rattle.program_sequential.proofs.traffic.carried_over.Goals as goal

pub loop-entry-preserved : goal.loop-entry-preserved
loop-entry-preserved c =
    let journal = c.args.journal.now in
    let i = c.loop-entry.entry-index in
    let d = c.entry-item.result in
    let turn-is : c.turn_of.result ≡ turn_of_entry (get_or journal i d) = c.turn_of.ensures ∙ ap turn_of_entry c.entry-item.is in
    counted-more c.args.tables.now journal c.requires.legal i d c.loop-entry-test.true c.in_ok-turn.field-0 c.loop-entry.network c.turn.new.self c.loop-entry.carried c.add.new.self c.in_ok-sent.sent
    c.loop-entry.invariant (subst (λ z. IsTurn c.in_ok-turn.field-0 z c.loop-entry.network c.turn.new.self) turn-is c.in_ok-turn.ensures.turn) c.in_ok-sent.ensures
    (λ entries outs long so.
    subst (λ e. Carries c.add.new.self (entries ++ e ∷ []) (outs ++ c.in_ok-sent.sent ∷ [])) c.entry-item.is
    (subst (λ s. Carries c.add.new.self (entries ++ d ∷ []) (outs ++ s ∷ [])) c.as_slice.ensures (c.in_ok-add.ensures entries outs long so)))
