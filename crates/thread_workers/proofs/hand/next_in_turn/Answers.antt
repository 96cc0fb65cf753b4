use Rattle.std.proofs.Common.{length, sym, ap, subst, ◌∙◌, arith}
use Rattle.net_model.specs.Parts.{NetParts}
use Rattle.net_model.specs.Sound.{IsSound}
use Rattle.server_core.specs.Core.{CoreParts}
use Rattle.thread_workers.proofs.Waiting.{none-waits, if-none}
use Rattle.thread_workers.proofs.hand.next_in_turn.Goals as goal

pub clients-end-requires : goal.clients-end-requires
clients-end-requires c = subst IsSound (sym (c.net.ensures ∙ c.tables.ensures ∙ ap (λ (z : CoreParts). z.net) c.core.ensures ∙ c.lemma_kept.ensures.run)) c.lemma_kept.ensures.sound

pub returns-in-None-clause-done : goal.returns-in-None-clause-done
returns-in-None-clause-done c =
    let n = ap (λ (z : NetParts). length z.clients) (sym (c.net.ensures ∙ c.tables.ensures ∙ ap (λ (z : CoreParts). z.net) c.core.ensures ∙ c.lemma_kept.ensures.run)) in
    if-none c.first_waiting-in-None.result c.first_waiting-in-None.ensures.past (λ past. none-waits _ _ _ c.lemma_kept.ensures _ (omega (arith, n, c.clients-end.ensures.count)) past)
