use Rattle.std.proofs.Common.{refl, subst, ◌∙◌}
use Rattle.net_turns.specs.Told.{told_by}
use Rattle.output_traffic.specs.Tallied.{Carries}
use Rattle.program_sequential.specs.Network.{run_of}
use Rattle.program_sequential.specs.Traffic.{IsTrafficOf}
use Rattle.program_sequential.proofs.Carrying.{all-refused, is-told, traffic-of}
use Rattle.program_sequential.proofs.Ended.{if-ok}
use Rattle.program_sequential.proofs.traffic.traffic.Goals as goal

pub make-requires-clause-refused : goal.make-requires-clause-refused
make-requires-clause-refused c =
    let r = c.in_ok-journal.ensures.ran in
    c.deref.ensures.value ∙ ((r.collected.refused ∙ all-refused c.args.net c.in_ok-journal.field-0.journal.entries r.drained))

pub returns : goal.returns
returns c =
    let net = c.args.net in
    let r = c.in_ok-journal.ensures.ran in
    let journal = c.in_ok-journal.field-0.journal.entries in
    let shown = c.entries.ensures in
    let counted = subst (λ z. Carries c.in_ok-carried.carried z (told_by net z)) shown c.in_ok-carried.ensures in
    let laws = c.lemma_lawful_net.ensures.laws net c.requires in
    let run = run_of net laws journal r.collected.legal in
    let told = is-told net laws journal r.collected.legal in
    let few = c.lemma_beside_flooding.ensures.few net c.requires run refl journal (told_by net journal) told in
    if-ok c.make-2.result _ (λ p. (input : _) → _ → IsTrafficOf c.args.graph input p.text p.journal)
    (λ p e. traffic-of c.args.graph net p c.in_ok-traffic.traffic c.new.result.items journal e c.new.ensures.items (c.in_ok-traffic.ensures journal (told_by net journal) counted few) r.collected.legal r.drained r.goes_by
    (c.lemma_beside_flooding.ensures.never_more net c.requires run refl journal (told_by net journal) told) (c.lemma_beside_flooding.ensures.as_many net c.requires run refl r.drained journal (told_by net journal) told))
    c.make-2.ensures
