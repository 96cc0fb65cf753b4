use Rattle.std.proofs.Common.{ap, ◌∙◌}
use Rattle.program_sequential.specs.Words.{plain}
use Rattle.program_sequential.specs.Network.{IsWholeRun}
use Rattle.net_model.specs.Parts.{NetParts}
use Rattle.output_patterns.specs.Found.{found_text}
use Rattle.program_sequential.specs.Searching.{IsSearched}
use Rattle.program_sequential.proofs.Ended.{if-ok}
use Rattle.program_sequential.proofs.Searched.{searched-of}
use Rattle.program_sequential.proofs.Heard.{all-published}
use Rattle.program_sequential.proofs.patterns.searched.Goals as goal

pub make-requires-clause-published : goal.make-requires-clause-published
make-requires-clause-published c =
    let ran = c.in_ok-journal.field-0 in
    let r = c.in_ok-journal.ensures.ran in
    let whole : IsWholeRun c.args.net ran.journal.entries = record { sound = c.requires.sound; notices = c.requires.notices; legal = r.collected.legal; drained = r.drained } in
    let promised = c.lemma_promise.ensures.clients plain c.requires.document.0 c.args.net ran.journal.entries c.requires.document.1 whole in
    let heard = all-published c.args.net ran.journal.entries promised.allowed in
    let shown = ap (λ (n : NetParts). n.clients) c.net.view_is in
    rw (r.collected.received, shown) heard

pub returns : goal.returns
returns c =
    let ran = c.in_ok-journal.field-0 in
    let r = c.in_ok-journal.ensures.ran in
    let found =
    c.in_ok-found.ensures
    ∙ ap (λ (n : NetParts). found_text n.clients c.in_ok-journal.field-0.received.items c.args.patterns.items) c.net.view_is
    ∙ ap (λ l. found_text c.args.net.clients l c.args.patterns.items) r.collected.received in
    if-ok c.make-2.result _ (λ p. IsSearched c.args.net c.args.patterns.items p.text p.journal)
    (λ p e. searched-of c.args.net c.args.patterns.items p c.in_ok-found.found c.new.result.items ran.journal.entries e c.new.ensures.items found r.goes_by r.collected.legal r.drained)
    c.make-2.ensures
