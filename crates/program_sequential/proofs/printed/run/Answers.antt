use Rattle.program_sequential.specs.Ran.{IsShown}
use Rattle.program_sequential.proofs.Ended.{if-ok}
use Rattle.program_sequential.proofs.Headlines.{headline}
use Rattle.program_sequential.proofs.printed.run.Goals as goal

pub returns-clause-printed : goal.returns-clause-printed
returns-clause-printed c =
    let net = c.args.net in
    if-ok c.shown.result (λ p. IsShown c.args.schedule c.args.options net p.text p.journal) _
    (λ p s input of. headline c.args.schedule c.args.options input p.text net p.journal of c.requires.sound c.requires.notices s
    (c.lemma_promise.ensures.clients c.args.options input net p.journal of)
    (λ whole. c.lemma_promise.ensures.network c.args.schedule c.args.options net p.journal whole s.goes_by)) c.shown.ensures.shown
