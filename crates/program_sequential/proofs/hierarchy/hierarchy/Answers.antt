use Rattle.program_sequential.specs.HierarchyRan.{IsHierarchyShown}
use Rattle.program_sequential.proofs.Ended.{if-ok}
use Rattle.program_sequential.proofs.Headlines.{hierarchy-headline}
use Rattle.program_sequential.proofs.hierarchy.hierarchy.Goals as goal

pub returns : goal.returns
returns c =
    let net = c.args.net in
    if-ok c.shown.result (λ p. IsHierarchyShown c.args.options net p.text p.journal) _
    (λ p s input of. hierarchy-headline c.args.options input p.text net p.journal of c.requires.sound c.requires.notices s
    (c.lemma_hierarchy_promise.ensures.clients c.args.options input net p.journal of)
    (c.lemma_hierarchy_promise.ensures.network c.args.options net p.journal)) c.shown.ensures
