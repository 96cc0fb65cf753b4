use Rattle.std.proofs.Common.{IfSome, sym, subst}
use Rattle.net_tables.specs.Found.{publication_at}
use Rattle.thread_cell.specs.Ahead.{IsChoiceNextBy, IsJudged}
use Rattle.thread_cell.proofs.Aheads.{choice-next}
use Rattle.thread_cell.proofs.choice.choose_next.Goals as goal

pub returns-in-Some-next_publication : goal.returns-in-Some-next_publication
returns-in-Some-next_publication c =
    let f = c.choose.ensures c.args.held.now.publisher (subst (λ o. IfSome o (IsJudged c.args.held.now.publisher)) c.in-Some.is c.requires.judged) in
    subst (λ o. IsChoiceNextBy c.args.held.now.core c.args.held.now.publisher o c.args.client c.choose.result) (sym c.in-Some.is)
    (choice-next c.args.held.now.core c.args.held.now.publisher c.in-Some.matched.ahead.now c.requires.installed.pairs (publication_at c.args.held.now.core.net c.in-Some-next_publication.number) f.0 f.1 c.args.client c.requires.lives c.in-Some-next_publication.ensures.publish c.choose.result f.2)
