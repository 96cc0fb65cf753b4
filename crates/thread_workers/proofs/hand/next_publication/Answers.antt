use Rattle.thread_workers.proofs.Waiting.{lives-here, matchable, some-matchable}
use Rattle.thread_workers.proofs.hand.next_publication.Goals as goal

pub next_publication-requires : goal.next_publication-requires
next_publication-requires c = lives-here _ _ _ c.lemma_kept.ensures c.core.result.now c.args.client c.core.ensures c.requires

pub returns : goal.returns
returns c = some-matchable c.next_publication.result (matchable _ _ _ c.lemma_kept.ensures c.core.result.now c.core.ensures) c.next_publication.ensures.known
