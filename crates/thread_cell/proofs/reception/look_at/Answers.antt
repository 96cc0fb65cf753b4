use Rattle.std.proofs.Common.{subst}
use Rattle.thread_cell.specs.Links.{IsUnmoved}
use Rattle.thread_cell.proofs.Places.{set-unmoved, looked-at}
use Rattle.thread_cell.proofs.reception.look_at.Goals as goal

pub returns-clause-unmoved : goal.returns-clause-unmoved
returns-clause-unmoved g c = set-unmoved _ _ c.index_mut.result.now _ c.requires.place (subst (λ x. IsUnmoved x c.look.new.self) c.index_mut.ensures.value c.look.ensures.unmoved.0)

pub returns-clause-looked : goal.returns-clause-looked
returns-clause-looked g c = looked-at _ _ c.index_mut.result.now c.index_mut.result.now _ c.look.result c.requires.place c.index_mut.ensures.value c.look.ensures.looked
