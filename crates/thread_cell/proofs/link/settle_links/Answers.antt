use Rattle.std.proofs.Common.{refl, subst}
use mathlib.Core.List.{IsPrefix}
use Rattle.thread_lane.specs.Lane.{coming_list}
use Rattle.thread_cell.specs.declared.link.Link.{Link}
use Rattle.thread_cell.specs.Links.{IsUnmoved}
use Rattle.thread_cell.proofs.Places.{set-unmoved, settled-at, next-set}
use Rattle.thread_cell.proofs.link.settle_links.Goals as goal

pub returns-clause-giver : goal.returns-clause-giver
returns-clause-giver c =
    set-unmoved _ _ c.index_mut.result.now _ c.requires.to (subst (λ x. IsUnmoved x (record { neighbour = c.index_mut.result.now.neighbour; enter = c.settle.new.a; leave = c.index_mut.result.now.leave })) c.index_mut.ensures.value
    (record { same = record { neighbour = refl; enter = c.settle.ensures.lane.1; leave = (((refl, refl, refl, refl), refl), refl) }; put = c.settle.ensures.lists.0; taken = refl }))

pub returns-clause-taker : goal.returns-clause-taker
returns-clause-taker c =
    set-unmoved _ _ c.index_mut-2.result.now _ c.requires.from (subst (λ x. IsUnmoved x (record { neighbour = c.index_mut-2.result.now.neighbour; enter = c.index_mut-2.result.now.enter; leave = c.settle.new.b })) c.index_mut-2.ensures.value
    (record { same = record { neighbour = refl; enter = (((refl, refl, refl, refl), refl), refl); leave = c.settle.ensures.lane.2 }; put = refl; taken = c.settle.ensures.lists.1 }))

pub returns-clause-settled : goal.returns-clause-settled
returns-clause-settled c = settled-at _ _ _ _ _ _ _ c.requires.to c.requires.from c.settle.ensures.lane.0 c.settle.ensures.settled

pub returns-clause-next : goal.returns-clause-next
returns-clause-next c item n = next-set _ _ c.index_mut-2.result.now _ item c.requires.from (subst (λ (x : Link). IsPrefix (coming_list x.leave) (coming_list c.settle.new.b)) c.index_mut-2.ensures.value c.settle.ensures.known) n
