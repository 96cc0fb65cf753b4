use Rattle.thread_cell.proofs.Places.{taken-next}
use Rattle.thread_cell.proofs.reception.receive_at.Goals as goal

pub returns : goal.returns
returns g c = record { taken = taken-next _ _ c.index_mut.result.now c.index_mut.result.now _ c.requires.place c.requires.distinct c.index_mut.ensures.value c.take_next.ensures.taken }
