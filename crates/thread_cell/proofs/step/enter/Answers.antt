use Rattle.std.proofs.Common.{arith}
use Rattle.std.proofs.lemmas.List.{length-map}
use Rattle.thread_cell.proofs.Orders.{no-longer}
use Rattle.thread_cell.proofs.step.enter.Goals as goal

pub receivers-outs-requires-clause-room : goal.receivers-outs-requires-clause-room
receivers-outs-requires-clause-room c =
    let n = no-longer _ _ c.requires.order in rw c.deref.ensures.value (omega (arith, length-map c.args.step.sent.items (λ s. s.to), length-map c.args.links.now.items (λ link. link.neighbour), c.requires.outs.1, n))

pub hand_all-requires-clause-room : goal.hand_all-requires-clause-room
hand_all-requires-clause-room c = rw c.deref_mut.ensures.value c.requires.spare

pub hand_all-requires-clause-few : goal.hand_all-requires-clause-few
hand_all-requires-clause-few c = rw c.deref_mut.ensures.value c.requires.few
