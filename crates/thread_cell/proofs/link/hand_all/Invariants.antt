use Rattle.net_model.specs.Parts.{NetParts}
use Rattle.thread_cell.specs.LaneMessages.{AreOfNet}
use Rattle.thread_cell.proofs.HandAll.{Handing}
use Rattle.thread_cell.proofs.link.hand_all.Given as goal

abbrev pub invariant-loop-link : goal.invariant-loop-link
invariant-loop-link l = (net : NetParts) → AreOfNet net l.initial.sent.items → Handing net l.stamp l.link-index l.initial.links l.initial.sent.items l.links l.sent.items
