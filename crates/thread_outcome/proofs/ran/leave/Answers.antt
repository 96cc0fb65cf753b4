use Rattle.std.proofs.Common.{sym, subst}
use Rattle.net_turns.specs.Network.{received_by}
use Rattle.sequential_network.specs.Inboxes.{HaveInboxes}
use Rattle.sequential_network.specs.Stepping.{peers}
use Rattle.thread_outcome.specs.Outcome.{IsEndOf}
use Rattle.thread_outcome.proofs.Sessions.{have-all}
use Rattle.thread_outcome.proofs.ran.leave.Goals as goal

pub refused-requires : goal.refused-requires
refused-requires c = subst (λ cores. IsEndOf c.args.net.now cores c.args.journal.entries) (sym c.deref.ensures.value) c.requires

pub take_inboxes-requires-clause-sound : goal.take_inboxes-requires-clause-sound
take_inboxes-requires-clause-sound c = c.requires.sound

pub take_inboxes-requires-clause-inboxes : goal.take_inboxes-requires-clause-inboxes
take_inboxes-requires-clause-inboxes c = (
  received_by c.args.net.now c.args.journal.entries,
  subst (HaveInboxes peers c.args.net.now (received_by c.args.net.now c.args.journal.entries) 0) (sym c.deref_mut.ensures.value) (have-all c.args.net.now c.args.cores.items c.args.journal.entries c.requires),
)

pub returns-clause-refused : goal.returns-clause-refused
returns-clause-refused c = c.in_ok-refused.ensures

pub returns-clause-received : goal.returns-clause-received
returns-clause-received c =
    let given = received_by c.args.net.now c.args.journal.entries in
    c.in_ok-received.ensures given (subst (HaveInboxes peers c.args.net.now given 0) (sym c.deref_mut.ensures.value) (have-all c.args.net.now c.args.cores.items c.args.journal.entries c.requires))
