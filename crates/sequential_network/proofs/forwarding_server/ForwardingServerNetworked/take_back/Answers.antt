use Rattle.net_turns.specs.Network.{moment_by}
use Rattle.sequential_network.proofs.Commanding.{taken_back}
use Rattle.sequential_network.proofs.forwarding_server.ForwardingServerNetworked.take_back.Goals as goal

pub returns-clause-back : goal.returns-clause-back
returns-clause-back c = λ net last old kept undone others.
    taken_back net last old _ kept (c.take_back.ensures old.cores net last (moment_by net old.journal).state undone kept.cores) others.run others.messages others.journal
