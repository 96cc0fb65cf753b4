use Rattle.hierarchy_network.proofs.Raised.{were-raised}
use Rattle.hierarchy_network.proofs.forwarding_server.ForwardingServerNetworked.begin.Goals as goal

pub returns-clause-back : goal.returns-clause-back
returns-clause-back c = were-raised c.args.servers.now.places.items c.raise_all.new.places.items c.raise_all.result c.raise_all.ensures.raised c.raise_all.ensures.before c.raise_all.ensures.low
