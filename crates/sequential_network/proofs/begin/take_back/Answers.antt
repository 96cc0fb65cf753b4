use Rattle.sequential_network.proofs.Exchanged.{can-undo, all-back}
use Rattle.sequential_network.proofs.begin.take_back.Goals as goal

pub exchange-requires : goal.exchange-requires
exchange-requires c = can-undo c.args.before.items c.requires.0 c.args.places.now.items c.requires.1

pub returns : goal.returns
returns c = λ old net last state undone servers.
    all-back net last state c.args.before.items c.exchange.new.standings.items old c.args.places.now.items c.exchange.new.places.items undone c.exchange.ensures servers
