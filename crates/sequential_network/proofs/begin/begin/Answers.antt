use Rattle.std.proofs.Common.{subst}
use Rattle.sequential_network.specs.Begin.{Begins, CanAllTake}
use Rattle.sequential_network.proofs.Exchanged.{all-begun, all-undone}
use Rattle.sequential_network.proofs.begin.begin.Goals as goal

pub returns-clause-begun : goal.returns-clause-begun
returns-clause-begun c =
    let begins = subst (λ z. Begins c.args.tables.now c.args.last c.args.phase z c.in_ok-standings.standings.items) c.deref.ensures.value c.in_ok-standings.ensures in
    all-begun c.args.tables.now c.requires.sound c.args.last c.args.phase c.in_ok-standings.standings.items c.exchange.new.standings.items c.args.places.now.items c.exchange.new.places.items begins c.exchange.ensures

pub returns-clause-back : goal.returns-clause-back
returns-clause-back c =
    let can = subst (λ z. CanAllTake c.in_ok-standings.standings.items z) c.deref.ensures.value c.in_ok-standings.ensures.can in
    all-undone c.in_ok-standings.standings.items c.exchange.new.standings.items c.args.places.now.items c.exchange.new.places.items can c.exchange.ensures
