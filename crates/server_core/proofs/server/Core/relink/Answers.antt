use Rattle.std.proofs.Common.{map, refl, sym, subst}
use Rattle.server_core.specs.Clients.{bare}
use Rattle.server_core.specs.Core.{CoreParts, core_parts}
use Rattle.server_core.specs.Linked.{SuitsCore}
use Rattle.server_core.proofs.Relinks.{installed-suits, relinked-kept, suits-back}
use Rattle.server_core.proofs.server.Core.relink.Goals as goal

pub invariant_of-self : goal.invariant_of-self
invariant_of-self c =
    let core : CoreParts = core_parts c.self.inside.server c.self.inside.ledger (map bare c.self.inside.clients.sessions) c.self.inside.clock in
    let p = c.publish.ensures in
    let given : SuitsCore core c.args.ledger = subst (λ z. SuitsCore z c.args.ledger) (sym c.self.view_is) c.requires.suits in
    let suits : SuitsCore core c.publish.new.self = installed-suits core c.replace-before.new.dest c.publish.new.self p.net p.interfaces p.control (subst (λ z. SuitsCore core z) (sym c.replace-before.ensures.after) given) in
    relinked-kept c.self.inside.server c.self.inside.clock c.self.inside.ledger c.publish.new.self (map bare c.self.inside.clients.sessions) c.self.inside.ledger.interfaces c.self.inside.clients.net c.self.invariant suits

pub returns-clause-suits_back : goal.returns-clause-suits_back
returns-clause-suits_back c =
    let core : CoreParts = core_parts c.self.inside.server c.self.inside.ledger (map bare c.self.inside.clients.sessions) c.self.inside.clock in
    let p = c.publish.ensures in
    let given : SuitsCore core c.args.ledger = subst (λ z. SuitsCore z c.args.ledger) (sym c.self.view_is) c.requires.suits in
    let suits : SuitsCore core c.publish.new.self = installed-suits core c.replace-before.new.dest c.publish.new.self p.net p.interfaces p.control (subst (λ z. SuitsCore core z) (sym c.replace-before.ensures.after) given) in
    subst (λ z. SuitsCore (core_parts c.self.inside.server c.publish.new.self (map bare c.self.inside.clients.sessions) c.self.inside.clock) z) (sym c.replace-before.ensures.value)
    (suits-back c.self.inside.server c.self.inside.clock c.self.inside.ledger c.publish.new.self (map bare c.self.inside.clients.sessions) c.self.inside.ledger.interfaces c.self.inside.clients.net c.self.invariant suits refl)
