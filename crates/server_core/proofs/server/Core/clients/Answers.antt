use Rattle.std.proofs.Common.{map, sym, ap, subst, ◌∙◌}
use Rattle.base.specs.Sets.{Has}
use Rattle.server_core.specs.Clients.{bare, client_numbers}
use Rattle.server_core.specs.Core.{CoreParts, core_parts}
use Rattle.server_core.proofs.Commands.{numbers-bare}
use Rattle.server_core.proofs.Relinks.{range-of}
use Rattle.server_core.proofs.server.Core.clients.Goals as goal

pub returns-clause-clients : goal.returns-clause-clients
returns-clause-clients c = c.numbers.ensures ∙ (sym (numbers-bare c.self.inside.clients.sessions) ∙ ap (λ (z : CoreParts). client_numbers z.clients) c.self.view_is)

pub returns-clause-low : goal.returns-clause-low
returns-clause-low c n m =
    let core : CoreParts = core_parts c.self.inside.server c.self.inside.ledger (map bare c.self.inside.clients.sessions) c.self.inside.clock in
    (range-of core c.self.invariant.kept n (subst (λ (z : CoreParts). Has n (client_numbers z.clients)) (sym c.self.view_is) m)).1
