use Rattle.std.proofs.Common.{◌-◌, set, sym, ap, subst, ◌∙◌}
use Rattle.base.specs.Sets.{Has}
use Rattle.net_inbox.specs.Inbox.{at_numbers}
use Rattle.net_tables.specs.Found.{known_deliveries}
use Rattle.net_model.specs.Nets.{home_of}
use Rattle.server_core.specs.Core.{without_inbox}
use Rattle.sequential_network.proofs.TakeInboxes.{found_core}
use Rattle.sequential_network.proofs.inboxes.take_inbox.Goals as goal

pub returns-clause-inbox : goal.returns-clause-inbox
returns-clause-inbox g c = λ core s at m e.
    let kind = g.P.Server.stepping in
    let here = found_core kind c.args.places.now.items c.home-home.result (home_of c.args.net.now c.args.client) c.index_mut.result.now core c.home-home.ensures c.requires.home c.index_mut.ensures.value at in
    c.of.ensures
    ∙ ap (λ z. at_numbers z c.take_inbox.result.items) (c.requires.deliveries core at ∙ ap (λ z. known_deliveries (kind.core z).net.clients) (sym here))
    ∙ c.take_inbox.ensures.inbox s (subst (λ z. Has s (kind.core z).clients) (sym here) m) e

pub returns-clause-places : goal.returns-clause-places
returns-clause-places g c = λ core at.
    let kind = g.P.Server.stepping in
    let here = found_core kind c.args.places.now.items c.home-home.result (home_of c.args.net.now c.args.client) c.index_mut.result.now core c.home-home.ensures c.requires.home c.index_mut.ensures.value at in (
      c.take_inbox.new.self,
      c.take_inbox.ensures.emptied ∙ ap (λ z. without_inbox c.args.client (kind.core z)) here,
      ap (λ z. set c.args.places.now.items (z - 1) c.take_inbox.new.self) c.home-home.ensures,
    )
