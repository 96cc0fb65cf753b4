use Rattle.std.proofs.Common.{◌-◌, set, sym, ap, subst, ◌∙◌}
use Rattle.base.specs.Sets.{Has}
use Rattle.net_inbox.specs.Inbox.{at_numbers}
use Rattle.net_tables.specs.Found.{known_deliveries}
use Rattle.net_model.specs.Nets.{home_of}
use Rattle.server_core.specs.Core.{CoreParts, without_inbox}
use Rattle.sequential_network.specs.Stepping.{peers}
use Rattle.sequential_network.proofs.TakeInboxes.{found_core}
use Rattle.thread_outcome.proofs.inboxes.take_inbox.Goals as goal

pub returns-clause-inbox : goal.returns-clause-inbox
returns-clause-inbox c = λ core s at m e.
    let here = sym c.index-cores-home.is ∙ found_core peers c.args.cores.now c.home-home.result (home_of c.args.net.now c.args.client) c.index-cores-home.result core c.home-home.ensures c.requires.home c.index-cores-home.is at in
    c.of.ensures
    ∙ ap (λ z. at_numbers z c.take_inbox.result.items) (c.requires.deliveries core at ∙ ap (λ (z : CoreParts). known_deliveries z.net.clients) (sym here))
    ∙ c.take_inbox.ensures.inbox s (subst (λ (z : CoreParts). Has s z.clients) (sym here) m) e

pub returns-clause-cores : goal.returns-clause-cores
returns-clause-cores c = λ core at.
    let here = sym c.index-cores-home.is ∙ found_core peers c.args.cores.now c.home-home.result (home_of c.args.net.now c.args.client) c.index-cores-home.result core c.home-home.ensures c.requires.home c.index-cores-home.is at in (
      c.take_inbox.new.self,
      c.take_inbox.ensures.emptied ∙ ap (without_inbox c.args.client) here,
      ap (λ z. set c.args.cores.now (z - 1) c.take_inbox.new.self) c.home-home.ensures,
    )
