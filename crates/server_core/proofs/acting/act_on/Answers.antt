use Rattle.std.proofs.Common.{subst}
use Rattle.base.specs.Sets.{Has}
use Rattle.server_core.specs.Acting.{IsChangeIn}
use Rattle.server_core.proofs.acting.act_on.Goals as goal

pub set_filters-requires-clause-out : goal.set_filters-requires-clause-out
set_filters-requires-clause-out c i h = (subst (IsChangeIn c.args.ledger.now.net) c.in-Filters-default.is-0 c.requires.change).gone_within i (subst (Has i) c.withdrawn.ensures h)

pub set_filters-requires-clause-add : goal.set_filters-requires-clause-add
set_filters-requires-clause-add c i h = (subst (IsChangeIn c.args.ledger.now.net) c.in-Filters-default.is-0 c.requires.change).come_within i (subst (Has i) c.added.ensures h)

pub set_adverts-requires-clause-out : goal.set_adverts-requires-clause-out
set_adverts-requires-clause-out c i h =
    (subst (IsChangeIn c.args.ledger.now.net) c.in-Adverts-Advertisement.is-0 c.requires.change).gone_within i (subst (Has i) c.withdrawn-in-Adverts-Advertisement.ensures h)

pub set_adverts-requires-clause-add : goal.set_adverts-requires-clause-add
set_adverts-requires-clause-add c i h =
    (subst (IsChangeIn c.args.ledger.now.net) c.in-Adverts-Advertisement.is-0 c.requires.change).come_within i (subst (Has i) c.added-in-Adverts-Advertisement.ensures h)
