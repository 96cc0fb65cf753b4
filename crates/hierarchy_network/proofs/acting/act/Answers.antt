use Rattle.std.proofs.Common.{subst}
use Rattle.base.specs.Sets.{Has}
use Rattle.server_message.specs.Message.{IsLoad}
use Rattle.hierarchy_network.proofs.acting.act.Goals as goal

pub set_filters-requires-clause-out : goal.set_filters-requires-clause-out
set_filters-requires-clause-out c = λ i h. (subst (IsLoad c.args.ledger.now.net) c.in-Filters.is c.requires.load).withdrawn_known i (subst (Has i) c.withdrawn.ensures h)

pub set_filters-requires-clause-add : goal.set_filters-requires-clause-add
set_filters-requires-clause-add c = λ i h. (subst (IsLoad c.args.ledger.now.net) c.in-Filters.is c.requires.load).added_known i (subst (Has i) c.added.ensures h)

pub set_filters-requires-clause-apart : goal.set_filters-requires-clause-apart
set_filters-requires-clause-apart c = λ i h k. (subst (IsLoad c.args.ledger.now.net) c.in-Filters.is c.requires.load).apart i (subst (Has i) c.withdrawn.ensures h) (subst (Has i) c.added.ensures k)
