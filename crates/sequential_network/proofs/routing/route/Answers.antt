use Rattle.std.proofs.Common.{IfOk, sym, subst}
use Rattle.server_message.specs.Message.{IsLoad, represented}
use Rattle.server_message.specs.declared.load.Load.{Load}
use Rattle.server_core.specs.Routed.{RoutesMessage}
use Rattle.sequential_network.proofs.routing.route.Goals as goal

pub routed-requires-clause-number : goal.routed-requires-clause-number
routed-requires-clause-number c = subst (IsLoad c.args.tables.now) c.in-Publication.is c.requires.load

pub returns-in-Publication : goal.returns-in-Publication
returns-in-Publication c = λ core net place.
    subst (λ (l : Load). IfOk c.routed.result (λ r. RoutesMessage core (represented c.args.tables.now l) r)) (sym c.in-Publication.is) (c.routed.ensures core net place)
