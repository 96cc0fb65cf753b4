use Rattle.std.proofs.Common.{IfSome, sym, subst}
use Rattle.net_tables.specs.Found.{publication_at}
use Rattle.server_core.specs.Core.{installed_from}
use Rattle.server_core.specs.Routed.{IsRoute, RoutesNext}
use Rattle.thread_cell.proofs.Routes.{route-of-next}
use Rattle.thread_cell.proofs.Shown.{installed_after_command, low_command}
use Rattle.thread_cell.proofs.routing.take_command.Goals as goal

pub take_publish-requires-clause-route : goal.take_publish-requires-clause-route
take_publish-requires-clause-route c =
    let known : RoutesNext c.args.core.now c.args.client c.in-Some-known.route.now =
    subst (λ o. IfSome o (λ r. RoutesNext c.args.core.now c.args.client r.now)) c.in-Some-known.is c.requires.known in
    subst (IsRoute (publication_at c.args.core.now.net c.in-Some.number).notice (installed_from c.args.core.now)) (sym c.interfaces.ensures)
    (route-of-next c.args.core.now c.args.client c.in-Some-known.route.now (publication_at c.args.core.now.net c.in-Some.number) c.requires.lives c.in-Some.ensures.publish known)

pub returns-in_default-clause-installed : goal.returns-in_default-clause-installed
returns-in_default-clause-installed c =
    installed_after_command c.args.core.now c.take_command.new.self c.args.publisher.now c.args.client c.requires.stands c.take_command.result (λ s. s.stamp) (λ s. s.sent.items)
    c.take_command.ensures.step c.take_command.ensures.interfaces c.take_command.ensures.err c.requires.installed

pub returns-in_default-clause-worn : goal.returns-in_default-clause-worn
returns-in_default-clause-worn c s e = (c.take_command.ensures.exhausted s).0 e

pub returns-in_default-clause-low : goal.returns-in_default-clause-low
returns-in_default-clause-low c = low_command c.args.core.now c.take_command.new.self c.args.client c.take_command.result (λ s. s.stamp) (λ s. s.sent.items) c.clock-clock.result c.clock-clock.ensures.below c.clock-clock.ensures.clock c.take_command.ensures.exhausted c.take_command.ensures.step

pub returns-in-Some-known-clause-installed : goal.returns-in-Some-known-clause-installed
returns-in-Some-known-clause-installed c =
    installed_after_command c.args.core.now c.take_publish.new.self c.args.publisher.now c.args.client c.requires.stands c.take_publish.result (λ s. s.stamp) (λ s. s.sent.items)
    c.take_publish.ensures.step c.take_publish.ensures.interfaces c.take_publish.ensures.err c.requires.installed

pub returns-in-Some-known-clause-worn : goal.returns-in-Some-known-clause-worn
returns-in-Some-known-clause-worn c s e = (c.take_publish.ensures.exhausted s).0 e

pub returns-in-Some-known-clause-low : goal.returns-in-Some-known-clause-low
returns-in-Some-known-clause-low c = low_command c.args.core.now c.take_publish.new.self c.args.client c.take_publish.result (λ s. s.stamp) (λ s. s.sent.items) c.clock-clock.result c.clock-clock.ensures.below c.clock-clock.ensures.clock c.take_publish.ensures.exhausted c.take_publish.ensures.step

pub returns-clause-installed : goal.returns-clause-installed
returns-clause-installed c =
    installed_after_command c.args.core.now c.take_publish-2.new.self c.args.publisher.now c.args.client c.requires.stands c.take_publish-2.result (λ s. s.stamp) (λ s. s.sent.items)
    c.take_publish-2.ensures.step c.take_publish-2.ensures.interfaces c.take_publish-2.ensures.err c.requires.installed

pub returns-clause-worn : goal.returns-clause-worn
returns-clause-worn c s e = (c.take_publish-2.ensures.exhausted s).0 e

pub returns-clause-low : goal.returns-clause-low
returns-clause-low c = low_command c.args.core.now c.take_publish-2.new.self c.args.client c.take_publish-2.result (λ s. s.stamp) (λ s. s.sent.items) c.clock-clock.result c.clock-clock.ensures.below c.clock-clock.ensures.clock c.take_publish-2.ensures.exhausted c.take_publish-2.ensures.step
