use Rattle.law_machine.specs.Machine.{Receives}
use Rattle.server_message.specs.Message.{represented}
use Rattle.thread_cell.proofs.Shown.{installed_after_reception, low_reception}
use Rattle.thread_cell.proofs.routing.receive_load.Goals as goal

pub returns-in-Some-clause-installed : goal.returns-in-Some-clause-installed
returns-in-Some-clause-installed c =
    installed_after_reception c.args.core.now c.receive_load.new.self c.args.publisher.now c.args.from (represented c.args.core.now.net c.args.load.now) c.args.stamp c.requires.stands c.receive_load.result (λ s. s.stamp) (λ s. s.sent.items)
    c.receive_load.ensures.step c.receive_load.ensures.interfaces c.receive_load.ensures.err c.requires.installed

pub returns-in-Some-clause-worn : goal.returns-in-Some-clause-worn
returns-in-Some-clause-worn c s e = (c.receive_load.ensures.exhausted s).0 e

pub returns-in-Some-clause-low : goal.returns-in-Some-clause-low
returns-in-Some-clause-low c = low_reception c.args.core.now c.receive_load.new.self (Receives c.args.from (represented c.args.core.now.net c.args.load.now)) c.args.stamp c.receive_load.result (λ s. s.stamp) (λ s. s.sent.items) c.clock-clock.result c.clock-clock.ensures.below c.clock-clock.ensures.clock c.requires.stamp c.receive_load.ensures.exhausted c.receive_load.ensures.step

pub returns-clause-installed : goal.returns-clause-installed
returns-clause-installed c =
    installed_after_reception c.args.core.now c.receive_load-2.new.self c.args.publisher.now c.args.from (represented c.args.core.now.net c.args.load.now) c.args.stamp c.requires.stands c.receive_load-2.result (λ s. s.stamp) (λ s. s.sent.items)
    c.receive_load-2.ensures.step c.receive_load-2.ensures.interfaces c.receive_load-2.ensures.err c.requires.installed

pub returns-clause-worn : goal.returns-clause-worn
returns-clause-worn c s e = (c.receive_load-2.ensures.exhausted s).0 e

pub returns-clause-low : goal.returns-clause-low
returns-clause-low c = low_reception c.args.core.now c.receive_load-2.new.self (Receives c.args.from (represented c.args.core.now.net c.args.load.now)) c.args.stamp c.receive_load-2.result (λ s. s.stamp) (λ s. s.sent.items) c.clock-clock.result c.clock-clock.ensures.below c.clock-clock.ensures.clock c.requires.stamp c.receive_load-2.ensures.exhausted c.receive_load-2.ensures.step
