-- A run of the net, drained, has in its inboxes exactly what is allowed, each once.
use Rattle.std.proofs.Common.{◌≤◌, ◌↔◌, length, subst}
use Rattle.base.specs.Sets.{Has}
use Rattle.law_routing.specs.Server.{Publication}
use Rattle.law_routing.specs.AsOf.{times_delivered}
use Rattle.law_phases.specs.Trees.{PhasedNet}
use Rattle.law_phases.specs.Moments.{Moment}
use Rattle.law_phases.specs.AtMoments.{net_then, inbox_of}
use Rattle.law_phases.specs.Owing.{IsOwedByScripts, IsAllowedByScripts}
use Rattle.net_model.specs.Real.{real}
use Rattle.output_report.proofs.AsDelivered.{client_delivered, as_delivered}
use Rattle.output_report.proofs.law.flood_as_delivered.Goals as goal

pub returns-clause-client : goal.returns-clause-client
returns-clause-client c = λ net sound rows refused flooding run same drained.
    client_delivered net rows refused flooding (inbox_of real run)
    (λ client lives f.
    subst (λ (N : PhasedNet real). Has client (N.clients (N.home client))
    → ((p : Publication real) → IsAllowedByScripts real N p client → IsOwedByScripts real N p client)
    → (p : Publication real) → Has p (inbox_of real run client) ↔ IsAllowedByScripts real N p client) same
    (λ here g. c.stable_inputs.ensures run drained client (record { lives = here; owed = g })) lives f)
    (net_then real run (length run.journal))
    (λ client p o.
    subst (λ (m : Moment real run.net). times_delivered real (net_then real run (length run.journal)) p o ((m.state.state (run.net.home client)).inbox client) ≤ 1)
    (c.last_moment.ensures run)
    (c.never_twice.ensures run (length run.journal) (run.net.home client) client p o))

pub returns-clause-whole : goal.returns-clause-whole
returns-clause-whole c = λ net sound rows refused flooding owed run same drained.
    as_delivered net rows refused flooding owed (inbox_of real run)
    (λ client lives f.
    subst (λ (N : PhasedNet real). Has client (N.clients (N.home client))
    → ((p : Publication real) → IsAllowedByScripts real N p client → IsOwedByScripts real N p client)
    → (p : Publication real) → Has p (inbox_of real run client) ↔ IsAllowedByScripts real N p client) same
    (λ here g. c.stable_inputs.ensures run drained client (record { lives = here; owed = g })) lives f)
    (net_then real run (length run.journal))
    (λ client p o.
    subst (λ (m : Moment real run.net). times_delivered real (net_then real run (length run.journal)) p o ((m.state.state (run.net.home client)).inbox client) ≤ 1)
    (c.last_moment.ensures run)
    (c.never_twice.ensures run (length run.journal) (run.net.home client) client p o))
