-- What a permitted turn needs: a server of the net, and for a reception of a message from a neighbour, for a table update something pending, for a command a client's
-- next one. So where one of these is wanting the turn is barred.
use Rattle.std.proofs.Common.{◌≡◌, ℕ, Option, Some, None, slice_get, true, refl, sym, ap, subst}
use Rattle.base.specs.Sets.{Has}
use Rattle.law_machine.specs.Machine.{Input, Does, Receives, Did, Received, Act, Outcome, Stamped, act_of, act_phase, unstamped}
use Rattle.law_machine.specs.Network.{IsAvailable}
use Rattle.law_routing.specs.Net.{PhasedCommand}
use Rattle.law_routing.specs.Server.{Message, ServerState, is_among}
use Rattle.law_routing.specs.Step.{Task, NextCommand, TableUpdate, command_outcome, effect, InstallsTable, message_work, local_step}
use Rattle.law_routing.specs.Routing.{routing_machine}
use Rattle.law_routing.proofs.Laws.{one-has, cond-some}
use Rattle.law_phases.specs.Trees.{State, JournalEntry, net_at, machine_at, at_phase}
use Rattle.law_phases.specs.Moments.{Moment}
use Rattle.law_phases.specs.Runs.{ActFinds, IsStepOn, Turn}
use Rattle.law_phases.specs.Turns.{IsPermittedTurn}
use Rattle.law_phases.proofs.Turned.{permitted-happens}
use Rattle.net_model.specs.Real.{real}
use Rattle.net_model.specs.Parts.{NetParts}
use Rattle.net_model.specs.Nets.{phased_net}

module _ (net : NetParts) (phase : ℕ) (state : State real) where
  -- what a step of a server by an act needs
  abbrev pub Needs : ℕ → Act Task → Type 0
  Needs server (Received from) = Has server (phased_net net).servers × Has from ((net_at real (phased_net net) phase).links server) × ((m : Stamped (Message real)) × (slice_get (state.put from server) (state.taken from server) ≡ Some m))
  Needs server (Did TableUpdate) = Has server (phased_net net).servers × ((state.state server).pending ≡ true)
  Needs server (Did (NextCommand client)) = Has server (phased_net net).servers × Has client ((phased_net net).clients server)
      × ((x : PhasedCommand real) × (slice_get ((phased_net net).script client) ((state.state server).done client) ≡ Some x))

  needs : (server : ℕ) (d : Input Task (Stamped (Message real))) (o : Outcome (ServerState real) (Message real))
      → local_step real (net_at real (phased_net net) phase) server (state.state server) (unstamped (routing_machine real (net_at real (phased_net net) phase)) d) ≡ Some o
      → IsAvailable (routing_machine real (net_at real (phased_net net) phase)) (at_phase real (phased_net net) phase state) server d
      → Needs server (act_of (routing_machine real (net_at real (phased_net net) phase)) d)
  needs server (Receives from m) o e next =
      let c = cond-some (is_among server (phased_net net).servers) (is_among from ((net_at real (phased_net net) phase).links server))
      (Some (effect real (net_at real (phased_net net) phase) server (state.state server) (message_work real (net_at real (phased_net net) phase) (state.state server) from m.message))) o e in
      (one-has server (phased_net net).servers c.0, one-has from ((net_at real (phased_net net) phase).links server) c.1, (m, next))
  needs server (Does TableUpdate) o e next =
      let c = cond-some (is_among server (phased_net net).servers) (state.state server).pending (Some (effect real (net_at real (phased_net net) phase) server (state.state server) InstallsTable)) o e in
      (one-has server (phased_net net).servers c.0, c.1)
  needs server (Does (NextCommand client)) o e next =
      let c = cond-some (is_among server (phased_net net).servers) (is_among client ((phased_net net).clients server))
      (command_outcome real (net_at real (phased_net net) phase) server (state.state server) client (slice_get ((phased_net net).script client) ((state.state server).done client))) o e in
      (one-has server (phased_net net).servers c.0, one-has client ((phased_net net).clients server) c.1, some (slice_get ((phased_net net).script client) ((state.state server).done client)) c.2)
    where
      some : (x : Option (PhasedCommand real)) → command_outcome real (net_at real (phased_net net) phase) server (state.state server) client x ≡ Some o
          → (y : PhasedCommand real) × (x ≡ Some y)
      some None f = absurd cc
      some (Some y) f = (y, refl)

  pub step-needs : (entry : JournalEntry) (after : State real) → IsStepOn real (phased_net net) phase state entry after → Needs entry.server entry.act
  step-needs entry after (d, o, e, told, next, is) = subst (Needs entry.server) (sym (ap (λ z. z.act) told)) (needs entry.server d o e next)

-- a permitted turn needs this of what it finds, and finds what the rule of phases lets it
pub record Permits (net : NetParts) (before : Moment real (phased_net net)) (turn : Turn) : Type 0 where
  pub found : Moment real (phased_net net)
  pub ready : ActFinds real (phased_net net) before.state before.phase (act_phase (machine_at real (phased_net net) before.phase) turn.0 (before.state.state turn.0) turn.1) found.state found.phase
  pub needs : Needs net found.phase found.state turn.0 turn.1

pub permits : (net : NetParts) (before : Moment real (phased_net net)) (turn : Turn) (entry : JournalEntry) (next : Moment real (phased_net net))
    → IsPermittedTurn real (phased_net net) before turn entry next → Permits net before turn
permits net before turn entry next x =
    let h = permitted-happens real (phased_net net) before turn entry next x in
    record {
      found = x.found;
      ready = x.ready;
      needs = subst (λ z. Needs net x.found.phase x.found.state z turn.1) h.0 (subst (Needs net x.found.phase x.found.state entry.server) h.1 (step-needs net x.found.phase x.found.state entry next.state h.2.step));
    }
