-- What a permitted turn needs: a server of the net, and for a reception of a message from a neighbour, for a table update something pending, for a command a client's
-- next one. So where one of these is wanting the turn is barred.
use Rattle.std.proofs.Common.{◌≡◌, ℕ, Some, slice_get, true, sym, ap, subst}
use Rattle.base.specs.Sets.{Has}
use Rattle.law_machine.specs.Machine.{Input, Does, Receives, Did, Received, Act, Outcome, Stamped, act_of, act_phase, unstamped}
use Rattle.law_machine.specs.Network.{IsAvailable, IsStep}
use Rattle.law_machine.specs.Network.{turn as after_turn}
use Rattle.law_machine.specs.Runs.{IsReady, IsPermitted}
use Rattle.law_machine.specs.History.{Moment}
use Rattle.law_machine.proofs.Tried.{entry-step}
use Rattle.law_routing.specs.Net.{PhasedCommand}
use Rattle.law_routing.specs.Server.{Message, ServerState}
use Rattle.law_routing.specs.Step.{Task, NextCommand, TableUpdate}
use Rattle.law_phases.specs.Runs.{Turn}
use Rattle.net_model.specs.Real.{real}
use Rattle.law_hierarchy.specs.Step.{local_step, Hierarchy, HierarchyEntry}
use Rattle.law_hierarchy.proofs.Local.{commands, takes, publishes}
use Rattle.net_model.specs.Parts.{NetParts}
use Rattle.hierarchy_turns.specs.Network.{net_of, servers_of}

module _ (net : NetParts) (state : Hierarchy real (net_of net)) where
  -- what a step of a server by an act needs
  abbrev pub Needs : ℕ → Act Task → Type 0
  Needs server (Received from) = Has server (net_of net).servers × Has from ((net_of net).links server) × ((m : Stamped (Message real)) × (slice_get (state.put from server) (state.taken from server) ≡ Some m))
  Needs server (Did TableUpdate) = Has server (net_of net).servers × ((state.state server).pending ≡ true)
  Needs server (Did (NextCommand client)) = Has server (net_of net).servers × Has client ((net_of net).clients server)
      × ((x : PhasedCommand real) × (slice_get ((net_of net).script client) ((state.state server).done client) ≡ Some x))

  needs : (server : ℕ) (d : Input Task (Stamped (Message real))) (o : Outcome (ServerState real) (Message real))
      → local_step real (net_of net) server (state.state server) (unstamped (servers_of net) d) ≡ Some o
      → IsAvailable (servers_of net) state server d
      → Needs server (act_of (servers_of net) d)
  needs server (Receives from m) o e next = let x = takes real (net_of net) server (state.state server) from m.message o e in (x.here, x.near, (m, next))
  needs server (Does TableUpdate) o e next = let x = publishes real (net_of net) server (state.state server) o e in (x.here, x.pending)
  needs server (Does (NextCommand client)) o e next = let x = commands real (net_of net) server (state.state server) client o e in (x.here, x.lives, (x.next, x.at))

  pub step-needs : (entry : HierarchyEntry real (net_of net)) (after : Hierarchy real (net_of net)) → IsStep (servers_of net) state entry after → Needs entry.server entry.act
  step-needs entry after (d, o, e, told, next, is) = subst (Needs entry.server) (sym (ap (λ (z : HierarchyEntry real (net_of net)). z.act) told)) (needs entry.server d o e next)

-- a permitted turn needs this of what it finds, and finds what the rule of phases lets it
pub record Permits (net : NetParts) (before : Moment (servers_of net)) (turn : Turn) : Type 0 where
  pub found : Hierarchy real (net_of net)
  pub own : ℕ
  pub ready : IsReady (servers_of net) before.network before.phase (act_phase (servers_of net) turn.0 (before.network.state turn.0) turn.1) found own
  pub needs : Needs net found turn.0 turn.1

pub permits : (net : NetParts) (before : Moment (servers_of net)) (turn : Turn) (entry : HierarchyEntry real (net_of net)) (next : Hierarchy real (net_of net)) (now : ℕ)
    → IsPermitted (servers_of net) before.network before.phase turn.0 turn.1 entry next now → Permits net before turn
permits net before turn entry next now x =
    let y = entry-step (servers_of net) x.found turn.0 turn.1 entry x.possible in
    record {
      found = x.found;
      own = now;
      ready = x.ready;
      needs = subst (λ z. Needs net x.found z turn.1) y.server
          (subst (Needs net x.found entry.server) y.act (step-needs net x.found entry (after_turn (servers_of net) x.found turn.0 turn.1) y.step));
    }
