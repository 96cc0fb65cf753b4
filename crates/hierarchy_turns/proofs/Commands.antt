-- The turn of a client's next command within a phase.
use Rattle.std.proofs.Common.{◌≡◌, ℕ, ◌==◌, Bool, true, false, cond, ◌&&◌, [], ◌∷◌, slice_get, Option, Some, None, refl, ap, ◌∙◌, eq-eqb, ne_eqb}
use Rattle.std.proofs.lemmas.Option.{same_Some}
use Rattle.law_machine.specs.Machine.{Does}
use Rattle.law_machine.specs.Network.{entry_at, entry_given}
use Rattle.law_machine.specs.Runs.{raised}
use Rattle.law_machine.specs.History.{Moment, as_found}
use Rattle.law_machine.specs.Walk.{is_of_phase, entry_of_phase}
use Rattle.law_machine.specs.Walk.{entry_in as entry_tried}
use Rattle.law_routing.specs.Net.{PhasedCommand}
use Rattle.law_routing.specs.Server.{is_among}
use Rattle.law_routing.specs.Step.{NextCommand}
use Rattle.law_routing.specs.Routing.{phase_of}
use Rattle.net_model.specs.Real.{real}
use Rattle.law_hierarchy.specs.Step.{command_outcome, HierarchyEntry}
use Rattle.net_model.specs.Parts.{NetParts}
use Rattle.net_model.specs.Nets.{home_of, script_of}
use Rattle.net_turns.specs.Trying.{command_turn}
use Rattle.net_model.specs.declared.turn.Turn.{Turn}
use Rattle.net_turns.proofs.Later.{later-same}
use Rattle.hierarchy_turns.specs.Network.{NetworkParts, phase_in, net_of, servers_of, IsLater}
use Rattle.hierarchy_turns.specs.Turns.{IsTurn}

-- a next command of the phase is of the phase
pub own-phase : (net : NetParts) (o : Option (PhasedCommand real)) (phase : ℕ) → phase_in o ≡ Some phase → is_of_phase (servers_of net) phase (phase_of real (net_of net) o) ≡ true
own-phase net None phase e = absurd cc
own-phase net (Some command) phase e = eq-eqb command.phase phase (same_Some _ _ e)

-- the entry of a next command, by whether the client lives there and by its command
abbrev entry_by : (net : NetParts) → Moment (servers_of net) → ℕ → Bool → Option (PhasedCommand real) → Option (HierarchyEntry real (net_of net))
entry_by net x client lives next =
    entry_given (servers_of net) x.network (home_of net client) (Does (NextCommand client))
    (cond lives (command_outcome real (net_of net) (home_of net client) (x.network.state (home_of net client)) client next) None)

-- without a next command the turn is not possible
no-entry : (net : NetParts) (x : Moment (servers_of net)) (client : ℕ) → slice_get (script_of net client) ((x.network.state (home_of net client)).done client) ≡ None
    → entry_at (servers_of net) x.network (command_turn net client).0 (command_turn net client).1 ≡ None
no-entry net x client e = ap (entry_by net x client lives) e ∙ go lives
  where
    lives : Bool
    lives = is_among (home_of net client) (net_of net).servers && is_among client ((net_of net).clients (home_of net client))

    go : (b : Bool) → entry_by net x client b None ≡ None
    go true = refl
    go false = refl

-- what an act finds has the states of before
found-states : (net : NetParts) (m : Moment (servers_of net)) (o : Option ℕ) → (as_found (servers_of net) m o).network.state ≡ m.network.state
found-states net m None = refl
found-states net m (Some k) = go (m.phase == k)
  where
    go : (b : Bool) → (cond b m (record { network = raised (servers_of net) m.network; phase = k })).network.state ≡ m.network.state
    go true = refl
    go false = refl

-- where a client's next command is of another phase, or there is none, its turn is skipped
pub skipped : (net : NetParts) (m : Moment (servers_of net)) (client phase : ℕ)
    → (phase_in (slice_get (script_of net client) ((m.network.state (home_of net client)).done client)) ≡ Some phase → ⊥)
    → entry_tried (servers_of net) phase m (command_turn net client) ≡ None
skipped net m client phase other = go (slice_get (script_of net client) ((m.network.state (home_of net client)).done client)) refl other
  where
    keep : (b : Bool) (x : Option (HierarchyEntry real (net_of net))) → x ≡ None → cond b x None ≡ None
    keep true x e = e
    keep false x e = refl

    go : (o : Option (PhasedCommand real)) → slice_get (script_of net client) ((m.network.state (home_of net client)).done client) ≡ o → (phase_in o ≡ Some phase → ⊥)
        → entry_of_phase (servers_of net) phase m (command_turn net client).0 (command_turn net client).1 (phase_of real (net_of net) o) ≡ None
    go None e other =
        keep (0 == phase) (entry_at (servers_of net) (as_found (servers_of net) m (Some 0)).network (command_turn net client).0 (command_turn net client).1)
        (no-entry net (as_found (servers_of net) m (Some 0)) client (ap (λ z. slice_get (script_of net client) ((z (home_of net client)).done client)) (found-states net m (Some 0)) ∙ e))
    go (Some command) e other =
        ap (λ b. cond b (entry_at (servers_of net) (as_found (servers_of net) m (Some command.phase)).network (command_turn net client).0 (command_turn net client).1) None)
        (ne_eqb command.phase phase (λ q. other (ap Some q)))

-- a turn goes on
pub later-turn : (made : Bool) (turn : Turn) (a b : NetworkParts) → IsTurn made turn a b → IsLater a b
later-turn true turn a b x = record { made = x.entry ∷ []; later = x.later }
later-turn false turn a b x = later-same a b x.0
