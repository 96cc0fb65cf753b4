-- The turn of a client's next command within a phase.
use Rattle.std.proofs.Common.{◌≡◌, ℕ, ◌==◌, Bool, true, false, cond, not, ◌&&◌, slice_get, Option, Some, None, refl, sym, ap, ◌∙◌, eq-eqb, eqb-true, ne_eqb}
use Rattle.std.specs.Option.{option_eq}
use Rattle.std.proofs.lemmas.Option.{same_Some}
use lib.Dec.{eqb}
use Rattle.law_machine.specs.Machine.{Does}
use Rattle.law_machine.specs.Network.{entry_given}
use Rattle.law_machine.specs.Walk.{is_of_phase}
use Rattle.law_routing.specs.Net.{PhasedCommand}
use Rattle.law_routing.specs.Server.{is_among}
use Rattle.law_routing.specs.Step.{NextCommand, command_outcome}
use Rattle.law_routing.specs.Routing.{phase_of}
use Rattle.law_phases.specs.Trees.{JournalEntry, net_at, machine_at, at_phase}
use Rattle.law_phases.specs.Moments.{Moment, as_found}
use Rattle.law_phases.specs.Turns.{off_maybe, entry_made}
use Rattle.law_phases.specs.Walk.{entry_of_phase, entry_in}
use Rattle.law_phases.proofs.Entries.{found-keeps}
use Rattle.net_model.specs.Real.{real}
use Rattle.net_model.specs.Parts.{NetParts}
use Rattle.net_model.specs.Nets.{phased_net, home_of, script_of}
use Rattle.net_turns.specs.Trying.{phase_in, command_turn}

-- a next command of the phase is of the phase
pub own-phase : (net : NetParts) (o : Option (PhasedCommand real)) (phase q r : ℕ) → phase_in o ≡ Some phase → is_of_phase (machine_at real (phased_net net) q) phase (phase_of real (net_at real (phased_net net) r) o) ≡ true
own-phase net None phase q r e = absurd cc
own-phase net (Some command) phase q r e = eq-eqb command.phase phase (same_Some _ _ e)

-- the entry of a next command, by whether the client lives there and by its command
abbrev entry_by : (net : NetParts) → Moment real (phased_net net) → ℕ → Bool → Option (PhasedCommand real) → Option JournalEntry
entry_by net x client lives next =
    off_maybe real (net_at real (phased_net net) x.phase)
    (entry_given (machine_at real (phased_net net) x.phase) (at_phase real (phased_net net) x.phase x.state) (home_of net client) (Does (NextCommand client))
    (cond lives (command_outcome real (net_at real (phased_net net) x.phase) (home_of net client) (x.state.state (home_of net client)) client next) None))

-- without a next command the turn is not possible
no-entry : (net : NetParts) (x : Moment real (phased_net net)) (client : ℕ) → slice_get (script_of net client) ((x.state.state (home_of net client)).done client) ≡ None
    → entry_made real (phased_net net) x (command_turn net client) ≡ None
no-entry net x client e = ap (entry_by net x client lives) e ∙ go lives
  where
    lives : Bool
    lives = is_among (home_of net client) (phased_net net).servers && is_among client ((phased_net net).clients (home_of net client))

    go : (b : Bool) → entry_by net x client b None ≡ None
    go true = refl
    go false = refl

-- where a client's next command is of another phase, or there is none, its turn is skipped
pub skipped : (net : NetParts) (m : Moment real (phased_net net)) (client phase : ℕ)
    → (phase_in (slice_get (script_of net client) ((m.state.state (home_of net client)).done client)) ≡ Some phase → ⊥)
    → entry_in real (phased_net net) phase m (command_turn net client) ≡ None
skipped net m client phase other = go (slice_get (script_of net client) ((m.state.state (home_of net client)).done client)) refl other
  where
    keep : (b : Bool) (x : Option JournalEntry) → x ≡ None → cond b x None ≡ None
    keep true x e = e
    keep false x e = refl

    go : (o : Option (PhasedCommand real)) → slice_get (script_of net client) ((m.state.state (home_of net client)).done client) ≡ o → (phase_in o ≡ Some phase → ⊥)
        → entry_of_phase real (phased_net net) phase m (command_turn net client) (phase_of real (net_at real (phased_net net) m.phase) o) ≡ None
    go None e other =
        keep (0 == phase) (entry_made real (phased_net net) (as_found real (phased_net net) m (Some 0)) (command_turn net client)) (no-entry net (as_found real (phased_net net) m (Some 0)) client (ap (slice_get (script_of net client)) (ap (λ f. f client) (found-keeps real (phased_net net) m (Some 0) (home_of net client)).0) ∙ e))
    go (Some command) e other = ap (λ b. cond b (entry_made real (phased_net net) (as_found real (phased_net net) m (Some command.phase)) (command_turn net client)) None) (ne_eqb command.phase phase (λ q. other (ap Some q)))

-- a phase is compared with a next command's
pub same-phase : (o : Option ℕ) (phase : ℕ) → not (option_eq eqb o (Some phase)) ≡ false → o ≡ Some phase
same-phase None phase e = absurd cc
same-phase (Some own) phase e = ap Some (eqb-true own phase (twice (own == phase) e))
  where
    twice : (b : Bool) → not b ≡ false → b ≡ true
    twice true e = refl
    twice false e = absurd cc

pub other-phase : (o : Option ℕ) (phase : ℕ) → not (option_eq eqb o (Some phase)) ≡ true → o ≡ Some phase → ⊥
other-phase o phase e same = absurd (nothing (sym (ap not (ap (λ z. option_eq eqb z (Some phase)) same ∙ eq-eqb phase phase refl)) ∙ e))
  where
    nothing : false ≡ true → ⊥
    nothing e = cc
