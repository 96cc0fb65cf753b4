-- In a drained run nothing more is permitted: so where a walk goes on, the run was not drained.
use Rattle.std.proofs.Common.{◌≡◌, inl, inr, ℕ, suc, take, ◌<◌, Bool, true, false, List, [], ◌∷◌, ◌++◌, length, slice_get, get_or, Option, Some, None, refl, sym, ap, subst, ◌∙◌, arith, length-append}
use Rattle.std.proofs.lemmas.List.{take_at}
use Rattle.std.proofs.lemmas.Option.{slice_get_past}
use Rattle.law_machine.specs.Machine.{Did, Received, Act, act_phase}
use Rattle.law_machine.proofs.Phases.{get-end}
use Rattle.law_routing.specs.Step.{Task, NextCommand, TableUpdate}
use Rattle.law_routing.specs.Routing.{phase_of}
use Rattle.law_phases.specs.Trees.{JournalEntry, machine_at, net_at, State}
use Rattle.law_phases.specs.Moments.{Moment, moment_of}
use Rattle.law_phases.specs.Runs.{ActFinds, Turn}
use Rattle.law_phases.specs.Turns.{IsPermittedTurn}
use Rattle.net_model.specs.Real.{real}
use Rattle.net_model.specs.Parts.{NetParts, EntryParts}
use Rattle.net_model.specs.Meaning.{act_of, entry_of, journal_of}
use Rattle.net_model.specs.Nets.{phased_net}
use Rattle.net_turns.specs.Network.{NetworkParts, moment_by, IsLegal, IsDrainedBy}
use Rattle.net_turns.specs.Walked.{IsPhaseWalked}
use Rattle.net_turns.proofs.Again.{begin-is, permitted-there}
use Rattle.net_turns.proofs.Barred.{Needs, permits}
use Rattle.std.proofs.lemmas.Bool.{both_ways}

-- what is there isn't missing
pub none-and-some : {A : Type 0} (o : Option A) (x : A) → o ≡ Some x → o ≡ None → ⊥
none-and-some o x p q = cc

module _ (net : NetParts) (journal : List EntryParts) (drained : IsDrainedBy net journal) where
  abbrev now : Moment real (phased_net net)
  now = moment_by net journal

  -- what is no command finds the state as it is, and needs what is not there
  nothing-needed : (found : Moment real (phased_net net)) → now.state ≡ found.state → now.phase ≡ found.phase → (server : ℕ) (act : Act Task) → Needs net found.phase found.state server act → ⊥
  nothing-needed found e f server act needs = go act (subst (λ (s : State real). Needs net now.phase s server act) (sym e) (subst (λ p. Needs net p found.state server act) (sym f) needs))
    where
      go : (act : Act Task) → Needs net now.phase now.state server act → ⊥
      go (Received from) (here, near, (m, next)) = get-end (now.state.put from server) m (subst (λ z. slice_get (now.state.put from server) z ≡ Some m) (drained.quiet.empty from server) next)
      go (Did TableUpdate) (here, pending) = both_ways (now.state.state server).pending (drained.quiet.calm server here) pending
      go (Did (NextCommand client)) (here, lives, (x, next)) =
          none-and-some (slice_get ((phased_net net).script client) ((now.state.state server).done client)) x next
          (slice_get_past ((phased_net net).script client) ((now.state.state server).done client) (omega (arith, drained.taken server client lives)))

  -- so does a command that is not there
  found-now : (found : Moment real (phased_net net)) (server : ℕ) (act : Act Task)
      → ActFinds real (phased_net net) now.state now.phase (act_phase (machine_at real (phased_net net) now.phase) server (now.state.state server) act) found.state found.phase
      → Needs net found.phase found.state server act → (now.state ≡ found.state) × (now.phase ≡ found.phase)
  found-now found server (Received from) ready needs = ready
  found-now found server (Did TableUpdate) ready needs = ready
  found-now found server (Did (NextCommand client)) ready (here, lives, next) =
      go (subst (λ o. ActFinds real (phased_net net) now.state now.phase (phase_of real (net_at real (phased_net net) now.phase) o) found.state found.phase)
      (slice_get_past ((phased_net net).script client) ((now.state.state server).done client) (omega (arith, drained.taken server client lives))) ready)
    where
      go : ActFinds real (phased_net net) now.state now.phase (Some 0) found.state found.phase → (now.state ≡ found.state) × (now.phase ≡ found.phase)
      go (p, inl (e, f)) = (f, e ∙ p)
      go (p, inr (less, through, quiet, begins)) = absurd (omega (arith, less))

  pub drained-bars : (turn : Turn) (entry : JournalEntry) (next : Moment real (phased_net net)) → IsPermittedTurn real (phased_net net) now turn entry next → ⊥
  drained-bars turn entry next x =
      let p = permits net now turn entry next x in
      let same = found-now p.found turn.0 turn.1 p.ready p.needs in
      nothing-needed p.found same.0 same.1 turn.0 turn.1 p.needs

-- where a phase was walked, something was left
pub walked-open : (old new : NetworkParts) → IsPhaseWalked old new → IsLegal new.net new.journal → IsDrainedBy old.net old.journal → ⊥
walked-open old new w legal drained = go w.made w.some (subst (λ (z : NetworkParts). IsLegal z.net z.journal) w.later legal)
  where
    go : (made : List EntryParts) → (made ≡ [] → ⊥) → IsLegal old.net (old.journal ++ made) → ⊥
    go [] some legal = some refl
    go (e ∷ rest) some legal =
        let whole : List EntryParts = old.journal ++ e ∷ rest in
        let less : length old.journal < length whole = omega (arith, length-append old.journal (e ∷ rest)) in
        let begin : take (length old.journal) whole ≡ old.journal = take_at old.journal (e ∷ rest) (length old.journal) refl in
        let here : moment_of real (phased_net old.net) (journal_of whole) (length old.journal) ≡ moment_by old.net old.journal =
        sym (begin-is old.net whole (length old.journal) (omega (arith, less))) ∙ ap (moment_by old.net) begin in
        drained-bars old.net old.journal drained ((get_or whole (length old.journal) e).server, act_of (get_or whole (length old.journal) e).act) (entry_of (get_or whole (length old.journal) e))
        (moment_of real (phased_net old.net) (journal_of whole) (suc (length old.journal)))
        (subst (λ z. IsPermittedTurn real (phased_net old.net) z ((get_or whole (length old.journal) e).server, act_of (get_or whole (length old.journal) e).act) (entry_of (get_or whole (length old.journal) e))
        (moment_of real (phased_net old.net) (journal_of whole) (suc (length old.journal)))) here (permitted-there old.net whole legal (length old.journal) e less))
