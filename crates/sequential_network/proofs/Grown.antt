-- A network's journal grows by a step: it is a legal run again, its turn was permitted, and cores and links are those of the state then.
use Rattle.std.proofs.Common.{◌≡◌, ℕ, [], ◌∷◌, ◌++◌, length, refl, sym, ap, subst, ◌∙◌}
use Rattle.law_machine.specs.Machine.{act_phase}
use Rattle.law_phases.specs.Trees.{State, machine_at}
use Rattle.law_phases.specs.Moments.{Moment, opening_moment, moment_after}
use Rattle.law_phases.specs.Runs.{ActFinds, IsPhasedRun, IsPhasedStep, IsStepOn}
use Rattle.law_phases.specs.Turns.{IsPermittedTurn}
use Rattle.law_phases.proofs.Moments.{run-ends}
use Rattle.law_phases.proofs.Turned.{happens-permitted, run-grows}
use Rattle.net_model.specs.Real.{real}
use Rattle.net_model.specs.declared.turn.Turn.{Turn}
use Rattle.net_model.specs.Parts.{NetParts, EntryParts}
use Rattle.net_model.specs.Meaning.{entry_of, journal_of}
use Rattle.net_model.specs.Nets.{phased_net, turn_of}
use Rattle.net_turns.specs.Network.{network_parts, moment_by, IsLegal}
use Rattle.net_turns.specs.Turns.{IsMade}
use Rattle.sequential_network.specs.Links.{AreOnLinks}
use Rattle.sequential_network.specs.Kept.{AreServers, IsNetwork}
use Rattle.sequential_network.specs.Acted.{Servers}
use Rattle.server_core.specs.Core.{CoreParts}
use Rattle.std.proofs.lemmas.List.{map-append}

module _ (net : NetParts) (phase : ℕ) (old new : Servers CoreParts) (kept : IsNetwork net phase old) where
  -- an entry steps from what it finds
  module _ (entry : EntryParts) (found : State real) (own : ℕ) (after : State real) (longer : new.journal ≡ old.journal ++ entry ∷ [])
      (ready : ActFinds real (phased_net net) (moment_by net old.journal).state (moment_by net old.journal).phase
      (act_phase (machine_at real (phased_net net) (moment_by net old.journal).phase) entry.server ((moment_by net old.journal).state.state entry.server) (entry_of entry).act) found own)
      (step : IsStepOn real (phased_net net) own found (entry_of entry) after) where
    happens : IsPhasedStep real (phased_net net) (moment_by net old.journal) (record { state = found; phase = own }) (record { state = after; phase = own }) (entry_of entry)
    happens = record { ready = ready; step = step; phase = refl }

    grown : IsPhasedRun real (phased_net net) (opening_moment real (phased_net net)).state (opening_moment real (phased_net net)).phase (journal_of old.journal ++ entry_of entry ∷ []) after own
    grown = run-grows real (phased_net net) (opening_moment real (phased_net net)).state (opening_moment real (phased_net net)).phase (journal_of old.journal) (moment_by net old.journal)
        (record { state = found; phase = own }) (record { state = after; phase = own }) (entry_of entry) kept.legal happens

    journal-is : journal_of (old.journal ++ entry ∷ []) ≡ journal_of old.journal ++ entry_of entry ∷ []
    journal-is = map-append entry_of old.journal (entry ∷ [])

    moment-is : moment_by net (old.journal ++ entry ∷ []) ≡ record { state = after; phase = own }
    moment-is =
        ap (λ z. moment_after real (phased_net net) (opening_moment real (phased_net net)) z (length z)) journal-is
        ∙ run-ends real (phased_net net) (opening_moment real (phased_net net)).state (opening_moment real (phased_net net)).phase (journal_of old.journal ++ entry_of entry ∷ []) after own grown

    legal : IsLegal net (old.journal ++ entry ∷ [])
    legal = subst (λ (z : Moment real (phased_net net)). IsPhasedRun real (phased_net net) (opening_moment real (phased_net net)).state (opening_moment real (phased_net net)).phase
        (journal_of (old.journal ++ entry ∷ [])) z.state z.phase) (sym moment-is)
        (subst (λ z. IsPhasedRun real (phased_net net) (opening_moment real (phased_net net)).state (opening_moment real (phased_net net)).phase z after own) (sym journal-is) grown)

    pub is_made : (turn : Turn) → turn_of net turn ≡ (entry.server, (entry_of entry).act) → IsMade turn (network_parts net old.journal) (network_parts net new.journal)
    is_made turn is = record {
      entry = entry;
      later = ap (network_parts net) longer;
      permitted = subst (λ z. IsPermittedTurn real (phased_net net) (moment_by net old.journal) z (entry_of entry) (moment_by net (old.journal ++ entry ∷ []))) (sym is)
          (subst (λ z. IsPermittedTurn real (phased_net net) (moment_by net old.journal) (entry.server, (entry_of entry).act) (entry_of entry) z) (sym moment-is)
          (happens-permitted real (phased_net net) (moment_by net old.journal) (record { state = found; phase = own }) (record { state = after; phase = own }) (entry_of entry) happens));
    }

    pub is_kept : new.run ≡ old.run → AreServers net own after new.cores → AreOnLinks net after new.messages → IsNetwork net own new
    is_kept same-run servers links = record {
      sound = kept.sound;
      run = same-run ∙ kept.run;
      legal = subst (IsLegal net) (sym longer) legal;
      in_hand = ap (λ z. z.phase) now-is;
      cores = subst (λ z. AreServers net own z new.cores) (sym (ap (λ z. z.state) now-is)) servers;
      links = subst (λ z. AreOnLinks net z new.messages) (sym (ap (λ z. z.state) now-is)) links;
    }
      where
        now-is : moment_by net new.journal ≡ record { state = after; phase = own }
        now-is = ap (moment_by net) longer ∙ moment-is

  -- where nothing changed, it is kept
  pub stays_kept : new.run ≡ old.run → new.cores ≡ old.cores → ((a b : ℕ) → new.messages a b ≡ old.messages a b) → new.journal ≡ old.journal → IsNetwork net phase new
  stays_kept same-run cores messages journal = record {
    sound = kept.sound;
    run = same-run ∙ kept.run;
    legal = subst (IsLegal net) (sym journal) kept.legal;
    in_hand = ap (λ z. z.phase) same ∙ kept.in_hand;
    cores = subst (λ z. AreServers net phase z new.cores) (sym (ap (λ z. z.state) same)) (subst (AreServers net phase (moment_by net old.journal).state) (sym cores) kept.cores);
    links = subst (λ z. AreOnLinks net z new.messages) (sym (ap (λ z. z.state) same)) (record {
      messages_are = λ a b. messages a b ∙ kept.links.messages_are a b;
      within = kept.links.within;
    });
  }
    where
      same : moment_by net new.journal ≡ moment_by net old.journal
      same = ap (moment_by net) journal
