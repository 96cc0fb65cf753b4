-- A network's journal grows by a step: it is a legal run again, its turn was permitted, and cores and links are those of the state then.
use Rattle.std.proofs.Common.{◌≡◌, ℕ, List, [], ◌∷◌, ◌++◌, length, sym, ap, subst, ◌∙◌}
use Rattle.law_machine.specs.Machine.{act_phase}
use Rattle.law_machine.specs.Network.{IsStep}
use Rattle.law_machine.specs.Runs.{IsReady, IsRun, IsPermitted}
use Rattle.law_machine.specs.History.{Moment, Happens, moment_after}
use Rattle.law_machine.proofs.Growing.{run-more}
use Rattle.law_machine.proofs.History.{run-ends}
use Rattle.law_machine.proofs.Tried.{happens-permitted}
use Rattle.net_model.specs.Real.{real}
use Rattle.law_hierarchy.specs.Step.{Hierarchy, HierarchyEntry}
use Rattle.net_model.specs.declared.turn.Turn.{Turn}
use Rattle.net_model.specs.Parts.{NetParts, EntryParts}
use Rattle.net_model.specs.Nets.{turn_of}
use Rattle.hierarchy_turns.specs.Network.{network_parts, net_of, servers_of, entry_in, journal_in, opening_of, moment_by, IsLegal}
use Rattle.hierarchy_turns.specs.Turns.{IsMade}
use Rattle.sequential_network.specs.Links.{AreOnLinks}
use Rattle.hierarchy_network.specs.Kept.{AreServers, IsNetwork, state_in}
use Rattle.hierarchy_network.specs.Core.{HierarchyParts}
use Rattle.sequential_network.specs.Acted.{Servers}
use Rattle.std.proofs.lemmas.List.{map-append}

module _ (net : NetParts) (phase : ℕ) (old new : Servers HierarchyParts) (kept : IsNetwork net phase old) where
  -- an entry steps from what it finds
  module _ (entry : EntryParts) (found : Hierarchy real (net_of net)) (own : ℕ) (after : Hierarchy real (net_of net)) (longer : new.journal ≡ old.journal ++ entry ∷ [])
      (ready : IsReady (servers_of net) (moment_by net old.journal).network (moment_by net old.journal).phase
      (act_phase (servers_of net) entry.server ((moment_by net old.journal).network.state entry.server) (entry_in net entry).act) found own)
      (step : IsStep (servers_of net) found (entry_in net entry) after) where
    happens : Happens (servers_of net) (moment_by net old.journal).network (moment_by net old.journal).phase (entry_in net entry) after own
    happens = record { found = found; ready = ready; step = step }

    grown : IsRun (servers_of net) (opening_of net).network 0 (journal_in net old.journal ++ entry_in net entry ∷ []) after own
    grown = run-more (servers_of net) (opening_of net).network 0 (journal_in net old.journal) (moment_by net old.journal).network (moment_by net old.journal).phase (entry_in net entry) found after own kept.legal ready step

    journal-is : journal_in net (old.journal ++ entry ∷ []) ≡ journal_in net old.journal ++ entry_in net entry ∷ []
    journal-is = map-append (entry_in net) old.journal (entry ∷ [])

    moment-is : moment_by net (old.journal ++ entry ∷ []) ≡ record { network = after; phase = own }
    moment-is =
        ap (λ (z : List (HierarchyEntry real (net_of net))). moment_after (servers_of net) (opening_of net) z (length z)) journal-is
        ∙ run-ends (servers_of net) (opening_of net).network 0 (journal_in net old.journal ++ entry_in net entry ∷ []) after own grown

    legal : IsLegal net (old.journal ++ entry ∷ [])
    legal = subst (λ (z : Moment (servers_of net)). IsRun (servers_of net) (opening_of net).network 0 (journal_in net (old.journal ++ entry ∷ [])) z.network z.phase) (sym moment-is)
        (subst (λ (z : List (HierarchyEntry real (net_of net))). IsRun (servers_of net) (opening_of net).network 0 z after own) (sym journal-is) grown)

    pub is_made : (turn : Turn) → turn_of net turn ≡ (entry.server, (entry_in net entry).act) → IsMade turn (network_parts net old.journal) (network_parts net new.journal)
    is_made turn is = record {
      entry = entry;
      later = ap (network_parts net) longer;
      permitted = subst (λ z. IsPermitted (servers_of net) (moment_by net old.journal).network (moment_by net old.journal).phase z.0 z.1 (entry_in net entry)
          (moment_by net (old.journal ++ entry ∷ [])).network (moment_by net (old.journal ++ entry ∷ [])).phase) (sym is)
          (subst (λ (z : Moment (servers_of net)). IsPermitted (servers_of net) (moment_by net old.journal).network (moment_by net old.journal).phase entry.server (entry_in net entry).act (entry_in net entry) z.network z.phase) (sym moment-is)
          (happens-permitted (servers_of net) (moment_by net old.journal).network (moment_by net old.journal).phase (entry_in net entry) after own happens));
    }

    pub is_kept : new.run ≡ old.run → AreServers net after new.cores → AreOnLinks net (state_in net after) new.messages → IsNetwork net own new
    is_kept same-run servers links = record {
      sound = kept.sound;
      run = same-run ∙ kept.run;
      legal = subst (IsLegal net) (sym longer) legal;
      in_hand = ap (λ (z : Moment (servers_of net)). z.phase) now-is;
      cores = subst (λ (z : Moment (servers_of net)). AreServers net z.network new.cores) (sym now-is) servers;
      links = subst (λ (z : Moment (servers_of net)). AreOnLinks net (state_in net z.network) new.messages) (sym now-is) links;
    }
      where
        now-is : moment_by net new.journal ≡ record { network = after; phase = own }
        now-is = ap (moment_by net) longer ∙ moment-is

  -- where nothing changed, it is kept
  pub stays_kept : new.run ≡ old.run → new.cores ≡ old.cores → ((a b : ℕ) → new.messages a b ≡ old.messages a b) → new.journal ≡ old.journal → IsNetwork net phase new
  stays_kept same-run cores messages journal = record {
    sound = kept.sound;
    run = same-run ∙ kept.run;
    legal = subst (IsLegal net) (sym journal) kept.legal;
    in_hand = ap (λ (z : Moment (servers_of net)). z.phase) same ∙ kept.in_hand;
    cores = subst (λ (z : Moment (servers_of net)). AreServers net z.network new.cores) (sym same) (subst (AreServers net (moment_by net old.journal).network) (sym cores) kept.cores);
    links = subst (λ (z : Moment (servers_of net)). AreOnLinks net (state_in net z.network) new.messages) (sym same) (record {
      messages_are = λ a b. messages a b ∙ kept.links.messages_are a b;
      within = kept.links.within;
    });
  }
    where
      same : moment_by net new.journal ≡ moment_by net old.journal
      same = ap (moment_by net) journal
