-- What a run of a document's hierarchy delivers and sends has no byte below a space, and its entries are read as their turns.
use Rattle.std.proofs.Common.{◌≡◌, ℕ, zero, suc, inl, inr, List, [], ◌∷◌, sym, subst}
use Rattle.base.specs.Sets.{Has}
use Rattle.law_machine.specs.Machine.{Act, Did, Received, act_phase}
use Rattle.law_machine.specs.History.{moment_after}
use Rattle.law_routing.specs.Net.{PhasedCommand}
use Rattle.law_routing.specs.Server.{Message, ServerState}
use Rattle.law_routing.specs.Step.{Task, NextCommand, TableUpdate}
use Rattle.law_hierarchy.specs.Step.{Hierarchy}
use Rattle.net_model.specs.Real.{real}
use Rattle.net_model.specs.Meaning.{act_of, entry_of}
use Rattle.net_model.specs.Nets.{home_of, of_clients, phased_net, script_of}
use Rattle.net_model.specs.Parts.{NetParts, EntryParts}
use Rattle.hierarchy_turns.specs.Network.{entry_in, journal_in, moment_by, net_of, opening_of, received_by, servers_of}
use Rattle.hierarchy_turns.specs.Told.{found_of, told_by, told_from, told_of}
use Rattle.hierarchy_turns.proofs.Barred.{Needs}
use Rattle.audit_verdict.proofs.Acts.{IsActOf, IsThere}
use Rattle.audit_verdict.proofs.Complete.{IsShownNet, IsShownRun}
use Rattle.audit_verdict.proofs.Entries.{readable-by}
use Rattle.audit_verdict.proofs.Kept.{All, KeepsCommand, KeepsMessage, KeepsServer, all-none}
use Rattle.audit_verdict.proofs.ShownRuns.{of-clients}
use Rattle.audit_verdict.proofs.ShownTexts.{IsShownDelivery, IsShownList, IsShownNotice, IsShownSent, deliveries-shown, sent-shown}
use Rattle.audit_hierarchy.specs.Runs.{hierarchies}
use Rattle.audit_hierarchy.proofs.Entries.{few, low-stamp, needed, run-remade}
use Rattle.audit_hierarchy.proofs.Kept.{KeepsNetwork, after-kept, found-kept, messages-kept, step-kept}
use Rattle.audit_hierarchy.proofs.Turns.{told-length}

-- what an entry needs is that it is there
needs-there : (net : NetParts) (found : Hierarchy real (net_of net)) (server : ℕ) (act : Act Task) → Needs net found server act
    → Has server (phased_net net).servers × IsActOf real (phased_net net) server act
needs-there net found server (Received from) (here, near, next) = (here, (0, near))
needs-there net found server (Did TableUpdate) (here, pending) = (here, tt)
needs-there net found server (Did (NextCommand client)) (here, lives, next) = (here, lives)

there : (net : NetParts) (journal : List EntryParts) → hierarchies.IsLegal net journal → (e : EntryParts) → Has e journal → IsThere real (phased_net net) (entry_of e)
there net journal legal e h =
    let n = needed net journal legal e h in
    let x = needs-there net n.0 e.server (act_of e.act) n.1 in
    record { server = x.0; act = x.1 }

abbrev Keeps : ServerState real → Type 0
Keeps = KeepsServer real IsShownList IsShownList IsShownNotice

abbrev Sends : Message real → Type 0
Sends = KeepsMessage real IsShownList IsShownList IsShownNotice

module _ (net : NetParts) (scripts : (c : ℕ) → All (λ (x : PhasedCommand real). KeepsCommand real IsShownList IsShownList IsShownNotice x.command) (script_of net c)) (journal : List EntryParts) where
  opening-kept : KeepsNetwork (servers_of net) Keeps Sends (opening_of net).network
  opening-kept = record {
    servers = λ t. record { subs = λ i. all-none _; advs = λ i. all-none _; installed = λ i. all-none _; inbox = λ c. all-none _ };
    put = λ a b. all-none _;
  }

  kept : (n : ℕ) → KeepsNetwork (servers_of net) Keeps Sends (moment_after (servers_of net) (opening_of net) (journal_in net journal) n).network
  kept n = after-kept (servers_of net) Keeps Sends (step-kept real IsShownList IsShownList IsShownNotice (net_of net) scripts) (journal_in net journal) n (opening_of net) opening-kept

  pub received-shown : All (All IsShownDelivery) (of_clients net (received_by net journal))
  received-shown = of-clients (All IsShownDelivery) net (received_by net journal)
      (λ c. deliveries-shown (((moment_by net journal).network.state (home_of net c)).inbox c)
      (((kept (Rattle.std.specs.Prelude.length (journal_in net journal))).servers (home_of net c)).inbox c))

  told-shown : (n : ℕ) (es : List EntryParts) → All (All IsShownSent) (told_from net journal n es)
  told-shown n [] = all-none (All IsShownSent)
  told-shown n (e ∷ es) = λ x h. elim h [
    | inl q ↦ subst (All IsShownSent) (sym q) first
    | inr m ↦ told-shown (suc n) es x m
  ]
    where
      first : All IsShownSent (told_of net (found_of net journal n e) e)
      first =
          let moment = moment_after (servers_of net) (opening_of net) (journal_in net journal) n in
          let step = step-kept real IsShownList IsShownList IsShownNotice (net_of net) scripts in
          sent-shown _ ((net_of net).links e.server)
          (λ link. messages-kept (servers_of net) Keeps Sends step (found_of net journal n e).network (entry_in net e) link
          (found-kept (servers_of net) Keeps Sends step moment (act_phase (servers_of net) e.server (moment.network.state e.server) (act_of e.act)) (kept n)))

  pub all-told-shown : All (All IsShownSent) (told_by net journal)
  all-told-shown = told-shown zero journal

pub shown-of-hierarchies : (net : NetParts) (journal : List EntryParts) → IsShownNet net → hierarchies.IsLegal net journal → IsShownRun hierarchies net journal
shown-of-hierarchies net journal is legal = record {
  few = few net is.sound journal legal;
  readable = λ e h. readable-by net is.sound is.apart e (there net journal legal e h) (low-stamp net is.sound journal legal e h);
  remade = run-remade net journal legal;
  received = received-shown net is.scripts journal;
  many = told-length net journal zero journal;
  told = all-told-shown net is.scripts journal;
}
