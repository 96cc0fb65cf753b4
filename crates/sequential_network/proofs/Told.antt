-- After a step its messages lie last on the links of its server, and their texts are those of its entry.
use Rattle.std.proofs.Common.{◌≡◌, ℕ, zero, suc, ◌≤◌, List, [], ◌∷◌, ◌++◌, inl, inr, length, map, drop, slice_get, Some, refl, sym, ap, ap₂, subst, ◌∙◌, arith, length-append}
use Rattle.std.proofs.lemmas.List.{length-map, map-append, drop-append-le}
use Rattle.base.specs.Sets.{Has}
use Rattle.base_tree.specs.Hops.{side_size}
use Rattle.law_machine.specs.Machine.{Input, Outcome, Stamped, Entry, stamped, unstamped, act_of as machine_act}
use Rattle.law_machine.specs.Load.{MeasureLaws}
use Rattle.law_machine.specs.Network.{NetworkState, IsAvailable, messages_of, outcome_at, outcome_of, outs_of, reception_of}
use Rattle.law_machine.specs.Machine.{Machine, Does, Receives}
use Rattle.law_machine.proofs.Lists.{get-after}
use Rattle.law_routing.specs.Net.{Net, NetLaws}
use Rattle.law_routing.specs.Server.{Message}
use Rattle.law_routing.specs.Routing.{routing_machine, Network, measure}
use Rattle.law_routing.proofs.Along.{strict-of, tree}
use Rattle.law_routing.proofs.Spreading.{spreads}
use Rattle.law_phases.specs.Trees.{entry_on, net_at, machine_at, at_phase}
use Rattle.law_phases.specs.Moments.{Moment, opening_moment, moment_of, found_of}
use Rattle.law_phases.specs.Runs.{PhasedRun, IsPhasedStep, IsStepOn}
use Rattle.law_phases.specs.AtMoments.{PutsMessagesAt}
use Rattle.law_phases.proofs.Entries.{happens-run, messages-run}
use Rattle.net_model.specs.Real.{real, real_laws}
use Rattle.filter_text.specs.declared.sent.Sent.{Sent}
use Rattle.server_spec.specs.Control.{texts, sent_to}
use Rattle.server_message.specs.Parts.{SendingParts, onto, sent_by}
use Rattle.net_model.specs.Parts.{NetParts, EntryParts}
use Rattle.net_model.specs.Meaning.{entry_of, journal_of}
use Rattle.net_model.specs.Nets.{phased_net}
use Rattle.net_turns.specs.Network.{moment_by}
use Rattle.sequential_network.specs.Links.{waiting_in, waiting_as, stamped_message_parts}
use Rattle.sequential_network.specs.Kept.{IsNetwork}
use Rattle.sequential_network.specs.Acted.{Servers}
use Rattle.sequential_network.specs.Last.{LieLast, text_of_sending}
use Rattle.net_turns.specs.Told.{told_of}
use Rattle.server_core.proofs.SentOnLinks.{receivers-told, sent-to, sent-of}
use Rattle.net_model.proofs.TreesByPhase.{laws_at}
use Rattle.sequential_network.proofs.Standing.{run_of}
use Rattle.net_turns.proofs.Within.{taken-low, found-within}
use Rattle.server_core.specs.Core.{CoreParts}
use Rattle.base.proofs.Sets.{has-map}

-- a list of at most one has its member alone
pub alone : {T : Type 0} (xs : List T) (x : T) → Has x xs → length xs ≤ 1 → xs ≡ x ∷ []
alone [] x h l = absurd h
alone (y ∷ []) x (inl e) l = ap (λ z. z ∷ []) (sym e)
alone (y ∷ []) x (inr h) l = absurd h
alone (y ∷ z ∷ xs) x h l = absurd (omega (arith, l))

pub step-outcome : (m : Machine) (w : NetworkState m) (t : ℕ) (d : Input m.Task (Stamped m.Message)) (r : Outcome m.State m.Message) → IsAvailable m w t d → m.step t (w.state t) (unstamped m d) ≡ Some r
    → outcome_at m w t (machine_act m d) ≡ Some r
step-outcome m w t (Does a) r given made = made
step-outcome m w t (Receives u s) r given made = ap (λ z. outcome_of m w t (reception_of m u z)) given ∙ made

-- the texts of what is sent
same-texts : (net : NetParts) (link : ℕ) (ms : List (Message real)) → map text_of_sending (map (onto net link) ms) ≡ map (sent_to link) ms
same-texts net link [] = refl
same-texts net link (m ∷ ms) = ap (λ z. sent_to link m ∷ z) (same-texts net link ms)

pub texts-are : (net : NetParts) (messages : ℕ → List (Message real)) (links : List ℕ) → map text_of_sending (sent_by net messages links) ≡ texts messages links
texts-are net messages [] = refl
texts-are net messages (l ∷ links) =
    map-append text_of_sending (map (onto net l) (messages l)) (sent_by net messages links)
    ∙ ap₂ (λ (a b : List Sent). a ++ b) (same-texts net l (messages l)) (texts-are net messages links)

module _ (net : NetParts) (phase : ℕ) (servers : Servers CoreParts) (kept : IsNetwork net phase servers) (before : List EntryParts) (entry : EntryParts) (is : servers.journal ≡ before ++ entry ∷ []) where
  abbrev run : PhasedRun real
  run = run_of net servers.journal kept.sound kept.legal

  -- the moment that the last entry found
  abbrev found : Moment real (phased_net net)
  found = found_of real (phased_net net) (journal_of servers.journal) (length before)

  abbrev after : Moment real (phased_net net)
  after = moment_of real (phased_net net) (journal_of servers.journal) (suc (length before))

  abbrev net-then : Net real
  net-then = net_at real (phased_net net) found.phase

  abbrev messages : ℕ → List (Message real)
  messages = messages_of (machine_at real (phased_net net) found.phase) (at_phase real (phased_net net) found.phase found.state) (entry_on real (net_at real (phased_net net) found.phase) (entry_of entry))

  there : slice_get (journal_of servers.journal) (length before) ≡ Some (entry_of entry)
  there =
      subst (λ z. slice_get (journal_of z) (length before) ≡ Some (entry_of entry)) (sym is)
      (subst (λ z. slice_get z (length before) ≡ Some (entry_of entry)) (sym (map-append entry_of before (entry ∷ [])))
      (subst (λ k. slice_get (map entry_of before ++ entry_of entry ∷ []) k ≡ Some (entry_of entry)) (length-map before entry_of) (get-after (map entry_of before) (entry_of entry) [])))

  long : length (journal_of servers.journal) ≡ suc (length before)
  long = let sum = length-append before (entry ∷ []) in length-map servers.journal entry_of ∙ ap length is ∙ omega (arith, sum)

  end : moment_by net servers.journal ≡ after
  end = ap (moment_of real (phased_net net) (journal_of servers.journal)) long

  happens : IsPhasedStep real (phased_net net) (moment_of real (phased_net net) (journal_of servers.journal) (length before)) found after (entry_of entry)
  happens = happens-run real real_laws run (length before) (entry_of entry) there

  puts : PutsMessagesAt real run (length before) (entry_of entry)
  puts = messages-run real real_laws run (length before) (entry_of entry) there

  laws : NetLaws real net-then
  laws = laws_at net kept.sound found.phase

  measured : MeasureLaws (routing_machine real net-then) (measure real net-then (side_size net-then.hop net-then.servers))
  measured = spreads real (strict-of real real_laws) net-then (side_size net-then.hop net-then.servers) laws.single (tree real real_laws net-then laws)

  within : (a b : ℕ) → found.state.taken a b ≤ length (found.state.put a b)
  within = found-within real (phased_net net) (opening_moment real (phased_net net)).state 0 (journal_of servers.journal) (moment_by net servers.journal).state (moment_by net servers.journal).phase kept.legal
      (λ a b. omega arith) (length before) (entry_of entry) there

  -- all that is received then was put before the step
  low : (a b : ℕ) → after.state.taken a b ≤ length (found.state.put a b)
  low a b = go happens.step
    where
      go : IsStepOn real (phased_net net) found.phase found.state (entry_of entry) after.state → after.state.taken a b ≤ length (found.state.put a b)
      go (d, r, made, told, given, later) =
          subst (λ (z : Network real (net_at real (phased_net net) found.phase)). z.taken a b ≤ length (found.state.put a b)) later
          (taken-low (machine_at real (phased_net net) found.phase) (at_phase real (phased_net net) found.phase found.state) entry.server d within given a b)

  -- at most one message is for each neighbour
  one : (link : ℕ) → Has link (net-then.links entry.server) → length (messages link) ≤ 1
  one link h = go happens.step
    where
      go : IsStepOn real (phased_net net) found.phase found.state (entry_of entry) after.state → length (messages link) ≤ 1
      go (d, r, made, told, given, later) =
          let w = at_phase real (phased_net net) found.phase found.state in
          let outs : outcome_at (machine_at real (phased_net net) found.phase) w entry.server (entry_of entry).act ≡ Some r =
          ap (outcome_at (machine_at real (phased_net net) found.phase) w entry.server) (ap (λ (z : Entry (machine_at real (phased_net net) found.phase)). z.act) told) ∙ step-outcome (machine_at real (phased_net net) found.phase) w entry.server d r given made in
          subst (λ z. length (outs_of (machine_at real (phased_net net) found.phase) z link) ≤ 1) (sym outs)
          (measured.one entry.server (found.state.state entry.server) (unstamped (machine_at real (phased_net net) found.phase) d) r made link h)

  -- what lies on a link of the server
  lies : (to : ℕ) → servers.messages entry.server to
      ≡ map (waiting_in net) (drop (after.state.taken entry.server to) (found.state.put entry.server to)) ++ map (waiting_in net) (stamped (routing_machine real net-then) entry.stamp (messages to))
  lies to =
      subst (λ (z : Moment real (phased_net net)). servers.messages entry.server to ≡ map (waiting_in net) (drop (z.state.taken entry.server to) (z.state.put entry.server to))) end (kept.links.messages_are entry.server to)
      ∙ (ap (λ z. map (waiting_in net) (drop (after.state.taken entry.server to) z)) (puts.puts to)
      ∙ (ap (map (waiting_in net)) (drop-append-le (after.state.taken entry.server to) (found.state.put entry.server to) (stamped (routing_machine real net-then) entry.stamp (messages to)) (low entry.server to))
      ∙ map-append (waiting_in net) (drop (after.state.taken entry.server to) (found.state.put entry.server to)) (stamped (routing_machine real net-then) entry.stamp (messages to))))

  -- what the step sent
  abbrev pub sent_then : List SendingParts
  sent_then = sent_by net messages (net-then.links entry.server)

  pub last_lie : LieLast servers.messages entry.server entry.outs sent_then
  last_lie = record {
    stamp = entry.stamp;
    receivers = puts.outs ∙ sym (receivers-told net messages net-then (net-then.links entry.server) one);
    last = λ s h. (
      map (waiting_in net) (drop (after.state.taken entry.server s.to) (found.state.put entry.server s.to)),
      lies s.to ∙ ap (λ z. map (waiting_in net) (drop (after.state.taken entry.server s.to) (found.state.put entry.server s.to)) ++ z) (only s h),
    );
  }
    where
      only : (s : SendingParts) → Has s (sent_by net messages (net-then.links entry.server)) → map (waiting_in net) (stamped (routing_machine real net-then) entry.stamp (messages s.to)) ≡ waiting_as entry.stamp s ∷ []
      only s h =
          let m = sent-of net messages (net-then.links entry.server) s h in
          ap (λ z. map (waiting_in net) (stamped (routing_machine real net-then) entry.stamp z)) (alone (messages s.to) m.0 m.1 (one s.to (sent-to net messages (net-then.links entry.server) s h)))
          ∙ (λ i. stamped_message_parts entry.stamp (sym m.2 i) ∷ [])

  -- its texts are what is told
  pub texts_then : map text_of_sending sent_then ≡ told_of net found entry
  texts_then = texts-are net messages (net-then.links entry.server)

  -- server and neighbours have small numbers
  pub small_outs : (to : ℕ) → Has to entry.outs → (entry.server ≤ 64) × (to ≤ 64)
  small_outs to h =
      let s = has-map (λ (s : SendingParts). s.to) (sent_by net messages (net-then.links entry.server)) to (subst (Has to) last_lie.receivers h) in
      let near : Has to (net-then.links entry.server) = subst (λ z. Has z (net-then.links entry.server)) (sym s.2) (sent-to net messages (net-then.links entry.server) s.0 s.1) in
      (laws.small to entry.server (laws.tree.both entry.server to near), laws.small entry.server to near)
