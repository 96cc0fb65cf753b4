-- After a step its messages lie last on the links of its server, and their texts are those of its entry.
use Rattle.std.proofs.Common.{◌≡◌, ℕ, ◌≤◌, cond, List, [], ◌∷◌, ◌++◌, inl, inr, length, map, drop, Option, Some, None, refl, sym, ap, subst, ◌∙◌, arith, eq-eqb}
use Rattle.std.proofs.lemmas.List.{length-map, map-append, drop-append-le}
use Rattle.base.specs.Sets.{Has}
use Rattle.base_tree.specs.Hops.{side_size}
use Rattle.law_machine.specs.Machine.{Machine, Input, Outcome, Stamped, stamped, unstamped, receivers, act_phase, entry_of}
use Rattle.law_machine.specs.Load.{MeasureLaws}
use Rattle.law_machine.specs.Network.{NetworkState, IsAvailable, IsStep, messages_of, outcome_at, outs_of}
use Rattle.law_machine.specs.Runs.{IsReady, IsRun, IsWithinPuts}
use Rattle.law_machine.specs.History.{Moment, moment_after, as_found}
use Rattle.law_machine.proofs.Fixed.{run-begins}
use Rattle.law_machine.proofs.Growing.{standing-left}
use Rattle.law_machine.proofs.History.{run-ends}
use Rattle.law_routing.specs.Server.{Message}
use Rattle.net_model.specs.Real.{real, real_laws}
use Rattle.law_hierarchy.specs.Masters.{HierarchyLaws}
use Rattle.law_hierarchy.specs.Step.{Hierarchy, HierarchyEntry, measure}
use Rattle.law_hierarchy.proofs.Spread.{measure-laws}
use Rattle.law_hierarchy.proofs.Told.{kept as kept-run}
use Rattle.server_message.specs.Parts.{SendingParts, sent_by}
use Rattle.net_model.specs.Parts.{NetParts, EntryParts}
use Rattle.sequential_network.specs.Links.{waiting_in, waiting_as, stamped_message_parts}
use Rattle.sequential_network.specs.Last.{LieLast, text_of_sending}
use Rattle.server_core.proofs.SentOnLinks.{receivers-told, sent-to, sent-of}
use Rattle.sequential_network.proofs.Told.{alone, texts-are, step-outcome}
use Rattle.net_turns.proofs.Within.{taken-low}
use Rattle.hierarchy_turns.specs.Network.{net_of, servers_of, entry_in, journal_in, opening_of, moment_by}
use Rattle.hierarchy_turns.specs.Told.{found_of, told_of}
use Rattle.hierarchy_turns.proofs.Lawful.{laws-of}
use Rattle.hierarchy_network.specs.Kept.{IsNetwork}
use Rattle.sequential_network.specs.Acted.{Servers}
use Rattle.hierarchy_network.proofs.Acted.{same-receivers}
use Rattle.hierarchy_network.specs.Core.{HierarchyParts}
use Rattle.hierarchy_turns.proofs.Turned.{found-is}
use Rattle.base.proofs.Sets.{has-map}

-- what is found has what was put and received before
ready-within : (m : Machine) (w : NetworkState m) (p : ℕ) (o : Option ℕ) (x : NetworkState m) (q : ℕ) → IsReady m w p o x q → IsWithinPuts m w → IsWithinPuts m x
ready-within m w p None x q (e, f) within = subst (IsWithinPuts m) e within
ready-within m w p (Some k) x q (f, inl (a, b)) within = subst (IsWithinPuts m) b within
ready-within m w p (Some k) x q (f, inr (l, t, c, g)) within = subst (IsWithinPuts m) g within

module _ (net : NetParts) (phase : ℕ) (servers : Servers HierarchyParts) (kept : IsNetwork net phase servers) (before : List EntryParts) (entry : EntryParts) (is : servers.journal ≡ before ++ entry ∷ []) where
  abbrev end : Moment (servers_of net)
  end = moment_by net servers.journal

  journal-is : journal_in net servers.journal ≡ journal_in net before ++ entry_in net entry ∷ []
  journal-is = ap (journal_in net) is ∙ map-append (entry_in net) before (entry ∷ [])

  -- the run in two: up to the last entry, and that one
  pub record InTwo : Type 0 where
    pub state : Hierarchy real (net_of net)
    pub last : ℕ
    pub first : IsRun (servers_of net) (opening_of net).network 0 (journal_in net before) state last
    pub found : Hierarchy real (net_of net)
    pub ready : IsReady (servers_of net) state last (act_phase (servers_of net) entry.server (state.state entry.server) (entry_in net entry).act) found end.phase
    pub step : IsStep (servers_of net) found (entry_in net entry) end.network

  pub in-two : InTwo
  in-two = go (run-begins (servers_of net) (opening_of net).network 0 (journal_in net before) (entry_in net entry ∷ []) end.network end.phase
      (subst (λ (z : List (HierarchyEntry real (net_of net))). IsRun (servers_of net) (opening_of net).network 0 z end.network end.phase) journal-is kept.legal))
    where
      go : (v : Hierarchy real (net_of net)) × (q : ℕ) × IsRun (servers_of net) (opening_of net).network 0 (journal_in net before) v q
          × IsRun (servers_of net) v q (entry_in net entry ∷ []) end.network end.phase → InTwo
      go (v, q, first, (x, w, r, ready, step, (e, f))) = record {
        state = v;
        last = q;
        first = first;
        found = x;
        ready = subst (λ z. IsReady (servers_of net) v q (act_phase (servers_of net) entry.server (v.state entry.server) (entry_in net entry).act) x z) f ready;
        step = subst (IsStep (servers_of net) x (entry_in net entry)) e step;
      }

  -- the moment that the last entry found
  found : found_of net servers.journal (length before) entry ≡ record { network = in-two.found; phase = end.phase }
  found =
      ap (λ (z : Moment (servers_of net)). as_found (servers_of net) z (act_phase (servers_of net) entry.server (z.network.state entry.server) (entry_in net entry).act)) here
      ∙ found-is (servers_of net) in-two.state in-two.last (act_phase (servers_of net) entry.server (in-two.state.state entry.server) (entry_in net entry).act) in-two.found end.phase in-two.ready
    where
      long : length before ≡ length (journal_in net before)
      long = sym (length-map before (entry_in net))

      here : moment_after (servers_of net) (opening_of net) (journal_in net servers.journal) (length before) ≡ record { network = in-two.state; phase = in-two.last }
      here =
          ap (λ z. moment_after (servers_of net) (opening_of net) z (length before)) journal-is
          ∙ (standing-left (servers_of net) (opening_of net) (journal_in net before) (entry_in net entry ∷ []) (length before) (omega (arith, long))
          ∙ (ap (moment_after (servers_of net) (opening_of net) (journal_in net before)) long
          ∙ run-ends (servers_of net) (opening_of net).network 0 (journal_in net before) in-two.state in-two.last in-two.first))

  abbrev messages : ℕ → List (Message real)
  messages = messages_of (servers_of net) in-two.found (entry_in net entry)

  laws : HierarchyLaws real (net_of net)
  laws = laws-of net kept.sound

  measured : MeasureLaws (servers_of net) (measure real (net_of net) (side_size (net_of net).hop (net_of net).servers))
  measured = measure-laws real real_laws (net_of net) laws.lawful

  within : (a b : ℕ) → in-two.found.taken a b ≤ length (in-two.found.put a b)
  within = ready-within (servers_of net) in-two.state in-two.last (act_phase (servers_of net) entry.server (in-two.state.state entry.server) (entry_in net entry).act) in-two.found end.phase in-two.ready
      (kept-run real real_laws (record { net = net_of net; laws = laws; journal = journal_in net before; end = in-two.state; last = in-two.last; legal = in-two.first })).0

  outcome-is : (d : Input (servers_of net).Task (Stamped (servers_of net).Message)) (r : Outcome (servers_of net).State (servers_of net).Message)
      → (servers_of net).step entry.server (in-two.found.state entry.server) (unstamped (servers_of net) d) ≡ Some r
      → entry_in net entry ≡ entry_of (servers_of net) entry.server (in-two.found.clock entry.server) d r → IsAvailable (servers_of net) in-two.found entry.server d
      → outcome_at (servers_of net) in-two.found entry.server (entry_in net entry).act ≡ Some r
  outcome-is d r made told given =
      ap (outcome_at (servers_of net) in-two.found entry.server) (ap (λ (z : HierarchyEntry real (net_of net)). z.act) told) ∙ step-outcome (servers_of net) in-two.found entry.server d r given made

  -- all that is received then was put before the step
  low : (a b : ℕ) → end.network.taken a b ≤ length (in-two.found.put a b)
  low a b = go in-two.step
    where
      go : IsStep (servers_of net) in-two.found (entry_in net entry) end.network → end.network.taken a b ≤ length (in-two.found.put a b)
      go (d, r, made, told, given, later) =
          subst (λ (z : Hierarchy real (net_of net)). z.taken a b ≤ length (in-two.found.put a b)) later
          (taken-low (servers_of net) in-two.found entry.server d within given a b)

  -- at most one message is for each neighbour
  one : (link : ℕ) → Has link ((net_of net).links entry.server) → length (messages link) ≤ 1
  one link h = go in-two.step
    where
      go : IsStep (servers_of net) in-two.found (entry_in net entry) end.network → length (messages link) ≤ 1
      go (d, r, made, told, given, later) =
          subst (λ z. length (outs_of (servers_of net) z link) ≤ 1) (sym (outcome-is d r made told given))
          (measured.one entry.server (in-two.found.state entry.server) (unstamped (servers_of net) d) r made link h)

  -- what was put, and who got it
  put-is : (to : ℕ) → end.network.put entry.server to ≡ in-two.found.put entry.server to ++ stamped (servers_of net) entry.stamp (messages to)
  put-is to = go in-two.step
    where
      go : IsStep (servers_of net) in-two.found (entry_in net entry) end.network → end.network.put entry.server to ≡ in-two.found.put entry.server to ++ stamped (servers_of net) entry.stamp (messages to)
      go (d, r, made, told, given, later) =
          let stamp = ap (λ (z : HierarchyEntry real (net_of net)). z.stamp) told in
          sym (ap (λ (z : Hierarchy real (net_of net)). z.put entry.server to) later)
          ∙ (ap (λ z. cond z (in-two.found.put entry.server to ++ stamped (servers_of net) (entry_of (servers_of net) entry.server (in-two.found.clock entry.server) d r).stamp (r.outs to)) (in-two.found.put entry.server to)) (eq-eqb entry.server entry.server refl)
          ∙ (ap (λ z. in-two.found.put entry.server to ++ stamped (servers_of net) z (r.outs to)) (sym stamp)
          ∙ ap (λ z. in-two.found.put entry.server to ++ stamped (servers_of net) entry.stamp (outs_of (servers_of net) z to)) (sym (outcome-is d r made told given))))

  outs-are : entry.outs ≡ receivers (servers_of net) messages ((net_of net).links entry.server)
  outs-are = go in-two.step
    where
      go : IsStep (servers_of net) in-two.found (entry_in net entry) end.network → entry.outs ≡ receivers (servers_of net) messages ((net_of net).links entry.server)
      go (d, r, made, told, given, later) =
          ap (λ (z : HierarchyEntry real (net_of net)). z.outs) told
          ∙ ap (λ z. receivers (servers_of net) (λ l. outs_of (servers_of net) z l) ((net_of net).links entry.server)) (sym (outcome-is d r made told given))

  -- what lies on a link of the server
  lies : (to : ℕ) → servers.messages entry.server to
      ≡ map (waiting_in net) (drop (end.network.taken entry.server to) (in-two.found.put entry.server to)) ++ map (waiting_in net) (stamped (servers_of net) entry.stamp (messages to))
  lies to =
      kept.links.messages_are entry.server to
      ∙ (ap (λ z. map (waiting_in net) (drop (end.network.taken entry.server to) z)) (put-is to)
      ∙ (ap (map (waiting_in net)) (drop-append-le (end.network.taken entry.server to) (in-two.found.put entry.server to) (stamped (servers_of net) entry.stamp (messages to)) (low entry.server to))
      ∙ map-append (waiting_in net) (drop (end.network.taken entry.server to) (in-two.found.put entry.server to)) (stamped (servers_of net) entry.stamp (messages to))))

  -- what the step sent
  abbrev pub sent_then : List SendingParts
  sent_then = sent_by net messages ((net_of net).links entry.server)

  pub last_lie : LieLast servers.messages entry.server entry.outs sent_then
  last_lie = record {
    stamp = entry.stamp;
    receivers = outs-are ∙ sym (receivers-told net messages (net_of net) ((net_of net).links entry.server) one ∙ same-receivers net messages ((net_of net).links entry.server));
    last = λ s h. (
      map (waiting_in net) (drop (end.network.taken entry.server s.to) (in-two.found.put entry.server s.to)),
      lies s.to ∙ ap (λ z. map (waiting_in net) (drop (end.network.taken entry.server s.to) (in-two.found.put entry.server s.to)) ++ z) (only s h),
    );
  }
    where
      only : (s : SendingParts) → Has s (sent_by net messages ((net_of net).links entry.server)) → map (waiting_in net) (stamped (servers_of net) entry.stamp (messages s.to)) ≡ waiting_as entry.stamp s ∷ []
      only s h =
          let m = sent-of net messages ((net_of net).links entry.server) s h in
          ap (λ z. map (waiting_in net) (stamped (servers_of net) entry.stamp z)) (alone (messages s.to) m.0 m.1 (one s.to (sent-to net messages ((net_of net).links entry.server) s h)))
          ∙ (λ i. stamped_message_parts entry.stamp (sym m.2 i) ∷ [])

  -- its texts are what is told
  pub texts_then : map text_of_sending sent_then ≡ told_of net (found_of net servers.journal (length before) entry) entry
  texts_then = texts-are net messages ((net_of net).links entry.server) ∙ ap (λ z. told_of net z entry) (sym found)

  -- server and neighbours have small numbers
  pub small_outs : (to : ℕ) → Has to entry.outs → (entry.server ≤ 64) × (to ≤ 64)
  small_outs to h =
      let s = has-map (λ (s : SendingParts). s.to) (sent_by net messages ((net_of net).links entry.server)) to (subst (Has to) last_lie.receivers h) in
      let near : Has to ((net_of net).links entry.server) = subst (λ z. Has z ((net_of net).links entry.server)) (sym s.2) (sent-to net messages ((net_of net).links entry.server) s.0 s.1) in
      (laws.lawful.small to entry.server (laws.lawful.tree.both entry.server to near), laws.lawful.small entry.server to near)
