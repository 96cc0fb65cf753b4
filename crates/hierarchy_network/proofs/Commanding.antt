-- A client's next command: where it is permitted, and what its turn makes.
use Rattle.std.proofs.Common.{◌≡◌, ℕ, suc, ◌-◌, ◌<◌, ◌≤◌, ◌==◌, not, true, false, List, [], ◌∷◌, ◌++◌, length, map, drop, slice_get, Option, Some, None, inl, inr, refl, sym, ap, subst, ◌∙◌, arith}
use Rattle.std.specs.List.{range_with_len}
use Rattle.base.specs.Sets.{Has}
use Rattle.base.proofs.Roots.{filter-Has}
use Rattle.law_machine.specs.Machine.{Does, Did, act_phase}
use Rattle.law_machine.specs.Runs.{greatest, raised, IsReady, IsQuiet, IsThrough}
use Rattle.law_machine.proofs.Stamps.{greatest-below}
use Rattle.law_routing.specs.Net.{PhasedCommand}
use Rattle.law_routing.specs.Step.{NextCommand}
use Rattle.law_routing.specs.Routing.{phase_of, not_below, all_through}
use Rattle.net_model.specs.Real.{real}
use Rattle.law_hierarchy.specs.Step.{Hierarchy}
use Rattle.server_message.specs.Parts.{SendingParts}
use Rattle.net_model.specs.declared.turn.Act.TheVariants as acts
use Rattle.net_model.specs.declared.turn.Turn.TheVariants as turns
use Rattle.net_model.specs.Parts.{NetParts, entry_parts}
use Rattle.net_model.specs.Meaning.{phased_command}
use Rattle.net_model.specs.Nets.{first_tree, home_of, clients_of, script_of}
use Rattle.net_model.specs.Sound.{IsSound}
use Rattle.net_model.proofs.SoundNets.{net-laws}
use Rattle.server_spec.specs.Session.{SessionParts}
use Rattle.server_core.specs.Clients.{client_numbers}
use Rattle.hierarchy_network.specs.Core.{HierarchyParts}
use Rattle.server_core.specs.Pending.{is_some_there}
use Rattle.server_core.specs.Step.{last_stamp}
use Rattle.sequential_network.specs.Seen.{calm_in, calm_at, AreCalmCores}
use Rattle.net_turns.specs.Sessions.{is_phase_below}
use Rattle.std.proofs.lemmas.Bool.Decides.{nat_tests}
use Rattle.hierarchy_turns.specs.Network.{network_parts, phase_in, net_of, servers_of, moment_by, executed_by, next_phase_by}
use Rattle.hierarchy_turns.specs.Turns.{IsMade, IsBarred}
use Rattle.hierarchy_turns.proofs.Lawful.{laws-of}
use Rattle.sequential_network.specs.Links.{StampedMessageParts, AreOnLinks, waiting_in}
use Rattle.sequential_network.proofs.Commanding.{no-map, all-taken, Next, Comes, next-is, client_lives, home_low}
use Rattle.sequential_network.proofs.Standing.{At, Found, get-at}
use Rattle.base_tree.proofs.Servers.{server-in}
use Rattle.net_turns.proofs.Among.{server_low, low_server}
use Rattle.hierarchy_network.specs.Kept.{AreServers, IsNetwork, state_in}
use Rattle.sequential_network.specs.Acted.{Servers, IsActed}
use Rattle.hierarchy_network.proofs.Acted.{network-step, IsNetworkStep}
use Rattle.hierarchy_turns.proofs.Barred.{Permits, permits}
use Rattle.hierarchy_network.proofs.Grown.{is_made, is_kept}
use Rattle.hierarchy_network.proofs.Standing.{low_at}
use Rattle.hierarchy_network.specs.Stepping.{hierarchy}
use Rattle.std.proofs.lemmas.Option.{slice_get_within}
use Rattle.std.proofs.Math.Seq.{drop-length}
use Rattle.std.proofs.lemmas.Bool.{not-true, and_from, and_parts, eqb-true}
use Rattle.std.proofs.lemmas.List.{length-map}

-- the phase of a next command is that of its act
phase-some : (net : NetParts) (own : ℕ) (o : Option (PhasedCommand real)) → phase_in o ≡ Some own → phase_of real (net_of net) o ≡ Some own
phase-some net own None e = absurd cc
phase-some net own (Some x) e = e

-- the core of a client's home
module _ (net : NetParts) (sound : IsSound net) (state : Hierarchy real (net_of net)) (cores : List HierarchyParts) (servers : AreServers net state cores) (client : ℕ) where
  pub home_place : suc (home_of net client - 1) ≡ home_of net client
  home_place = let l = (home_low net sound client).0 in omega (arith, l)

  -- it has the client's session
  pub lives_there : (1 ≤ client) × (client ≤ length net.clients) → (parts : HierarchyParts) → slice_get cores (home_of net client - 1) ≡ Some parts → Has client (client_numbers parts.core.clients)
  lives_there within parts at =
      subst (Has client) (ap (clients_of net) (sym (servers.number (home_of net client - 1) parts at ∙ home_place)) ∙ (servers.states (home_of net client - 1) parts at).stands.clients) (client_lives net client within)

  -- with as many commands executed
  pub taken_there : (parts : HierarchyParts) → slice_get cores (home_of net client - 1) ≡ Some parts → (s : SessionParts) → Has s parts.core.clients → s.client ≡ client → s.taken ≡ (state.state (home_of net client)).done client
  taken_there parts at s h e =
      sym ((servers.states (home_of net client - 1) parts at).stands.taken s h) ∙ ap (state.state (suc (home_of net client - 1))).done e
      ∙ ap (λ z. (state.state z).done client) home_place

  pub script_there : (parts : HierarchyParts) → slice_get cores (home_of net client - 1) ≡ Some parts → (s : SessionParts) → Has s parts.core.clients → s.client ≡ client → map phased_command s.script ≡ script_of net client
  script_there parts at s h e = sym ((servers.states (home_of net client - 1) parts at).stands.scripts s h) ∙ ap (script_of net) e

  -- and one left where there is a next one
  pub left_there : (own : ℕ) → phase_in (slice_get (script_of net client) ((state.state (home_of net client)).done client)) ≡ Some own → (parts : HierarchyParts) (s : SessionParts)
      → slice_get cores (home_of net client - 1) ≡ Some parts → Has s parts.core.clients → s.client ≡ client → s.taken < length s.script
  left_there own next parts s at h e = go (next-is (slice_get (script_of net client) ((state.state (home_of net client)).done client)) own next)
    where
      go : Next (slice_get (script_of net client) ((state.state (home_of net client)).done client)) own → s.taken < length s.script
      go (Comes x is p) =
          let l = slice_get_within (script_of net client) ((state.state (home_of net client)).done client) x is in
          let t = taken_there parts at s h e in
          let n = ap length (script_there parts at s h e) in
          let m = length-map s.script phased_command in
          omega (arith, l, t, n, m)

module _ (net : NetParts) (phase : ℕ) (now : Servers HierarchyParts) (kept : IsNetwork net phase now) (client : ℕ) where
  -- it is of another phase, which may not begin
  pub command_early : (own : ℕ) → next_phase_by net now.journal client ≡ Some own → (phase ≡ own → ⊥)
      → (phase < own → IsThrough (servers_of net) (moment_by net now.journal).network own → IsQuiet (servers_of net) (moment_by net now.journal).network → ⊥)
      → IsBarred net now.journal (turns.Command client)
  command_early own next apart never entry then after permitted =
      at (subst (λ z. IsReady (servers_of net) (moment_by net now.journal).network (moment_by net now.journal).phase z p.found p.own)
      (phase-some net own (slice_get (script_of net client) (executed_by net now.journal client)) next) p.ready)
    where
      p : Permits net (moment_by net now.journal) (home_of net client, Did (NextCommand client))
      p = permits net (moment_by net now.journal) (home_of net client, Did (NextCommand client)) entry then after permitted

      at : IsReady (servers_of net) (moment_by net now.journal).network (moment_by net now.journal).phase (Some own) p.found p.own → ⊥
      at (a, inl (b, c)) = apart (sym kept.in_hand ∙ b)
      at (a, inr (l, t, q, g)) = never (subst (λ z. z < own) kept.in_hand l) t q

  -- what it makes, from the state that it finds
  module _ (new mid : Servers HierarchyParts) (found : Hierarchy real (net_of net)) (own : ℕ) (next : next_phase_by net now.journal client ≡ Some own)
      (ready : IsReady (servers_of net) (moment_by net now.journal).network (moment_by net now.journal).phase (Some own) found own)
      (servers : AreServers net found mid.cores) (links : AreOnLinks net (state_in net found) mid.messages) (same-run : mid.run ≡ now.run) (same : mid.journal ≡ now.journal)
      (acted : IsActed hierarchy (home_of net client - 1) (Does (NextCommand client)) (acts.Command client) mid new) where
    here : acted.core.core.server ≡ home_of net client
    here = servers.number (home_of net client - 1) acted.core acted.here ∙ home_place net kept.sound (moment_by net now.journal).network now.cores kept.cores client

    step : IsNetworkStep net (laws-of net kept.sound) found (entry_parts acted.stamp acted.core.core.server (acts.Command client) (map (λ (s : SendingParts). s.to) acted.sent)) new
    step = network-step net (laws-of net kept.sound) found (home_of net client - 1) (Does (NextCommand client)) (acts.Command client) mid new servers links acted refl tt

    ready-there : IsReady (servers_of net) (moment_by net now.journal).network (moment_by net now.journal).phase
        (act_phase (servers_of net) acted.core.core.server ((moment_by net now.journal).network.state acted.core.core.server) (Did (NextCommand client))) found own
    ready-there = subst (λ z. IsReady (servers_of net) (moment_by net now.journal).network (moment_by net now.journal).phase z found own)
        (sym (ap (λ z. phase_of real (net_of net) (slice_get (script_of net client) (((moment_by net now.journal).network.state z).done client))) here
        ∙ phase-some net own (slice_get (script_of net client) (executed_by net now.journal client)) next)) ready

    longer : new.journal ≡ now.journal ++ entry_parts acted.stamp acted.core.core.server (acts.Command client) (map (λ (s : SendingParts). s.to) acted.sent) ∷ []
    longer = acted.journal ∙ ap (λ z. z ++ entry_parts acted.stamp acted.core.core.server (acts.Command client) (map (λ (s : SendingParts). s.to) acted.sent) ∷ []) same

    pub command_made : IsMade (turns.Command client) (network_parts net now.journal) (network_parts net new.journal)
    command_made = is_made net phase now new kept (entry_parts acted.stamp acted.core.core.server (acts.Command client) (map (λ (s : SendingParts). s.to) acted.sent)) found own step.after longer ready-there step.step
        (turns.Command client) (λ i. (sym here i, Did (NextCommand client)))

    pub command_kept : IsNetwork net own new
    command_kept = is_kept net phase now new kept (entry_parts acted.stamp acted.core.core.server (acts.Command client) (map (λ (s : SendingParts). s.to) acted.sent)) found own step.after longer ready-there step.step
        (acted.same_run ∙ same-run) step.servers step.links

-- in the phase in hand it finds the state as it is
pub ready_now : (net : NetParts) (phase : ℕ) (now : Servers HierarchyParts) → IsNetwork net phase now
    → IsReady (servers_of net) (moment_by net now.journal).network (moment_by net now.journal).phase (Some phase) (moment_by net now.journal).network phase
ready_now net phase now kept = (refl, inl (kept.in_hand, refl))

-- a later phase finds all clocks raised
module _ (net : NetParts) (last own : ℕ) (now : Servers HierarchyParts) (kept : IsNetwork net last now) (later : last < own)
    (quiet : IsQuiet (servers_of net) (moment_by net now.journal).network)
    (through : IsThrough (servers_of net) (moment_by net now.journal).network own) where
  pub ready_later : IsReady (servers_of net) (moment_by net now.journal).network (moment_by net now.journal).phase (Some own)
      (raised (servers_of net) (moment_by net now.journal).network) own
  ready_later = (refl, inr (subst (λ z. z < own) (sym kept.in_hand) later, through, quiet, refl))

  pub links_later : (messages : ℕ → ℕ → List StampedMessageParts) → ((a b : ℕ) → messages a b ≡ now.messages a b)
      → AreOnLinks net (state_in net (raised (servers_of net) (moment_by net now.journal).network)) messages
  links_later messages same = record { messages_are = λ a b. same a b ∙ kept.links.messages_are a b; within = kept.links.within }

  pub low_later : (s : ℕ) → (raised (servers_of net) (moment_by net now.journal).network).clock s < last_stamp
  low_later s = omega (arith, most)
    where
      most : greatest (servers_of net) (moment_by net now.journal).network.clock (servers_of net).servers ≤ 1000000000
      most = greatest-below (servers_of net) 1000000000 (moment_by net now.journal).network.clock (servers_of net).servers
          (λ x h. let l = (low_at net now.journal kept.sound kept.legal).clocks x in omega (arith, l))

-- quiet where nothing lies on a link and no core has anything pending
pub quiet_where : (net : NetParts) (phase : ℕ) (now : Servers HierarchyParts) → IsNetwork net phase now → ((a b : ℕ) → now.messages a b ≡ []) → AreCalmCores hierarchy now.cores
    → IsQuiet (servers_of net) (moment_by net now.journal).network
quiet_where net phase now kept empty calm = record {
  empty = λ a b. all-taken ((moment_by net now.journal).network.put a b) ((moment_by net now.journal).network.taken a b) (kept.links.within a b)
      (no-map (waiting_in net) (drop ((moment_by net now.journal).network.taken a b) ((moment_by net now.journal).network.put a b)) (sym (kept.links.messages_are a b) ∙ empty a b));
  calm = λ server h. calm-at server (server_low net server h);
}
  where
    calm-at : (server : ℕ) → (1 ≤ server) × (server ≤ (first_tree net.trees).count) → ((moment_by net now.journal).network.state server).pending ≡ false
    calm-at server low = go (get-at now.cores (server - 1) (let all = kept.cores.all in omega (arith, all, low.0, low.1)))
      where
        place : suc (server - 1) ≡ server
        place = omega (arith, low.0)

        go : At now.cores (server - 1) → ((moment_by net now.journal).network.state server).pending ≡ false
        go (Found parts e) = ap (λ z. ((moment_by net now.journal).network.state z).pending) (sym place) ∙ (kept.cores.states (server - 1) parts e).stands.pending
            ∙ not-true (is_some_there parts.core.pending) (sym (ap (calm_in hierarchy) e) ∙ calm (server - 1) (let l = slice_get_within now.cores (server - 1) parts e in omega (arith, l)))

pub empty_where : (net : NetParts) (phase : ℕ) (now : Servers HierarchyParts) → IsNetwork net phase now → IsQuiet (servers_of net) (moment_by net now.journal).network → (a b : ℕ) → now.messages a b ≡ []
empty_where net phase now kept quiet a b =
    kept.links.messages_are a b
    ∙ ap (map (waiting_in net)) (ap (λ z. drop z ((moment_by net now.journal).network.put a b)) (quiet.empty a b) ∙ drop-length ((moment_by net now.journal).network.put a b))

pub calm_where : (net : NetParts) (phase : ℕ) (now : Servers HierarchyParts) → IsNetwork net phase now → IsQuiet (servers_of net) (moment_by net now.journal).network → AreCalmCores hierarchy now.cores
calm_where net phase now kept quiet k l = go (get-at now.cores k l)
  where
    go : At now.cores k → calm_at hierarchy now.cores k ≡ true
    go (Found parts e) = ap (calm_in hierarchy) e ∙ ap not (sym (kept.cores.states k parts e).stands.pending ∙ quiet.calm (suc k) (low_server net (suc k) (omega arith, (let all = kept.cores.all in omega (arith, l, all)))))

below-not : (net : NetParts) (own : ℕ) (o : Option (PhasedCommand real)) → is_phase_below (phase_in o) own ≡ false → not_below real (net_of net) own o ≡ true
below-not net own None e = refl
below-not net own (Some x) e = grind (arith, nat_tests, e)

not-below-is : (net : NetParts) (own : ℕ) (o : Option (PhasedCommand real)) → not_below real (net_of net) own o ≡ true → is_phase_below (phase_in o) own ≡ false
not-below-is net own None e = refl
not-below-is net own (Some x) e = grind (arith, nat_tests, e)

-- through where no client's next command is below
module _ (net : NetParts) (phase : ℕ) (now : Servers HierarchyParts) (kept : IsNetwork net phase now) (own : ℕ) where
  abbrev next-of : ℕ → ℕ → Option (PhasedCommand real)
  next-of server client = slice_get (script_of net client) (((moment_by net now.journal).network.state server).done client)

  all-of : (none : (client : ℕ) → 1 ≤ client → client ≤ length net.clients → is_phase_below (next_phase_by net now.journal client) own ≡ false) (server : ℕ) (cs : List ℕ)
      → ((client : ℕ) → Has client cs → Has client (clients_of net server)) → all_through real (net_of net) ((moment_by net now.journal).network.state server) own cs ≡ true
  all-of none server [] sub = refl
  all-of none server (c ∷ cs) sub =
      and_from (not_below real (net_of net) own (next-of server c)) (all_through real (net_of net) ((moment_by net now.journal).network.state server) own cs)
      (ap (λ z. not_below real (net_of net) own (next-of z c)) (sym (eqb-true (home_of net c) server f.1)) ∙ below-not net own (slice_get (script_of net c) (executed_by net now.journal c)) (none c l.0 l.1))
      (all-of none server cs (λ client m. sub client (inr m)))
    where
      f : Has c (range_with_len 1 (length net.clients)) × ((home_of net c == server) ≡ true)
      f = filter-Has (λ c. home_of net c == server) c (range_with_len 1 (length net.clients)) (sub c (inl refl))

      l : (1 ≤ c) × (c ≤ length net.clients)
      l = server-in (length net.clients) c f.0

  pub through_where : ((client : ℕ) → 1 ≤ client → client ≤ length net.clients → is_phase_below (next_phase_by net now.journal client) own ≡ false)
      → IsThrough (servers_of net) (moment_by net now.journal).network own
  through_where none server h = all-of none server (clients_of net server) (λ client m. m)

  one-of : (client server : ℕ) (cs : List ℕ) → Has client cs → all_through real (net_of net) ((moment_by net now.journal).network.state server) own cs ≡ true → not_below real (net_of net) own (next-of server client) ≡ true
  one-of client server [] m e = absurd m
  one-of client server (c ∷ cs) (inl q) e =
      subst (λ z. not_below real (net_of net) own (next-of server z) ≡ true) (sym q)
      (and_parts (not_below real (net_of net) own (next-of server c)) (all_through real (net_of net) ((moment_by net now.journal).network.state server) own cs) e).0
  one-of client server (c ∷ cs) (inr m) e = one-of client server cs m
      (and_parts (not_below real (net_of net) own (next-of server c)) (all_through real (net_of net) ((moment_by net now.journal).network.state server) own cs) e).1

  pub below_where : IsThrough (servers_of net) (moment_by net now.journal).network own → (client : ℕ) → (1 ≤ client) × (client ≤ length net.clients)
      → is_phase_below (next_phase_by net now.journal client) own ≡ false
  below_where through client within =
      not-below-is net own (slice_get (script_of net client) (executed_by net now.journal client))
      (one-of client (home_of net client) (clients_of net (home_of net client)) (client_lives net client within) (through (home_of net client) ((net-laws net kept.sound).housed client)))
