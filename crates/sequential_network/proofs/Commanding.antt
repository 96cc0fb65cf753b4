-- A client's next command: where it is permitted, and what its turn makes.
use Rattle.std.proofs.Common.{◌≡◌, ℕ, zero, suc, ◌-◌, ◌<◌, ◌≤◌, ◌==◌, ◌&&◌, not, Bool, true, false, cond, List, [], ◌∷◌, ◌++◌, length, map, drop, slice_get, Option, Some, None, inl, inr, refl, sym, ap, subst, ◌∙◌, arith, eq-eqb}
use Rattle.std.specs.List.{range_with_len}
use Rattle.base.specs.Sets.{Has}
use Rattle.base.proofs.Roots.{Has-filter, filter-Has}
use Rattle.law_machine.specs.Machine.{Does, Did, act_phase}
use Rattle.law_machine.specs.Runs.{greatest}
use Rattle.law_machine.proofs.Stamps.{greatest-below}
use Rattle.law_routing.specs.Net.{PhasedCommand}
use Rattle.law_routing.specs.Step.{NextCommand}
use Rattle.law_routing.specs.Routing.{phase_of, not_below, all_through}
use Rattle.law_phases.specs.Trees.{State, net_at, machine_at, is_one_tree, IsQuietOn, IsThroughOn, IsAtRestOn}
use Rattle.law_phases.specs.Moments.{begun, with_clocks_raised, with_tree_changed}
use Rattle.law_phases.specs.Runs.{ActFinds}
use Rattle.law_phases.proofs.Whole.{quiet-rests}
use Rattle.net_model.specs.Real.{real, real_laws}
use Rattle.server_message.specs.Parts.{SendingParts}
use Rattle.net_model.specs.declared.turn.Act.TheVariants as acts
use Rattle.net_model.specs.declared.turn.Turn.TheVariants as turns
use Rattle.net_model.specs.Parts.{NetParts, EntryParts, entry_parts}
use Rattle.net_model.specs.Meaning.{phased_command, journal_of}
use Rattle.net_model.specs.Nets.{phased_net, first_tree, home_of, clients_of, script_of}
use Rattle.net_model.specs.Sound.{IsSound}
use Rattle.net_model.proofs.SoundNets.{net-laws}
use Rattle.server_spec.specs.Session.{SessionParts}
use Rattle.server_core.specs.Clients.{client_numbers}
use Rattle.server_core.specs.Core.{CoreParts}
use Rattle.server_core.specs.Pending.{is_some_there}
use Rattle.server_core.specs.Step.{last_stamp}
use Rattle.sequential_network.specs.Seen.{calm_in, calm_at, AreCalmCores}
use Rattle.net_turns.specs.Sessions.{is_phase_below}
use Rattle.std.proofs.lemmas.Bool.Decides.{nat_tests}
use Rattle.net_turns.specs.Network.{network_parts, moment_by, IsLegal, executed_by, phase_in, next_phase_by}
use Rattle.net_turns.specs.Turns.{IsMade, IsBarred}
use Rattle.sequential_network.specs.Links.{StampedMessageParts, AreOnLinks, waiting_in}
use Rattle.sequential_network.specs.Kept.{AreServers, IsNetwork}
use Rattle.sequential_network.specs.Acted.{Servers, IsActed}
use Rattle.sequential_network.proofs.Acted.{network-step, IsNetworkStep}
use Rattle.base_tree.proofs.Servers.{server-in, in-server}
use Rattle.net_turns.proofs.Among.{server_low, low_server}
use Rattle.net_turns.proofs.Barred.{Permits, permits}
use Rattle.sequential_network.proofs.Grown.{is_made, is_kept}
use Rattle.net_model.proofs.TreesByPhase.{laws_at}
use Rattle.sequential_network.proofs.Standing.{At, Found, get-at, low_at, run_of}
use Rattle.sequential_network.specs.Stepping.{peers}
use Rattle.std.proofs.lemmas.Option.{slice_get_within}
use Rattle.std.proofs.lemmas.Bool.{not-true, and_from, and_parts, eqb-true}
use Rattle.std.proofs.Math.Seq.{drop-length}
use Rattle.std.proofs.lemmas.List.{length-map}

pub no-map : {A B : Type 0} (f : A → B) (xs : List A) → map f xs ≡ [] → xs ≡ []
no-map f [] e = refl
no-map f (x ∷ xs) e = absurd cc

pub all-taken : {A : Type 0} (xs : List A) (k : ℕ) → k ≤ length xs → drop k xs ≡ [] → k ≡ length xs
all-taken xs zero l e = sym (ap length e)
all-taken [] (suc k) l e = absurd (omega (arith, l))
all-taken (x ∷ xs) (suc k) l e = ap suc (all-taken xs k (omega (arith, l)) e)

-- the phase of a next command is that of its act
phase-some : (net : NetParts) (phase own : ℕ) (o : Option (PhasedCommand real)) → phase_in o ≡ Some own → phase_of real (net_at real (phased_net net) phase) o ≡ Some own
phase-some net phase own None e = absurd cc
phase-some net phase own (Some x) e = e

-- there is a next command
pub data Next (o : Option (PhasedCommand real)) (own : ℕ) : Type 0 where
  Comes : (x : PhasedCommand real) → o ≡ Some x → x.phase ≡ own → Next o own

pub next-is : (o : Option (PhasedCommand real)) (own : ℕ) → phase_in o ≡ Some own → Next o own
next-is None own e = absurd cc
next-is (Some x) own e = Comes x refl cc

-- a client of the net lives at its home, which is a server
pub client_lives : (net : NetParts) (client : ℕ) → (1 ≤ client) × (client ≤ length net.clients) → Has client (clients_of net (home_of net client))
client_lives net client within = Has-filter (λ c. home_of net c == home_of net client) client (range_with_len 1 (length net.clients)) (in-server (length net.clients) client within) (eq-eqb (home_of net client) (home_of net client) refl)

pub home_low : (net : NetParts) → IsSound net → (client : ℕ) → (1 ≤ home_of net client) × (home_of net client ≤ (first_tree net.trees).count)
home_low net sound client = server_low net (home_of net client) ((net-laws net sound).housed client)

-- the core of a client's home, on the tree of a phase
module _ (net : NetParts) (sound : IsSound net) (phase : ℕ) (state : State real) (cores : List CoreParts) (servers : AreServers net phase state cores) (client : ℕ) where
  pub home_place : suc (home_of net client - 1) ≡ home_of net client
  home_place = let l = (home_low net sound client).0 in omega (arith, l)

  -- it has the client's session
  pub lives_there : (1 ≤ client) × (client ≤ length net.clients) → (core : CoreParts) → slice_get cores (home_of net client - 1) ≡ Some core → Has client (client_numbers core.clients)
  lives_there within core at =
      subst (Has client) (ap (clients_of net) (sym (servers.number (home_of net client - 1) core at ∙ home_place)) ∙ (servers.states (home_of net client - 1) core at).clients) (client_lives net client within)

  -- with as many commands executed
  pub taken_there : (core : CoreParts) → slice_get cores (home_of net client - 1) ≡ Some core → (s : SessionParts) → Has s core.clients → s.client ≡ client → s.taken ≡ (state.state (home_of net client)).done client
  taken_there core at s h e =
      sym ((servers.states (home_of net client - 1) core at).taken s h) ∙ ap (state.state (suc (home_of net client - 1))).done e
      ∙ ap (λ z. (state.state z).done client) home_place

  pub script_there : (core : CoreParts) → slice_get cores (home_of net client - 1) ≡ Some core → (s : SessionParts) → Has s core.clients → s.client ≡ client → map phased_command s.script ≡ script_of net client
  script_there core at s h e = sym ((servers.states (home_of net client - 1) core at).scripts s h) ∙ ap (script_of net) e

  -- and one left where there is a next one
  pub left_there : (own : ℕ) → phase_in (slice_get (script_of net client) ((state.state (home_of net client)).done client)) ≡ Some own → (core : CoreParts) (s : SessionParts)
      → slice_get cores (home_of net client - 1) ≡ Some core → Has s core.clients → s.client ≡ client → s.taken < length s.script
  left_there own next core s at h e = go (next-is (slice_get (script_of net client) ((state.state (home_of net client)).done client)) own next)
    where
      go : Next (slice_get (script_of net client) ((state.state (home_of net client)).done client)) own → s.taken < length s.script
      go (Comes x is p) =
          let l = slice_get_within (script_of net client) ((state.state (home_of net client)).done client) x is in
          let t = taken_there core at s h e in
          let n = ap length (script_there core at s h e) in
          let m = length-map s.script phased_command in
          omega (arith, l, t, n, m)

module _ (net : NetParts) (phase : ℕ) (now : Servers CoreParts) (kept : IsNetwork net phase now) (client : ℕ) where
  -- it is of another phase, which may not begin
  pub command_early : (own : ℕ) → next_phase_by net now.journal client ≡ Some own → (phase ≡ own → ⊥)
      → (phase < own → IsThroughOn real (phased_net net) phase (moment_by net now.journal).state own → IsQuietOn real (phased_net net) phase (moment_by net now.journal).state → ⊥)
      → IsBarred net now.journal (turns.Command client)
  command_early own next apart never entry after permitted =
      at (subst (λ z. ActFinds real (phased_net net) (moment_by net now.journal).state (moment_by net now.journal).phase z p.found.state p.found.phase)
      (phase-some net (moment_by net now.journal).phase own (slice_get (script_of net client) (executed_by net now.journal client)) next) p.ready)
    where
      p : Permits net (moment_by net now.journal) (home_of net client, Did (NextCommand client))
      p = permits net (moment_by net now.journal) (home_of net client, Did (NextCommand client)) entry after permitted

      at : ActFinds real (phased_net net) (moment_by net now.journal).state (moment_by net now.journal).phase (Some own) p.found.state p.found.phase → ⊥
      at (a, inl (b, c)) = apart (sym kept.in_hand ∙ b)
      at (a, inr (l, t, q, g)) = never (subst (λ z. z < own) kept.in_hand l)
          (subst (λ z. IsThroughOn real (phased_net net) z (moment_by net now.journal).state own) kept.in_hand t)
          (subst (λ z. IsQuietOn real (phased_net net) z (moment_by net now.journal).state) kept.in_hand q)

  -- what it makes, from the state that it finds
  module _ (new mid : Servers CoreParts) (found : State real) (own : ℕ) (next : next_phase_by net now.journal client ≡ Some own)
      (ready : ActFinds real (phased_net net) (moment_by net now.journal).state (moment_by net now.journal).phase (Some own) found own)
      (servers : AreServers net own found mid.cores) (links : AreOnLinks net found mid.messages) (same-run : mid.run ≡ now.run) (same : mid.journal ≡ now.journal)
      (acted : IsActed peers (home_of net client - 1) (Does (NextCommand client)) (acts.Command client) mid new) where
    abbrev entry : EntryParts
    entry = entry_parts acted.stamp acted.core.server (acts.Command client) (map (λ (s : SendingParts). s.to) acted.sent)

    here : acted.core.server ≡ home_of net client
    here = servers.number (home_of net client - 1) acted.core acted.here ∙ home_place net kept.sound phase (moment_by net now.journal).state now.cores kept.cores client

    step : IsNetworkStep net own (laws_at net kept.sound own) found (entry_parts acted.stamp acted.core.server (acts.Command client) (map (λ (s : SendingParts). s.to) acted.sent)) new
    step = network-step net own (laws_at net kept.sound own) found (home_of net client - 1) (Does (NextCommand client)) (acts.Command client) mid new servers links acted refl tt

    ready-there : ActFinds real (phased_net net) (moment_by net now.journal).state (moment_by net now.journal).phase
        (act_phase (machine_at real (phased_net net) (moment_by net now.journal).phase) acted.core.server ((moment_by net now.journal).state.state acted.core.server) (Did (NextCommand client))) found own
    ready-there = subst (λ z. ActFinds real (phased_net net) (moment_by net now.journal).state (moment_by net now.journal).phase z found own)
        (sym (ap (λ z. phase_of real (net_at real (phased_net net) (moment_by net now.journal).phase) (slice_get (script_of net client) (((moment_by net now.journal).state.state z).done client))) here
        ∙ phase-some net (moment_by net now.journal).phase own (slice_get (script_of net client) (executed_by net now.journal client)) next)) ready

    longer : new.journal ≡ now.journal ++ entry_parts acted.stamp acted.core.server (acts.Command client) (map (λ (s : SendingParts). s.to) acted.sent) ∷ []
    longer = acted.journal ∙ ap (λ z. z ++ entry_parts acted.stamp acted.core.server (acts.Command client) (map (λ (s : SendingParts). s.to) acted.sent) ∷ []) same

    pub command_made : IsMade (turns.Command client) (network_parts net now.journal) (network_parts net new.journal)
    command_made = is_made net phase now new kept (entry_parts acted.stamp acted.core.server (acts.Command client) (map (λ (s : SendingParts). s.to) acted.sent)) found own step.after longer ready-there step.step
        (turns.Command client) (λ i. (sym here i, Did (NextCommand client)))

    pub command_kept : IsNetwork net own new
    command_kept = is_kept net phase now new kept (entry_parts acted.stamp acted.core.server (acts.Command client) (map (λ (s : SendingParts). s.to) acted.sent)) found own step.after longer ready-there step.step
        (acted.same_run ∙ same-run) step.servers step.links

-- in the phase in hand it finds the state as it is
pub ready_now : (net : NetParts) (phase : ℕ) (now : Servers CoreParts) → IsNetwork net phase now
    → ActFinds real (phased_net net) (moment_by net now.journal).state (moment_by net now.journal).phase (Some phase) (moment_by net now.journal).state phase
ready_now net phase now kept = (refl, inl (kept.in_hand, refl))

-- a later phase finds its beginning
module _ (net : NetParts) (last own : ℕ) (now : Servers CoreParts) (kept : IsNetwork net last now) (later : last < own)
    (quiet : IsQuietOn real (phased_net net) last (moment_by net now.journal).state)
    (through : IsThroughOn real (phased_net net) last (moment_by net now.journal).state own) where
  pub ready_later : ActFinds real (phased_net net) (moment_by net now.journal).state (moment_by net now.journal).phase (Some own)
      (begun real (phased_net net) last own (moment_by net now.journal).state) own
  ready_later = (
    refl,
    inr (
      subst (λ z. z < own) (sym kept.in_hand) later,
      subst (λ z. IsThroughOn real (phased_net net) z (moment_by net now.journal).state own) (sym kept.in_hand) through,
      subst (λ z. IsQuietOn real (phased_net net) z (moment_by net now.journal).state) (sym kept.in_hand) quiet,
      ap (λ z. begun real (phased_net net) z own (moment_by net now.journal).state) kept.in_hand,
    ),
  )

  pub rests_now : IsAtRestOn real (phased_net net) last (moment_by net now.journal).state
  rests_now = subst (λ z. IsAtRestOn real (phased_net net) z (moment_by net now.journal).state) kept.in_hand
      (quiet-rests real real_laws (run_of net now.journal kept.sound kept.legal) (length (journal_of now.journal))
      (subst (λ z. IsQuietOn real (phased_net net) z (moment_by net now.journal).state) (sym kept.in_hand) quiet))

  -- nothing lies on a link
  pub messages_none : (a b : ℕ) → now.messages a b ≡ []
  messages_none a b = kept.links.messages_are a b ∙ ap (map (waiting_in net)) (ap (λ z. drop z ((moment_by net now.journal).state.put a b)) (quiet.empty a b) ∙ drop-length ((moment_by net now.journal).state.put a b))

  pub links_later : (messages : ℕ → ℕ → List StampedMessageParts) → ((a b : ℕ) → messages a b ≡ now.messages a b) → AreOnLinks net (begun real (phased_net net) last own (moment_by net now.journal).state) messages
  links_later messages same = go (is_one_tree real (phased_net net) last own)
    where
      go : (b : Bool) → AreOnLinks net (cond b (with_clocks_raised real (phased_net net) last (moment_by net now.journal).state) (with_tree_changed real (phased_net net) last own (moment_by net now.journal).state)) messages
      go true = record { messages_are = λ a b. same a b ∙ kept.links.messages_are a b; within = kept.links.within }
      go false = record { messages_are = λ a b. same a b ∙ messages_none a b; within = λ a b. omega arith }

  pub low_later : (s : ℕ) → (begun real (phased_net net) last own (moment_by net now.journal).state).clock s < last_stamp
  low_later s = go (is_one_tree real (phased_net net) last own)
    where
      most : greatest (machine_at real (phased_net net) last) (moment_by net now.journal).state.clock (phased_net net).servers ≤ 1000000000
      most = greatest-below (machine_at real (phased_net net) last) 1000000000 (moment_by net now.journal).state.clock (phased_net net).servers
          (λ x h. let l = (low_at net now.journal kept.sound kept.legal).clocks x in omega (arith, l))

      go : (b : Bool) → (cond b (with_clocks_raised real (phased_net net) last (moment_by net now.journal).state) (with_tree_changed real (phased_net net) last own (moment_by net now.journal).state)).clock s < last_stamp
      go true = omega (arith, most)
      go false = omega (arith, most)

  -- the beginning of a phase keeps how many commands are executed
  pub done_later : (server client : ℕ) → ((begun real (phased_net net) last own (moment_by net now.journal).state).state server).done client ≡ ((moment_by net now.journal).state.state server).done client
  done_later server client = go (is_one_tree real (phased_net net) last own)
    where
      go : (b : Bool) → ((cond b (with_clocks_raised real (phased_net net) last (moment_by net now.journal).state) (with_tree_changed real (phased_net net) last own (moment_by net now.journal).state)).state server).done client
          ≡ ((moment_by net now.journal).state.state server).done client
      go true = refl
      go false = refl

-- after a beginning that was taken back the network is as before
pub taken_back : (net : NetParts) (last : ℕ) (old new : Servers CoreParts) (kept : IsNetwork net last old) → AreServers net last (moment_by net old.journal).state new.cores
    → new.run ≡ old.run → ((a b : ℕ) → new.messages a b ≡ old.messages a b) → new.journal ≡ old.journal → IsNetwork net last new
taken_back net last old new kept cores same-run messages journal = record {
  sound = kept.sound;
  run = same-run ∙ kept.run;
  legal = subst (IsLegal net) (sym journal) kept.legal;
  in_hand = ap (λ z. z.phase) same ∙ kept.in_hand;
  cores = subst (λ z. AreServers net last z new.cores) (sym (ap (λ z. z.state) same)) cores;
  links = subst (λ z. AreOnLinks net z new.messages) (sym (ap (λ z. z.state) same)) (record {
    messages_are = λ a b. messages a b ∙ kept.links.messages_are a b;
    within = kept.links.within;
  });
}
  where
    same : moment_by net new.journal ≡ moment_by net old.journal
    same = ap (moment_by net) journal

-- quiet where nothing lies on a link and no core has anything pending
pub quiet_where : (net : NetParts) (phase : ℕ) (now : Servers CoreParts) → IsNetwork net phase now → ((a b : ℕ) → now.messages a b ≡ []) → AreCalmCores peers now.cores
    → IsQuietOn real (phased_net net) phase (moment_by net now.journal).state
quiet_where net phase now kept empty calm = record {
  empty = λ a b. all-taken ((moment_by net now.journal).state.put a b) ((moment_by net now.journal).state.taken a b) (kept.links.within a b)
      (no-map (waiting_in net) (drop ((moment_by net now.journal).state.taken a b) ((moment_by net now.journal).state.put a b)) (sym (kept.links.messages_are a b) ∙ empty a b));
  calm = λ server h. calm-at server (server_low net server h);
}
  where
    calm-at : (server : ℕ) → (1 ≤ server) × (server ≤ (first_tree net.trees).count) → ((moment_by net now.journal).state.state server).pending ≡ false
    calm-at server low = go (get-at now.cores (server - 1) (let all = kept.cores.all in omega (arith, all, low.0, low.1)))
      where
        place : suc (server - 1) ≡ server
        place = omega (arith, low.0)

        go : At now.cores (server - 1) → ((moment_by net now.journal).state.state server).pending ≡ false
        go (Found core e) = ap (λ z. ((moment_by net now.journal).state.state z).pending) (sym place) ∙ (kept.cores.states (server - 1) core e).pending
            ∙ not-true (is_some_there core.pending) (sym (ap (calm_in peers) e) ∙ calm (server - 1) (let l = slice_get_within now.cores (server - 1) core e in omega (arith, l)))

pub empty_where : (net : NetParts) (phase : ℕ) (now : Servers CoreParts) → IsNetwork net phase now → IsQuietOn real (phased_net net) phase (moment_by net now.journal).state → (a b : ℕ) → now.messages a b ≡ []
empty_where net phase now kept quiet a b = kept.links.messages_are a b ∙ ap (map (waiting_in net)) (ap (λ z. drop z ((moment_by net now.journal).state.put a b)) (quiet.empty a b) ∙ drop-length ((moment_by net now.journal).state.put a b))

pub calm_where : (net : NetParts) (phase : ℕ) (now : Servers CoreParts) → IsNetwork net phase now → IsQuietOn real (phased_net net) phase (moment_by net now.journal).state → AreCalmCores peers now.cores
calm_where net phase now kept quiet k l = go (get-at now.cores k l)
  where
    go : At now.cores k → calm_at peers now.cores k ≡ true
    go (Found core e) = ap (calm_in peers) e ∙ ap not (sym (kept.cores.states k core e).pending ∙ quiet.calm (suc k) (low_server net (suc k) (omega arith, (let all = kept.cores.all in omega (arith, l, all)))))

-- through where no client's next command is below
module _ (net : NetParts) (phase : ℕ) (now : Servers CoreParts) (kept : IsNetwork net phase now) (own : ℕ) where
  below-not : (net : NetParts) (phase : ℕ) (o : Option (PhasedCommand real)) → is_phase_below (phase_in o) own ≡ false → not_below real (net_at real (phased_net net) phase) own o ≡ true
  below-not net phase None e = refl
  below-not net phase (Some x) e = grind (arith, nat_tests, e)

  not-below-is : (net : NetParts) (phase : ℕ) (o : Option (PhasedCommand real)) → not_below real (net_at real (phased_net net) phase) own o ≡ true → is_phase_below (phase_in o) own ≡ false
  not-below-is net phase None e = refl
  not-below-is net phase (Some x) e = grind (arith, nat_tests, e)

  all-of : (none : (client : ℕ) → 1 ≤ client → client ≤ length net.clients → is_phase_below (next_phase_by net now.journal client) own ≡ false) (server : ℕ) (cs : List ℕ)
      → ((client : ℕ) → Has client cs → Has client (clients_of net server)) → all_through real (net_at real (phased_net net) phase) ((moment_by net now.journal).state.state server) own cs ≡ true
  all-of none server [] sub = refl
  all-of none server (c ∷ cs) sub =
      and_from (not_below real (net_at real (phased_net net) phase) own (slice_get (script_of net c) (((moment_by net now.journal).state.state server).done c)))
      (all_through real (net_at real (phased_net net) phase) ((moment_by net now.journal).state.state server) own cs)
      (ap (λ z. not_below real (net_at real (phased_net net) phase) own (slice_get (script_of net c) (((moment_by net now.journal).state.state z).done c))) (sym (eqb-true (home_of net c) server f.1))
      ∙ below-not net phase (slice_get (script_of net c) (executed_by net now.journal c)) (none c l.0 l.1))
      (all-of none server cs (λ client m. sub client (inr m)))
    where
      f : Has c (range_with_len 1 (length net.clients)) × ((home_of net c == server) ≡ true)
      f = filter-Has (λ c. home_of net c == server) c (range_with_len 1 (length net.clients)) (sub c (inl refl))

      l : (1 ≤ c) × (c ≤ length net.clients)
      l = server-in (length net.clients) c f.0

  pub through_where : ((client : ℕ) → 1 ≤ client → client ≤ length net.clients → is_phase_below (next_phase_by net now.journal client) own ≡ false)
      → IsThroughOn real (phased_net net) phase (moment_by net now.journal).state own
  through_where none server h = all-of none server (clients_of net server) (λ client m. m)

  one-of : (client server : ℕ) (cs : List ℕ) → Has client cs → all_through real (net_at real (phased_net net) phase) ((moment_by net now.journal).state.state server) own cs ≡ true
      → not_below real (net_at real (phased_net net) phase) own (slice_get (script_of net client) (((moment_by net now.journal).state.state server).done client)) ≡ true
  one-of client server [] h e = absurd h
  one-of client server (c ∷ cs) (inl q) e =
      subst (λ z. not_below real (net_at real (phased_net net) phase) own (slice_get (script_of net z) (((moment_by net now.journal).state.state server).done z)) ≡ true) (sym q)
      (and_parts (not_below real (net_at real (phased_net net) phase) own (slice_get (script_of net c) (((moment_by net now.journal).state.state server).done c)))
      (all_through real (net_at real (phased_net net) phase) ((moment_by net now.journal).state.state server) own cs) e).0
  one-of client server (c ∷ cs) (inr m) e = one-of client server cs m
      (and_parts (not_below real (net_at real (phased_net net) phase) own (slice_get (script_of net c) (((moment_by net now.journal).state.state server).done c)))
      (all_through real (net_at real (phased_net net) phase) ((moment_by net now.journal).state.state server) own cs) e).1

  pub below_where : IsThroughOn real (phased_net net) phase (moment_by net now.journal).state own → (client : ℕ) → (1 ≤ client) × (client ≤ length net.clients)
      → is_phase_below (next_phase_by net now.journal client) own ≡ false
  below_where through client within =
      not-below-is net phase (slice_get (script_of net client) (executed_by net now.journal client))
      (one-of client (home_of net client) (clients_of net (home_of net client)) (client_lives net client within) (through (home_of net client) ((net-laws net kept.sound).housed client)))
