-- The beginning of a phase and its taking back, at all servers.
use Rattle.std.proofs.Common.{◌≡◌, ◌⊎◌, inl, inr, ℕ, zero, suc, max, ◌+◌, ◌-◌, ◌<◌, ◌≤◌, List, [], ◌∷◌, length, map, Some, None, slice_get, refl, sym, ap, subst, ◌∙◌, arith, get_or}
use Rattle.std.specs.List.{range_with_len}
use Rattle.std.proofs.lemmas.Option.{slice_get_within}
use Rattle.base.specs.Sets.{Has}
use Rattle.filter_constraints.specs.Constraint.{ConstraintParts}
use Rattle.base_tree.proofs.Servers.{server-in}
use Rattle.law_machine.specs.Machine.{Machine}
use Rattle.law_machine.specs.Runs.{greatest}
use Rattle.law_routing.specs.Net.{Net}
use Rattle.law_routing.specs.Server.{ServerState, interfaces}
use Rattle.law_routing.specs.Change.{client_sets}
use Rattle.law_phases.specs.Trees.{State, net_at, tree_at, machine_at, IsAtRestOn}
use Rattle.net_model.specs.Real.{real}
use Rattle.net_model.specs.Parts.{NetParts}
use Rattle.net_model.specs.Nets.{phased_net, first_tree, servers_in, clients_of, topology_at}
use Rattle.net_model.specs.Sound.{IsSound}
use Rattle.server_spec.specs.Control.{subs, advs}
use Rattle.server_spec.specs.Flow.{filters_of, adverts_of, home_filters, home_adverts, IsUnionOfClients}
use Rattle.server_spec.proofs.Nets.{net-on, sets-on}
use Rattle.server_flow.specs.Homes.{NetHome, homes_in, AreHomesIn}
use Rattle.server_core.specs.Clients.{client_numbers}
use Rattle.server_core.specs.Ledger.{LedgerParts}
use Rattle.server_core.specs.Core.{CoreParts, RepresentsServer}
use Rattle.server_core.specs.Linked.{SuitsCore}
use Rattle.server_core.proofs.AnyClock.{any-clock}
use Rattle.sequential_network.specs.Kept.{AreServers}
use Rattle.sequential_network.specs.Stepping.{Stepping, greatest_clock, peers}
use Rattle.sequential_network.specs.Begin.{FitsCore, RepresentsHome}
use Rattle.server_core.proofs.TreeChanged.{Sets, AreUnions, client_filters, client_adverts}
use Rattle.sequential_network.proofs.Resting.{client_interfaces, fits}
use Rattle.base.proofs.Sets.{has-append-right, map-has, has-get}
use Rattle.base.proofs.Lists.{get-below, get-map}

-- members of lists by their places

pub also : {X Y : Type 0} (xs : List X) (ys : List Y) (i : ℕ) (x : X) → length ys ≡ length xs → slice_get xs i ≡ Some x → (y : Y) × (slice_get ys i ≡ Some y)
also xs ys i x e at = get-below ys i (omega (arith, e, slice_get_within xs i x at))

-- the greatest clock

pub greatest-is : {P : Type 0} (kind : Stepping P) (m : Machine) (f : ℕ → ℕ) (n k : ℕ) (cores : List P) → length cores ≡ k → ((place : ℕ) (core : P) → slice_get cores place ≡ Some core → (kind.core core).clock ≡ f (n + place))
    → greatest_clock kind cores ≡ greatest m f (range_with_len n k)
greatest-is kind m f n zero [] e all = refl
greatest-is kind m f n (suc k) [] e all = absurd (omega (arith, e))
greatest-is kind m f n zero (c ∷ cs) e all = absurd (omega (arith, e))
greatest-is kind m f n (suc k) (c ∷ cs) e all =
    let first : (kind.core c).clock ≡ f n = all 0 c refl ∙ ap f (plus-zero n) in
    let rest : greatest_clock kind cs ≡ greatest m f (range_with_len (n + 1) k) = greatest-is kind m f (n + 1) k cs (omega (arith, e)) (λ place core at. all (suc place) core at ∙ ap f (plus-suc n place)) in
    ap (λ z. max z (greatest_clock kind cs)) first ∙ ap (max (f n)) rest
  where
    plus-zero : (n : ℕ) → n + 0 ≡ n
    plus-zero n = omega arith

    plus-suc : (n p : ℕ) → n + suc p ≡ n + 1 + p
    plus-suc n p = omega arith

pub other-clock : (n : Net real) (core new : CoreParts) (state : ServerState real) → RepresentsServer n (record new { clock = core.clock }) state → RepresentsServer n new state
other-clock n core new state is = any-clock n (record new { clock = core.clock }) new.clock state is

module _ (net : NetParts) (last : ℕ) (state : State real) (cores : List CoreParts) (servers : AreServers net last state cores) where
  -- homes are in the run of the net
  pub homes-of-net : (homes : List NetHome) → length homes ≡ length cores
      → ((place : ℕ) (core : CoreParts) (home : NetHome) → slice_get cores place ≡ Some core → slice_get homes place ≡ Some home → RepresentsHome core home) → AreHomesIn net homes
  homes-of-net homes long each h m =
      let p = has-get homes h m in
      let c = also homes cores p.0 h (sym long) p.1 in
      (each p.0 c.0 h c.1 p.1).net ∙ servers.nets p.0 c.0 c.1

module _ (net : NetParts) (sound : IsSound net) (last : ℕ) (state : State real) (cores : List CoreParts) (servers : AreServers net last state cores) (rest : IsAtRestOn real (phased_net net) last state) where
  -- a core with the state of its own number
  pub its-state : (place : ℕ) (core : CoreParts) → slice_get cores place ≡ Some core → RepresentsServer (net_at real (phased_net net) last) core (state.state core.server)
  its-state place core at = subst (λ z. RepresentsServer (net_at real (phased_net net) last) core (state.state z)) (sym (servers.number place core at)) (servers.states place core at)

  pub all-fit : (place : ℕ) (core : CoreParts) (ledger : LedgerParts) → slice_get cores place ≡ Some core → SuitsCore core ledger → FitsCore core ledger
  all-fit place core ledger at suits = fits net sound last state rest core (its-state place core at) ledger suits

  pub clock-is : greatest_clock peers cores ≡ greatest (machine_at real (phased_net net) last) state.clock (servers_in net)
  clock-is = greatest-is peers (machine_at real (phased_net net) last) state.clock 1 (first_tree net.trees).count cores servers.all (λ place core at. servers.clocks place core at ∙ ap state.clock (one-more place))
    where
      one-more : (place : ℕ) → suc place ≡ 1 + place
      one-more place = omega arith

  -- the homes have what the clients have together
  module _ (phase : ℕ) (homes : List NetHome) (long : length homes ≡ length cores)
      (home-is : (place : ℕ) (core : CoreParts) (home : NetHome) → slice_get cores place ≡ Some core → slice_get homes place ≡ Some home → RepresentsHome core home) where
    -- what is known of a place
    record IsPlaceOf (server : ℕ) : Type 0 where
      pub core : CoreParts
      pub home : NetHome
      pub number : core.server ≡ server
      pub is : RepresentsServer (net_at real (phased_net net) last) core (state.state server)
      pub together : RepresentsHome core home
      pub filters : filters_of (homes_in homes) server ≡ home.home.filters
      pub adverts : adverts_of (homes_in homes) server ≡ home.home.adverts

    at-place : (place : ℕ) → place < length cores → IsPlaceOf (suc place)
    at-place place l =
        let c = get-below cores place l in
        let h = also cores homes place c.0 long c.1 in
        let g = get-map (λ (h : NetHome). h.home) homes place h.0 h.1 in
        record {
          core = c.0;
          home = h.0;
          number = servers.number place c.0 c.1;
          is = servers.states place c.0 c.1;
          together = home-is place c.0 h.0 c.1 h.1;
          filters = ap home_filters g;
          adverts = ap home_adverts g;
        }

    place-of : (server : ℕ) → Has server (servers_in net) → IsPlaceOf server
    place-of server m =
        let r = server-in (first_tree net.trees).count server m in
        let same : suc (server - 1) ≡ server = omega (arith, r.0) in
        subst IsPlaceOf same (at-place (server - 1) (omega (arith, r.0, r.1, servers.all)))

    interface : (server client : ℕ) (core : CoreParts) → core.server ≡ server → Has client (clients_of net server) → Has (64 + client) (interfaces real (net_at real (phased_net net) last) core.server)
    interface server client core e m = subst (λ z. Has (64 + client) (interfaces real (net_at real (phased_net net) last) z)) (sym e) (has-append-right (64 + client) ((net_at real (phased_net net) last).links server) (client_interfaces net server) (map-has (λ c. 64 + c) (clients_of net server) client m))

    -- the clients of a server are those of its core
    lives : (server : ℕ) (p : IsPlaceOf server) → clients_of net server ≡ client_numbers p.core.clients
    lives server p = ap (clients_of net) (sym p.number) ∙ p.is.clients

    filters-union : IsUnionOfClients (net_at real (phased_net net) phase) (λ server. (state.state server).subs) (filters_of (homes_in homes))
    filters-union server m x = (to, from)
      where
        p : IsPlaceOf server
        p = place-of server m

        held : (client : ℕ) → Has client (clients_of net server) → (state.state server).subs (64 + client) ≡ subs p.core.control (64 + client)
        held client h = p.is.control.subs_held (64 + client) (interface server client p.core p.number h)

        to : Has x (filters_of (homes_in homes) server) → (client : ℕ) × Has client (clients_of net server) × Has x ((state.state server).subs (64 + client))
        to k =
            let h = (p.together.filters x).0 (subst (Has x) p.filters k) in
            let get-below = subst (Has h.0) (sym (lives server p)) h.1 in
            (h.0, get-below, subst (Has x) (sym (held h.0 get-below)) h.2)

        from : (client : ℕ) × Has client (clients_of net server) × Has x ((state.state server).subs (64 + client)) → Has x (filters_of (homes_in homes) server)
        from (client, h, k) = subst (Has x) (sym p.filters) ((p.together.filters x).1 (client, subst (Has client) (lives server p) h, subst (Has x) (held client h) k))

    adverts-union : IsUnionOfClients (net_at real (phased_net net) phase) (λ server. (state.state server).advs) (adverts_of (homes_in homes))
    adverts-union server m x = (to, from)
      where
        p : IsPlaceOf server
        p = place-of server m

        held : (client : ℕ) → Has client (clients_of net server) → (state.state server).advs (64 + client) ≡ advs p.core.control (64 + client)
        held client h = p.is.control.advs_held (64 + client) (interface server client p.core p.number h)

        to : Has x (adverts_of (homes_in homes) server) → (client : ℕ) × Has client (clients_of net server) × Has x ((state.state server).advs (64 + client))
        to k =
            let h = (p.together.adverts x).0 (subst (Has x) p.adverts k) in
            let get-below = subst (Has h.0) (sym (lives server p)) h.1 in
            (h.0, get-below, subst (Has x) (sym (held h.0 get-below)) h.2)

        from : (client : ℕ) × Has client (clients_of net server) × Has x ((state.state server).advs (64 + client)) → Has x (adverts_of (homes_in homes) server)
        from (client, h, k) = subst (Has x) (sym p.adverts) ((p.together.adverts x).1 (client, subst (Has client) (lives server p) h, subst (Has x) (held client h) k))

    pub unions : AreUnions (net_at real (phased_net net) phase) (client_filters net sound last phase state (homes_in homes)) (client_adverts net sound last phase state (homes_in homes)) (homes_in homes)
    unions = record {
      filters = on-clients (λ server. (state.state server).subs) (filters_of (homes_in homes)) filters-union;
      adverts = on-clients (λ server. (state.state server).advs) (adverts_of (homes_in homes)) adverts-union;
    }
      where
        on-clients : (sets : Sets) (given : ℕ → List (List ConstraintParts)) → IsUnionOfClients (net_at real (phased_net net) phase) sets given
            → IsUnionOfClients (net_at real (phased_net net) phase) (λ server. client_sets real (net_at real (phased_net net) last) (tree_at real (phased_net net) phase).links (tree_at real (phased_net net) phase).hop (sets server)) given
        on-clients sets given = sets-on net.semantics (topology_at net phase) (net_at real (phased_net net) phase) (net_at real (phased_net net) last) (tree_at real (phased_net net) phase).links (tree_at real (phased_net net) phase).hop sets given (net-on net sound phase)
