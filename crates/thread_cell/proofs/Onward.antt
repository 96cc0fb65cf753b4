-- All cells enter a later phase, and what they represent then.
use Rattle.std.proofs.Common.{◌≡◌, ◌⊎◌, inl, inr, ℕ, zero, suc, max, ◌+◌, ◌-◌, ◌≤◌, ◌<◌, nat_lt, List, [], ◌∷◌, length, map, get_or, set, Some, None, slice_get, Vec, Global, refl, sym, ap, subst, ◌∙◌, arith}
use Rattle.std.specs.List.{range_with_len}
use Rattle.std.proofs.lemmas.Option.{same_Some}
use Rattle.base.specs.Sets.{Has, IsRising}
use Rattle.filter_constraints.specs.Constraint.{ConstraintParts}
use Rattle.base_tree.specs.Tree.{Topology, TreeLaws, links_of}
use Rattle.filter_text.specs.declared.semantics.Semantics.{Semantics}
use Rattle.base_tree.proofs.Servers.{server-in}
use Rattle.law_machine.specs.Machine.{Machine}
use Rattle.law_machine.specs.Runs.{greatest}
use Rattle.law_machine.proofs.Lists.{Same, Is, Not, compare}
use Rattle.law_routing.specs.Net.{Net}
use Rattle.law_routing.specs.Server.{ServerState, interfaces}
use Rattle.law_routing.specs.Change.{client_sets}
use Rattle.law_routing.specs.Routing.{empty_server}
use Rattle.law_phases.specs.Trees.{State, net_at, tree_at}
use Rattle.law_phases.specs.Moments.{with_tree_changed}
use Rattle.net_model.specs.Real.{real}
use Rattle.net_model.specs.Parts.{NetParts}
use Rattle.net_model.specs.Nets.{phased_net, first_tree, servers_in, clients_of, topology_at}
use Rattle.net_model.specs.Sound.{IsSound}
use Rattle.server_spec.specs.declared.control.HeldLink.{HeldLink}
use Rattle.server_spec.specs.Control.{subs, advs}
use Rattle.server_control.specs.Held.{NetHeld, held_in, AreHeldIn}
use Rattle.server_flow.specs.Homes.{NetHome, homes_in, AreHomesIn}
use Rattle.server_core.specs.Clients.{client_numbers}
use Rattle.server_core.specs.Ledger.{LedgerParts}
use Rattle.server_spec.specs.Flow.{filters_of, adverts_of, home_filters, home_adverts, IsUnionOfClients, IsFlow, AreGivenLinks}
use Rattle.server_spec.proofs.Nets.{net-on, sets-on}
use Rattle.server_core.specs.Core.{CoreParts, RepresentsServer}
use Rattle.server_core.specs.Linked.{AreHeldLinks, SuitsCore, IsLinked, IsOnLinks}
use Rattle.server_core.proofs.TreeChanged.{Sets, AreUnions, client_filters, client_adverts, server-moved}
use Rattle.thread_cell.specs.declared.link.Link.{Link}
use Rattle.thread_cell.specs.Lanes.{AreLanesOf}
use Rattle.thread_cell.specs.Cell.{CellParts}
use Rattle.thread_cell.specs.Together.{AreTogether, cell_roots}
use Rattle.thread_cell.specs.Relinking.{RepresentsHome, CanMove}
use Rattle.thread_cell.specs.Entered.{AreCalm, IsSameCell, AreSameCells, AreThrough, greatest_cell_clock}
use Rattle.thread_cell.proofs.Places.{found, set-found, below-found}
use Rattle.thread_cell.proofs.Gathered.{IsKeptCell, map-found, there-or-not, root-at, number-at, count-cells}
use Rattle.thread_cell.proofs.Keeping.{replayed}
use Rattle.base.proofs.Sets.{has-append-right, map-has}
use Rattle.base.proofs.Lists.{get-below, get-set-other}
use Rattle.net_model.proofs.SoundNets.{tree-count}
use Rattle.std.proofs.lemmas.List.{length-set}

-- one more of a list is done
pub set-step : {X : Type 0} (P Q : ℕ → X → X → Type 0) (first now : List X) (n : ℕ) (d z : X) → n < length now → slice_get now n ≡ slice_get first n → Q n (get_or now n d) z → ((k : ℕ) (a b : X) → (k ≡ n → ⊥) → P k a b → Q k a b)
    → ((k : ℕ) (a b : X) → slice_get first k ≡ Some a → slice_get now k ≡ Some b → P k a b) → (k : ℕ) (a b : X) → slice_get first k ≡ Some a → slice_get (set now n z) k ≡ Some b → Q k a b
set-step {X} P Q first now n d z lt left here weaken before k a b ea eb = go (compare k n)
  where
    go : Same k n → Q k a b
    go (Is p v) =
        let az : get_or now n d ≡ a = same_Some (get_or now n d) a (sym (found now n d lt) ∙ left ∙ ap (slice_get first) (sym p) ∙ ea) in
        let bz : z ≡ b = same_Some z b (sym (set-found now n z lt) ∙ ap (slice_get (set now n z)) (sym p) ∙ eb) in
        subst (λ j. Q j a b) (sym p) (subst (λ w. Q n w b) az (subst (λ w. Q n (get_or now n d) w) bz here))
    go (Not e v) = weaken k a b e (before k a b ea (sym (get-set-other now n k z e) ∙ eb))

pub left-step : {X : Type 0} (first now : List X) (n : ℕ) (z : X) → ((k : ℕ) → n ≤ k → slice_get now k ≡ slice_get first k) → (k : ℕ) → n + 1 ≤ k → slice_get (set now n z) k ≡ slice_get first k
left-step first now n z left k le = get-set-other now n k z (λ q. omega (arith, le, q)) ∙ left k (omega (arith, le))

pub same-step : (first now : List CellParts) (n : ℕ) (d z : CellParts) → n < length now → slice_get now n ≡ slice_get first n → IsSameCell (get_or now n d) z → AreSameCells first now → AreSameCells first (set now n z)
same-step first now n d z lt left here same = record {
  long = length-set now n z ∙ same.long;
  each = set-step (λ k a b. IsSameCell a b) (λ k a b. IsSameCell a b) first now n d z lt left here (λ k a b e s. s) same.each;
}

pub below-next : (k n : ℕ) → k < n + 1 → (k ≡ n → ⊥) → k < n
below-next k n lt other = grind (arith, lt, other)

-- the greatest clock

pub below-greatest : (cells : List CellParts) (k : ℕ) (cell : CellParts) → slice_get cells k ≡ Some cell → cell.held.core.clock ≤ greatest_cell_clock cells
below-greatest [] k cell e = absurd cc
below-greatest (x ∷ cells) zero cell e = let q = ap (λ (c : CellParts). c.held.core.clock) (same_Some x cell e) in omega (arith, q)
below-greatest (x ∷ cells) (suc k) cell e = let le = below-greatest cells k cell e in omega (arith, le)

pub greatest-is : (m : Machine) (f : ℕ → ℕ) (n k : ℕ) (cells : List CellParts) → length cells ≡ k → ((place : ℕ) (cell : CellParts) → slice_get cells place ≡ Some cell → cell.held.core.clock ≡ f (n + place))
    → greatest_cell_clock cells ≡ greatest m f (range_with_len n k)
greatest-is m f n zero [] e all = refl
greatest-is m f n (suc k) [] e all = absurd (omega (arith, e))
greatest-is m f n zero (c ∷ cs) e all = absurd (omega (arith, e))
greatest-is m f n (suc k) (c ∷ cs) e all =
    let first : c.held.core.clock ≡ f n = all 0 c refl ∙ ap f (plus-zero n) in
    let rest : greatest_cell_clock cs ≡ greatest m f (range_with_len (n + 1) k) = greatest-is m f (n + 1) k cs (omega (arith, e)) (λ place cell at. all (suc place) cell at ∙ ap f (plus-suc n place)) in
    ap (λ z. max z (greatest_cell_clock cs)) first ∙ ap (max (f n)) rest
  where
    plus-zero : (n : ℕ) → n + 0 ≡ n
    plus-zero n = omega arith

    plus-suc : (n p : ℕ) → n + suc p ≡ n + 1 + p
    plus-suc n p = omega arith

-- the homes are in the run of the net, and what is given is in the run of the net of each cell
pub homes-net : (net : NetParts) (last : ℕ) (old : List CellParts) → AreTogether net last (cell_roots old) → ((k : ℕ) (cell : CellParts) → slice_get old k ≡ Some cell → IsKeptCell cell) → (homes : List NetHome) → length homes ≡ length old
    → ((k : ℕ) (cell : CellParts) (home : NetHome) → slice_get old k ≡ Some cell → slice_get homes k ≡ Some home → RepresentsHome cell.held.core home) → AreHomesIn net homes
homes-net net last old together kept homes long are h m =
    let p = has-place homes h m in
    let lt = below-found p.0 homes h p.1 in
    let c = get-below old p.0 (omega (arith, lt, long)) in
    (are p.0 c.0 h c.1 p.1).net ∙ (kept p.0 c.0 c.1).run ∙ together.nets p.0 c.0.root (root-at net last old together p.0 c.0 c.1)
  where
    has-place : {X : Type 0} (xs : List X) (x : X) → Has x xs → (i : ℕ) × (slice_get xs i ≡ Some x)
    has-place [] x h = absurd h
    has-place (y ∷ ys) x (inl e) = (0, ap Some (sym e))
    has-place (y ∷ ys) x (inr h) = let r = has-place ys x h in (suc r.0, r.1)

pub given-net : (net : NetParts) (last : ℕ) (old : List CellParts) → AreTogether net last (cell_roots old) → (given : List (Vec NetHeld Global)) → ((k : ℕ) (links : Vec NetHeld Global) → slice_get given k ≡ Some links → AreHeldIn net links.items)
    → (k : ℕ) (cell : CellParts) (links : Vec NetHeld Global) → slice_get old k ≡ Some cell → slice_get given k ≡ Some links → AreHeldIn cell.root.net.value links.items
given-net net last old together given are k cell links e f = subst (λ n. AreHeldIn n links.items) (sym (together.nets k cell.root (root-at net last old together k cell e))) (are k links f)

-- the plan of a change of tree: the homes, what is given of links, and the lanes
pub record IsPlan (net : NetParts) (phase : ℕ) (old : List CellParts) (homes : List NetHome) (given : List (Vec NetHeld Global)) (rows : List (List Link)) : Type 0 where
  pub homes_long : length homes ≡ length old
  pub homes_are : (k : ℕ) (cell : CellParts) (home : NetHome) → slice_get old k ≡ Some cell → slice_get homes k ≡ Some home → RepresentsHome cell.held.core home
  pub given_long : length given ≡ length old
  pub names : (k : ℕ) (links : Vec NetHeld Global) → slice_get given k ≡ Some links → map (λ (h : HeldLink). h.link) (held_in links.items) ≡ links_of (topology_at net phase) (suc k)
  pub flows : (k : ℕ) (links : Vec NetHeld Global) → slice_get given k ≡ Some links → (h : HeldLink) → Has h (held_in links.items) → IsFlow net.semantics (topology_at net phase) (homes_in homes) (suc k) h
  pub may : (k : ℕ) (links : Vec NetHeld Global) → slice_get given k ≡ Some links → AreHeldLinks (held_in links.items)
  pub lanes : AreLanesOf (topology_at net phase) rows
  pub rows_long : length rows ≡ length old

pub plan-of : (net : NetParts) → IsSound net → (last phase : ℕ) (old : List CellParts) → AreTogether net last (cell_roots old) → (tree : Topology) → tree ≡ topology_at net phase → TreeLaws tree → (semantics : Semantics) → semantics ≡ net.semantics
    → (homes seen : List NetHome) → seen ≡ homes → length homes ≡ length old → ((k : ℕ) (cell : CellParts) (home : NetHome) → slice_get old k ≡ Some cell → slice_get homes k ≡ Some home → RepresentsHome cell.held.core home)
    → (given : List (Vec NetHeld Global)) → length given ≡ tree.count → ((k : ℕ) (links : Vec NetHeld Global) → slice_get given k ≡ Some links → map (λ (h : HeldLink). h.link) (held_in links.items) ≡ links_of tree (suc k))
    → ((k : ℕ) (links : Vec NetHeld Global) → slice_get given k ≡ Some links → (h : HeldLink) → Has h (held_in links.items) → IsFlow semantics tree (homes_in seen) (suc k) h)
    → ((k : ℕ) (links : Vec NetHeld Global) → slice_get given k ≡ Some links → AreGivenLinks (held_in links.items)) → (rows : List (List Link)) → AreLanesOf tree rows → IsPlan net phase old homes given rows
plan-of net sound last phase old together tree is laws semantics steers homes seen same long are given count names flows may rows lanes = record {
  homes_long = long;
  homes_are = are;
  given_long = count ∙ all;
  names = λ k links e. names k links e ∙ ap (λ t. links_of t (suc k)) is;
  flows = λ k links e h m. subst (λ s. IsFlow s (topology_at net phase) (homes_in homes) (suc k) h) steers (subst (λ t. IsFlow semantics t (homes_in homes) (suc k) h) is (subst (λ l. IsFlow semantics tree (homes_in l) (suc k) h) same (flows k links e h m)));
  may = λ k links e. record {
    rising = subst (IsRising nat_lt) (sym (names k links e)) (laws.rising (suc k));
    small = (may k links e).small;
    filters = (may k links e).filters;
    adverts = (may k links e).adverts;
  };
  lanes = subst (λ t. AreLanesOf t rows) is lanes;
  rows_long = lanes.long ∙ all;
}
  where
    all : tree.count ≡ length old
    all = ap (λ (t : Topology). t.count) is ∙ tree-count net.trees sound.trees phase ∙ sym (count-cells net last old together)

module _ (net : NetParts) (sound : IsSound net) (last phase : ℕ) (old : List CellParts) (together : AreTogether net last (cell_roots old)) (kept : (k : ℕ) (cell : CellParts) → slice_get old k ≡ Some cell → IsKeptCell cell) where
  abbrev before : Net real
  before = net_at real (phased_net net) last

  abbrev after : Net real
  after = net_at real (phased_net net) phase

  core-number : (k : ℕ) (cell : CellParts) → slice_get old k ≡ Some cell → cell.held.core.server ≡ suc k
  core-number k cell e = (kept k cell e).number ∙ number-at net last old together k cell e

  -- states of the servers that the cores represent
  abbrev Stand : State real → Type 0
  Stand state = (k : ℕ) (cell : CellParts) → slice_get old k ≡ Some cell → RepresentsServer before cell.held.core (state.state (suc k))

  -- there are such states
  abbrev state-at : (k : ℕ) → ((cell : CellParts) × (slice_get old k ≡ Some cell)) ⊎ (slice_get old k ≡ None) → ServerState real
  state-at k (inl (cell, e)) = (replayed cell.root.net.value cell.root cell.journal cell.held (kept k cell e)).end.state
  state-at k (inr e) = empty_server real before

  abbrev states : ℕ → ServerState real
  states zero = empty_server real before
  states (suc k) = state-at k (there-or-not old k)

  abbrev some-state : State real
  some-state = record { state = states; clock = λ server. 0; put = λ a b. []; taken = λ a b. 0 }

  some-stands : (k : ℕ) (cell : CellParts) → slice_get old k ≡ Some cell → (d : ((c : CellParts) × (slice_get old k ≡ Some c)) ⊎ (slice_get old k ≡ None)) → RepresentsServer before cell.held.core (state-at k d)
  some-stands k cell e (inr n) = absurd (let q : Some cell ≡ None = sym e ∙ n in cc)
  some-stands k cell e (inl (other, f)) =
      let s : RepresentsServer (net_at real (phased_net other.root.net.value) other.root.phase) other.held.core (state-at k (inl (other, f))) = (replayed other.root.net.value other.root other.journal other.held (kept k other f)).stands.state in
      let t : RepresentsServer (net_at real (phased_net net) other.root.phase) other.held.core (state-at k (inl (other, f))) = subst (λ n. RepresentsServer (net_at real (phased_net n) other.root.phase) other.held.core (state-at k (inl (other, f)))) (together.nets k other.root (root-at net last old together k other f)) s in
      let u : RepresentsServer before other.held.core (state-at k (inl (other, f))) = subst (λ p. RepresentsServer (net_at real (phased_net net) p) other.held.core (state-at k (inl (other, f)))) (together.phases k other.root (root-at net last old together k other f)) t in
      subst (λ (c : CellParts). RepresentsServer before c.held.core (state-at k (inl (other, f)))) (same_Some other cell (sym f ∙ e)) u

  some-stand : Stand some-state
  some-stand k cell e = some-stands k cell e (there-or-not old k)

  module _ (homes : List NetHome) (given : List (Vec NetHeld Global)) (rows : List (List Link)) (plan : IsPlan net phase old homes given rows) where
    module _ (state : State real) (stand : Stand state) where
      -- what is known of a server
      record IsThere (server : ℕ) : Type 0 where
        pub core : CoreParts
        pub home : NetHome
        pub number : core.server ≡ server
        pub is : RepresentsServer before core (state.state server)
        pub owned : RepresentsHome core home
        pub filters : filters_of (homes_in homes) server ≡ home.home.filters
        pub adverts : adverts_of (homes_in homes) server ≡ home.home.adverts

      at-place : (k : ℕ) → k < length old → IsThere (suc k)
      at-place k lt =
          let c = get-below old k lt in
          let long = plan.homes_long in
          let h = get-below homes k (omega (arith, lt, long)) in
          record {
            core = c.0.held.core;
            home = h.0;
            number = core-number k c.0 c.1;
            is = stand k c.0 c.1;
            owned = plan.homes_are k c.0 h.0 c.1 h.1;
            filters = ap home_filters (map-found (λ (w : NetHome). w.home) k homes h.0 h.1);
            adverts = ap home_adverts (map-found (λ (w : NetHome). w.home) k homes h.0 h.1);
          }

      there : (server : ℕ) → Has server (servers_in net) → IsThere server
      there server m =
          let r = server-in (first_tree net.trees).count server m in
          let same : suc (server - 1) ≡ server = omega (arith, r.0) in
          let all = count-cells net last old together in
          subst IsThere same (at-place (server - 1) (omega (arith, r.0, r.1, all)))

      interface : (server client : ℕ) (core : CoreParts) → core.server ≡ server → Has client (clients_of net server) → Has (64 + client) (interfaces real before core.server)
      interface server client core e m = subst (λ z. Has (64 + client) (interfaces real before z)) (sym e) (has-append-right (64 + client) (before.links server) (map (λ c. 64 + c) (clients_of net server)) (map-has (λ c. 64 + c) (clients_of net server) client m))

      -- the clients of a server are those of its core
      its-clients : (server : ℕ) (p : IsThere server) → clients_of net server ≡ client_numbers p.core.clients
      its-clients server p = ap (clients_of net) (sym p.number) ∙ p.is.clients

      filters-united : IsUnionOfClients after (λ server. (state.state server).subs) (filters_of (homes_in homes))
      filters-united server m x = (to, from)
        where
          p : IsThere server
          p = there server m

          held : (client : ℕ) → Has client (clients_of net server) → (state.state server).subs (64 + client) ≡ subs p.core.control (64 + client)
          held client lives = p.is.control.subs_held (64 + client) (interface server client p.core p.number lives)

          to : Has x (filters_of (homes_in homes) server) → (client : ℕ) × Has client (clients_of net server) × Has x ((state.state server).subs (64 + client))
          to k =
              let r = (p.owned.filters x).0 (subst (Has x) p.filters k) in
              let here = subst (Has r.0) (sym (its-clients server p)) r.1 in
              (r.0, here, subst (Has x) (sym (held r.0 here)) r.2)

          from : (client : ℕ) × Has client (clients_of net server) × Has x ((state.state server).subs (64 + client)) → Has x (filters_of (homes_in homes) server)
          from (client, lives, k) = subst (Has x) (sym p.filters) ((p.owned.filters x).1 (client, subst (Has client) (its-clients server p) lives, subst (Has x) (held client lives) k))

      adverts-united : IsUnionOfClients after (λ server. (state.state server).advs) (adverts_of (homes_in homes))
      adverts-united server m x = (to, from)
        where
          p : IsThere server
          p = there server m

          held : (client : ℕ) → Has client (clients_of net server) → (state.state server).advs (64 + client) ≡ advs p.core.control (64 + client)
          held client lives = p.is.control.advs_held (64 + client) (interface server client p.core p.number lives)

          to : Has x (adverts_of (homes_in homes) server) → (client : ℕ) × Has client (clients_of net server) × Has x ((state.state server).advs (64 + client))
          to k =
              let r = (p.owned.adverts x).0 (subst (Has x) p.adverts k) in
              let here = subst (Has r.0) (sym (its-clients server p)) r.1 in
              (r.0, here, subst (Has x) (sym (held r.0 here)) r.2)

          from : (client : ℕ) × Has client (clients_of net server) × Has x ((state.state server).advs (64 + client)) → Has x (adverts_of (homes_in homes) server)
          from (client, lives, k) = subst (Has x) (sym p.adverts) ((p.owned.adverts x).1 (client, subst (Has client) (its-clients server p) lives, subst (Has x) (held client lives) k))

      united : AreUnions after (client_filters net sound last phase state (homes_in homes)) (client_adverts net sound last phase state (homes_in homes)) (homes_in homes)
      united = record {
        filters = on-clients (λ server. (state.state server).subs) (filters_of (homes_in homes)) filters-united;
        adverts = on-clients (λ server. (state.state server).advs) (adverts_of (homes_in homes)) adverts-united;
      }
        where
          on-clients : (sets : Sets) (given : ℕ → List (List ConstraintParts)) → IsUnionOfClients after sets given
              → IsUnionOfClients after (λ server. client_sets real before (tree_at real (phased_net net) phase).links (tree_at real (phased_net net) phase).hop (sets server)) given
          on-clients sets given = sets-on net.semantics (topology_at net phase) after before (tree_at real (phased_net net) phase).links (tree_at real (phased_net net) phase).hop sets given (net-on net sound phase)

      -- on the links of the plan a core represents its server on the new tree
      pub stands-moved : (k : ℕ) (cell : CellParts) (links : Vec NetHeld Global) → slice_get old k ≡ Some cell → slice_get given k ≡ Some links
          → (ledger : LedgerParts) (core : CoreParts) → IsLinked (held_in links.items) cell.held.core.control ledger.control → SuitsCore cell.held.core ledger → IsOnLinks ledger cell.held.core core
          → RepresentsServer after core ((with_tree_changed real (phased_net net) last phase state).state (suc k))
      stands-moved k cell links e f ledger core linked suits on =
          let number = core-number k cell e in
          subst (λ s. RepresentsServer after core ((with_tree_changed real (phased_net net) last phase state).state s)) number
          (server-moved net sound last phase state (homes_in homes) (net-on net sound phase) united cell.held.core (held_in links.items) ledger
          (subst (λ s. RepresentsServer before cell.held.core (state.state s)) (sym number) (stand k cell e))
          (plan.names k links f ∙ ap (links_of (topology_at net phase)) (sym number))
          (λ h m. subst (λ s. IsFlow net.semantics (topology_at net phase) (homes_in homes) s h) (sym number) (plan.flows k links f h m))
          linked suits core on)

    -- each cell can move by the plan
    pub can-move : (clock : ℕ) → clock ≡ greatest_cell_clock old → last < phase → AreCalm old → AreThrough phase old
        → (k : ℕ) (cell : CellParts) (links : Vec NetHeld Global) (row : List Link) → slice_get old k ≡ Some cell → slice_get given k ≡ Some links → slice_get rows k ≡ Some row → CanMove phase clock (held_in links.items) row cell
    can-move clock high later calm through k cell links row e f r = record {
      not_above = (let le = below-greatest old k cell e in omega (arith, le, high));
      not_later = (let p = together.phases k cell.root (root-at net last old together k cell e) in omega (arith, p, later));
      through = through k cell e;
      calm = calm k cell e;
      links = plan.may k links f;
      names = plan.lanes.names k row r ∙ sym (plan.names k links f);
      new = plan.lanes.new k row r;
      state = (with_tree_changed real (phased_net net) last phase some-state).state (suc k);
      stands = subst (λ n. (ledger : LedgerParts) (core : CoreParts) → IsLinked (held_in links.items) cell.held.core.control ledger.control → SuitsCore cell.held.core ledger
          → IsOnLinks ledger cell.held.core core → RepresentsServer (net_at real (phased_net n) phase) core ((with_tree_changed real (phased_net net) last phase some-state).state (suc k)))
          (sym (together.nets k cell.root (root-at net last old together k cell e)))
          (stands-moved some-state some-stand k cell links e f);
    }
