-- Proves that a new core represents a server before its first step.
use Rattle.std.proofs.Common.{◌≡◌, inl, inr, ℕ, zero, suc, ◌+◌, ◌<◌, ◌≤◌, ◌==◌, ◌||◌, nat_lt, nat_le, Bool, true, false, cond, List, [], ◌∷◌, ◌++◌, length, map, filter, take, Some, slice_get, refl, sym, ap, subst, ◌∙◌, arith, add-one}
use Rattle.std.specs.List.{range_with_len}
use Rattle.std.specs.List.Sorted.{IsStrictlyIncreasing}
use Rattle.std.proofs.lemmas.Bool.Decides.{nat_tests}
use Rattle.std.proofs.lemmas.List.{length-take-le}
use Rattle.base.specs.Sets.{Has, IsRising}
use Rattle.base_tree.specs.Tree.{Topology, links_of, IsServer}
use Rattle.base_tree.proofs.Servers.{server-in}
use Rattle.law_routing.specs.Routing.{empty_server}
use Rattle.law_phases.specs.Trees.{net_at, RiseFrom, tree_after}
use Rattle.law_phases.proofs.Nets.{net-laws as each-net}
use Rattle.net_model.specs.Real.{real}
use Rattle.filter_constraints.specs.Constraint.{ConstraintParts}
use Rattle.filter_text.specs.declared.semantics.Semantics.{Semantics}
use Rattle.filter_text.specs.declared.semantics.Semantics.TheVariants.{Subscription, Advertisement}
use Rattle.net_model.specs.Parts.{ClientParts, NetParts}
use Rattle.net_model.specs.Meaning.{phased_command}
use Rattle.net_model.specs.Nets.{with_adverts, first_tree, later_trees, topology_at, home_in, home_of, clients_of, script_of, servers_in, phased_net}
use Rattle.net_model.specs.Sound.{HasTrees, IsSound}
use Rattle.net_model.proofs.SoundNets.{net-laws, tree-map}
use Rattle.match_routes.specs.declared.table_change.TableChange.{TableChange}
use Rattle.server_spec.specs.Holdings.{Holding}
use Rattle.server_spec.specs.Control.{Controlled, by_adverts}
use Rattle.server_spec.specs.Session.{SessionParts}
use Rattle.server_spec.specs.Turn.{filter_set_at, advert_set_at}
use Rattle.server_session.specs.Session.{NetSession}
use Rattle.server_core.specs.Clients.{bare, client_numbers, AreOf, sessions_in}
use Rattle.server_core.specs.Core.{CoreParts, core_parts, RepresentsServer}
use Rattle.server_core.specs.Kept.{IsCore, IsKept}
use Rattle.server_core.specs.Ledger.{LedgerParts}
use Rattle.server_core.specs.Start.{session_of, sessions_of}
use Rattle.server_core.proofs.Going.{rise-before}
use Rattle.server_core.proofs.Turned.{split-one}
use Rattle.base.proofs.Lists.{take-suc-some}
use Rattle.base.proofs.Sets.{has-map, map-has, increasing-above, increasing-rest}
use Rattle.std.proofs.lemmas.Bool.{eq-eqb}
use Rattle.base.proofs.Numbers.{neq-eqb}
use Rattle.law_routing.proofs.Listing.{has-one}
use Rattle.std.proofs.Math.Seq.{take-append_seam}

-- the sessions of the clients at a server

sessions-more : (semantics : Semantics) (server n m : ℕ) (xs : List ClientParts) (x : ClientParts) → m ≡ n + length xs
    → sessions_of semantics server n (xs ++ x ∷ []) ≡ sessions_of semantics server n xs ++ cond (x.home == server) (session_of semantics m x ∷ []) []
sessions-more semantics server n m [] x e =
    let same : m ≡ n = omega (arith, e) in
    ap (λ z. cond (x.home == server) (session_of semantics z x ∷ []) []) (sym same)
sessions-more semantics server n m (y ∷ xs) x e = go (y.home == server) (sessions-more semantics server (suc n) m xs x (omega (arith, e)))
  where
    new : List SessionParts
    new = cond (x.home == server) (session_of semantics m x ∷ []) []

    go : (b : Bool) → sessions_of semantics server (suc n) (xs ++ x ∷ []) ≡ sessions_of semantics server (suc n) xs ++ cond (x.home == server) (session_of semantics m x ∷ []) []
        → cond b (session_of semantics n y ∷ sessions_of semantics server (suc n) (xs ++ x ∷ [])) (sessions_of semantics server (suc n) (xs ++ x ∷ []))
        ≡ cond b (session_of semantics n y ∷ sessions_of semantics server (suc n) xs) (sessions_of semantics server (suc n) xs) ++ cond (x.home == server) (session_of semantics m x ∷ []) []
    go true ih = ap (λ z. session_of semantics n y ∷ z) ih
    go false ih = ih

-- the clients so far of a server have these numbers and these sessions
pub record IsHome (semantics : Semantics) (server : ℕ) (clients : List ClientParts) (numbers : List ℕ) (sessions : List SessionParts) : Type 0 where
  pub numbered : client_numbers sessions ≡ numbers
  pub made : sessions ≡ sessions_of semantics server 1 clients

pub home-skip : (semantics : Semantics) (server : ℕ) (clients : List ClientParts) (n : ℕ) (x : ClientParts) (numbers : List ℕ) (sessions : List SessionParts) → slice_get clients n ≡ Some x → (x.home ≡ server → ⊥)
    → IsHome semantics server (take n clients) numbers sessions → IsHome semantics server (take (n + 1) clients) numbers sessions
home-skip semantics server clients n x numbers sessions e other h = record { numbered = h.numbered; made = rw (add-one, take-suc-some clients n x e) (h.made ∙ sym same) }
  where
    same : sessions_of semantics server 1 (take n clients ++ x ∷ []) ≡ sessions_of semantics server 1 (take n clients)
    same = sessions-more semantics server 1 (1 + length (take n clients)) (take n clients) x refl ∙ rw (neq-eqb x.home server other) (nothing (sessions_of semantics server 1 (take n clients)))
      where
        nothing : (ss : List SessionParts) → ss ++ [] ≡ ss
        nothing [] = refl
        nothing (s ∷ ss) = ap (λ z. s ∷ z) (nothing ss)

pub home-more : (semantics : Semantics) (server : ℕ) (clients : List ClientParts) (n : ℕ) (x : ClientParts) (numbers : List ℕ) (sessions : List SessionParts) (s : SessionParts) → slice_get clients n ≡ Some x → n < length clients → x.home ≡ server
    → s ≡ session_of semantics (n + 1) x → IsHome semantics server (take n clients) numbers sessions → IsHome semantics server (take (n + 1) clients) (numbers ++ (n + 1) ∷ []) (sessions ++ s ∷ [])
home-more semantics server clients n x numbers sessions s e l here is h = record { numbered = ends sessions ∙ rw (ap (λ z. z.client) is, h.numbered) refl; made = rw (add-one, take-suc-some clients n x e) (rw (is, h.made) (sym same)) }
  where
    ends : (ss : List SessionParts) → client_numbers (ss ++ s ∷ []) ≡ client_numbers ss ++ s.client ∷ []
    ends [] = refl
    ends (t ∷ ss) = ap (λ z. t.client ∷ z) (ends ss)

    place : n + 1 ≡ 1 + length (take n clients)
    place = let k : length (take n clients) ≡ n = length-take-le n clients (omega (arith, l)) in omega (arith, k)

    same : sessions_of semantics server 1 (take n clients ++ x ∷ []) ≡ sessions_of semantics server 1 (take n clients) ++ session_of semantics (n + 1) x ∷ []
    same = sessions-more semantics server 1 (n + 1) (take n clients) x place ∙ rw (eq-eqb x.home server here) refl

-- one more session of a net
pub sessions-push : (ss : List NetSession) (s : NetSession) → sessions_in (ss ++ s ∷ []) ≡ sessions_in ss ++ s.session ∷ []
sessions-push [] s = refl
sessions-push (t ∷ ss) s = ap (λ z. t.session ∷ z) (sessions-push ss s)

pub of-push : (net : NetParts) (ss : List NetSession) (s : NetSession) → AreOf net ss → s.net ≡ net → AreOf net (ss ++ s ∷ [])
of-push net [] s h e t (inl q) = subst (λ z. z.net ≡ net) (sym q) e
of-push net [] s h e t (inr m) = absurd m
of-push net (u ∷ ss) s h e t (inl q) = h t (inl q)
of-push net (u ∷ ss) s h e t (inr m) = of-push net ss s (λ v k. h v (inr k)) e t m

-- each is of one of the clients
abbrev pub IsOne : Semantics → ℕ → List ClientParts → SessionParts → Type 0
IsOne semantics n cs s = (k : ℕ) × (client : ClientParts) × (slice_get cs k ≡ Some client) × (s ≡ session_of semantics s.client client) × (s.client ≡ n + k) × (k < length cs)

pub its-client : (semantics : Semantics) (server n : ℕ) (cs : List ClientParts) (s : SessionParts) → Has s (sessions_of semantics server n cs) → IsOne semantics n cs s
its-client semantics server n [] s m = absurd m
its-client semantics server n (y ∷ cs) s m = go (its-client semantics server (suc n) cs s) (y.home == server) m
  where
    later : (Has s (sessions_of semantics server (suc n) cs) → IsOne semantics (suc n) cs s) → Has s (sessions_of semantics server (suc n) cs) → IsOne semantics n (y ∷ cs) s
    later ih m = let r = ih m in (suc r.0, r.1, r.2, r.3, omega (arith, r.4), omega (arith, r.5))

    first : s ≡ session_of semantics n y → IsOne semantics n (y ∷ cs) s
    first e =
        let number : s.client ≡ n = ap (λ z. z.client) e in
        (zero, y, refl, subst (λ z. s ≡ session_of semantics z y) (sym number) e, omega (arith, number), omega arith)

    go : (Has s (sessions_of semantics server (suc n) cs) → IsOne semantics (suc n) cs s) → (b : Bool) → Has s (cond b (session_of semantics n y ∷ sessions_of semantics server (suc n) cs) (sessions_of semantics server (suc n) cs)) → IsOne semantics n (y ∷ cs) s
    go ih true (inl e) = first e
    go ih true (inr m) = later ih m
    go ih false m = later ih m

numbers-from : (semantics : Semantics) (server n : ℕ) (cs : List ClientParts) (z : ℕ) → Has z (client_numbers (sessions_of semantics server n cs)) → n ≤ z
numbers-from semantics server n [] z m = absurd m
numbers-from semantics server n (y ∷ cs) z m = go (numbers-from semantics server (suc n) cs z) (y.home == server) m
  where
    go : (Has z (client_numbers (sessions_of semantics server (suc n) cs)) → suc n ≤ z) → (b : Bool) → Has z (client_numbers (cond b (session_of semantics n y ∷ sessions_of semantics server (suc n) cs) (sessions_of semantics server (suc n) cs))) → n ≤ z
    go ih true (inl e) = omega (arith, e)
    go ih true (inr m) = let r = ih m in omega (arith, r)
    go ih false m = let r = ih m in omega (arith, r)

pub numbers-rise : (semantics : Semantics) (server n : ℕ) (cs : List ClientParts) → IsStrictlyIncreasing (client_numbers (sessions_of semantics server n cs))
numbers-rise semantics server n [] = λ k l. absurd (omega (arith, l))
numbers-rise semantics server n (y ∷ cs) = go (y.home == server) (numbers-rise semantics server (suc n) cs)
  where
    low : (z : ℕ) → Has z (client_numbers (sessions_of semantics server (suc n) cs)) → n < z
    low z m = let r = numbers-from semantics server (suc n) cs z m in omega (arith, r)

    go : (b : Bool) → IsStrictlyIncreasing (client_numbers (sessions_of semantics server (suc n) cs)) → IsStrictlyIncreasing (client_numbers (cond b (session_of semantics n y ∷ sessions_of semantics server (suc n) cs) (sessions_of semantics server (suc n) cs)))
    go true ih = rise-before n (client_numbers (sessions_of semantics server (suc n) cs)) low ih
    go false ih = ih

-- they have nothing that is not announced
pub bare-same : (semantics : Semantics) (server n : ℕ) (cs : List ClientParts) → map bare (sessions_of semantics server n cs) ≡ sessions_of semantics server n cs
bare-same semantics server n [] = refl
bare-same semantics server n (y ∷ cs) = go (y.home == server) (bare-same semantics server (suc n) cs)
  where
    go : (b : Bool) → map bare (sessions_of semantics server (suc n) cs) ≡ sessions_of semantics server (suc n) cs
        → map bare (cond b (session_of semantics n y ∷ sessions_of semantics server (suc n) cs) (sessions_of semantics server (suc n) cs)) ≡ cond b (session_of semantics n y ∷ sessions_of semantics server (suc n) cs) (sessions_of semantics server (suc n) cs)
    go true ih = ap (λ z. session_of semantics n y ∷ z) ih
    go false ih = ih

numbers-are : (semantics : Semantics) (server : ℕ) (home : ℕ → ℕ) (n : ℕ) (cs : List ClientParts) → ((k m : ℕ) (client : ClientParts) → m ≡ n + k → slice_get cs k ≡ Some client → home m ≡ client.home)
    → filter (λ c. home c == server) (range_with_len n (length cs)) ≡ client_numbers (sessions_of semantics server n cs)
numbers-are semantics server home n [] h = refl
numbers-are semantics server home n (y ∷ cs) h = rw (h 0 n y (omega arith) refl, add-one) (go (y.home == server) (numbers-are semantics server home (suc n) cs (λ k m client e a. h (suc k) m client (omega (arith, e)) a)))
  where
    go : (b : Bool) → filter (λ c. home c == server) (range_with_len (suc n) (length cs)) ≡ client_numbers (sessions_of semantics server (suc n) cs)
        → cond b (n ∷ filter (λ c. home c == server) (range_with_len (suc n) (length cs))) (filter (λ c. home c == server) (range_with_len (suc n) (length cs)))
        ≡ client_numbers (cond b (session_of semantics n y ∷ sessions_of semantics server (suc n) cs) (sessions_of semantics server (suc n) cs))
    go true ih = ap (λ z. n ∷ z) ih
    go false ih = ih

pub clients-are : (net : NetParts) (server : ℕ) → clients_of net server ≡ client_numbers (sessions_of net.semantics server 1 net.clients)
clients-are net server = numbers-are net.semantics server (home_of net) 1 net.clients each
  where
    each : (k m : ℕ) (client : ClientParts) → m ≡ 1 + k → slice_get net.clients k ≡ Some client → home_of net m ≡ client.home
    each k m client e a =
        let same : m ≡ suc k = omega (arith, e) in
        ap (home_of net) same ∙ ap home_in a

-- the tree of phase 0 is the first

first-tree : (net : NetParts) → IsSound net → topology_at net 0 ≡ first_tree net.trees
first-tree net sound = go net.trees sound.trees
  where
    early : (t : Topology) (later : List (ℕ × Topology)) → RiseFrom 0 later → tree_after t later 0 ≡ t
    early t [] r = refl
    early t (next ∷ later) r =
        let low : nat_le next.0 0 ≡ false = (let more = r.0 in grind (arith, nat_tests)) in
        rw low refl

    go : (trees : List (ℕ × Topology)) → HasTrees trees → tree_after (first_tree trees) (later_trees trees) 0 ≡ first_tree trees
    go [] h = absurd h
    go (first ∷ later) h = early first.1 later h.rising

pub its-server : (net : NetParts) (server : ℕ) (tree : Topology) → IsSound net → Has server (servers_in net) → tree ≡ topology_at net 0 → IsServer tree server
its-server net server tree sound m e = subst (λ (z : Topology). IsServer z server) (sym (e ∙ first-tree net sound)) (server-in (first_tree net.trees).count server m)

-- the interfaces

rises-map : (ns : List ℕ) → IsStrictlyIncreasing ns → IsRising nat_lt (map (λ n. 64 + n) ns)
rises-map [] h = tt
rises-map (n ∷ ns) h = ((λ y m. let r = has-map (λ z. 64 + z) ns y m in let low = increasing-above n ns h r.0 r.1 in let is = r.2 in grind (arith, nat_tests)), rises-map ns (increasing-rest n ns h))

rises-join : (links ys : List ℕ) → IsRising nat_lt links → ((l : ℕ) → Has l links → l ≤ 64) → IsRising nat_lt ys → ((y : ℕ) → Has y ys → 64 < y) → IsRising nat_lt (links ++ ys)
rises-join [] ys h low k high = k
rises-join (l ∷ links) ys h low k high = (
  (λ y m. elim (split-one links ys y m) [
    | inl a ↦ h.0 y a
    | inr b ↦ (let small = low l (inl refl) in let big = high y b in grind (arith, nat_tests))
  ]),
  rises-join links ys h.1 (λ z m. low z (inr m)) k high,
)

abbrev pub interfaces_by : List ℕ → List ℕ → List ℕ
interfaces_by links numbers = links ++ map (λ n. 64 + n) numbers

pub interfaces-rise : (links numbers : List ℕ) → IsRising nat_lt links → ((l : ℕ) → Has l links → l ≤ 64) → IsStrictlyIncreasing numbers → ((n : ℕ) → Has n numbers → 1 ≤ n) → IsRising nat_lt (interfaces_by links numbers)
interfaces-rise links numbers h low k one = rises-join links (map (λ n. 64 + n) numbers) h low (rises-map numbers k) (λ y m. let r = has-map (λ n. 64 + n) numbers y m in let p = one r.0 r.1 in let q = r.2 in omega (arith, p, q))

pub front-has : (links ys : List ℕ) (l : ℕ) → Has l links → Has l (links ++ ys)
front-has [] ys l h = absurd h
front-has (x ∷ links) ys l (inl e) = inl e
front-has (x ∷ links) ys l (inr h) = inr (front-has links ys l h)

pub back-has : (links ys : List ℕ) (l : ℕ) → Has l ys → Has l (links ++ ys)
back-has [] ys l h = h
back-has (x ∷ links) ys l h = inr (back-has links ys l h)

-- the core

abbrev pub ledger_parts : NetParts → List ℕ → Controlled → List (Holding (List ConstraintParts)) → List TableChange → LedgerParts
ledger_parts net interfaces control installed pending = record { net = net; interfaces = interfaces; control = control; installed = installed; pending = pending }

abbrev pub first_control : Semantics → List ℕ → Controlled
first_control semantics links = record { semantics = semantics; links = links; filters = []; adverts = [] }

abbrev pub first_ledger : NetParts → List ℕ → List ℕ → LedgerParts
first_ledger net interfaces links = ledger_parts net interfaces (first_control net.semantics links) [] []

is-first : (net : NetParts) (interfaces links : List ℕ) (ledger : LedgerParts) → ledger.net ≡ net → ledger.interfaces ≡ interfaces → ledger.control ≡ first_control net.semantics links → ledger.installed ≡ [] → ledger.pending ≡ []
    → ledger ≡ first_ledger net interfaces links
is-first net interfaces links ledger n i c p s =
    ap (λ z. ledger_parts z ledger.interfaces ledger.control ledger.installed ledger.pending) n
    ∙ (ap (λ z. ledger_parts net z ledger.control ledger.installed ledger.pending) i
    ∙ (ap (λ z. ledger_parts net interfaces z ledger.installed ledger.pending) c
    ∙ (ap (λ z. ledger_parts net interfaces (first_control net.semantics links) z ledger.pending) p
    ∙ ap (λ z. ledger_parts net interfaces (first_control net.semantics links) [] z) s)))

module _ (net : NetParts) (sound : IsSound net) (server : ℕ) (links : List ℕ) (linked : links ≡ links_of (topology_at net 0) server) where
  same-links : (net_at real (phased_net net) 0).links server ≡ links
  same-links = ap (λ t. t.links server) (sym (tree-map (first_tree net.trees) (later_trees net.trees) 0)) ∙ sym linked

  pub small : (link : ℕ) → Has link links → link ≤ 64
  small link m = (each-net real (phased_net net) (net-laws net sound) 0).small server link (subst (λ z. Has link z) (sym same-links) m)

  abbrev pub home-numbers : List ℕ
  home-numbers = client_numbers (sessions_of net.semantics server 1 net.clients)

  abbrev pub first_core : CoreParts
  first_core = core_parts server (first_ledger net (interfaces_by links home-numbers) links) (map bare (sessions_of net.semantics server 1 net.clients)) 0

  pub is-first-core : (ledger : LedgerParts) (clients : List SessionParts) → ledger.net ≡ net → ledger.interfaces ≡ interfaces_by links home-numbers → ledger.control ≡ first_control net.semantics links
      → ledger.installed ≡ [] → ledger.pending ≡ [] → clients ≡ sessions_of net.semantics server 1 net.clients → core_parts server ledger (map bare clients) 0 ≡ first_core
  is-first-core ledger clients n i c p s e =
      ap (λ z. core_parts server z (map bare clients) 0) (is-first net (interfaces_by links home-numbers) links ledger n i c p s)
      ∙ ap (λ z. core_parts server (first_ledger net (interfaces_by links home-numbers) links) (map bare z) 0) e

  its : (s : SessionParts) → Has s first_core.clients → IsOne net.semantics 1 net.clients s
  its s m = its-client net.semantics server 1 net.clients s (subst (λ z. Has s z) (bare-same net.semantics server 1 net.clients) m)

  pub is-core : IsRising nat_lt links → IsCore first_core
  is-core rising = record {
    clock_low = omega arith;
    links_rise = rising;
    links_small = small;
    one_semantics = λ s m. ap (λ z. z.semantics) (its s m).3;
    ids = λ s m. let r = its s m in let few = sound.few in (omega (arith, r.4), omega (arith, r.4, r.5, few));
    own_filters = λ s m. sym (ap (λ z. filter_set_at z z.taken) (its s m).3);
    own_adverts = λ s m t. sym (ap (λ z. advert_set_at z z.taken) (its s m).3);
  }

  pub in-range : (n : ℕ) → Has n home-numbers → (1 ≤ n) × (n ≤ 1024)
  in-range n m =
      let r = has-map (λ (s : SessionParts). s.client) (sessions_of net.semantics server 1 net.clients) n m in
      let w = its-client net.semantics server 1 net.clients r.0 r.1 in
      let few = sound.few in
      (omega (arith, w.4, r.2), omega (arith, w.4, w.5, few, r.2))

  pub is-kept : IsRising nat_lt links → IsKept (interfaces_by links home-numbers) net first_core
  is-kept rising = record {
    kept = is-core rising;
    of_net = refl;
    of_semantics = refl;
    whole = ap (λ z. interfaces_by links (client_numbers z)) (sym (bare-same net.semantics server 1 net.clients));
    linked = λ l h. front-has links (map (λ n. 64 + n) home-numbers) l h;
    reached = λ s h.
        let there = subst (λ z. Has s z) (bare-same net.semantics server 1 net.clients) h in
        back-has links (map (λ n. 64 + n) home-numbers) (64 + s.client) (map-has (λ n. 64 + n) home-numbers s.client (map-has (λ (z : SessionParts). z.client) (sessions_of net.semantics server 1 net.clients) s there));
  }

  steer : (semantics : Semantics) → with_adverts semantics ≡ by_adverts semantics
  steer Subscription = refl
  steer Advertisement = refl

  pub is-state : Has server (servers_in net) → RepresentsServer (net_at real (phased_net net) 0) first_core (empty_server real (net_at real (phased_net net) 0))
  is-state m = record {
    among = has-one server (servers_in net) m;
    control = record {
      adverts = steer net.semantics;
      links = same-links;
      subs_held = λ i h. refl;
      advs_held = λ i h. refl;
      subs_apart = λ i h. refl;
      advs_apart = λ i h. refl;
    };
    installed = λ i h. refl;
    installed_apart = λ i h. refl;
    pending = refl;
    clients = clients-are net server ∙ ap client_numbers (sym (bare-same net.semantics server 1 net.clients));
    scripts = λ s h. scripts s (its s h);
    taken = λ s h. sym (ap (λ z. z.taken) (its s h).3);
    inboxes = λ s h. ap (λ z. z.inbox) (its s h).3;
  }
    where
      scripts : (s : SessionParts) → IsOne net.semantics 1 net.clients s → script_of net s.client ≡ map phased_command s.script
      scripts s (k, client, at, is, number, l) =
          let same : s.client ≡ suc k = omega (arith, number) in
          let script : client.script ≡ s.script = sym (ap (λ z. z.script) is) in
          ap (script_of net) same ∙ rw at refl ∙ ap (map phased_command) script

-- rising numbers up to a bound are few
pub rising-few : (k m : ℕ) (xs : List ℕ) → IsRising nat_lt xs → k ≤ m + 1 → ((x : ℕ) → Has x xs → k ≤ x) → ((x : ℕ) → Has x xs → x ≤ m) → length xs + k ≤ m + 1
rising-few k m [] h l low high = omega (arith, l)
rising-few k m (x ∷ xs) h l low high =
    let a = low x (inl refl) in
    let b = high x (inl refl) in
    let more = rising-few (x + 1) m xs h.1 (omega (arith, b)) (λ y p. let q = h.0 y p in grind (arith, nat_tests)) (λ y p. high y (inr p)) in
    omega (arith, a, b, more)

pub interfaces-few : (links numbers : List ℕ) → IsRising nat_lt (interfaces_by links numbers) → ((l : ℕ) → Has l links → l ≤ 64) → ((n : ℕ) → Has n numbers → n ≤ 1024) → length (interfaces_by links numbers) ≤ 1089
interfaces-few links numbers h low few = let r = rising-few 0 1088 (interfaces_by links numbers) h (omega arith) (λ x m. omega arith) high in omega (arith, r)
  where
    high : (x : ℕ) → Has x (interfaces_by links numbers) → x ≤ 1088
    high x m = elim (split-one links (map (λ n. 64 + n) numbers) x m) [
      | inl a ↦ (let b = low x a in omega (arith, b))
      | inr a ↦ (let r = has-map (λ n. 64 + n) numbers x a in let b = few r.0 r.1 in let q = r.2 in omega (arith, b, q))
    ]
