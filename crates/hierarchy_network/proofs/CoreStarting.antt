-- A server of a hierarchy before its first step.
use Rattle.std.proofs.Common.{◌≡◌, ℕ, suc, ◌+◌, ◌≤◌, ◌==◌, nat_lt, not, ◌&&◌, Bool, true, false, cond, List, [], ◌∷◌, map, refl, sym, ap, subst, ◌∙◌, arith}
use Rattle.std.proofs.lemmas.Bool.Decides.{nat_tests}
use Rattle.base.specs.Sets.{Has, IsRising}
use Rattle.base_tree.specs.Tree.{links_of, hop_of}
use Rattle.base_tree.proofs.Servers.{server-in, in-server}
use Rattle.law_routing.specs.Routing.{empty_server}
use Rattle.law_routing.proofs.Listing.{has-one}
use Rattle.law_phases.specs.Trees.{net_at}
use Rattle.law_phases.proofs.Nets.{net-laws as each-net}
use Rattle.net_model.specs.Real.{real}
use Rattle.filter_text.specs.declared.semantics.Semantics.TheVariants.{Subscription}
use Rattle.net_model.specs.Parts.{NetParts}
use Rattle.net_model.specs.Meaning.{phased_command}
use Rattle.net_model.specs.Nets.{first_tree, later_trees, topology_at, script_of, servers_in, phased_net}
use Rattle.net_model.specs.Sound.{IsSound}
use Rattle.net_model.proofs.SoundNets.{net-laws, tree-map, some-server}
use Rattle.server_spec.specs.Session.{SessionParts}
use Rattle.server_spec.specs.Turn.{filter_set_at}
use Rattle.law_hierarchy.specs.Masters.{is_master}
use Rattle.server_core.specs.Clients.{bare, client_numbers}
use Rattle.server_core.specs.Core.{CoreParts, core_parts, RepresentsServer}
use Rattle.server_core.specs.Kept.{IsCore}
use Rattle.server_core.specs.Ledger.{LedgerParts}
use Rattle.server_core.specs.Start.{sessions_of}
use Rattle.server_core.proofs.Starting.{IsOne, its-client, bare-same, clients-are, interfaces_by, ledger_parts, first_control, front-has, back-has, small}
use Rattle.hierarchy_network.specs.Core.{hierarchy_parts, unsteered, RepresentsHierarchyServer}
use Rattle.hierarchy_network.specs.CoreKept.{plain, plain_core, IsHierarchyKept}
use Rattle.base.proofs.Sets.{has-map, map-has}

abbrev pub first_ledger : NetParts → List ℕ → List ℕ → LedgerParts
first_ledger net interfaces links = ledger_parts net interfaces (first_control Subscription links) [] []

is-first : (net : NetParts) (interfaces links : List ℕ) (ledger : LedgerParts) → ledger.net ≡ net → ledger.interfaces ≡ interfaces → ledger.control ≡ first_control Subscription links → ledger.installed ≡ [] → ledger.pending ≡ []
    → ledger ≡ first_ledger net interfaces links
is-first net interfaces links ledger n i c p s =
    ap (λ z. ledger_parts z ledger.interfaces ledger.control ledger.installed ledger.pending) n
    ∙ (ap (λ z. ledger_parts net z ledger.control ledger.installed ledger.pending) i
    ∙ (ap (λ z. ledger_parts net interfaces z ledger.installed ledger.pending) c
    ∙ (ap (λ z. ledger_parts net interfaces (first_control Subscription links) z ledger.pending) p
    ∙ ap (λ z. ledger_parts net interfaces (first_control Subscription links) [] z) s)))

-- server 1 is one
pub top-among : (net : NetParts) → IsSound net → Has 1 (servers_in net)
top-among net sound = in-server (first_tree net.trees).count 1 (omega arith, some-server net.trees sound.trees)

module _ (net : NetParts) (sound : IsSound net) (server : ℕ) (links : List ℕ) (linked : links ≡ links_of (topology_at net 0) server) where
  same-links : (net_at real (phased_net net) 0).links server ≡ links
  same-links = ap (λ t. t.links server) (sym (tree-map (first_tree net.trees) (later_trees net.trees) 0)) ∙ sym linked

  same-hop : (net_at real (phased_net net) 0).hop server 1 ≡ hop_of (topology_at net 0) server 1
  same-hop = ap (λ t. t.hop server 1) (sym (tree-map (first_tree net.trees) (later_trees net.trees) 0))

  -- neighbours are numbered from 1
  counted : (link : ℕ) → Has link links → 1 ≤ link
  counted link h =
      let laws = each-net real (phased_net net) (net-laws net sound) 0 in
      (server-in (first_tree net.trees).count link (laws.tree.linked link server (laws.tree.both server link (subst (Has link) (sym same-links) h)))).0

  abbrev pub numbers : List ℕ
  numbers = client_numbers (sessions_of net.semantics server 1 net.clients)

  abbrev pub first_core : CoreParts
  first_core = core_parts server (first_ledger net (interfaces_by links numbers) links) (map bare (sessions_of net.semantics server 1 net.clients)) 0

  pub is-first-core : (ledger : LedgerParts) (clients : List SessionParts) → ledger.net ≡ net → ledger.interfaces ≡ interfaces_by links numbers → ledger.control ≡ first_control Subscription links
      → ledger.installed ≡ [] → ledger.pending ≡ [] → clients ≡ sessions_of net.semantics server 1 net.clients → core_parts server ledger (map bare clients) 0 ≡ first_core
  is-first-core ledger clients n i c p s e =
      ap (λ z. core_parts server z (map bare clients) 0) (is-first net (interfaces_by links numbers) links ledger n i c p s)
      ∙ ap (λ z. core_parts server (first_ledger net (interfaces_by links numbers) links) (map bare z) 0) e

  its : (s : SessionParts) → Has s first_core.clients → IsOne net.semantics 1 net.clients s
  its s m = its-client net.semantics server 1 net.clients s (subst (λ z. Has s z) (bare-same net.semantics server 1 net.clients) m)

  plain-its : (s : SessionParts) → Has s (plain_core first_core).clients → (t : SessionParts) × Has t first_core.clients × (s ≡ plain t)
  plain-its s m = has-map plain first_core.clients s m

  pub is-core : IsRising nat_lt links → IsCore (plain_core first_core)
  is-core rising = record {
    clock_low = omega arith;
    links_rise = rising;
    links_small = small net sound server links linked;
    one_semantics = λ s m. ap (λ (z : SessionParts). z.semantics) (plain-its s m).2;
    ids = λ s m. let p = plain-its s m in let r = its p.0 p.1 in let few = sound.few in let c = ap (λ (z : SessionParts). z.client) p.2 in (omega (arith, r.4, c), omega (arith, r.4, r.5, few, c));
    own_filters = λ s m. let p = plain-its s m in sym (ap (λ (z : SessionParts). filter_set_at z z.taken) p.2 ∙ ap (λ (z : SessionParts). filter_set_at z z.taken) (its p.0 p.1).3);
    own_adverts = λ s m t. absurd cc;
  }

  pub is-kept : IsRising nat_lt links → IsHierarchyKept (interfaces_by links numbers) net first_core
  is-kept rising = record {
    kept = is-core rising;
    plainly = refl;
    sessions = λ s m. ap (λ (z : SessionParts). z.semantics) (its s m).3;
    of_net = refl;
    whole = ap (λ z. interfaces_by links (client_numbers z)) (sym (bare-same net.semantics server 1 net.clients));
    linked = λ l h. front-has links (map (λ n. 64 + n) numbers) l h;
    reached = λ s h.
        let there = subst (λ z. Has s z) (bare-same net.semantics server 1 net.clients) h in
        back-has links (map (λ n. 64 + n) numbers) (64 + s.client) (map-has (λ n. 64 + n) numbers s.client (map-has (λ (z : SessionParts). z.client) (sessions_of net.semantics server 1 net.clients) s there));
  }

  scripts : (s : SessionParts) → IsOne net.semantics 1 net.clients s → script_of net s.client ≡ map phased_command s.script
  scripts s (k, client, at, is, number, l) =
      let same : s.client ≡ suc k = omega (arith, number) in
      let script : client.script ≡ s.script = sym (ap (λ (z : SessionParts). z.script) is) in
      ap (script_of net) same ∙ rw at refl ∙ ap (map phased_command) script

  stands : Has server (servers_in net) → RepresentsServer (unsteered (net_at real (phased_net net) 0)) first_core (empty_server real (net_at real (phased_net net) 0))
  stands m = record {
    among = has-one server (servers_in net) m;
    control = record {
      adverts = refl;
      links = same-links;
      subs_held = λ i h. refl;
      advs_held = λ i h. refl;
      subs_apart = λ i h. refl;
      advs_apart = λ i h. refl;
    };
    installed = λ i h. refl;
    installed_apart = λ i h. refl;
    pending = refl;
    clients = clients-are net server ∙ ap client_numbers (sym (bare-same net.semantics server 1 net.clients));
    scripts = λ s h. scripts s (its s h);
    taken = λ s h. sym (ap (λ (z : SessionParts). z.taken) (its s h).3);
    inboxes = λ s h. ap (λ (z : SessionParts). z.inbox) (its s h).3;
  }

  master-is : (link : ℕ) → Has link links → is_master real (net_at real (phased_net net) 0) server link ≡ (link == cond (server == 1) 0 (hop_of (topology_at net 0) server 1))
  master-is link h = go (server == 1)
    where
      go : (b : Bool) → (not b && (link == (net_at real (phased_net net) 0).hop server 1)) ≡ (link == cond b 0 (hop_of (topology_at net 0) server 1))
      go true = let low = counted link h in grind (arith, nat_tests, low)
      go false = ap (λ z. link == z) same-hop

  pub is-state : Has server (servers_in net) → (master : ℕ) → master ≡ cond (server == 1) 0 (hop_of (topology_at net 0) server 1)
      → RepresentsHierarchyServer (net_at real (phased_net net) 0) (hierarchy_parts first_core master) (empty_server real (net_at real (phased_net net) 0))
  is-state m master e = record {
    stands = stands m;
    refuses = refl;
    masters = λ link h. master-is link h ∙ ap (λ z. link == z) (sym e);
  }
