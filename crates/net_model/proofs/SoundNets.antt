-- A sound net keeps what is asked of a net over trees by phase.
use Rattle.std.proofs.Common.{◌≡◌, ℕ, zero, suc, ◌<◌, ◌≤◌, ◌==◌, max, nat_le, Bool, true, false, cond, List, [], ◌∷◌, inl, inr, length, map, Option, Some, None, refl, sym, subst, arith, eqb-true}
use Rattle.std.specs.List.{range_with_len}
use Rattle.base.specs.Sets.{Has}
use Rattle.base.proofs.Roots.{filter-Has}
use Rattle.base_tree.specs.Graph.{servers_to}
use Rattle.base_tree.specs.Tree.{Topology, TreeLaws, servers_of}
use Rattle.base_tree.proofs.Servers.{server-in, in-server}
use Rattle.law_routing.specs.Net.{PhasedCommand, NeverFalls}
use Rattle.law_phases.specs.Trees.{Tree, tree_after, RiseFrom, JoinsServers, PhasedNetLaws}
use Rattle.net_model.specs.Real.{real}
use Rattle.filter_text.specs.declared.command.Command.{Command}
use Rattle.net_model.specs.Parts.{ClientParts, NetParts}
use Rattle.net_model.specs.Meaning.{phased_command}
use Rattle.net_model.specs.Nets.{tree_of, phased_tree, first_tree, later_trees, client_at, home_in, script_in, most_barriers, phases_of, home_of, script_of, phased_net}
use Rattle.net_model.specs.Sound.{IsAmong, HasTrees, IsSound}
use Rattle.net_model.proofs.Places.{distinct-range, distinct-filter}
use Rattle.base.proofs.Sets.{get-has, has-map}
use Rattle.net_model.specs.Nets.{topology_at}

-- a tree joins its servers, whose numbers are at most 64
joins : (t : Topology) → TreeLaws t → JoinsServers (servers_of t) (tree_of t)
joins t laws = record {
  hops = laws.hops;
  small = λ server link h. (let i = server-in t.count link (laws.hops.linked link server (laws.hops.both server link h)) in omega (arith, i.1, laws.most));
}

first-joins : (trees : List (ℕ × Topology)) → HasTrees trees → JoinsServers (servers_of (first_tree trees)) (tree_of (first_tree trees))
first-joins [] h = absurd h
first-joins (t ∷ ts) h = joins t.1 h.tree

later-joins : (trees : List (ℕ × Topology)) → HasTrees trees → (next : ℕ × Tree) → Has next (map phased_tree (later_trees trees)) → JoinsServers (servers_of (first_tree trees)) next.1
later-joins [] h next m = absurd h
later-joins (t ∷ ts) h next m =
    let x = has-map phased_tree ts next m in
    subst (λ (z : ℕ × Tree). JoinsServers (servers_of t.1) z.1) (sym x.2) (subst (λ n. JoinsServers (servers_to n) (tree_of x.0.1)) (h.same x.0 x.1) (joins x.0.1 (h.trees x.0 x.1)))

rise-map : (phase : ℕ) (ts : List (ℕ × Topology)) → RiseFrom phase ts → RiseFrom phase (map phased_tree ts)
rise-map phase [] r = tt
rise-map phase (t ∷ ts) r = (r.0, rise-map t.0 ts r.1)

rises : (trees : List (ℕ × Topology)) → HasTrees trees → RiseFrom 0 (map phased_tree (later_trees trees))
rises [] h = absurd h
rises (t ∷ ts) h = rise-map 0 ts h.rising

pub some-server : (trees : List (ℕ × Topology)) → HasTrees trees → 1 ≤ (first_tree trees).count
some-server [] h = absurd h
some-server (t ∷ ts) h = h.tree.some

pub few-servers : (trees : List (ℕ × Topology)) → HasTrees trees → (first_tree trees).count ≤ 64
few-servers [] h = absurd h
few-servers (t ∷ ts) h = h.tree.most

client-has : (clients : List ClientParts) (c : ℕ) (client : ClientParts) → client_at clients c ≡ Some client → Has client clients
client-has clients zero client e = absurd cc
client-has clients (suc k) client e = get-has clients k client e

home-among : (count : ℕ) (o : Option ClientParts) → 1 ≤ count → ((client : ClientParts) → o ≡ Some client → IsAmong count client.home) → IsAmong count (home_in o)
home-among count None some all = (omega arith, some)
home-among count (Some client) some all = all client refl

script-falls : (o : Option ClientParts) → ((client : ClientParts) → o ≡ Some client → NeverFalls real (map phased_command client.script)) → NeverFalls real (script_in o)
script-falls None all = tt
script-falls (Some client) all = all client refl

most-has : (clients : List ClientParts) (client : ClientParts) → Has client clients → client.barriers ≤ most_barriers clients
most-has [] client h = absurd h
most-has (x ∷ xs) client (inl e) = subst (λ (z : ClientParts). z.barriers ≤ max x.barriers (most_barriers xs)) (sym e) (grind arith)
most-has (x ∷ xs) client (inr h) = grind (arith, most-has xs client h)

in-phase : (o : Option ClientParts) (most : ℕ) → ((client : ClientParts) → o ≡ Some client → (client.barriers ≤ most) × ((step : ℕ × Command) → Has step client.script → step.0 ≤ client.barriers))
    → (command : PhasedCommand real) → Has command (script_in o) → command.phase < suc most
in-phase None most all command h = absurd h
in-phase (Some client) most all command h =
    let x = has-map phased_command client.script command h in
    let w = all client refl in
    subst (λ (z : PhasedCommand real). z.phase < suc most) (sym x.2) (omega (arith, w.1 x.0 x.1, w.0))

pub net-laws : (net : NetParts) → IsSound net → PhasedNetLaws real (phased_net net)
net-laws net good = record {
  first = first-joins net.trees good.trees;
  later = later-joins net.trees good.trees;
  rising = rises net.trees good.trees;
  counted = λ server client h. (server-in (length net.clients) client (filter-Has (λ c. home_of net c == server) client (range_with_len 1 (length net.clients)) h).0).0;
  housed = λ client. in-server (first_tree net.trees).count (home_of net client) (home-among (first_tree net.trees).count (client_at net.clients client) (some-server net.trees good.trees) (λ x e. (good.clients x (client-has net.clients client x e)).home));
  lives = λ server client h. eqb-true (home_of net client) server (filter-Has (λ c. home_of net c == server) client (range_with_len 1 (length net.clients)) h).1;
  single = λ server. distinct-filter (λ c. home_of net c == server) (range_with_len 1 (length net.clients)) (distinct-range 1 (length net.clients));
  phased = λ client. script-falls (client_at net.clients client) (λ x e. (good.clients x (client-has net.clients client x e)).never_falls);
}

-- each command is of one of the net's phases
pub phases-low : (net : NetParts) → IsSound net → (client : ℕ) (command : PhasedCommand real) → Has command (script_of net client) → command.phase < phases_of net
phases-low net good client =
    in-phase (client_at net.clients client) (most_barriers net.clients) (λ x e. (let h = client-has net.clients client x e in (most-has net.clients x h, (good.clients x h).within)))

-- the tree of a phase, by its neighbours and next servers
pub tree-map : (t : Topology) (ts : List (ℕ × Topology)) (k : ℕ) → tree_of (tree_after t ts k) ≡ tree_after (tree_of t) (map phased_tree ts) k
tree-map t [] k = refl
tree-map t (x ∷ ts) k = go (nat_le x.0 k) (tree-map x.1 ts k)
  where
    go : (b : Bool) → tree_of (tree_after x.1 ts k) ≡ tree_after (tree_of x.1) (map phased_tree ts) k → tree_of (cond b (tree_after x.1 ts k) t) ≡ cond b (tree_after (tree_of x.1) (map phased_tree ts) k) (tree_of t)
    go true e = e
    go false e = refl

pub count-after : (t : Topology) (ts : List (ℕ × Topology)) (k : ℕ) (n : ℕ) → t.count ≡ n → ((x : ℕ × Topology) → Has x ts → x.1.count ≡ n) → (tree_after t ts k).count ≡ n
count-after t [] k n e all = e
count-after t (x ∷ ts) k n e all = go (nat_le x.0 k) (count-after x.1 ts k n (all x (inl refl)) (λ y h. all y (inr h)))
  where
    go : (b : Bool) → (tree_after x.1 ts k).count ≡ n → (cond b (tree_after x.1 ts k) t).count ≡ n
    go true f = f
    go false f = e

pub tree-count : (trees : List (ℕ × Topology)) → HasTrees trees → (k : ℕ) → (tree_after (first_tree trees) (later_trees trees) k).count ≡ (first_tree trees).count
tree-count [] h k = absurd h
tree-count (t ∷ ts) h k = count-after t.1 ts k t.1.count refl h.same

pub count-at : (net : NetParts) → IsSound net → (phase : ℕ) → (topology_at net phase).count ≡ (first_tree net.trees).count
count-at net sound phase = tree-count net.trees sound.trees phase
