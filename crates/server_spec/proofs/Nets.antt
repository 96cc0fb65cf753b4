-- Nets over trees by phase as nets on one tree, and the clients' sets in a change of tree.
use Rattle.std.proofs.Common.{◌≡◌, ℕ, ◌+◌, ◌≤◌, nat_le, nat_lt, Bool, true, false, cond, List, [], ◌∷◌, inl, inr, refl, sym, ap, subst, arith}
use Rattle.std.proofs.lemmas.Bool.Decides.{nat_tests}
use Rattle.base.specs.Sets.{Has}
use Rattle.filter_constraints.specs.Constraint.{ConstraintParts}
use Rattle.filter_text.specs.declared.semantics.Semantics.{Semantics}
use Rattle.filter_text.specs.declared.semantics.Semantics.TheVariants.{Advertisement, Subscription}
use Rattle.base_tree.specs.Graph.{servers_to}
use Rattle.base_tree.specs.Tree.{Topology}
use Rattle.law_routing.specs.Net.{Net}
use Rattle.law_routing.specs.Change.{client_sets}
use Rattle.law_phases.specs.Trees.{Tree, tree_after, net_at}
use Rattle.net_model.specs.Real.{real}
use Rattle.net_model.specs.Parts.{NetParts}
use Rattle.net_model.specs.Nets.{with_adverts, first_tree, later_trees, phased_net, topology_at}
use Rattle.net_model.specs.Sound.{IsSound}
use Rattle.net_model.proofs.SoundNets.{net-laws, tree-map, tree-count}
use Rattle.server_spec.specs.Control.{by_adverts}
use Rattle.server_spec.specs.Flow.{IsNetOn, IsUnionOfClients}

one-count : (t : Topology) (ts : List (ℕ × Topology)) (n : ℕ) → t.count ≡ n → ((x : ℕ × Topology) → Has x ts → x.1.count ≡ n) → (k : ℕ) → (tree_after t ts k).count ≡ n
one-count t [] n e all k = e
one-count t (x ∷ xs) n e all k = go (nat_le x.0 k) (one-count x.1 xs n (all x (inl refl)) (λ y h. all y (inr h)) k)
  where
    go : (b : Bool) → (tree_after x.1 xs k).count ≡ n → (cond b (tree_after x.1 xs k) t).count ≡ n
    go true ih = ih
    go false ih = e

same-adverts : (semantics : Semantics) → with_adverts semantics ≡ by_adverts semantics
same-adverts Subscription = refl
same-adverts Advertisement = refl

pub net-on : (net : NetParts) → IsSound net → (phase : ℕ) → IsNetOn net.semantics (topology_at net phase) (net_at real (phased_net net) phase)
net-on net good phase = record {
  adverts = same-adverts net.semantics;
  servers = ap servers_to (sym (tree-count net.trees good.trees phase));
  links = ap (λ (t : Tree). t.links) (sym (tree-map (first_tree net.trees) (later_trees net.trees) phase));
  counted = (net-laws net good).counted;
}

pub sets-on : (semantics : Semantics) (tree : Topology) (net old : Net real) (links : ℕ → List ℕ) (hop : ℕ → ℕ → ℕ) (sets : ℕ → ℕ → List (List ConstraintParts)) (given : ℕ → List (List ConstraintParts))
    → IsNetOn semantics tree net → IsUnionOfClients net sets given → IsUnionOfClients net (λ server. client_sets real old links hop (sets server)) given
sets-on semantics tree net old links hop sets given on union-of server here x = (to, from)
  where
    own : (c : ℕ) → Has c (net.clients server) → client_sets real old links hop (sets server) (64 + c) ≡ sets server (64 + c)
    own c lives =
        let one : 1 ≤ c = on.counted server c lives in
        let high : nat_lt 64 (64 + c) ≡ true = grind (arith, nat_tests, one) in
        ap (λ z. cond z (sets server (64 + c)) []) high

    to : Has x (given server) → (client : ℕ) × Has client (net.clients server) × Has x (client_sets real old links hop (sets server) (64 + client))
    to m = let r = (union-of server here x).0 m in (r.0, r.1, subst (Has x) (sym (own r.0 r.1)) r.2)

    from : (client : ℕ) × Has client (net.clients server) × Has x (client_sets real old links hop (sets server) (64 + client)) → Has x (given server)
    from (c, lives, m) = (union-of server here x).1 (c, lives, subst (Has x) (own c lives) m)
