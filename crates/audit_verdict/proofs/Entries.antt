-- The entries of a legal run of a document's net, as a trace shows them.
use Rattle.std.proofs.Common.{◌≡◌, ℕ, zero, suc, ◌==◌, ◌<◌, ◌≤◌, ◌^◌, ◌&&◌, Bool, true, false, cond, inl, inr, List, [], ◌∷◌, ◌++◌, length, map, Some, refl, sym, ap, subst, ◌∙◌, arith, eqb-true, nat_le}
use Rattle.std.specs.Prelude.{◌||◌, codes, nat_eq, slice_get}
use Rattle.std.specs.List.{list_any}
use Rattle.std.proofs.lemmas.List.{length-map}
use Rattle.base.specs.Sets.{Has}
use Rattle.base.proofs.Roots.{filter-Has}
use Rattle.base_tree.specs.Tree.{Topology, TreeLaws, links_of, servers_of}
use Rattle.base_tree.specs.Graph.{servers_to}
use Rattle.base_tree.proofs.Servers.{server-in}
use Rattle.law_phases.specs.Trees.{Tree, tree_after, tree_at}
use Rattle.law_phases.specs.Moments.{Moment, opening_moment}
use Rattle.law_phases.specs.Runs.{IsRunTo, PhasedRun}
use Rattle.net_model.specs.Real.{real}
use Rattle.net_model.specs.declared.turn.Act.{Act}
use Rattle.net_model.specs.declared.turn.Act.TheVariants as acts
use Rattle.net_model.specs.declared.turn.Turn.TheVariants as turns
use Rattle.net_model.specs.Parts.{ClientParts, NetParts, EntryParts}
use Rattle.net_model.specs.Meaning.{act_of, entry_of, journal_of}
use Rattle.net_model.specs.Nets.{client_name, clients_of, first_tree, home_in, home_of, later_trees, name_in, phased_net, phased_tree, tree_of}
use Rattle.net_model.specs.Sound.{HasTrees, IsSound}
use Rattle.net_model.specs.Limits.{StaysLow}
use Rattle.net_model.proofs.Counted.{stays-low}
use Rattle.net_model.proofs.SoundNets.{net-laws}
use Rattle.output_report.specs.Trace.{act_text}
use Rattle.audit_claim.specs.Trace.{act_turn, are_joined, is_server, joins}
use Rattle.audit_claim.proofs.Spelled.{AreApart, command-read, take-read, version-read}
use Rattle.audit_verdict.proofs.Acts.{IsActOf, IsThere, all-there}
use Rattle.net_turns.specs.Retold.{turn_by, turn_of_entry}
use Rattle.base.proofs.Numbers.{le-nat_le, nat_eq-self}
use Rattle.base.proofs.Sets.{any-from, map-has}

-- Tests.

-- A client that lives at a server.

pub record LivesAt (net : NetParts) (server client : ℕ) : Type 0 where
  pub place : ℕ
  pub number : client ≡ suc place
  pub own : ClientParts
  pub there : slice_get net.clients place ≡ Some own
  pub home : own.home ≡ server

some-place : (cs : List ClientParts) (k : ℕ) → k < length cs → (c : ClientParts) × (slice_get cs k ≡ Some c)
some-place [] k l = absurd (omega (arith, l))
some-place (c ∷ cs) zero l = (c, refl)
some-place (c ∷ cs) (suc k) l = some-place cs k (omega (arith, l))

pub lives-at : (net : NetParts) (server client : ℕ) → Has client (clients_of net server) → LivesAt net server client
lives-at net server client h = go client (filter-Has (λ c. home_of net c == server) client (servers_to (length net.clients)) h)
  where
    go : (c : ℕ) → Has c (servers_to (length net.clients)) × ((home_of net c == server) ≡ true) → LivesAt net server c
    go zero x = absurd (omega (arith, (server-in (length net.clients) zero x.0).0))
    go (suc k) x =
        let there = some-place net.clients k (omega (arith, (server-in (length net.clients) (suc k) x.0).1)) in
        record { place = k; number = refl; own = there.0; there = there.1; home = sym (ap home_in there.1) ∙ eqb-true (home_of net (suc k)) server x.1 }

-- A neighbour in a tree in force.

tree-of : (t : ℕ × Topology) (ts : List (ℕ × Topology)) (phase : ℕ) → (u : ℕ × Topology) × Has u (t ∷ ts) × (tree_after (tree_of t.1) (map phased_tree ts) phase ≡ tree_of u.1)
tree-of t [] phase = (t, inl refl, refl)
tree-of t (x ∷ ts) phase = go (nat_le x.0 phase) (tree-of x ts phase)
  where
    go : (b : Bool) → ((u : ℕ × Topology) × Has u (x ∷ ts) × (tree_after (tree_of x.1) (map phased_tree ts) phase ≡ tree_of u.1))
        → (u : ℕ × Topology) × Has u (t ∷ x ∷ ts) × (cond b (tree_after (tree_of x.1) (map phased_tree ts) phase) (tree_of t.1) ≡ tree_of u.1)
    go true (u, h, e) = (u, inr h, e)
    go false more = (t, inl refl, refl)

-- a tree of a sound net, and a link of it
pub record Joins (net : NetParts) (server from : ℕ) : Type 0 where
  pub tree : ℕ × Topology
  pub there : Has tree net.trees
  pub near : Has from (links_of tree.1 server)

pub joins-there : (net : NetParts) → IsSound net → (server from phase : ℕ) → Has from ((tree_at real (phased_net net) phase).links server) → Joins net server from
joins-there net sound server from phase h = go net.trees sound.trees refl
  where
    go : (ts : List (ℕ × Topology)) → HasTrees ts → ts ≡ net.trees → Joins net server from
    go [] k e = absurd k
    go (t ∷ ts) k e =
        let u = tree-of t ts phase in
        let at : tree_at real (phased_net net) phase ≡ tree_of u.0.1 = (λ i. tree_after (tree_of (first_tree (sym e i))) (map phased_tree (later_trees (sym e i))) phase) ∙ u.2 in
        record { tree = u.0; there = subst (Has u.0) e u.1; near = subst (λ (z : Tree). Has from (z.links server)) at h }

tree-sound : (net : NetParts) → IsSound net → (t : ℕ × Topology) → Has t net.trees → TreeLaws t.1 × (t.1.count ≡ (first_tree net.trees).count)
tree-sound net sound t h = go net.trees sound.trees h
  where
    go : (ts : List (ℕ × Topology)) → HasTrees ts → Has t ts → TreeLaws t.1 × (t.1.count ≡ (first_tree ts).count)
    go [] k m = absurd k
    go (x ∷ ts) k (inl e) = (subst (λ (z : ℕ × Topology). TreeLaws z.1) (sym e) k.tree, ap (λ (z : ℕ × Topology). z.1.count) e)
    go (x ∷ ts) k (inr m) = (k.trees t m, k.same t m)

first-most : (net : NetParts) → IsSound net → (first_tree net.trees).count ≤ 64
first-most net sound = go net.trees sound.trees
  where
    go : (ts : List (ℕ × Topology)) → HasTrees ts → (first_tree ts).count ≤ 64
    go [] k = absurd k
    go (x ∷ ts) k = k.tree.most

both-le : (a b n : ℕ) → 1 ≤ a → a ≤ n → (nat_le 1 a && nat_le a n) ≡ true
both-le a b n l m = rw (le-nat_le 1 a l, le-nat_le a n m) refl

server-there : (net : NetParts) (server : ℕ) → Has server (servers_to (first_tree net.trees).count) → is_server net server ≡ true
server-there net server h = let r = server-in (first_tree net.trees).count server h in both-le server 0 (first_tree net.trees).count r.0 r.1

joined-there : (net : NetParts) → IsSound net → (server from : ℕ) → Joins net server from → (are_joined net server from ≡ true) × Has from (servers_to (first_tree net.trees).count)
joined-there net sound server from j =
    let s = tree-sound net sound j.tree j.there in
    let here : Has server (servers_of j.tree.1) = s.0.hops.linked server from j.near in
    let there : Has from (servers_of j.tree.1) = s.0.hops.linked from server (s.0.hops.both server from j.near) in
    let most : nat_le server j.tree.1.count ≡ true = le-nat_le server j.tree.1.count (server-in j.tree.1.count server here).1 in
    let near : list_any (λ near. nat_eq near from) (links_of j.tree.1 server) ≡ true = any-from (λ near. nat_eq near from) (links_of j.tree.1 server) from j.near (nat_eq-self from) in
    let joined : joins server from j.tree ≡ true = rw (most, near) refl in
    (any-from (joins server from) net.trees j.tree j.there joined, subst (λ n. Has from (servers_to n)) s.1 there)

-- What a trace says of an entry is read as its turn.

pub record IsReadable (net : NetParts) (e : EntryParts) : Type 0 where
  pub low : e.stamp < 2 ^ 62
  pub small : e.server < 10 ^ 19
  pub server : is_server net e.server ≡ true
  pub act : act_turn net e.server (act_text net.clients e.act) ≡ Some (turn_of_entry e)

act-read : (net : NetParts) → IsSound net → AreApart net.clients → (server : ℕ) (act : Act) → IsActOf real (phased_net net) server (act_of act) → act_turn net server (act_text net.clients act) ≡ Some (turn_by server act)
unfolding act_text
act-read net sound apart server (acts.Command client) h =
    let l = lives-at net server client h in
    let name : client_name net.clients client ≡ l.own.name = ap (client_name net.clients) l.number ∙ ap name_in l.there in
    ap (λ z. act_turn net server (codes "command " ++ z)) name
    ∙ (command-read net server l.place l.own apart l.there l.home ∙ ap (λ z. Some (turns.Command z)) (sym l.number))
act-read net sound apart server (acts.Receive from) h =
    let j = joined-there net sound server from (joins-there net sound server from h.0 h.1) in
    take-read net server from (small from (server-in (first_tree net.trees).count from j.1).1) (server-there net from j.1) j.0
  where
    small : (x : ℕ) → x ≤ (first_tree net.trees).count → x < 10 ^ 19
    small x l = omega (arith, l, first-most net sound)
act-read net sound apart server acts.TableUpdate h = version-read net server

pub readable-by : (net : NetParts) → IsSound net → AreApart net.clients → (e : EntryParts) → IsThere real (phased_net net) (entry_of e) → e.stamp < 1000000000 → IsReadable net e
readable-by net sound apart e at low =
    let within = server-in (first_tree net.trees).count e.server at.server in
    record {
      low = omega (arith, low);
      small = omega (arith, within.1, first-most net sound);
      server = server-there net e.server at.server;
      act = act-read net sound apart e.server e.act at.act;
    }

-- a legal run from the opening
module _ (net : NetParts) (sound : IsSound net) (journal : List EntryParts) (end : Moment real (phased_net net)) (legal : IsRunTo real (phased_net net) (opening_moment real (phased_net net)) (journal_of journal) end) where
  run : PhasedRun real
  run = record {
    net = phased_net net;
    laws = net-laws net sound;
    journal = journal_of journal;
    end = end.state;
    last = end.phase;
    legal = legal;
  }

  low : StaysLow run
  unfolding run
  low = stays-low net sound run refl

  pub few : length journal < 1000000000
  unfolding run
  few = omega (arith, low.entries, length-map journal entry_of)

  pub there : (e : EntryParts) → Has e journal → IsThere real (phased_net net) (entry_of e)
  there e h = all-there real (phased_net net) (opening_moment real (phased_net net)).state 0 (journal_of journal) end.state end.phase legal (entry_of e) (map-has entry_of journal e h)

  pub readable : AreApart net.clients → (e : EntryParts) → Has e journal → IsReadable net e
  unfolding run
  readable apart e h = readable-by net sound apart e (there e h) (omega (arith, low.stamps (entry_of e) (map-has entry_of journal e h)))
