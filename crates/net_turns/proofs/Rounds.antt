-- Rounds of receptions and table updates: their turns server by server, and that there are more rounds than a run has entries.
use Rattle.std.proofs.Common.{◌≡◌, ℕ, ◌+◌, ◌-◌, ◌<◌, ◌≤◌, nat_le, Bool, true, false, cond, List, [], ◌∷◌, ◌++◌, inl, inr, length, drop, refl, sym, ap, ◌∙◌, arith}
use Rattle.std.proofs.lemmas.List.{length-map}
use Rattle.base.specs.Sets.{Has}
use Rattle.base_tree.specs.Tree.{Topology, links_of}
use Rattle.law_machine.specs.Machine.{Did}
use Rattle.law_routing.specs.Step.{TableUpdate}
use Rattle.law_routing.specs.Walk.{round_at, enough_rounds}
use Rattle.law_phases.specs.Trees.{Tree, tree_after, net_at, tree_at}
use Rattle.law_phases.specs.Runs.{PhasedRun}
use Rattle.law_phases.specs.Bounds.{KeepsBounds}
use Rattle.law_phases.proofs.Counted.{bounded}
use Rattle.net_model.specs.Real.{real, real_laws}
use Rattle.net_model.specs.Parts.{NetParts, EntryParts}
use Rattle.net_model.specs.Meaning.{entry_of, journal_of}
use Rattle.net_model.specs.Nets.{phased_net, first_tree, later_trees, servers_in, topology_at}
use Rattle.net_model.specs.Sound.{IsSound}
use Rattle.net_model.proofs.SoundNets.{net-laws, tree-map, count-at}
use Rattle.net_turns.specs.Network.{moment_by, IsLegal}
use Rattle.net_turns.specs.Trying.{receptions}
use Rattle.net_turns.proofs.Ranges.{servers-next, servers-past}

-- all trees have the servers of the first
count-after : (count : ℕ) (tree : Topology) (later : List (ℕ × Topology)) → tree.count ≡ count → ((next : ℕ × Topology) → Has next later → next.1.count ≡ count) → (phase : ℕ) → (tree_after tree later phase).count ≡ count
count-after count tree [] e same phase = e
count-after count tree (next ∷ later) e same phase = go (nat_le next.0 phase) (count-after count next.1 later (same next (inl refl)) (λ n h. same n (inr h)) phase)
  where
    go : (b : Bool) → (tree_after next.1 later phase).count ≡ count → (cond b (tree_after next.1 later phase) tree).count ≡ count
    go true x = x
    go false x = e

-- the turns of a round from a server on
pub round-left : (net : NetParts) → IsSound net → (phase : ℕ) (tree : Topology) (server : ℕ) → tree ≡ topology_at net phase → 1 ≤ server → server ≤ tree.count
    → round_at real (net_at real (phased_net net) phase) (drop (server - 1) (servers_in net))
    ≡ receptions server (links_of tree server) ++ ((server, Did TableUpdate) ∷ round_at real (net_at real (phased_net net) phase) (drop (server + 1 - 1) (servers_in net)))
round-left net sound phase tree server e some most =
    let count : tree.count ≡ (first_tree net.trees).count = ap (λ (z : Topology). z.count) e ∙ count-at net sound phase in
    let links : (tree_at real (phased_net net) phase).links server ≡ links_of tree server = sym (ap (λ (z : Topology). links_of z server) e ∙ ap (λ (z : Tree). z.links server) (tree-map (first_tree net.trees) (later_trees net.trees) phase)) in
    ap (round_at real (net_at real (phased_net net) phase)) (servers-next (first_tree net.trees).count server some (omega (arith, most, count)))
    ∙ ap (λ z. receptions server z ++ ((server, Did TableUpdate) ∷ round_at real (net_at real (phased_net net) phase) (drop (server + 1 - 1) (servers_in net)))) links

-- a legal run has fewer entries than there may be rounds
pub fewer-entries : (net : NetParts) (journal : List EntryParts) → IsSound net → IsLegal net journal → (phase : ℕ) → length journal < enough_rounds real (net_at real (phased_net net) phase)
fewer-entries net journal sound legal phase = omega (arith, bounds.within, length-map journal entry_of)
  where
    run : PhasedRun real
    run = record {
      net = phased_net net;
      laws = net-laws net sound;
      journal = journal_of journal;
      end = (moment_by net journal).state;
      last = (moment_by net journal).phase;
      legal = legal;
    }

    bounds : KeepsBounds real (record { net = phased_net net; laws = net-laws net sound; journal = journal_of journal; end = (moment_by net journal).state; last = (moment_by net journal).phase; legal = legal })
    bounds = bounded real real_laws run

-- behind the last server nothing is left of a round
pub round-past : (net : NetParts) → IsSound net → (phase : ℕ) (tree : Topology) (server : ℕ) → tree ≡ topology_at net phase → tree.count ≤ server
    → round_at real (net_at real (phased_net net) phase) (drop server (servers_in net)) ≡ []
round-past net sound phase tree server e past =
    ap (round_at real (net_at real (phased_net net) phase)) (servers-past (first_tree net.trees).count server (omega (arith, past, ap (λ (z : Topology). z.count) e, count-at net sound phase)))
