-- Proves that the trees by phase are as a program counts them.
use Rattle.std.proofs.Common.{◌≡◌, ◌↔◌, IsTrue, nat_eq, ◌≤◌, ℕ, true, List, sym, subst, ◌∙◌, eqb-true, eq-eqb}
use Rattle.base.specs.Sets.{Has}
use Rattle.base_tree.specs.Tree.{IsServer}
use Rattle.base_tree.proofs.Servers.{server-in}
use Rattle.law_routing.proofs.Laws.{one-has}
use Rattle.law_phases.specs.Trees.{is_one_tree, net_at, trees_by}
use Rattle.net_model.specs.Real.{real}
use Rattle.net_model.specs.Parts.{NetParts, EntryParts}
use Rattle.net_model.specs.Nets.{phased_net, first_tree, later_trees, topology_at}
use Rattle.net_model.proofs.TreesByPhase.{trees-mapped}
use Rattle.thread_cell.specs.declared.held.ServerInHand.{ServerInHand}
use Rattle.thread_cell.specs.declared.held.Root.{Root}
use Rattle.thread_cell.specs.Cell.{IsKept}
use Rattle.thread_cell.proofs.Keeping.{replayed}
use Rattle.net_model.proofs.SoundNets.{tree-count}

-- as many trees have come
pub keeps-tree : (net : NetParts) (last phase a b : ℕ) → a ≡ trees_by (later_trees net.trees) last → b ≡ trees_by (later_trees net.trees) phase → IsTrue (nat_eq a b) ↔ (is_one_tree real (phased_net net) last phase ≡ true)
keeps-tree net last phase a b e f = (onto, from)
  where
    onto : IsTrue (nat_eq a b) → is_one_tree real (phased_net net) last phase ≡ true
    onto t =
        eq-eqb (trees_by (phased_net net).later last) (trees_by (phased_net net).later phase)
        (trees-mapped (later_trees net.trees) last ∙ sym e ∙ eqb-true a b t ∙ f ∙ sym (trees-mapped (later_trees net.trees) phase))

    from : is_one_tree real (phased_net net) last phase ≡ true → IsTrue (nat_eq a b)
    from one = eq-eqb a b (e ∙ sym (trees-mapped (later_trees net.trees) last) ∙ eqb-true (trees_by (phased_net net).later last) (trees_by (phased_net net).later phase) one ∙ trees-mapped (later_trees net.trees) phase ∙ sym f)

-- a cell's server is one of the tree of its phase
pub server-known : (net : NetParts) (root : Root) (journal : List EntryParts) (held : ServerInHand) → IsKept net root journal held → IsServer (topology_at net root.phase) root.server
server-known net root journal held kept =
    let r = replayed net root journal held kept in
    let s = server-in (first_tree net.trees).count root.server (subst (λ n. Has n (net_at real (phased_net net) root.phase).servers) kept.number (one-has held.core.server (net_at real (phased_net net) root.phase).servers r.stands.state.among)) in
    subst (λ n. (1 ≤ root.server) × (root.server ≤ n)) (sym (tree-count net.trees kept.sound.trees root.phase)) s
