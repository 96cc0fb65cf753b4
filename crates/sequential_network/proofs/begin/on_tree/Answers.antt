use Rattle.std.proofs.Common.{◌≡◌, ℕ, suc, map, length, slice_get, Some, Vec, Global, sym, ap, subst, ◌∙◌}
use Rattle.base.specs.Sets.{Has}
use Rattle.base_tree.specs.Tree.{Topology, links_of}
use Rattle.net_model.specs.Nets.{topology_at}
use Rattle.server_spec.specs.declared.control.HeldLink.{HeldLink}
use Rattle.server_spec.specs.Flow.{IsFlow}
use Rattle.server_control.specs.Held.{NetHeld, held_in, AreHeldIn}
use Rattle.server_flow.specs.Homes.{homes_in, AreHomesIn}
use Rattle.sequential_network.proofs.Beginning.{homes-of-net}
use Rattle.sequential_network.proofs.Setting.{if-all, held-links, all-set}
use Rattle.sequential_network.proofs.begin.on_tree.Goals as goal
use Rattle.net_model.proofs.SoundNets.{tree-count}

pub flow-requires-clause-homes : goal.flow-requires-clause-homes
flow-requires-clause-homes c =
    let homes : length c.deref.result.now ≡ length c.args.places.now = ap length c.deref.ensures.value ∙ c.in_ok-homes.ensures.long in
    let tree : c.tree-tree.result.now ≡ topology_at c.args.tables.now c.args.phase = c.tree-tree.ensures ∙ ap (λ n. topology_at n c.args.phase) c.net.ensures in
    homes ∙ c.requires.state.2.all ∙ sym (ap (λ (t : Topology). t.count) tree ∙ tree-count c.args.tables.now.trees c.requires.sound.trees c.args.phase)

pub flow-requires-clause-net : goal.flow-requires-clause-net
flow-requires-clause-net c =
    subst (AreHomesIn c.args.tables.now) (sym c.deref.ensures.value)
    (homes-of-net c.args.tables.now c.requires.state.0 c.requires.state.1 c.args.places.now c.requires.state.2 c.in_ok-homes.homes.items c.in_ok-homes.ensures.long c.in_ok-homes.ensures.homes)

pub all_moved-requires-clause-long : goal.all_moved-requires-clause-long
all_moved-requires-clause-long c =
    let tree : c.tree-tree.result.now ≡ topology_at c.args.tables.now c.args.phase = c.tree-tree.ensures ∙ ap (λ n. topology_at n c.args.phase) c.net.ensures in
    ap length c.deref-2.ensures.value ∙ c.in_ok-held.ensures.servers ∙ ap (λ (t : Topology). t.count) tree ∙ tree-count c.args.tables.now.trees c.requires.sound.trees c.args.phase ∙ sym c.requires.state.2.all

pub all_moved-requires-clause-held : goal.all_moved-requires-clause-held
all_moved-requires-clause-held c = λ place links e.
    let at = subst (λ z. slice_get z place ≡ Some links) c.deref-2.ensures.value e in
    held-links c.tree-tree.result.now c.lemma_laws.ensures (suc place) (held_in links.items) (c.in_ok-held.ensures.links place links at) (c.in_ok-held.ensures.given place links at)

pub all_moved-requires-clause-net : goal.all_moved-requires-clause-net
all_moved-requires-clause-net c = λ place links core e at.
    subst (λ n. AreHeldIn n links.items) (sym (c.requires.state.2.nets place core at)) (c.in_ok-held.ensures.net place links (subst (λ z. slice_get z place ≡ Some links) c.deref-2.ensures.value e))

pub returns : goal.returns
returns c =
    let tree : c.tree-tree.result.now ≡ topology_at c.args.tables.now c.args.phase = c.tree-tree.ensures ∙ ap (λ n. topology_at n c.args.phase) c.net.ensures in
    let long-held = c.in_ok-held.ensures.servers ∙ ap (λ (t : Topology). t.count) tree ∙ tree-count c.args.tables.now.trees c.requires.sound.trees c.args.phase ∙ sym c.requires.state.2.all in
    let links : (place : ℕ) (links : Vec NetHeld Global) → slice_get c.in_ok-held.held.items place ≡ Some links → map (λ (h : HeldLink). h.link) (held_in links.items) ≡ links_of (topology_at c.args.tables.now c.args.phase) (suc place) = λ place links a.
    c.in_ok-held.ensures.links place links a ∙ ap (λ t. links_of t (suc place)) tree in
    let flows : (place : ℕ) (links : Vec NetHeld Global) → slice_get c.in_ok-held.held.items place ≡ Some links → (h : HeldLink) → Has h (held_in links.items) → IsFlow c.args.tables.now.semantics (topology_at c.args.tables.now c.args.phase) (homes_in c.in_ok-homes.homes.items) (suc place) h = λ place links a h m.
    subst (λ z. IsFlow c.args.tables.now.semantics z (homes_in c.in_ok-homes.homes.items) (suc place) h) tree
    (subst (λ z. IsFlow c.args.tables.now.semantics c.tree-tree.result.now (homes_in z) (suc place) h) c.deref.ensures.value (c.in_ok-held.ensures.flow place links a h m)) in
    if-all (λ standings long clocks moved.
    all-set c.args.tables.now c.requires.sound c.args.phase c.args.clock c.args.places.now c.in_ok-held.held.items c.in_ok-homes.homes.items standings.items
    c.requires.greatest c.requires.low c.in_ok-homes.ensures.long long-held c.in_ok-homes.ensures.homes links flows long clocks
    (λ place links core standing a b d. moved place links core standing (subst (λ z. slice_get z place ≡ Some links) (sym c.deref-2.ensures.value) a) b d))
    c.all_moved.result c.all_moved.ensures.long c.all_moved.ensures.clock c.all_moved.ensures.links
