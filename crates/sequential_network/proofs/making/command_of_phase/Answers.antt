use Rattle.std.proofs.Common.{◌≡◌, ◌≤◌, ◌-◌, Some, slice_get, sym, ap, subst, ◌∙◌, refl}
use Rattle.base_tree.specs.Tree.{links_of}
use Rattle.net_model.specs.Nets.{first_tree, topology_at}
use Rattle.sequential_network.specs.Seen.{seen, CanAct}
use Rattle.sequential_network.proofs.Commanding.{home_low}
use Rattle.sequential_network.proofs.ByLaws.{lives_home, commanded, same_on_err}
use Rattle.sequential_network.proofs.making.command_of_phase.Goals as goal
use Rattle.net_model.proofs.SoundNets.{count-at}

pub tree-requires : goal.tree-requires
tree-requires g c = (c.lemma_laws.ensures.stands c.args.net.now c.args.phase (seen c.args.servers.now) c.requires.kept).sound

pub neighbours-neighbours-requires : goal.neighbours-neighbours-requires
neighbours-neighbours-requires g c =
    let stands = c.lemma_laws.ensures.stands c.args.net.now c.args.phase (seen c.args.servers.now) c.requires.kept in
    let low = subst (λ z. (1 ≤ z) × (z ≤ (first_tree c.args.net.now.trees).count)) (sym c.home-home.ensures) (home_low c.args.net.now stands.sound c.args.client) in
    let count = ap (λ z. z.count) c.tree.ensures ∙ count-at c.args.net.now stands.sound c.tree_phase.result in
    (low.0, subst (λ n. c.home-home.result ≤ n) (sym count) low.1)

pub command-requires : goal.command-requires
command-requires g c = λ k. (
  (refl, tt),
  (
    (let stands = c.lemma_laws.ensures.stands c.args.net.now c.args.phase (seen c.args.servers.now) c.requires.kept in
        let low = subst (λ z. (1 ≤ z) × (z ≤ (first_tree c.args.net.now.trees).count)) (sym c.home-home.ensures) (home_low c.args.net.now stands.sound c.args.client) in
        let links = c.neighbours-neighbours.ensures.value ∙ ap (λ z. links_of z c.home-home.result) (c.tree.ensures ∙ ap (topology_at c.args.net.now) c.tree_phase.ensures) in
        subst (λ z. CanAct g.P.Server.stepping c.home-home.result z c.args.servers.now.places.items) (sym links) (stands.able c.home-home.result low.0 low.1)),
    (
      (λ core at.
          lives_home g.P.Server.stepping g.P.Ruled.trying g.P.Ruled.telling g.P.Ruled.ruling c.lemma_laws.ensures c.args.net.now c.args.phase (seen c.args.servers.now) c.requires.kept
          c.args.client c.requires.client core (subst (λ z. slice_get c.args.servers.now.places.items (z - 1) ≡ Some core) c.home-home.ensures at)),
      (λ core s at h e.
          c.lemma_laws.ensures.command_left c.args.net.now c.args.phase (seen c.args.servers.now) c.requires.kept c.args.client c.args.phase c.requires.next core s
          (subst (λ z. slice_get c.args.servers.now.places.items (z - 1) ≡ Some core) c.home-home.ensures at) h e),
    ),
  ),
)

pub returns-clause-made : goal.returns-clause-made
returns-clause-made g c =
    (commanded g.P.Server.stepping g.P.Ruled.trying g.P.Ruled.telling g.P.Ruled.ruling c.lemma_laws.ensures c.args.net.now c.args.phase (seen c.args.servers.now) (seen c.command.new.self)
    c.requires.kept c.args.client c.home-home.result c.home-home.ensures c.requires.next c.command.result c.command.ensures.acted
    (same_on_err c.args.servers.now c.command.new.self c.command.result c.command.ensures.err)).made

pub returns-clause-kept : goal.returns-clause-kept
returns-clause-kept g c =
    (commanded g.P.Server.stepping g.P.Ruled.trying g.P.Ruled.telling g.P.Ruled.ruling c.lemma_laws.ensures c.args.net.now c.args.phase (seen c.args.servers.now) (seen c.command.new.self)
    c.requires.kept c.args.client c.home-home.result c.home-home.ensures c.requires.next c.command.result c.command.ensures.acted
    (same_on_err c.args.servers.now c.command.new.self c.command.result c.command.ensures.err)).kept_on

pub returns-clause-err : goal.returns-clause-err
returns-clause-err g c =
    (commanded g.P.Server.stepping g.P.Ruled.trying g.P.Ruled.telling g.P.Ruled.ruling c.lemma_laws.ensures c.args.net.now c.args.phase (seen c.args.servers.now) (seen c.command.new.self)
    c.requires.kept c.args.client c.home-home.result c.home-home.ensures c.requires.next c.command.result c.command.ensures.acted
    (same_on_err c.args.servers.now c.command.new.self c.command.result c.command.ensures.err)).err
