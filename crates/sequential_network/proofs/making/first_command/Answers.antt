use Rattle.std.proofs.Common.{◌≡◌, ◌≤◌, ◌-◌, Some, slice_get, refl, sym, ap, subst, ◌∙◌}
use Rattle.base_tree.specs.Tree.{links_of}
use Rattle.law_machine.specs.Machine.{Does}
use Rattle.law_routing.specs.Step.{NextCommand}
use Rattle.net_model.specs.declared.turn.Act.TheVariants as acts
use Rattle.net_model.specs.Nets.{first_tree, topology_at, home_of}
use Rattle.sequential_network.specs.Acted.{IsActed}
use Rattle.sequential_network.specs.Ruling.{MayBegin}
use Rattle.sequential_network.specs.Seen.{seen, CanAct}
use Rattle.sequential_network.proofs.Commanding.{home_low}
use Rattle.sequential_network.proofs.making.first_command.Goals as goal
use Rattle.net_model.proofs.SoundNets.{count-at}
use Rattle.base.proofs.Results.{on-err}

pub begin-requires : goal.begin-requires
begin-requires g c =
    let stands = c.lemma_laws.ensures.stands c.args.net.now c.args.last (seen c.args.servers.now) c.requires.kept in
    λ k. (
      (refl, tt),
      (
        subst (λ n. g.P.Ruled.ruling.IsKept n c.args.last (seen c.args.servers.now)) (sym stands.run) c.requires.kept,
        subst (λ n. MayBegin g.P.Server.stepping g.P.Ruled.trying n c.args.last c.args.own (seen c.args.servers.now)) (sym stands.run) c.requires.may,
      ),
    )

pub tree-requires : goal.tree-requires
tree-requires g c = (c.lemma_laws.ensures.stands c.args.net.now c.args.last (seen c.args.servers.now) c.requires.kept).sound

pub neighbours-neighbours-requires : goal.neighbours-neighbours-requires
neighbours-neighbours-requires g c =
    let stands = c.lemma_laws.ensures.stands c.args.net.now c.args.last (seen c.args.servers.now) c.requires.kept in
    let low = subst (λ z. (1 ≤ z) × (z ≤ (first_tree c.args.net.now.trees).count)) (sym c.home-home.ensures) (home_low c.args.net.now stands.sound c.args.client) in
    let count = ap (λ z. z.count) c.tree.ensures ∙ count-at c.args.net.now stands.sound c.tree_phase.result in
    (low.0, subst (λ n. c.home-home.result ≤ n) (sym count) low.1)

pub command-requires : goal.command-requires
command-requires g c =
    let stands = c.lemma_laws.ensures.stands c.args.net.now c.args.last (seen c.args.servers.now) c.requires.kept in
    let begun = subst (λ n. g.P.Ruled.ruling.IsBegun n c.args.last c.args.own (seen c.args.servers.now) (seen c.begin.new.servers)) stands.run c.in_ok-before.ensures.begun in
    let can = c.lemma_laws.ensures.begun_able c.args.net.now c.args.last c.args.own (seen c.args.servers.now) (seen c.begin.new.servers) c.requires.kept c.requires.may begun c.args.client c.requires.client c.requires.next in
    let links = c.neighbours-neighbours.ensures.value ∙ ap (λ z. links_of z c.home-home.result) (c.tree.ensures ∙ ap (topology_at c.args.net.now) c.tree_phase.ensures)
    ∙ ap (links_of (topology_at c.args.net.now (g.P.Ruled.trying.tree_phase c.args.own))) c.home-home.ensures in
    λ k. (
      (refl, tt),
      (
        (subst (λ z. CanAct g.P.Server.stepping c.home-home.result z c.begin.new.servers.places.items) (sym links)
            (subst (λ z. CanAct g.P.Server.stepping z (links_of (topology_at c.args.net.now (g.P.Ruled.trying.tree_phase c.args.own)) (home_of c.args.net.now c.args.client)) c.begin.new.servers.places.items) (sym c.home-home.ensures) can.able)),
        (
          (λ core at. can.lives core (subst (λ z. slice_get c.begin.new.servers.places.items (z - 1) ≡ Some core) c.home-home.ensures at)),
          (λ core s at h e. can.left core s (subst (λ z. slice_get c.begin.new.servers.places.items (z - 1) ≡ Some core) c.home-home.ensures at) h e),
        ),
      ),
    )

pub returns-clause-made : goal.returns-clause-made
returns-clause-made g c =
    let stands = c.lemma_laws.ensures.stands c.args.net.now c.args.last (seen c.args.servers.now) c.requires.kept in
    let begun = subst (λ n. g.P.Ruled.ruling.IsBegun n c.args.last c.args.own (seen c.args.servers.now) (seen c.begin.new.servers)) stands.run c.in_ok-before.ensures.begun in
    (c.lemma_laws.ensures.begun_turn c.args.net.now c.args.last c.args.own (seen c.args.servers.now) (seen c.begin.new.servers) (seen c.command.new.self) c.requires.kept c.requires.may begun
    c.begin.ensures.others c.args.client c.requires.next
    (subst (λ z. IsActed g.P.Server.stepping (z - 1) (Does (NextCommand c.args.client)) (acts.Command c.args.client) (seen c.begin.new.servers) (seen c.command.new.self)) c.home-home.ensures c.in_default.ensures.acted)).0

pub returns-clause-kept : goal.returns-clause-kept
returns-clause-kept g c =
    let stands = c.lemma_laws.ensures.stands c.args.net.now c.args.last (seen c.args.servers.now) c.requires.kept in
    let begun = subst (λ n. g.P.Ruled.ruling.IsBegun n c.args.last c.args.own (seen c.args.servers.now) (seen c.begin.new.servers)) stands.run c.in_ok-before.ensures.begun in
    (c.lemma_laws.ensures.begun_turn c.args.net.now c.args.last c.args.own (seen c.args.servers.now) (seen c.begin.new.servers) (seen c.command.new.self) c.requires.kept c.requires.may begun
    c.begin.ensures.others c.args.client c.requires.next
    (subst (λ z. IsActed g.P.Server.stepping (z - 1) (Does (NextCommand c.args.client)) (acts.Command c.args.client) (seen c.begin.new.servers) (seen c.command.new.self)) c.home-home.ensures c.in_default.ensures.acted)).1

pub take_back-requires : goal.take_back-requires
take_back-requires g c = λ k. (
  (refl, tt),
  (
    c.args.servers.now.places.items,
    subst (g.P.Networked.undone c.in_ok-before.before c.args.servers.now.places.items) (sym c.in-Err.ensures.err.cores) c.in_ok-before.ensures.back,
  ),
)

pub returns-in-Err-clause-err : goal.returns-in-Err-clause-err
returns-in-Err-clause-err g c =
    let others = c.begin.ensures.others in
    let err = c.in-Err.ensures.err in
    let back = c.take_back.ensures.others in (
      c.take_back.ensures.back c.args.net.now c.args.last (seen c.args.servers.now) c.requires.kept
          (subst (g.P.Networked.undone c.in_ok-before.before c.args.servers.now.places.items) (sym err.cores) c.in_ok-before.ensures.back)
          (record { run = err.run ∙ others.run; messages = λ a b. err.messages a b ∙ others.messages a b; journal = err.journal ∙ others.journal }),
      back.journal ∙ err.journal ∙ others.journal,
    )

pub returns-in_err-before-clause-err : goal.returns-in_err-before-clause-err
returns-in_err-before-clause-err g c =
    let others = c.begin.ensures.others in
    on-err c.from_residual.result (
      c.lemma_laws.ensures.stays c.args.net.now c.args.last (seen c.args.servers.now) (seen c.begin.new.servers) c.requires.kept
          (record { run = others.run; cores = c.in_err-before.ensures.err; messages = others.messages; journal = others.journal }),
      others.journal,
    )
