use Rattle.std.proofs.Common.{◌≤◌, ◌-◌, refl, sym, ap, subst, ◌∙◌}
use Rattle.base.specs.Sets.{Has}
use Rattle.base_tree.specs.Tree.{links_of}
use Rattle.net_model.specs.Nets.{topology_at}
use Rattle.sequential_network.specs.Seen.{seen, CanAct}
use Rattle.net_turns.proofs.Among.{server_low}
use Rattle.sequential_network.proofs.ByLaws.{same_of, same_on_err}
use Rattle.sequential_network.proofs.making.take.Goals as goal
use Rattle.net_model.proofs.SoundNets.{count-at}
use Rattle.std.proofs.lemmas.Bool.{both_ways}

pub returns-then-not-has_server-clause-turn : goal.returns-then-not-has_server-clause-turn
returns-then-not-has_server-clause-turn g c =
    c.requires.laws.take_none c.args.net.now c.args.phase (seen c.args.servers.now) c.requires.kept c.args.server c.args.from
    (λ a b. let low = server_low c.args.net.now c.args.server a in let all = (c.requires.laws.stands c.args.net.now c.args.phase (seen c.args.servers.now) c.requires.kept).all in
    both_ways c.has_server.result c.if-not-has_server.true (c.has_server.ensures.1 (low.0, subst (λ n. c.args.server ≤ n) (sym all) low.1)))

pub tree-requires : goal.tree-requires
tree-requires g c = (c.requires.laws.stands c.args.net.now c.args.phase (seen c.args.servers.now) c.requires.kept).sound

pub neighbours-neighbours-requires : goal.neighbours-neighbours-requires
neighbours-neighbours-requires g c =
    let stands = c.requires.laws.stands c.args.net.now c.args.phase (seen c.args.servers.now) c.requires.kept in
    let low = c.has_server.ensures.0 c.if-not-has_server.false in
    let count = ap (λ z. z.count) c.tree.ensures ∙ count-at c.args.net.now stands.sound c.tree_phase.result in
    (low.0, subst (λ n. c.args.server ≤ n) (stands.all ∙ sym count) low.1)

pub returns-then-not-is_among-clause-turn : goal.returns-then-not-is_among-clause-turn
returns-then-not-is_among-clause-turn g c =
    let links = c.neighbours-neighbours.ensures.value ∙ ap (λ z. links_of z c.args.server) (c.tree.ensures ∙ ap (topology_at c.args.net.now) c.tree_phase.ensures) in
    c.requires.laws.take_none c.args.net.now c.args.phase (seen c.args.servers.now) c.requires.kept c.args.server c.args.from
    (λ a b. both_ways c.is_among.result c.if-not-is_among.true (c.is_among.ensures.1 (subst (Has c.args.from) (sym links) b)))

pub take-requires : goal.take-requires
take-requires g c = λ k. (
  (refl, tt),
  (
    (let stands = c.requires.laws.stands c.args.net.now c.args.phase (seen c.args.servers.now) c.requires.kept in
        let low = c.has_server.ensures.0 c.if-not-has_server.false in
        let links = c.neighbours-neighbours.ensures.value ∙ ap (λ z. links_of z c.args.server) (c.tree.ensures ∙ ap (topology_at c.args.net.now) c.tree_phase.ensures) in
        subst (λ z. CanAct g.P.Server.stepping c.args.server z c.args.servers.now.places.items) (sym links)
        (stands.able c.args.server low.0 (subst (λ n. c.args.server ≤ n) stands.all low.1))),
    (
      (c.is_among.ensures.0 c.if-not-is_among.false),
      (
        (λ w h. (c.requires.laws.stands c.args.net.now c.args.phase (seen c.args.servers.now) c.requires.kept).low c.args.from c.args.server w h),
        (λ w core h at.
            let stands = c.requires.laws.stands c.args.net.now c.args.phase (seen c.args.servers.now) c.requires.kept in
            stands.waiting c.args.from c.args.server w h ∙ sym (stands.nets (c.args.server - 1) core at)),
      ),
    ),
  ),
)

pub returns-clause-turn : goal.returns-clause-turn
returns-clause-turn g c =
    let low = c.has_server.ensures.0 c.if-not-has_server.false in
    (c.requires.laws.receive_turn c.args.net.now c.args.phase (seen c.args.servers.now) (seen c.take.new.self) c.requires.kept c.args.server c.args.from low.0 c.take.result
    c.take.ensures.acted (λ e. same_of c.args.servers.now c.take.new.self c.take.result (c.take.ensures.none e)) (same_on_err c.args.servers.now c.take.new.self c.take.result c.take.ensures.err)).0

pub returns-clause-kept : goal.returns-clause-kept
returns-clause-kept g c =
    let low = c.has_server.ensures.0 c.if-not-has_server.false in
    (c.requires.laws.receive_turn c.args.net.now c.args.phase (seen c.args.servers.now) (seen c.take.new.self) c.requires.kept c.args.server c.args.from low.0 c.take.result
    c.take.ensures.acted (λ e. same_of c.args.servers.now c.take.new.self c.take.result (c.take.ensures.none e)) (same_on_err c.args.servers.now c.take.new.self c.take.result c.take.ensures.err)).1
