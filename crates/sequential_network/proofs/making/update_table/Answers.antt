use Rattle.std.proofs.Common.{◌≤◌, ◌<◌, ◌-◌, length, refl, sym, ap, subst, ◌∙◌, arith}
use Rattle.std.proofs.lemmas.Option.{same_Some}
use Rattle.base_tree.specs.Tree.{links_of}
use Rattle.net_model.specs.Nets.{topology_at}
use Rattle.sequential_network.specs.Seen.{seen}
use Rattle.net_turns.proofs.Among.{server_low}
use Rattle.sequential_network.proofs.ByLaws.{same}
use Rattle.sequential_network.proofs.making.update_table.Goals as goal
use Rattle.std.proofs.lemmas.Bool.{both_ways}
use Rattle.base.proofs.Lists.{get-index}

pub returns-then-not-has_server-clause-turn : goal.returns-then-not-has_server-clause-turn
returns-then-not-has_server-clause-turn g c =
    c.requires.laws.update_none c.args.net.now c.args.phase (seen c.args.servers.now) c.requires.kept c.args.server
    (λ a. let low = server_low c.args.net.now c.args.server a in let all = (c.requires.laws.stands c.args.net.now c.args.phase (seen c.args.servers.now) c.requires.kept).all in
    both_ways c.has_server.result c.if-not-has_server.true (c.has_server.ensures.1 (low.0, subst (λ n. c.args.server ≤ n) (sym all) low.1)))

pub returns-then-is_calm-clause-turn : goal.returns-then-is_calm-clause-turn
returns-then-is_calm-clause-turn g c =
    let low = c.has_server.ensures.0 c.if-not-has_server.false in
    let within : c.args.server - 1 < length c.args.servers.now.places.items = omega (arith, low.0, low.1) in
    let at = get-index c.args.servers.now.places.items (c.args.server - 1) c.index.result.now within c.index.ensures in
    c.requires.laws.update_calm c.args.net.now c.args.phase (seen c.args.servers.now) c.requires.kept c.args.server c.index.result.now low.0 at
    (c.is_calm.ensures.pending.0 c.if-is_calm.true)

pub update_table-requires : goal.update_table-requires
update_table-requires g c = λ k. (
  (refl, tt),
  (
    (let stands = c.requires.laws.stands c.args.net.now c.args.phase (seen c.args.servers.now) c.requires.kept in
        let low = c.has_server.ensures.0 c.if-not-has_server.false in (
          links_of (topology_at c.args.net.now (g.P.Ruled.trying.tree_phase c.args.phase)) c.args.server,
          stands.able c.args.server low.0 (subst (λ n. c.args.server ≤ n) stands.all low.1),
        )),
    (let low = c.has_server.ensures.0 c.if-not-has_server.false in
        let within : c.args.server - 1 < length c.args.servers.now.places.items = omega (arith, low.0, low.1) in
        let at = get-index c.args.servers.now.places.items (c.args.server - 1) c.index.result.now within c.index.ensures in
        λ core e none. both_ways c.is_calm.result c.if-is_calm.false (c.is_calm.ensures.pending.1 (ap (λ z. (g.P.Server.stepping.core z).pending) (same_Some _ _ (sym at ∙ e)) ∙ none))),
  ),
)

pub returns-clause-turn : goal.returns-clause-turn
returns-clause-turn g c =
    let low = c.has_server.ensures.0 c.if-not-has_server.false in
    (c.requires.laws.update_turn c.args.net.now c.args.phase (seen c.args.servers.now) (seen c.update_table.new.self) c.requires.kept c.args.server low.0 c.in_ok-update_table.ensures.acted).0

pub returns-clause-kept : goal.returns-clause-kept
returns-clause-kept g c =
    let low = c.has_server.ensures.0 c.if-not-has_server.false in
    (c.requires.laws.update_turn c.args.net.now c.args.phase (seen c.args.servers.now) (seen c.update_table.new.self) c.requires.kept c.args.server low.0 c.in_ok-update_table.ensures.acted).1

pub returns-in_err-update_table-clause-kept : goal.returns-in_err-update_table-clause-kept
returns-in_err-update_table-clause-kept g c =
    c.requires.laws.stays c.args.net.now c.args.phase (seen c.args.servers.now) (seen c.update_table.new.self) c.requires.kept
    (same c.args.servers.now c.update_table.new.self c.in_err-update_table.ensures.err)
