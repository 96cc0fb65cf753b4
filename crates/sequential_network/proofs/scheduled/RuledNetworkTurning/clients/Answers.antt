use Rattle.std.proofs.Common.{◌≡◌, ◌-◌, ◌<◌, suc, length, sym, ap, subst, ◌∙◌, rules, arith}
use Rattle.base.specs.Sets.{Has}
use Rattle.net_model.specs.Nets.{servers_in, clients_of}
use Rattle.net_turns.proofs.Among.{server_low}
use Rattle.sequential_network.proofs.scheduled.RuledNetworkTurning.clients.Goals as goal
use Rattle.base.proofs.Lists.{get-index}

pub overflow_sub-server : goal.overflow_sub-server
overflow_sub-server g c = (server_low c.self.inside.tables.now c.args.server (subst (λ z. Has c.args.server (servers_in z.net)) (sym c.self.view_is) c.requires)).0

pub index-requires : goal.index-requires
index-requires g c =
    let low = server_low c.self.inside.tables.now c.args.server (subst (λ z. Has c.args.server (servers_in z.net)) (sym c.self.view_is) c.requires) in
    let all = c.self.invariant.1.all in
    search (rules, low, all)

pub returns : goal.returns
returns g c =
    let low = server_low c.self.inside.tables.now c.args.server (subst (λ z. Has c.args.server (servers_in z.net)) (sym c.self.view_is) c.requires) in
    let all = c.self.invariant.1.all in
    let within : c.args.server - 1 < length c.self.inside.clients.items = omega (arith, low.0, low.1, all) in
    let place : suc (c.args.server - 1) ≡ c.args.server = omega (arith, low.0) in
    c.as_slice.ensures
    ∙ c.self.invariant.1.each (c.args.server - 1) c.index.result.now (get-index c.self.inside.clients.items (c.args.server - 1) c.index.result.now within c.index.ensures)
    ∙ ap (clients_of c.self.inside.tables.now) place
    ∙ ap (λ z. clients_of z.net c.args.server) c.self.view_is
