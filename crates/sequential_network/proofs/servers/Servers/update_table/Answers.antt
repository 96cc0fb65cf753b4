use Rattle.std.proofs.Common.{◌≡◌, ◌<◌, ◌-◌, [], refl, sym, subst, rules}
use Rattle.law_machine.specs.Machine.{Does}
use Rattle.law_routing.specs.Step.{TableUpdate}
use Rattle.net_model.specs.declared.turn.Act.TheVariants as acts
use Rattle.server_core.specs.Step.{last_stamp}
use Rattle.sequential_network.specs.Links.{messages_at}
use Rattle.sequential_network.proofs.Able.{core_is, some_server}
use Rattle.sequential_network.proofs.Putting.{acted_by, nothing_put}
use Rattle.sequential_network.proofs.servers.Servers.update_table.Goals as goal

pub update_table-stamp-requires : goal.update_table-stamp-requires
update_table-stamp-requires g c = λ k. (
  (refl, tt),
  (
    ((let is = core_is g.P.Server.stepping c.args.server c.requires.able.0 c.args.self.now.places.items c.requires.able.1 c.index_mut.result.now c.index_mut.ensures.value in
        λ e. c.requires.some c.requires.able.1.core c.requires.able.1.here (subst (λ z. (g.P.Server.stepping.core z).pending ≡ []) is e))),
    (
      ((let is = core_is g.P.Server.stepping c.args.server c.requires.able.0 c.args.self.now.places.items c.requires.able.1 c.index_mut.result.now c.index_mut.ensures.value in
          some_server g.P.Server.stepping c.args.server c.requires.able.0 c.args.self.now.places.items c.requires.able.1 c.index_mut.result.now is)),
      ((let is = core_is g.P.Server.stepping c.args.server c.requires.able.0 c.args.self.now.places.items c.requires.able.1 c.index_mut.result.now c.index_mut.ensures.value in
          subst (λ z. (g.P.Server.stepping.core z).clock < last_stamp) (sym is) c.requires.able.1.low)),
    ),
  ),
)

pub returns-clause-acted : goal.returns-clause-acted
returns-clause-acted g c =
    let is = core_is g.P.Server.stepping c.args.server c.requires.able.0 c.args.self.now.places.items c.requires.able.1 c.index_mut.result.now c.index_mut.ensures.value in
    let step = subst (λ z. g.P.Server.stepping.Steps (Does TableUpdate) 0 z c.update_table-stamp.new.self c.update_table-stamp.result []) is c.update_table-stamp.ensures in
    acted_by g.P.Server.stepping (c.args.server - 1) c.args.server (Does TableUpdate) acts.TableUpdate _ _ c.requires.able.1.core c.update_table-stamp.new.self c.update_table-stamp.result [] c.requires.able.1.here c.requires.able.1.number step
    refl (search rules) (search rules) (messages_at c.args.self.now.links) (λ a b. refl) (λ b. nothing_put (messages_at c.args.self.now.links c.args.server b)) (λ a b n. refl)
