use Rattle.std.proofs.Common.{◌<◌, ◌-◌, [], ◌∷◌, ◌++◌, map, sym, ap, subst, ◌∙◌, rules, arith, slice_index_or, refl}
use Rattle.base.specs.Sets.{Has}
use Rattle.law_machine.specs.Machine.{Does}
use Rattle.law_routing.specs.Step.{NextCommand}
use Rattle.server_message.specs.Parts.{SendingParts}
use Rattle.net_model.specs.Parts.{entry_parts}
use Rattle.net_model.specs.declared.turn.Act.TheVariants as acts
use Rattle.server_core.specs.Clients.{client_numbers}
use Rattle.server_core.specs.Step.{last_stamp}
use Rattle.sequential_network.specs.Links.{messages_at}
use Rattle.sequential_network.proofs.Able.{neighbours_small, place_within, core_is, some_server, goes_to}
use Rattle.sequential_network.proofs.Putting.{acted_by}
use Rattle.sequential_network.proofs.servers.Servers.command.Goals as goal

pub make_room-requires : goal.make_room-requires
make_room-requires g c = λ k. (
  (refl, tt),
  (
    ((c.requires.able.small)),
    ((neighbours_small g.P.Server.stepping c.args.server c.args.neighbours.now c.args.self.now.places.items c.requires.able)),
  ),
)

pub index_mut-place-requires : goal.index_mut-place-requires
index_mut-place-requires g c = place_within g.P.Server.stepping c.args.server c.args.neighbours.now c.args.self.now.places.items c.requires.able _ (search (rules, c.make_room.ensures.same.cores))

pub command-requires : goal.command-requires
command-requires g c = λ k. (
  (refl, tt),
  (
    ((let is = core_is g.P.Server.stepping c.args.server c.args.neighbours.now c.args.self.now.places.items c.requires.able c.index_mut-place.result.now (c.index_mut-place.ensures.value ∙ ap (λ z. slice_index_or z (c.args.server - 1) c.index_mut-place.result.now) c.make_room.ensures.same.cores) in
        subst (λ z. Has c.args.client (client_numbers (g.P.Server.stepping.core z).clients)) (sym is) (c.requires.lives c.requires.able.core c.requires.able.here))),
    (
      ((let is = core_is g.P.Server.stepping c.args.server c.args.neighbours.now c.args.self.now.places.items c.requires.able c.index_mut-place.result.now (c.index_mut-place.ensures.value ∙ ap (λ z. slice_index_or z (c.args.server - 1) c.index_mut-place.result.now) c.make_room.ensures.same.cores) in
          λ s h e. c.requires.left c.requires.able.core s c.requires.able.here (subst (λ z. Has s (g.P.Server.stepping.core z).clients) is h) e)),
      (
        ((let is = core_is g.P.Server.stepping c.args.server c.args.neighbours.now c.args.self.now.places.items c.requires.able c.index_mut-place.result.now (c.index_mut-place.ensures.value ∙ ap (λ z. slice_index_or z (c.args.server - 1) c.index_mut-place.result.now) c.make_room.ensures.same.cores) in
            some_server g.P.Server.stepping c.args.server c.args.neighbours.now c.args.self.now.places.items c.requires.able c.index_mut-place.result.now is)),
        ((let is = core_is g.P.Server.stepping c.args.server c.args.neighbours.now c.args.self.now.places.items c.requires.able c.index_mut-place.result.now (c.index_mut-place.ensures.value ∙ ap (λ z. slice_index_or z (c.args.server - 1) c.index_mut-place.result.now) c.make_room.ensures.same.cores) in
            subst (λ z. (g.P.Server.stepping.core z).clock < last_stamp) (sym is) c.requires.able.low)),
      ),
    ),
  ),
)

pub put-requires-clause-small : goal.put-requires-clause-small
put-requires-clause-small g c =
    let is = core_is g.P.Server.stepping c.args.server c.args.neighbours.now c.args.self.now.places.items c.requires.able c.index_mut-place.result.now (c.index_mut-place.ensures.value ∙ ap (λ z. slice_index_or z (c.args.server - 1) c.index_mut-place.result.now) c.make_room.ensures.same.cores) in
    let on = goes_to g.P.Server.stepping c.args.server c.args.neighbours.now c.args.self.now.places.items c.requires.able c.index_mut-place.result.now is c.in_ok-stepped.stepped.stamp c.in_ok-stepped.stepped.sent.items c.in_ok-stepped.ensures.sends in
    on.small

pub put-requires-clause-apart : goal.put-requires-clause-apart
put-requires-clause-apart g c =
    let is = core_is g.P.Server.stepping c.args.server c.args.neighbours.now c.args.self.now.places.items c.requires.able c.index_mut-place.result.now (c.index_mut-place.ensures.value ∙ ap (λ z. slice_index_or z (c.args.server - 1) c.index_mut-place.result.now) c.make_room.ensures.same.cores) in
    let on = goes_to g.P.Server.stepping c.args.server c.args.neighbours.now c.args.self.now.places.items c.requires.able c.index_mut-place.result.now is c.in_ok-stepped.stepped.stamp c.in_ok-stepped.stepped.sent.items c.in_ok-stepped.ensures.sends in
    on.apart

pub put-requires-clause-room : goal.put-requires-clause-room
put-requires-clause-room g c =
    let is = core_is g.P.Server.stepping c.args.server c.args.neighbours.now c.args.self.now.places.items c.requires.able c.index_mut-place.result.now (c.index_mut-place.ensures.value ∙ ap (λ z. slice_index_or z (c.args.server - 1) c.index_mut-place.result.now) c.make_room.ensures.same.cores) in
    let on = goes_to g.P.Server.stepping c.args.server c.args.neighbours.now c.args.self.now.places.items c.requires.able c.index_mut-place.result.now is c.in_ok-stepped.stepped.stamp c.in_ok-stepped.stepped.sent.items c.in_ok-stepped.ensures.sends in
    λ s h. c.in_ok-outs.ensures.room s.to (on.to s h)

pub put-requires-clause-stamp : goal.put-requires-clause-stamp
put-requires-clause-stamp g c =
    let is = core_is g.P.Server.stepping c.args.server c.args.neighbours.now c.args.self.now.places.items c.requires.able c.index_mut-place.result.now (c.index_mut-place.ensures.value ∙ ap (λ z. slice_index_or z (c.args.server - 1) c.index_mut-place.result.now) c.make_room.ensures.same.cores) in
    let on = goes_to g.P.Server.stepping c.args.server c.args.neighbours.now c.args.self.now.places.items c.requires.able c.index_mut-place.result.now is c.in_ok-stepped.stepped.stamp c.in_ok-stepped.stepped.sent.items c.in_ok-stepped.ensures.sends in
    on.low

pub put-requires-clause-outs : goal.put-requires-clause-outs
put-requires-clause-outs g c =
    let is = core_is g.P.Server.stepping c.args.server c.args.neighbours.now c.args.self.now.places.items c.requires.able c.index_mut-place.result.now (c.index_mut-place.ensures.value ∙ ap (λ z. slice_index_or z (c.args.server - 1) c.index_mut-place.result.now) c.make_room.ensures.same.cores) in
    let on = goes_to g.P.Server.stepping c.args.server c.args.neighbours.now c.args.self.now.places.items c.requires.able c.index_mut-place.result.now is c.in_ok-stepped.stepped.stamp c.in_ok-stepped.stepped.sent.items c.in_ok-stepped.ensures.sends in
    let few = on.few in
    let room = c.in_ok-outs.ensures.outs.2 in
    (c.in_ok-outs.ensures.outs.0, omega (arith, few, room))

pub returns-clause-acted : goal.returns-clause-acted
returns-clause-acted g c =
    let is = core_is g.P.Server.stepping c.args.server c.args.neighbours.now c.args.self.now.places.items c.requires.able c.index_mut-place.result.now (c.index_mut-place.ensures.value ∙ ap (λ z. slice_index_or z (c.args.server - 1) c.index_mut-place.result.now) c.make_room.ensures.same.cores) in
    let step = subst (λ z. g.P.Server.stepping.Steps (Does (NextCommand c.args.client)) 0 z c.command.new.self c.in_ok-stepped.stepped.stamp c.in_ok-stepped.stepped.sent.items) is c.in_ok-stepped.ensures.step in
    acted_by g.P.Server.stepping (c.args.server - 1) c.args.server (Does (NextCommand c.args.client)) (acts.Command c.args.client) _ _ c.requires.able.core c.command.new.self c.in_ok-stepped.stepped.stamp
    c.in_ok-stepped.stepped.sent.items c.requires.able.here c.requires.able.number step c.make_room.ensures.same.run (search (rules, c.make_room.ensures.same.cores))
    (c.put.ensures.entry ∙ ap (λ z. z ++ entry_parts c.in_ok-stepped.stepped.stamp c.args.server (acts.Command c.args.client) (map (λ (s : SendingParts). s.to) c.in_ok-stepped.stepped.sent.items) ∷ []) c.make_room.ensures.same.journal) (messages_at c.make_room.new.self.links) c.make_room.ensures.same.messages c.put.ensures.here c.put.ensures.others
