use Rattle.std.proofs.Common.{◌≡◌, ◌<◌, ◌-◌, [], ◌∷◌, ◌++◌, map, Some, slice_get, refl, sym, ap, subst, ◌∙◌, rules, arith, slice_index_or}
use Rattle.std.proofs.lemmas.Option.{same_Some}
use Rattle.base.specs.Sets.{Has}
use Rattle.law_machine.specs.Machine.{Receives}
use Rattle.server_message.specs.Parts.{SendingParts}
use Rattle.net_model.specs.Parts.{entry_parts}
use Rattle.net_model.specs.declared.turn.Act.TheVariants as acts
use Rattle.server_core.specs.Step.{last_stamp}
use Rattle.sequential_network.specs.Links.{StampedMessageParts, messages_at, waiting_in}
use Rattle.sequential_network.proofs.Able.{neighbours_small, place_within, core_is, some_server, goes_to}
use Rattle.sequential_network.proofs.Putting.{acted_by, first_left, nothing_first}
use Rattle.sequential_network.proofs.servers.Servers.take.Goals as goal
use Rattle.base.proofs.Sets.{get-has}

pub make_room-requires : goal.make_room-requires
make_room-requires g c = λ k. (
  (refl, tt),
  (
    ((c.requires.able.small)),
    ((neighbours_small g.P.Server.stepping c.args.server c.args.neighbours.now c.args.self.now.places.items c.requires.able)),
  ),
)

pub is_empty-requires : goal.is_empty-requires
is_empty-requires g c = (neighbours_small g.P.Server.stepping c.args.server c.args.neighbours.now c.args.self.now.places.items c.requires.able c.args.from c.requires.from, c.requires.able.small)

pub returns-then-is_empty-clause-acted : goal.returns-then-is_empty-clause-acted
returns-then-is_empty-clause-acted g c = λ net m first. absurd (nothing_first (messages_at c.args.self.now.links c.args.from c.args.server) (waiting_in net m) (c.is_empty.ensures c.if-is_empty.true) first)

pub first-requires : goal.first-requires
first-requires g c = (neighbours_small g.P.Server.stepping c.args.server c.args.neighbours.now c.args.self.now.places.items c.requires.able c.args.from c.requires.from, c.requires.able.small)

pub index_mut-place-requires : goal.index_mut-place-requires
index_mut-place-requires g c = place_within g.P.Server.stepping c.args.server c.args.neighbours.now c.args.self.now.places.items c.requires.able _ (search (rules, c.make_room.ensures.same.cores))

pub take-requires : goal.take-requires
take-requires g c = λ k. (
  (refl, tt),
  (
    ((let is = core_is g.P.Server.stepping c.args.server c.args.neighbours.now c.args.self.now.places.items c.requires.able c.index_mut-place.result.now (c.index_mut-place.ensures.value ∙ ap (λ z. slice_index_or z (c.args.server - 1) c.index_mut-place.result.now) c.make_room.ensures.same.cores) in
        subst (λ z. Has c.args.from (g.P.Server.stepping.core z).control.links) (sym is) (subst (Has c.args.from) c.requires.able.links c.requires.from))),
    (
      ((let is = core_is g.P.Server.stepping c.args.server c.args.neighbours.now c.args.self.now.places.items c.requires.able c.index_mut-place.result.now (c.index_mut-place.ensures.value ∙ ap (λ z. slice_index_or z (c.args.server - 1) c.index_mut-place.result.now) c.make_room.ensures.same.cores) in
          some_server g.P.Server.stepping c.args.server c.args.neighbours.now c.args.self.now.places.items c.requires.able c.index_mut-place.result.now is)),
      (
        ((let at = subst (λ z. slice_get z 0 ≡ Some c.in-Some.waiting.now) (c.make_room.ensures.same.messages c.args.from c.args.server) c.in-Some.ensures.some in
            let there = get-has (messages_at c.args.self.now.links c.args.from c.args.server) 0 c.in-Some.waiting.now at in
            let is = core_is g.P.Server.stepping c.args.server c.args.neighbours.now c.args.self.now.places.items c.requires.able c.index_mut-place.result.now (c.index_mut-place.ensures.value ∙ ap (λ z. slice_index_or z (c.args.server - 1) c.index_mut-place.result.now) c.make_room.ensures.same.cores) in
            (subst (λ z. (g.P.Server.stepping.core z).clock < last_stamp) (sym is) c.requires.able.low, c.requires.low c.in-Some.waiting.now there))),
        ((let at = subst (λ z. slice_get z 0 ≡ Some c.in-Some.waiting.now) (c.make_room.ensures.same.messages c.args.from c.args.server) c.in-Some.ensures.some in
            let there = get-has (messages_at c.args.self.now.links c.args.from c.args.server) 0 c.in-Some.waiting.now at in
            let is = core_is g.P.Server.stepping c.args.server c.args.neighbours.now c.args.self.now.places.items c.requires.able c.index_mut-place.result.now (c.index_mut-place.ensures.value ∙ ap (λ z. slice_index_or z (c.args.server - 1) c.index_mut-place.result.now) c.make_room.ensures.same.cores) in
            c.requires.run c.in-Some.waiting.now c.requires.able.core there c.requires.able.here ∙ sym (ap (λ z. (g.P.Server.stepping.core z).net) is))),
      ),
    ),
  ),
)

pub put-requires-clause-small : goal.put-requires-clause-small
put-requires-clause-small g c =
    let is = core_is g.P.Server.stepping c.args.server c.args.neighbours.now c.args.self.now.places.items c.requires.able c.index_mut-place.result.now (c.index_mut-place.ensures.value ∙ ap (λ z. slice_index_or z (c.args.server - 1) c.index_mut-place.result.now) c.make_room.ensures.same.cores) in
    let on = goes_to g.P.Server.stepping c.args.server c.args.neighbours.now c.args.self.now.places.items c.requires.able c.index_mut-place.result.now is c.in_ok-stepped.stepped.stamp c.in_ok-stepped.stepped.sent.items c.in_ok-stepped.ensures.sends in
    on.small

pub put-requires-clause-apart : goal.put-requires-clause-apart
put-requires-clause-apart g c =
    let is = core_is g.P.Server.stepping c.args.server c.args.neighbours.now c.args.self.now.places.items c.requires.able c.index_mut-place.result.now (c.index_mut-place.ensures.value ∙ ap (λ z. slice_index_or z (c.args.server - 1) c.index_mut-place.result.now) c.make_room.ensures.same.cores) in
    let on = goes_to g.P.Server.stepping c.args.server c.args.neighbours.now c.args.self.now.places.items c.requires.able c.index_mut-place.result.now is c.in_ok-stepped.stepped.stamp c.in_ok-stepped.stepped.sent.items c.in_ok-stepped.ensures.sends in
    on.apart

pub put-requires-clause-room : goal.put-requires-clause-room
put-requires-clause-room g c =
    let is = core_is g.P.Server.stepping c.args.server c.args.neighbours.now c.args.self.now.places.items c.requires.able c.index_mut-place.result.now (c.index_mut-place.ensures.value ∙ ap (λ z. slice_index_or z (c.args.server - 1) c.index_mut-place.result.now) c.make_room.ensures.same.cores) in
    let on = goes_to g.P.Server.stepping c.args.server c.args.neighbours.now c.args.self.now.places.items c.requires.able c.index_mut-place.result.now is c.in_ok-stepped.stepped.stamp c.in_ok-stepped.stepped.sent.items c.in_ok-stepped.ensures.sends in
    λ s h. c.drop_first.ensures.rooms c.args.server s.to (c.in_ok-outs.ensures.room s.to (on.to s h))

pub put-requires-clause-stamp : goal.put-requires-clause-stamp
put-requires-clause-stamp g c =
    let is = core_is g.P.Server.stepping c.args.server c.args.neighbours.now c.args.self.now.places.items c.requires.able c.index_mut-place.result.now (c.index_mut-place.ensures.value ∙ ap (λ z. slice_index_or z (c.args.server - 1) c.index_mut-place.result.now) c.make_room.ensures.same.cores) in
    let on = goes_to g.P.Server.stepping c.args.server c.args.neighbours.now c.args.self.now.places.items c.requires.able c.index_mut-place.result.now is c.in_ok-stepped.stepped.stamp c.in_ok-stepped.stepped.sent.items c.in_ok-stepped.ensures.sends in
    on.low

pub put-requires-clause-outs : goal.put-requires-clause-outs
put-requires-clause-outs g c =
    let is = core_is g.P.Server.stepping c.args.server c.args.neighbours.now c.args.self.now.places.items c.requires.able c.index_mut-place.result.now (c.index_mut-place.ensures.value ∙ ap (λ z. slice_index_or z (c.args.server - 1) c.index_mut-place.result.now) c.make_room.ensures.same.cores) in
    let on = goes_to g.P.Server.stepping c.args.server c.args.neighbours.now c.args.self.now.places.items c.requires.able c.index_mut-place.result.now is c.in_ok-stepped.stepped.stamp c.in_ok-stepped.stepped.sent.items c.in_ok-stepped.ensures.sends in
    let few = on.few in
    let room = c.in_ok-outs.ensures.outs.2 in
    (c.in_ok-outs.ensures.outs.0, omega (arith, few, room))

pub returns-clause-acted : goal.returns-clause-acted
returns-clause-acted g c = λ net m first.
    let at = subst (λ z. slice_get z 0 ≡ Some c.in-Some.waiting.now) (c.make_room.ensures.same.messages c.args.from c.args.server) c.in-Some.ensures.some in
    let there = get-has (messages_at c.args.self.now.links c.args.from c.args.server) 0 c.in-Some.waiting.now at in
    let is = core_is g.P.Server.stepping c.args.server c.args.neighbours.now c.args.self.now.places.items c.requires.able c.index_mut-place.result.now (c.index_mut-place.ensures.value ∙ ap (λ z. slice_index_or z (c.args.server - 1) c.index_mut-place.result.now) c.make_room.ensures.same.cores) in
    let same : c.in-Some.waiting.now ≡ waiting_in net m = same_Some _ _ (sym at ∙ first) in
    let step = subst (λ z. g.P.Server.stepping.Steps (Receives c.args.from m.message) m.stamp z c.take.new.self c.in_ok-stepped.stepped.stamp c.in_ok-stepped.stepped.sent.items) is
    (subst (λ (z : StampedMessageParts). g.P.Server.stepping.Steps (Receives c.args.from z.sent.message) z.stamp c.index_mut-place.result.now c.take.new.self c.in_ok-stepped.stepped.stamp c.in_ok-stepped.stepped.sent.items) same
    c.in_ok-stepped.ensures.step) in (
      refl,
      acted_by g.P.Server.stepping (c.args.server - 1) c.args.server (Receives c.args.from m) (acts.Receive c.args.from) _ _ c.requires.able.core c.take.new.self c.in_ok-stepped.stepped.stamp
          c.in_ok-stepped.stepped.sent.items c.requires.able.here c.requires.able.number step c.make_room.ensures.same.run (search (rules, c.make_room.ensures.same.cores))
          (c.put.ensures.entry ∙ ap (λ z. z ++ entry_parts c.in_ok-stepped.stepped.stamp c.args.server (acts.Receive c.args.from) (map (λ (s : SendingParts). s.to) c.in_ok-stepped.stepped.sent.items) ∷ []) c.make_room.ensures.same.journal)
          (messages_at c.drop_first.new.self)
          (first_left c.args.self.now.links c.make_room.new.self.links c.drop_first.new.self c.args.server c.args.from m c.make_room.ensures.same.messages c.drop_first.ensures.here c.drop_first.ensures.others)
          c.put.ensures.here c.put.ensures.others,
    )
