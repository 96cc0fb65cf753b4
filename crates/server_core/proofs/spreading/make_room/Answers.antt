use Rattle.std.proofs.Common.{◌≡◌, ◌-◌, ◌∙◌, take, get_or, sym, subst}
use Rattle.server_spec.proofs.Taken.{take-all}
use Rattle.server_core.specs.Clients.{HaveRoom}
use Rattle.server_core.specs.Acting.{clients_on}
use Rattle.server_core.proofs.Going.{HaveMade, low-link, high-client, got-number, clients-skip, clients-more, made-more, from-more}
use Rattle.server_core.proofs.spreading.make_room.Goals as goal

pub loop-interface-preserved-then-is_link : goal.loop-interface-preserved-then-is_link
loop-interface-preserved-then-is_link c =
    let x = get_or c.args.route.now c.loop-interface.interface-index 0 in
    let same = clients-skip c.args.route.now c.loop-interface.interface-index x (got-number c.args.route.now c.loop-interface.interface-index c.loop-interface-test.true) (low-link c.is_link.result x c.is_link.ensures c.if-is_link.true) in
    (c.loop-interface.invariant.0, subst (λ z. HaveMade z c.args.clients.now.sessions c.loop-interface.clients.sessions) (sym same) c.loop-interface.invariant.1)

pub returns-in_err-make_room-clause-planned : goal.returns-in_err-make_room-clause-planned
returns-in_err-make_room-clause-planned c = from-more c.args.clients.now.sessions c.loop-interface.clients.sessions c.make_room.new.self.sessions c.loop-interface.invariant.1.from c.make_room.ensures.more

pub loop-interface-preserved : goal.loop-interface-preserved
loop-interface-preserved c =
    let x = get_or c.args.route.now c.loop-interface.interface-index 0 in
    let more = clients-more c.args.route.now c.loop-interface.interface-index x (got-number c.args.route.now c.loop-interface.interface-index c.loop-interface-test.true) (high-client c.is_link.result x c.is_link.ensures c.if-is_link.false) in (
      c.make_room.ensures.net ∙ c.loop-interface.invariant.0,
      subst (λ z. HaveMade z c.args.clients.now.sessions c.make_room.new.self.sessions) (sym more)
          (made-more (clients_on (take c.loop-interface.interface-index c.args.route.now)) (x - 64) c.args.clients.now.sessions c.loop-interface.clients.sessions c.make_room.new.self.sessions c.loop-interface.invariant.1
          (rw c.client_of.ensures at c.in_ok-make_room.ensures.room) c.make_room.ensures.more c.make_room.ensures.bare),
    )

pub returns-clause-room : goal.returns-clause-room
returns-clause-room c =
    subst (λ z. HaveRoom (clients_on z) c.loop-interface.clients.sessions) (take-all c.args.route.now c.loop-interface.interface-index c.loop-interface-test.false) c.loop-interface.invariant.1.room
