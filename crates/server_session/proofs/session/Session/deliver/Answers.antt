use Rattle.std.proofs.Common.{◌≡◌, ◌+◌, ◌-◌, [], ◌∷◌, ◌++◌, sym, ap, subst, ◌∙◌, arith, vec_len}
use Rattle.std.proofs.lemmas.List.{map-append}
use Rattle.net_inbox.specs.Inbox.{at_numbers, delivery_at}
use Rattle.net_tables.specs.Found.{known_deliveries}
use Rattle.server_spec.specs.Inbox.{IsDelivery}
use Rattle.server_spec.proofs.Sessions.{delivered}
use Rattle.server_session.specs.Session.{NetSession}
use Rattle.server_session.proofs.Keeping.{numbered-with}
use Rattle.server_session.proofs.session.Session.deliver.Goals as goal

pub invariant_of-self : goal.invariant_of-self
invariant_of-self c =
    let all = known_deliveries c.self.inside.tables.now.clients in
    let items : c.push.new.self.items ≡ c.self.inside.inbox.items ++ c.args.number ∷ [] = rw c.unwrap.ensures at c.push.ensures.items in
    let inbox : at_numbers all c.push.new.self.items ≡ at_numbers all c.self.inside.inbox.items ++ delivery_at all c.args.number ∷ [] =
    ap (at_numbers all) items ∙ map-append (delivery_at all) c.self.inside.inbox.items (c.args.number ∷ []) in
    let len : vec_len c.push.new.self ≡ vec_len c.self.inside.inbox + 1 = rw c.unwrap.ensures at c.push.ensures.len in
    let room : c.self.inside.room ≡ c.args.self.now.session.room = ap (λ (s : NetSession). s.session.room) c.self.view_is in
    let text : IsDelivery (delivery_at all c.args.number) = subst (λ (s : NetSession). IsDelivery (delivery_at (known_deliveries s.net.clients) c.args.number)) (sym c.self.view_is) c.requires.text in
    let kept = c.self.invariant.0 in
    (rw inbox (numbered-with _ _ _ _ _ _ _ _ _ _ _ _ _ _ _ _ kept (delivered _ _ _ _ _ kept.kept (delivery_at all c.args.number) (c.self.inside.room - 1) text)), omega (arith, len, room, c.requires.room, c.self.invariant.1, c.push.ensures.capacity), c.self.invariant.2)
