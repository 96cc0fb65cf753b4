use Rattle.std.proofs.Common.{◌≡◌, ◌≤◌, ℕ, true, length, [], ◌∷◌, ◌++◌, refl, sym, ap, subst, ◌∙◌, rules}
use Rattle.std.proofs.lemmas.Iterator.Adapters.{YieldsList-from_vec}
use Rattle.std.proofs.lemmas.Iterator.Consumers.{YieldsList-turn}
use Rattle.server_message.specs.Parts.{SendingParts}
use Rattle.sequential_network.specs.Links.{stamped_message_parts, waiting_as, messages_at, has_room}
use Rattle.sequential_network.proofs.Putting.{put_none, put_more, prefix-more}
use Rattle.sequential_network.proofs.servers.put_all.Goals as goal
use Rattle.base.proofs.Lists.{get-get_or}
use Rattle.base.proofs.Sets.{get-has}
use Rattle.std.proofs.lemmas.List.{map-append, length-append}

pub put-requires-clause-small : goal.put-requires-clause-small
put-requires-clause-small c =
    let gives = c.into_iter-sending-iterator.ensures.into_iter_gives in
    let t = YieldsList-turn (YieldsList-from_vec {s = c.into_iter-sending-iterator.result} c.args.sent.items gives.0 (gives.1 ∙ c.args.sent.ok.0)) c.loop-sending.yielded c.loop-sending.sending-iterator c.loop-sending.yielded_by c.next.result c.next.new.self c.in-Some.sending c.in-Some.is c.next.ensures.steps in
    (c.requires.server, subst (λ z. z ≤ 64) (sym (ap (λ (z : SendingParts). z.to) c.sending.view_is)) (c.requires.small c.in-Some.sending (get-has c.args.sent.items (length c.loop-sending.yielded) c.in-Some.sending (get-get_or c.args.sent.items (length c.loop-sending.yielded) c.in-Some.sending t.0 t.1))))

pub loop-sending-init : goal.loop-sending-init
loop-sending-init c = (refl, c.requires.outs.0, search rules, c.requires.outs.1, put_none c.args.sent.items c.args.server c.args.stamp c.args.links.now c.args.links.now refl c.requires.room)

pub loop-sending-preserved : goal.loop-sending-preserved
loop-sending-preserved c =
    let gives = c.into_iter-sending-iterator.ensures.into_iter_gives in
    let t = YieldsList-turn (YieldsList-from_vec {s = c.into_iter-sending-iterator.result} c.args.sent.items gives.0 (gives.1 ∙ c.args.sent.ok.0)) c.loop-sending.yielded c.loop-sending.sending-iterator c.loop-sending.yielded_by c.next.result c.next.new.self c.in-Some.sending c.in-Some.is c.next.ensures.steps in
    let at = get-get_or c.args.sent.items (length c.loop-sending.yielded) c.in-Some.sending t.0 t.1 in
    let longer = length-append c.loop-sending.yielded (c.in-Some.sending ∷ []) in
    let to-is = ap (λ (z : SendingParts). z.to) c.sending.view_is in
    let pushed : c.push.new.self.items ≡ c.loop-sending.outs.items ++ c.in-Some.sending.to ∷ [] = search (rules, to-is) in (
      prefix-more c.args.sent.items c.loop-sending.yielded c.in-Some.sending c.loop-sending.invariant.0 t.0 t.1,
      pushed ∙ ap (λ z. z ++ c.in-Some.sending.to ∷ []) c.loop-sending.invariant.1 ∙ sym (map-append (λ (s : SendingParts). s.to) c.loop-sending.yielded (c.in-Some.sending ∷ [])),
      search (rules, longer),
      search rules,
      put_more c.args.sent.items c.args.server c.args.stamp c.args.links.now c.loop-sending.yielded c.in-Some.sending c.loop-sending.links c.put.new.self (stamped_message_parts c.args.stamp c.sending.inside.message)
          c.loop-sending.invariant.4 at c.requires.apart (ap (waiting_as c.args.stamp) c.sending.view_is)
          (subst (λ z. messages_at c.put.new.self c.args.server z ≡ messages_at c.loop-sending.links c.args.server z ++ stamped_message_parts c.args.stamp c.sending.inside.message ∷ []) to-is c.put.ensures.here)
          (subst (λ z. (a b : ℕ) → (a ≡ c.args.server → b ≡ z → ⊥) → messages_at c.put.new.self a b ≡ messages_at c.loop-sending.links a b) to-is c.put.ensures.others)
          (subst (λ z. (a b : ℕ) → (a ≡ c.args.server → b ≡ z → ⊥) → has_room c.loop-sending.links a b ≡ true → has_room c.put.new.self a b ≡ true) to-is c.put.ensures.rooms),
    )
