use Rattle.std.proofs.Common.{◌≡◌, ◌≤◌, ◌<◌, ◌+◌, length, map, sym, subst, arith, rules}
use Rattle.std.specs.List.{range_with_len}
use Rattle.std.proofs.lemmas.Grind.{common_steps}
use Rattle.std.proofs.lemmas.List.FromFn.{map-range_with_len_more}
use Rattle.net_model.specs.Nets.{home_of}
use Rattle.sequential_network.specs.Stepping.{peers}
use Rattle.sequential_network.proofs.Commanding.{home_low}
use Rattle.sequential_network.proofs.TakeInboxes.{next_inbox}
use Rattle.thread_outcome.proofs.inboxes.take_inboxes.Goals as goal

pub loop-place-init : goal.loop-place-init
loop-place-init c = λ delivered have. (c.in_ok-lists.ensures.items, have)

pub take_inbox-requires-clause-home : goal.take_inbox-requires-clause-home
take_inbox-requires-clause-home c =
    let low = home_low c.args.net.now c.requires.sound (c.loop-place.place + 1) in
    let have = (c.loop-place.invariant c.requires.inboxes.0 c.requires.inboxes.1).1 in
    (low.0, subst (λ z. home_of c.args.net.now (c.loop-place.place + 1) ≤ z) (sym have.all) low.1)

pub shared-requires-clause-home : goal.shared-requires-clause-home
shared-requires-clause-home c =
    let low = home_low c.args.net.now c.requires.sound (c.loop-place.place + 1) in
    let have = (c.loop-place.invariant c.requires.inboxes.0 c.requires.inboxes.1).1 in
    (low.0, subst (λ z. home_of c.args.net.now (c.loop-place.place + 1) ≤ z) (sym have.all) low.1)

pub take_inbox-requires-clause-lives : goal.take_inbox-requires-clause-lives
take_inbox-requires-clause-lives c core at =
    let have = (c.loop-place.invariant c.requires.inboxes.0 c.requires.inboxes.1).1 in
    let within : c.loop-place.place < length c.args.net.now.clients = search rules in
    have.lives (c.loop-place.place + 1) core (omega arith) (omega (arith, within)) at

pub loop-place-preserved : goal.loop-place-preserved
loop-place-preserved c = λ delivered have.
    let net = c.args.net.now in
    let place = c.loop-place.place in
    let within : place < length net.clients = search rules in
    let so = c.loop-place.invariant delivered have in
    let next = next_inbox peers net delivered place c.loop-place.cores c.take_inbox.new.cores c.take_inbox.result c.requires.sound so.1 within c.take_inbox.ensures.inbox c.take_inbox.ensures.cores in
    let list : c.push.new.self.items ≡ map delivered (range_with_len 1 (place + 1)) =
    grind (arith, common_steps, so.0, next.0, map-range_with_len_more delivered 1 place (place + 1) (omega arith)) in
    (list, next.1)
