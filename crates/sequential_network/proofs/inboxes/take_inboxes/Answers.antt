use Rattle.std.proofs.Common.{◌≡◌, ◌≤◌, ◌<◌, ◌+◌, length, map, refl, sym, ap, subst, ◌∙◌, arith, rules}
use Rattle.std.specs.List.{range_with_len}
use Rattle.std.proofs.lemmas.Grind.{common_steps}
use Rattle.std.proofs.lemmas.List.FromFn.{map-range_with_len_more}
use Rattle.net_model.specs.Parts.{NetParts}
use Rattle.net_tables.specs.Found.{known_deliveries}
use Rattle.net_model.specs.Nets.{home_of}
use Rattle.sequential_network.proofs.Commanding.{home_low}
use Rattle.sequential_network.proofs.TakeInboxes.{next_inbox}
use Rattle.sequential_network.proofs.inboxes.take_inboxes.Goals as goal

pub loop-place-init : goal.loop-place-init
loop-place-init g c = record { listed = λ delivered have. (c.in_ok-lists.ensures.items, have); journal = refl }

pub take_inbox-requires : goal.take_inbox-requires
take_inbox-requires g c =
    let low = home_low c.args.net.now c.requires.sound (c.loop-place.place + 1) in
    let have = (c.loop-place.invariant.listed c.requires.inboxes.0 c.requires.inboxes.1).1 in
    let within : c.loop-place.place < length c.args.net.now.clients = search rules in
    λ k. (
      (refl, tt),
      (
        (omega arith, omega (arith, within)),
        (
          (low.0, subst (λ z. home_of c.args.net.now (c.loop-place.place + 1) ≤ z) (sym have.all) low.1),
          (
            (λ core at. have.lives (c.loop-place.place + 1) core (omega arith) (omega (arith, within)) at),
            (λ core at. c.in_ok-deliveries.ensures ∙ c.requires.deliveries ∙ ap (λ (n : NetParts). known_deliveries n.clients) (sym (have.nets (c.loop-place.place + 1) core (omega arith) (omega (arith, within)) at))),
          ),
        ),
      ),
    )

pub loop-place-preserved : goal.loop-place-preserved
loop-place-preserved g c =
    let net = c.args.net.now in
    let place = c.loop-place.place in
    let within : place < length net.clients = search rules in
    record {
      listed = λ delivered have.
          let so = c.loop-place.invariant.listed delivered have in
          let next = next_inbox g.P.Server.stepping net delivered place c.loop-place.servers.places.items c.take_inbox.new.places.items c.take_inbox.result c.requires.sound so.1 within c.take_inbox.ensures.inbox c.take_inbox.ensures.places in
          let list : c.push.new.self.items ≡ map delivered (range_with_len 1 (place + 1)) =
          grind (arith, common_steps, so.0, next.0, map-range_with_len_more delivered 1 place (place + 1) (omega arith)) in
          (list, next.1);
      journal = c.loop-place.invariant.journal;
    }
