use Rattle.std.proofs.Common.{◌≡◌, ◌<◌, ◌≤◌, length, get_or, slice_get, Some, false, nat_lt, sym, ap, subst, ◌∙◌, arith}
use Rattle.std.proofs.lemmas.List.{length-map, get_or_default}
use Rattle.std.proofs.lemmas.Bool.Decides.{nat_tests}
use Rattle.base.proofs.Lists.{get-get_or}
use Rattle.base_devices.proofs.Outlets.{went-nothing}
use Rattle.base_devices.specs.Pending.{outlet, Went}
use Rattle.filter_text.specs.Deliveries.{Delivery}
use Rattle.net_inbox.specs.Inbox.{delivery_at, in_order}
use Rattle.output_patterns.specs.Found.{id_text}
use Rattle.output_patterns.proofs.Lookup.{no-place, place-at}
use Rattle.output_patterns.proofs.writing.put_place.Goals as goal

pub returns-then-at-numbers : goal.returns-then-at-numbers
returns-then-at-numbers g c =
    let o = outlet (g.K.Sink.state c.args.sink.now) c.args.out.now in
    let long = length-map c.args.heard.received.numbers.now (delivery_at c.args.heard.received.deliveries.now) in
    let past : nat_lt c.in-Some.at (length (in_order c.args.heard.received)) ≡ false = grind (arith, nat_tests, long, c.if-at-numbers.true) in
    subst (Went o o) (sym (no-place c.args.heard.names.now (in_order c.args.heard.received) c.args.place c.in-Some.at c.in-Some.ensures.0 c.in-Some.ensures.1 past)) (went-nothing o)

pub returns : goal.returns
returns g c =
    let names = c.args.heard.names.now in
    let all = c.args.heard.received.deliveries.now in
    let numbers = c.args.heard.received.numbers.now in
    let at = c.in-Some.at in
    let n = get_or numbers at 0 in
    let old = outlet (g.K.Sink.state c.args.sink.now) c.args.out.now in
    let new = outlet (g.K.Sink.state c.put_id.new.sink) c.put_id.new.out in
    let within : at < length numbers = omega (arith, c.if-at-numbers.false) in
    let there : slice_get numbers at ≡ Some n = get-get_or numbers at n within (get_or_default numbers at 0 n within) in
    let id = ap (λ (d : Delivery). d.id) (c.delivery.view_is ∙ c.at-delivery.ensures) in
    subst (Went old new) (ap (id_text names) id ∙ place-at names all numbers c.args.place at n c.in-Some.ensures.0 c.in-Some.ensures.1 there) c.put_id.ensures
