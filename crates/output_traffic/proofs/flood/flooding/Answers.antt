use Rattle.std.proofs.Common.{◌<◌, length, get_or, ap, ◌∙◌, arith}
use Rattle.output_traffic.proofs.Clients.{flood-is, lives, refused-at, refused-long}
use Rattle.output_traffic.proofs.flood.flooding.Goals as goal

pub loop-i-init : goal.loop-i-init
loop-i-init c from to lf lt small = omega (arith, c.in_ok-counts.ensures from to lf lt (omega arith), flood-is c.args.net.now from to)

pub bounds-refused-i : goal.bounds-refused-i
bounds-refused-i c =
    let shown = c.deref-client-items.ensures.value ∙ ap (λ n. n.clients) c.net.view_is in
    omega (arith, c.loop-i-test.true, ap length shown, refused-long c.args.net.now c.args.refused.now c.requires.refused)

pub add_client-requires-clause-home : goal.add_client-requires-clause-home
add_client-requires-clause-home c =
    let shown = c.deref-client-items.ensures.value ∙ ap (λ n. n.clients) c.net.view_is in
    let here : c.loop-i.i < length c.args.net.now.clients = omega (arith, c.loop-i-test.true, ap length shown) in
    lives c.args.net.now c.requires.sound c.loop-i.i c.client-item.result here (c.client-item.is ∙ ap (λ z. get_or z c.loop-i.i c.client-item.result) shown)

pub add_client-requires-clause-refused : goal.add_client-requires-clause-refused
add_client-requires-clause-refused c =
    let shown = c.deref-client-items.ensures.value ∙ ap (λ n. n.clients) c.net.view_is in
    let here : c.loop-i.i < length c.args.net.now.clients = omega (arith, c.loop-i-test.true, ap length shown) in
    c.as_slice.ensures
    ∙ refused-at c.args.net.now c.args.refused.now c.loop-i.i c.client-item.result c.index-refused-i.result c.requires.refused here (c.client-item.is ∙ ap (λ z. get_or z c.loop-i.i c.client-item.result) shown) c.index-refused-i.is
