use Rattle.std.proofs.Common.{◌≡◌, ◌∙◌, ap, arith}
use Rattle.net_model.specs.Parts.{NetParts}
use Rattle.net_model.specs.Nets.{most_barriers}
use Rattle.net_model.proofs.Walking.{most-end, most-low}
use Rattle.net_model.proofs.net.Net.phases.Goals as goal

pub overflow_add-result : goal.overflow_add-result
overflow_add-result c =
    let same : c.deref-client-items.result.now ≡ c.args.self.now.clients = c.deref-client-items.ensures.value ∙ ap (λ (n : NetParts). n.clients) c.self.view_is in
    let most : c.loop-client.most ≡ most_barriers c.deref-client-items.result.now = most-end c.deref-client-items.result.now c.loop-client.client-index c.loop-client.most c.loop-client-test.false c.loop-client.invariant in
    omega (arith, most ∙ ap most_barriers same, most-low 4095 c.args.self.now.clients (λ x h. (c.requires.clients x h).barriers))
