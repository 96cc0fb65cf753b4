use Rattle.std.proofs.Common.{◌↔◌, ℕ, ◌+◌, List, get_or, sym, ap, subst, ◌∙◌, arith}
use Rattle.std.proofs.lemmas.Option.{slice_get-get_or}
use Rattle.base.specs.Sets.{Has}
use Rattle.server_spec.specs.Control.{subs, advs}
use Rattle.server_spec.proofs.Taken.{take-all}
use Rattle.server_core.specs.Core.{CoreParts}
use Rattle.sequential_network.specs.Begin.{RepresentsHome}
use Rattle.server_spec.proofs.FirstClients.{home-none, home-step}
use Rattle.sequential_network.proofs.begin.home.Goals as goal
use Rattle.base.proofs.Sets.{get-has}

pub loop-client-init : goal.loop-client-init
loop-client-init c = record {
  net = c.in_ok-home.ensures.net ∙ c.tables.ensures;
  filters = home-none (λ client. subs c.core-core.result.now.control (64 + client)) c.clients-client-items.result.now c.in_ok-home.home.home.filters c.in_ok-home.ensures.filters;
  adverts = home-none (λ client. advs c.core-core.result.now.control (64 + client)) c.clients-client-items.result.now c.in_ok-home.home.home.adverts c.in_ok-home.ensures.adverts;
}

pub interface_of-requires : goal.interface_of-requires
interface_of-requires c =
    let at = slice_get-get_or c.clients-client-items.result.now c.loop-client.client-index 0 c.loop-client-test.true in
    let low = c.clients-client-items.ensures.low (get_or c.clients-client-items.result.now c.loop-client.client-index 0) (subst (Has (get_or c.clients-client-items.result.now c.loop-client.client-index 0)) c.clients-client-items.ensures.clients
    (get-has c.clients-client-items.result.now c.loop-client.client-index (get_or c.clients-client-items.result.now c.loop-client.client-index 0) at)) in
    omega (arith, low)

pub put-requires : goal.put-requires
put-requires c = c.in_ok-held.ensures.net ∙ sym c.loop-client.invariant.net

pub loop-client-preserved : goal.loop-client-preserved
loop-client-preserved c =
    let x = get_or c.clients-client-items.result.now c.loop-client.client-index 0 in
    let at = slice_get-get_or c.clients-client-items.result.now c.loop-client.client-index 0 c.loop-client-test.true in
    record {
      net = c.put.ensures.net ∙ c.loop-client.invariant.net;
      filters = home-step (λ client. subs c.core-core.result.now.control (64 + client)) c.clients-client-items.result.now c.loop-client.client-index x at c.loop-client.home.home.filters c.put.new.self.home.filters c.in_ok-held.held.held.filters (c.in_ok-held.ensures.filters ∙ ap (subs c.core-core.result.now.control) c.interface_of.ensures) c.put.ensures.filters c.loop-client.invariant.filters;
      adverts = home-step (λ client. advs c.core-core.result.now.control (64 + client)) c.clients-client-items.result.now c.loop-client.client-index x at c.loop-client.home.home.adverts c.put.new.self.home.adverts c.in_ok-held.held.held.adverts (c.in_ok-held.ensures.adverts ∙ ap (advs c.core-core.result.now.control) c.interface_of.ensures) c.put.ensures.adverts c.loop-client.invariant.adverts;
    }

pub returns : goal.returns
returns c =
    let whole = take-all c.clients-client-items.result.now c.loop-client.client-index c.loop-client-test.false ∙ c.clients-client-items.ensures.clients in
    subst (λ (z : CoreParts). RepresentsHome z c.loop-client.home) c.core-core.ensures (record {
      net = c.loop-client.invariant.net;
      filters = λ f. subst (λ (z : List ℕ). Has f c.loop-client.home.home.filters ↔ ((client : ℕ) × Has client z × Has f (subs c.core-core.result.now.control (64 + client)))) whole (c.loop-client.invariant.filters f);
      adverts = λ f. subst (λ (z : List ℕ). Has f c.loop-client.home.home.adverts ↔ ((client : ℕ) × Has client z × Has f (advs c.core-core.result.now.control (64 + client)))) whole (c.loop-client.invariant.adverts f);
    })
