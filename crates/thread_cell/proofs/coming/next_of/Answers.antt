use Rattle.std.proofs.Common.{◌≡◌, suc, length, slice_get, Some, sym, ap, subst, ◌∙◌, arith}
use Rattle.std.specs.Prelude.{IfSome}
use Rattle.thread_cell.specs.Turns.{HasCommand}
use Rattle.base.specs.Sets.{Has}
use Rattle.net_model.specs.Parts.{ClientParts, NetParts}
use Rattle.server_core.specs.Clients.{client_numbers}
use Rattle.thread_cell.specs.Coming.{IsFrom}
use Rattle.thread_cell.proofs.Housed.{at-home}
use Rattle.thread_cell.proofs.Comings.{AreFromLeast, all-from, least-more, least-same}
use Rattle.thread_cell.proofs.coming.next_of.Goals.{then-index-server, else-index-server}
use Rattle.thread_cell.proofs.coming.next_of.Goals as goal
use Rattle.base.proofs.Lists.{get-index}

pub overflow_cast-place : goal.overflow_cast-place
overflow_cast-place c =
    let few = c.requires.sound.few in
    let n = ap (λ (z : NetParts). length z.clients) c.net.view_is in
    search (arith, few, n, c.len-place-end.ensures, c.loop-place-test.true)

pub overflow_add-place : goal.overflow_add-place
overflow_add-place c =
    let few = c.requires.sound.few in
    let n = ap (λ (z : NetParts). length z.clients) c.net.view_is in
    search (arith, few, n, c.len-place-end.ensures, c.loop-place-test.true)

pub next_at-requires-clause-lives : goal.next_at-requires-clause-lives
next_at-requires-clause-lives c =
    subst (λ k. Has k (client_numbers c.args.core.now.clients)) (omega arith)
    (subst (Has (suc c.loop-place.place)) c.requires.clients
    (at-home c.args.net.now c.args.server c.loop-place.place c.index.result.now
    (ap (λ (z : NetParts). slice_get z.clients c.loop-place.place) (sym c.net.view_is) ∙ get-index c.net.inside.clients.items c.loop-place.place c.index.result.now (omega (arith, c.len-place-end.ensures, c.loop-place-test.true)) c.index.ensures)
    (ap (λ (z : ClientParts). z.home) (sym c.behind-net.view_is) ∙ c.if-index-server.true)))

pub loop-place-preserved : goal.loop-place-preserved
loop-place-preserved c =
    subst (λ n. AreFromLeast c.args.net.now c.args.server c.args.core.now n c.if-index-server.least) (omega arith)
    (elim c.if-index-server.branch [
      | then-index-server w ↦ subst (AreFromLeast c.args.net.now c.args.server c.args.core.now (suc c.loop-place.place)) (sym w.least-is)
          (least-more c.args.net.now c.args.server c.args.core.now c.loop-place.place c.index.result.now c.loop-place.least w.next_at.result w.earlier-least.result at c.loop-place.invariant
          w.earlier-least.ensures.one w.earlier-least.ensures.other w.earlier-least.ensures.either
          (subst (λ k. IsFrom w.next_at.result k c.args.core.now.clients) (omega arith) w.next_at.ensures.from)
          (subst (λ k. IfSome w.next_at.result (λ phase. HasCommand c.args.core.now k phase)) (omega arith) w.next_at.ensures.own))
      | else-index-server w ↦ subst (AreFromLeast c.args.net.now c.args.server c.args.core.now (suc c.loop-place.place)) (sym w.least-is)
          (least-same c.args.net.now c.args.server c.args.core.now c.loop-place.place c.index.result.now c.loop-place.least at c.loop-place.invariant
          (λ q. w.if-index-server.false (ap (λ (z : ClientParts). z.home) c.behind-net.view_is ∙ q)))
    ])
  where
    at : slice_get c.args.net.now.clients c.loop-place.place ≡ Some c.index.result.now
    at = ap (λ (z : NetParts). slice_get z.clients c.loop-place.place) (sym c.net.view_is) ∙ get-index c.net.inside.clients.items c.loop-place.place c.index.result.now (omega (arith, c.len-place-end.ensures, c.loop-place-test.true)) c.index.ensures

pub returns-clause-from : goal.returns-clause-from
returns-clause-from c =
    let n = ap (λ (z : NetParts). length z.clients) c.net.view_is in
    all-from c.args.net.now c.args.server c.loop-place.place c.args.core.now.clients c.loop-place.least c.requires.clients
    (omega (arith, n, c.len-place-end.ensures, c.loop-place-test.false)) c.loop-place.invariant.0
