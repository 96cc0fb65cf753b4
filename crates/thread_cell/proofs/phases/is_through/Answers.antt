use Rattle.std.proofs.Common.{suc, length, slice_get, refl, sym, ap, subst, ◌∙◌, arith}
use Rattle.base.specs.Sets.{Has}
use Rattle.net_model.specs.Parts.{ClientParts, NetParts}
use Rattle.server_core.specs.Clients.{client_numbers}
use Rattle.thread_cell.specs.Cell.{IsPast}
use Rattle.thread_cell.proofs.Housed.{at-home, all-past, one-more}
use Rattle.thread_cell.proofs.phases.is_through.Goals.{else-index-server-via-then-index-server+else-not-is_past, else-index-server-via-else-index-server}
use Rattle.thread_cell.proofs.phases.is_through.Goals as goal
use Rattle.base.proofs.Lists.{get-index}

pub overflow_cast-place : goal.overflow_cast-place
overflow_cast-place c =
    let few = c.requires.sound.few in
    let n = ap (λ (z : NetParts). length z.clients) c.net.view_is in
    search (arith, few, n, c.len-place-end.ensures, c.loop-place-test.true)

pub overflow_add-place : goal.overflow_add-place
overflow_add-place c =
    let few = c.requires.sound.few in
    let n = ap (λ (z : NetParts). length z.clients) c.net.view_is in
    search (arith, few, n, c.len-place-end.ensures, c.loop-place-test.true)

pub is_past-requires-clause-lives : goal.is_past-requires-clause-lives
is_past-requires-clause-lives c =
    subst (λ k. Has k (client_numbers c.args.core.now.clients)) (omega arith)
    (subst (Has (suc c.loop-place.place)) c.requires.clients
    (at-home c.args.net.now c.args.server c.loop-place.place c.index.result.now
    (ap (λ (z : NetParts). slice_get z.clients c.loop-place.place) (sym c.net.view_is) ∙ get-index c.net.inside.clients.items c.loop-place.place c.index.result.now (omega (arith, c.len-place-end.ensures, c.loop-place-test.true)) c.index.ensures)
    (ap (λ (z : ClientParts). z.home) (sym c.behind-net.view_is) ∙ c.if-index-server.true)))

pub loop-place-preserved : goal.loop-place-preserved
loop-place-preserved c place client lt e h =
    one-more c.args.net.now c.args.server c.args.phase c.loop-place.place c.index.result.now c.args.core.now.clients
    (ap (λ (z : NetParts). slice_get z.clients c.loop-place.place) (sym c.net.view_is) ∙ get-index c.net.inside.clients.items c.loop-place.place c.index.result.now (omega (arith, c.len-place-end.ensures, c.loop-place-test.true)) c.index.ensures)
    c.loop-place.invariant
    (λ q. elim c.else-index-server.branch [
      | else-index-server-via-then-index-server+else-not-is_past w ↦ subst (λ k. IsPast c.args.phase k c.args.core.now.clients) (omega arith) (w.is_past.ensures.0 w.if-not-is_past.false)
      | else-index-server-via-else-index-server w ↦ absurd (w.if-index-server.false (ap (λ (z : ClientParts). z.home) c.behind-net.view_is ∙ q))
    ])
    place client (omega (arith, lt)) e h

pub returns : goal.returns
returns c = (
  λ t. all-past c.args.net.now c.args.server c.args.phase c.loop-place.place c.args.core.now.clients c.requires.clients
      (let n = ap (λ (z : NetParts). length z.clients) c.net.view_is in omega (arith, n, c.len-place-end.ensures, c.loop-place-test.false)) c.loop-place.invariant,
  λ none. refl,
)
