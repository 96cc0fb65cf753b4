use Rattle.std.proofs.Common.{◌≡◌, Some, slice_get, get_or, subst, sym, ap, ap₂, ◌∙◌}
use Rattle.std.proofs.lemmas.Option.{slice_get-get_or}
use Rattle.base.specs.Sets.{Has}
use Rattle.base_bits.specs.Rows.{Numbers}
use Rattle.server_spec.proofs.Taken.{take-all}
use Rattle.server_spec.proofs.Ordering.{to-small}
use Rattle.server_control.specs.Held.{NetHeld, net_held}
use Rattle.server_flow.specs.Rows.{row_at, RepresentsHeld}
use Rattle.server_flow.proofs.Answering.{links-step, held-step}
use Rattle.server_flow.proofs.answer.held_links.Goals as goal
use Rattle.base.proofs.Sets.{get-has}

pub row-requires-clause-of : goal.row-requires-clause-of
row-requires-clause-of c =
    let at = slice_get-get_or c.neighbours-of-items.result.now c.loop-of.of-index 0 c.loop-of-test.true in
    let near = subst (Has (get_or c.neighbours-of-items.result.now c.loop-of.of-index 0)) c.neighbours-of-items.ensures.value (get-has c.neighbours-of-items.result.now c.loop-of.of-index (get_or c.neighbours-of-items.result.now c.loop-of.of-index 0) at) in
    to-small c.args.tree.now c.lemma_laws.ensures c.args.at (get_or c.neighbours-of-items.result.now c.loop-of.of-index 0) near

pub row-requires-in-loop-of-clause-of : goal.row-requires-in-loop-of-clause-of
row-requires-in-loop-of-clause-of c =
    let at = slice_get-get_or c.neighbours-of-items.result.now c.loop-of.of-index 0 c.loop-of-test.true in
    let near = subst (Has (get_or c.neighbours-of-items.result.now c.loop-of.of-index 0)) c.neighbours-of-items.ensures.value (get-has c.neighbours-of-items.result.now c.loop-of.of-index (get_or c.neighbours-of-items.result.now c.loop-of.of-index 0) at) in
    to-small c.args.tree.now c.lemma_laws.ensures c.args.at (get_or c.neighbours-of-items.result.now c.loop-of.of-index 0) near

pub of-requires-clause-filters : goal.of-requires-clause-filters
of-requires-clause-filters c =
    let at = slice_get-get_or c.neighbours-of-items.result.now c.loop-of.of-index 0 c.loop-of-test.true in
    let near = subst (Has (get_or c.neighbours-of-items.result.now c.loop-of.of-index 0)) c.neighbours-of-items.ensures.value (get-has c.neighbours-of-items.result.now c.loop-of.of-index (get_or c.neighbours-of-items.result.now c.loop-of.of-index 0) at) in
    ap (λ (z : Numbers). z.width) (c.in_ok-filters.ensures ∙ c.row.ensures) ∙ c.requires.filters c.args.at (get_or c.neighbours-of-items.result.now c.loop-of.of-index 0) near

pub of-requires-clause-adverts : goal.of-requires-clause-adverts
of-requires-clause-adverts c =
    let at = slice_get-get_or c.neighbours-of-items.result.now c.loop-of.of-index 0 c.loop-of-test.true in
    let near = subst (Has (get_or c.neighbours-of-items.result.now c.loop-of.of-index 0)) c.neighbours-of-items.ensures.value (get-has c.neighbours-of-items.result.now c.loop-of.of-index (get_or c.neighbours-of-items.result.now c.loop-of.of-index 0) at) in
    ap (λ (z : Numbers). z.width) (c.in_ok-adverts.ensures ∙ c.row-in-loop-of.ensures) ∙ c.requires.adverts c.args.at (get_or c.neighbours-of-items.result.now c.loop-of.of-index 0) near

pub loop-of-preserved : goal.loop-of-preserved
loop-of-preserved c =
    let at = slice_get-get_or c.neighbours-of-items.result.now c.loop-of.of-index 0 c.loop-of-test.true in
    let h : NetHeld = c.of.result in
    let is : c.of.result ≡ net_held c.args.tables.now (get_or c.neighbours-of-items.result.now c.loop-of.of-index 0) (row_at c.args.table.now c.args.at (get_or c.neighbours-of-items.result.now c.loop-of.of-index 0)).members (row_at c.args.offers.now c.args.at (get_or c.neighbours-of-items.result.now c.loop-of.of-index 0)).members =
    c.of.ensures ∙ ap₂ (λ x y. net_held c.args.tables.now (get_or c.neighbours-of-items.result.now c.loop-of.of-index 0) x y) (ap (λ (z : Numbers). z.members) (c.in_ok-filters.ensures ∙ c.row.ensures)) (ap (λ (z : Numbers). z.members) (c.in_ok-adverts.ensures ∙ c.row-in-loop-of.ensures)) in
    let link : c.of.result.held.link ≡ (get_or c.neighbours-of-items.result.now c.loop-of.of-index 0) = ap (λ (z : NetHeld). z.held.link) is in
    record {
      links = links-step c.loop-of.links.items c.push.new.self.items h c.neighbours-of-items.result.now c.loop-of.of-index c.in_ok-push.ensures.items (subst (λ z. slice_get c.neighbours-of-items.result.now c.loop-of.of-index ≡ Some z) (sym link) at) c.loop-of.invariant.links;
      held = held-step (RepresentsHeld c.args.tables.now c.args.table.now c.args.offers.now c.args.at) c.loop-of.links.items c.push.new.self.items h c.in_ok-push.ensures.items
          (subst (λ z. c.of.result ≡ net_held c.args.tables.now z (row_at c.args.table.now c.args.at z).members (row_at c.args.offers.now c.args.at z).members) (sym link) is) c.loop-of.invariant.held;
    }

pub returns-clause-links : goal.returns-clause-links
returns-clause-links c = c.loop-of.invariant.links ∙ take-all c.neighbours-of-items.result.now c.loop-of.of-index c.loop-of-test.false ∙ c.neighbours-of-items.ensures.value
