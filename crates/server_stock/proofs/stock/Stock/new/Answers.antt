use Rattle.std.proofs.Common.{true, [], slice_get, length, map, replicate, ap, sym, subst, ◌∙◌, arith}
use Rattle.std.proofs.lemmas.List.{length-replicate}
use Rattle.base_bits.specs.Words.{passing}
use Rattle.base_order.specs.Order.{picked}
use Rattle.server_stock.specs.Sides.{empty_side, offered_at, IsSide}
use Rattle.server_stock.proofs.Counts.{needs-none, get-replicate}
use Rattle.server_stock.proofs.Turns.{side-empty}
use Rattle.server_stock.proofs.Shown.{holds-nothing, map-replicate, picked-all}
use Rattle.server_stock.proofs.stock.Stock.new.Goals as goal

pub invariant_of-result : goal.invariant_of-result
invariant_of-result g c =
    let items = c.args.order.now in
    let rows = c.in_ok-held.held.rows in
    let n = c.count-width.result in
    let w = c.count-width.ensures in
    let h = c.in_ok-held.ensures in
    let s = c.in_ok-sides.ensures in
    let r = c.requires in
    let places = ap length h.rows ∙ length-replicate c.len.result (record { width = n; members = [] }) in
    let links = ap length s ∙ length-replicate c.args.links (empty_side n) in
    record {
      rising = r.rising;
      long = omega (arith, places);
      links = record {
        width = h.width ∙ w;
        few = omega (arith, r.links, places, links);
        each = λ p x e.
            subst (IsSide g.T.Cover.covering items rows p) (ap empty_side (sym w) ∙ sym (get-replicate c.args.links p (empty_side n) x (sym (ap (λ z. slice_get z p) s) ∙ e)))
            (side-empty g.T.Cover.covering items rows p (λ k. needs-none c.len.result n rows p k h.rows));
      };
    }

pub returns-clause-holdings : goal.returns-clause-holdings
returns-clause-holdings g c = holds-nothing c.len.result c.count-width.result c.args.order.now c.args.interfaces.items c.in_ok-held.held.rows c.in_ok-held.ensures.rows

pub returns-clause-offered : goal.returns-clause-offered
returns-clause-offered g c =
    let items = c.args.order.now in
    let n = c.count-width.result in
    ap (map (offered_at items)) c.in_ok-sides.ensures
    ∙ (map-replicate (offered_at items) c.args.links (empty_side n)
    ∙ ap (replicate c.args.links) (ap (λ w. picked items (passing (λ k. true) w)) c.count-width.ensures
    ∙ picked-all g.met.T.Cover.laws items c.lemma_sorted.ensures.rising c.args.interfaces.items c.requires.rising))
