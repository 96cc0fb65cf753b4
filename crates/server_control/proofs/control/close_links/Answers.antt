use Rattle.std.proofs.Common.{◌≡◌, inl, inr, ◌<◌, [], length, slice_get, sym, ap, ◌∙◌, arith}
use Rattle.std.proofs.lemmas.Bool.{cases_eq}
use Rattle.std.proofs.lemmas.List.{length-set}
use Rattle.std.proofs.lemmas.Option.{same_Some}
use Rattle.base_order.specs.Order.{picked}
use Rattle.base_order.proofs.Over.{get-set-same, get-set-other}
use Rattle.filter_text.specs.Messages.{Lists}
use Rattle.server_stock.proofs.Turns.{get-within}
use Rattle.server_control.proofs.control.close_links.Goals as goal

pub loop-p-preserved : goal.loop-p-preserved
loop-p-preserved c =
    let v = c.loop-p.invariant in
    let s = c.offer.ensures in
    let p = c.loop-p.p in
    let old = c.loop-p.filters.offered in
    let now : Lists = picked c.loop-p.filters.items c.args.none.now.members in
    let nothing : now ≡ [] = ap (picked c.loop-p.filters.items) c.requires.none in
    record {
      items = s.items ∙ v.items;
      interfaces = s.interfaces ∙ v.interfaces;
      holdings = s.holdings ∙ v.holdings;
      links = s.links ∙ v.links;
      long = ap length s.offered ∙ (length-set old p now ∙ v.long);
      offered = λ q o l e. elim (cases_eq q p) [
        | inl w ↦
            let there : p < length old = omega (arith, v.long, c.lemma_sound.ensures.offered, c.requires.links, c.loop-p-test.true) in
            sym (same_Some now o (sym (get-set-same old p now there) ∙ (ap (λ z. slice_get z p) (sym s.offered) ∙ (ap (slice_get c.offer.new.self.offered) (sym w) ∙ e)))) ∙ nothing
        | inr d ↦ v.offered q o (omega (arith, l, d)) (sym (get-set-other old p q now d) ∙ (ap (λ z. slice_get z q) (sym s.offered) ∙ e))
      ];
    }

pub returns-clause-offered : goal.returns-clause-offered
returns-clause-offered c q o e =
    let v = c.loop-p.invariant in
    let l = get-within c.loop-p.filters.offered q o e in
    v.offered q o (omega (arith, l, v.long, c.lemma_sound.ensures.offered, c.requires.links, c.loop-p-test.false)) e
