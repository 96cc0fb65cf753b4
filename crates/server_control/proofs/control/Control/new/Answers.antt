use Rattle.std.proofs.Common.{rules, ◌≡◌, List, length, sym, ap, ap₂, subst, ◌∙◌, slice_get}
use Rattle.filter_types.specs.Before.{list_before}
use Rattle.filter_constraints.specs.Constraint.{ConstraintParts}
use Rattle.filter_text.specs.Messages.{Lists}
use Rattle.server_stock.specs.Stock.{Holding, held_from}
use Rattle.server_stock.proofs.Counts.{get-replicate}
use Rattle.net_tables.specs.Related.{overlap_rows}
use Rattle.server_control.specs.Control.{Offers}
use Rattle.server_control.proofs.control.Control.new.Goals as goal

pub invariant_of-result : goal.invariant_of-result
invariant_of-result c =
    let f = c.in_ok-filters.ensures in
    let a = c.in_ok-adverts.ensures in
    let s = c.close_unwanted.ensures in
    let items : c.close_unwanted.new.filters.items ≡ c.args.filters.now = s.items ∙ f.items in
    let e1 : c.in_ok-to_vec.field-0.items ≡ c.args.interfaces.now = search rules in
    let e2 : c.in_ok-to_vec-2.field-0.items ≡ c.args.interfaces.now = search rules in
    record {
      interfaces = (a.interfaces ∙ e2) ∙ sym (s.interfaces ∙ (f.interfaces ∙ e1));
      links = a.links ∙ sym (s.links ∙ f.links);
      rows = c.requires.overlaps ∙ ap₂ overlap_rows (sym items) (sym a.items);
      width = c.in_ok-offered.ensures.width ∙ (c.count.ensures ∙ ap length (sym items));
      wanted = λ p link offered e g.
          subst (λ (z : Lists). Offers c.args.semantics (held_from list_before link c.in_ok-adverts.adverts.holdings) z offered) (sym s.items)
          (subst (λ (z : List (Holding (List ConstraintParts))). Offers c.args.semantics (held_from list_before link z) c.in_ok-filters.filters.items offered) (sym a.holdings)
          (s.offered p offered g));
      all = λ p offered g. get-replicate c.args.links p c.args.adverts.now offered (ap (λ (z : List Lists). slice_get z p) (sym a.offered) ∙ g) ∙ sym a.items;
    }
