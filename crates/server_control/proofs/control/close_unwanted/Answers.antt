use Rattle.std.proofs.Common.{◌≡◌, [], slice_get, sym, ap, subst, ◌∙◌}
use Rattle.base.specs.Sets.{Has}
use Rattle.base.proofs.Sets.{member-iff}
use Rattle.filter_covering.specs.Laws.{sub_laws}
use Rattle.filter_text.specs.declared.semantics.Semantics.{Semantics}
use Rattle.server_stock.proofs.Counts.{get-replicate}
use Rattle.server_control.specs.Control.{is_wanted}
use Rattle.server_control.proofs.control.close_unwanted.Goals as goal

pub returns-in-Subscription-clause-offered : goal.returns-in-Subscription-clause-offered
returns-in-Subscription-clause-offered c p offered e f h =
    let items = c.args.filters.now.items in
    let all : offered ≡ items = get-replicate c.args.links p items offered (ap (λ z. slice_get z p) (sym c.requires.all) ∙ e) in
    (member-iff sub_laws f offered).1 (subst (Has f) (sym all) h) ∙ sym (ap (λ (s : Semantics). is_wanted s [] f) c.in-Subscription.is)
