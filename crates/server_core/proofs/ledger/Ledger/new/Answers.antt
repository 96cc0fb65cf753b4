use Rattle.std.proofs.Common.{◌≡◌, ◌<◌, ◌^◌, [], take, length, sym, ap, subst, ◌∙◌}
use Rattle.server_spec.specs.Control.{by_adverts}
use Rattle.server_control.specs.Control.{Controlled as Numbered}
use Rattle.server_core.specs.Keeps.{IsLedger}
use Rattle.server_core.specs.Showing.{shown}
use Rattle.server_core.proofs.Changed.{first-kept, first-shown, none-held}
use Rattle.server_core.proofs.ledger.Ledger.new.Goals as goal

pub invariant_of-result : goal.invariant_of-result
invariant_of-result c =
    let e = c.in_ok-control.ensures in
    let control = c.in_ok-control.control in
    let links : c.in_ok-links.links.items ≡ take c.args.links c.args.interfaces.now = c.in_ok-links.ensures.items_if_clones_equal (λ x y h. h) in
    let same : length control.adverts.announced ≡ length control.filters.announced =
    subst (λ (z : Numbered). length z.adverts.announced ≡ length z.filters.announced) c.control.view_is c.control.invariant.links in
    subst (λ (z : Numbered). IsLedger c.args.tables.now c.in_ok-links.links.items control z c.new-2.result.items) (sym c.of-installed.ensures)
    (subst (IsLedger c.args.tables.now c.in_ok-links.links.items control control) (sym c.new-2.ensures.items)
    (first-kept c.args.tables.now c.in_ok-links.links.items control (links ∙ sym (ap (λ n. take n control.filters.interfaces) e.links ∙ ap (take c.args.links) e.filter_interfaces)) (λ on. e.semantics ∙ c.requires.semantics (ap by_adverts (sym e.semantics) ∙ on))
    (e.filter_items ∙ c.filters.ensures) (e.advert_items ∙ c.adverts.ensures) (subst (λ z. length z < 2 ^ 32) (sym e.filter_interfaces) c.requires.few) (e.advert_interfaces ∙ sym e.filter_interfaces) same))

pub returns-clause-control : goal.returns-clause-control
returns-clause-control c =
    let e = c.in_ok-control.ensures in
    first-shown c.in_ok-control.control c.args.semantics c.args.interfaces.now c.args.links e.semantics e.filter_interfaces e.links e.filters e.adverts

pub returns-clause-installed : goal.returns-clause-installed
returns-clause-installed c =
    let e = c.in_ok-control.ensures in
    subst (λ (z : Numbered). (shown z).filters ≡ []) (sym c.of-installed.ensures) (none-held c.in_ok-control.control.filters.interfaces c.in_ok-control.control.filters.holdings e.filters)
