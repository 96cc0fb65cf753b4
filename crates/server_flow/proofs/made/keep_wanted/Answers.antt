use Rattle.std.proofs.Common.{◌≡◌, ◌↔◌, true, List, length, sym, ap, subst, ◌∙◌}
use Rattle.base.specs.Sets.{Has, IsRising}
use Rattle.base_bits.specs.Rows.{Numbers}
use Rattle.filter_types.specs.Before.{list_before}
use Rattle.filter_covering.specs.Laws.{sub_laws}
use Rattle.base_order.specs.Order.{picked}
use Rattle.filter_text.specs.declared.semantics.Semantics.{Semantics}
use Rattle.filter_text.specs.declared.semantics.Semantics.TheVariants.{Advertisement}
use Rattle.server_spec.specs.Control.{is_wanted}
use Rattle.net_tables.specs.Known.{known_filters, known_adverts}
use Rattle.server_control.specs.Offering.{IsUnion}
use Rattle.server_control.proofs.Wanted.{overlap-widths, overlaps-long}
use Rattle.server_flow.proofs.Needed.{wanted-kept}
use Rattle.server_flow.proofs.made.keep_wanted.Goals as goal

pub unite-requires-clause-held : goal.unite-requires-clause-held
unite-requires-clause-held c =
    c.requires.offered ∙ sym (ap length c.overlaps.ensures ∙ overlaps-long (known_filters c.args.tables.now.clients) (known_adverts c.args.tables.now.clients))

pub unite-requires-clause-width : goal.unite-requires-clause-width
unite-requires-clause-width c a l =
    overlap-widths (known_filters c.args.tables.now.clients) (known_adverts c.args.tables.now.clients) c.overlaps.result.now c.overlaps.ensures a l
    ∙ sym (c.in_ok-wanted-in-Advertisement.ensures.width ∙ (c.count.ensures ∙ ap length c.filters-filters.ensures))

pub returns-in_ok-wanted-in-Advertisement-clause-members : goal.returns-in_ok-wanted-in-Advertisement-clause-members
returns-in_ok-wanted-in-Advertisement-clause-members c k x at =
    let filters = known_filters c.args.tables.now.clients in
    let adverts = known_adverts c.args.tables.now.clients in
    let steered : c.args.tables.now.semantics ≡ Advertisement = sym c.semantics.ensures ∙ c.in-Advertisement.is in
    let union = subst (λ (z : List Numbers). IsUnion c.args.offered.now.members z c.unite.new.row.members) c.overlaps.ensures c.unite.ensures.union in
    subst (λ (z : Semantics). Has k c.keep_all.new.self.members ↔ (Has k c.args.due.now.members × (is_wanted z (picked (known_adverts c.args.tables.now.clients) c.args.offered.now.members) x ≡ true))) (sym steered)
    (wanted-kept sub_laws filters adverts (subst (IsRising list_before) c.filters-filters.ensures c.lemma_sorted.ensures.rising) c.args.offered.now.members c.unite.new.row.members union c.args.due.now.members c.keep_all.new.self.members
    c.keep_all.ensures.members k x at)
