use Rattle.std.proofs.Common.{◌≡◌, ◌⊎◌, ◌↔◌, ℕ, List, length, sym, ap, subst, ◌∙◌}
use Rattle.filter_constraints.specs.Constraint.{ConstraintParts}
use Rattle.base.specs.Sets.{Has}
use Rattle.base_order.specs.Order.{picked}
use Rattle.net_model.specs.Parts.{NetParts}
use Rattle.net_tables.specs.Known.{known_filters, known_adverts}
use Rattle.server_flow.specs.Homes.{NetHome}
use Rattle.server_flow.proofs.Needed.{picked-union}
use Rattle.server_flow.proofs.home.Home.put.Goals as goal

pub insert_all-requires : goal.insert_all-requires
insert_all-requires c = c.filters.ensures.width ∙ (ap (λ (z : NetParts). length (known_filters z.clients)) (c.requires ∙ ap (λ (z : NetHome). z.net) (sym c.self.view_is)) ∙ sym c.self.invariant.filters_wide)

pub insert_all-requires-2 : goal.insert_all-requires-2
insert_all-requires-2 c = c.adverts.ensures.width ∙ (ap (λ (z : NetParts). length (known_adverts z.clients)) (c.requires ∙ ap (λ (z : NetHome). z.net) (sym c.self.view_is)) ∙ sym c.self.invariant.adverts_wide)

pub returns-clause-filters : goal.returns-clause-filters
returns-clause-filters c x =
    let clients = c.self.inside.tables.now.clients in
    let same : c.args.held.now.net ≡ c.self.inside.tables.now = c.requires ∙ ap (λ (z : NetHome). z.net) (sym c.self.view_is) in
    let given : picked (known_filters clients) c.filters.result.now.members ≡ c.args.held.now.held.filters = ap (λ (z : NetParts). picked (known_filters z.clients) c.filters.result.now.members) (sym same) ∙ c.filters.ensures.represents in
    subst (λ (z : List (List ConstraintParts)). Has x (picked (known_filters clients) c.insert_all.new.self.members) ↔ (Has x z ⊎ Has x c.args.held.now.held.filters)) (ap (λ (z : NetHome). z.home.filters) c.self.view_is)
    (subst (λ (z : List (List ConstraintParts)). Has x (picked (known_filters clients) c.insert_all.new.self.members) ↔ (Has x (picked (known_filters clients) c.self.inside.filters.members) ⊎ Has x z)) given
    (subst (λ (z : List ℕ). Has x (picked (known_filters clients) z) ↔ (Has x (picked (known_filters clients) c.self.inside.filters.members) ⊎ Has x (picked (known_filters clients) c.filters.result.now.members))) (sym c.insert_all.ensures.members)
    (picked-union (known_filters clients) c.filters.result.now.members c.self.inside.filters.members x)))

pub returns-clause-adverts : goal.returns-clause-adverts
returns-clause-adverts c x =
    let clients = c.self.inside.tables.now.clients in
    let same : c.args.held.now.net ≡ c.self.inside.tables.now = c.requires ∙ ap (λ (z : NetHome). z.net) (sym c.self.view_is) in
    let given : picked (known_adverts clients) c.adverts.result.now.members ≡ c.args.held.now.held.adverts = ap (λ (z : NetParts). picked (known_adverts z.clients) c.adverts.result.now.members) (sym same) ∙ c.adverts.ensures.represents in
    subst (λ (z : List (List ConstraintParts)). Has x (picked (known_adverts clients) c.insert_all-2.new.self.members) ↔ (Has x z ⊎ Has x c.args.held.now.held.adverts)) (ap (λ (z : NetHome). z.home.adverts) c.self.view_is)
    (subst (λ (z : List (List ConstraintParts)). Has x (picked (known_adverts clients) c.insert_all-2.new.self.members) ↔ (Has x (picked (known_adverts clients) c.self.inside.adverts.members) ⊎ Has x z)) given
    (subst (λ (z : List ℕ). Has x (picked (known_adverts clients) z) ↔ (Has x (picked (known_adverts clients) c.self.inside.adverts.members) ⊎ Has x (picked (known_adverts clients) c.adverts.result.now.members))) (sym c.insert_all-2.ensures.members)
    (picked-union (known_adverts clients) c.adverts.result.now.members c.self.inside.adverts.members x)))
