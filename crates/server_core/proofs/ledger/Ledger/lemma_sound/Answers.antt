use Rattle.std.proofs.Common.{ℕ, List, subst}
use Rattle.filter_constraints.specs.Constraint.{ConstraintParts}
use Rattle.base.specs.Sets.{Has}
use Rattle.filter_covering.specs.Laws.{sub_laws}
use Rattle.server_stock.specs.Stock.{Stocked, Holding as Held}
use Rattle.server_stock.proofs.Shown.{from-iff}
use Rattle.net_tables.specs.Known.{known_filters}
use Rattle.server_spec.specs.Control.{subs, advs}
use Rattle.server_core.specs.Ledger.{LedgerParts}
use Rattle.server_core.proofs.Shown.{IsKnown, subs-shown}
use Rattle.server_core.proofs.Changed.{known-from}
use Rattle.server_core.proofs.Putting.{known-shown, known-offered}
use Rattle.server_core.proofs.ledger.Ledger.lemma_sound.Goals as goal

pub returns-clause-filters : goal.returns-clause-filters
returns-clause-filters c =
    let old = c.self.inside.control in
    let was : IsKnown old = known-from old c.filters.result.now c.adverts.result.now c.filters.ensures c.adverts.ensures c.lemma_sound.ensures.held_from c.lemma_sound-2.ensures.held_from in
    subst (λ (z : LedgerParts). (i : ℕ) (x : List ConstraintParts) → Has x (subs z.control i) → Has i z.interfaces) c.self.view_is (known-shown old was)

pub returns-clause-adverts : goal.returns-clause-adverts
returns-clause-adverts c =
    let old = c.self.inside.control in
    let was : IsKnown old = known-from old c.filters.result.now c.adverts.result.now c.filters.ensures c.adverts.ensures c.lemma_sound.ensures.held_from c.lemma_sound-2.ensures.held_from in
    subst (λ (z : LedgerParts). (i : ℕ) (x : List ConstraintParts) → Has x (advs z.control i) → Has i z.interfaces) c.self.view_is (known-offered old was c.self.invariant.same_interfaces)

pub returns-clause-known : goal.returns-clause-known
returns-clause-known c =
    let old = c.self.inside.control in
    let was : IsKnown old = known-from old c.filters.result.now c.adverts.result.now c.filters.ensures c.adverts.ensures c.lemma_sound.ensures.held_from c.lemma_sound-2.ensures.held_from in
    let items = subst (λ (z : Stocked (List ConstraintParts)). (h : Held (List ConstraintParts)) → Has h z.holdings → Has h.item z.items) c.filters.ensures c.lemma_sound.ensures.held in
    subst (λ (z : LedgerParts). (i : ℕ) (f : List ConstraintParts) → Has f (subs z.control i) → Has f (known_filters z.net.clients)) c.self.view_is
    (λ i f h. subst (Has f) c.self.invariant.filter_items
    (items (record { interface = i; item = f }) ((from-iff sub_laws i old.filters.holdings f).0 (subst (Has f) (subs-shown old was i) h))))
