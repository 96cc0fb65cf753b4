use Rattle.std.proofs.Common.{◌<◌, ℕ, List, [], length, refl, sym, subst}
use Rattle.filter_constraints.specs.Constraint.{ConstraintParts}
use Rattle.filter_types.specs.Before.{list_before}
use Rattle.base.specs.Sets.{Has, IsRising}
use Rattle.base_order.specs.Order.{picked}
use Rattle.net_tables.specs.Known.{known_adverts}
use Rattle.server_stock.specs.Stock.{Stocked}
use Rattle.server_control.specs.Control.{advs}
use Rattle.server_core.specs.Due.{IsHeldAt}
use Rattle.server_core.specs.Ledger.{LedgerParts}
use Rattle.server_core.specs.Showing.{shown}
use Rattle.server_core.specs.Putting.{AdvertsPut}
use Rattle.server_core.proofs.Shown.{IsKnown}
use Rattle.server_core.proofs.Sieving.{Sieved}
use Rattle.server_core.proofs.Changed.{AreAdvertsChanged, known-from, known-then, sieved-of, adverts-by, won-ads, kept-ads}
use Rattle.server_core.proofs.Starting.{ledger_parts}
use Rattle.server_core.proofs.Putting.{none-sieved, adverts-put}
use Rattle.server_core.proofs.ledger.Ledger.put_adverts.Goals as goal

pub sieve-requires : goal.sieve-requires
sieve-requires c =
    let old = c.self.inside.control in
    let is = c.self.invariant in
    let was : IsKnown old = known-from old c.filters.result.now c.adverts.result.now c.filters.ensures c.adverts.ensures c.lemma_sound.ensures.held_from c.lemma_sound-2.ensures.held_from in
    let rising : IsRising list_before old.adverts.items = subst (λ (z : Stocked (List ConstraintParts)). IsRising list_before z.items) c.adverts.ensures c.lemma_sound-2.ensures.items in
    let adds : (i : ℕ) → Has i c.args.add.now → i < length old.adverts.items =
    subst (λ z. (i : ℕ) → Has i c.args.add.now → i < length z) (sym is.advert_items)
    (subst (λ (z : LedgerParts). (i : ℕ) → Has i c.args.add.now → i < length (known_adverts z.net.clients)) (sym c.self.view_is) c.requires.add) in
    subst (λ (z : Stocked (List ConstraintParts)). (i : ℕ) → Has i c.args.add.now → i < length z.items) (sym c.adverts-2.ensures) adds

pub change_adverts-requires-clause-add : goal.change_adverts-requires-clause-add
change_adverts-requires-clause-add c =
    let old = c.self.inside.control in
    let is = c.self.invariant in
    let was : IsKnown old = known-from old c.filters.result.now c.adverts.result.now c.filters.ensures c.adverts.ensures c.lemma_sound.ensures.held_from c.lemma_sound-2.ensures.held_from in
    let rising : IsRising list_before old.adverts.items = subst (λ (z : Stocked (List ConstraintParts)). IsRising list_before z.items) c.adverts.ensures c.lemma_sound-2.ensures.items in
    let adds : (i : ℕ) → Has i c.args.add.now → i < length old.adverts.items =
    subst (λ z. (i : ℕ) → Has i c.args.add.now → i < length z) (sym is.advert_items)
    (subst (λ (z : LedgerParts). (i : ℕ) → Has i c.args.add.now → i < length (known_adverts z.net.clients)) (sym c.self.view_is) c.requires.add) in
    let won-are : Sieved (λ k. IsHeldAt old.adverts.items (advs old c.args.interface) k → ⊥) c.args.add.now c.in_ok-won.won.items =
    sieved-of (λ items held k. IsHeldAt items held k → ⊥) c.args.interface c.args.add.now c.in_ok-won.won.items c.adverts-2.result.now old.adverts c.adverts-2.ensures c.in_ok-won.ensures in
    subst (λ z. (i : ℕ) → Has i z → i < length old.adverts.items) (sym c.deref.ensures.value) (won-ads c.self.inside.tables.now c.self.inside.links.items old c.self.inside.installed.value c.self.inside.pending.items is was rising c.args.interface [] c.args.add.now [] c.in_ok-won.won.items (λ i m. absurd m) adds (λ i m n. absurd m) (none-sieved (λ k. IsHeldAt old.adverts.items (advs old c.args.interface) k)) won-are)

pub invariant_of-self : goal.invariant_of-self
invariant_of-self c =
    let old = c.self.inside.control in
    let is = c.self.invariant in
    let was : IsKnown old = known-from old c.filters.result.now c.adverts.result.now c.filters.ensures c.adverts.ensures c.lemma_sound.ensures.held_from c.lemma_sound-2.ensures.held_from in
    let rising : IsRising list_before old.adverts.items = subst (λ (z : Stocked (List ConstraintParts)). IsRising list_before z.items) c.adverts.ensures c.lemma_sound-2.ensures.items in
    let adds : (i : ℕ) → Has i c.args.add.now → i < length old.adverts.items =
    subst (λ z. (i : ℕ) → Has i c.args.add.now → i < length z) (sym is.advert_items)
    (subst (λ (z : LedgerParts). (i : ℕ) → Has i c.args.add.now → i < length (known_adverts z.net.clients)) (sym c.self.view_is) c.requires.add) in
    let won-are : Sieved (λ k. IsHeldAt old.adverts.items (advs old c.args.interface) k → ⊥) c.args.add.now c.in_ok-won.won.items =
    sieved-of (λ items held k. IsHeldAt items held k → ⊥) c.args.interface c.args.add.now c.in_ok-won.won.items c.adverts-2.result.now old.adverts c.adverts-2.ensures c.in_ok-won.ensures in
    let new = c.change_adverts.new.self in
    let e = c.change_adverts.ensures in
    let changed : AreAdvertsChanged c.args.interface [] c.in_ok-won.won.items old new =
    adverts-by c.args.interface [] [] c.deref.result.now c.in_ok-won.won.items old new refl c.deref.ensures.value (record {
      semantics = e.semantics;
      items = e.items;
      interfaces = e.interfaces;
      links = e.links;
      held = e.held;
      others = e.others;
      filter_items = e.filter_items;
      filter_interfaces = e.filter_interfaces;
      filter_links = e.filter_links;
      filters = e.filters;
      announced = e.announced;
      filters_announced = e.filters_announced;
    }) in
    let now : IsKnown new = known-then old new c.adverts-3.result.now was e.filter_interfaces e.filters c.adverts-3.ensures c.lemma_sound-3.ensures.held_from in
    kept-ads c.self.inside.tables.now c.self.inside.links.items old c.self.inside.installed.value c.self.inside.pending.items is was rising c.args.interface [] c.args.add.now [] c.in_ok-won.won.items (λ i m. absurd m) adds (λ i m n. absurd m) (none-sieved (λ k. IsHeldAt old.adverts.items (advs old c.args.interface) k)) won-are new now changed

pub returns : goal.returns
returns c =
    let old = c.self.inside.control in
    let is = c.self.invariant in
    let was : IsKnown old = known-from old c.filters.result.now c.adverts.result.now c.filters.ensures c.adverts.ensures c.lemma_sound.ensures.held_from c.lemma_sound-2.ensures.held_from in
    let rising : IsRising list_before old.adverts.items = subst (λ (z : Stocked (List ConstraintParts)). IsRising list_before z.items) c.adverts.ensures c.lemma_sound-2.ensures.items in
    let adds : (i : ℕ) → Has i c.args.add.now → i < length old.adverts.items =
    subst (λ z. (i : ℕ) → Has i c.args.add.now → i < length z) (sym is.advert_items)
    (subst (λ (z : LedgerParts). (i : ℕ) → Has i c.args.add.now → i < length (known_adverts z.net.clients)) (sym c.self.view_is) c.requires.add) in
    let won-are : Sieved (λ k. IsHeldAt old.adverts.items (advs old c.args.interface) k → ⊥) c.args.add.now c.in_ok-won.won.items =
    sieved-of (λ items held k. IsHeldAt items held k → ⊥) c.args.interface c.args.add.now c.in_ok-won.won.items c.adverts-2.result.now old.adverts c.adverts-2.ensures c.in_ok-won.ensures in
    let new = c.change_adverts.new.self in
    let e = c.change_adverts.ensures in
    let changed : AreAdvertsChanged c.args.interface [] c.in_ok-won.won.items old new =
    adverts-by c.args.interface [] [] c.deref.result.now c.in_ok-won.won.items old new refl c.deref.ensures.value (record {
      semantics = e.semantics;
      items = e.items;
      interfaces = e.interfaces;
      links = e.links;
      held = e.held;
      others = e.others;
      filter_items = e.filter_items;
      filter_interfaces = e.filter_interfaces;
      filter_links = e.filter_links;
      filters = e.filters;
      announced = e.announced;
      filters_announced = e.filters_announced;
    }) in
    let now : IsKnown new = known-then old new c.adverts-3.result.now was e.filter_interfaces e.filters c.adverts-3.ensures c.lemma_sound-3.ensures.held_from in
    subst (λ (z : LedgerParts). AdvertsPut c.args.interface (picked (known_adverts z.net.clients) c.args.add.now) z
    (ledger_parts c.self.inside.tables.now new.filters.interfaces (shown new) (shown c.self.inside.installed.value).filters c.self.inside.pending.items)) c.self.view_is
    (adverts-put c.self.inside.tables.now c.self.inside.links.items old c.self.inside.installed.value c.self.inside.pending.items is was c.args.interface c.args.add.now c.in_ok-won.won.items rising adds won-are new now changed)
