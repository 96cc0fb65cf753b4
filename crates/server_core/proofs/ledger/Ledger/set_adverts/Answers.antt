use Rattle.std.proofs.Common.{◌≡◌, ◌≢◌, ◌<◌, ℕ, true, List, length, slice_get, Some, refl, sym, ap, subst, ◌∙◌}
use Rattle.filter_constraints.specs.Constraint.{ConstraintParts}
use Rattle.filter_types.specs.Before.{list_before}
use Rattle.base.specs.Sets.{Has, IsRising}
use Rattle.base_order.specs.Order.{picked}
use Rattle.net_tables.specs.Known.{known_adverts}
use Rattle.server_spec.specs.Control.{by_adverts, changes_to}
use Rattle.server_stock.specs.Stock.{Stocked}
use Rattle.server_stock.specs.Sides.{Announced}
use Rattle.server_control.specs.Control.{advs}
use Rattle.server_message.specs.Parts.{sent_by}
use Rattle.server_core.specs.Due.{IsHeldAt}
use Rattle.server_core.specs.Ledger.{LedgerParts, AdvertsSet}
use Rattle.server_core.specs.Showing.{shown, AnnouncesFilters, AnnouncesAdverts}
use Rattle.server_core.proofs.Shown.{IsKnown}
use Rattle.server_core.proofs.Sieving.{Sieved}
use Rattle.server_core.proofs.Changed.{AreAdvertsChanged, known-from, known-then, sieved-of, adverts-by, lost-ads, won-ads, kept-ads, set-ads, announces-ads-there, announces-ads-elsewhere, ads-as-before, ads-kept-back, ledgers-same}
use Rattle.server_core.proofs.ledger.Ledger.set_adverts.Goals as goal

pub sieve-requires : goal.sieve-requires
sieve-requires c =
    let old = c.self.inside.control in
    let is = c.self.invariant in
    let was : IsKnown old = known-from old c.filters.result.now c.adverts.result.now c.filters.ensures c.adverts.ensures c.lemma_sound.ensures.held_from c.lemma_sound-2.ensures.held_from in
    let rising : IsRising list_before old.adverts.items = subst (λ (z : Stocked (List ConstraintParts)). IsRising list_before z.items) c.adverts.ensures c.lemma_sound-2.ensures.items in
    let outs : (i : ℕ) → Has i c.args.out.now → i < length old.adverts.items =
    subst (λ z. (i : ℕ) → Has i c.args.out.now → i < length z) (sym is.advert_items)
    (subst (λ (z : LedgerParts). (i : ℕ) → Has i c.args.out.now → i < length (known_adverts z.net.clients)) (sym c.self.view_is) c.requires.out) in
    let adds : (i : ℕ) → Has i c.args.add.now → i < length old.adverts.items =
    subst (λ z. (i : ℕ) → Has i c.args.add.now → i < length z) (sym is.advert_items)
    (subst (λ (z : LedgerParts). (i : ℕ) → Has i c.args.add.now → i < length (known_adverts z.net.clients)) (sym c.self.view_is) c.requires.add) in
    subst (λ (z : Stocked (List ConstraintParts)). (i : ℕ) → Has i c.args.out.now → i < length z.items) (sym c.adverts-2.ensures) outs

pub sieve-requires-2 : goal.sieve-requires-2
sieve-requires-2 c =
    let old = c.self.inside.control in
    let is = c.self.invariant in
    let was : IsKnown old = known-from old c.filters.result.now c.adverts.result.now c.filters.ensures c.adverts.ensures c.lemma_sound.ensures.held_from c.lemma_sound-2.ensures.held_from in
    let rising : IsRising list_before old.adverts.items = subst (λ (z : Stocked (List ConstraintParts)). IsRising list_before z.items) c.adverts.ensures c.lemma_sound-2.ensures.items in
    let outs : (i : ℕ) → Has i c.args.out.now → i < length old.adverts.items =
    subst (λ z. (i : ℕ) → Has i c.args.out.now → i < length z) (sym is.advert_items)
    (subst (λ (z : LedgerParts). (i : ℕ) → Has i c.args.out.now → i < length (known_adverts z.net.clients)) (sym c.self.view_is) c.requires.out) in
    let adds : (i : ℕ) → Has i c.args.add.now → i < length old.adverts.items =
    subst (λ z. (i : ℕ) → Has i c.args.add.now → i < length z) (sym is.advert_items)
    (subst (λ (z : LedgerParts). (i : ℕ) → Has i c.args.add.now → i < length (known_adverts z.net.clients)) (sym c.self.view_is) c.requires.add) in
    subst (λ (z : Stocked (List ConstraintParts)). (i : ℕ) → Has i c.args.add.now → i < length z.items) (sym c.adverts-3.ensures) adds

pub change_adverts-requires-clause-out : goal.change_adverts-requires-clause-out
change_adverts-requires-clause-out c =
    let old = c.self.inside.control in
    let is = c.self.invariant in
    let was : IsKnown old = known-from old c.filters.result.now c.adverts.result.now c.filters.ensures c.adverts.ensures c.lemma_sound.ensures.held_from c.lemma_sound-2.ensures.held_from in
    let rising : IsRising list_before old.adverts.items = subst (λ (z : Stocked (List ConstraintParts)). IsRising list_before z.items) c.adverts.ensures c.lemma_sound-2.ensures.items in
    let outs : (i : ℕ) → Has i c.args.out.now → i < length old.adverts.items =
    subst (λ z. (i : ℕ) → Has i c.args.out.now → i < length z) (sym is.advert_items)
    (subst (λ (z : LedgerParts). (i : ℕ) → Has i c.args.out.now → i < length (known_adverts z.net.clients)) (sym c.self.view_is) c.requires.out) in
    let adds : (i : ℕ) → Has i c.args.add.now → i < length old.adverts.items =
    subst (λ z. (i : ℕ) → Has i c.args.add.now → i < length z) (sym is.advert_items)
    (subst (λ (z : LedgerParts). (i : ℕ) → Has i c.args.add.now → i < length (known_adverts z.net.clients)) (sym c.self.view_is) c.requires.add) in
    let lost-are : Sieved (λ k. IsHeldAt old.adverts.items (advs old c.args.interface) k) c.args.out.now c.in_ok-lost.lost.items =
    sieved-of (λ items held k. IsHeldAt items held k) c.args.interface c.args.out.now c.in_ok-lost.lost.items c.adverts-2.result.now old.adverts c.adverts-2.ensures c.in_ok-lost.ensures in
    let won-are : Sieved (λ k. IsHeldAt old.adverts.items (advs old c.args.interface) k → ⊥) c.args.add.now c.in_ok-won.won.items =
    sieved-of (λ items held k. IsHeldAt items held k → ⊥) c.args.interface c.args.add.now c.in_ok-won.won.items c.adverts-3.result.now old.adverts c.adverts-3.ensures c.in_ok-won.ensures in
    subst (λ z. (i : ℕ) → Has i z → i < length old.adverts.items) (sym c.deref.ensures.value) (lost-ads c.self.inside.tables.now c.self.inside.links.items old c.self.inside.installed.value c.self.inside.pending.items is was rising c.args.interface c.args.out.now c.args.add.now c.in_ok-lost.lost.items c.in_ok-won.won.items outs adds c.requires.apart lost-are won-are)

pub change_adverts-requires-clause-add : goal.change_adverts-requires-clause-add
change_adverts-requires-clause-add c =
    let old = c.self.inside.control in
    let is = c.self.invariant in
    let was : IsKnown old = known-from old c.filters.result.now c.adverts.result.now c.filters.ensures c.adverts.ensures c.lemma_sound.ensures.held_from c.lemma_sound-2.ensures.held_from in
    let rising : IsRising list_before old.adverts.items = subst (λ (z : Stocked (List ConstraintParts)). IsRising list_before z.items) c.adverts.ensures c.lemma_sound-2.ensures.items in
    let outs : (i : ℕ) → Has i c.args.out.now → i < length old.adverts.items =
    subst (λ z. (i : ℕ) → Has i c.args.out.now → i < length z) (sym is.advert_items)
    (subst (λ (z : LedgerParts). (i : ℕ) → Has i c.args.out.now → i < length (known_adverts z.net.clients)) (sym c.self.view_is) c.requires.out) in
    let adds : (i : ℕ) → Has i c.args.add.now → i < length old.adverts.items =
    subst (λ z. (i : ℕ) → Has i c.args.add.now → i < length z) (sym is.advert_items)
    (subst (λ (z : LedgerParts). (i : ℕ) → Has i c.args.add.now → i < length (known_adverts z.net.clients)) (sym c.self.view_is) c.requires.add) in
    let lost-are : Sieved (λ k. IsHeldAt old.adverts.items (advs old c.args.interface) k) c.args.out.now c.in_ok-lost.lost.items =
    sieved-of (λ items held k. IsHeldAt items held k) c.args.interface c.args.out.now c.in_ok-lost.lost.items c.adverts-2.result.now old.adverts c.adverts-2.ensures c.in_ok-lost.ensures in
    let won-are : Sieved (λ k. IsHeldAt old.adverts.items (advs old c.args.interface) k → ⊥) c.args.add.now c.in_ok-won.won.items =
    sieved-of (λ items held k. IsHeldAt items held k → ⊥) c.args.interface c.args.add.now c.in_ok-won.won.items c.adverts-3.result.now old.adverts c.adverts-3.ensures c.in_ok-won.ensures in
    subst (λ z. (i : ℕ) → Has i z → i < length old.adverts.items) (sym c.deref-2.ensures.value) (won-ads c.self.inside.tables.now c.self.inside.links.items old c.self.inside.installed.value c.self.inside.pending.items is was rising c.args.interface c.args.out.now c.args.add.now c.in_ok-lost.lost.items c.in_ok-won.won.items outs adds c.requires.apart lost-are won-are)

pub advert_messages-requires-clause-filters_announced : goal.advert_messages-requires-clause-filters_announced
advert_messages-requires-clause-filters_announced c p t l q =
    let old = c.self.inside.control in
    let is = c.self.invariant in
    let was : IsKnown old = known-from old c.filters.result.now c.adverts.result.now c.filters.ensures c.adverts.ensures c.lemma_sound.ensures.held_from c.lemma_sound-2.ensures.held_from in
    let rising : IsRising list_before old.adverts.items = subst (λ (z : Stocked (List ConstraintParts)). IsRising list_before z.items) c.adverts.ensures c.lemma_sound-2.ensures.items in
    let outs : (i : ℕ) → Has i c.args.out.now → i < length old.adverts.items =
    subst (λ z. (i : ℕ) → Has i c.args.out.now → i < length z) (sym is.advert_items)
    (subst (λ (z : LedgerParts). (i : ℕ) → Has i c.args.out.now → i < length (known_adverts z.net.clients)) (sym c.self.view_is) c.requires.out) in
    let adds : (i : ℕ) → Has i c.args.add.now → i < length old.adverts.items =
    subst (λ z. (i : ℕ) → Has i c.args.add.now → i < length z) (sym is.advert_items)
    (subst (λ (z : LedgerParts). (i : ℕ) → Has i c.args.add.now → i < length (known_adverts z.net.clients)) (sym c.self.view_is) c.requires.add) in
    let lost-are : Sieved (λ k. IsHeldAt old.adverts.items (advs old c.args.interface) k) c.args.out.now c.in_ok-lost.lost.items =
    sieved-of (λ items held k. IsHeldAt items held k) c.args.interface c.args.out.now c.in_ok-lost.lost.items c.adverts-2.result.now old.adverts c.adverts-2.ensures c.in_ok-lost.ensures in
    let won-are : Sieved (λ k. IsHeldAt old.adverts.items (advs old c.args.interface) k → ⊥) c.args.add.now c.in_ok-won.won.items =
    sieved-of (λ items held k. IsHeldAt items held k → ⊥) c.args.interface c.args.add.now c.in_ok-won.won.items c.adverts-3.result.now old.adverts c.adverts-3.ensures c.in_ok-won.ensures in
    let new = c.change_adverts.new.self in
    let e = c.change_adverts.ensures in
    let changed : AreAdvertsChanged c.args.interface c.in_ok-lost.lost.items c.in_ok-won.won.items old new =
    adverts-by c.args.interface c.deref.result.now c.in_ok-lost.lost.items c.deref-2.result.now c.in_ok-won.won.items old new c.deref.ensures.value c.deref-2.ensures.value (record {
      semantics = e.semantics;
      items = e.items;
      interfaces = e.interfaces;
      links = e.links;
      held = e.held;
      others = e.others;
      filter_items = e.filter_items;
      filter_interfaces = e.filter_interfaces;
      filter_links = e.filter_links;
      filters = e.filters;
      announced = e.announced;
      filters_announced = e.filters_announced;
    }) in
    let now : IsKnown new = known-then old new c.adverts-4.result.now was e.filter_interfaces e.filters c.adverts-4.ensures c.lemma_sound-3.ensures.held_from in
    let steered : by_adverts old.semantics ≡ true = subst (λ (z : LedgerParts). by_adverts z.control.semantics ≡ true) (sym c.self.view_is) c.requires.semantics in (
      changes_to (shown old) (shown new) c.args.interface,
      subst (λ (z : Stocked (List ConstraintParts)). AnnouncesFilters z.items t (changes_to (shown old) (shown new) c.args.interface)) (sym c.filters-2.ensures)
          (announces-ads-there c.self.inside.tables.now c.self.inside.links.items old c.self.inside.installed.value c.self.inside.pending.items is was rising c.args.interface c.args.out.now c.args.add.now c.in_ok-lost.lost.items c.in_ok-won.won.items outs adds c.requires.apart lost-are won-are new now changed steered p t (subst (λ z. slice_get z p ≡ Some c.args.interface) c.deref-3.ensures.value l)
          (subst (λ (z : Stocked (List ConstraintParts)). slice_get z.announced p ≡ Some t) c.filters-2.ensures q)),
    )

pub advert_messages-requires-clause-adverts_announced : goal.advert_messages-requires-clause-adverts_announced
advert_messages-requires-clause-adverts_announced c p link t l n q =
    let old = c.self.inside.control in
    let is = c.self.invariant in
    let was : IsKnown old = known-from old c.filters.result.now c.adverts.result.now c.filters.ensures c.adverts.ensures c.lemma_sound.ensures.held_from c.lemma_sound-2.ensures.held_from in
    let rising : IsRising list_before old.adverts.items = subst (λ (z : Stocked (List ConstraintParts)). IsRising list_before z.items) c.adverts.ensures c.lemma_sound-2.ensures.items in
    let outs : (i : ℕ) → Has i c.args.out.now → i < length old.adverts.items =
    subst (λ z. (i : ℕ) → Has i c.args.out.now → i < length z) (sym is.advert_items)
    (subst (λ (z : LedgerParts). (i : ℕ) → Has i c.args.out.now → i < length (known_adverts z.net.clients)) (sym c.self.view_is) c.requires.out) in
    let adds : (i : ℕ) → Has i c.args.add.now → i < length old.adverts.items =
    subst (λ z. (i : ℕ) → Has i c.args.add.now → i < length z) (sym is.advert_items)
    (subst (λ (z : LedgerParts). (i : ℕ) → Has i c.args.add.now → i < length (known_adverts z.net.clients)) (sym c.self.view_is) c.requires.add) in
    let lost-are : Sieved (λ k. IsHeldAt old.adverts.items (advs old c.args.interface) k) c.args.out.now c.in_ok-lost.lost.items =
    sieved-of (λ items held k. IsHeldAt items held k) c.args.interface c.args.out.now c.in_ok-lost.lost.items c.adverts-2.result.now old.adverts c.adverts-2.ensures c.in_ok-lost.ensures in
    let won-are : Sieved (λ k. IsHeldAt old.adverts.items (advs old c.args.interface) k → ⊥) c.args.add.now c.in_ok-won.won.items =
    sieved-of (λ items held k. IsHeldAt items held k → ⊥) c.args.interface c.args.add.now c.in_ok-won.won.items c.adverts-3.result.now old.adverts c.adverts-3.ensures c.in_ok-won.ensures in
    let new = c.change_adverts.new.self in
    let e = c.change_adverts.ensures in
    let changed : AreAdvertsChanged c.args.interface c.in_ok-lost.lost.items c.in_ok-won.won.items old new =
    adverts-by c.args.interface c.deref.result.now c.in_ok-lost.lost.items c.deref-2.result.now c.in_ok-won.won.items old new c.deref.ensures.value c.deref-2.ensures.value (record {
      semantics = e.semantics;
      items = e.items;
      interfaces = e.interfaces;
      links = e.links;
      held = e.held;
      others = e.others;
      filter_items = e.filter_items;
      filter_interfaces = e.filter_interfaces;
      filter_links = e.filter_links;
      filters = e.filters;
      announced = e.announced;
      filters_announced = e.filters_announced;
    }) in
    let now : IsKnown new = known-then old new c.adverts-4.result.now was e.filter_interfaces e.filters c.adverts-4.ensures c.lemma_sound-3.ensures.held_from in (
      changes_to (shown old) (shown new) link,
      subst (λ (z : Stocked (List ConstraintParts)). AnnouncesAdverts z.items t (changes_to (shown old) (shown new) link)) (sym c.adverts-5.ensures)
          (announces-ads-elsewhere c.self.inside.tables.now c.self.inside.links.items old c.self.inside.installed.value c.self.inside.pending.items is was rising c.args.interface c.args.out.now c.args.add.now c.in_ok-lost.lost.items c.in_ok-won.won.items outs adds c.requires.apart lost-are won-are new now changed p link t (subst (λ z. slice_get z p ≡ Some link) c.deref-3.ensures.value l) n
          (subst (λ (z : Stocked (List ConstraintParts)). slice_get z.announced p ≡ Some t) c.adverts-5.ensures q)),
    )

pub invariant_of-self : goal.invariant_of-self
invariant_of-self c =
    let old = c.self.inside.control in
    let is = c.self.invariant in
    let was : IsKnown old = known-from old c.filters.result.now c.adverts.result.now c.filters.ensures c.adverts.ensures c.lemma_sound.ensures.held_from c.lemma_sound-2.ensures.held_from in
    let rising : IsRising list_before old.adverts.items = subst (λ (z : Stocked (List ConstraintParts)). IsRising list_before z.items) c.adverts.ensures c.lemma_sound-2.ensures.items in
    let outs : (i : ℕ) → Has i c.args.out.now → i < length old.adverts.items =
    subst (λ z. (i : ℕ) → Has i c.args.out.now → i < length z) (sym is.advert_items)
    (subst (λ (z : LedgerParts). (i : ℕ) → Has i c.args.out.now → i < length (known_adverts z.net.clients)) (sym c.self.view_is) c.requires.out) in
    let adds : (i : ℕ) → Has i c.args.add.now → i < length old.adverts.items =
    subst (λ z. (i : ℕ) → Has i c.args.add.now → i < length z) (sym is.advert_items)
    (subst (λ (z : LedgerParts). (i : ℕ) → Has i c.args.add.now → i < length (known_adverts z.net.clients)) (sym c.self.view_is) c.requires.add) in
    let lost-are : Sieved (λ k. IsHeldAt old.adverts.items (advs old c.args.interface) k) c.args.out.now c.in_ok-lost.lost.items =
    sieved-of (λ items held k. IsHeldAt items held k) c.args.interface c.args.out.now c.in_ok-lost.lost.items c.adverts-2.result.now old.adverts c.adverts-2.ensures c.in_ok-lost.ensures in
    let won-are : Sieved (λ k. IsHeldAt old.adverts.items (advs old c.args.interface) k → ⊥) c.args.add.now c.in_ok-won.won.items =
    sieved-of (λ items held k. IsHeldAt items held k → ⊥) c.args.interface c.args.add.now c.in_ok-won.won.items c.adverts-3.result.now old.adverts c.adverts-3.ensures c.in_ok-won.ensures in
    let new = c.change_adverts.new.self in
    let e = c.change_adverts.ensures in
    let changed : AreAdvertsChanged c.args.interface c.in_ok-lost.lost.items c.in_ok-won.won.items old new =
    adverts-by c.args.interface c.deref.result.now c.in_ok-lost.lost.items c.deref-2.result.now c.in_ok-won.won.items old new c.deref.ensures.value c.deref-2.ensures.value (record {
      semantics = e.semantics;
      items = e.items;
      interfaces = e.interfaces;
      links = e.links;
      held = e.held;
      others = e.others;
      filter_items = e.filter_items;
      filter_interfaces = e.filter_interfaces;
      filter_links = e.filter_links;
      filters = e.filters;
      announced = e.announced;
      filters_announced = e.filters_announced;
    }) in
    let now : IsKnown new = known-then old new c.adverts-4.result.now was e.filter_interfaces e.filters c.adverts-4.ensures c.lemma_sound-3.ensures.held_from in
    kept-ads c.self.inside.tables.now c.self.inside.links.items old c.self.inside.installed.value c.self.inside.pending.items is was rising c.args.interface c.args.out.now c.args.add.now c.in_ok-lost.lost.items c.in_ok-won.won.items outs adds c.requires.apart lost-are won-are new now changed

pub returns-in-Ok-clause-set : goal.returns-in-Ok-clause-set
returns-in-Ok-clause-set c =
    let old = c.self.inside.control in
    let is = c.self.invariant in
    let was : IsKnown old = known-from old c.filters.result.now c.adverts.result.now c.filters.ensures c.adverts.ensures c.lemma_sound.ensures.held_from c.lemma_sound-2.ensures.held_from in
    let rising : IsRising list_before old.adverts.items = subst (λ (z : Stocked (List ConstraintParts)). IsRising list_before z.items) c.adverts.ensures c.lemma_sound-2.ensures.items in
    let outs : (i : ℕ) → Has i c.args.out.now → i < length old.adverts.items =
    subst (λ z. (i : ℕ) → Has i c.args.out.now → i < length z) (sym is.advert_items)
    (subst (λ (z : LedgerParts). (i : ℕ) → Has i c.args.out.now → i < length (known_adverts z.net.clients)) (sym c.self.view_is) c.requires.out) in
    let adds : (i : ℕ) → Has i c.args.add.now → i < length old.adverts.items =
    subst (λ z. (i : ℕ) → Has i c.args.add.now → i < length z) (sym is.advert_items)
    (subst (λ (z : LedgerParts). (i : ℕ) → Has i c.args.add.now → i < length (known_adverts z.net.clients)) (sym c.self.view_is) c.requires.add) in
    let lost-are : Sieved (λ k. IsHeldAt old.adverts.items (advs old c.args.interface) k) c.args.out.now c.in_ok-lost.lost.items =
    sieved-of (λ items held k. IsHeldAt items held k) c.args.interface c.args.out.now c.in_ok-lost.lost.items c.adverts-2.result.now old.adverts c.adverts-2.ensures c.in_ok-lost.ensures in
    let won-are : Sieved (λ k. IsHeldAt old.adverts.items (advs old c.args.interface) k → ⊥) c.args.add.now c.in_ok-won.won.items =
    sieved-of (λ items held k. IsHeldAt items held k → ⊥) c.args.interface c.args.add.now c.in_ok-won.won.items c.adverts-3.result.now old.adverts c.adverts-3.ensures c.in_ok-won.ensures in
    let new = c.change_adverts.new.self in
    let e = c.change_adverts.ensures in
    let changed : AreAdvertsChanged c.args.interface c.in_ok-lost.lost.items c.in_ok-won.won.items old new =
    adverts-by c.args.interface c.deref.result.now c.in_ok-lost.lost.items c.deref-2.result.now c.in_ok-won.won.items old new c.deref.ensures.value c.deref-2.ensures.value (record {
      semantics = e.semantics;
      items = e.items;
      interfaces = e.interfaces;
      links = e.links;
      held = e.held;
      others = e.others;
      filter_items = e.filter_items;
      filter_interfaces = e.filter_interfaces;
      filter_links = e.filter_links;
      filters = e.filters;
      announced = e.announced;
      filters_announced = e.filters_announced;
    }) in
    let now : IsKnown new = known-then old new c.adverts-4.result.now was e.filter_interfaces e.filters c.adverts-4.ensures c.lemma_sound-3.ensures.held_from in
    let steered : by_adverts old.semantics ≡ true = subst (λ (z : LedgerParts). by_adverts z.control.semantics ≡ true) (sym c.self.view_is) c.requires.semantics in
    let there : (p : ℕ) (t : Announced) → slice_get c.deref-3.result.now p ≡ Some c.args.interface → slice_get c.filters-2.result.now.announced p ≡ Some t
    → AnnouncesFilters c.filters-2.result.now.items t (changes_to (shown old) (shown new) c.args.interface) =
    λ p t l q. subst (λ (z : Stocked (List ConstraintParts)). AnnouncesFilters z.items t (changes_to (shown old) (shown new) c.args.interface)) (sym c.filters-2.ensures)
    (announces-ads-there c.self.inside.tables.now c.self.inside.links.items old c.self.inside.installed.value c.self.inside.pending.items is was rising c.args.interface c.args.out.now c.args.add.now c.in_ok-lost.lost.items c.in_ok-won.won.items outs adds c.requires.apart lost-are won-are new now changed steered p t (subst (λ z. slice_get z p ≡ Some c.args.interface) c.deref-3.ensures.value l)
    (subst (λ (z : Stocked (List ConstraintParts)). slice_get z.announced p ≡ Some t) c.filters-2.ensures q)) in
    let elsewhere : (p link : ℕ) (t : Announced) → slice_get c.deref-3.result.now p ≡ Some link → link ≢ c.args.interface → slice_get c.adverts-5.result.now.announced p ≡ Some t
    → AnnouncesAdverts c.adverts-5.result.now.items t (changes_to (shown old) (shown new) link) =
    λ p link t l n q. subst (λ (z : Stocked (List ConstraintParts)). AnnouncesAdverts z.items t (changes_to (shown old) (shown new) link)) (sym c.adverts-5.ensures)
    (announces-ads-elsewhere c.self.inside.tables.now c.self.inside.links.items old c.self.inside.installed.value c.self.inside.pending.items is was rising c.args.interface c.args.out.now c.args.add.now c.in_ok-lost.lost.items c.in_ok-won.won.items outs adds c.requires.apart lost-are won-are new now changed p link t (subst (λ z. slice_get z p ≡ Some link) c.deref-3.ensures.value l) n
    (subst (λ (z : Stocked (List ConstraintParts)). slice_get z.announced p ≡ Some t) c.adverts-5.ensures q)) in
    let sent : c.in-Ok.sent.items ≡ sent_by c.self.inside.tables.now (changes_to (shown old) (shown new)) c.self.inside.links.items =
    c.in-Ok.ensures (changes_to (shown old) (shown new)) there elsewhere ∙ ap (sent_by c.self.inside.tables.now (changes_to (shown old) (shown new))) c.deref-3.ensures.value in
    subst (λ (z : LedgerParts). AdvertsSet c.args.interface (picked (known_adverts z.net.clients) c.args.out.now) (picked (known_adverts z.net.clients) c.args.add.now) z
    (record { net = c.self.inside.tables.now; interfaces = new.filters.interfaces; control = shown new; installed = (shown c.self.inside.installed.value).filters; pending = c.self.inside.pending.items })
    c.in-Ok.sent.items) c.self.view_is
    (set-ads c.self.inside.tables.now c.self.inside.links.items old c.self.inside.installed.value c.self.inside.pending.items is was rising c.args.interface c.args.out.now c.args.add.now c.in_ok-lost.lost.items c.in_ok-won.won.items outs adds c.requires.apart lost-are won-are new now changed c.in-Ok.sent.items steered sent)

pub change_adverts-requires-in-Err-clause-out : goal.change_adverts-requires-in-Err-clause-out
change_adverts-requires-in-Err-clause-out c =
    let old = c.self.inside.control in
    let is = c.self.invariant in
    let was : IsKnown old = known-from old c.filters.result.now c.adverts.result.now c.filters.ensures c.adverts.ensures c.lemma_sound.ensures.held_from c.lemma_sound-2.ensures.held_from in
    let rising : IsRising list_before old.adverts.items = subst (λ (z : Stocked (List ConstraintParts)). IsRising list_before z.items) c.adverts.ensures c.lemma_sound-2.ensures.items in
    let outs : (i : ℕ) → Has i c.args.out.now → i < length old.adverts.items =
    subst (λ z. (i : ℕ) → Has i c.args.out.now → i < length z) (sym is.advert_items)
    (subst (λ (z : LedgerParts). (i : ℕ) → Has i c.args.out.now → i < length (known_adverts z.net.clients)) (sym c.self.view_is) c.requires.out) in
    let adds : (i : ℕ) → Has i c.args.add.now → i < length old.adverts.items =
    subst (λ z. (i : ℕ) → Has i c.args.add.now → i < length z) (sym is.advert_items)
    (subst (λ (z : LedgerParts). (i : ℕ) → Has i c.args.add.now → i < length (known_adverts z.net.clients)) (sym c.self.view_is) c.requires.add) in
    let lost-are : Sieved (λ k. IsHeldAt old.adverts.items (advs old c.args.interface) k) c.args.out.now c.in_ok-lost.lost.items =
    sieved-of (λ items held k. IsHeldAt items held k) c.args.interface c.args.out.now c.in_ok-lost.lost.items c.adverts-2.result.now old.adverts c.adverts-2.ensures c.in_ok-lost.ensures in
    let won-are : Sieved (λ k. IsHeldAt old.adverts.items (advs old c.args.interface) k → ⊥) c.args.add.now c.in_ok-won.won.items =
    sieved-of (λ items held k. IsHeldAt items held k → ⊥) c.args.interface c.args.add.now c.in_ok-won.won.items c.adverts-3.result.now old.adverts c.adverts-3.ensures c.in_ok-won.ensures in
    let new = c.change_adverts.new.self in
    let e = c.change_adverts.ensures in
    let changed : AreAdvertsChanged c.args.interface c.in_ok-lost.lost.items c.in_ok-won.won.items old new =
    adverts-by c.args.interface c.deref.result.now c.in_ok-lost.lost.items c.deref-2.result.now c.in_ok-won.won.items old new c.deref.ensures.value c.deref-2.ensures.value (record {
      semantics = e.semantics;
      items = e.items;
      interfaces = e.interfaces;
      links = e.links;
      held = e.held;
      others = e.others;
      filter_items = e.filter_items;
      filter_interfaces = e.filter_interfaces;
      filter_links = e.filter_links;
      filters = e.filters;
      announced = e.announced;
      filters_announced = e.filters_announced;
    }) in
    let now : IsKnown new = known-then old new c.adverts-4.result.now was e.filter_interfaces e.filters c.adverts-4.ensures c.lemma_sound-3.ensures.held_from in
    subst (λ z. (i : ℕ) → Has i z → i < length new.adverts.items) (sym c.deref-in-Err.ensures.value) (subst (λ z. (i : ℕ) → Has i c.in_ok-won.won.items → i < length z) (sym changed.items) (won-ads c.self.inside.tables.now c.self.inside.links.items old c.self.inside.installed.value c.self.inside.pending.items is was rising c.args.interface c.args.out.now c.args.add.now c.in_ok-lost.lost.items c.in_ok-won.won.items outs adds c.requires.apart lost-are won-are))

pub change_adverts-requires-in-Err-clause-add : goal.change_adverts-requires-in-Err-clause-add
change_adverts-requires-in-Err-clause-add c =
    let old = c.self.inside.control in
    let is = c.self.invariant in
    let was : IsKnown old = known-from old c.filters.result.now c.adverts.result.now c.filters.ensures c.adverts.ensures c.lemma_sound.ensures.held_from c.lemma_sound-2.ensures.held_from in
    let rising : IsRising list_before old.adverts.items = subst (λ (z : Stocked (List ConstraintParts)). IsRising list_before z.items) c.adverts.ensures c.lemma_sound-2.ensures.items in
    let outs : (i : ℕ) → Has i c.args.out.now → i < length old.adverts.items =
    subst (λ z. (i : ℕ) → Has i c.args.out.now → i < length z) (sym is.advert_items)
    (subst (λ (z : LedgerParts). (i : ℕ) → Has i c.args.out.now → i < length (known_adverts z.net.clients)) (sym c.self.view_is) c.requires.out) in
    let adds : (i : ℕ) → Has i c.args.add.now → i < length old.adverts.items =
    subst (λ z. (i : ℕ) → Has i c.args.add.now → i < length z) (sym is.advert_items)
    (subst (λ (z : LedgerParts). (i : ℕ) → Has i c.args.add.now → i < length (known_adverts z.net.clients)) (sym c.self.view_is) c.requires.add) in
    let lost-are : Sieved (λ k. IsHeldAt old.adverts.items (advs old c.args.interface) k) c.args.out.now c.in_ok-lost.lost.items =
    sieved-of (λ items held k. IsHeldAt items held k) c.args.interface c.args.out.now c.in_ok-lost.lost.items c.adverts-2.result.now old.adverts c.adverts-2.ensures c.in_ok-lost.ensures in
    let won-are : Sieved (λ k. IsHeldAt old.adverts.items (advs old c.args.interface) k → ⊥) c.args.add.now c.in_ok-won.won.items =
    sieved-of (λ items held k. IsHeldAt items held k → ⊥) c.args.interface c.args.add.now c.in_ok-won.won.items c.adverts-3.result.now old.adverts c.adverts-3.ensures c.in_ok-won.ensures in
    let new = c.change_adverts.new.self in
    let e = c.change_adverts.ensures in
    let changed : AreAdvertsChanged c.args.interface c.in_ok-lost.lost.items c.in_ok-won.won.items old new =
    adverts-by c.args.interface c.deref.result.now c.in_ok-lost.lost.items c.deref-2.result.now c.in_ok-won.won.items old new c.deref.ensures.value c.deref-2.ensures.value (record {
      semantics = e.semantics;
      items = e.items;
      interfaces = e.interfaces;
      links = e.links;
      held = e.held;
      others = e.others;
      filter_items = e.filter_items;
      filter_interfaces = e.filter_interfaces;
      filter_links = e.filter_links;
      filters = e.filters;
      announced = e.announced;
      filters_announced = e.filters_announced;
    }) in
    let now : IsKnown new = known-then old new c.adverts-4.result.now was e.filter_interfaces e.filters c.adverts-4.ensures c.lemma_sound-3.ensures.held_from in
    subst (λ z. (i : ℕ) → Has i z → i < length new.adverts.items) (sym c.deref-in-Err-2.ensures.value) (subst (λ z. (i : ℕ) → Has i c.in_ok-lost.lost.items → i < length z) (sym changed.items) (lost-ads c.self.inside.tables.now c.self.inside.links.items old c.self.inside.installed.value c.self.inside.pending.items is was rising c.args.interface c.args.out.now c.args.add.now c.in_ok-lost.lost.items c.in_ok-won.won.items outs adds c.requires.apart lost-are won-are))

pub invariant_of-self-in-Err : goal.invariant_of-self-in-Err
invariant_of-self-in-Err c =
    let old = c.self.inside.control in
    let is = c.self.invariant in
    let was : IsKnown old = known-from old c.filters.result.now c.adverts.result.now c.filters.ensures c.adverts.ensures c.lemma_sound.ensures.held_from c.lemma_sound-2.ensures.held_from in
    let rising : IsRising list_before old.adverts.items = subst (λ (z : Stocked (List ConstraintParts)). IsRising list_before z.items) c.adverts.ensures c.lemma_sound-2.ensures.items in
    let outs : (i : ℕ) → Has i c.args.out.now → i < length old.adverts.items =
    subst (λ z. (i : ℕ) → Has i c.args.out.now → i < length z) (sym is.advert_items)
    (subst (λ (z : LedgerParts). (i : ℕ) → Has i c.args.out.now → i < length (known_adverts z.net.clients)) (sym c.self.view_is) c.requires.out) in
    let adds : (i : ℕ) → Has i c.args.add.now → i < length old.adverts.items =
    subst (λ z. (i : ℕ) → Has i c.args.add.now → i < length z) (sym is.advert_items)
    (subst (λ (z : LedgerParts). (i : ℕ) → Has i c.args.add.now → i < length (known_adverts z.net.clients)) (sym c.self.view_is) c.requires.add) in
    let lost-are : Sieved (λ k. IsHeldAt old.adverts.items (advs old c.args.interface) k) c.args.out.now c.in_ok-lost.lost.items =
    sieved-of (λ items held k. IsHeldAt items held k) c.args.interface c.args.out.now c.in_ok-lost.lost.items c.adverts-2.result.now old.adverts c.adverts-2.ensures c.in_ok-lost.ensures in
    let won-are : Sieved (λ k. IsHeldAt old.adverts.items (advs old c.args.interface) k → ⊥) c.args.add.now c.in_ok-won.won.items =
    sieved-of (λ items held k. IsHeldAt items held k → ⊥) c.args.interface c.args.add.now c.in_ok-won.won.items c.adverts-3.result.now old.adverts c.adverts-3.ensures c.in_ok-won.ensures in
    let new = c.change_adverts.new.self in
    let e = c.change_adverts.ensures in
    let changed : AreAdvertsChanged c.args.interface c.in_ok-lost.lost.items c.in_ok-won.won.items old new =
    adverts-by c.args.interface c.deref.result.now c.in_ok-lost.lost.items c.deref-2.result.now c.in_ok-won.won.items old new c.deref.ensures.value c.deref-2.ensures.value (record {
      semantics = e.semantics;
      items = e.items;
      interfaces = e.interfaces;
      links = e.links;
      held = e.held;
      others = e.others;
      filter_items = e.filter_items;
      filter_interfaces = e.filter_interfaces;
      filter_links = e.filter_links;
      filters = e.filters;
      announced = e.announced;
      filters_announced = e.filters_announced;
    }) in
    let now : IsKnown new = known-then old new c.adverts-4.result.now was e.filter_interfaces e.filters c.adverts-4.ensures c.lemma_sound-3.ensures.held_from in
    let back = c.change_adverts-in-Err.new.self in
    let u = c.change_adverts-in-Err.ensures in
    let undone : AreAdvertsChanged c.args.interface c.in_ok-won.won.items c.in_ok-lost.lost.items new back =
    adverts-by c.args.interface c.deref-in-Err.result.now c.in_ok-won.won.items c.deref-in-Err-2.result.now c.in_ok-lost.lost.items new back c.deref-in-Err.ensures.value c.deref-in-Err-2.ensures.value (record {
      semantics = u.semantics;
      items = u.items;
      interfaces = u.interfaces;
      links = u.links;
      held = u.held;
      others = u.others;
      filter_items = u.filter_items;
      filter_interfaces = u.filter_interfaces;
      filter_links = u.filter_links;
      filters = u.filters;
      announced = u.announced;
      filters_announced = u.filters_announced;
    }) in
    let then : IsKnown back = known-then new back c.adverts-in-Err.result.now now u.filter_interfaces u.filters c.adverts-in-Err.ensures c.lemma_sound-in-Err.ensures.held_from in
    ads-kept-back c.self.inside.tables.now c.self.inside.links.items old c.self.inside.installed.value c.self.inside.pending.items is was rising c.args.interface c.args.out.now c.args.add.now c.in_ok-lost.lost.items c.in_ok-won.won.items outs adds c.requires.apart lost-are won-are new now changed back then undone

pub returns-clause-err : goal.returns-clause-err
returns-clause-err c =
    let old = c.self.inside.control in
    let is = c.self.invariant in
    let was : IsKnown old = known-from old c.filters.result.now c.adverts.result.now c.filters.ensures c.adverts.ensures c.lemma_sound.ensures.held_from c.lemma_sound-2.ensures.held_from in
    let rising : IsRising list_before old.adverts.items = subst (λ (z : Stocked (List ConstraintParts)). IsRising list_before z.items) c.adverts.ensures c.lemma_sound-2.ensures.items in
    let outs : (i : ℕ) → Has i c.args.out.now → i < length old.adverts.items =
    subst (λ z. (i : ℕ) → Has i c.args.out.now → i < length z) (sym is.advert_items)
    (subst (λ (z : LedgerParts). (i : ℕ) → Has i c.args.out.now → i < length (known_adverts z.net.clients)) (sym c.self.view_is) c.requires.out) in
    let adds : (i : ℕ) → Has i c.args.add.now → i < length old.adverts.items =
    subst (λ z. (i : ℕ) → Has i c.args.add.now → i < length z) (sym is.advert_items)
    (subst (λ (z : LedgerParts). (i : ℕ) → Has i c.args.add.now → i < length (known_adverts z.net.clients)) (sym c.self.view_is) c.requires.add) in
    let lost-are : Sieved (λ k. IsHeldAt old.adverts.items (advs old c.args.interface) k) c.args.out.now c.in_ok-lost.lost.items =
    sieved-of (λ items held k. IsHeldAt items held k) c.args.interface c.args.out.now c.in_ok-lost.lost.items c.adverts-2.result.now old.adverts c.adverts-2.ensures c.in_ok-lost.ensures in
    let won-are : Sieved (λ k. IsHeldAt old.adverts.items (advs old c.args.interface) k → ⊥) c.args.add.now c.in_ok-won.won.items =
    sieved-of (λ items held k. IsHeldAt items held k → ⊥) c.args.interface c.args.add.now c.in_ok-won.won.items c.adverts-3.result.now old.adverts c.adverts-3.ensures c.in_ok-won.ensures in
    let new = c.change_adverts.new.self in
    let e = c.change_adverts.ensures in
    let changed : AreAdvertsChanged c.args.interface c.in_ok-lost.lost.items c.in_ok-won.won.items old new =
    adverts-by c.args.interface c.deref.result.now c.in_ok-lost.lost.items c.deref-2.result.now c.in_ok-won.won.items old new c.deref.ensures.value c.deref-2.ensures.value (record {
      semantics = e.semantics;
      items = e.items;
      interfaces = e.interfaces;
      links = e.links;
      held = e.held;
      others = e.others;
      filter_items = e.filter_items;
      filter_interfaces = e.filter_interfaces;
      filter_links = e.filter_links;
      filters = e.filters;
      announced = e.announced;
      filters_announced = e.filters_announced;
    }) in
    let now : IsKnown new = known-then old new c.adverts-4.result.now was e.filter_interfaces e.filters c.adverts-4.ensures c.lemma_sound-3.ensures.held_from in
    let back = c.change_adverts-in-Err.new.self in
    let u = c.change_adverts-in-Err.ensures in
    let undone : AreAdvertsChanged c.args.interface c.in_ok-won.won.items c.in_ok-lost.lost.items new back =
    adverts-by c.args.interface c.deref-in-Err.result.now c.in_ok-won.won.items c.deref-in-Err-2.result.now c.in_ok-lost.lost.items new back c.deref-in-Err.ensures.value c.deref-in-Err-2.ensures.value (record {
      semantics = u.semantics;
      items = u.items;
      interfaces = u.interfaces;
      links = u.links;
      held = u.held;
      others = u.others;
      filter_items = u.filter_items;
      filter_interfaces = u.filter_interfaces;
      filter_links = u.filter_links;
      filters = u.filters;
      announced = u.announced;
      filters_announced = u.filters_announced;
    }) in
    let then : IsKnown back = known-then new back c.adverts-in-Err.result.now now u.filter_interfaces u.filters c.adverts-in-Err.ensures c.lemma_sound-in-Err.ensures.held_from in
    ledgers-same c.self.inside.tables.now back.filters.interfaces old.filters.interfaces (shown back) (shown old) (shown c.self.inside.installed.value).filters c.self.inside.pending.items c.self.inside.pending.items
    (u.filter_interfaces ∙ e.filter_interfaces) (ads-as-before c.self.inside.tables.now c.self.inside.links.items old c.self.inside.installed.value c.self.inside.pending.items is was rising c.args.interface c.args.out.now c.args.add.now c.in_ok-lost.lost.items c.in_ok-won.won.items outs adds c.requires.apart lost-are won-are new now changed back then undone) refl ∙ c.self.view_is
