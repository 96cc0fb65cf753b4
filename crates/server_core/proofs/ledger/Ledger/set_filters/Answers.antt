use Rattle.std.proofs.Common.{◌≡◌, ◌<◌, ◌++◌, ℕ, List, length, map, slice_get, Some, sym, ap, ap₂, subst, ◌∙◌}
use Rattle.filter_constraints.specs.Constraint.{ConstraintParts}
use Rattle.filter_types.specs.Before.{list_before}
use Rattle.base.specs.Sets.{Has, IsRising}
use Rattle.base_order.specs.Order.{picked}
use Rattle.net_tables.specs.Known.{known_filters}
use Rattle.server_spec.specs.Control.{changes_to}
use Rattle.server_stock.specs.Stock.{Stocked}
use Rattle.server_stock.specs.Sides.{Announced}
use Rattle.server_stock.proofs.Turns.{get-some}
use Rattle.server_control.specs.Control.{subs}
use Rattle.match_routes.specs.declared.table_change.TableChange.TheVariants.{Put, Take}
use Rattle.server_message.specs.Parts.{sent_by}
use Rattle.server_core.specs.Due.{IsHeldAt}
use Rattle.server_core.specs.Ledger.{LedgerParts, FiltersSet}
use Rattle.server_core.specs.Showing.{shown, AnnouncesFilters}
use Rattle.server_core.specs.Keeps.{IsLedger}
use Rattle.server_core.proofs.Shown.{IsKnown}
use Rattle.server_core.proofs.Sieving.{Sieved}
use Rattle.server_core.proofs.Changed.{AreFiltersChanged, known-from, sieved-of, filters-by, lost-known, won-known, kept, set, announces, as-before, kept-back, ledgers-same}
use Rattle.server_core.proofs.ledger.Ledger.set_filters.Goals as goal

pub sieve-requires : goal.sieve-requires
sieve-requires c =
    let old = c.self.inside.control in
    let is = c.self.invariant in
    let was : IsKnown old = known-from old c.filters.result.now c.adverts.result.now c.filters.ensures c.adverts.ensures c.lemma_sound.ensures.held_from c.lemma_sound-2.ensures.held_from in
    let rising : IsRising list_before old.filters.items = subst (λ (z : Stocked (List ConstraintParts)). IsRising list_before z.items) c.filters.ensures c.lemma_sound.ensures.items in
    let there : Has c.args.interface old.filters.interfaces = subst (λ (z : LedgerParts). Has c.args.interface z.interfaces) (sym c.self.view_is) c.requires.interface in
    let outs : (i : ℕ) → Has i c.args.out.now → i < length old.filters.items =
    subst (λ z. (i : ℕ) → Has i c.args.out.now → i < length z) (sym is.filter_items)
    (subst (λ (z : LedgerParts). (i : ℕ) → Has i c.args.out.now → i < length (known_filters z.net.clients)) (sym c.self.view_is) c.requires.out) in
    let adds : (i : ℕ) → Has i c.args.add.now → i < length old.filters.items =
    subst (λ z. (i : ℕ) → Has i c.args.add.now → i < length z) (sym is.filter_items)
    (subst (λ (z : LedgerParts). (i : ℕ) → Has i c.args.add.now → i < length (known_filters z.net.clients)) (sym c.self.view_is) c.requires.add) in
    subst (λ (z : Stocked (List ConstraintParts)). (i : ℕ) → Has i c.args.out.now → i < length z.items) (sym c.filters-2.ensures) outs

pub sieve-requires-2 : goal.sieve-requires-2
sieve-requires-2 c =
    let old = c.self.inside.control in
    let is = c.self.invariant in
    let was : IsKnown old = known-from old c.filters.result.now c.adverts.result.now c.filters.ensures c.adverts.ensures c.lemma_sound.ensures.held_from c.lemma_sound-2.ensures.held_from in
    let rising : IsRising list_before old.filters.items = subst (λ (z : Stocked (List ConstraintParts)). IsRising list_before z.items) c.filters.ensures c.lemma_sound.ensures.items in
    let there : Has c.args.interface old.filters.interfaces = subst (λ (z : LedgerParts). Has c.args.interface z.interfaces) (sym c.self.view_is) c.requires.interface in
    let outs : (i : ℕ) → Has i c.args.out.now → i < length old.filters.items =
    subst (λ z. (i : ℕ) → Has i c.args.out.now → i < length z) (sym is.filter_items)
    (subst (λ (z : LedgerParts). (i : ℕ) → Has i c.args.out.now → i < length (known_filters z.net.clients)) (sym c.self.view_is) c.requires.out) in
    let adds : (i : ℕ) → Has i c.args.add.now → i < length old.filters.items =
    subst (λ z. (i : ℕ) → Has i c.args.add.now → i < length z) (sym is.filter_items)
    (subst (λ (z : LedgerParts). (i : ℕ) → Has i c.args.add.now → i < length (known_filters z.net.clients)) (sym c.self.view_is) c.requires.add) in
    subst (λ (z : Stocked (List ConstraintParts)). (i : ℕ) → Has i c.args.add.now → i < length z.items) (sym c.filters-3.ensures) adds

pub change_filters-requires-clause-out : goal.change_filters-requires-clause-out
change_filters-requires-clause-out c =
    let old = c.self.inside.control in
    let is = c.self.invariant in
    let was : IsKnown old = known-from old c.filters.result.now c.adverts.result.now c.filters.ensures c.adverts.ensures c.lemma_sound.ensures.held_from c.lemma_sound-2.ensures.held_from in
    let rising : IsRising list_before old.filters.items = subst (λ (z : Stocked (List ConstraintParts)). IsRising list_before z.items) c.filters.ensures c.lemma_sound.ensures.items in
    let there : Has c.args.interface old.filters.interfaces = subst (λ (z : LedgerParts). Has c.args.interface z.interfaces) (sym c.self.view_is) c.requires.interface in
    let outs : (i : ℕ) → Has i c.args.out.now → i < length old.filters.items =
    subst (λ z. (i : ℕ) → Has i c.args.out.now → i < length z) (sym is.filter_items)
    (subst (λ (z : LedgerParts). (i : ℕ) → Has i c.args.out.now → i < length (known_filters z.net.clients)) (sym c.self.view_is) c.requires.out) in
    let adds : (i : ℕ) → Has i c.args.add.now → i < length old.filters.items =
    subst (λ z. (i : ℕ) → Has i c.args.add.now → i < length z) (sym is.filter_items)
    (subst (λ (z : LedgerParts). (i : ℕ) → Has i c.args.add.now → i < length (known_filters z.net.clients)) (sym c.self.view_is) c.requires.add) in
    let lost-are : Sieved (λ k. IsHeldAt old.filters.items (subs old c.args.interface) k) c.args.out.now c.in_ok-lost.lost.items =
    sieved-of (λ items held k. IsHeldAt items held k) c.args.interface c.args.out.now c.in_ok-lost.lost.items c.filters-2.result.now old.filters c.filters-2.ensures c.in_ok-lost.ensures in
    let won-are : Sieved (λ k. IsHeldAt old.filters.items (subs old c.args.interface) k → ⊥) c.args.add.now c.in_ok-won.won.items =
    sieved-of (λ items held k. IsHeldAt items held k → ⊥) c.args.interface c.args.add.now c.in_ok-won.won.items c.filters-3.result.now old.filters c.filters-3.ensures c.in_ok-won.ensures in
    subst (λ z. (i : ℕ) → Has i z → i < length old.filters.items) (sym c.deref.ensures.value) (lost-known c.self.inside.tables.now c.self.inside.links.items old c.self.inside.installed.value c.self.inside.pending.items is was rising c.args.interface there c.args.out.now c.args.add.now c.in_ok-lost.lost.items c.in_ok-won.won.items outs adds c.requires.apart lost-are won-are)

pub change_filters-requires-clause-add : goal.change_filters-requires-clause-add
change_filters-requires-clause-add c =
    let old = c.self.inside.control in
    let is = c.self.invariant in
    let was : IsKnown old = known-from old c.filters.result.now c.adverts.result.now c.filters.ensures c.adverts.ensures c.lemma_sound.ensures.held_from c.lemma_sound-2.ensures.held_from in
    let rising : IsRising list_before old.filters.items = subst (λ (z : Stocked (List ConstraintParts)). IsRising list_before z.items) c.filters.ensures c.lemma_sound.ensures.items in
    let there : Has c.args.interface old.filters.interfaces = subst (λ (z : LedgerParts). Has c.args.interface z.interfaces) (sym c.self.view_is) c.requires.interface in
    let outs : (i : ℕ) → Has i c.args.out.now → i < length old.filters.items =
    subst (λ z. (i : ℕ) → Has i c.args.out.now → i < length z) (sym is.filter_items)
    (subst (λ (z : LedgerParts). (i : ℕ) → Has i c.args.out.now → i < length (known_filters z.net.clients)) (sym c.self.view_is) c.requires.out) in
    let adds : (i : ℕ) → Has i c.args.add.now → i < length old.filters.items =
    subst (λ z. (i : ℕ) → Has i c.args.add.now → i < length z) (sym is.filter_items)
    (subst (λ (z : LedgerParts). (i : ℕ) → Has i c.args.add.now → i < length (known_filters z.net.clients)) (sym c.self.view_is) c.requires.add) in
    let lost-are : Sieved (λ k. IsHeldAt old.filters.items (subs old c.args.interface) k) c.args.out.now c.in_ok-lost.lost.items =
    sieved-of (λ items held k. IsHeldAt items held k) c.args.interface c.args.out.now c.in_ok-lost.lost.items c.filters-2.result.now old.filters c.filters-2.ensures c.in_ok-lost.ensures in
    let won-are : Sieved (λ k. IsHeldAt old.filters.items (subs old c.args.interface) k → ⊥) c.args.add.now c.in_ok-won.won.items =
    sieved-of (λ items held k. IsHeldAt items held k → ⊥) c.args.interface c.args.add.now c.in_ok-won.won.items c.filters-3.result.now old.filters c.filters-3.ensures c.in_ok-won.ensures in
    subst (λ z. (i : ℕ) → Has i z → i < length old.filters.items) (sym c.deref-2.ensures.value) (won-known c.self.inside.tables.now c.self.inside.links.items old c.self.inside.installed.value c.self.inside.pending.items is was rising c.args.interface there c.args.out.now c.args.add.now c.in_ok-lost.lost.items c.in_ok-won.won.items outs adds c.requires.apart lost-are won-are)

pub filter_messages-requires-clause-announced : goal.filter_messages-requires-clause-announced
filter_messages-requires-clause-announced c p t l q =
    let old = c.self.inside.control in
    let is = c.self.invariant in
    let was : IsKnown old = known-from old c.filters.result.now c.adverts.result.now c.filters.ensures c.adverts.ensures c.lemma_sound.ensures.held_from c.lemma_sound-2.ensures.held_from in
    let rising : IsRising list_before old.filters.items = subst (λ (z : Stocked (List ConstraintParts)). IsRising list_before z.items) c.filters.ensures c.lemma_sound.ensures.items in
    let there : Has c.args.interface old.filters.interfaces = subst (λ (z : LedgerParts). Has c.args.interface z.interfaces) (sym c.self.view_is) c.requires.interface in
    let outs : (i : ℕ) → Has i c.args.out.now → i < length old.filters.items =
    subst (λ z. (i : ℕ) → Has i c.args.out.now → i < length z) (sym is.filter_items)
    (subst (λ (z : LedgerParts). (i : ℕ) → Has i c.args.out.now → i < length (known_filters z.net.clients)) (sym c.self.view_is) c.requires.out) in
    let adds : (i : ℕ) → Has i c.args.add.now → i < length old.filters.items =
    subst (λ z. (i : ℕ) → Has i c.args.add.now → i < length z) (sym is.filter_items)
    (subst (λ (z : LedgerParts). (i : ℕ) → Has i c.args.add.now → i < length (known_filters z.net.clients)) (sym c.self.view_is) c.requires.add) in
    let lost-are : Sieved (λ k. IsHeldAt old.filters.items (subs old c.args.interface) k) c.args.out.now c.in_ok-lost.lost.items =
    sieved-of (λ items held k. IsHeldAt items held k) c.args.interface c.args.out.now c.in_ok-lost.lost.items c.filters-2.result.now old.filters c.filters-2.ensures c.in_ok-lost.ensures in
    let won-are : Sieved (λ k. IsHeldAt old.filters.items (subs old c.args.interface) k → ⊥) c.args.add.now c.in_ok-won.won.items =
    sieved-of (λ items held k. IsHeldAt items held k → ⊥) c.args.interface c.args.add.now c.in_ok-won.won.items c.filters-3.result.now old.filters c.filters-3.ensures c.in_ok-won.ensures in
    let new = c.change_filters.new.self in
    let e = c.change_filters.ensures in
    let changed : AreFiltersChanged c.args.interface c.in_ok-lost.lost.items c.in_ok-won.won.items old new =
    filters-by c.args.interface c.deref.result.now c.in_ok-lost.lost.items c.deref-2.result.now c.in_ok-won.won.items old new c.deref.ensures.value c.deref-2.ensures.value (record {
      semantics = e.semantics;
      adverts = e.adverts;
      items = e.items;
      interfaces = e.interfaces;
      links = e.links;
      held = e.held;
      others = e.others;
      announced = e.announced;
    }) in
    let now : IsKnown new = known-from new c.filters-4.result.now c.adverts.result.now c.filters-4.ensures (c.adverts.ensures ∙ sym e.adverts) c.lemma_sound-3.ensures.held_from c.lemma_sound-2.ensures.held_from in
    let link = get-some c.self.inside.links.items p (subst (λ z. p < length z) c.deref-3.ensures.value l) in (
      changes_to (shown old) (shown new) link.0,
      subst (λ (z : Stocked (List ConstraintParts)). AnnouncesFilters z.items t (changes_to (shown old) (shown new) link.0)) (sym c.filters-5.ensures)
          (announces c.self.inside.tables.now c.self.inside.links.items old c.self.inside.installed.value c.self.inside.pending.items is was rising c.args.interface there c.args.out.now c.args.add.now c.in_ok-lost.lost.items c.in_ok-won.won.items outs adds c.requires.apart lost-are won-are new now changed p link.0 t link.1 (subst (λ (z : Stocked (List ConstraintParts)). slice_get z.announced p ≡ Some t) c.filters-5.ensures q)),
    )

pub invariant_of-self-in-Ok : goal.invariant_of-self-in-Ok
invariant_of-self-in-Ok c =
    let old = c.self.inside.control in
    let is = c.self.invariant in
    let was : IsKnown old = known-from old c.filters.result.now c.adverts.result.now c.filters.ensures c.adverts.ensures c.lemma_sound.ensures.held_from c.lemma_sound-2.ensures.held_from in
    let rising : IsRising list_before old.filters.items = subst (λ (z : Stocked (List ConstraintParts)). IsRising list_before z.items) c.filters.ensures c.lemma_sound.ensures.items in
    let there : Has c.args.interface old.filters.interfaces = subst (λ (z : LedgerParts). Has c.args.interface z.interfaces) (sym c.self.view_is) c.requires.interface in
    let outs : (i : ℕ) → Has i c.args.out.now → i < length old.filters.items =
    subst (λ z. (i : ℕ) → Has i c.args.out.now → i < length z) (sym is.filter_items)
    (subst (λ (z : LedgerParts). (i : ℕ) → Has i c.args.out.now → i < length (known_filters z.net.clients)) (sym c.self.view_is) c.requires.out) in
    let adds : (i : ℕ) → Has i c.args.add.now → i < length old.filters.items =
    subst (λ z. (i : ℕ) → Has i c.args.add.now → i < length z) (sym is.filter_items)
    (subst (λ (z : LedgerParts). (i : ℕ) → Has i c.args.add.now → i < length (known_filters z.net.clients)) (sym c.self.view_is) c.requires.add) in
    let lost-are : Sieved (λ k. IsHeldAt old.filters.items (subs old c.args.interface) k) c.args.out.now c.in_ok-lost.lost.items =
    sieved-of (λ items held k. IsHeldAt items held k) c.args.interface c.args.out.now c.in_ok-lost.lost.items c.filters-2.result.now old.filters c.filters-2.ensures c.in_ok-lost.ensures in
    let won-are : Sieved (λ k. IsHeldAt old.filters.items (subs old c.args.interface) k → ⊥) c.args.add.now c.in_ok-won.won.items =
    sieved-of (λ items held k. IsHeldAt items held k → ⊥) c.args.interface c.args.add.now c.in_ok-won.won.items c.filters-3.result.now old.filters c.filters-3.ensures c.in_ok-won.ensures in
    let new = c.change_filters.new.self in
    let e = c.change_filters.ensures in
    let changed : AreFiltersChanged c.args.interface c.in_ok-lost.lost.items c.in_ok-won.won.items old new =
    filters-by c.args.interface c.deref.result.now c.in_ok-lost.lost.items c.deref-2.result.now c.in_ok-won.won.items old new c.deref.ensures.value c.deref-2.ensures.value (record {
      semantics = e.semantics;
      adverts = e.adverts;
      items = e.items;
      interfaces = e.interfaces;
      links = e.links;
      held = e.held;
      others = e.others;
      announced = e.announced;
    }) in
    let now : IsKnown new = known-from new c.filters-4.result.now c.adverts.result.now c.filters-4.ensures (c.adverts.ensures ∙ sym e.adverts) c.lemma_sound-3.ensures.held_from c.lemma_sound-2.ensures.held_from in
    let more : c.stage.new.pending.items ≡ c.self.inside.pending.items ++ (map (λ i. Take i c.args.interface) c.in_ok-lost.lost.items ++ map (λ i. Put i c.args.interface) c.in_ok-won.won.items) =
    c.stage.ensures ∙ ap₂ (λ x y. x ++ y) c.in_ok-reserve.ensures.items
    (ap₂ (λ x y. map (λ i. Take i c.args.interface) x ++ map (λ i. Put i c.args.interface) y) c.deref-in-Ok.ensures.value c.deref-in-Ok-2.ensures.value) in
    subst (IsLedger c.self.inside.tables.now c.self.inside.links.items new c.self.inside.installed.value) (sym more) (kept c.self.inside.tables.now c.self.inside.links.items old c.self.inside.installed.value c.self.inside.pending.items is was rising c.args.interface there c.args.out.now c.args.add.now c.in_ok-lost.lost.items c.in_ok-won.won.items outs adds c.requires.apart lost-are won-are new now changed)

pub returns-in-Ok-clause-set : goal.returns-in-Ok-clause-set
returns-in-Ok-clause-set c =
    let old = c.self.inside.control in
    let is = c.self.invariant in
    let was : IsKnown old = known-from old c.filters.result.now c.adverts.result.now c.filters.ensures c.adverts.ensures c.lemma_sound.ensures.held_from c.lemma_sound-2.ensures.held_from in
    let rising : IsRising list_before old.filters.items = subst (λ (z : Stocked (List ConstraintParts)). IsRising list_before z.items) c.filters.ensures c.lemma_sound.ensures.items in
    let there : Has c.args.interface old.filters.interfaces = subst (λ (z : LedgerParts). Has c.args.interface z.interfaces) (sym c.self.view_is) c.requires.interface in
    let outs : (i : ℕ) → Has i c.args.out.now → i < length old.filters.items =
    subst (λ z. (i : ℕ) → Has i c.args.out.now → i < length z) (sym is.filter_items)
    (subst (λ (z : LedgerParts). (i : ℕ) → Has i c.args.out.now → i < length (known_filters z.net.clients)) (sym c.self.view_is) c.requires.out) in
    let adds : (i : ℕ) → Has i c.args.add.now → i < length old.filters.items =
    subst (λ z. (i : ℕ) → Has i c.args.add.now → i < length z) (sym is.filter_items)
    (subst (λ (z : LedgerParts). (i : ℕ) → Has i c.args.add.now → i < length (known_filters z.net.clients)) (sym c.self.view_is) c.requires.add) in
    let lost-are : Sieved (λ k. IsHeldAt old.filters.items (subs old c.args.interface) k) c.args.out.now c.in_ok-lost.lost.items =
    sieved-of (λ items held k. IsHeldAt items held k) c.args.interface c.args.out.now c.in_ok-lost.lost.items c.filters-2.result.now old.filters c.filters-2.ensures c.in_ok-lost.ensures in
    let won-are : Sieved (λ k. IsHeldAt old.filters.items (subs old c.args.interface) k → ⊥) c.args.add.now c.in_ok-won.won.items =
    sieved-of (λ items held k. IsHeldAt items held k → ⊥) c.args.interface c.args.add.now c.in_ok-won.won.items c.filters-3.result.now old.filters c.filters-3.ensures c.in_ok-won.ensures in
    let new = c.change_filters.new.self in
    let e = c.change_filters.ensures in
    let changed : AreFiltersChanged c.args.interface c.in_ok-lost.lost.items c.in_ok-won.won.items old new =
    filters-by c.args.interface c.deref.result.now c.in_ok-lost.lost.items c.deref-2.result.now c.in_ok-won.won.items old new c.deref.ensures.value c.deref-2.ensures.value (record {
      semantics = e.semantics;
      adverts = e.adverts;
      items = e.items;
      interfaces = e.interfaces;
      links = e.links;
      held = e.held;
      others = e.others;
      announced = e.announced;
    }) in
    let now : IsKnown new = known-from new c.filters-4.result.now c.adverts.result.now c.filters-4.ensures (c.adverts.ensures ∙ sym e.adverts) c.lemma_sound-3.ensures.held_from c.lemma_sound-2.ensures.held_from in
    let more : c.stage.new.pending.items ≡ c.self.inside.pending.items ++ (map (λ i. Take i c.args.interface) c.in_ok-lost.lost.items ++ map (λ i. Put i c.args.interface) c.in_ok-won.won.items) =
    c.stage.ensures ∙ ap₂ (λ x y. x ++ y) c.in_ok-reserve.ensures.items
    (ap₂ (λ x y. map (λ i. Take i c.args.interface) x ++ map (λ i. Put i c.args.interface) y) c.deref-in-Ok.ensures.value c.deref-in-Ok-2.ensures.value) in
    let announced : (p link : ℕ) (t : Announced) → slice_get c.deref-3.result.now p ≡ Some link → slice_get c.filters-5.result.now.announced p ≡ Some t
    → AnnouncesFilters c.filters-5.result.now.items t (changes_to (shown old) (shown new) link) =
    λ p link t l q. subst (λ (z : Stocked (List ConstraintParts)). AnnouncesFilters z.items t (changes_to (shown old) (shown new) link)) (sym c.filters-5.ensures)
    (announces c.self.inside.tables.now c.self.inside.links.items old c.self.inside.installed.value c.self.inside.pending.items is was rising c.args.interface there c.args.out.now c.args.add.now c.in_ok-lost.lost.items c.in_ok-won.won.items outs adds c.requires.apart lost-are won-are new now changed p link t (subst (λ z. slice_get z p ≡ Some link) c.deref-3.ensures.value l)
    (subst (λ (z : Stocked (List ConstraintParts)). slice_get z.announced p ≡ Some t) c.filters-5.ensures q)) in
    let sent : c.in-Ok.sent.items ≡ sent_by c.self.inside.tables.now (changes_to (shown old) (shown new)) c.self.inside.links.items =
    c.in-Ok.ensures (changes_to (shown old) (shown new)) announced ∙ ap (sent_by c.self.inside.tables.now (changes_to (shown old) (shown new))) c.deref-3.ensures.value in
    subst (λ (z : LedgerParts). FiltersSet c.args.interface (picked (known_filters z.net.clients) c.args.out.now) (picked (known_filters z.net.clients) c.args.add.now) z
    (record { net = c.self.inside.tables.now; interfaces = new.filters.interfaces; control = shown new; installed = (shown c.self.inside.installed.value).filters; pending = c.stage.new.pending.items })
    c.in-Ok.sent.items) c.self.view_is
    (subst (λ z. FiltersSet c.args.interface (picked (known_filters c.self.inside.tables.now.clients) c.args.out.now) (picked (known_filters c.self.inside.tables.now.clients) c.args.add.now)
    (record { net = c.self.inside.tables.now; interfaces = old.filters.interfaces; control = shown old; installed = (shown c.self.inside.installed.value).filters; pending = c.self.inside.pending.items })
    (record { net = c.self.inside.tables.now; interfaces = new.filters.interfaces; control = shown new; installed = (shown c.self.inside.installed.value).filters; pending = z })
    c.in-Ok.sent.items) (sym more)
    (set c.self.inside.tables.now c.self.inside.links.items old c.self.inside.installed.value c.self.inside.pending.items is was rising c.args.interface there c.args.out.now c.args.add.now c.in_ok-lost.lost.items c.in_ok-won.won.items outs adds c.requires.apart lost-are won-are new now changed c.in-Ok.sent.items sent))

pub change_filters-requires-in-Err-clause-out : goal.change_filters-requires-in-Err-clause-out
change_filters-requires-in-Err-clause-out c =
    let old = c.self.inside.control in
    let is = c.self.invariant in
    let was : IsKnown old = known-from old c.filters.result.now c.adverts.result.now c.filters.ensures c.adverts.ensures c.lemma_sound.ensures.held_from c.lemma_sound-2.ensures.held_from in
    let rising : IsRising list_before old.filters.items = subst (λ (z : Stocked (List ConstraintParts)). IsRising list_before z.items) c.filters.ensures c.lemma_sound.ensures.items in
    let there : Has c.args.interface old.filters.interfaces = subst (λ (z : LedgerParts). Has c.args.interface z.interfaces) (sym c.self.view_is) c.requires.interface in
    let outs : (i : ℕ) → Has i c.args.out.now → i < length old.filters.items =
    subst (λ z. (i : ℕ) → Has i c.args.out.now → i < length z) (sym is.filter_items)
    (subst (λ (z : LedgerParts). (i : ℕ) → Has i c.args.out.now → i < length (known_filters z.net.clients)) (sym c.self.view_is) c.requires.out) in
    let adds : (i : ℕ) → Has i c.args.add.now → i < length old.filters.items =
    subst (λ z. (i : ℕ) → Has i c.args.add.now → i < length z) (sym is.filter_items)
    (subst (λ (z : LedgerParts). (i : ℕ) → Has i c.args.add.now → i < length (known_filters z.net.clients)) (sym c.self.view_is) c.requires.add) in
    let lost-are : Sieved (λ k. IsHeldAt old.filters.items (subs old c.args.interface) k) c.args.out.now c.in_ok-lost.lost.items =
    sieved-of (λ items held k. IsHeldAt items held k) c.args.interface c.args.out.now c.in_ok-lost.lost.items c.filters-2.result.now old.filters c.filters-2.ensures c.in_ok-lost.ensures in
    let won-are : Sieved (λ k. IsHeldAt old.filters.items (subs old c.args.interface) k → ⊥) c.args.add.now c.in_ok-won.won.items =
    sieved-of (λ items held k. IsHeldAt items held k → ⊥) c.args.interface c.args.add.now c.in_ok-won.won.items c.filters-3.result.now old.filters c.filters-3.ensures c.in_ok-won.ensures in
    let new = c.change_filters.new.self in
    let e = c.change_filters.ensures in
    let changed : AreFiltersChanged c.args.interface c.in_ok-lost.lost.items c.in_ok-won.won.items old new =
    filters-by c.args.interface c.deref.result.now c.in_ok-lost.lost.items c.deref-2.result.now c.in_ok-won.won.items old new c.deref.ensures.value c.deref-2.ensures.value (record {
      semantics = e.semantics;
      adverts = e.adverts;
      items = e.items;
      interfaces = e.interfaces;
      links = e.links;
      held = e.held;
      others = e.others;
      announced = e.announced;
    }) in
    let now : IsKnown new = known-from new c.filters-4.result.now c.adverts.result.now c.filters-4.ensures (c.adverts.ensures ∙ sym e.adverts) c.lemma_sound-3.ensures.held_from c.lemma_sound-2.ensures.held_from in
    subst (λ z. (i : ℕ) → Has i z → i < length new.filters.items) (sym c.deref-in-Err.ensures.value) (subst (λ z. (i : ℕ) → Has i c.in_ok-won.won.items → i < length z) (sym changed.items) (won-known c.self.inside.tables.now c.self.inside.links.items old c.self.inside.installed.value c.self.inside.pending.items is was rising c.args.interface there c.args.out.now c.args.add.now c.in_ok-lost.lost.items c.in_ok-won.won.items outs adds c.requires.apart lost-are won-are))

pub change_filters-requires-in-Err-clause-add : goal.change_filters-requires-in-Err-clause-add
change_filters-requires-in-Err-clause-add c =
    let old = c.self.inside.control in
    let is = c.self.invariant in
    let was : IsKnown old = known-from old c.filters.result.now c.adverts.result.now c.filters.ensures c.adverts.ensures c.lemma_sound.ensures.held_from c.lemma_sound-2.ensures.held_from in
    let rising : IsRising list_before old.filters.items = subst (λ (z : Stocked (List ConstraintParts)). IsRising list_before z.items) c.filters.ensures c.lemma_sound.ensures.items in
    let there : Has c.args.interface old.filters.interfaces = subst (λ (z : LedgerParts). Has c.args.interface z.interfaces) (sym c.self.view_is) c.requires.interface in
    let outs : (i : ℕ) → Has i c.args.out.now → i < length old.filters.items =
    subst (λ z. (i : ℕ) → Has i c.args.out.now → i < length z) (sym is.filter_items)
    (subst (λ (z : LedgerParts). (i : ℕ) → Has i c.args.out.now → i < length (known_filters z.net.clients)) (sym c.self.view_is) c.requires.out) in
    let adds : (i : ℕ) → Has i c.args.add.now → i < length old.filters.items =
    subst (λ z. (i : ℕ) → Has i c.args.add.now → i < length z) (sym is.filter_items)
    (subst (λ (z : LedgerParts). (i : ℕ) → Has i c.args.add.now → i < length (known_filters z.net.clients)) (sym c.self.view_is) c.requires.add) in
    let lost-are : Sieved (λ k. IsHeldAt old.filters.items (subs old c.args.interface) k) c.args.out.now c.in_ok-lost.lost.items =
    sieved-of (λ items held k. IsHeldAt items held k) c.args.interface c.args.out.now c.in_ok-lost.lost.items c.filters-2.result.now old.filters c.filters-2.ensures c.in_ok-lost.ensures in
    let won-are : Sieved (λ k. IsHeldAt old.filters.items (subs old c.args.interface) k → ⊥) c.args.add.now c.in_ok-won.won.items =
    sieved-of (λ items held k. IsHeldAt items held k → ⊥) c.args.interface c.args.add.now c.in_ok-won.won.items c.filters-3.result.now old.filters c.filters-3.ensures c.in_ok-won.ensures in
    let new = c.change_filters.new.self in
    let e = c.change_filters.ensures in
    let changed : AreFiltersChanged c.args.interface c.in_ok-lost.lost.items c.in_ok-won.won.items old new =
    filters-by c.args.interface c.deref.result.now c.in_ok-lost.lost.items c.deref-2.result.now c.in_ok-won.won.items old new c.deref.ensures.value c.deref-2.ensures.value (record {
      semantics = e.semantics;
      adverts = e.adverts;
      items = e.items;
      interfaces = e.interfaces;
      links = e.links;
      held = e.held;
      others = e.others;
      announced = e.announced;
    }) in
    let now : IsKnown new = known-from new c.filters-4.result.now c.adverts.result.now c.filters-4.ensures (c.adverts.ensures ∙ sym e.adverts) c.lemma_sound-3.ensures.held_from c.lemma_sound-2.ensures.held_from in
    subst (λ z. (i : ℕ) → Has i z → i < length new.filters.items) (sym c.deref-in-Err-2.ensures.value) (subst (λ z. (i : ℕ) → Has i c.in_ok-lost.lost.items → i < length z) (sym changed.items) (lost-known c.self.inside.tables.now c.self.inside.links.items old c.self.inside.installed.value c.self.inside.pending.items is was rising c.args.interface there c.args.out.now c.args.add.now c.in_ok-lost.lost.items c.in_ok-won.won.items outs adds c.requires.apart lost-are won-are))

pub invariant_of-self-in-Err : goal.invariant_of-self-in-Err
invariant_of-self-in-Err c =
    let old = c.self.inside.control in
    let is = c.self.invariant in
    let was : IsKnown old = known-from old c.filters.result.now c.adverts.result.now c.filters.ensures c.adverts.ensures c.lemma_sound.ensures.held_from c.lemma_sound-2.ensures.held_from in
    let rising : IsRising list_before old.filters.items = subst (λ (z : Stocked (List ConstraintParts)). IsRising list_before z.items) c.filters.ensures c.lemma_sound.ensures.items in
    let there : Has c.args.interface old.filters.interfaces = subst (λ (z : LedgerParts). Has c.args.interface z.interfaces) (sym c.self.view_is) c.requires.interface in
    let outs : (i : ℕ) → Has i c.args.out.now → i < length old.filters.items =
    subst (λ z. (i : ℕ) → Has i c.args.out.now → i < length z) (sym is.filter_items)
    (subst (λ (z : LedgerParts). (i : ℕ) → Has i c.args.out.now → i < length (known_filters z.net.clients)) (sym c.self.view_is) c.requires.out) in
    let adds : (i : ℕ) → Has i c.args.add.now → i < length old.filters.items =
    subst (λ z. (i : ℕ) → Has i c.args.add.now → i < length z) (sym is.filter_items)
    (subst (λ (z : LedgerParts). (i : ℕ) → Has i c.args.add.now → i < length (known_filters z.net.clients)) (sym c.self.view_is) c.requires.add) in
    let lost-are : Sieved (λ k. IsHeldAt old.filters.items (subs old c.args.interface) k) c.args.out.now c.in_ok-lost.lost.items =
    sieved-of (λ items held k. IsHeldAt items held k) c.args.interface c.args.out.now c.in_ok-lost.lost.items c.filters-2.result.now old.filters c.filters-2.ensures c.in_ok-lost.ensures in
    let won-are : Sieved (λ k. IsHeldAt old.filters.items (subs old c.args.interface) k → ⊥) c.args.add.now c.in_ok-won.won.items =
    sieved-of (λ items held k. IsHeldAt items held k → ⊥) c.args.interface c.args.add.now c.in_ok-won.won.items c.filters-3.result.now old.filters c.filters-3.ensures c.in_ok-won.ensures in
    let new = c.change_filters.new.self in
    let e = c.change_filters.ensures in
    let changed : AreFiltersChanged c.args.interface c.in_ok-lost.lost.items c.in_ok-won.won.items old new =
    filters-by c.args.interface c.deref.result.now c.in_ok-lost.lost.items c.deref-2.result.now c.in_ok-won.won.items old new c.deref.ensures.value c.deref-2.ensures.value (record {
      semantics = e.semantics;
      adverts = e.adverts;
      items = e.items;
      interfaces = e.interfaces;
      links = e.links;
      held = e.held;
      others = e.others;
      announced = e.announced;
    }) in
    let now : IsKnown new = known-from new c.filters-4.result.now c.adverts.result.now c.filters-4.ensures (c.adverts.ensures ∙ sym e.adverts) c.lemma_sound-3.ensures.held_from c.lemma_sound-2.ensures.held_from in
    let back = c.change_filters-in-Err.new.self in
    let u = c.change_filters-in-Err.ensures in
    let undone : AreFiltersChanged c.args.interface c.in_ok-won.won.items c.in_ok-lost.lost.items new back =
    filters-by c.args.interface c.deref-in-Err.result.now c.in_ok-won.won.items c.deref-in-Err-2.result.now c.in_ok-lost.lost.items new back c.deref-in-Err.ensures.value c.deref-in-Err-2.ensures.value (record {
      semantics = u.semantics;
      adverts = u.adverts;
      items = u.items;
      interfaces = u.interfaces;
      links = u.links;
      held = u.held;
      others = u.others;
      announced = u.announced;
    }) in
    let then : IsKnown back = known-from back c.filters-in-Err.result.now c.adverts.result.now c.filters-in-Err.ensures (c.adverts.ensures ∙ sym (u.adverts ∙ e.adverts)) c.lemma_sound-in-Err.ensures.held_from c.lemma_sound-2.ensures.held_from in
    subst (IsLedger c.self.inside.tables.now c.self.inside.links.items back c.self.inside.installed.value) (sym c.in_ok-reserve.ensures.items) (kept-back c.self.inside.tables.now c.self.inside.links.items old c.self.inside.installed.value c.self.inside.pending.items is was rising c.args.interface there c.args.out.now c.args.add.now c.in_ok-lost.lost.items c.in_ok-won.won.items outs adds c.requires.apart lost-are won-are new now changed back then undone)

pub returns-clause-err : goal.returns-clause-err
returns-clause-err c =
    let old = c.self.inside.control in
    let is = c.self.invariant in
    let was : IsKnown old = known-from old c.filters.result.now c.adverts.result.now c.filters.ensures c.adverts.ensures c.lemma_sound.ensures.held_from c.lemma_sound-2.ensures.held_from in
    let rising : IsRising list_before old.filters.items = subst (λ (z : Stocked (List ConstraintParts)). IsRising list_before z.items) c.filters.ensures c.lemma_sound.ensures.items in
    let there : Has c.args.interface old.filters.interfaces = subst (λ (z : LedgerParts). Has c.args.interface z.interfaces) (sym c.self.view_is) c.requires.interface in
    let outs : (i : ℕ) → Has i c.args.out.now → i < length old.filters.items =
    subst (λ z. (i : ℕ) → Has i c.args.out.now → i < length z) (sym is.filter_items)
    (subst (λ (z : LedgerParts). (i : ℕ) → Has i c.args.out.now → i < length (known_filters z.net.clients)) (sym c.self.view_is) c.requires.out) in
    let adds : (i : ℕ) → Has i c.args.add.now → i < length old.filters.items =
    subst (λ z. (i : ℕ) → Has i c.args.add.now → i < length z) (sym is.filter_items)
    (subst (λ (z : LedgerParts). (i : ℕ) → Has i c.args.add.now → i < length (known_filters z.net.clients)) (sym c.self.view_is) c.requires.add) in
    let lost-are : Sieved (λ k. IsHeldAt old.filters.items (subs old c.args.interface) k) c.args.out.now c.in_ok-lost.lost.items =
    sieved-of (λ items held k. IsHeldAt items held k) c.args.interface c.args.out.now c.in_ok-lost.lost.items c.filters-2.result.now old.filters c.filters-2.ensures c.in_ok-lost.ensures in
    let won-are : Sieved (λ k. IsHeldAt old.filters.items (subs old c.args.interface) k → ⊥) c.args.add.now c.in_ok-won.won.items =
    sieved-of (λ items held k. IsHeldAt items held k → ⊥) c.args.interface c.args.add.now c.in_ok-won.won.items c.filters-3.result.now old.filters c.filters-3.ensures c.in_ok-won.ensures in
    let new = c.change_filters.new.self in
    let e = c.change_filters.ensures in
    let changed : AreFiltersChanged c.args.interface c.in_ok-lost.lost.items c.in_ok-won.won.items old new =
    filters-by c.args.interface c.deref.result.now c.in_ok-lost.lost.items c.deref-2.result.now c.in_ok-won.won.items old new c.deref.ensures.value c.deref-2.ensures.value (record {
      semantics = e.semantics;
      adverts = e.adverts;
      items = e.items;
      interfaces = e.interfaces;
      links = e.links;
      held = e.held;
      others = e.others;
      announced = e.announced;
    }) in
    let now : IsKnown new = known-from new c.filters-4.result.now c.adverts.result.now c.filters-4.ensures (c.adverts.ensures ∙ sym e.adverts) c.lemma_sound-3.ensures.held_from c.lemma_sound-2.ensures.held_from in
    let back = c.change_filters-in-Err.new.self in
    let u = c.change_filters-in-Err.ensures in
    let undone : AreFiltersChanged c.args.interface c.in_ok-won.won.items c.in_ok-lost.lost.items new back =
    filters-by c.args.interface c.deref-in-Err.result.now c.in_ok-won.won.items c.deref-in-Err-2.result.now c.in_ok-lost.lost.items new back c.deref-in-Err.ensures.value c.deref-in-Err-2.ensures.value (record {
      semantics = u.semantics;
      adverts = u.adverts;
      items = u.items;
      interfaces = u.interfaces;
      links = u.links;
      held = u.held;
      others = u.others;
      announced = u.announced;
    }) in
    let then : IsKnown back = known-from back c.filters-in-Err.result.now c.adverts.result.now c.filters-in-Err.ensures (c.adverts.ensures ∙ sym (u.adverts ∙ e.adverts)) c.lemma_sound-in-Err.ensures.held_from c.lemma_sound-2.ensures.held_from in
    let control : shown back ≡ shown old = as-before c.self.inside.tables.now c.self.inside.links.items old c.self.inside.installed.value c.self.inside.pending.items is was rising c.args.interface there c.args.out.now c.args.add.now c.in_ok-lost.lost.items c.in_ok-won.won.items outs adds c.requires.apart lost-are won-are new now changed back then undone in
    let interfaces : back.filters.interfaces ≡ old.filters.interfaces = undone.interfaces ∙ changed.interfaces in
    ledgers-same c.self.inside.tables.now back.filters.interfaces old.filters.interfaces (shown back) (shown old) (shown c.self.inside.installed.value).filters c.reserve.new.self.items c.self.inside.pending.items
    interfaces control c.in_ok-reserve.ensures.items ∙ c.self.view_is
