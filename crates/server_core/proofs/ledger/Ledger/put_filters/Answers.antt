use Rattle.std.proofs.Common.{◌≡◌, ◌<◌, ◌++◌, ℕ, List, [], length, map, refl, sym, ap, subst, ◌∙◌}
use Rattle.filter_constraints.specs.Constraint.{ConstraintParts}
use Rattle.filter_types.specs.Before.{list_before}
use Rattle.base.specs.Sets.{Has, IsRising}
use Rattle.base_order.specs.Order.{picked}
use Rattle.net_tables.specs.Known.{known_filters}
use Rattle.server_stock.specs.Stock.{Stocked}
use Rattle.server_control.specs.Control.{subs}
use Rattle.match_routes.specs.declared.table_change.TableChange.TheVariants.{Put, Take}
use Rattle.server_core.specs.Due.{IsHeldAt}
use Rattle.server_core.specs.Ledger.{LedgerParts}
use Rattle.server_core.specs.Showing.{shown}
use Rattle.server_core.specs.Keeps.{IsLedger}
use Rattle.server_core.specs.Putting.{FiltersPut}
use Rattle.server_core.proofs.Shown.{IsKnown}
use Rattle.server_core.proofs.Sieving.{Sieved}
use Rattle.server_core.proofs.Changed.{AreFiltersChanged, known-from, sieved-of, filters-by, won-known, kept}
use Rattle.server_core.proofs.Starting.{ledger_parts}
use Rattle.server_core.proofs.Putting.{none-sieved, filters-put}
use Rattle.server_core.proofs.ledger.Ledger.put_filters.Goals as goal

pub sieve-requires : goal.sieve-requires
sieve-requires c =
    let old = c.self.inside.control in
    let is = c.self.invariant in
    let was : IsKnown old = known-from old c.filters.result.now c.adverts.result.now c.filters.ensures c.adverts.ensures c.lemma_sound.ensures.held_from c.lemma_sound-2.ensures.held_from in
    let rising : IsRising list_before old.filters.items = subst (λ (z : Stocked (List ConstraintParts)). IsRising list_before z.items) c.filters.ensures c.lemma_sound.ensures.items in
    let there : Has c.args.interface old.filters.interfaces = subst (λ (z : LedgerParts). Has c.args.interface z.interfaces) (sym c.self.view_is) c.requires.interface in
    let adds : (i : ℕ) → Has i c.args.add.now → i < length old.filters.items =
    subst (λ z. (i : ℕ) → Has i c.args.add.now → i < length z) (sym is.filter_items)
    (subst (λ (z : LedgerParts). (i : ℕ) → Has i c.args.add.now → i < length (known_filters z.net.clients)) (sym c.self.view_is) c.requires.add) in
    subst (λ (z : Stocked (List ConstraintParts)). (i : ℕ) → Has i c.args.add.now → i < length z.items) (sym c.filters-2.ensures) adds

pub change_filters-requires-clause-add : goal.change_filters-requires-clause-add
change_filters-requires-clause-add c =
    let old = c.self.inside.control in
    let is = c.self.invariant in
    let was : IsKnown old = known-from old c.filters.result.now c.adverts.result.now c.filters.ensures c.adverts.ensures c.lemma_sound.ensures.held_from c.lemma_sound-2.ensures.held_from in
    let rising : IsRising list_before old.filters.items = subst (λ (z : Stocked (List ConstraintParts)). IsRising list_before z.items) c.filters.ensures c.lemma_sound.ensures.items in
    let there : Has c.args.interface old.filters.interfaces = subst (λ (z : LedgerParts). Has c.args.interface z.interfaces) (sym c.self.view_is) c.requires.interface in
    let adds : (i : ℕ) → Has i c.args.add.now → i < length old.filters.items =
    subst (λ z. (i : ℕ) → Has i c.args.add.now → i < length z) (sym is.filter_items)
    (subst (λ (z : LedgerParts). (i : ℕ) → Has i c.args.add.now → i < length (known_filters z.net.clients)) (sym c.self.view_is) c.requires.add) in
    let won-are : Sieved (λ k. IsHeldAt old.filters.items (subs old c.args.interface) k → ⊥) c.args.add.now c.in_ok-won.won.items =
    sieved-of (λ items held k. IsHeldAt items held k → ⊥) c.args.interface c.args.add.now c.in_ok-won.won.items c.filters-2.result.now old.filters c.filters-2.ensures c.in_ok-won.ensures in
    subst (λ z. (i : ℕ) → Has i z → i < length old.filters.items) (sym c.deref.ensures.value) (won-known c.self.inside.tables.now c.self.inside.links.items old c.self.inside.installed.value c.self.inside.pending.items is was rising c.args.interface there [] c.args.add.now [] c.in_ok-won.won.items (λ i m. absurd m) adds (λ i m n. absurd m) (none-sieved (λ k. IsHeldAt old.filters.items (subs old c.args.interface) k)) won-are)

pub invariant_of-self-2 : goal.invariant_of-self-2
invariant_of-self-2 c =
    let old = c.self.inside.control in
    let is = c.self.invariant in
    let was : IsKnown old = known-from old c.filters.result.now c.adverts.result.now c.filters.ensures c.adverts.ensures c.lemma_sound.ensures.held_from c.lemma_sound-2.ensures.held_from in
    let rising : IsRising list_before old.filters.items = subst (λ (z : Stocked (List ConstraintParts)). IsRising list_before z.items) c.filters.ensures c.lemma_sound.ensures.items in
    let there : Has c.args.interface old.filters.interfaces = subst (λ (z : LedgerParts). Has c.args.interface z.interfaces) (sym c.self.view_is) c.requires.interface in
    let adds : (i : ℕ) → Has i c.args.add.now → i < length old.filters.items =
    subst (λ z. (i : ℕ) → Has i c.args.add.now → i < length z) (sym is.filter_items)
    (subst (λ (z : LedgerParts). (i : ℕ) → Has i c.args.add.now → i < length (known_filters z.net.clients)) (sym c.self.view_is) c.requires.add) in
    let won-are : Sieved (λ k. IsHeldAt old.filters.items (subs old c.args.interface) k → ⊥) c.args.add.now c.in_ok-won.won.items =
    sieved-of (λ items held k. IsHeldAt items held k → ⊥) c.args.interface c.args.add.now c.in_ok-won.won.items c.filters-2.result.now old.filters c.filters-2.ensures c.in_ok-won.ensures in
    let new = c.change_filters.new.self in
    let e = c.change_filters.ensures in
    let changed : AreFiltersChanged c.args.interface [] c.in_ok-won.won.items old new =
    filters-by c.args.interface [] [] c.deref.result.now c.in_ok-won.won.items old new refl c.deref.ensures.value (record {
      semantics = e.semantics;
      adverts = e.adverts;
      items = e.items;
      interfaces = e.interfaces;
      links = e.links;
      held = e.held;
      others = e.others;
      announced = e.announced;
    }) in
    let now : IsKnown new = known-from new c.filters-3.result.now c.adverts.result.now c.filters-3.ensures (c.adverts.ensures ∙ sym e.adverts) c.lemma_sound-3.ensures.held_from c.lemma_sound-2.ensures.held_from in
    let more : c.stage.new.pending.items ≡ c.self.inside.pending.items ++ (map (λ i. Take i c.args.interface) [] ++ map (λ i. Put i c.args.interface) c.in_ok-won.won.items) =
    c.stage.ensures ∙ (ap (λ z. z ++ (map (λ i. Take i c.args.interface) [] ++ map (λ i. Put i c.args.interface) c.deref-2.result.now)) c.in_ok-reserve.ensures.items
    ∙ ap (λ z. c.self.inside.pending.items ++ (map (λ i. Take i c.args.interface) [] ++ map (λ i. Put i c.args.interface) z)) c.deref-2.ensures.value) in
    subst (IsLedger c.self.inside.tables.now c.self.inside.links.items new c.self.inside.installed.value) (sym more) (kept c.self.inside.tables.now c.self.inside.links.items old c.self.inside.installed.value c.self.inside.pending.items is was rising c.args.interface there [] c.args.add.now [] c.in_ok-won.won.items (λ i m. absurd m) adds (λ i m n. absurd m) (none-sieved (λ k. IsHeldAt old.filters.items (subs old c.args.interface) k)) won-are new now changed)

pub returns : goal.returns
returns c =
    let old = c.self.inside.control in
    let is = c.self.invariant in
    let was : IsKnown old = known-from old c.filters.result.now c.adverts.result.now c.filters.ensures c.adverts.ensures c.lemma_sound.ensures.held_from c.lemma_sound-2.ensures.held_from in
    let rising : IsRising list_before old.filters.items = subst (λ (z : Stocked (List ConstraintParts)). IsRising list_before z.items) c.filters.ensures c.lemma_sound.ensures.items in
    let there : Has c.args.interface old.filters.interfaces = subst (λ (z : LedgerParts). Has c.args.interface z.interfaces) (sym c.self.view_is) c.requires.interface in
    let adds : (i : ℕ) → Has i c.args.add.now → i < length old.filters.items =
    subst (λ z. (i : ℕ) → Has i c.args.add.now → i < length z) (sym is.filter_items)
    (subst (λ (z : LedgerParts). (i : ℕ) → Has i c.args.add.now → i < length (known_filters z.net.clients)) (sym c.self.view_is) c.requires.add) in
    let won-are : Sieved (λ k. IsHeldAt old.filters.items (subs old c.args.interface) k → ⊥) c.args.add.now c.in_ok-won.won.items =
    sieved-of (λ items held k. IsHeldAt items held k → ⊥) c.args.interface c.args.add.now c.in_ok-won.won.items c.filters-2.result.now old.filters c.filters-2.ensures c.in_ok-won.ensures in
    let new = c.change_filters.new.self in
    let e = c.change_filters.ensures in
    let changed : AreFiltersChanged c.args.interface [] c.in_ok-won.won.items old new =
    filters-by c.args.interface [] [] c.deref.result.now c.in_ok-won.won.items old new refl c.deref.ensures.value (record {
      semantics = e.semantics;
      adverts = e.adverts;
      items = e.items;
      interfaces = e.interfaces;
      links = e.links;
      held = e.held;
      others = e.others;
      announced = e.announced;
    }) in
    let now : IsKnown new = known-from new c.filters-3.result.now c.adverts.result.now c.filters-3.ensures (c.adverts.ensures ∙ sym e.adverts) c.lemma_sound-3.ensures.held_from c.lemma_sound-2.ensures.held_from in
    let more : c.stage.new.pending.items ≡ c.self.inside.pending.items ++ (map (λ i. Take i c.args.interface) [] ++ map (λ i. Put i c.args.interface) c.in_ok-won.won.items) =
    c.stage.ensures ∙ (ap (λ z. z ++ (map (λ i. Take i c.args.interface) [] ++ map (λ i. Put i c.args.interface) c.deref-2.result.now)) c.in_ok-reserve.ensures.items
    ∙ ap (λ z. c.self.inside.pending.items ++ (map (λ i. Take i c.args.interface) [] ++ map (λ i. Put i c.args.interface) z)) c.deref-2.ensures.value) in
    subst (λ (z : LedgerParts). FiltersPut c.args.interface (picked (known_filters z.net.clients) c.args.add.now) z
    (ledger_parts c.self.inside.tables.now new.filters.interfaces (shown new) (shown c.self.inside.installed.value).filters c.stage.new.pending.items)) c.self.view_is
    (subst (λ z. FiltersPut c.args.interface (picked (known_filters c.self.inside.tables.now.clients) c.args.add.now)
    (ledger_parts c.self.inside.tables.now old.filters.interfaces (shown old) (shown c.self.inside.installed.value).filters c.self.inside.pending.items)
    (ledger_parts c.self.inside.tables.now new.filters.interfaces (shown new) (shown c.self.inside.installed.value).filters z)) (sym more)
    (filters-put c.self.inside.tables.now c.self.inside.links.items old c.self.inside.installed.value c.self.inside.pending.items is was c.args.interface c.args.add.now c.in_ok-won.won.items rising there adds won-are new now changed))
