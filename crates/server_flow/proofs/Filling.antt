-- Lemmas on the rows of a table that are of what flows.
use Rattle.std.proofs.Common.{◌≡◌, ◌⊎◌, ◌↔◌, inl, inr, ℕ, ◌+◌, ◌<◌, ◌==◌, ◌&&◌, ◌||◌, not, Bool, true, false, cond, List, [], length, filter, Some, take, slice_get, refl, sym, ap, subst, ◌∙◌, arith}
use Rattle.std.proofs.lemmas.Bool.Decides.{nat_tests}
use Rattle.base.specs.Sets.{Has, roots}
use Rattle.base.proofs.Roots.{filter-iff}
use Rattle.base.proofs.Sets.{rising-filter}
use Rattle.base_bits.specs.Rows.{Numbers}
use Rattle.filter_constraints.specs.Constraint.{ConstraintParts}
use Rattle.filter_types.specs.Before.{list_before}
use Rattle.filter_types.specs.Cover.{filter_covers, advert_covers}
use Rattle.filter_covering.specs.Laws.{sub_laws}
use Rattle.base_order.specs.Order.{picked}
use Rattle.filter_text.specs.Messages.{Lists}
use Rattle.base_tree.specs.Tree.{Topology, TreeLaws, links_of}
use Rattle.law_routing.specs.Net.{Net}
use Rattle.law_routing.specs.Server.{union_except, interfaces}
use Rattle.law_routing.specs.Clients.{some_pass}
use Rattle.law_routing.specs.Flow.{holds, flow_ad, flow}
use Rattle.net_model.specs.Real.{real}
use Rattle.net_model.specs.Parts.{NetParts}
use Rattle.net_tables.specs.Known.{known_filters, known_adverts}
use Rattle.server_spec.specs.Control.{by_adverts, is_wanted}
use Rattle.server_spec.proofs.Taken.{has-next, has-take}
use Rattle.server_spec.specs.declared.home.Home.{Home}
use Rattle.server_spec.specs.Flow.{IsNetOn, IsUnionOfClients, filters_of, adverts_of}
use Rattle.server_spec.specs.Rows.{IsOrder}
use Rattle.server_spec.proofs.Ordering.{to-small, in-order}
use Rattle.server_spec.proofs.Solving.{rising-except, ad-is, sub-is, made-has}
use Rattle.server_flow.specs.Rows.{row_at, IsNeededItem, IsWantedToo, PicksRootsOf, AdvertsFor, AreAdverts, FiltersFor}

-- what holds of the rows for the links so far holds of one more
fill-step : (P : ℕ → ℕ → Numbers → Type 0) (order : List (ℕ × ℕ)) (i at of : ℕ) (table new : List Numbers) (row : Numbers)
    → slice_get order i ≡ Some (at, of) → ((a b : ℕ) → Has (a, b) (take (i + 1) order) → b < 65)
    → ((a b : ℕ) → b < 65 → row_at new a b ≡ cond ((a == at) && (b == of)) row (row_at table a b))
    → ((a b : ℕ) → Has (a, b) (take i order) → P a b (row_at table a b)) → P at of row
    → (a b : ℕ) → Has (a, b) (take (i + 1) order) → P a b (row_at new a b)
fill-step P order i at of table new row is small set before made a b m = go ((a == at) && (b == of)) refl
  where
    go : (t : Bool) → ((a == at) && (b == of)) ≡ t → P a b (row_at new a b)
    go true e =
        let p : a ≡ at = grind (arith, nat_tests, e) in
        let q : b ≡ of = grind (arith, nat_tests, e) in
        let r : row_at new a b ≡ row = set a b (small a b m) ∙ ap (λ z. cond z row (row_at table a b)) e in
        subst (P a b) (sym r) (subst (λ z. P z b row) (sym p) (subst (λ z. P at z row) (sym q) made))
    go false e =
        let r : row_at new a b ≡ row_at table a b = set a b (small a b m) ∙ ap (λ z. cond z row (row_at table a b)) e in
        subst (P a b) (sym r) (elim ((has-next order i (at, of) (a, b) is).0 m) [
          | inl k ↦ before a b k
          | inr s ↦
              let p : a ≡ at = ap (λ (z : ℕ × ℕ). z.0) s in
              let q : b ≡ of = ap (λ (z : ℕ × ℕ). z.1) s in
              let yes : ((a == at) && (b == of)) ≡ true = grind (arith, nat_tests, p, q) in
              let no : true ≡ false = sym yes ∙ e in
              absurd cc
        ])

-- an item is needed where it is of what flows
flowing-needed : (tree : Topology) (items own : Lists) (table : List Numbers) (a b : ℕ) (f : ℕ → Lists) → ((c : ℕ) → Has c (links_of tree b) → (c ≡ a → ⊥) → picked items (row_at table b c).members ≡ f c) → (x : List ConstraintParts)
    → IsNeededItem tree items own table a b x ↔ (Has x own ⊎ ((c : ℕ) × Has c (links_of tree b) × (c ≡ a → ⊥) × Has x (f c)))
flowing-needed tree items own table a b f rows x = (to, from)
  where
    to : IsNeededItem tree items own table a b x → Has x own ⊎ ((c : ℕ) × Has c (links_of tree b) × (c ≡ a → ⊥) × Has x (f c))
    to (inl m) = inl m
    to (inr (c, l, n, m)) = inr (c, l, n, subst (Has x) (rows c l n) m)

    from : Has x own ⊎ ((c : ℕ) × Has c (links_of tree b) × (c ≡ a → ⊥) × Has x (f c)) → IsNeededItem tree items own table a b x
    from (inl m) = inl m
    from (inr (c, l, n, m)) = inr (c, l, n, subst (Has x) (sym (rows c l n)) m)

-- one step of each table
module _ (known : NetParts) (tree : Topology) (laws : TreeLaws tree) (homes : List Home) (order : List (ℕ × ℕ)) (good : IsOrder tree order)
    (i at of : ℕ) (is : slice_get order i ≡ Some (at, of)) (table new : List Numbers) (row : Numbers)
    (set : (a b : ℕ) → b < 65 → row_at new a b ≡ cond ((a == at) && (b == of)) row (row_at table a b)) where
  link : Has of (links_of tree at)
  link = good.linked i at of is

  small : (a b : ℕ) → Has (a, b) (take (i + 1) order) → b < 65
  small a b m = to-small tree laws a b (in-order tree laws order good a b (has-take order (i + 1) (a, b) m))

  pub advert-step : row.width ≡ length (known_adverts known.clients)
      → (by_adverts known.semantics ≡ true → PicksRootsOf advert_covers list_before (known_adverts known.clients) row.members (IsNeededItem tree (known_adverts known.clients) (adverts_of homes of) table at of))
      → (by_adverts known.semantics ≡ false → row.members ≡ [])
      → AdvertsFor known tree homes (λ a b. Has (a, b) (take i order)) table → AdvertsFor known tree homes (λ a b. Has (a, b) (take (i + 1) order)) new
  advert-step wide steering silent before = record {
    wide = fill-step (λ a b (r : Numbers). r.width ≡ length (known_adverts known.clients)) order i at of table new row is small set before.wide wide;
    flows = λ net sets on union-of. fill-step (λ a b (r : Numbers). picked (known_adverts known.clients) r.members ≡ flow_ad real net sets a b) order i at of table new row is small set (before.flows net sets on union-of)
        (this net sets on union-of);
  }
    where
      this : (net : Net real) (sets : ℕ → ℕ → Lists) → IsNetOn known.semantics tree net → IsUnionOfClients net sets (adverts_of homes) → picked (known_adverts known.clients) row.members ≡ flow_ad real net sets at of
      this net sets on union-of = go (by_adverts known.semantics) refl
        where
          all : Lists
          all = union_except list_before (holds real net sets of (flow_ad real net sets of)) at (interfaces real net of)

          announced : (x : List ConstraintParts) → Has x (union_except list_before (holds real net sets of (flow_ad real net sets of)) at (interfaces real net of))
              ↔ IsNeededItem tree (known_adverts known.clients) (adverts_of homes of) table at of x
          announced x =
              let n = flowing-needed tree (known_adverts known.clients) (adverts_of homes of) table at of (flow_ad real net sets of) (λ c m n. before.flows net sets on union-of of c (good.earlier i at of is c m n)) x in
              let m = made-has known.semantics tree laws net on sets (adverts_of homes) union-of (flow_ad real net sets of) at of link x in
              (λ h. n.1 (m.0 h), λ h. m.1 (n.0 h))

          flows : (b : Bool) → by_adverts known.semantics ≡ b
              → flow_ad real net sets at of ≡ cond b (roots real.covers_advert list_before (union_except list_before (holds real net sets of (flow_ad real net sets of)) at (interfaces real net of))) []
          flows b e = ad-is known.semantics tree laws net on sets sets at of link
              ∙ ap (λ z. cond z (roots real.covers_advert list_before (union_except list_before (holds real net sets of (flow_ad real net sets of)) at (interfaces real net of))) []) (on.adverts ∙ e)

          go : (b : Bool) → by_adverts known.semantics ≡ b → picked (known_adverts known.clients) row.members ≡ flow_ad real net sets at of
          go true e = steering e (union_except list_before (holds real net sets of (flow_ad real net sets of)) at (interfaces real net of))
              (rising-except sub_laws (holds real net sets of (flow_ad real net sets of)) at (interfaces real net of)) announced ∙ sym (flows true e)
          go false e = ap (picked (known_adverts known.clients)) (silent e) ∙ sym (flows false e)

  pub filter-step : (offers : List Numbers) → AreAdverts known tree homes offers → row.width ≡ length (known_filters known.clients)
      → PicksRootsOf filter_covers list_before (known_filters known.clients) row.members (IsWantedToo (IsNeededItem tree (known_filters known.clients) (filters_of homes of) table at of)
      (is_wanted known.semantics (picked (known_adverts known.clients) (row_at offers of at).members)))
      → FiltersFor known tree homes (λ a b. Has (a, b) (take i order)) table → FiltersFor known tree homes (λ a b. Has (a, b) (take (i + 1) order)) new
  filter-step offers advs wide made before = record {
    wide = fill-step (λ a b (r : Numbers). r.width ≡ length (known_filters known.clients)) order i at of table new row is small set before.wide wide;
    flows = λ net sets ad_sets on union-of union-ads. fill-step (λ a b (r : Numbers). picked (known_filters known.clients) r.members ≡ flow real net sets ad_sets a b) order i at of table new row is small set
        (before.flows net sets ad_sets on union-of union-ads) (this net sets ad_sets on union-of union-ads);
  }
    where
      this : (net : Net real) (sets ad_sets : ℕ → ℕ → Lists) → IsNetOn known.semantics tree net → IsUnionOfClients net sets (filters_of homes) → IsUnionOfClients net ad_sets (adverts_of homes)
          → picked (known_filters known.clients) row.members ≡ flow real net sets ad_sets at of
      this net sets ad_sets on union-of union-ads =
          made (filter (λ x. not net.adverts || some_pass (real.overlaps x) (flow_ad real net ad_sets of at)) (union_except list_before (holds real net sets of (flow real net sets ad_sets of)) at (interfaces real net of)))
          (rising-filter sub_laws (λ x. not net.adverts || some_pass (real.overlaps x) (flow_ad real net ad_sets of at)) (union_except list_before (holds real net sets of (flow real net sets ad_sets of)) at (interfaces real net of))
          (rising-except sub_laws (holds real net sets of (flow real net sets ad_sets of)) at (interfaces real net of))) announced
          ∙ sym (sub-is known.semantics tree laws net on sets ad_sets at of link)
        where
          offered : picked (known_adverts known.clients) (row_at offers of at).members ≡ flow_ad real net ad_sets of at
          offered = advs.flows net ad_sets on union-ads of at (laws.hops.both at of link)

          same-wish : (x : List ConstraintParts) → is_wanted known.semantics (picked (known_adverts known.clients) (row_at offers of at).members) x ≡ (not net.adverts || some_pass (real.overlaps x) (flow_ad real net ad_sets of at))
          same-wish x = ap (λ z. not z || some_pass (real.overlaps x) (picked (known_adverts known.clients) (row_at offers of at).members)) (sym on.adverts) ∙ ap (λ z. not net.adverts || some_pass (real.overlaps x) z) offered

          announced : (x : List ConstraintParts) → Has x (filter (λ x. not net.adverts || some_pass (real.overlaps x) (flow_ad real net ad_sets of at)) (union_except list_before (holds real net sets of (flow real net sets ad_sets of)) at (interfaces real net of)))
              ↔ (IsNeededItem tree (known_filters known.clients) (filters_of homes of) table at of x × (is_wanted known.semantics (picked (known_adverts known.clients) (row_at offers of at).members) x ≡ true))
          announced x =
              let n = flowing-needed tree (known_filters known.clients) (filters_of homes of) table at of (flow real net sets ad_sets of) (λ c m n. before.flows net sets ad_sets on union-of union-ads of c (good.earlier i at of is c m n)) x in
              let m = made-has known.semantics tree laws net on sets (filters_of homes) union-of (flow real net sets ad_sets of) at of link x in
              let k = filter-iff (λ x. not net.adverts || some_pass (real.overlaps x) (flow_ad real net ad_sets of at)) x (union_except list_before (holds real net sets of (flow real net sets ad_sets of)) at (interfaces real net of)) in
              (λ h. (let r = k.0 h in (n.1 (m.0 r.0), same-wish x ∙ r.1)), λ h. k.1 (m.1 (n.0 h.0), sym (same-wish x) ∙ h.1))

-- the rows are wide enough
pub earlier-wide : (tree : Topology) (order : List (ℕ × ℕ)) (good : IsOrder tree order) (i at of width : ℕ) → slice_get order i ≡ Some (at, of) → (table : List Numbers) → ((a b : ℕ) → Has (a, b) (take i order) → (row_at table a b).width ≡ width)
    → (c : ℕ) → Has c (links_of tree of) → (c ≡ at → ⊥) → (row_at table of c).width ≡ width
earlier-wide tree order good i at of width is table wide c m n = wide of c (good.earlier i at of is c m n)
