-- Unions of rows, and the roots of the items that they are of.
use Rattle.std.proofs.Common.{◌≡◌, ◌⊎◌, ◌↔◌, inl, inr, ℕ, ◌+◌, ◌≤◌, ◌||◌, nat_lt, Bool, true, List, [], ◌∷◌, length, take, slice_get, Some, refl, sym, ap, subst, ◌∙◌}
use Rattle.std.specs.List.{list_any}
use Rattle.filter_constraints.specs.Constraint.{ConstraintParts}
use Rattle.filter_types.specs.Cover.{overlaps}
use Rattle.base.specs.Laws.{CoverLaws}
use Rattle.base.specs.Sets.{Has, IsRising, member, roots, union}
use Rattle.base.proofs.Sets.{ext, has-union, member-iff}
use Rattle.base.proofs.Roots.{filter-iff}
use Rattle.base_bits.specs.Rows.{Numbers, is_in, common}
use Rattle.base_bits.proofs.Passing.{nat_laws}
use Rattle.base_order.specs.Order.{picked}
use Rattle.base_order.proofs.SettledRoots.{in-has, has-in}
use Rattle.server_stock.proofs.Shown.{picked-has, has-picked, picked-rising, one-number}
use Rattle.filter_text.specs.Messages.{Lists}
use Rattle.filter_text.specs.declared.semantics.Semantics.TheVariants.{Advertisement}
use Rattle.base_tree.specs.Tree.{Topology, links_of}
use Rattle.law_routing.specs.Clients.{some_pass}
use Rattle.server_spec.specs.Control.{is_wanted}
use Rattle.server_spec.proofs.Taken.{has-next, take-all}
use Rattle.net_tables.specs.Related.{overlap_rows}
use Rattle.server_flow.specs.Rows.{row_at, IsNeeded, IsNeededItem, PicksRootsOf}
use Rattle.server_control.specs.Offering.{IsUnion}
use Rattle.server_control.proofs.Wanted.{union-offers}
use Rattle.law_routing.proofs.Listing.{some_pass-any}

-- the numbers so far: a server's own, and those of the first of its links but one
module _ (table : List Numbers) (at of : ℕ) (own : List ℕ) where
  abbrev pub IsSoFar : List ℕ → ℕ → ℕ → Type 0
  IsSoFar links n k = Has k own ⊎ ((c : ℕ) × Has c (take n links) × (c ≡ at → ⊥) × Has k (row_at table of c).members)

  pub need-start : (links row : List ℕ) → row ≡ own → (k : ℕ) → Has k row ↔ IsSoFar links 0 k
  need-start links row e k = (λ m. inl (subst (Has k) e m), λ s. elim s [ inl m ↦ subst (Has k) (sym e) m | inr r ↦ absurd (none links r.0 r.1) ])
    where
      none : (xs : List ℕ) (c : ℕ) → Has c (take 0 xs) → ⊥
      none [] c m = m
      none (x ∷ xs) c m = m

  module _ (links : List ℕ) (n next : ℕ) (is : slice_get links n ≡ Some next) (row : List ℕ) (before : (k : ℕ) → Has k row ↔ IsSoFar links n k) where
    pub need-step : (new other : List ℕ) → (next ≡ at → ⊥) → other ≡ (row_at table of next).members → new ≡ union nat_lt other row → (k : ℕ) → Has k new ↔ IsSoFar links (n + 1) k
    need-step new other off o e k = (to, from)
      where
        to : Has k new → IsSoFar links (n + 1) k
        to m = elim ((has-union nat_laws k other row).0 (subst (Has k) e m)) [
          | inl j ↦ inr (next, (has-next links n next next is).1 (inr refl), off, subst (Has k) o j)
          | inr j ↦ elim ((before k).0 j) [
            | inl i ↦ inl i
            | inr r ↦ inr (r.0, (has-next links n next r.0 is).1 (inl r.1), r.2, r.3)
          ]
        ]

        from : IsSoFar links (n + 1) k → Has k new
        from (inl m) = subst (Has k) (sym e) ((has-union nat_laws k other row).1 (inr ((before k).1 (inl m))))
        from (inr r) = subst (Has k) (sym e) ((has-union nat_laws k other row).1 (elim ((has-next links n next r.0 is).0 r.1) [
          | inl j ↦ inr ((before k).1 (inr (r.0, j, r.2, r.3)))
          | inr q ↦ inl (subst (Has k) (sym o) (subst (λ z. Has k (row_at table of z).members) q r.3))
        ]))

    pub need-skip : next ≡ at → (k : ℕ) → Has k row ↔ IsSoFar links (n + 1) k
    need-skip same k = (to, from)
      where
        to : Has k row → IsSoFar links (n + 1) k
        to m = elim ((before k).0 m) [
          | inl i ↦ inl i
          | inr r ↦ inr (r.0, (has-next links n next r.0 is).1 (inl r.1), r.2, r.3)
        ]

        from : IsSoFar links (n + 1) k → Has k row
        from (inl m) = (before k).1 (inl m)
        from (inr r) = elim ((has-next links n next r.0 is).0 r.1) [
          | inl j ↦ (before k).1 (inr (r.0, j, r.2, r.3))
          | inr q ↦ absurd (r.2 (q ∙ same))
        ]

  pub need-end : (tree : Topology) (links row : List ℕ) (n : ℕ) → length links ≤ n → links ≡ links_of tree of → ((k : ℕ) → Has k row ↔ IsSoFar links n k) → (k : ℕ) → Has k row ↔ IsNeeded tree own table at of k
  need-end tree links row n all e before k = subst (λ z. Has k row ↔ (Has k own ⊎ ((c : ℕ) × Has c z × (c ≡ at → ⊥) × Has k (row_at table of c).members))) (take-all links n all ∙ e) (before k)

-- the roots of a set of items that the numbers are of
pub picks-due : {T : Type 0} {covers before : T → T → Bool} → CoverLaws covers before → (items : List T) → IsRising before items → (due row : List ℕ) → IsRising nat_lt due
    → picked items row ≡ roots covers before (picked items due) → PicksRootsOf covers before items row (λ x. Has x (picked items due))
picks-due {covers = covers} {before} laws items rising due row rises is xs up announced = is ∙ ap (roots covers before) (ext laws (picked items due) xs (picked-rising laws items rising due rises) up
    (λ x m. (announced x).1 m) (λ x m. (announced x).0 m))

pub picks-same : {T : Type 0} (covers before : T → T → Bool) (items : List T) (row : List ℕ) (IsDue IsToo : T → Type 0) → ((x : T) → IsDue x ↔ IsToo x)
    → PicksRootsOf covers before items row IsDue → PicksRootsOf covers before items row IsToo
picks-same covers before items row IsDue IsToo same picks xs up announced = picks xs up (λ x. (λ m. (same x).1 ((announced x).0 m), λ d. (announced x).1 ((same x).0 d)))

-- the items of what is needed
module _ {T : Type 0} (items : List T) (tree : Topology) (own-row : List ℕ) (own : List T)
    (own-is : picked items own-row ≡ own) (table : List Numbers) (a b : ℕ) (need : List ℕ) (needed-are : (k : ℕ) → Has k need ↔ IsNeeded tree own-row table a b k) where
  pub item-needed : (x : T) → Has x (picked items need) ↔ IsNeededItem tree items own table a b x
  item-needed x = (λ m. let r = picked-has items need x m in to r.0 r.1 r.2, from)
    where
      to : (k : ℕ) → Has k need → slice_get items k ≡ Some x → IsNeededItem tree items own table a b x
      to k m e = elim ((needed-are k).0 m) [
        | inl h ↦ inl (subst (Has x) own-is (has-picked items own-row k x h e))
        | inr r ↦ inr (r.0, r.1, r.2, has-picked items (row_at table b r.0).members k x r.3 e)
      ]

      from : IsNeededItem tree items own table a b x → Has x (picked items need)
      from (inl h) = let r = picked-has items own-row x (subst (Has x) (sym own-is) h) in has-picked items need r.0 x ((needed-are r.0).1 (inl r.1)) r.2
      from (inr (c, l, n, h)) = let r = picked-has items (row_at table b c).members x h in has-picked items need r.0 x ((needed-are r.0).1 (inr (c, l, n, r.1))) r.2

  pub item-wanted : (wanted : T → Bool) (due : List ℕ) → ((k : ℕ) (x : T) → slice_get items k ≡ Some x → Has k due ↔ (Has k need × (wanted x ≡ true)))
      → (x : T) → Has x (picked items due) ↔ (IsNeededItem tree items own table a b x × (wanted x ≡ true))
  item-wanted wanted due due-are x = (to, from)
    where
      to : Has x (picked items due) → IsNeededItem tree items own table a b x × (wanted x ≡ true)
      to m =
          let r = picked-has items due x m in
          let w = (due-are r.0 x r.2).0 r.1 in
          ((item-needed x).0 (has-picked items need r.0 x w.0 r.2), w.1)

      from : IsNeededItem tree items own table a b x × (wanted x ≡ true) → Has x (picked items due)
      from w =
          let r = picked-has items need x ((item-needed x).1 w.0) in
          has-picked items due r.0 x ((due-are r.0 x r.2).1 (r.1, w.1)) r.2

-- an item's number is the only one
picked-one : {T : Type 0} {covers before : T → T → Bool} → CoverLaws covers before → (items : List T) → IsRising before items → (ns : List ℕ) (k : ℕ) (x : T) → slice_get items k ≡ Some x → Has x (picked items ns) → Has k ns
picked-one laws items rising ns k x at m = let r = picked-has items ns x m in subst (λ z. Has z ns) (one-number laws items rising r.0 k x r.2 at) r.1

common-iff : (xs ys : List ℕ) (k : ℕ) → Has k (common xs ys) ↔ (Has k xs × Has k ys)
common-iff xs ys k = (
  λ m. (let r = (filter-iff (λ i. is_in i ys) k xs).0 m in (r.0, in-has k ys r.1)),
  λ r. (filter-iff (λ i. is_in i ys) k xs).1 (r.0, has-in k ys r.1),
)

module _ {covers before : List ConstraintParts → List ConstraintParts → Bool} (laws : CoverLaws covers before) (filters adverts : Lists) (rising : IsRising before filters) (offered wanted : List ℕ)
    (union-is : IsUnion offered (overlap_rows filters adverts) wanted) where
  has-item : (xs : Lists) (k : ℕ) (x : List ConstraintParts) → slice_get xs k ≡ Some x → Has x xs
  has-item xs k x e = Rattle.base.proofs.Sets.get-has xs k x e

  number-wanted : (k : ℕ) (x : List ConstraintParts) → slice_get filters k ≡ Some x → Has k wanted ↔ (some_pass (overlaps x) (picked adverts offered) ≡ true)
  number-wanted k x e = (
    λ m. some_pass-any (overlaps x) (picked adverts offered) ∙ (sym same ∙ (member-iff laws x (picked filters wanted)).1 (has-picked filters wanted k x m e)),
    λ t. picked-one laws filters rising wanted k x e ((member-iff laws x (picked filters wanted)).0 (same ∙ (sym (some_pass-any (overlaps x) (picked adverts offered)) ∙ t))),
  )
    where
      same : member before x (picked filters wanted) ≡ list_any (overlaps x) (picked adverts offered)
      same = union-offers filters adverts laws (one-number laws filters rising) offered wanted union-is x (has-item filters k x e)

  pub wanted-kept : (old new : List ℕ) → new ≡ common old wanted → (k : ℕ) (x : List ConstraintParts) → slice_get filters k ≡ Some x
      → Has k new ↔ (Has k old × (is_wanted Advertisement (picked adverts offered) x ≡ true))
  wanted-kept old new e k x at = (
    λ m. (let r = (common-iff old wanted k).0 (subst (Has k) e m) in (r.0, (number-wanted k x at).0 r.1)),
    λ r. subst (Has k) (sym e) ((common-iff old wanted k).1 (r.0, (number-wanted k x at).1 r.1)),
  )

-- the items of a union
pub picked-union : {T : Type 0} (items : List T) (a b : List ℕ) (x : T) → Has x (picked items (union nat_lt a b)) ↔ (Has x (picked items b) ⊎ Has x (picked items a))
picked-union items a b x = (to, from)
  where
    to : Has x (picked items (union nat_lt a b)) → Has x (picked items b) ⊎ Has x (picked items a)
    to m =
        let k = picked-has items (union nat_lt a b) x m in
        elim ((has-union nat_laws k.0 a b).0 k.1) [
          | inl h ↦ inr (has-picked items a k.0 x h k.2)
          | inr h ↦ inl (has-picked items b k.0 x h k.2)
        ]

    from : Has x (picked items b) ⊎ Has x (picked items a) → Has x (picked items (union nat_lt a b))
    from (inl m) = let k = picked-has items b x m in has-picked items (union nat_lt a b) k.0 x ((has-union nat_laws k.0 a b).1 (inr k.1)) k.2
    from (inr m) = let k = picked-has items a x m in has-picked items (union nat_lt a b) k.0 x ((has-union nat_laws k.0 a b).1 (inl k.1)) k.2
