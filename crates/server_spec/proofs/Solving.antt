-- What flows, link by link, and what it is made of.
use Rattle.std.proofs.Common.{◌≡◌, ◌⊎◌, ◌↔◌, inl, inr, ℕ, ◌+◌, ◌<◌, Bool, true, false, cond, not, ◌||◌, List, [], ◌∷◌, map, filter, refl, sym, ap, subst, ◌∙◌, arith}
use Rattle.base.specs.Laws.{CoverLaws}
use Rattle.base.specs.Sets.{Has, IsRising, roots}
use Rattle.base.proofs.Sets.{rising-union, has-append-left, has-append-right, map-has, has-append, has-map}
use Rattle.filter_constraints.specs.Constraint.{ConstraintParts}
use Rattle.filter_types.specs.Before.{list_before}
use Rattle.filter_covering.specs.Laws.{sub_laws}
use Rattle.filter_text.specs.declared.semantics.Semantics.{Semantics}
use Rattle.base_tree.specs.Hops.{side_size}
use Rattle.base_tree.specs.Tree.{Topology, TreeLaws, servers_of, links_of, hop_of}
use Rattle.law_machine.proofs.Lists.{Same, Is, Not, compare}
use Rattle.law_routing.specs.Net.{Net}
use Rattle.law_routing.specs.Server.{is_among, union_except, interfaces}
use Rattle.law_routing.specs.Clients.{some_pass}
use Rattle.law_routing.specs.Tree.{IsTreeBySizes}
use Rattle.law_routing.specs.Flow.{holds, flow_ad, flow, AgreesOnLinks, relinked}
use Rattle.law_routing.proofs.Flows.{relinked-settled}
use Rattle.law_routing.proofs.Gathered.{has-gather, gather-has}
use Rattle.law_routing.proofs.Laws.{one-has}
use Rattle.law_routing.proofs.Listing.{has-one}
use Rattle.law_routing.proofs.Sizes.{sides-tree}
use Rattle.net_model.specs.Real.{real}
use Rattle.server_spec.specs.Flow.{IsNetOn, IsUnionOfClients}
use Rattle.server_spec.proofs.Ordering.{to-small}

pub rising-except : {T : Type 0} {covers before : T → T → Bool} → CoverLaws covers before → (sets : ℕ → List T) (link : ℕ) (is : List ℕ) → IsRising before (union_except before sets link is)
rising-except laws sets link [] = tt
rising-except {T} {covers} {before} laws sets link (i ∷ is) = go (compare i link) (rising-except laws sets link is)
  where
    go : Same i link → IsRising before (union_except before sets link is) → IsRising before (union_except before sets link (i ∷ is))
    go (Is q v) r = rw v r
    go (Not n v) r = rw v (rising-union laws (sets i) (union_except before sets link is) r)

cond-yes : {T : Type 0} (b : Bool) (x y : T) → b ≡ true → cond b x y ≡ x
cond-yes b x y e = rw e refl

cond-no : {T : Type 0} (b : Bool) (x y : T) → b ≡ false → cond b x y ≡ y
cond-no b x y e = rw e refl

-- a number above all is not among them
not-among : (x : ℕ) (ys : List ℕ) → ((y : ℕ) → Has y ys → y < x) → is_among x ys ≡ false
not-among x ys low = go (is_among x ys) refl
  where
    go : (b : Bool) → is_among x ys ≡ b → b ≡ false
    go false e = refl
    go true e = absurd (omega (arith, low x (one-has x ys e)))

module _ (semantics : Semantics) (tree : Topology) (laws : TreeLaws tree) (net : Net real) (on : IsNetOn semantics tree net) where
  shape : IsTreeBySizes net.servers net.links (side_size (hop_of tree) (servers_of tree))
  shape =
      subst (λ z. IsTreeBySizes z net.links (side_size (hop_of tree) (servers_of tree))) (sym on.servers)
      (subst (λ z. IsTreeBySizes (servers_of tree) z (side_size (hop_of tree) (servers_of tree))) (sym on.links) (sides-tree (servers_of tree) (links_of tree) (hop_of tree) laws.hops))

  near : (a b : ℕ) → Has b (links_of tree a) → Has b (net.links a)
  near a b m = subst (λ z. Has b (z a)) (sym on.links) m

  near-back : (a b : ℕ) → Has b (net.links a) → Has b (links_of tree a)
  near-back a b m = subst (λ z. Has b (z a)) on.links m

  module _ (sets ad_sets : ℕ → ℕ → List (List ConstraintParts)) where
    agree : AgreesOnLinks real net (relinked real net sets ad_sets)
    agree = relinked-settled real net (side_size (hop_of tree) (servers_of tree)) shape sets ad_sets

    -- what flows of advertisements is made of what flows to the neighbour
    pub ad-is : (a b : ℕ) → Has b (links_of tree a)
        → flow_ad real net ad_sets a b ≡ cond net.adverts (roots real.covers_advert real.before_advert (union_except real.before_advert (holds real net ad_sets b (flow_ad real net ad_sets b)) a (interfaces real net b))) []
    ad-is a b m = sym (cond-yes (is_among b (net.links a)) (flow_ad real net ad_sets a b) (ad_sets a b) (has-one b (net.links a) (near a b m))) ∙ agree.advs a b (near a b m)

    -- and of filters
    pub sub-is : (a b : ℕ) → Has b (links_of tree a)
        → flow real net sets ad_sets a b ≡ roots real.covers real.before (filter (λ x. not net.adverts || some_pass (real.overlaps x) (flow_ad real net ad_sets b a)) (union_except real.before (holds real net sets b (flow real net sets ad_sets b)) a (interfaces real net b)))
    sub-is a b m =
        sym (cond-yes (is_among b (net.links a)) (flow real net sets ad_sets a b) (sets a b) (has-one b (net.links a) (near a b m))) ∙ agree.subs a b (near a b m)
        ∙ ap (λ z. roots real.covers real.before (filter (λ x. not net.adverts || some_pass (real.overlaps x) z) (union_except real.before (holds real net sets b (flow real net sets ad_sets b)) a (interfaces real net b))))
        (cond-yes (is_among a (net.links b)) (flow_ad real net ad_sets b a) (ad_sets b a) (has-one a (net.links b) (near b a (laws.hops.both a b m))))

  module _ (sets : ℕ → ℕ → List (List ConstraintParts)) (given : ℕ → List (List ConstraintParts)) (union-of : IsUnionOfClients net sets given) (f : ℕ → List (List ConstraintParts)) (a b : ℕ) (m : Has b (links_of tree a)) where
    here : Has b net.servers
    here = subst (λ z. Has b z) (sym on.servers) (laws.hops.linked b a (laws.hops.both a b m))

    low : (y : ℕ) → Has y (net.links b) → y < 65
    low y h = to-small tree laws b y (near-back b y h)

    client-set : (c : ℕ) → Has c (net.clients b) → holds real net sets b f (64 + c) ≡ sets b (64 + c)
    client-set c lives = cond-no (is_among (64 + c) (net.links b)) (f (64 + c)) (sets b (64 + c)) (not-among (64 + c) (net.links b) (λ y h. omega (arith, low y h, on.counted b c lives)))

    pub made-has : (x : List ConstraintParts) → Has x (union_except list_before (holds real net sets b f) a (interfaces real net b)) ↔ (Has x (given b) ⊎ ((c : ℕ) × Has c (links_of tree b) × (c ≡ a → ⊥) × Has x (f c)))
    made-has x = (to, from)
      where
        by-client : (i : ℕ) → Has i (map (λ c. 64 + c) (net.clients b)) → Has x (holds real net sets b f i) → Has x (given b)
        by-client i k h =
            let r = has-map (λ c. 64 + c) (net.clients b) i k in
            (union-of b here x).1 (r.0, r.1, subst (λ z. Has x z) (client-set r.0 r.1) (subst (λ z. Has x (holds real net sets b f z)) r.2 h))

        to : Has x (union_except list_before (holds real net sets b f) a (interfaces real net b)) → Has x (given b) ⊎ ((c : ℕ) × Has c (links_of tree b) × (c ≡ a → ⊥) × Has x (f c))
        to k =
            let r = gather-has sub_laws (holds real net sets b f) a x (interfaces real net b) k in
            elim (has-append r.0 (net.links b) (map (λ c. 64 + c) (net.clients b)) r.1) [
              | inl l ↦ inr (r.0, near-back b r.0 l, r.2, subst (λ z. Has x z) (cond-yes (is_among r.0 (net.links b)) (f r.0) (sets b r.0) (has-one r.0 (net.links b) l)) r.3)
              | inr l ↦ inl (by-client r.0 l r.3)
            ]

        from : Has x (given b) ⊎ ((c : ℕ) × Has c (links_of tree b) × (c ≡ a → ⊥) × Has x (f c)) → Has x (union_except list_before (holds real net sets b f) a (interfaces real net b))
        from (inl g) =
            let r = (union-of b here x).0 g in
            let off : 64 + r.0 ≡ a → ⊥ = λ e. omega (arith, e, on.counted b r.0 r.1, to-small tree laws b a (laws.hops.both a b m)) in
            has-gather sub_laws (holds real net sets b f) a (64 + r.0) x (interfaces real net b)
            (has-append-right (64 + r.0) (net.links b) (map (λ c. 64 + c) (net.clients b)) (map-has (λ c. 64 + c) (net.clients b) r.0 r.1)) off
            (subst (λ z. Has x z) (sym (client-set r.0 r.1)) r.2)
        from (inr (c, l, n, h)) =
            has-gather sub_laws (holds real net sets b f) a c x (interfaces real net b) (has-append-left c (net.links b) (map (λ c. 64 + c) (net.clients b)) (near b c l)) n
            (subst (λ z. Has x z) (sym (cond-yes (is_among c (net.links b)) (f c) (sets b c) (has-one c (net.links b) (near b c l)))) h)
