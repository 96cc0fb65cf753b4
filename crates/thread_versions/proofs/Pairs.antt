-- The set of pairs after changes, and routes by it.
use Rattle.std.proofs.Common.{◌≡◌, ◌↔◌, refl, sym, subst, ℕ, nat_lt, List, [], ◌++◌, map, filter}
use Rattle.base.specs.Sets.{Has, set_of}
use Rattle.base.proofs.Roots.{Has-filter, filter-Has}
use Rattle.base.proofs.Sets.{ext, rising-set_of, has-set_of, has-member, member-has, has-contains, contains-has, has-map, map-has, increasing-rising}
use Rattle.base_bits.specs.Rows.{is_in}
use Rattle.base_bits.proofs.Passing.{nat_laws}
use Rattle.match_routes.specs.declared.table_change.TableChange.{TableChange}
use Rattle.match_routes.specs.Installed.{Pair, all_changed}
use Rattle.match_routes.specs.Routes.{IsReached, IsRouteBy}
use Rattle.base_bits.proofs.Rising.{rising-increasing}
use Rattle.match_routes.proofs.Lists.{all_changed-append}
use Rattle.thread_versions.specs.Pairs.{pairs_after, route_of}

pub none_after : pairs_after [] ≡ []
unfolding pairs_after
none_after = refl

-- further changes go on from the pairs after the earlier ones
pub more_after : (xs ys : List TableChange) → pairs_after (xs ++ ys) ≡ all_changed ys (pairs_after xs)
unfolding pairs_after
more_after xs ys = all_changed-append xs ys []

abbrev hit : List ℕ → List Pair → List Pair
hit numbers pairs = filter (λ x. is_in x.1 numbers) pairs

reached : (numbers : List ℕ) (pairs : List Pair) (i : ℕ) → Has i (map (λ (x : Pair). x.0) (hit numbers pairs)) → IsReached numbers pairs i
reached numbers pairs i m =
    let r = has-map (λ (x : Pair). x.0) (hit numbers pairs) i m in
    let h = filter-Has (λ (x : Pair). is_in x.1 numbers) r.0 pairs r.1 in
    (r.0.1, member-has nat_laws r.0.1 numbers h.1, subst (λ (j : ℕ). Has (j, r.0.1) pairs) (sym r.2) h.0)

reaches : (numbers : List ℕ) (pairs : List Pair) (i : ℕ) → IsReached numbers pairs i → Has i (map (λ (x : Pair). x.0) (hit numbers pairs))
reaches numbers pairs i h = map-has (λ (x : Pair). x.0) (hit numbers pairs) (i, h.0) (Has-filter (λ (x : Pair). is_in x.1 numbers) (i, h.0) pairs h.2 (has-member nat_laws h.0 numbers h.1))

-- it is a route
pub routes : (numbers : List ℕ) (pairs : List Pair) → IsRouteBy numbers pairs (route_of numbers pairs)
unfolding route_of
routes numbers pairs = let all = map (λ (x : Pair). x.0) (hit numbers pairs) in record {
  rising = rising-increasing (set_of nat_lt all) (rising-set_of nat_laws all);
  exact = λ i. (
    λ m. reached numbers pairs i ((has-set_of nat_laws i all).0 (contains-has i (set_of nat_lt all) m)),
    λ h. has-contains i (set_of nat_lt all) ((has-set_of nat_laws i all).1 (reaches numbers pairs i h)),
  );
}

-- numbers have one route
pub one-route : (numbers : List ℕ) (pairs : List Pair) (a b : List ℕ) → IsRouteBy numbers pairs a → IsRouteBy numbers pairs b → a ≡ b
one-route numbers pairs a b r s = ext nat_laws a b (increasing-rising a r.rising) (increasing-rising b s.rising) (go a b r s) (go b a s r)
  where
    go : (c d : List ℕ) → IsRouteBy numbers pairs c → IsRouteBy numbers pairs d → (i : ℕ) → Has i c → Has i d
    go c d t u i m = contains-has i d ((u.exact i).1 ((t.exact i).0 (has-contains i c m)))

-- a route by the pairs after changes is the route by these changes
pub route-is : (numbers : List ℕ) (pairs : List Pair) (cs : List TableChange) (r : List ℕ) → pairs ≡ pairs_after cs → IsRouteBy numbers pairs r → r ≡ route_of numbers (pairs_after cs)
route-is numbers pairs cs r e is = one-route numbers (pairs_after cs) r (route_of numbers (pairs_after cs)) (subst (λ (p : List Pair). IsRouteBy numbers p r) e is) (routes numbers (pairs_after cs))

pub is-route : (numbers : List ℕ) (cs : List TableChange) (r : List ℕ) → r ≡ route_of numbers (pairs_after cs) → IsRouteBy numbers (pairs_after cs) r
is-route numbers cs r e = subst (λ (x : List ℕ). IsRouteBy numbers (pairs_after cs) x) (sym e) (routes numbers (pairs_after cs))

-- a route is fixed by the members of a set alone
pub by_members : (numbers : List ℕ) (a b : List Pair) (r : List ℕ) → ((x : Pair) → Has x a ↔ Has x b) → IsRouteBy numbers a r → IsRouteBy numbers b r
by_members numbers a b r same is = record {
  rising = is.rising;
  exact = λ i. (
    λ m. let h = (is.exact i).0 m in (h.0, h.1, (same (i, h.0)).0 h.2),
    λ h. (is.exact i).1 (h.0, h.1, (same (i, h.0)).1 h.2),
  );
}
