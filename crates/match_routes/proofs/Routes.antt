-- Routes: the interfaces whose rows meet a row of matched numbers.
use Rattle.std.proofs.Common.{◌≡◌, ℕ, true, List, [], get_or, sym, ap, subst}
use Rattle.std.specs.List.{Contains}
use Rattle.base.specs.Sets.{Has}
use Rattle.filter_constraints.specs.Constraint.{ConstraintParts}
use Rattle.filter_types.specs.Notice.{Attribute}
use Rattle.filter_types.specs.Cover.{matches}
use Rattle.match_filters.specs.Table.{HeldFilter, IsMatched, IsRouteOf}
use Rattle.match_filters.specs.Matching.{matched}
use Rattle.match_filters.proofs.Members.{matched-iff}
use Rattle.match_routes.specs.Installed.{Pair}
use Rattle.match_routes.specs.Routes.{IsRouteBy, held_by, AreNumbers}
use Rattle.base.proofs.Sets.{has-contains, contains-has, has-map, map-has}

-- a route by numbers is the route of the notice that matches their filters
pub route-of-notice : (n : List Attribute) (filters : List (List ConstraintParts)) (pairs : List Pair) (route : List ℕ) → AreNumbers filters pairs → IsRouteBy (matched n filters) pairs route → IsRouteOf n (held_by filters pairs) route
route-of-notice n filters pairs route numbers r = record { rising = r.rising; exact = λ k. (to k, from k) }
  where
    held : Pair → HeldFilter
    held x = (x.0, get_or filters x.1 [])

    to : (k : ℕ) → Contains route k → IsMatched n (held_by filters pairs) k
    to k h =
        let q = (r.exact k).0 h in
        let m = (matched-iff n filters q.0).0 q.1 in
        (get_or filters q.0 [], has-contains (k, get_or filters q.0 []) (held_by filters pairs) (map-has held pairs (k, q.0) q.2), m.1)

    from : (k : ℕ) → IsMatched n (held_by filters pairs) k → Contains route k
    from k h =
        let q = has-map held pairs (k, h.0) (contains-has (k, h.0) (held_by filters pairs) h.1) in
        let a : k ≡ q.0.0 = ap (λ (x : HeldFilter). x.0) q.2 in
        let b : h.0 ≡ get_or filters q.0.1 [] = ap (λ (x : HeldFilter). x.1) q.2 in
        let m = (matched-iff n filters q.0.1).1 (numbers q.0 q.1, subst (λ (f : List ConstraintParts). matches n f ≡ true) b h.2) in
        (r.exact k).1 (q.0.1, m, subst (λ (z : ℕ). Has (z, q.0.1) pairs) (sym a) q.1)
