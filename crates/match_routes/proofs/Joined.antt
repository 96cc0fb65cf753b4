-- Rows of places joined, and the interfaces at places listed.
use Rattle.std.proofs.Common.{◌≡◌, ◌↔◌, ℕ, ◌+◌, ◌<◌, ◌≤◌, ◌∙◌, nat_lt, List, length, get_or, sym, ap, subst, arith}
use Rattle.std.specs.List.{Contains}
use Rattle.base.specs.Sets.{Has, IsRising}
use Rattle.base_bits.specs.Rows.{Numbers}
use Rattle.base_bits.specs.Grid.{row_of, IsJoinedFrom}
use Rattle.match_routes.specs.Routes.{IsReached, IsRouteBy}
use Rattle.match_routes.specs.Rows.{pairs_of}
use Rattle.match_routes.specs.Columns.{rows_from, AreColumns, ArePresent}
use Rattle.base_bits.proofs.Rising.{rising-at, rising-increasing}
use Rattle.match_routes.proofs.Pairs.{nothing, set-at}
use Rattle.match_routes.proofs.ByPlace.{has-column, column-has}
use Rattle.base.proofs.Sets.{has-contains, contains-has, get_or-has, has-get_or, increasing-rising}

-- the number's row has the place
abbrev pub IsJoined : List ℕ → List Numbers → ℕ → Type 0
IsJoined numbers columns place = (i : ℕ) × Has i numbers × Has place (row_of columns i).members

-- no number is left out that isn't present
pub joined-all : (numbers : List ℕ) (width : ℕ) (present : Numbers) (columns : List Numbers) → ArePresent width present columns → (q : ℕ) → IsJoinedFrom columns numbers present.members q ↔ IsJoined numbers columns q
joined-all numbers width present columns is q = ((λ h. (h.0, h.1, h.3)), (λ h. (h.0, h.1, is.each h.0 q h.2, h.2)))

-- the interfaces of the first k places stand in their stead
pub record IsListedTo (places interfaces : List ℕ) (k : ℕ) (route : List ℕ) : Type 0 where
  pub long : length route ≡ length places
  pub done : (j : ℕ) → j < k → get_or route j 0 ≡ get_or interfaces (get_or places j 0) 0
  pub rest : (j : ℕ) → k ≤ j → get_or route j 0 ≡ get_or places j 0

module _ (places interfaces : List ℕ) (k : ℕ) (route : List ℕ) (is : IsListedTo places interfaces k route) where
  module _ (rising : IsRising nat_lt interfaces) (set-rising : IsRising nat_lt places) (within : (q : ℕ) → Has q places → q < length interfaces) where
    pub place-within : k < length places → get_or route k 0 < length interfaces
    place-within l = let m = within (get_or places k 0) (get_or-has places k 0 l) in omega (arith, m, is.rest k (omega arith))

    pub listed-rising : length route ≤ k → IsRising nat_lt route
    listed-rising all = increasing-rising route each
      where
        each : (j : ℕ) → j + 1 < length route → get_or route j 0 < get_or route (j + 1) 0
        each j l =
            let m = rising-at places set-rising j (j + 1) (omega arith) (omega (arith, l, is.long)) in
            let w = within (get_or places (j + 1) 0) (get_or-has places (j + 1) 0 (omega (arith, l, is.long))) in
            let r = rising-at interfaces rising (get_or places j 0) (get_or places (j + 1) 0) m w in
            omega (arith, r, is.done j (omega (arith, l, all)), is.done (j + 1) (omega (arith, l, all)))

    pub listed-all : length route ≤ k → (i : ℕ) → Has i route ↔ ((q : ℕ) × Has q places × (get_or interfaces q 0 ≡ i))
    listed-all all i = (to, from)
      where
        to : Has i route → (q : ℕ) × Has q places × (get_or interfaces q 0 ≡ i)
        to h =
            let a = has-get_or route i h in
            (get_or places a.0 0, get_or-has places a.0 0 (omega (arith, a.1, is.long)), sym (is.done a.0 (omega (arith, a.1, all))) ∙ a.2)

        from : (q : ℕ) × Has q places × (get_or interfaces q 0 ≡ i) → Has i route
        from h =
            let a = has-get_or places h.0 h.1 in
            let e : get_or route a.0 0 ≡ i = is.done a.0 (omega (arith, a.1, is.long, all)) ∙ (ap (λ z. get_or interfaces z 0) a.2 ∙ h.2) in
            subst (λ z. Has z route) e (get_or-has route a.0 0 (omega (arith, a.1, is.long)))

-- the interfaces at the joined places are the route
pub joined-route : (numbers : List ℕ) (width : ℕ) (interfaces : List ℕ) (columns : List Numbers) (places route : List ℕ) → AreColumns width interfaces columns → ((k : ℕ) → Has k numbers → k < width) → ((q : ℕ) → Has q places ↔ IsJoined numbers columns q) → IsRising nat_lt route → ((k : ℕ) → Has k route ↔ ((q : ℕ) × Has q places × (get_or interfaces q 0 ≡ k))) → IsRouteBy numbers (pairs_of interfaces (rows_from 0 interfaces columns)) route
joined-route numbers width interfaces columns places route kept below joined rising listed = record { rising = rising-increasing route rising; exact = λ k. (to k, from k) }
  where
    to : (k : ℕ) → Contains route k → IsReached numbers (pairs_of interfaces (rows_from 0 interfaces columns)) k
    to k h =
        let q = (listed k).0 (contains-has k route h) in
        let j = (joined q.0).0 q.1 in
        let l : j.0 < length columns = omega (arith, below j.0 j.1, kept.long) in
        let s = set-at (length interfaces) columns j.0 nothing kept.sets l in
        (j.0, j.1, column-has interfaces columns (k, j.0) (record { place = q.0; within = (let m = s.0.within q.0 j.2 in omega (arith, m, s.1)); interface = q.2; number = l; there = j.2 }))

    from : (k : ℕ) → IsReached numbers (pairs_of interfaces (rows_from 0 interfaces columns)) k → Contains route k
    from k h =
        let c = has-column interfaces columns (k, h.0) h.2 in
        has-contains k route ((listed k).1 (c.place, (joined c.place).1 (h.0, h.1, c.there), c.interface))
