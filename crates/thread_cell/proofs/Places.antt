-- Lemmas on a server's lanes when one of them is changed.
use Rattle.std.proofs.Common.{◌≡◌, ℕ, zero, suc, ◌+◌, ◌<◌, ◌≤◌, List, [], ◌∷◌, ◌++◌, ◌⊎◌, inl, inr, length, get_or, set, Bool, Some, slice_get, refl, sym, ap, subst, ◌∙◌, arith, append_assoc, ne_eqb, eq-eqb}
use Rattle.std.specs.Prelude.{Result, Ok, Err, OnOk}
use Rattle.std.proofs.lemmas.Option.{same_Some}
use mathlib.Core.List.{IsPrefix}
use Rattle.base.specs.Sets.{Has}
use Rattle.base.specs.Numbers.{IsDistinct}
use Rattle.law_machine.proofs.Lists.{append-nothing, prefix-trans}
use Rattle.thread_lane.specs.declared.putting.LaneIn.{LaneIn}
use Rattle.thread_lane.specs.declared.taking.LaneOut.{LaneOut}
use Rattle.thread_lane.specs.Lane.{put_list, waiting_list, taken_list, rest_list, coming_list, misses, IsLane, SameIn, SameOut}
use Rattle.server_message.specs.declared.stamped.StampedLoad.{StampedLoad}
use Rattle.thread_cell.specs.declared.link.Link.{Link}
use Rattle.thread_cell.specs.Links.{Both, IsSameLink, IsUnmoved, IsOneLane, IsSettledLane, IsNeighbour, At}
use Rattle.thread_cell.specs.LaneReceiving.{ComesNext, IsLooked, IsLookedAt, IsItemReceived, IsNextAt}
use Rattle.thread_cell.proofs.HandAll.{names}
use Rattle.thread_cell.proofs.Unmoved.{same-refl, unmoved-refl, all-unmoved}

module _ {X : Type 0} where
  pub found : (xs : List X) (n : ℕ) (d : X) → n < length xs → slice_get xs n ≡ Some (get_or xs n d)
  found [] n d lt = absurd (omega arith)
  found (x ∷ xs) zero d lt = refl
  found (x ∷ xs) (suc n) d lt = found xs n d (omega arith)

  pub set-found : (xs : List X) (n : ℕ) (z : X) → n < length xs → slice_get (set xs n z) n ≡ Some z
  set-found [] n z lt = absurd (omega arith)
  set-found (x ∷ xs) zero z lt = refl
  set-found (x ∷ xs) (suc n) z lt = set-found xs n z (omega arith)

pub set-unmoved : (n : ℕ) (xs : List Link) (d z : Link) → n < length xs → IsUnmoved (get_or xs n d) z → Both IsUnmoved xs (set xs n z)
set-unmoved n [] d z lt u = absurd (omega arith)
set-unmoved zero (x ∷ xs) d z lt u = (u, all-unmoved xs)
set-unmoved (suc n) (x ∷ xs) d z lt u = (unmoved-refl x, set-unmoved n xs d z (omega arith) u)

pub has-name : (n : ℕ) (xs : List Link) (d : Link) → n < length xs → Has (get_or xs n d).neighbour (names xs)
has-name n [] d lt = absurd (omega arith)
has-name zero (x ∷ xs) d lt = inl refl
has-name (suc n) (x ∷ xs) d lt = inr (has-name n xs d (omega arith))

pub found-name : (n : ℕ) (xs : List Link) (x : Link) → slice_get xs n ≡ Some x → Has x.neighbour (names xs)
found-name n [] x e = absurd cc
found-name zero (y ∷ xs) x e = inl (ap (λ (w : Link). w.neighbour) (same_Some x y (sym e)))
found-name (suc n) (y ∷ xs) x e = inr (found-name n xs x e)

other : (from : ℕ) (item : StampedLoad) (x : Link) → (x.neighbour ≡ from → ⊥) → IsItemReceived from item x x
other from item x n = record { same = same-refl x; enter = refl; took = rw (ne_eqb x.neighbour from n) (sym (append-nothing (taken_list x.leave))); seen = refl }

others : (from : ℕ) (item : StampedLoad) (xs : List Link) → (Has from (names xs) → ⊥) → Both (IsItemReceived from item) xs xs
others from item [] n = tt
others from item (x ∷ xs) n = (other from item x (λ e. n (inl (sym e))), others from item xs (λ h. n (inr h)))

-- the lane at a place gave an item, the others did not
pub set-taken : (n : ℕ) (xs : List Link) (d z : Link) (item : StampedLoad) → n < length xs → IsDistinct (names xs) → IsSameLink (get_or xs n d) z → z.enter ≡ (get_or xs n d).enter → taken_list z.leave ≡ taken_list (get_or xs n d).leave ++ item ∷ []
    → misses z.leave ≡ misses (get_or xs n d).leave → Both (IsItemReceived (get_or xs n d).neighbour item) xs (set xs n z)
set-taken n [] d z item lt dis s e t m = absurd (omega arith)
set-taken zero (x ∷ xs) d z item lt dis s e t m = (record { same = s; enter = e; took = rw (eq-eqb x.neighbour x.neighbour refl) t; seen = m }, others x.neighbour item xs dis.0)
set-taken (suc n) (x ∷ xs) d z item lt dis s e t m = (
  other (get_or xs n d).neighbour item x (λ q. dis.0 (subst (λ w. Has w (names xs)) (sym q) (has-name n xs d (omega arith)))),
  set-taken n xs d z item (omega arith) dis.1 s e t m,
)

module _ {X : Type 0} (R : X → X → Type 0) where
  -- related lists have related elements at a place
  pub both-before : (n : ℕ) (xs ys : List X) (y : X) → Both R xs ys → slice_get ys n ≡ Some y → (x : X) × (slice_get xs n ≡ Some x) × R x y
  both-before n [] [] y b e = absurd cc
  both-before n [] (z ∷ ys) y b e = absurd b
  both-before n (x ∷ xs) [] y b e = absurd b
  both-before zero (x ∷ xs) (z ∷ ys) y b e = (x, refl, subst (λ w. R x w) (same_Some z y e) b.0)
  both-before (suc n) (x ∷ xs) (z ∷ ys) y b e = both-before n xs ys y b.1 e

  pub both-behind : (n : ℕ) (xs ys : List X) (x : X) → Both R xs ys → slice_get xs n ≡ Some x → (y : X) × (slice_get ys n ≡ Some y) × R x y
  both-behind n [] ys x b e = absurd cc
  both-behind n (w ∷ xs) [] x b e = absurd b
  both-behind zero (w ∷ xs) (z ∷ ys) x b e = (z, refl, subst (λ w. R w z) (same_Some w x e) b.0)
  both-behind (suc n) (w ∷ xs) (z ∷ ys) x b e = both-behind n xs ys x b.1 e

pub settled-at : {E : Type 0} (to : ℕ) (xs : List Link) (from : ℕ) (ys : List Link) (x y : Link) (r : Result (Unit {0}) E) → to < length xs → from < length ys → IsLane x.enter y.leave
    → OnOk r ((taken_list y.leave ++ rest_list y.leave ≡ put_list x.enter) × (waiting_list x.enter ≡ []) × (coming_list y.leave ≡ rest_list y.leave)) → OnOk r (At IsSettledLane to (set xs to x) from (set ys from y))
settled-at to xs from ys x y (Ok u) lt lt' l s = (x, y, set-found xs to x lt, set-found ys from y lt', record { lane = l; all = s.0; coming = s.2 })
settled-at to xs from ys x y (Err e) lt lt' l s = tt

pub lane-later : (a x : LaneIn StampedLoad) (b y : LaneOut StampedLoad) → SameIn a x → SameOut b y → IsLane a b → IsLane x y
lane-later a x b y (((p, q, r, s), m), c) (((p', q', r', s'), m'), c') ((u, v, w, z), t) = ((p' ∙ u ∙ sym p, q' ∙ v ∙ sym q, r' ∙ w ∙ sym r, s' ∙ z ∙ sym s), c' ∙ t ∙ sym c)

-- the ends of a lane stay those of one lane
pub lane-at : (to from : ℕ) (xs xs' ys ys' : List Link) → Both IsSameLink xs xs' → Both IsSameLink ys ys' → At IsOneLane to xs from ys → At IsOneLane to xs' from ys'
lane-at to from xs xs' ys ys' a b (x, y, p, q, l) =
    let x' = both-behind IsSameLink to xs xs' x a p in
    let y' = both-behind IsSameLink from ys ys' y b q in
    (x'.0, y'.0, x'.1, y'.1, lane-later x.enter x'.0.enter y.leave y'.0.leave x'.2.enter y'.2.leave l)

pub below-found : {X : Type 0} (n : ℕ) (xs : List X) (x : X) → slice_get xs n ≡ Some x → n < length xs
below-found n [] x e = absurd cc
below-found zero (y ∷ xs) x e = omega arith
below-found (suc n) (y ∷ xs) x e = let lt = below-found n xs x e in omega arith

pub split : (p n : ℕ) → p < n + 1 → (p < n) ⊎ (p ≡ n)
split p n lt = grind arith

pub read-neighbour : (n : ℕ) (xs : List Link) (x : Link) → n < length xs → x ≡ get_or xs n x → IsNeighbour n x.neighbour xs
read-neighbour n xs x lt e = (x, found xs n x lt ∙ ap (λ z. Some z) (sym e), refl)

pub is-neighbour : (n k : ℕ) (xs : List Link) (d : Link) → n < length xs → (get_or xs n d).neighbour ≡ k → IsNeighbour n k xs
is-neighbour n k xs d lt q = (get_or xs n d, found xs n d lt, q)

-- the next place isn't it either
pub no-neighbour : (n k : ℕ) (xs : List Link) (d : Link) → n < length xs → ((get_or xs n d).neighbour ≡ k → ⊥) → ((p : ℕ) → p < n → IsNeighbour p k xs → ⊥) → (p : ℕ) → p < n + 1 → IsNeighbour p k xs → ⊥
no-neighbour n k xs d lt q before p le h = go (split p n le)
  where
    go : (p < n) ⊎ (p ≡ n) → ⊥
    go (inl a) = before p a h
    go (inr a) = q (ap (λ (w : Link). w.neighbour) (same_Some (get_or xs n d) h.0 (sym (found xs n d lt) ∙ subst (λ m. slice_get xs m ≡ Some h.0) a h.1)) ∙ h.2)

pub no-place : (k n : ℕ) (xs : List Link) → length xs ≤ n → ((p : ℕ) → p < n → IsNeighbour p k xs → ⊥) → (p : ℕ) → IsNeighbour p k xs → ⊥
no-place k n xs le before p h = let lt = below-found p xs h.0 h.1 in before p (omega (arith, lt)) h

-- what a look at one link tells, it tells of the link at its place
pub looked-at : (n : ℕ) (xs : List Link) (d x z : Link) (seen : Bool) → n < length xs → x ≡ get_or xs n d → IsLooked x z seen → IsLookedAt n xs (set xs n z) seen
looked-at n xs d x z seen lt q l = (get_or xs n d, z, found xs n d lt, set-found xs n z lt, subst (λ (w : Link). IsLooked w z seen) q l)

-- the lane at a place gave the item that came next
pub taken-next : (n : ℕ) (xs : List Link) (d y z : Link) → n < length xs → IsDistinct (names xs) → y ≡ get_or xs n d → ((item : StampedLoad) → ComesNext item y → IsItemReceived y.neighbour item y z)
    → (item : StampedLoad) (x : Link) → slice_get xs n ≡ Some x → ComesNext item x → Both (IsItemReceived x.neighbour item) xs (set xs n z)
taken-next n xs d y z lt dis q t item x e next =
    let p : x ≡ get_or xs n d = same_Some x (get_or xs n d) (sym e ∙ found xs n d lt) in
    let w : IsItemReceived x.neighbour item x z = subst (λ (v : Link). ComesNext item v → IsItemReceived v.neighbour item v z) (q ∙ sym p) (t item) next in
    let u : IsItemReceived (get_or xs n d).neighbour item (get_or xs n d) z = subst (λ (v : Link). IsItemReceived v.neighbour item v z) p w in
    let k : (get_or xs n d).neighbour ≡ x.neighbour = ap (λ (v : Link). v.neighbour) (sym p) in
    subst (λ m. Both (IsItemReceived m item) xs (set xs n z)) k (set-taken n xs d z item lt dis u.same u.enter (rw (eq-eqb (get_or xs n d).neighbour (get_or xs n d).neighbour refl) at u.took) u.seen)

-- what came next at the link at a place still does
pub next-set : (n : ℕ) (xs : List Link) (d z : Link) (item : StampedLoad) → n < length xs → IsPrefix (coming_list (get_or xs n d).leave) (coming_list z.leave) → IsNextAt n item xs → IsNextAt n item (set xs n z)
next-set n xs d z item lt p (x, e, q) =
    let s : x ≡ get_or xs n d = same_Some x (get_or xs n d) (sym e ∙ found xs n d lt) in
    (z, set-found xs n z lt, prefix-trans (item ∷ []) (coming_list (get_or xs n d).leave) (coming_list z.leave) (subst (λ (w : Link). IsPrefix (item ∷ []) (coming_list w.leave)) s q) p)
