-- What goes on by a route, and what is delivered by it.
use Rattle.std.proofs.Common.{◌≡◌, ◌⊎◌, inl, inr, ℕ, zero, suc, ◌+◌, ◌-◌, ◌<◌, ◌≤◌, ◌==◌, ◌&&◌, ◌||◌, not, nat_lt, nat_le, Bool, true, false, cond, eqb, leb, List, [], ◌∷◌, ◌++◌, length, map, filter, take, get_or, Some, slice_get, refl, sym, ap, subst, ◌∙◌, arith, add-one}
use Rattle.std.specs.Prelude.{slice_index}
use Rattle.std.specs.List.{list_any}
use Rattle.std.specs.List.Sorted.{IsStrictlyIncreasing}
use Rattle.std.proofs.lemmas.Bool.Decides.{nat_tests}
use Rattle.std.proofs.lemmas.List.{length_push}
use Rattle.base.specs.Sets.{Has}
use Rattle.base.proofs.Roots.{filter-Has, Has-filter}
use Rattle.law_routing.specs.Server.{is_among}
use Rattle.filter_text.specs.Deliveries.{Delivery}
use Rattle.server_spec.specs.Session.{SessionParts}
use Rattle.server_core.specs.Clients.{bare, at_client, handed, HaveRoom, StayPlanned, HaveMoreRoom}
use Rattle.server_core.specs.Acting.{clients_on, delivered}
use Rattle.base.proofs.Lists.{take-suc-some, get-get_or}
use Rattle.base.proofs.Sets.{get-has, map-has, has-map, increasing-above, increasing-rest}
use Rattle.std.proofs.lemmas.Bool.{eqb-true}
use Rattle.law_routing.proofs.Listing.{not-among}

-- tests

-- a list's members up to a place

more-yes-suc : {X Y : Type 0} (f : X → Y) (p : X → Bool) (xs : List X) (n : ℕ) (x : X) → slice_get xs n ≡ Some x → p x ≡ true → map f (filter p (take (suc n) xs)) ≡ map f (filter p (take n xs)) ++ f x ∷ []
more-yes-suc f p [] n x e t = absurd cc
more-yes-suc f p (y ∷ ys) zero x e t =
    let two : Some y ≡ Some x = e in
    let one : y ≡ x = cc in
    rw (one, t) refl
more-yes-suc f p (y ∷ ys) (suc n) x e t = go (p y) (more-yes-suc f p ys n x e t)
  where
    go : (b : Bool) → map f (filter p (take (suc n) ys)) ≡ map f (filter p (take n ys)) ++ f x ∷ [] → map f (cond b (y ∷ filter p (take (suc n) ys)) (filter p (take (suc n) ys))) ≡ map f (cond b (y ∷ filter p (take n ys)) (filter p (take n ys))) ++ f x ∷ []
    go true ih = ap (λ z. f y ∷ z) ih
    go false ih = ih

pub more-yes : {X Y : Type 0} (f : X → Y) (p : X → Bool) (xs : List X) (n : ℕ) (x : X) → slice_get xs n ≡ Some x → p x ≡ true → map f (filter p (take (n + 1) xs)) ≡ map f (filter p (take n xs)) ++ f x ∷ []
more-yes f p xs n x e t = rw add-one (more-yes-suc f p xs n x e t)

more-no-suc : {X : Type 0} (p : X → Bool) (xs : List X) (n : ℕ) (x : X) → slice_get xs n ≡ Some x → p x ≡ false → filter p (take (suc n) xs) ≡ filter p (take n xs)
more-no-suc p [] n x e t = absurd cc
more-no-suc p (y ∷ ys) zero x e t =
    let two : Some y ≡ Some x = e in
    let one : y ≡ x = cc in
    rw (one, t) refl
more-no-suc p (y ∷ ys) (suc n) x e t = ap (λ z. cond (p y) (y ∷ z) z) (more-no-suc p ys n x e t)

pub more-no : {X : Type 0} (p : X → Bool) (xs : List X) (n : ℕ) (x : X) → slice_get xs n ≡ Some x → p x ≡ false → filter p (take (n + 1) xs) ≡ filter p (take n xs)
more-no p xs n x e t = rw add-one (more-no-suc p xs n x e t)

pub got-number : (xs : List ℕ) (i : ℕ) → i < length xs → slice_get xs i ≡ Some (get_or xs i 0)
got-number [] i l = absurd (omega (arith, l))
got-number (x ∷ xs) zero l = refl
got-number (x ∷ xs) (suc i) l = got-number xs i (omega (arith, l))

any-among-one : (x y : ℕ) (a b : Bool) → a ≡ b → (eqb y x || a) ≡ ((x == y) || b)
any-among-one x y a b e = grind (arith, nat_tests)

pub any-among : (x : ℕ) (ys : List ℕ) → list_any (λ y. eqb y x) ys ≡ is_among x ys
any-among x [] = refl
any-among x (y ∷ ys) = any-among-one x y (list_any (λ y. eqb y x) ys) (is_among x ys) (any-among x ys)

pub low-link : (r : Bool) (x : ℕ) → r ≡ nat_le x 64 → r ≡ true → x ≤ 64
low-link r x e t = grind (arith, nat_tests, e, t)

pub high-client : (r : Bool) (x : ℕ) → r ≡ nat_le x 64 → r ≡ false → 64 < x
high-client r x e f = grind (arith, nat_tests, e, f)

pub goes-one : (x from : ℕ) (r b : Bool) → x ≤ 64 → (x ≡ from → ⊥) → r ≡ b → r ≡ (leb x 64 && (not (x == from) && b))
goes-one x from r b l n e = grind (arith, nat_tests)

-- rising numbers

pub rise-before : (x : ℕ) (xs : List ℕ) → ((z : ℕ) → Has z xs → x < z) → IsStrictlyIncreasing xs → IsStrictlyIncreasing (x ∷ xs)
rise-before x [] low h k l = absurd (omega (arith, l))
rise-before x (y ∷ ys) low h zero l = low y (inl refl)
rise-before x (y ∷ ys) low h (suc k) l = subst (λ n. slice_index (y ∷ ys) k < slice_index (x ∷ y ∷ ys) n) {x = suc (k + 1)} {y = suc k + 1} (omega arith) (h k (omega (arith, l)))

-- the clients of a rising route rise
pub clients-rise : (route : List ℕ) → IsStrictlyIncreasing route → IsStrictlyIncreasing (clients_on route)
clients-rise [] h = λ k l. absurd (omega (arith, l))
clients-rise (x ∷ xs) h = go (nat_lt 64 x) refl (clients-rise xs (increasing-rest x xs h))
  where
    low : nat_lt 64 x ≡ true → (z : ℕ) → Has z (clients_on xs) → x - 64 < z
    low t z m =
        let r = has-map (λ i. i - 64) (filter (λ i. nat_lt 64 i) xs) z m in
        let k = filter-Has (λ i. nat_lt 64 i) r.0 xs r.1 in
        let more = increasing-above x xs h r.0 k.0 in
        let far : 64 < x = grind (arith, nat_tests) in
        omega (arith, more, far, r.2)

    go : (b : Bool) → nat_lt 64 x ≡ b → IsStrictlyIncreasing (clients_on xs) → IsStrictlyIncreasing (map (λ i. i - 64) (cond b (x ∷ filter (λ i. nat_lt 64 i) xs) (filter (λ i. nat_lt 64 i) xs)))
    go true t ih = rise-before (x - 64) (clients_on xs) (low t) ih
    go false t ih = ih

-- deliveries one after another

pub all_handed : Delivery → List ℕ → List SessionParts → List SessionParts
all_handed d [] ss = ss
all_handed d (c ∷ cs) ss = all_handed d cs (at_client c (handed d) ss)

pub handed-none : (d : Delivery) (ss : List SessionParts) → ss ≡ all_handed d [] ss
unfolding all_handed
handed-none d ss = refl

pub handed-more : (d : Delivery) (cs : List ℕ) (c : ℕ) (ss : List SessionParts) → at_client c (handed d) (all_handed d cs ss) ≡ all_handed d (cs ++ c ∷ []) ss
unfolding all_handed
handed-more d [] c ss = refl
handed-more d (b ∷ cs) c ss = handed-more d cs c (at_client b (handed d) ss)

-- another client's session is as it was
at-other : (c : ℕ) (d : Delivery) (ss : List SessionParts) (s : SessionParts) → Has s (at_client c (handed d) ss) → (s.client ≡ c → ⊥) → Has s ss
at-other c d [] s m n = absurd m
at-other c d (t ∷ ss) s (inr m) n = inr (at-other c d ss s m n)
at-other c d (t ∷ ss) s (inl e) n = go (t.client == c) refl e
  where
    go : (b : Bool) → (t.client == c) ≡ b → s ≡ cond b (handed d t) t → Has s (t ∷ ss)
    go true q e = absurd (n (ap (λ z. z.client) e ∙ eqb-true t.client c q))
    go false q e = inl e

left-alone : (d : Delivery) (cs : List ℕ) (ss : List SessionParts) (s : SessionParts) → Has s (all_handed d cs ss) → (Has s.client cs → ⊥) → Has s ss
unfolding all_handed
left-alone d [] ss s m n = m
left-alone d (c ∷ cs) ss s m n = at-other c d ss s (left-alone d cs (at_client c (handed d) ss) s m (λ k. n (inr k))) (λ e. n (inl e))

-- numbers that rise are apart
apart : (xs : List ℕ) (n x : ℕ) → IsStrictlyIncreasing xs → slice_get xs n ≡ Some x → Has x (take n xs) → ⊥
apart [] n x h e m = absurd cc
apart (y ∷ ys) zero x h e m = m
apart (y ∷ ys) (suc n) x h e (inl q) =
    let more = increasing-above y ys h x (get-has ys n x e) in
    absurd (omega (arith, more, q))
apart (y ∷ ys) (suc n) x h e (inr m) = apart ys n x (increasing-rest y ys h) e m

-- the clients of a route are its interfaces from 65 on
from-clients : (route : List ℕ) (x : ℕ) → 64 < x → Has (x - 64) (clients_on route) → Has x route
from-clients route x l m =
    let r = has-map (λ i. i - 64) (filter (λ i. nat_lt 64 i) route) (x - 64) m in
    let k = filter-Has (λ i. nat_lt 64 i) r.0 route r.1 in
    let t : nat_lt 64 r.0 ≡ true = k.1 in
    let far : 64 < r.0 = grind (arith, nat_tests, t) in
    let same : r.0 ≡ x = omega (arith, l, far, r.2) in
    subst (λ z. Has z route) same k.0

to-clients : (route : List ℕ) (x : ℕ) → 64 < x → Has x route → Has (x - 64) (clients_on route)
to-clients route x l m = map-has (λ i. i - 64) (filter (λ i. nat_lt 64 i) route) x (Has-filter (λ i. nat_lt 64 i) x route m (grind (arith, nat_tests, l)))

-- the next client of a route has room
pub next-room : (d : Delivery) (route : List ℕ) (n x : ℕ) (ss : List SessionParts) → IsStrictlyIncreasing route → slice_get route n ≡ Some x → 64 < x → HaveRoom (clients_on route) ss
    → (s : SessionParts) → Has s (all_handed d (clients_on (take n route)) ss) → s.client ≡ x - 64 → 1 ≤ s.room
next-room d route n x ss rise e l room s m c = room s there (subst (λ z. Has z (clients_on route)) (sym c) (to-clients route x l (get-has route n x e)))
  where
    new : Has s.client (clients_on (take n route)) → ⊥
    new k = apart route n x rise e (from-clients (take n route) x l (subst (λ z. Has z (clients_on (take n route))) c k))

    there : Has s ss
    there = left-alone d (clients_on (take n route)) ss s m new

-- the clients of a route up to an interface that is a link, and up to one that is a client
pub clients-skip : (route : List ℕ) (n x : ℕ) → slice_get route n ≡ Some x → x ≤ 64 → clients_on (take (n + 1) route) ≡ clients_on (take n route)
clients-skip route n x e l =
    let low : nat_lt 64 x ≡ false = grind (arith, nat_tests) in
    ap (map (λ i. i - 64)) (more-no (λ i. nat_lt 64 i) route n x e low)

pub clients-more : (route : List ℕ) (n x : ℕ) → slice_get route n ≡ Some x → 64 < x → clients_on (take (n + 1) route) ≡ clients_on (take n route) ++ (x - 64) ∷ []
clients-more route n x e l =
    let high : nat_lt 64 x ≡ true = grind (arith, nat_tests) in
    more-yes (λ i. i - 64) (λ i. nat_lt 64 i) route n x e high

-- clients that rise are each handed one delivery

map-id : (ss : List SessionParts) → ss ≡ map (λ s. s) ss
map-id [] = refl
map-id (s ∷ ss) = ap (λ z. s ∷ z) (map-id ss)

both : (c : ℕ) (to : List ℕ) (d : Delivery) → IsStrictlyIncreasing (c ∷ to) → (ss : List SessionParts) → delivered to d (at_client c (handed d) ss) ≡ delivered (c ∷ to) d ss
both c to d h [] = refl
both c to d h (s ∷ ss) = go (s.client == c) refl (both c to d h ss)
  where
    go : (b : Bool) → (s.client == c) ≡ b → delivered to d (at_client c (handed d) ss) ≡ delivered (c ∷ to) d ss
        → cond (is_among (cond b (handed d s) s).client to) (handed d (cond b (handed d s) s)) (cond b (handed d s) s) ∷ delivered to d (at_client c (handed d) ss)
        ≡ cond (b || is_among s.client to) (handed d s) s ∷ delivered (c ∷ to) d ss
    go true q ih =
        let none : is_among s.client to ≡ false = not-among s.client to (λ m. let more = increasing-above c to h s.client m in absurd (omega (arith, more, eqb-true s.client c q))) in
        rw none (ap (λ z. handed d s ∷ z) ih)
    go false q ih = ap (λ z. cond (is_among s.client to) (handed d s) s ∷ z) ih

pub handed-all : (d : Delivery) (to : List ℕ) (ss : List SessionParts) → IsStrictlyIncreasing to → all_handed d to ss ≡ delivered to d ss
unfolding all_handed
handed-all d [] ss h = map-id ss
handed-all d (c ∷ to) ss h = handed-all d to (at_client c (handed d) ss) (increasing-rest c to h) ∙ both c to d h ss

-- what is delivered does not ask for the room
delivered-bare : (to : List ℕ) (d : Delivery) (ss : List SessionParts) → map bare (delivered to d ss) ≡ map bare (delivered to d (map bare ss))
delivered-bare to d [] = refl
delivered-bare to d (s ∷ ss) = go (is_among s.client to) (delivered-bare to d ss)
  where
    go : (b : Bool) → map bare (delivered to d ss) ≡ map bare (delivered to d (map bare ss)) → bare (cond b (handed d s) s) ∷ map bare (delivered to d ss) ≡ bare (cond b (handed d (bare s)) (bare s)) ∷ map bare (delivered to d (map bare ss))
    go true ih = ap (λ z. bare (handed d s) ∷ z) ih
    go false ih = ap (λ z. bare s ∷ z) ih

pub delivered-alike : (to : List ℕ) (d : Delivery) (ss ts : List SessionParts) → map bare ss ≡ map bare ts → map bare (delivered to d ss) ≡ map bare (delivered to d ts)
delivered-alike to d ss ts e = delivered-bare to d ss ∙ ap (λ z. map bare (delivered to d z)) e ∙ sym (delivered-bare to d ts)

pub delivered-has : (to : List ℕ) (d : Delivery) (ss : List SessionParts) (s : SessionParts) → Has s (delivered to d ss) → (t : SessionParts) × Has t ss × (t.client ≡ s.client) × (t.planned ≡ s.planned)
delivered-has to d ss s m = go (has-map (λ s. cond (is_among s.client to) (handed d s) s) ss s m)
  where
    go : (t : SessionParts) × Has t ss × (s ≡ cond (is_among t.client to) (handed d t) t) → (t : SessionParts) × Has t ss × (t.client ≡ s.client) × (t.planned ≡ s.planned)
    go (t, k, e) = by (is_among t.client to) e
      where
        by : (b : Bool) → s ≡ cond b (handed d t) t → (t : SessionParts) × Has t ss × (t.client ≡ s.client) × (t.planned ≡ s.planned)
        by true e = (t, k, ap (λ z. z.client) (sym e), ap (λ z. z.planned) (sym e))
        by false e = (t, k, ap (λ z. z.client) (sym e), ap (λ z. z.planned) (sym e))

-- these clients have room, and else nothing changed
pub record HaveMade (clients : List ℕ) (old new : List SessionParts) : Type 0 where
  pub room : HaveRoom clients new
  pub from : StayPlanned old new
  pub alike : map bare new ≡ map bare old

pub from-more : (old mid new : List SessionParts) → StayPlanned old mid → HaveMoreRoom mid new → StayPlanned old new
from-more old mid new from more s m =
    let a = more s m in
    let b = from a.0 a.1 in
    (b.0, b.1, b.2 ∙ a.2, b.3 ∙ a.4)

has-end : (x y : ℕ) (xs : List ℕ) → Has y (xs ++ x ∷ []) → (y ≡ x) ⊎ Has y xs
has-end x y [] (inl e) = inl e
has-end x y [] (inr r) = absurd r
has-end x y (z ∷ xs) (inl e) = inr (inl e)
has-end x y (z ∷ xs) (inr r) = elim (has-end x y xs r) [ inl e ↦ inl e | inr m ↦ inr (inr m) ]

pub made-more : (clients : List ℕ) (c : ℕ) (old mid new : List SessionParts) → HaveMade clients old mid → ((s : SessionParts) → Has s new → s.client ≡ c → 1 ≤ s.room)
    → HaveMoreRoom mid new → map bare new ≡ map bare mid → HaveMade (clients ++ c ∷ []) old new
made-more clients c old mid new h room more alike = record { room = roomy; from = from-more old mid new h.from more; alike = alike ∙ h.alike }
  where
    roomy : HaveRoom (clients ++ c ∷ []) new
    roomy s m k = elim (has-end c s.client clients k) [
      | inl q ↦ room s m q
      | inr j ↦ (let a = more s m in let b = h.room a.0 a.1 (subst (λ z. Has z clients) (sym a.2) j) in omega (arith, b, a.3))
    ]
