-- The interfaces that a server can ever have: all numbers of links, and those of its clients.
use Rattle.std.proofs.Common.{◌≡◌, ◌⊎◌, inl, inr, ℕ, zero, suc, ◌+◌, ◌<◌, ◌≤◌, ◌^◌, nat_lt, cond, Bool, true, false, List, [], ◌∷◌, ◌++◌, length, take, Some, slice_get, refl, sym, ap, subst, ◌∙◌, arith, add-one}
use Rattle.std.specs.List.{range_with_len}
use Rattle.std.proofs.lemmas.Bool.{cases_lt}
use Rattle.std.proofs.lemmas.Bool.Decides.{nat_tests}
use Rattle.base.specs.Sets.{Has, IsRising}
use Rattle.std.specs.Prelude.{Result, Ok, Err, IfOk}
use Rattle.net_tables.specs.Known.{known_filters}
use Rattle.match_routes.specs.Installed.{Installed}
use Rattle.server_core.specs.Core.{CoreParts}
use Rattle.server_core.proofs.Starting.{rising-few}
use Rattle.thread_cell.specs.Kept.{AreReachable, IsWideFor, clients_among}
use Rattle.base.proofs.Lists.{take-suc-some}
use Rattle.base.proofs.Sets.{has-append, has-append-left, has-append-right, range-has, has-range, range-rises}

-- those that are clients'
among-has : (i : ℕ) (xs : List ℕ) → Has i (clients_among xs) → Has i xs × (64 < i)
among-has i [] h = absurd h
among-has i (x ∷ xs) h = go (nat_lt 64 x) refl (among-has i xs) h
  where
    go : (b : Bool) → nat_lt 64 x ≡ b → (Has i (clients_among xs) → Has i xs × (64 < i)) → Has i (cond b (x ∷ clients_among xs) (clients_among xs)) → Has i (x ∷ xs) × (64 < i)
    go true e later (inl q) = (inl q, let l : 64 < x = grind (arith, nat_tests, e) in omega (arith, l, q))
    go true e later (inr m) = let r = later m in (inr r.0, r.1)
    go false e later m = let r = later m in (inr r.0, r.1)

has-among : (i : ℕ) (xs : List ℕ) → Has i xs → 64 < i → Has i (clients_among xs)
has-among i [] h lt = absurd h
has-among i (x ∷ xs) h lt = go (nat_lt 64 x) refl (λ m. has-among i xs m lt) h
  where
    not-less : (x : ℕ) → nat_lt 64 x ≡ false → 64 < x → ⊥
    not-less x e l = grind (arith, nat_tests, e, l)

    go : (b : Bool) → nat_lt 64 x ≡ b → (Has i xs → Has i (clients_among xs)) → Has i (x ∷ xs) → Has i (cond b (x ∷ clients_among xs) (clients_among xs))
    go true e later (inl q) = inl q
    go true e later (inr m) = inr (later m)
    go false e later (inl q) = absurd (not-less x e (omega (arith, lt, q)))
    go false e later (inr m) = later m

among-rises : (xs : List ℕ) → IsRising nat_lt xs → IsRising nat_lt (clients_among xs)
among-rises [] r = tt
among-rises (x ∷ xs) r = go (nat_lt 64 x) (among-rises xs r.1)
  where
    go : (b : Bool) → IsRising nat_lt (clients_among xs) → IsRising nat_lt (cond b (x ∷ clients_among xs) (clients_among xs))
    go true later = ((λ y h. r.0 y (among-has y xs h).0), later)
    go false later = later

rising-joined : (xs ys : List ℕ) → IsRising nat_lt xs → IsRising nat_lt ys → ((x y : ℕ) → Has x xs → Has y ys → nat_lt x y ≡ true) → IsRising nat_lt (xs ++ ys)
rising-joined [] ys r s apart = s
rising-joined (x ∷ xs) ys r s apart = (first, rising-joined xs ys r.1 s (λ a b h k. apart a b (inr h) k))
  where
    first : (y : ℕ) → Has y (xs ++ ys) → nat_lt x y ≡ true
    first y h = elim (has-append y xs ys h) [ inl m ↦ r.0 y m | inr m ↦ apart x y (inl refl) m ]

-- one interface more
pub among-more : (xs : List ℕ) (x : ℕ) → clients_among (xs ++ x ∷ []) ≡ clients_among xs ++ clients_among (x ∷ [])
among-more [] x = refl
among-more (y ∷ xs) x = go (nat_lt 64 y) (among-more xs x)
  where
    go : (b : Bool) → clients_among (xs ++ x ∷ []) ≡ clients_among xs ++ clients_among (x ∷ [])
        → cond b (y ∷ clients_among (xs ++ x ∷ [])) (clients_among (xs ++ x ∷ [])) ≡ cond b (y ∷ clients_among xs) (clients_among xs) ++ clients_among (x ∷ [])
    go true e = ap (λ l. y ∷ l) e
    go false e = e

-- one number more
pub range-more : (a n : ℕ) → range_with_len a (n + 1) ≡ range_with_len a n ++ (a + n) ∷ []
range-more a n = rw add-one (go a n)
  where
    go : (a n : ℕ) → range_with_len a (suc n) ≡ range_with_len a n ++ (a + n) ∷ []
    go a zero = ap (λ z. z ∷ []) (omega arith)
    go a (suc n) = ap (λ z. a ∷ z) (go (a + 1) n ∙ ap (λ z. range_with_len (a + 1) n ++ z ∷ []) (omega arith))

-- one interface more of those that are there
pub taken-client : (xs : List ℕ) (n x : ℕ) → slice_get xs n ≡ Some x → (b : Bool) → nat_lt 64 x ≡ b → clients_among (take (n + 1) xs) ≡ clients_among (take n xs) ++ cond b (x ∷ []) []
taken-client xs n x at b e =
    let more : take (n + 1) xs ≡ take n xs ++ x ∷ [] = rw add-one (take-suc-some xs n x at) in
    ap clients_among more ∙ among-more (take n xs) x ∙ ap (λ l. clients_among (take n xs) ++ l) (λ i. cond (e i) (x ∷ []) [])

-- all numbers of links, and then those of clients, which are at most 1,024
pub reachable : (interfaces all : List ℕ) → IsRising nat_lt interfaces → ((i : ℕ) → Has i interfaces → i ≤ 64 + 1024) → all ≡ range_with_len 0 65 ++ clients_among interfaces → AreReachable interfaces all
reachable interfaces all rising low e = record {
  rising = subst (IsRising nat_lt) (sym e) rises;
  few = subst (λ l. length l < 2 ^ 32) (sym e) (let r = rising-few 0 1088 (range_with_len 0 65 ++ clients_among interfaces) rises (omega arith) (λ x m. omega arith) high in omega (arith, r));
  links = λ i le. subst (Has i) (sym e) (has-append-left i (range_with_len 0 65) (clients_among interfaces) (range-has 0 65 i (omega arith) (omega (arith, le))));
  reaches = λ i h. subst (Has i) (sym e) (elim (cases_lt 64 i) [
    | inl lt ↦ has-append-right i (range_with_len 0 65) (clients_among interfaces) (has-among i interfaces h (grind (arith, nat_tests, lt)))
    | inr ge ↦ has-append-left i (range_with_len 0 65) (clients_among interfaces) (range-has 0 65 i (omega arith) (omega (arith, ge)))
  ]);
}
  where
    apart : (x y : ℕ) → Has x (range_with_len 0 65) → Has y (clients_among interfaces) → nat_lt x y ≡ true
    apart x y h k = let a = has-range 0 65 x h in let b = among-has y interfaces k in less x y a.1 b.1
      where
        less : (x y : ℕ) → x < 0 + 65 → 64 < y → nat_lt x y ≡ true
        less x y a b = grind (arith, nat_tests, a, b)

    rises : IsRising nat_lt (range_with_len 0 65 ++ clients_among interfaces)
    rises = rising-joined (range_with_len 0 65) (clients_among interfaces) (range-rises 0 65) (among-rises interfaces rising) apart

    high : (i : ℕ) → Has i (range_with_len 0 65 ++ clients_among interfaces) → i ≤ 1088
    high i m = elim (has-append i (range_with_len 0 65) (clients_among interfaces) m) [
      | inl h ↦ (let l = (has-range 0 65 i h).1 in omega (arith, l))
      | inr h ↦ (let l = low i (among-has i interfaces h).0 in omega (arith, l))
    ]

-- a forwarding of these interfaces is wide enough
pub wide-of : (core : CoreParts) (width : ℕ) (all : List ℕ) (f : Installed) → f ≡ record { width = width; interfaces = all; pairs = [] } → width ≡ length (known_filters core.net.clients) → AreReachable core.interfaces all → IsWideFor core f
wide-of core width all f e wide is = record {
  width = ap (λ (z : Installed). z.width) e ∙ wide;
  links = λ i le. subst (λ (z : Installed). Has i z.interfaces) (sym e) (is.links i le);
  reaches = λ i h. subst (λ (z : Installed). Has i z.interfaces) (sym e) (is.reaches i h);
}
