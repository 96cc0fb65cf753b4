-- The pairs of interfaces that each have a row of numbers.
use Rattle.std.proofs.Common.{◌≡◌, inl, inr, ℕ, zero, suc, ◌<◌, ◌==◌, ◌&&◌, ◌||◌, nat_lt, Bool, true, false, List, [], ◌∷◌, length, get_or, set, refl, sym, ap, ap₂, subst, arith}
use Rattle.std.proofs.lemmas.Bool.{cases_lt}
use Rattle.std.proofs.lemmas.Bool.Decides.{nat_tests}
use Rattle.base.specs.Laws.{CoverLaws}
use Rattle.base.specs.Sets.{Has, IsRising}
use Rattle.base_bits.specs.Rows.{Numbers, IsSet}
use Rattle.match_routes.specs.Installed.{Pair, pair_before, IsInstalled}
use Rattle.match_routes.specs.Rows.{pairs_from, pairs_of, installed, AreSets, AreRows}
use Rattle.base_bits.proofs.Rising.{rising-at}
use Rattle.base.proofs.Sets.{rising-append, has-append, has-append-left, has-append-right, get_or-has}

-- the order of pairs

abbrev pub any : Pair → Pair → Bool
any x y = true

pub pair_laws : CoverLaws any pair_before
pair_laws = record {
  reflexive = λ x. refl;
  transitive = λ x y z e f. refl;
  irreflexive = λ x. lawful-1 x.0 x.1;
  chain = λ x y z e f. lawful-2 x.0 x.1 y.0 y.1 z.0 z.1 e f;
  total = λ x y e f. (let q = lawful-3 x.0 x.1 y.0 y.1 e f in ap₂ (λ (a b : ℕ). (a, b)) q.0 q.1);
}
  where
    lawful-1 : (a b : ℕ) → (nat_lt a a || ((a == a) && nat_lt b b)) ≡ false
    lawful-1 a b = grind (arith, nat_tests)

    lawful-2 : (a b c d e f : ℕ) → (nat_lt a c || ((a == c) && nat_lt b d)) ≡ true → (nat_lt c e || ((c == e) && nat_lt d f)) ≡ true → (nat_lt a e || ((a == e) && nat_lt b f)) ≡ true
    lawful-2 a b c d e f p q = grind (arith, nat_tests)

    lawful-3 : (a b c d : ℕ) → (nat_lt a c || ((a == c) && nat_lt b d)) ≡ false → (nat_lt c a || ((c == a) && nat_lt d b)) ≡ false → (a ≡ c) × (b ≡ d)
    lawful-3 a b c d p q = (grind (arith, nat_tests), grind (arith, nat_tests))

pub before-by-interface : (x y : Pair) → x.0 < y.0 → pair_before x y ≡ true
before-by-interface x y l = grind (arith, nat_tests)

-- the pairs of an interface

pub from-pairs : (interface : ℕ) (numbers : List ℕ) (x : Pair) → Has x (pairs_from interface numbers) → (x.0 ≡ interface) × Has x.1 numbers
from-pairs interface [] x h = absurd h
from-pairs interface (i ∷ numbers) x (inl q) = (ap (λ (z : Pair). z.0) q, inl (ap (λ (z : Pair). z.1) q))
from-pairs interface (i ∷ numbers) x (inr h) = let r = from-pairs interface numbers x h in (r.0, inr r.1)

pub to-pairs : (interface : ℕ) (numbers : List ℕ) (i : ℕ) → Has i numbers → Has (interface, i) (pairs_from interface numbers)
to-pairs interface [] i h = absurd h
to-pairs interface (j ∷ numbers) i (inl q) = inl (ap (λ (z : ℕ). (interface, z)) q)
to-pairs interface (j ∷ numbers) i (inr h) = inr (to-pairs interface numbers i h)

rising-pairs-from : (interface : ℕ) (numbers : List ℕ) → IsRising nat_lt numbers → IsRising pair_before (pairs_from interface numbers)
rising-pairs-from interface [] r = tt
rising-pairs-from interface (i ∷ numbers) r = (first, rising-pairs-from interface numbers r.1)
  where
    by-number : (a b c d : ℕ) → c ≡ a → nat_lt b d ≡ true → (nat_lt a c || ((a == c) && nat_lt b d)) ≡ true
    by-number a b c d e l = grind (arith, nat_tests)

    first : (y : Pair) → Has y (pairs_from interface numbers) → pair_before (interface, i) y ≡ true
    first y h = let q = from-pairs interface numbers y h in by-number interface i y.0 y.1 q.0 (r.0 y.1 q.1)

-- the pairs of all interfaces

-- a row with nothing in it
abbrev pub nothing : Numbers
nothing = record { width = 0; members = [] }

-- a pair stands in the row of its interface
pub record IsAt (interfaces : List ℕ) (rows : List Numbers) (x : Pair) : Type 0 where
  pub place : ℕ
  pub within : place < length interfaces
  pub rowed : place < length rows
  pub interface : get_or interfaces place 0 ≡ x.0
  pub number : Has x.1 (get_or rows place nothing).members

pub has-place : (interfaces : List ℕ) (rows : List Numbers) (x : Pair) → Has x (pairs_of interfaces rows) → IsAt interfaces rows x
has-place [] rows x h = absurd h
has-place (k ∷ interfaces) [] x h = absurd h
has-place (k ∷ interfaces) (row ∷ rows) x h = elim (has-append x (pairs_from k row.members) (pairs_of interfaces rows) h) [
  | inl m ↦ (let q = from-pairs k row.members x m in record { place = zero; within = omega arith; rowed = omega arith; interface = sym q.0; number = q.1 })
  | inr m ↦ (let q = has-place interfaces rows x m in record { place = suc q.place; within = omega (arith, q.within); rowed = omega (arith, q.rowed); interface = q.interface; number = q.number })
]

pub place-has : (interfaces : List ℕ) (rows : List Numbers) (place i : ℕ) → place < length interfaces → place < length rows → Has i (get_or rows place nothing).members → Has (get_or interfaces place 0, i) (pairs_of interfaces rows)
place-has [] rows place i l m h = absurd (omega (arith, l))
place-has (k ∷ interfaces) [] place i l m h = absurd (omega (arith, m))
place-has (k ∷ interfaces) (row ∷ rows) zero i l m h = has-append-left (k, i) (pairs_from k row.members) (pairs_of interfaces rows) (to-pairs k row.members i h)
place-has (k ∷ interfaces) (row ∷ rows) (suc place) i l m h =
    has-append-right (get_or interfaces place 0, i) (pairs_from k row.members) (pairs_of interfaces rows) (place-has interfaces rows place i (omega (arith, l)) (omega (arith, m)) h)

pub rising-pairs : (width : ℕ) (interfaces : List ℕ) (rows : List Numbers) → IsRising nat_lt interfaces → AreSets width rows → IsRising pair_before (pairs_of interfaces rows)
rising-pairs width [] rows r s = tt
rising-pairs width (k ∷ interfaces) [] r s = tt
rising-pairs width (k ∷ interfaces) (row ∷ rows) r s =
    rising-append pair_before (pairs_from k row.members) (pairs_of interfaces rows) (rising-pairs-from k row.members s.0.rising) (rising-pairs width interfaces rows r.1 s.2) apart
  where
    apart : (x y : Pair) → Has x (pairs_from k row.members) → Has y (pairs_of interfaces rows) → pair_before x y ≡ true
    apart x y m n =
        let q = from-pairs k row.members x m in
        let p = has-place interfaces rows y n in
        let l : nat_lt k (get_or interfaces p.place 0) ≡ true = r.0 (get_or interfaces p.place 0) (get_or-has interfaces p.place 0 p.within) in
        let s : k < get_or interfaces p.place 0 = grind (arith, nat_tests) in
        before-by-interface x y (omega (arith, s, q.0, p.interface))

-- the sets of the rows
pub set-at : (width : ℕ) (rows : List Numbers) (k : ℕ) (d : Numbers) → AreSets width rows → k < length rows → IsSet (get_or rows k d) × ((get_or rows k d).width ≡ width)
set-at width [] k d s l = absurd (omega (arith, l))
set-at width (row ∷ rows) zero d s l = (s.0, s.1)
set-at width (row ∷ rows) (suc k) d s l = set-at width rows k d s.2 (omega (arith, l))

pub sets-with : (width : ℕ) (rows : List Numbers) (k : ℕ) (new : Numbers) → AreSets width rows → IsSet new → new.width ≡ width → AreSets width (set rows k new)
sets-with width [] k new s n w = tt
sets-with width (row ∷ rows) zero new s n w = (n, w, s.2)
sets-with width (row ∷ rows) (suc k) new s n w = (s.0, s.1, sets-with width rows k new s.2 n w)

pub length-with : (rows : List Numbers) (k : ℕ) (new : Numbers) → length (set rows k new) ≡ length rows
length-with [] k new = refl
length-with (row ∷ rows) zero new = refl
length-with (row ∷ rows) (suc k) new = ap suc (length-with rows k new)

pub with-same : (rows : List Numbers) (k : ℕ) (new d : Numbers) → k < length rows → get_or (set rows k new) k d ≡ new
with-same [] k new d l = absurd (omega (arith, l))
with-same (row ∷ rows) zero new d l = refl
with-same (row ∷ rows) (suc k) new d l = with-same rows k new d (omega (arith, l))

pub with-other : (rows : List Numbers) (k j : ℕ) (new d : Numbers) → (j ≡ k → ⊥) → get_or (set rows k new) j d ≡ get_or rows j d
with-other [] k j new d n = refl
with-other (row ∷ rows) zero zero new d n = absurd (n refl)
with-other (row ∷ rows) zero (suc j) new d n = refl
with-other (row ∷ rows) (suc k) zero new d n = refl
with-other (row ∷ rows) (suc k) (suc j) new d n = with-other rows k j new d (λ e. n (ap suc e))

-- two rising places with one interface are one
pub one-place : (interfaces : List ℕ) → IsRising nat_lt interfaces → (j k : ℕ) → j < length interfaces → k < length interfaces → get_or interfaces j 0 ≡ get_or interfaces k 0 → j ≡ k
one-place interfaces r j k l m e = elim (cases_lt j k) [
  | inl a ↦ (let s = rising-at interfaces r j k a m in absurd (omega (arith, s, e)))
  | inr a ↦ elim (cases_lt k j) [
    | inl b ↦ (let s = rising-at interfaces r k j b l in absurd (omega (arith, s, e)))
    | inr b ↦ omega (arith, a, b)
  ]
]

-- what each server keeps
pub installed-is : (width : ℕ) (interfaces : List ℕ) (rows : List Numbers) → AreRows width interfaces rows → IsInstalled (installed width interfaces rows)
installed-is width interfaces rows is = record {
  interfaces = is.rising;
  pairs = rising-pairs width interfaces rows is.rising is.sets;
  known = λ x h. (
      let q = has-place interfaces rows x h in
      let s = set-at width rows q.place nothing is.sets q.rowed in
      record {
        interface = subst (λ (k : ℕ). Has k interfaces) q.interface (get_or-has interfaces q.place 0 q.within);
        number = (let l = s.0.within x.1 q.number in omega (arith, l, s.1));
      });
}
