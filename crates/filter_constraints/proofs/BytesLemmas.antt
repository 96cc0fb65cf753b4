-- Lemmas on the order of bytes, and on their prefixes, suffixes and parts.
use Rattle.std.proofs.Common.{inl, inr, ◌⊎◌, ◌≡◌, ℕ, ◌-◌, Bool, true, false, ◌||◌, refl, sym, ap, ◌∙◌, List, [], ◌∷◌, ◌++◌, length, take, drop, nat_eq, append_assoc, append-nil}
use Rattle.std.specs.List.{starts_with, ends_with}
use Rattle.std.specs.Ordering.{nat_cmp, is_lt, is_gt, ordering_reverse}
use Rattle.std.specs.declared.cmp.Ordering.{Ordering}
use Rattle.std.specs.declared.cmp.Ordering.TheVariants.{Less, Equal, Greater}
use Rattle.std.specs.Cmp.Lexicographic.{slice_cmp}
use Rattle.std.specs.Str.{bytes_eq}
use Rattle.std.proofs.lemmas.Cmp.{nat_list_cmp_total, upto, tied_itself}
use Rattle.std.proofs.lemmas.Slice.Eq.{starts_is, ends_is, bytes_eq-Decides}
use Rattle.std.proofs.lemmas.Bool.Decides.{Decides-eqb}
use Rattle.filter_constraints.specs.Bytes.{less, has_prefix, has_suffix, has_part}
use Rattle.std.proofs.lemmas.Bool.{true_from_ne_false, or_cases, or_left, or_right}
use Rattle.base.proofs.Lists.{append-cancel}

abbrev order : List ℕ → List ℕ → Ordering
order = slice_cmp nat_cmp

reversed : (x y : List ℕ) → order x y ≡ ordering_reverse (order y x)
reversed x y = nat_list_cmp_total.antisymm x y

less_is_gt : (x y : List ℕ) → less x y ≡ is_gt (order y x)
unfolding less
less_is_gt x y = rw (reversed x y) (turned (order y x))
  where
    turned : (o : Ordering) → is_lt (ordering_reverse o) ≡ is_gt o
    turned Less = refl
    turned Equal = refl
    turned Greater = refl

-- at most, and at most: at most
pub le-le : (a b c : List ℕ) → less b a ≡ false → less c b ≡ false → less c a ≡ false
le-le a b c p q = less_is_gt c a ∙ upto nat_list_cmp_total a b c (sym (less_is_gt b a) ∙ p) (sym (less_is_gt c b) ∙ q)

pub less-irrefl : (a : List ℕ) → less a a ≡ false
unfolding less
less-irrefl a = rw (tied_itself nat_list_cmp_total a) refl

pub less-asym : (a b : List ℕ) → less a b ≡ true → less b a ≡ false
unfolding less
less-asym a b h = go (order a b) (order b a) (reversed b a) h
  where
    go : (o p : Ordering) → p ≡ ordering_reverse o → is_lt o ≡ true → is_lt p ≡ false
    go Less p e h = rw e refl
    go Equal p e h = cc
    go Greater p e h = cc

-- less, and at most: less
pub less-le : (a b c : List ℕ) → less a b ≡ true → less c b ≡ false → less a c ≡ true
less-le a b c p q = true_from_ne_false (less a c) (λ n. let r : less a b ≡ false = le-le b c a q n in cc)

pub le-less : (a b c : List ℕ) → less b a ≡ false → less b c ≡ true → less a c ≡ true
le-less a b c p q = true_from_ne_false (less a c) (λ n. let r : less b c ≡ false = le-le c a b n p in cc)

-- what the tests of a front, an end and a part tell
abbrev pub HasPrefix : List ℕ → List ℕ → Type 0
HasPrefix x u = (rest : List ℕ) × (x ≡ u ++ rest)

abbrev pub HasSuffix : List ℕ → List ℕ → Type 0
HasSuffix x u = (before : List ℕ) × (x ≡ before ++ u)

abbrev pub HasPart : List ℕ → List ℕ → Type 0
HasPart x u = (before : List ℕ) × (rest : List ℕ) × (x ≡ before ++ (u ++ rest))

pub has_prefix-tells : (x u : List ℕ) → has_prefix x u ≡ true → HasPrefix x u
unfolding has_prefix
has_prefix-tells x u h = (drop (length u) x, (starts_is Decides-eqb x u (starts_with nat_eq x u) refl).0 h)

pub has_prefix-told : (x u rest : List ℕ) → x ≡ u ++ rest → has_prefix x u ≡ true
unfolding has_prefix
has_prefix-told x u rest e = (starts_is Decides-eqb x u (starts_with nat_eq x u) refl).1 rest e

pub has_suffix-tells : (x u : List ℕ) → has_suffix x u ≡ true → HasSuffix x u
unfolding has_suffix
has_suffix-tells x u h = (take (length x - length u) x, (ends_is Decides-eqb x u (ends_with nat_eq x u) refl).0 h)

pub has_suffix-told : (x u before : List ℕ) → x ≡ before ++ u → has_suffix x u ≡ true
unfolding has_suffix
has_suffix-told x u before e = (ends_is Decides-eqb x u (ends_with nat_eq x u) refl).1 before e

pub has_part-tells : (x u : List ℕ) → has_part x u ≡ true → HasPart x u
unfolding has_part
has_part-tells [] u h = let b = has_prefix-tells [] u h in ([], b.0, b.1)
has_part-tells (b ∷ x) u h = elim (or_cases (has_prefix (b ∷ x) u) (has_part x u) h) [
  | inl p ↦ (let t = has_prefix-tells (b ∷ x) u p in ([], t.0, t.1))
  | inr q ↦ (let t = has_part-tells x u q in (b ∷ t.0, t.1, ap (λ y. b ∷ y) t.2))
]

pub has_part-told : (x u before rest : List ℕ) → x ≡ before ++ (u ++ rest) → has_part x u ≡ true
unfolding has_part
has_part-told [] u [] rest e = has_prefix-told [] u rest e
has_part-told [] u (c ∷ before) rest e = cc
has_part-told (b ∷ x) u [] rest e = rw (has_prefix-told (b ∷ x) u rest e) refl
has_part-told (b ∷ x) u (c ∷ before) rest e = rw (has_part-told x u before rest cc) (or-true (has_prefix (b ∷ x) u))
  where
    or-true : (a : Bool) → (a || true) ≡ true
    or-true true = refl
    or-true false = refl

pub has_prefix-has_prefix : (x v u : List ℕ) → has_prefix v u ≡ true → has_prefix x v ≡ true → has_prefix x u ≡ true
has_prefix-has_prefix x v u p q =
    let a = has_prefix-tells v u p in let b = has_prefix-tells x v q in
    has_prefix-told x u (a.0 ++ b.0) (b.1 ∙ ap (λ y. y ++ b.0) a.1 ∙ append_assoc u a.0 b.0)

pub has_suffix-has_suffix : (x v u : List ℕ) → has_suffix v u ≡ true → has_suffix x v ≡ true → has_suffix x u ≡ true
has_suffix-has_suffix x v u p q =
    let a = has_suffix-tells v u p in let b = has_suffix-tells x v q in
    has_suffix-told x u (b.0 ++ a.0) (b.1 ∙ ap (λ y. b.0 ++ y) a.1 ∙ sym (append_assoc b.0 a.0 u))

pub has_part-has_prefix : (x v u : List ℕ) → has_part v u ≡ true → has_prefix x v ≡ true → has_part x u ≡ true
has_part-has_prefix x v u p q =
    let a = has_part-tells v u p in let b = has_prefix-tells x v q in
    has_part-told x u a.0 (a.1 ++ b.0) (b.1 ∙ ap (λ y. y ++ b.0) a.2 ∙ append_assoc a.0 (u ++ a.1) b.0 ∙ ap (λ y. a.0 ++ y) (append_assoc u a.1 b.0))

pub has_part-has_suffix : (x v u : List ℕ) → has_part v u ≡ true → has_suffix x v ≡ true → has_part x u ≡ true
has_part-has_suffix x v u p q =
    let a = has_part-tells v u p in let b = has_suffix-tells x v q in
    has_part-told x u (b.0 ++ a.0) a.1 (b.1 ∙ ap (λ y. b.0 ++ y) a.2 ∙ sym (append_assoc b.0 a.0 (u ++ a.1)))

pub has_part-has_part : (x v u : List ℕ) → has_part v u ≡ true → has_part x v ≡ true → has_part x u ≡ true
has_part-has_part x v u p q =
    let b = has_part-tells x v q in
    has_part-has_suffix x (v ++ b.1) u (has_part-has_prefix (v ++ b.1) v u p (has_prefix-told (v ++ b.1) v b.1 refl)) (has_suffix-told x (v ++ b.1) b.0 b.2)

fronts : (u v r s : List ℕ) → u ++ r ≡ v ++ s → HasPrefix u v ⊎ HasPrefix v u
fronts [] v r s e = inr (v, refl)
fronts (a ∷ u) [] r s e = inl (a ∷ u, refl)
fronts (a ∷ u) (b ∷ v) r s e = elim (fronts u v r s cc) [
  | inl t ↦ (let f = t.1 in inl (t.0, cc))
  | inr t ↦ (let f = t.1 in inr (t.0, cc))
]

-- two fronts of one list: one is a front of the other
pub two_fronts : (x u v : List ℕ) → has_prefix x u ≡ true → has_prefix x v ≡ true → (has_prefix u v || has_prefix v u) ≡ true
two_fronts x u v p q =
    let a = has_prefix-tells x u p in let b = has_prefix-tells x v q in
    elim (fronts u v a.0 b.0 (sym a.1 ∙ b.1)) [
      | inl t ↦ or_left (has_prefix u v) (has_prefix v u) (has_prefix-told u v t.0 t.1)
      | inr t ↦ or_right (has_prefix u v) (has_prefix v u) (has_prefix-told v u t.0 t.1)
    ]

pub two_ends : (x u v : List ℕ) → has_suffix x u ≡ true → has_suffix x v ≡ true → (has_suffix u v || has_suffix v u) ≡ true
two_ends x u v p q =
    let a = has_suffix-tells x u p in let b = has_suffix-tells x v q in
    elim (fronts a.0 b.0 u v (sym a.1 ∙ b.1)) [
      | inl t ↦ or_right (has_suffix u v) (has_suffix v u) (has_suffix-told v u t.0 (append-cancel b.0 v (t.0 ++ u) (sym (sym a.1 ∙ b.1) ∙ ap (λ y. y ++ u) t.1 ∙ append_assoc b.0 t.0 u)))
      | inr t ↦ or_left (has_suffix u v) (has_suffix v u) (has_suffix-told u v t.0 (append-cancel a.0 u (t.0 ++ v) (sym a.1 ∙ b.1 ∙ ap (λ y. y ++ v) t.1 ∙ append_assoc a.0 t.0 v)))
    ]

pub bytes_eq-tells : (a b : List ℕ) → bytes_eq a b ≡ true → a ≡ b
bytes_eq-tells a b h = (bytes_eq-Decides a b).0 h

pub bytes_eq-told : (a b : List ℕ) → a ≡ b → bytes_eq a b ≡ true
bytes_eq-told a b h = (bytes_eq-Decides a b).1 h

pub has_prefix-self : (a : List ℕ) → has_prefix a a ≡ true
has_prefix-self a = has_prefix-told a a [] (sym (append-nil a))

pub has_suffix-self : (a : List ℕ) → has_suffix a a ≡ true
has_suffix-self a = has_suffix-told a a [] refl

pub has_part-self : (a : List ℕ) → has_part a a ≡ true
has_part-self a = has_part-told a a [] [] (sym (append-nil a))
