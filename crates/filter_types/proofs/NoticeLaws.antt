-- Proves that sorted attributes whose names are distinct rise strictly.
use Rattle.std.proofs.Common.{◌≡◌, ℕ, suc, ◌+◌, ◌<◌, ◌≤◌, Bool, true, false, cond, ◌||◌, refl, sym, ap, subst, ◌∙◌, arith, List, [], ◌∷◌, ◌++◌, length, get_or, Ordering, Some, None, add-one, append-nil, append_assoc}
use Rattle.std.specs.declared.cmp.Ordering.TheVariants.{Less, Equal, Greater}
use Rattle.std.specs.Ordering.{is_lt, nat_cmp, ordering_reverse}
use Rattle.std.specs.Cmp.Lexicographic.{slice_cmp}
use Rattle.std.specs.List.{sum_by}
use Rattle.std.specs.List.Sorted.{IsSortedBy, IsPermutation}
use Rattle.std.specs.Str.{bytes_eq}
use Rattle.std.proofs.lemmas.List.Sums.{sum_by-append}
use Rattle.std.proofs.lemmas.List.Sorted.{sum_by-IsPermutation}
use Rattle.std.proofs.lemmas.Cmp.{nat_list_cmp_total}
use Rattle.filter_constraints.proofs.BytesLemmas.{bytes_eq-tells, bytes_eq-told}
use Rattle.filter_constraints.proofs.OrderLaws.{list-tied, nat-tied}
use Rattle.filter_types.specs.Notice.{Attribute, is_name_less, has_name, twice_from, first_twice, AreRising}
use Rattle.base.proofs.Lists.{bytes_eq-self}

abbrev hits : List ℕ → Attribute → ℕ
hits n a = cond (bytes_eq a.0 n) 1 0

-- how many attributes have the name
total : List ℕ → List Attribute → ℕ
total n xs = sum_by (hits n) xs

total-append : (n : List ℕ) (xs ys : List Attribute) → total n (xs ++ ys) ≡ total n xs + total n ys
unfolding total
total-append n xs ys = sum_by-append (hits n) xs ys

total-one : (n : List ℕ) (a : Attribute) → total n (a ∷ []) ≡ hits n a
unfolding total
total-one n a = omega arith

total-nil : (n : List ℕ) → total n [] ≡ 0
unfolding total
total-nil n = refl

total-cons : (n : List ℕ) (a : Attribute) (xs : List Attribute) → total n (a ∷ xs) ≡ hits n a + total n xs
total-cons n a xs = total-append n (a ∷ []) xs ∙ ap (λ k. k + total n xs) (total-one n a)

none_total : (n : List ℕ) (xs : List Attribute) → has_name xs n ≡ false → total n xs ≡ 0
none_total n [] h = total-nil n
none_total n (a ∷ xs) h = go (bytes_eq a.0 n) refl h (λ q. none_total n xs q)
  where
    go : (b : Bool) → bytes_eq a.0 n ≡ b → (b || has_name xs n) ≡ false → (has_name xs n ≡ false → total n xs ≡ 0) → total n (a ∷ xs) ≡ 0
    go true e q k = cc
    go false e q k = total-cons n a xs ∙ rw (e, k q) refl

more : (n : List ℕ) (a : Attribute) (seen : List Attribute) → has_name seen a.0 ≡ false → total n seen ≤ 1 → total n (seen ++ a ∷ []) ≤ 1
more n a seen h l = rw (total-append n seen (a ∷ []), total-one n a) (go (bytes_eq a.0 n) refl)
  where
    go : (b : Bool) → bytes_eq a.0 n ≡ b → total n seen + cond b 1 0 ≤ 1
    go true e = let z : total n seen ≡ 0 = subst (λ (m : List ℕ). total m seen ≡ 0) (bytes_eq-tells a.0 n e) (none_total a.0 seen h) in omega arith
    go false e = omega arith

once : (seen xs : List Attribute) (i : ℕ) → twice_from seen i xs ≡ None → ((n : List ℕ) → total n seen ≤ 1) → (n : List ℕ) → total n (seen ++ xs) ≤ 1
once seen [] i h l n = rw (append-nil seen) (l n)
once seen (a ∷ xs) i h l n = go (has_name seen a.0) refl h (λ q m. once (seen ++ a ∷ []) xs (i + 1) q m n)
  where
    go : (b : Bool) → has_name seen a.0 ≡ b → cond b (Some i) (twice_from (seen ++ a ∷ []) (i + 1) xs) ≡ None → (twice_from (seen ++ a ∷ []) (i + 1) xs ≡ None → ((m : List ℕ) → total m (seen ++ a ∷ []) ≤ 1) → total n ((seen ++ a ∷ []) ++ xs) ≤ 1) → total n (seen ++ a ∷ xs) ≤ 1
    go true e q k = absurd cc
    go false e q k = subst (λ (zs : List Attribute). total n zs ≤ 1) (append_assoc seen (a ∷ []) xs) (k q (λ m. more m a seen e (l m)))

lost : (o : Ordering) → o ≡ Less → is_lt o ≡ false → ⊥
lost Less e q = cc
lost Equal e q = cc
lost Greater e q = cc

adjacent : (a b : Attribute) (xs : List Attribute) → is_name_less b a ≡ false → total a.0 (a ∷ b ∷ xs) ≤ 1 → slice_cmp nat_cmp a.0 b.0 ≡ Less
adjacent a b xs h l = go (slice_cmp nat_cmp a.0 b.0) refl
  where
    go : (o : Ordering) → slice_cmp nat_cmp a.0 b.0 ≡ o → slice_cmp nat_cmp a.0 b.0 ≡ Less
    go Less e = e
    go Equal e =
        let n : b.0 ≡ a.0 = sym (list-tied nat_cmp nat-tied a.0 b.0 e) in
        let x : hits a.0 a ≡ 1 = rw (bytes_eq-self a.0) refl in
        let y : hits a.0 b ≡ 1 = rw (bytes_eq-told b.0 a.0 n) refl in
        absurd (omega (arith, total-cons a.0 a (b ∷ xs), total-cons a.0 b xs, x, y))
    go Greater e = let r : slice_cmp nat_cmp b.0 a.0 ≡ Less = nat_list_cmp_total.antisymm b.0 a.0 ∙ ap ordering_reverse e in absurd (lost (slice_cmp nat_cmp b.0 a.0) r h)

rising : (xs : List Attribute) → IsSortedBy is_name_less xs → ((n : List ℕ) → total n xs ≤ 1) → AreRising xs
rising [] h l = tt
rising (a ∷ []) h l = tt
rising (a ∷ b ∷ xs) h l = (adjacent a b xs (h 0 a (omega arith) (omega arith)) (l a.0), rising (b ∷ xs) below (λ n. fewer n))
  where
    fewer : (n : List ℕ) → total n (b ∷ xs) ≤ 1
    fewer n = let k = l n in omega (arith, total-cons n a (b ∷ xs))

    below : IsSortedBy is_name_less (b ∷ xs)
    below k d p q =
        let s : suc k + 1 < length (a ∷ b ∷ xs) = omega arith in
        let z : 0 ≤ suc k = omega arith in
        let g : is_name_less (get_or (a ∷ b ∷ xs) (suc (suc k)) d) (get_or (a ∷ b ∷ xs) (suc k) d) ≡ false = subst (λ (n : ℕ). is_name_less (get_or (a ∷ b ∷ xs) n d) (get_or (b ∷ xs) k d) ≡ false) (add-one (suc k)) (h (suc k) d z s) in
        subst (λ (n : ℕ). is_name_less (get_or (b ∷ xs) n d) (get_or (b ∷ xs) k d) ≡ false) (sym (add-one k)) g

-- attributes none of whose names stood earlier, once sorted, rise
pub sorted_rising : (xs ys : List Attribute) → first_twice xs ≡ None → IsPermutation xs ys → IsSortedBy is_name_less ys → AreRising ys
unfolding first_twice total
sorted_rising xs ys h p s = rising ys s (λ n. subst (λ (k : ℕ). k ≤ 1) (sym (sum_by-IsPermutation (hits n) xs ys p)) (once [] xs 0 h (λ m. omega (arith, total-nil m)) n))

pub empty_once : (xs : List Attribute) → length xs ≡ 0 → first_twice xs ≡ None
unfolding first_twice
empty_once [] h = refl
empty_once (a ∷ xs) h = absurd (omega arith)
