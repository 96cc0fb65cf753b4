-- Counts of the rows that have a number, as one row changes.
use Rattle.std.proofs.Common.{◌≡◌, ◌≢◌, ◌⊎◌, inl, inr, ℕ, zero, suc, ◌+◌, ◌<◌, ◌≤◌, ◌^◌, nat_lt, Bool, true, false, not, ◌||◌, List, [], ◌∷◌, ◌++◌, length, take, replicate, get_or, set, slice_index, slice_get, Some, refl, sym, ap, ap₂, subst, ◌∙◌, arith}
use Rattle.std.specs.List.{list_any}
use Rattle.std.proofs.lemmas.List.{length-replicate, take_more, length-set, get_or-set_same, get_or-set_other}
use Rattle.std.proofs.lemmas.Bool.{cases_eq, lt-ltb, cases_lt, ltb-true}
use Rattle.std.proofs.lemmas.Option.{same_Some}
use Rattle.base.specs.Sets.{Has, IsRising, put_in, minus, union}
use Rattle.base.specs.Numbers.{sum_over, count}
use Rattle.base.proofs.Sets.{has-put_in, rising-put_in, has-union, rising-union, minus-iff, rising-minus, ext}
use Rattle.base_bits.specs.Rows.{Numbers, is_in}
use Rattle.base_bits.proofs.Passing.{nat_laws, push-old, push-new}
use Rattle.base_order.proofs.Numbers.{has-more}
use Rattle.base_order.proofs.SettledRoots.{has-in}
use Rattle.server_stock.specs.Held.{holders_of, elsewhere, needs, IsCounted, row_at, without, with}
use Rattle.base.proofs.Numbers.{zero-add}

count-small : (b : Bool) → count b ≤ 1
count-small true = omega arith
count-small false = omega arith

module _ {A : Type 0} where
  pub has-get : (xs : List A) (p : ℕ) (d : A) → p < length xs → Has (get_or xs p d) xs
  has-get [] p d l = absurd (omega arith)
  has-get (x ∷ xs) zero d l = inl refl
  has-get (x ∷ xs) (suc p) d l = inr (has-get xs p d (omega arith))

  pub has-set : (xs : List A) (p : ℕ) (y z : A) → Has z (set xs p y) → (z ≡ y) ⊎ Has z xs
  has-set [] p y z h = absurd h
  has-set (x ∷ xs) zero y z (inl q) = inl q
  has-set (x ∷ xs) zero y z (inr h) = inr (inr h)
  has-set (x ∷ xs) (suc p) y z (inl q) = inr (inl q)
  has-set (x ∷ xs) (suc p) y z (inr h) = elim (has-set xs p y z h) [ inl q ↦ inl q | inr m ↦ inr (inr m) ]

  pub sum-set : (f : A → ℕ) (xs : List A) (p : ℕ) (y d : A) → p < length xs → sum_over f (set xs p y) + f (get_or xs p d) ≡ sum_over f xs + f y
  sum-set f [] p y d l = absurd (omega arith)
  sum-set f (x ∷ xs) zero y d l = omega arith
  sum-set f (x ∷ xs) (suc p) y d l = let ih = sum-set f xs p y d (omega arith) in omega (arith, ih)

  pub sum-few : (t : A → Bool) (xs : List A) → sum_over (λ x. count (t x)) xs ≤ length xs
  sum-few t [] = omega arith
  sum-few t (x ∷ xs) = let ih = sum-few t xs in let s = count-small (t x) in omega (arith, ih, s)

  pub own-counts : (t : A → Bool) (xs : List A) (p : ℕ) (d : A) → p < length xs → count (t (get_or xs p d)) ≤ sum_over (λ x. count (t x)) xs
  own-counts t [] p d l = absurd (omega arith)
  own-counts t (x ∷ xs) zero d l = omega arith
  own-counts t (x ∷ xs) (suc p) d l = let ih = own-counts t xs p d (omega arith) in omega (arith, ih)

  any-counts : (t : A → Bool) (xs : List A) → nat_lt 0 (sum_over (λ x. count (t x)) xs) ≡ list_any t xs
  any-counts t [] = refl
  any-counts t (x ∷ xs) = go (t x) refl (any-counts t xs)
    where
      go : (b : Bool) → t x ≡ b → nat_lt 0 (sum_over (λ x. count (t x)) xs) ≡ list_any t xs → nat_lt 0 (count (t x) + sum_over (λ x. count (t x)) xs) ≡ (t x || list_any t xs)
      go true e ih = rw e (lt-ltb 0 (1 + sum_over (λ x. count (t x)) xs) (omega arith))
      go false e ih = rw e (ap (λ z. nat_lt 0 z) (zero-add (sum_over (λ x. count (t x)) xs)) ∙ ih)

pub elsewhere-counts : (t : Numbers → Bool) (xs : List Numbers) (p : ℕ) (d : Numbers) → p < length xs
    → nat_lt (count (t (get_or xs p d))) (sum_over (λ x. count (t x)) xs) ≡ elsewhere t p xs
elsewhere-counts t [] p d l = absurd (omega arith)
elsewhere-counts t (x ∷ xs) zero d l = go (t x) refl (any-counts t xs)
  where
    go : (b : Bool) → t x ≡ b → nat_lt 0 (sum_over (λ x. count (t x)) xs) ≡ list_any t xs → nat_lt (count (t x)) (count (t x) + sum_over (λ x. count (t x)) xs) ≡ list_any t xs
    go true e ih = rw e (one (sum_over (λ x. count (t x)) xs) ∙ ih)
      where
        one : (n : ℕ) → nat_lt 1 (1 + n) ≡ nat_lt 0 n
        one zero = refl
        one (suc n) = lt-ltb 1 (1 + suc n) (omega arith) ∙ sym (lt-ltb 0 (suc n) (omega arith))
    go false e ih = rw e (ap (λ z. nat_lt 0 z) (zero-add (sum_over (λ x. count (t x)) xs)) ∙ ih)
elsewhere-counts t (x ∷ xs) (suc p) d l = go (t x) refl (elsewhere-counts t xs p d (omega arith)) (own-counts t xs p d (omega arith))
  where
    go : (b : Bool) → t x ≡ b → nat_lt (count (t (get_or xs p d))) (sum_over (λ x. count (t x)) xs) ≡ elsewhere t p xs → count (t (get_or xs p d)) ≤ sum_over (λ x. count (t x)) xs
        → nat_lt (count (t (get_or xs p d))) (count (t x) + sum_over (λ x. count (t x)) xs) ≡ (t x || elsewhere t p xs)
    go true e ih s = rw e (lt-ltb (count (t (get_or xs p d))) (1 + sum_over (λ x. count (t x)) xs) (omega (arith, s)))
    go false e ih s = rw e (ap (λ z. nat_lt (count (t (get_or xs p d))) z) (zero-add (sum_over (λ x. count (t x)) xs)) ∙ ih)

module _ {width : ℕ} {counts : List ℕ} {rows : List Numbers} (is : IsCounted width counts rows) (p i : ℕ) (own : Numbers) (there : p < length rows) (within : i < width) (at : own ≡ get_or rows p own) where
  t : Numbers → Bool
  t r = is_in i r.members

  pub own-wide : own.width ≡ width
  own-wide = is.wide own (subst (λ z. Has z rows) (sym at) (has-get rows p own there))

  module _ (n : ℕ) (read : n ≡ get_or counts i n) where
    pub the-count : n ≡ holders_of i rows
    the-count = let l = is.long in let e = is.counted i in read ∙ (same n ∙ e)
      where
        same : (n : ℕ) → get_or counts i n ≡ slice_index counts i
        same n = get-any counts i n 0 (let l = is.long in omega (arith, l, within))
          where
            get-any : (xs : List ℕ) (j a b : ℕ) → j < length xs → get_or xs j a ≡ get_or xs j b
            get-any [] j a b l = absurd (omega arith)
            get-any (x ∷ xs) zero a b l = refl
            get-any (x ∷ xs) (suc j) a b l = get-any xs j a b (omega arith)

    pub is-needed : nat_lt (count (is_in i own.members)) n ≡ needs rows p i
    unfolding needs
    is-needed =
        ap₂ (λ (a : Numbers) (b : ℕ). nat_lt (count (is_in i a.members)) b) at the-count
        ∙ elsewhere-counts (λ r. is_in i r.members) rows p own there

    pub has-count : count (is_in i own.members) ≤ n
    has-count =
        let s = own-counts (λ r. is_in i r.members) rows p own there in
        let e = ap (λ (z : Numbers). count (is_in i z.members)) at in
        omega (arith, s, e, the-count)

    pub room : n + count (not (is_in i own.members)) < 2 ^ 32
    room = go (is_in i own.members) refl
      where
        go : (b : Bool) → is_in i own.members ≡ b → n + count (not b) < 2 ^ 32
        go true e = let s = sum-few (λ r. is_in i r.members) rows in let f = is.few in omega (arith, s, f, the-count)
        go false e =
            let new : Numbers = record { width = 0; members = i ∷ [] } in
            let s = sum-few (λ r. is_in i r.members) (set rows p new) in
            let f = is.few in
            let u = sum-set (λ r. count (is_in i r.members)) rows p new own there in
            let o = ap (λ (z : Numbers). count (is_in i z.members)) at in
            let h = ap count e in
            let m = ap count (has-in i (i ∷ []) (inl refl)) in
            let l = length-set rows p new in
            omega (arith, s, f, u, o, h, m, l, the-count)

    pub counted-change : (new : Numbers) (k : ℕ) → new.width ≡ own.width → ((j : ℕ) → j ≢ i → is_in j new.members ≡ is_in j own.members)
        → k + count (is_in i own.members) ≡ n + count (is_in i new.members) → IsCounted width (set counts i k) (set rows p new)
    counted-change new k w others e =
        record {
          wide = λ r h. elim (has-set rows p new r h) [ inl q ↦ ap (λ (z : Numbers). z.width) q ∙ (w ∙ own-wide) | inr m ↦ is.wide r m ];
          long = length-set counts i k ∙ is.long;
          few = subst (λ z. z < 2 ^ 32) (sym (length-set rows p new)) is.few;
          counted = each;
        }
      where
        sums : (j : ℕ) → holders_of j (set rows p new) + count (is_in j own.members) ≡ holders_of j rows + count (is_in j new.members)
        sums j =
            let u = sum-set (λ r. count (is_in j r.members)) rows p new own there in
            let o = ap (λ (z : Numbers). count (is_in j z.members)) at in
            omega (arith, u, o)

        each : (j : ℕ) → slice_index (set counts i k) j ≡ holders_of j (set rows p new)
        each j = elim (cases_eq j i) [
          | inl q ↦
              let l = is.long in
              let g = get_or-set_same counts i k 0 (omega (arith, l, within)) in
              let s = sums i in
              subst (λ z. slice_index (set counts i k) z ≡ holders_of z (set rows p new)) (sym q) (omega (arith, g, s, e, the-count))
          | inr d ↦
              let g = get_or-set_other counts i j k 0 d in
              let s = sums j in
              let o = ap count (others j d) in
              g ∙ (is.counted j ∙ omega (arith, s, o))
        ]

-- a number that is put in where it was not
pub fresh-count : (n k : ℕ) (b : Bool) → k ≡ count (not b) → n + k + count b ≡ n + 1
fresh-count n k true e = omega (arith, e)
fresh-count n k false e = omega (arith, e)

-- what is read where there is something is the same by any default
pub same-read : {A : Type 0} (xs : List A) (p : ℕ) (y d : A) → y ≡ get_or xs p d → p < length xs → y ≡ get_or xs p y
same-read [] p y d e l = absurd (omega arith)
same-read (x ∷ xs) zero y d e l = e
same-read (x ∷ xs) (suc p) y d e l = same-read xs p y d e (omega arith)

-- a row that is changed twice
pub set-twice : {A : Type 0} (xs : List A) (p : ℕ) (y z : A) → set (set xs p y) p z ≡ set xs p z
set-twice [] p y z = refl
set-twice (x ∷ xs) zero y z = refl
set-twice (x ∷ xs) (suc p) y z = ap (λ zs. x ∷ zs) (set-twice xs p y z)

pub set-none : (xs : List Numbers) (p : ℕ) (y : Numbers) → y ≡ row_at xs p → set xs p y ≡ xs
set-none [] p y e = refl
set-none (x ∷ xs) zero y e = ap (λ z. z ∷ xs) e
set-none (x ∷ xs) (suc p) y e = ap (λ zs. x ∷ zs) (set-none xs p y e)

pub set-again : (rows now : List Numbers) (p : ℕ) (y : Numbers) (f : Numbers → Numbers) → p < length rows → now ≡ set rows p y → set now p (f (row_at now p)) ≡ set rows p (f y)
set-again rows now p y f l e =
    subst (λ z. set z p (f (row_at z p)) ≡ set rows p (f y)) (sym e)
    (set-twice rows p y (f (row_at (set rows p y) p)) ∙ ap (λ z. set rows p (f z)) (get_or-set_same rows p y (record { width = 0; members = [] }) l))

-- what a list has with one more
more-has : (xs : List ℕ) (i k : ℕ) → i < length xs → Has k (take i xs) ⊎ (k ≡ get_or xs i 0) → Has k (take (i + 1) xs)
more-has xs i k l (inl h) = subst (Has k) (sym (take_more xs i 0 l)) (push-old k (get_or xs i 0) (take i xs) h)
more-has xs i k l (inr q) = subst (Has k) (sym (take_more xs i 0 l)) (subst (λ z. Has z (take i xs ++ get_or xs i 0 ∷ [])) (sym q) (push-new (get_or xs i 0) (take i xs)))

module _ (r : Numbers) (rising : IsRising nat_lt r.members) where
  pub without-none : without r [] ≡ r
  without-none = ap (λ z. record { width = r.width; members = z }) (ext nat_laws (minus nat_lt r.members []) r.members (rising-minus nat_laws r.members [] rising) rising (λ k h. ((minus-iff nat_laws k r.members []).0 h).0) (λ k h. (minus-iff nat_laws k r.members []).1 (h, λ z. z)))

  pub without-more : (xs : List ℕ) (i : ℕ) → i < length xs → without (without r (take i xs)) (get_or xs i 0 ∷ []) ≡ without r (take (i + 1) xs)
  without-more xs i l = ap (λ z. record { width = r.width; members = z })
      (ext nat_laws (minus nat_lt (minus nat_lt m (take i xs)) (x ∷ [])) (minus nat_lt m (take (i + 1) xs))
      (rising-minus nat_laws (minus nat_lt m (take i xs)) (x ∷ []) (rising-minus nat_laws m (take i xs) rising)) (rising-minus nat_laws m (take (i + 1) xs) rising) to from)
    where
      m : List ℕ
      m = r.members

      x : ℕ
      x = get_or xs i 0

      to : (k : ℕ) → Has k (minus nat_lt (minus nat_lt m (take i xs)) (x ∷ [])) → Has k (minus nat_lt m (take (i + 1) xs))
      to k h =
          let a = (minus-iff nat_laws k (minus nat_lt m (take i xs)) (x ∷ [])).0 h in
          let b = (minus-iff nat_laws k m (take i xs)).0 a.0 in
          (minus-iff nat_laws k m (take (i + 1) xs)).1 (b.0, λ z. elim (has-more xs i k l z) [ inl n ↦ b.1 n | inr q ↦ a.1 (inl q) ])

      from : (k : ℕ) → Has k (minus nat_lt m (take (i + 1) xs)) → Has k (minus nat_lt (minus nat_lt m (take i xs)) (x ∷ []))
      from k h =
          let a = (minus-iff nat_laws k m (take (i + 1) xs)).0 h in
          (minus-iff nat_laws k (minus nat_lt m (take i xs)) (x ∷ [])).1
          ((minus-iff nat_laws k m (take i xs)).1 (a.0, λ z. a.1 (more-has xs i k l (inl z))), λ z. elim z [ inl q ↦ a.1 (more-has xs i k l (inr q)) | inr n ↦ n ])

  pub with-more : (xs : List ℕ) (i : ℕ) → i < length xs → with (with r (take i xs)) (get_or xs i 0 ∷ []) ≡ with r (take (i + 1) xs)
  with-more xs i l = ap (λ z. record { width = r.width; members = z })
      (ext nat_laws (put_in nat_lt x (union nat_lt (take i xs) m)) (union nat_lt (take (i + 1) xs) m)
      (rising-put_in nat_laws x (union nat_lt (take i xs) m) (rising-union nat_laws (take i xs) m rising)) (rising-union nat_laws (take (i + 1) xs) m rising) to from)
    where
      m : List ℕ
      m = r.members

      x : ℕ
      x = get_or xs i 0

      to : (k : ℕ) → Has k (put_in nat_lt x (union nat_lt (take i xs) m)) → Has k (union nat_lt (take (i + 1) xs) m)
      to k h = (has-union nat_laws k (take (i + 1) xs) m).1 (elim ((has-put_in nat_laws x k (union nat_lt (take i xs) m)).0 h) [
        | inl q ↦ inl (more-has xs i k l (inr q))
        | inr u ↦ elim ((has-union nat_laws k (take i xs) m).0 u) [ inl n ↦ inl (more-has xs i k l (inl n)) | inr n ↦ inr n ]
      ])

      from : (k : ℕ) → Has k (union nat_lt (take (i + 1) xs) m) → Has k (put_in nat_lt x (union nat_lt (take i xs) m))
      from k h = (has-put_in nat_laws x k (union nat_lt (take i xs) m)).1 (elim ((has-union nat_laws k (take (i + 1) xs) m).0 h) [
        | inl n ↦ elim (has-more xs i k l n) [ inl z ↦ inr ((has-union nat_laws k (take i xs) m).1 (inl z)) | inr q ↦ inl q ]
        | inr n ↦ inr ((has-union nat_laws k (take i xs) m).1 (inr n))
      ])

-- nothing is held yet
pub holders-none : (i n w : ℕ) → holders_of i (replicate n (record { width = w; members = [] })) ≡ 0
holders-none i zero w = refl
holders-none i (suc n) w = zero-add (holders_of i (replicate n (record { width = w; members = [] }))) ∙ holders-none i n w

has-replicate : {A : Type 0} (n : ℕ) (x y : A) → Has y (replicate n x) → y ≡ x
has-replicate zero x y h = absurd h
has-replicate (suc n) x y (inl q) = q
has-replicate (suc n) x y (inr h) = has-replicate n x y h

index-replicate : (n i : ℕ) → slice_index (replicate n 0) i ≡ 0
index-replicate zero i = refl
index-replicate (suc n) zero = refl
index-replicate (suc n) (suc i) = index-replicate n i

pub counted-none : (w n : ℕ) (counts : List ℕ) (rows : List Numbers) → n < 2 ^ 32 → counts ≡ replicate w 0 → rows ≡ replicate n (record { width = w; members = [] }) → IsCounted w counts rows
counted-none w n counts rows l e f =
    record {
      wide = λ r h. ap (λ (z : Numbers). z.width) (has-replicate n (record { width = w; members = [] }) r (subst (Has r) f h));
      long = ap length e ∙ length-replicate w 0;
      few = subst (λ z. z < 2 ^ 32) (sym (ap length f ∙ length-replicate n (record { width = w; members = [] }))) l;
      counted = λ i. ap (λ z. slice_index z i) e ∙ (index-replicate w i ∙ sym (ap (holders_of i) f ∙ holders-none i n w));
    }

-- what is held elsewhere is held
elsewhere-some : (t : Numbers → Bool) (xs : List Numbers) (p : ℕ) → elsewhere t p xs ≡ true → 0 < sum_over (λ x. count (t x)) xs
elsewhere-some t [] p e = absurd cc
elsewhere-some t (x ∷ xs) zero e = let a = ltb-true 0 (sum_over (λ x. count (t x)) xs) (any-counts t xs ∙ e) in omega (arith, a)
elsewhere-some t (x ∷ xs) (suc p) e = go (t x) refl (elsewhere-some t xs p)
  where
    go : (b : Bool) → t x ≡ b → (elsewhere t p xs ≡ true → 0 < sum_over (λ x. count (t x)) xs) → 0 < count (t x) + sum_over (λ x. count (t x)) xs
    go true q f = let s = ap count q in omega (arith, s)
    go false q f = let a = f (subst (λ b. (b || elsewhere t p xs) ≡ true) q e) in omega (arith, a)

past : (xs : List ℕ) (k : ℕ) → length xs ≤ k → slice_index xs k ≡ 0
past [] k l = refl
past (x ∷ xs) zero l = absurd (omega arith)
past (x ∷ xs) (suc k) l = past xs k (omega arith)

pub needs-within : {width : ℕ} {counts : List ℕ} {rows : List Numbers} → IsCounted width counts rows → (p k : ℕ) → needs rows p k ≡ true → k < width
unfolding needs
needs-within {width} {counts} {rows} is p k e = elim (cases_lt k width) [
  | inl l ↦ l
  | inr n ↦
      let a = elsewhere-some (λ r. is_in k r.members) rows p e in
      let b = is.counted k in
      let l = is.long in
      let z = past counts k (omega (arith, l, n)) in
      absurd (omega (arith, a, b, z))
]

-- where nothing is held, nothing is needed
elsewhere-none : (t : Numbers → Bool) (xs : List Numbers) (p : ℕ) → ((x : Numbers) → Has x xs → t x ≡ false) → elsewhere t p xs ≡ false
elsewhere-none t xs p f = go (elsewhere t p xs) refl
  where
    zeros : (ys : List Numbers) → ((x : Numbers) → Has x ys → t x ≡ false) → sum_over (λ x. count (t x)) ys ≡ 0
    zeros [] g = refl
    zeros (y ∷ ys) g = let a = ap count (g y (inl refl)) in let b = zeros ys (λ x h. g x (inr h)) in omega (arith, a, b)

    go : (b : Bool) → elsewhere t p xs ≡ b → b ≡ false
    go true e = absurd (omega (arith, elsewhere-some t xs p e, zeros xs f))
    go false e = refl

pub needs-none : (n w : ℕ) (rows : List Numbers) (p k : ℕ) → rows ≡ replicate n (record { width = w; members = [] }) → needs rows p k ≡ false
unfolding needs
needs-none n w rows p k e =
    elsewhere-none (λ r. is_in k r.members) rows p (λ x h. ap (λ (z : Numbers). is_in k z.members) (has-replicate n (record { width = w; members = [] }) x (subst (Has x) e h)))

pub get-replicate : {A : Type 0} (n p : ℕ) (x y : A) → slice_get (replicate n x) p ≡ Some y → y ≡ x
get-replicate zero p x y e = absurd cc
get-replicate (suc n) zero x y e = sym (same_Some x y e)
get-replicate (suc n) (suc p) x y e = get-replicate n p x y e
