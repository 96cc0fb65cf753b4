-- What the members of a row are, by the bits of its words.
use Rattle.std.proofs.Common.{◌≡◌, ◌≢◌, ◌⊎◌, inl, inr, ℕ, ◌+◌, ◌-◌, ◌/◌, ◌^◌, ◌<◌, ◌≤◌, ◌==◌, min, max, nat_lt, Bool, true, false, List, [], ◌∷◌, ◌++◌, length, filter, replicate, Option, Some, None, IfSome, IfNone, refl, sym, ap, subst, ◌∙◌, arith, eqb-true, eq-eqb}
use Rattle.std.proofs.lemmas.List.{length-replicate}
use Rattle.std.proofs.lemmas.Bool.{cases_eq, cases_lt, ltb-true, lt-ltb, false_from_ne_true}
use Rattle.base.specs.Sets.{Has, IsRising, put_in, union, minus}
use Rattle.base.proofs.Roots.{filter-iff}
use Rattle.base.proofs.Sets.{has-put_in, rising-put_in, has-union, rising-union, minus-iff, rising-minus, rising-filter, member-iff, ext}
use Rattle.base_bits.specs.Words.{bit, members_of}
use Rattle.base_bits.specs.Rows.{Numbers, is_in, common, IsSet, IsKept}
use Rattle.base_bits.proofs.Bits.{bit-small, zero-bits}
use Rattle.base_bits.proofs.Passing.{nat_laws, has-passing, passing-has, rising-passing, passing-is, has-push, push-old, push-new, rising-push}

-- the words and the width of a row, with what contracts see of it
pub record Shows (words : List ℕ) (width : ℕ) (s : Numbers) : Type 0 where
  pub kept : IsKept words width
  pub view : record { width = width; members = members_of words width } ≡ s

module _ {words : List ℕ} {width : ℕ} {s : Numbers} (is : Shows words width s) where
  pub members-eq : members_of words width ≡ s.members
  members-eq = ap (λ (z : Numbers). z.members) is.view

  pub width-eq : width ≡ s.width
  width-eq = ap (λ (z : Numbers). z.width) is.view

  pub has-bit : (i : ℕ) → Has i s.members → bit words i ≡ 1
  has-bit i h = eqb-true (bit words i) 1 (has-passing (λ j. bit words j == 1) width i (subst (Has i) (sym members-eq) h)).1

  pub bit-has : (i : ℕ) → bit words i ≡ 1 → Has i s.members
  bit-has i e = subst (Has i) members-eq (passing-has (λ j. bit words j == 1) width i (is.kept.within i e) (eq-eqb (bit words i) 1 e))

  pub no-bit : (i : ℕ) → (Has i s.members → ⊥) → bit words i ≡ 0
  no-bit i n = elim (cases_eq (bit words i) 1) [ inl e ↦ absurd (n (bit-has i e)) | inr d ↦ omega (arith, bit-small words i, d) ]

  pub is-set : IsSet s
  is-set =
      record {
        rising = subst (IsRising nat_lt) members-eq (rising-passing (λ j. bit words j == 1) width);
        within = λ i h. subst (λ z. i < z) width-eq (is.kept.within i (has-bit i h));
        fits = subst (λ z. z < 2 ^ 32) width-eq is.kept.fits;
      }

  pub has-is_in : (i : ℕ) → (bit words i == 1) ≡ is_in i s.members
  has-is_in i = go (is_in i s.members) refl
    where
      go : (b : Bool) → is_in i s.members ≡ b → (bit words i == 1) ≡ b
      go true e = eq-eqb (bit words i) 1 (has-bit i ((member-iff nat_laws i s.members).0 e))
      go false e = false_from_ne_true (bit words i == 1) (λ t. absurd (grind (arith, (member-iff nat_laws i s.members).1 (bit-has i (eqb-true (bit words i) 1 t)), e)))

  -- what the members of new words are
  pub members-are : (new xs : List ℕ) → IsRising nat_lt xs → ((i : ℕ) → bit new i ≡ 1 → Has i xs) → ((i : ℕ) → Has i xs → (i < width) × (bit new i ≡ 1)) → members_of new width ≡ xs
  members-are new xs r to from =
      passing-is (λ j. bit new j == 1) width xs r (λ i e. to i (eqb-true (bit new i) 1 e)) (λ i h. let p = from i h in (p.0, eq-eqb (bit new i) 1 p.1))

  pub put-members : (new : List ℕ) (i : ℕ) → i < s.width → bit new i ≡ 1 → ((k : ℕ) → k ≢ i → bit new k ≡ bit words k) → members_of new width ≡ put_in nat_lt i s.members
  put-members new i l there others = members-are new (put_in nat_lt i s.members) (rising-put_in nat_laws i s.members is-set.rising) to from
    where
      to : (k : ℕ) → bit new k ≡ 1 → Has k (put_in nat_lt i s.members)
      to k e = (has-put_in nat_laws i k s.members).1 (elim (cases_eq k i) [ inl q ↦ inl q | inr n ↦ inr (bit-has k (sym (others k n) ∙ e)) ])

      from : (k : ℕ) → Has k (put_in nat_lt i s.members) → (k < width) × (bit new k ≡ 1)
      from k h = elim ((has-put_in nat_laws i k s.members).0 h) [
        | inl q ↦ let w = width-eq in (omega arith, ap (bit new) q ∙ there)
        | inr m ↦
            let b = has-bit k m in
            (is.kept.within k b, elim (cases_eq k i) [ inl q ↦ ap (bit new) q ∙ there | inr n ↦ others k n ∙ b ])
      ]

  pub take-members : (new : List ℕ) (i : ℕ) → bit new i ≡ 0 → ((k : ℕ) → k ≢ i → bit new k ≡ bit words k) → members_of new width ≡ minus nat_lt s.members (i ∷ [])
  take-members new i gone others = members-are new (minus nat_lt s.members (i ∷ [])) (rising-minus nat_laws s.members (i ∷ []) is-set.rising) to from
    where
      to : (k : ℕ) → bit new k ≡ 1 → Has k (minus nat_lt s.members (i ∷ []))
      to k e = elim (cases_eq k i) [
        | inl q ↦ absurd (omega (arith, ap (bit new) q, gone, e))
        | inr n ↦ (minus-iff nat_laws k s.members (i ∷ [])).1 (bit-has k (sym (others k n) ∙ e), λ m. elim m [ inl q ↦ n q | inr z ↦ z ])
      ]

      from : (k : ℕ) → Has k (minus nat_lt s.members (i ∷ [])) → (k < width) × (bit new k ≡ 1)
      from k h =
          let r = (minus-iff nat_laws k s.members (i ∷ [])).0 h in
          let b = has-bit k r.0 in
          (is.kept.within k b, others k (λ q. r.1 (inl q)) ∙ b)

  pub kept-by : (new : List ℕ) → length new ≡ length words → ((i : ℕ) → bit new i ≡ 1 → (bit words i ≡ 1) ⊎ (i < width)) → IsKept new width
  kept-by new long less =
      record {
        long = long ∙ is.kept.long;
        fits = is.kept.fits;
        within = λ i e. elim (less i e) [ inl b ↦ is.kept.within i b | inr l ↦ l ];
      }

  pub no-members : (new : List ℕ) → ((k : ℕ) → bit new k ≡ 0) → members_of new width ≡ []
  no-members new none = members-are new [] tt (λ i e. absurd (omega (arith, none i))) (λ i h. absurd h)

module _ {words : List ℕ} {width : ℕ} {s : Numbers} (is : Shows words width s) {others : List ℕ} {wide : ℕ} {t : Numbers} (that : Shows others wide t) (same : t.width ≡ s.width) where
  within : (i : ℕ) → Has i t.members → i < width
  within i h = let l = (is-set that).within i h in omega (arith, l, width-eq is, same)

  pub union-members : (new : List ℕ) → ((k : ℕ) → bit new k ≡ max (bit words k) (bit others k)) → members_of new width ≡ union nat_lt t.members s.members
  union-members new bits = members-are is new (union nat_lt t.members s.members) (rising-union nat_laws t.members s.members (is-set is).rising) to from
    where
      to : (k : ℕ) → bit new k ≡ 1 → Has k (union nat_lt t.members s.members)
      to k e = (has-union nat_laws k t.members s.members).1 (elim (cases_eq (bit others k) 1) [
        | inl q ↦ inl (bit-has that k q)
        | inr n ↦ inr (bit-has is k (omega (arith, bits k, bit-small others k)))
      ])

      from : (k : ℕ) → Has k (union nat_lt t.members s.members) → (k < width) × (bit new k ≡ 1)
      from k h = elim ((has-union nat_laws k t.members s.members).0 h) [
        | inl m ↦ (within k m, omega (arith, bits k, has-bit that k m, bit-small words k))
        | inr m ↦ let b = has-bit is k m in (is.kept.within k b, omega (arith, bits k, b, bit-small others k))
      ]

  pub minus-members : (new : List ℕ) → ((k : ℕ) → bit new k ≡ bit words k - bit others k) → members_of new width ≡ minus nat_lt s.members t.members
  minus-members new bits = members-are is new (minus nat_lt s.members t.members) (rising-minus nat_laws s.members t.members (is-set is).rising) to from
    where
      to : (k : ℕ) → bit new k ≡ 1 → Has k (minus nat_lt s.members t.members)
      to k e = (minus-iff nat_laws k s.members t.members).1 (bit-has is k (omega (arith, bits k, bit-small words k)), λ m. absurd (omega (arith, bits k, bit-small words k, has-bit that k m)))

      from : (k : ℕ) → Has k (minus nat_lt s.members t.members) → (k < width) × (bit new k ≡ 1)
      from k h =
          let r = (minus-iff nat_laws k s.members t.members).0 h in
          let b = has-bit is k r.0 in
          (is.kept.within k b, omega (arith, bits k, b, no-bit that k r.1))

  pub common-members : (new : List ℕ) → ((k : ℕ) → bit new k ≡ min (bit words k) (bit others k)) → members_of new width ≡ common s.members t.members
  common-members new bits = members-are is new (common s.members t.members) (rising-filter nat_laws (λ i. is_in i t.members) s.members (is-set is).rising) to from
    where
      to : (k : ℕ) → bit new k ≡ 1 → Has k (common s.members t.members)
      to k e =
          (filter-iff (λ i. is_in i t.members) k s.members).1
          (bit-has is k (omega (arith, bits k, bit-small words k, bit-small others k)), (member-iff nat_laws k t.members).1 (bit-has that k (omega (arith, bits k, bit-small words k, bit-small others k))))

      from : (k : ℕ) → Has k (common s.members t.members) → (k < width) × (bit new k ≡ 1)
      from k h =
          let r = (filter-iff (λ i. is_in i t.members) k s.members).0 h in
          let b = has-bit is k r.0 in
          (is.kept.within k b, omega (arith, bits k, b, has-bit that k ((member-iff nat_laws k t.members).0 r.1)))

  -- no number that both have, but where the words share a bit
  pub apart : (k : ℕ) → min (bit words k) (bit others k) ≡ 0 → Has k s.members → Has k t.members → ⊥
  apart k e h m = absurd (omega (arith, e, has-bit is k h, has-bit that k m))

  pub first-some : (from : ℕ) (o : Option ℕ) → IfSome o (λ i. (from ≤ i) × (bit words i ≡ 1) × (bit others i ≡ 1)) → IfSome o (λ i. (from ≤ i) × Has i s.members × Has i t.members)
  first-some from None h = tt
  first-some from (Some i) h = (h.0, bit-has is i h.1, bit-has that i h.2)

  pub first-least : (from : ℕ) (o : Option ℕ) → IfSome o (λ i. (k : ℕ) → from ≤ k → k < i → min (bit words k) (bit others k) ≡ 0) → IfSome o (λ i. (k : ℕ) → from ≤ k → Has k s.members → Has k t.members → i ≤ k)
  first-least from None h = tt
  first-least from (Some i) h = λ k l m n. elim (cases_lt k i) [ inl b ↦ absurd (apart k (h k l b) m n) | inr b ↦ b ]

  pub first-none : (from : ℕ) (o : Option ℕ) → IfNone o ((k : ℕ) → from ≤ k → min (bit words k) (bit others k) ≡ 0) → IfNone o ((k : ℕ) → Has k s.members → Has k t.members → k < from)
  first-none from None h = λ k m n. elim (cases_lt k from) [ inl b ↦ b | inr b ↦ absurd (apart k (h k b) m n) ]
  first-none from (Some i) h = tt

module _ {words : List ℕ} {width : ℕ} {s : Numbers} (is : Shows words width s) {others : List ℕ} {wide : ℕ} {t : Numbers} (that : Shows others wide t) where
  -- the same bits are the same members
  pub same-members : ((k : ℕ) → bit words k ≡ bit others k) → s.members ≡ t.members
  same-members bits =
      ext nat_laws s.members t.members (is-set is).rising (is-set that).rising (λ k h. bit-has that k (sym (bits k) ∙ has-bit is k h)) (λ k h. bit-has is k (bits k ∙ has-bit that k h))

  pub members-same : s.members ≡ t.members → (k : ℕ) → bit words k ≡ bit others k
  members-same e k = elim (cases_eq (bit words k) 1) [
    | inl b ↦ b ∙ sym (has-bit that k (subst (Has k) e (bit-has is k b)))
    | inr n ↦ omega (arith, bit-small words k, n, no-bit that k (λ h. n (has-bit is k (subst (Has k) (sym e) h))))
  ]

-- of a set and itself
module _ (xs : List ℕ) (from : ℕ) where
  pub once-some : (o : Option ℕ) → IfSome o (λ i. (from ≤ i) × Has i xs × Has i xs) → IfSome o (λ i. (from ≤ i) × Has i xs)
  once-some None h = tt
  once-some (Some i) h = (h.0, h.1)

  pub once-least : (o : Option ℕ) → IfSome o (λ i. (k : ℕ) → from ≤ k → Has k xs → Has k xs → i ≤ k) → IfSome o (λ i. (k : ℕ) → from ≤ k → Has k xs → i ≤ k)
  once-least None h = tt
  once-least (Some i) h = λ k l m. h k l m m

  pub once-none : (o : Option ℕ) → IfNone o ((k : ℕ) → Has k xs → Has k xs → k < from) → IfNone o ((k : ℕ) → Has k xs → k < from)
  once-none None h = λ k m. h k m m
  once-none (Some i) h = tt

module _ (xs : List ℕ) (rising : IsRising nat_lt xs) where
  -- the members below a number, and then the least one from there on
  pub below-more : (at i : ℕ) → Has i xs → at ≤ i → ((k : ℕ) → at ≤ k → Has k xs → i ≤ k) → filter (λ k. nat_lt k (i + 1)) xs ≡ filter (λ k. nat_lt k at) xs ++ i ∷ []
  below-more at i h l least =
      ext nat_laws (filter (λ k. nat_lt k (i + 1)) xs) (filter (λ k. nat_lt k at) xs ++ i ∷ []) (rising-filter nat_laws (λ k. nat_lt k (i + 1)) xs rising)
      (rising-push i (filter (λ k. nat_lt k at) xs) (rising-filter nat_laws (λ k. nat_lt k at) xs rising) small) to from
    where
      small : (k : ℕ) → Has k (filter (λ k. nat_lt k at) xs) → k < i
      small k m = let r = (filter-iff (λ k. nat_lt k at) k xs).0 m in omega (arith, ltb-true k at r.1)

      to : (k : ℕ) → Has k (filter (λ k. nat_lt k (i + 1)) xs) → Has k (filter (λ k. nat_lt k at) xs ++ i ∷ [])
      to k m =
          let r = (filter-iff (λ k. nat_lt k (i + 1)) k xs).0 m in
          let b = ltb-true k (i + 1) r.1 in
          elim (cases_lt k at) [
            | inl n ↦ push-old k i (filter (λ k. nat_lt k at) xs) ((filter-iff (λ k. nat_lt k at) k xs).1 (r.0, lt-ltb k at n))
            | inr n ↦
                let e : k ≡ i = omega (arith, least k n r.0) in
                subst (λ z. Has z (filter (λ k. nat_lt k at) xs ++ i ∷ [])) (sym e) (push-new i (filter (λ k. nat_lt k at) xs))
          ]

      from : (k : ℕ) → Has k (filter (λ k. nat_lt k at) xs ++ i ∷ []) → Has k (filter (λ k. nat_lt k (i + 1)) xs)
      from k m = elim (has-push k i (filter (λ k. nat_lt k at) xs) m) [
        | inl n ↦
            let r = (filter-iff (λ k. nat_lt k at) k xs).0 n in
            (filter-iff (λ k. nat_lt k (i + 1)) k xs).1 (r.0, lt-ltb k (i + 1) (omega (arith, ltb-true k at r.1)))
        | inr q ↦ (filter-iff (λ k. nat_lt k (i + 1)) k xs).1 (subst (λ z. Has z xs) (sym q) h, lt-ltb k (i + 1) (omega arith))
      ]

  pub below-all : (at : ℕ) → ((k : ℕ) → Has k xs → k < at) → filter (λ k. nat_lt k at) xs ≡ xs
  below-all at small =
      ext nat_laws (filter (λ k. nat_lt k at) xs) xs (rising-filter nat_laws (λ k. nat_lt k at) xs rising) rising (λ k m. ((filter-iff (λ k. nat_lt k at) k xs).0 m).0)
      (λ k m. (filter-iff (λ k. nat_lt k at) k xs).1 (m, lt-ltb k at (small k m)))

  pub below-none : filter (λ k. nat_lt k 0) xs ≡ []
  below-none =
      ext nat_laws (filter (λ k. nat_lt k 0) xs) [] (rising-filter nat_laws (λ k. nat_lt k 0) xs rising) tt
      (λ k m. absurd (omega (arith, ltb-true k 0 ((filter-iff (λ k. nat_lt k 0) k xs).0 m).1))) (λ k m. absurd m)

-- the words of no members
pub zeros-kept : (count width : ℕ) → count ≡ (width + 63) / 64 → width < 2 ^ 32 → IsKept (replicate count 0) width
zeros-kept count width e l = record { long = length-replicate {A = ℕ} count 0 ∙ e; fits = l; within = λ i b. absurd (omega (arith, zero-bits count i, b)) }

pub zeros-none : (count width : ℕ) → members_of (replicate count 0) width ≡ []
zeros-none count width = passing-is (λ i. bit (replicate count 0) i == 1) width [] tt (λ i e. absurd (omega (arith, eqb-true (bit (replicate count 0) i) 1 e, zero-bits count i))) (λ i h. absurd h)
