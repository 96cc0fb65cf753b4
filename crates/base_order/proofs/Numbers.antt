-- Covering by numbers keeps the laws, and its roots are told by the rows of what stands over each.
use Rattle.std.proofs.Common.{◌≡◌, ◌⊎◌, inl, inr, ℕ, ◌+◌, ◌<◌, ◌≤◌, nat_lt, Bool, true, false, not, cond, List, length, take, get_or, filter, slice_get, Option, Some, None, refl, sym, ap, subst, ◌∙◌, arith}
use Rattle.std.proofs.lemmas.List.{take_more}
use Rattle.std.proofs.lemmas.Bool.{cases_lt, cases_Bool, false_from_ne_true, ltb-true, lt-ltb}
use Rattle.base.specs.Laws.{CoverLaws}
use Rattle.base.specs.Sets.{Has, IsRising, put_in, yields, is_root}
use Rattle.base.proofs.Roots.{filter-iff, all_pass-from, all_pass-to}
use Rattle.base.proofs.Sets.{ext, rising-filter}
use Rattle.base_bits.specs.Words.{passing}
use Rattle.base_bits.specs.Rows.{Numbers}
use Rattle.base_bits.proofs.Passing.{nat_laws, has-passing, passing-has, put-last, has-push}
use Rattle.base_bits.proofs.Rows.{below-more}
use Rattle.base_order.specs.Order.{both, covers_at, stands_at, covered_row, above_row}

module _ {T : Type 0} {covers before : T → T → Bool} (laws : CoverLaws covers before) where
  both-reflexive : (a : Option T) → both covers a a ≡ true
  both-reflexive None = refl
  both-reflexive (Some x) = laws.reflexive x

  both-transitive : (a b c : Option T) → both covers a b ≡ true → both covers b c ≡ true → both covers a c ≡ true
  both-transitive None None c e f = f
  both-transitive None (Some y) c e f = absurd cc
  both-transitive (Some x) None c e f = absurd cc
  both-transitive (Some x) (Some y) None e f = absurd cc
  both-transitive (Some x) (Some y) (Some z) e f = laws.transitive x y z e f

  pub number_laws : (items : List T) → CoverLaws (covers_at covers items) nat_lt
  unfolding covers_at
  number_laws items = record {
    reflexive = λ i. both-reflexive (slice_get items i);
    transitive = λ i j k e f. both-transitive (slice_get items i) (slice_get items j) (slice_get items k) e f;
    irreflexive = nat_laws.irreflexive;
    chain = nat_laws.chain;
    total = nat_laws.total;
  }

module _ {T : Type 0} (covers : T → T → Bool) (items : List T) (need : List ℕ) (within : (i : ℕ) → Has i need → i < length items) (i : ℕ) where
  -- what has nothing of the need in its row is free, and nothing else is
  pub free : ((j : ℕ) → Has j (passing (λ j. stands_at covers items j i) (length items)) → Has j need → ⊥) → is_root (covers_at covers items) nat_lt need i ≡ true
  free none = all_pass-from (λ g. yields (covers_at covers items) nat_lt g i) need each
    where
      each : (g : ℕ) → Has g need → yields (covers_at covers items) nat_lt g i ≡ true
      each g h = elim (cases_Bool (yields (covers_at covers items) nat_lt g i)) [
        | inl e ↦ e
        | inr e ↦ absurd (none g (passing-has (λ j. stands_at covers items j i) (length items) g (within g h) (ap not e)) h)
      ]

  pub held : (j : ℕ) → Has j (passing (λ j. stands_at covers items j i) (length items)) → Has j need → is_root (covers_at covers items) nat_lt need i ≡ false
  held j h m = false_from_ne_true (is_root (covers_at covers items) nat_lt need i) no
    where
      no : is_root (covers_at covers items) nat_lt need i ≡ true → ⊥
      no e =
          let s = (has-passing (λ j. stands_at covers items j i) (length items) j h).1 in
          let y = all_pass-to (λ g. yields (covers_at covers items) nat_lt g i) need e j m in
          absurd (grind (arith, s, y))

-- the roots below a number, and the next one where it is a root
module _ (p : ℕ → Bool) (xs : List ℕ) (rising : IsRising nat_lt xs) (at i : ℕ) (h : Has i xs) (l : at ≤ i) (least : (k : ℕ) → at ≤ k → Has k xs → i ≤ k) where
  rs : IsRising nat_lt (filter p xs)
  rs = rising-filter nat_laws p xs rising

  below : (k : ℕ) → Has k (filter (λ k. nat_lt k at) (filter p xs)) → k < i
  below k m = let b = ltb-true k at ((filter-iff (λ k. nat_lt k at) k (filter p xs)).0 m).1 in omega arith

  more : p i ≡ true → put_in nat_lt i (filter (λ k. nat_lt k at) (filter p xs)) ≡ filter (λ k. nat_lt k (i + 1)) (filter p xs)
  more e =
      put-last i (filter (λ k. nat_lt k at) (filter p xs)) below
      ∙ sym (below-more (filter p xs) rs at i ((filter-iff p i xs).1 (h, e)) l (λ k m n. least k m ((filter-iff p k xs).0 n).0))

  skip : p i ≡ false → filter (λ k. nat_lt k at) (filter p xs) ≡ filter (λ k. nat_lt k (i + 1)) (filter p xs)
  skip e =
      ext nat_laws (filter (λ k. nat_lt k at) (filter p xs)) (filter (λ k. nat_lt k (i + 1)) (filter p xs))
      (rising-filter nat_laws (λ k. nat_lt k at) (filter p xs) rs) (rising-filter nat_laws (λ k. nat_lt k (i + 1)) (filter p xs) rs) to from
    where
      to : (k : ℕ) → Has k (filter (λ k. nat_lt k at) (filter p xs)) → Has k (filter (λ k. nat_lt k (i + 1)) (filter p xs))
      to k m =
          let r = (filter-iff (λ k. nat_lt k at) k (filter p xs)).0 m in
          (filter-iff (λ k. nat_lt k (i + 1)) k (filter p xs)).1 (r.0, lt-ltb k (i + 1) (omega (arith, ltb-true k at r.1)))

      from : (k : ℕ) → Has k (filter (λ k. nat_lt k (i + 1)) (filter p xs)) → Has k (filter (λ k. nat_lt k at) (filter p xs))
      from k m =
          let r = (filter-iff (λ k. nat_lt k (i + 1)) k (filter p xs)).0 m in
          let b = ltb-true k (i + 1) r.1 in
          let q = (filter-iff p k xs).0 r.0 in
          elim (cases_lt k at) [
            | inl n ↦ (filter-iff (λ k. nat_lt k at) k (filter p xs)).1 (r.0, lt-ltb k at n)
            | inr n ↦
                let s : k ≡ i = omega (arith, least k n q.0) in
                absurd (grind (arith, sym q.1 ∙ (ap p s ∙ e)))
          ]

  pub roots-step : (holds : Bool) (into : List ℕ) → into ≡ filter (λ k. nat_lt k at) (filter p xs) → holds ≡ p i → cond holds (put_in nat_lt i into) into ≡ filter (λ k. nat_lt k (i + 1)) (filter p xs)
  roots-step true into q e = ap (put_in nat_lt i) q ∙ more (sym e)
  roots-step false into q e = q ∙ skip (sym e)

module _ {T : Type 0} (covers : T → T → Bool) (items : List T) where
  -- what a row answers of a need tells whether the item is free
  pub free-test : (need : List ℕ) → ((i : ℕ) → Has i need → i < length items) → (i : ℕ) (b : Bool) (row : Numbers) → row ≡ above_row covers items i
      → (b ≡ true → (j : ℕ) × Has j row.members × Has j need) → (b ≡ false → (j : ℕ) → Has j row.members → Has j need → ⊥) → not b ≡ is_root (covers_at covers items) nat_lt need i
  free-test need within i true row e f g =
      let r = f refl in
      sym (held covers items need within i r.0 (subst (λ (z : Numbers). Has r.0 z.members) e r.1) r.2)
  free-test need within i false row e f g = sym (free covers items need within i (λ j h m. g refl j (subst (λ (z : Numbers). Has j z.members) (sym e) h) m))

  pub has-covered : (c : ℕ) (row : Numbers) → row ≡ covered_row covers items c → (k : ℕ) → k < length items → covers_at covers items c k ≡ true → Has k row.members
  has-covered c row e k l h = subst (λ (z : Numbers). Has k z.members) (sym e) (passing-has (λ j. covers_at covers items c j) (length items) k l h)

-- one more of the numbers of a list
pub has-more : (xs : List ℕ) (i k : ℕ) → i < length xs → Has k (take (i + 1) xs) → Has k (take i xs) ⊎ (k ≡ get_or xs i 0)
has-more xs i k l h = has-push k (get_or xs i 0) (take i xs) (subst (Has k) (take_more xs i 0 l) h)
