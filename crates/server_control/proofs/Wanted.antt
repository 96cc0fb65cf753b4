-- Lemmas on rows that are united, and on what they offer to a link.
use Rattle.std.proofs.Common.{◌≡◌, inl, inr, ℕ, zero, suc, ◌<◌, ◌≤◌, ◌+◌, nat_lt, Bool, true, false, List, [], ◌∷◌, length, map, get_or, slice_get, Some, refl, sym, ap, subst, ◌∙◌, arith}
use Rattle.std.specs.List.{list_any}
use Rattle.std.proofs.lemmas.Bool.{cases_lt}
use Rattle.std.proofs.lemmas.Option.{slice_get-get_or, get_or_from_slice_get, same_Some, slice_get_within}
use Rattle.base.specs.Laws.{CoverLaws}
use Rattle.base.specs.Sets.{Has, member, union}
use Rattle.base.proofs.Sets.{has-union, member-iff, has-get, any-from, any-some}
use Rattle.base_bits.specs.Rows.{Numbers}
use Rattle.base_bits.proofs.Passing.{nat_laws, has-passing, passing-has}
use Rattle.base_order.specs.Order.{picked}
use Rattle.filter_constraints.specs.Constraint.{ConstraintParts}
use Rattle.filter_types.specs.Cover.{overlaps}
use Rattle.filter_text.specs.Messages.{Lists}
use Rattle.server_stock.proofs.Shown.{picked-has, has-picked}
use Rattle.net_tables.specs.Related.{overlaps_in, overlap_row, overlap_rows}
use Rattle.server_control.specs.Offering.{row_of, IsUnion}
use Rattle.std.specs.Cmp.{both_ways}

-- one row more
pub unite-from : (held : List ℕ) (rows : List Numbers) (a : ℕ) (row new other : List ℕ) → Has a held → other ≡ (row_of rows a).members → new ≡ union nat_lt other row
    → ((k : ℕ) → Has k row → (a : ℕ) × Has a held × Has k (row_of rows a).members) → (k : ℕ) → Has k new → (a : ℕ) × Has a held × Has k (row_of rows a).members
unite-from held rows a row new other h o e from k m = elim ((has-union nat_laws k other row).0 (subst (Has k) e m)) [
  | inl x ↦ (a, h, subst (Has k) o x)
  | inr x ↦ from k x
]

pub unite-to : (held : List ℕ) (rows : List Numbers) (at a : ℕ) (row new other : List ℕ) → at ≤ a → other ≡ (row_of rows a).members → new ≡ union nat_lt other row
    → ((b : ℕ) → at ≤ b → Has b held → a ≤ b) → ((b k : ℕ) → b < at → Has b held → Has k (row_of rows b).members → Has k row)
    → (b k : ℕ) → b < a + 1 → Has b held → Has k (row_of rows b).members → Has k new
unite-to held rows at a row new other l o e least to b k m h x = subst (Has k) (sym e) ((has-union nat_laws k other row).1 (elim (cases_lt b at) [
  | inl n ↦ inr (to b k n h x)
  | inr n ↦
      let q : b ≡ a = omega (arith, m, least b n h) in
      inl (subst (Has k) (sym o) (subst (λ z. Has k (row_of rows z).members) q x))
]))

map-at : {A B : Type 0} (f : A → B) (xs : List A) (p : ℕ) (x : A) (d : B) → slice_get xs p ≡ Some x → get_or (map f xs) p d ≡ f x
map-at f [] p x d e = absurd cc
map-at f (y ∷ ys) zero x d e = ap f (same_Some y x e)
map-at f (y ∷ ys) (suc p) x d e = map-at f ys p x d e

none-past : (rows : List Numbers) (a k : ℕ) → Has k (row_of rows a).members → a < length rows
none-past [] a k h = absurd h
none-past (r ∷ rows) zero k h = omega arith
none-past (r ∷ rows) (suc a) k h = let l = none-past rows a k h in omega (arith, l)

module _ (filters adverts : Lists) where
  -- a filter's number is in the row of an advertisement where they overlap
  row-overlaps : (a k : ℕ) (ad f : List ConstraintParts) → slice_get adverts a ≡ Some ad → slice_get filters k ≡ Some f → Has k (row_of (overlap_rows filters adverts) a).members
      → overlaps f ad ≡ true
  row-overlaps a k ad f e q h =
      let row = map-at (overlap_row filters) adverts a ad (record { width = 0; members = [] }) e in
      let m = (has-passing (λ i. overlaps_in (slice_get filters i) ad) (length filters) k (subst (λ (z : Numbers). Has k z.members) row h)).1 in
      sym (ap (λ o. overlaps_in o ad) q) ∙ m

  overlaps-row : (a k : ℕ) (ad f : List ConstraintParts) → slice_get adverts a ≡ Some ad → slice_get filters k ≡ Some f → overlaps f ad ≡ true
      → Has k (row_of (overlap_rows filters adverts) a).members
  overlaps-row a k ad f e q o =
      let row = map-at (overlap_row filters) adverts a ad (record { width = 0; members = [] }) e in
      subst (λ (z : Numbers). Has k z.members) (sym row)
      (passing-has (λ i. overlaps_in (slice_get filters i) ad) (length filters) k (slice_get_within filters k f q) (ap (λ o. overlaps_in o ad) q ∙ o))

  -- the union of the rows of the advertisements that are held offers the filters that overlap one of these
  pub union-offers : {covers : List ConstraintParts → List ConstraintParts → Bool} {before : List ConstraintParts → List ConstraintParts → Bool} → CoverLaws covers before
      → ((i j : ℕ) (x : List ConstraintParts) → slice_get filters i ≡ Some x → slice_get filters j ≡ Some x → i ≡ j)
      → (held numbers : List ℕ) → IsUnion held (overlap_rows filters adverts) numbers → (f : List ConstraintParts) → Has f filters
      → member before f (picked filters numbers) ≡ list_any (overlaps f) (picked adverts held)
  union-offers {covers} {before} laws once held numbers union f h =
      both_ways (member before f (picked filters numbers)) (list_any (overlaps f) (picked adverts held)) to from
    where
      to : member before f (picked filters numbers) ≡ true → list_any (overlaps f) (picked adverts held) ≡ true
      to e =
          let k = picked-has filters numbers f ((member-iff laws f (picked filters numbers)).0 e) in
          let a = union.from k.0 k.1 in
          let l = none-past (overlap_rows filters adverts) a.0 k.0 a.2 in
          let ad = some-at adverts a.0 (rows-long l) in
          any-from (overlaps f) (picked adverts held) ad.0 (has-picked adverts held a.0 ad.0 a.1 ad.1) (row-overlaps a.0 k.0 ad.0 f ad.1 k.2 a.2)
        where
          some-at : (xs : Lists) (p : ℕ) → p < length xs → (x : List ConstraintParts) × (slice_get xs p ≡ Some x)
          some-at [] p l = absurd (omega arith)
          some-at (y ∷ ys) zero l = (y, refl)
          some-at (y ∷ ys) (suc p) l = some-at ys p (omega arith)

          long : (xs : Lists) → length (map (overlap_row filters) xs) ≡ length xs
          long [] = refl
          long (y ∷ ys) = ap suc (long ys)

          rows-long : {a : ℕ} → a < length (overlap_rows filters adverts) → a < length adverts
          rows-long l = omega (arith, l, long adverts)

      from : list_any (overlaps f) (picked adverts held) ≡ true → member before f (picked filters numbers) ≡ true
      from e =
          let ad = any-some (overlaps f) (picked adverts held) e in
          let a = picked-has adverts held ad.0 ad.1 in
          let k = has-get filters f h in
          (member-iff laws f (picked filters numbers)).1
          (has-picked filters numbers k.0 f (union.to a.0 k.0 a.1 (overlaps-row a.0 k.0 ad.0 f a.2 k.1 ad.2)) k.1)

-- a row that is read is that at the place
pub row-read : (rows : List Numbers) (a : ℕ) (row : Numbers) → a < length rows → row ≡ get_or rows a row → row ≡ row_of rows a
row-read rows a row l e = e ∙ sym (get_or_from_slice_get rows a (get_or rows a row) (record { width = 0; members = [] }) (slice_get-get_or rows a row l))

pub overlaps-long : (filters adverts : Lists) → length (overlap_rows filters adverts) ≡ length adverts
overlaps-long filters [] = refl
overlaps-long filters (y ∷ ys) = ap suc (overlaps-long filters ys)

pub overlap-widths : (filters adverts : Lists) (rows : List Numbers) → rows ≡ overlap_rows filters adverts → (a : ℕ) → a < length rows → (row_of rows a).width ≡ length filters
overlap-widths filters adverts rows e a l =
    ap (λ (z : List Numbers). (row_of z a).width) e ∙ go adverts a (subst (λ (z : List Numbers). a < length z) e l)
  where
    go : (xs : Lists) (p : ℕ) → p < length (overlap_rows filters xs) → (row_of (overlap_rows filters xs) p).width ≡ length filters
    go [] p l = absurd (omega arith)
    go (y ∷ ys) zero l = refl
    go (y ∷ ys) (suc p) l = go ys p (omega arith)
