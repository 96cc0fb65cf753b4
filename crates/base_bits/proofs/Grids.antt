-- The rows of a grid by the bits of its words.
use Rattle.std.proofs.Common.{◌≡◌, ◌≢◌, ◌↔◌, ◌⊎◌, inl, inr, nat_lt, ℕ, zero, suc, ◌+◌, ◌*◌, ◌/◌, ◌%◌, ◌^◌, ◌<◌, ◌==◌, List, [], ◌∷◌, length, replicate, get_or, set, refl, sym, ap, subst, ◌∙◌, arith, eqb-true, eq-eqb}
use Rattle.std.specs.Int.{bit_at}
use Rattle.std.proofs.lemmas.Bool.{cases_lt, cases_eq}
use Rattle.std.proofs.lemmas.Nat.{mul-add-lt, same_from_place}
use Rattle.std.proofs.lemmas.List.{same_lists, length-append, length-set, length-replicate, get_or-replicate, get_or_append_left, get_or_push, get_or-set_same, get_or-set_other}
use Rattle.std.proofs.lemmas.Nat.Bits.{bit_at_above}
use Rattle.base.specs.Sets.{Has, IsRising}
use Rattle.base_bits.specs.Words.{bit, IsInWord, IsPickedOf}
use Rattle.base_bits.specs.Rows.{Numbers, is_in, IsSet}
use Rattle.base_bits.specs.Grid.{row_of, with_number, without_number, Table, IsJoinedFrom, spot, each_below, row_at, table_of, IsGrid}
use Rattle.base_bits.proofs.Bits.{bit-at, zero-bits}
use Rattle.base_bits.proofs.Passing.{has-passing, passing-has, is_in-passing, passing-same, passing-with, passing-without, passing-none}

-- lists of what a function gives

pub each-length : {T : Type 0} (f : ℕ → T) (n : ℕ) → length (each_below f n) ≡ n
each-length f zero = refl
each-length f (suc n) = length-append (each_below f n) (f n ∷ []) ∙ omega (arith, each-length f n)

pub each-at : {T : Type 0} (f : ℕ → T) (n i : ℕ) (d : T) → i < n → get_or (each_below f n) i d ≡ f i
each-at f zero i d l = absurd (omega (arith, l))
each-at f (suc n) i d l = elim (cases_eq i n) [
  | inl e ↦ get_or_push (each_below f n) (f n) d i (each-length f n ∙ sym e) ∙ ap f (sym e)
  | inr m ↦ get_or_append_left (each_below f n) (f n ∷ []) d i (omega (arith, each-length f n, l, m)) ∙ each-at f n i d (omega (arith, l, m))
]

pub each-set : {T : Type 0} (f g : ℕ → T) (n r : ℕ) (x : T) → g r ≡ x → ((i : ℕ) → i < n → i ≢ r → g i ≡ f i) → each_below g n ≡ set (each_below f n) r x
each-set f g n r x e others = same_lists (each_below g n) (set (each_below f n) r x) (each-length g n ∙ sym (length-set (each_below f n) r x ∙ each-length f n)) at
  where
    at : (k : ℕ) (d : _) → k < length (each_below g n) → get_or (each_below g n) k d ≡ get_or (set (each_below f n) r x) k d
    at k d l =
        let m : k < n = omega (arith, l, each-length g n) in
        elim (cases_eq k r) [
          | inl q ↦ each-at g n k d m ∙ (ap g q ∙ (e ∙ (sym (get_or-set_same (each_below f n) r x d (omega (arith, q, m, each-length f n))) ∙ ap (λ z. get_or (set (each_below f n) r x) z d) (sym q))))
          | inr q ↦ each-at g n k d m ∙ (others k m q ∙ (sym (each-at f n k d m) ∙ sym (get_or-set_other (each_below f n) r k x d q)))
        ]

pub each-same : {T : Type 0} (f : ℕ → T) (n : ℕ) (x : T) → ((i : ℕ) → f i ≡ x) → each_below f n ≡ replicate n x
each-same f n x e = same_lists (each_below f n) (replicate n x) (each-length f n ∙ sym (length-replicate n x)) (λ k d l. each-at f n k d (omega (arith, l, each-length f n)) ∙ (e k ∙ sym (get_or-replicate n k x d (omega (arith, l, each-length f n)))))

-- places of bits

pub spot-within : (span count row i : ℕ) → row < count → i < 64 * span → spot count row i < 64 * (span * count)
spot-within span count row i l m = omega (arith, mul-add-lt (i / 64) count row span (omega (arith, m)) l)

pub spot-one : (count row other i j : ℕ) → row < count → other < count → spot count row i ≡ spot count other j → (row ≡ other) × (i ≡ j)
spot-one count row other i j l m e =
    let p = same_from_place (i / 64) row (j / 64) other count l m (omega (arith, e)) in
    (p.1, omega (arith, p.0, e))

module _ {words : List ℕ} {span count width : ℕ} (is : IsGrid words span count width) where
  pub in-span : (i : ℕ) → i < width → i < 64 * span
  in-span i l = omega (arith, l, is.spanned)

  pub row-is : (row : ℕ) → row < count → row_of (each_below (row_at words count width) count) row ≡ row_at words count width row
  row-is row l = each-at (row_at words count width) count row (record { width = 0; members = [] }) l

  pub has-bit : (row i : ℕ) → Has i (row_at words count width row).members → bit words (spot count row i) ≡ 1
  has-bit row i h = eqb-true (bit words (spot count row i)) 1 (has-passing (λ j. bit words (spot count row j) == 1) width i h).1

  pub bit-has : (row i : ℕ) → i < width → bit words (spot count row i) ≡ 1 → Has i (row_at words count width row).members
  bit-has row i l e = passing-has (λ j. bit words (spot count row j) == 1) width i l (eq-eqb (bit words (spot count row i)) 1 e)

  pub bit-is_in : (row i : ℕ) → row < count → i < width → (bit words (spot count row i) == 1) ≡ is_in i (row_of (each_below (row_at words count width) count) row).members
  bit-is_in row i l m = sym (is_in-passing (λ j. bit words (spot count row j) == 1) width i m) ∙ ap (λ (z : Numbers). is_in i z.members) (sym (row-is row l))

  pub in-words : (row i : ℕ) → row < count → i < width → spot count row i < 64 * length words
  in-words row i l m = omega (arith, spot-within span count row i l (in-span i m), is.long)

  -- the bit of a number of a row changes
  module _ (new : List ℕ) (row i : ℕ) (known : row < count) (small : i < width) (others : (k : ℕ) → k ≢ spot count row i → bit new k ≡ bit words k) where
    other-rows : (r : ℕ) → r < count → r ≢ row → row_at new count width r ≡ row_at words count width r
    other-rows r l n = ap (λ xs. record { width = width; members = xs }) (passing-same (λ j. bit new (spot count r j) == 1) (λ j. bit words (spot count r j) == 1) width
        (λ j. ap (λ z. z == 1) (others (spot count r j) (λ e. n (spot-one count r row j i l known e).0))))

    other-tests : (j : ℕ) → j ≢ i → (bit new (spot count row j) == 1) ≡ (bit words (spot count row j) == 1)
    other-tests j n = ap (λ z. z == 1) (others (spot count row j) (λ e. n (spot-one count row row j i known known e).1))

    pub put-rows : bit new (spot count row i) ≡ 1
        → each_below (row_at new count width) count ≡ set (each_below (row_at words count width) count) row (with_number i (row_of (each_below (row_at words count width) count) row))
    put-rows there = each-set (row_at words count width) (row_at new count width) count row (with_number i (row_of (each_below (row_at words count width) count) row))
        (ap (λ xs. record { width = width; members = xs }) (passing-with (λ j. bit words (spot count row j) == 1) (λ j. bit new (spot count row j) == 1) i width small other-tests (eq-eqb (bit new (spot count row i)) 1 there))
        ∙ ap (with_number i) (sym (row-is row known))) other-rows

    pub take-rows : bit new (spot count row i) ≡ 0
        → each_below (row_at new count width) count ≡ set (each_below (row_at words count width) count) row (without_number i (row_of (each_below (row_at words count width) count) row))
    take-rows gone = each-set (row_at words count width) (row_at new count width) count row (without_number i (row_of (each_below (row_at words count width) count) row))
        (ap (λ xs. record { width = width; members = xs }) (passing-without (λ j. bit words (spot count row j) == 1) (λ j. bit new (spot count row j) == 1) i width small other-tests (ap (λ z. z == 1) gone))
        ∙ ap (without_number i) (sym (row-is row known))) other-rows

    pub still-grid : length new ≡ length words → IsGrid new span count width
    still-grid long = record {
      long = long ∙ is.long;
      spanned = is.spanned;
      fits = is.fits;
      few = is.few;
      within = λ r j l m e. elim (cases_eq (spot count r j) (spot count row i)) [
        | inl q ↦ omega (arith, small, (spot-one count r row j i l known q).1)
        | inr n ↦ is.within r j l m (sym (others (spot count r j) n) ∙ e)
      ];
    }

-- the fields of a grid, with what contracts see of it
pub record ShowsTable (words : List ℕ) (span count width : ℕ) (t : Table) : Type 0 where
  pub kept : IsGrid words span count width
  pub view : table_of words count width ≡ t

module _ {words : List ℕ} {span count width : ℕ} {t : Table} (is : ShowsTable words span count width t) where
  pub rows-eq : each_below (row_at words count width) count ≡ t.rows
  rows-eq = ap (λ (z : Table). z.rows) is.view

  pub width-eq : width ≡ t.width
  width-eq = ap (λ (z : Table). z.width) is.view

  pub count-eq : count ≡ length t.rows
  count-eq = sym (each-length (row_at words count width) count) ∙ ap (λ (z : List Numbers). length z) rows-eq

  module _ (row i : ℕ) (known : row < length t.rows) (small : i < t.width) where
    pub row-known : row < count
    row-known = omega (arith, known, count-eq)

    pub number-small : i < width
    number-small = omega (arith, small, width-eq)

    pub spot-inside : spot count row i < 64 * length words
    spot-inside = in-words is.kept row i row-known number-small

    pub spot-is_in : (bit words (spot count row i) == 1) ≡ is_in i (row_of t.rows row).members
    spot-is_in = bit-is_in is.kept row i row-known number-small ∙ ap (λ (z : List Numbers). is_in i (row_of z row).members) rows-eq

    module _ (new : List ℕ) (others : (k : ℕ) → k ≢ spot count row i → bit new k ≡ bit words k) where
      pub rows-put : bit new (spot count row i) ≡ 1 → each_below (row_at new count width) count ≡ set t.rows row (with_number i (row_of t.rows row))
      rows-put there = put-rows is.kept new row i row-known number-small others there ∙ ap (λ (z : List Numbers). set z row (with_number i (row_of z row))) rows-eq

      pub rows-take : bit new (spot count row i) ≡ 0 → each_below (row_at new count width) count ≡ set t.rows row (without_number i (row_of t.rows row))
      rows-take gone = take-rows is.kept new row i row-known number-small others gone ∙ ap (λ (z : List Numbers). set z row (without_number i (row_of z row))) rows-eq

      pub grid-still : length new ≡ length words → IsGrid new span count width
      grid-still long = still-grid is.kept new row i row-known number-small others long

-- a grid of no members

pub zeros-grid : (span count width : ℕ) → span ≡ (width + 63) / 64 → width < 2 ^ 32 → count < 2 ^ 32 → IsGrid (replicate (span * count) 0) span count width
zeros-grid span count width e l m = record {
  long = length-replicate {A = ℕ} (span * count) 0;
  spanned = e;
  fits = l;
  few = m;
  within = λ row i p q b. absurd (omega (arith, zero-bits (span * count) (spot count row i), b));
}

pub zeros-rows : (n count width : ℕ) → each_below (row_at (replicate n 0) count width) count ≡ replicate count (record { width = width; members = [] })
zeros-rows n count width = each-same (row_at (replicate n 0) count width) count (record { width = width; members = [] })
    (λ row. ap (λ xs. record { width = width; members = xs }) (passing-none (λ j. bit (replicate n 0) (spot count row j) == 1) width (λ j. ap (λ z. z == 1) (zero-bits n (spot count row j)))))

-- the union of rows

-- a number of a row, by its bit, whose number both lists have
abbrev pub IsJoinedBit : List ℕ → ℕ → List ℕ → List ℕ → ℕ → Type 0
IsJoinedBit words count xs ys i = (row : ℕ) × Has row xs × Has row ys × (bit words (spot count row i) ≡ 1)

-- the same, by the bit of the word that is picked
abbrev pub IsPickedBit : List ℕ → ℕ → List ℕ → List ℕ → ℕ → Type 0
IsPickedBit words count xs ys i = IsPickedOf words (i / 64 * count) xs ys (i % 64)

module _ (words : List ℕ) (count : ℕ) (xs ys : List ℕ) (i : ℕ) where
  in-row : (row : ℕ) → bit words (spot count row i) ≡ bit_at (get_or words (i / 64 * count + row) 0) (i % 64)
  in-row row = bit-at words (i / 64 * count + row) (i % 64) (omega arith)

  pub picked-joined : IsPickedBit words count xs ys i → IsJoinedBit words count xs ys i
  picked-joined m = (m.0, m.1, m.2, in-row m.0 ∙ m.3)

  pub joined-picked : IsJoinedBit words count xs ys i → IsPickedBit words count xs ys i
  joined-picked m = (m.0, m.1, m.2, sym (in-row m.0) ∙ m.3)

module _ {words : List ℕ} {span count width : ℕ} {t : Table} (is : ShowsTable words span count width t) {x : Numbers} (set : IsSet x) (wide : x.width ≡ length t.rows) where
  pub in-rows : (row : ℕ) → Has row x.members → row < count
  in-rows row h = let l = set.within row h in omega (arith, l, wide, count-eq is)

module _ {words : List ℕ} {span count width : ℕ} {t : Table} (is : ShowsTable words span count width t) {x : Numbers} (ys : List ℕ) (set : IsSet x)
    (wide : x.width ≡ length t.rows) (list : List ℕ) (exact : (i : ℕ) → Has i list ↔ ((i < 64 * span) × IsPickedBit words count x.members ys i)) where
  pub joined-within : (i : ℕ) → Has i list → i < width
  joined-within i m =
      let h = picked-joined words count x.members ys i ((exact i).0 m).1 in
      is.kept.within h.0 i (in-rows is set wide h.0 h.1) ((exact i).0 m).0 h.3

  pub joined-members : (i : ℕ) → Has i list ↔ IsJoinedFrom t.rows x.members ys i
  joined-members i = (to, from)
    where
      row-at : (row : ℕ) → row < count → row_of t.rows row ≡ row_at words count width row
      row-at row l = ap (λ (z : List Numbers). row_of z row) (sym (rows-eq is)) ∙ row-is is.kept row l

      to : Has i list → IsJoinedFrom t.rows x.members ys i
      to m =
          let h = picked-joined words count x.members ys i ((exact i).0 m).1 in
          let l = in-rows is set wide h.0 h.1 in
          (h.0, h.1, h.2, subst (λ (z : Numbers). Has i z.members) (sym (row-at h.0 l)) (bit-has is.kept h.0 i (joined-within i m) h.3))

      from : IsJoinedFrom t.rows x.members ys i → Has i list
      from h =
          let l = in-rows is set wide h.0 h.1 in
          let m = subst (λ (z : Numbers). Has i z.members) (row-at h.0 l) h.3 in
          let s = (has-passing (λ j. bit words (spot count h.0 j) == 1) width i m).0 in
          (exact i).1 (in-span is.kept i s, joined-picked words count x.members ys i (h.0, h.1, h.2, has-bit is.kept h.0 i m))

-- the members of the first k words of the union are listed
pub record IsJoinedUpTo (words : List ℕ) (count : ℕ) (xs ys : List ℕ) (k : ℕ) (list : List ℕ) : Type 0 where
  pub rising : IsRising nat_lt list
  pub exact : (i : ℕ) → Has i list ↔ ((i < 64 * k) × IsPickedBit words count xs ys i)

-- those of one word more
pub joined-more : (words : List ℕ) (count : ℕ) (xs ys : List ℕ) (k : ℕ) (list : List ℕ) (w : ℕ) → IsJoinedUpTo words count xs ys k list → w < 2 ^ 64
    → ((q : ℕ) → (bit_at w q ≡ 1) ↔ IsPickedOf words (k * count) xs ys q) → (new : List ℕ) → IsRising nat_lt new → ((i : ℕ) → Has i new ↔ (Has i list ⊎ IsInWord k w i))
    → IsJoinedUpTo words count xs ys (k + 1) new
joined-more words count xs ys k list w is fits picked new rising exact = record { rising = rising; exact = λ i. (λ h. to i ((exact i).0 h), from i) }
  where
    to : (i : ℕ) → Has i list ⊎ IsInWord k w i → (i < 64 * (k + 1)) × IsPickedBit words count xs ys i
    to i (inl m) = let s = (is.exact i).0 m in (omega (arith, s.0), s.1)
    to i (inr (p, b, q)) = elim (cases_lt p 64) [
      | inl s ↦
          let place : k ≡ i / 64 = omega (arith, s, q) in
          let bits : p ≡ i % 64 = omega (arith, s, q) in
          (omega (arith, s, q), subst (λ z. IsPickedOf words (z * count) xs ys (i % 64)) place (subst (IsPickedOf words (k * count) xs ys) bits ((picked p).0 b)))
      | inr s ↦ absurd (omega (arith, b, bit_at_above w 64 p fits s))
    ]

    from : (i : ℕ) → (i < 64 * (k + 1)) × IsPickedBit words count xs ys i → Has i new
    from i (l, m) = elim (cases_lt i (64 * k)) [
      | inl s ↦ (exact i).1 (inl ((is.exact i).1 (s, m)))
      | inr s ↦
          let place : i / 64 ≡ k = omega (arith, l, s) in
          let b = (picked (i % 64)).1 (subst (λ z. IsPickedOf words (z * count) xs ys (i % 64)) place m) in
          (exact i).1 (inr (i % 64, b, omega (arith, place)))
    ]
