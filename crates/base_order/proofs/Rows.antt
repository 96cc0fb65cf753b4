-- Lemmas on the rows of an order, each at its place.
use Rattle.std.proofs.Common.{◌≡◌, ℕ, ◌+◌, ◌<◌, Bool, List, [], ◌∷◌, ◌++◌, length, map, get_or, slice_get, Some, sym, ap, ap₂, ◌∙◌, arith}
use Rattle.std.specs.List.{range_with_len}
use Rattle.std.proofs.lemmas.List.FromFn.{length-map-range_with_len, get_or-map-range_with_len, map-range_with_len_more}
use Rattle.base_bits.specs.Rows.{Numbers}
use Rattle.base_order.specs.Order.{both, covers_at}

module _ (f : ℕ → Numbers) where
  pub rows-long : (n : ℕ) (rows : List Numbers) → rows ≡ map f (range_with_len 0 n) → length rows ≡ n
  rows-long n rows e = ap length e ∙ length-map-range_with_len f 0 n

  pub row-at : (n : ℕ) (rows : List Numbers) (j : ℕ) (row : Numbers) → rows ≡ map f (range_with_len 0 n) → j < n → row ≡ get_or rows j row → row ≡ f j
  row-at n rows j row e l q = q ∙ (ap (λ (z : List Numbers). get_or z j row) e ∙ get_or-map-range_with_len f 0 n j j row l (omega arith))

  pub rows-more : (n : ℕ) (rows : List Numbers) (row : Numbers) → rows ≡ map f (range_with_len 0 n) → row ≡ f n → rows ++ row ∷ [] ≡ map f (range_with_len 0 (n + 1))
  rows-more n rows row e q = ap₂ (λ (z : List Numbers) (y : Numbers). z ++ y ∷ []) e q ∙ sym (map-range_with_len_more f 0 n n (omega arith))

module _ {T : Type 0} (covers : T → T → Bool) (items : List T) where
  pub cover-at : (i j : ℕ) (x y : T) → slice_get items i ≡ Some x → slice_get items j ≡ Some y → covers_at covers items i j ≡ covers x y
  unfolding covers_at
  cover-at i j x y a b = ap₂ (both covers) a b
