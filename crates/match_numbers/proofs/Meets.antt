-- Which keys of a row have a test that a value passes.
use Rattle.std.proofs.Common.{◌≡◌, ◌+ℤ◌, ◌^◌, ◌∙◌, ℕ, ℤ, true, false, refl, arith, pos, negsuc}
use Rattle.std.proofs.lemmas.Int.{ints}
use Rattle.std.specs.Ordering.{int_cmp}
use Rattle.filter_values.specs.declared.value.Kind.TheVariants as kinds
use Rattle.filter_values.specs.declared.value.Value.TheVariants as values
use Rattle.filter_constraints.specs.declared.op.Op.{Op}
use Rattle.filter_constraints.specs.declared.op.Op.TheVariants as ops
use Rattle.std.specs.Prelude.{int_lt}
use Rattle.match_index.specs.Pairs.{passes}
use Rattle.match_index.specs.Lines.{on_side}
use Rattle.match_index.specs.Sides.{sides_of}
use Rattle.filter_constraints.specs.Numbers.{number_satisfies}
use Rattle.match_numbers.specs.Keys.{time_key, key_meets, test_at, time_test, below_test}

-- the keys on the sides that an operator asks for
pub side-meets : (op : Op) → (op ≡ ops.Any → ⊥) → (x k : ℤ) → on_side (sides_of op) (int_cmp k x) ≡ key_meets op x k
side-meets ops.Any h x k = absurd (h refl)
side-meets ops.Eq h x k = grind (arith, ints)
side-meets ops.Ne h x k = grind (arith, ints)
side-meets ops.Lt h x k = grind (arith, ints)
side-meets ops.Le h x k = grind (arith, ints)
side-meets ops.Gt h x k = grind (arith, ints)
side-meets ops.Ge h x k = grind (arith, ints)
side-meets ops.Contains h x k = grind (arith, ints)
side-meets ops.Prefix h x k = grind (arith, ints)
side-meets ops.Suffix h x k = grind (arith, ints)

-- a number finds the groups whose operand it meets
number-said : (op : Op) → (op ≡ ops.Any → ⊥) → (x k : ℤ) → key_meets op x k ≡ number_satisfies op x k
number-said ops.Any h x k = absurd (h refl)
number-said ops.Eq h x k = grind (arith, ints)
number-said ops.Ne h x k = grind (arith, ints)
number-said ops.Lt h x k = grind (arith, ints)
number-said ops.Le h x k = grind (arith, ints)
number-said ops.Gt h x k = grind (arith, ints)
number-said ops.Ge h x k = grind (arith, ints)
number-said ops.Contains h x k = refl
number-said ops.Prefix h x k = refl
number-said ops.Suffix h x k = refl

pub number-meets : (op : Op) (x k : ℤ) → key_meets op x k ≡ passes (values.Int x) (test_at kinds.Int op k)
number-meets ops.Any x k = grind (arith, ints)
number-meets ops.Eq x k = number-said ops.Eq (λ e. cc) x k
number-meets ops.Ne x k = number-said ops.Ne (λ e. cc) x k
number-meets ops.Lt x k = number-said ops.Lt (λ e. cc) x k
number-meets ops.Le x k = number-said ops.Le (λ e. cc) x k
number-meets ops.Gt x k = number-said ops.Gt (λ e. cc) x k
number-meets ops.Ge x k = number-said ops.Ge (λ e. cc) x k
number-meets ops.Contains x k = number-said ops.Contains (λ e. cc) x k
number-meets ops.Prefix x k = number-said ops.Prefix (λ e. cc) x k
number-meets ops.Suffix x k = number-said ops.Suffix (λ e. cc) x k

-- what a key finds depends on the order alone
alike : (op : Op) → (op ≡ ops.Any → ⊥) → (a b c d : ℤ) → int_lt a b ≡ int_lt c d → int_lt b a ≡ int_lt d c → key_meets op a b ≡ key_meets op c d
alike ops.Any h a b c d e f = absurd (h refl)
alike ops.Eq h a b c d e f = rw (e, f) refl
alike ops.Ne h a b c d e f = rw (e, f) refl
alike ops.Lt h a b c d e f = rw (e, f) refl
alike ops.Le h a b c d e f = rw (e, f) refl
alike ops.Gt h a b c d e f = rw (e, f) refl
alike ops.Ge h a b c d e f = rw (e, f) refl
alike ops.Contains h a b c d e f = refl
alike ops.Prefix h a b c d e f = refl
alike ops.Suffix h a b c d e f = refl

-- a key that is less than that of each time
beyond : (op : Op) → (op ≡ ops.Any → ⊥) → (x : ℕ) (k j : ℤ) → int_lt k (time_key x) ≡ true → int_lt (time_key x) k ≡ false → key_meets op (time_key x) k ≡ passes (values.Time x) (below_test op j)
beyond ops.Any h x k j e f = absurd (h refl)
beyond ops.Eq h x k j e f = rw (e, f) refl
beyond ops.Ne h x k j e f = rw (e, f) refl
beyond ops.Lt h x k j e f = rw (e, f) refl
beyond ops.Le h x k j e f = rw (e, f) refl
beyond ops.Gt h x k j e f = rw (e, f) refl
beyond ops.Ge h x k j e f = rw (e, f) refl
beyond ops.Contains h x k j e f = refl
beyond ops.Prefix h x k j e f = refl
beyond ops.Suffix h x k j e f = refl

time-tested : (op : Op) → (op ≡ ops.Any → ⊥) → (x : ℕ) (k z : ℤ) → k +ℤ pos (2 ^ 63) ≡ z → key_meets op (time_key x) k ≡ passes (values.Time x) (time_test op z)
time-tested op h x k (pos m) e = alike op h (time_key x) k (pos x) (pos m) (grind (arith, ints, e)) (grind (arith, ints, e)) ∙ number-said op h (pos x) (pos m)
time-tested op h x k (negsuc m) e = beyond op h x k (negsuc m) (grind (arith, ints, e)) (grind (arith, ints, e))

pub time-meets : (op : Op) (x : ℕ) (k : ℤ) → key_meets op (time_key x) k ≡ passes (values.Time x) (test_at kinds.Time op k)
time-meets ops.Any x k = grind (arith, ints)
time-meets ops.Eq x k = time-tested ops.Eq (λ e. cc) x k (k +ℤ pos (2 ^ 63)) refl
time-meets ops.Ne x k = time-tested ops.Ne (λ e. cc) x k (k +ℤ pos (2 ^ 63)) refl
time-meets ops.Lt x k = time-tested ops.Lt (λ e. cc) x k (k +ℤ pos (2 ^ 63)) refl
time-meets ops.Le x k = time-tested ops.Le (λ e. cc) x k (k +ℤ pos (2 ^ 63)) refl
time-meets ops.Gt x k = time-tested ops.Gt (λ e. cc) x k (k +ℤ pos (2 ^ 63)) refl
time-meets ops.Ge x k = time-tested ops.Ge (λ e. cc) x k (k +ℤ pos (2 ^ 63)) refl
time-meets ops.Contains x k = time-tested ops.Contains (λ e. cc) x k (k +ℤ pos (2 ^ 63)) refl
time-meets ops.Prefix x k = time-tested ops.Prefix (λ e. cc) x k (k +ℤ pos (2 ^ 63)) refl
time-meets ops.Suffix x k = time-tested ops.Suffix (λ e. cc) x k (k +ℤ pos (2 ^ 63)) refl
