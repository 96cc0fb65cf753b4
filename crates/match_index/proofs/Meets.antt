-- Which keys have a test that a text passes.
use Rattle.std.proofs.Common.{◌≡◌, ◌∙◌, List, [], ◌∷◌, ℕ, Bool, true, false, not, refl, sym, ap}
use Rattle.std.specs.declared.cmp.Ordering.{Ordering}
use Rattle.std.specs.declared.cmp.Ordering.TheVariants.{Less, Equal, Greater}
use Rattle.std.specs.Ordering.{nat_cmp, is_lt, is_eq, is_gt}
use Rattle.std.specs.Cmp.Lexicographic.{slice_cmp}
use Rattle.std.proofs.lemmas.Cmp.{nat_list_cmp_total}
use Rattle.std.proofs.lemmas.Map.Text.{is_eq-slice_cmp}
use Rattle.filter_values.specs.declared.value.Value.TheVariants as values
use Rattle.filter_constraints.specs.declared.op.Op.{Op}
use Rattle.filter_constraints.specs.declared.op.Op.TheVariants as ops
use Rattle.match_index.specs.Pairs.{passes}
use Rattle.match_index.proofs.Orders.{same-turned}
use Rattle.match_index.specs.Heads.{is_pattern_op}
use Rattle.match_index.specs.Keys.{test_at, same_bytes}
use Rattle.match_index.specs.Lines.{on_side}
use Rattle.match_index.specs.Sides.{asked, sides_of}
use Rattle.match_index.proofs.Keys.{less-before, less-after}

-- what each operator asks of a key
pub any-key : (x u : List ℕ) → same_bytes [] u ≡ passes (values.Str x) (test_at ops.Any u)
any-key x [] = refl
any-key x (b ∷ u) = refl

-- and of its side of a text
pub equal-side : (x k : List ℕ) → on_side (asked false true false) (slice_cmp nat_cmp k x) ≡ same_bytes x k
equal-side x k = go (slice_cmp nat_cmp k x) ∙ same-turned nat_list_cmp_total k x
  where
    go : (o : Ordering) → on_side (asked false true false) o ≡ is_eq o
    go Less = refl
    go Equal = refl
    go Greater = refl

eq-side : (x k : List ℕ) → on_side (asked false true false) (slice_cmp nat_cmp k x) ≡ passes (values.Str x) (test_at ops.Eq k)
eq-side x k = equal-side x k ∙ is_eq-slice_cmp x k

ne-side : (x k : List ℕ) → on_side (asked true false true) (slice_cmp nat_cmp k x) ≡ passes (values.Str x) (test_at ops.Ne k)
ne-side x k = go (slice_cmp nat_cmp k x) ∙ ap not (eq-side x k)
  where
    go : (o : Ordering) → on_side (asked true false true) o ≡ not (on_side (asked false true false) o)
    go Less = refl
    go Equal = refl
    go Greater = refl

-- the keys that are greater than a text, and those that are less
lt-side : (x k : List ℕ) → on_side (asked false false true) (slice_cmp nat_cmp k x) ≡ passes (values.Str x) (test_at ops.Lt k)
lt-side x k = go (slice_cmp nat_cmp k x) ∙ sym (less-after x k)
  where
    go : (o : Ordering) → on_side (asked false false true) o ≡ is_gt o
    go Less = refl
    go Equal = refl
    go Greater = refl

le-side : (x k : List ℕ) → on_side (asked false true true) (slice_cmp nat_cmp k x) ≡ passes (values.Str x) (test_at ops.Le k)
le-side x k = go (slice_cmp nat_cmp k x) ∙ ap not (sym (less-before k x))
  where
    go : (o : Ordering) → on_side (asked false true true) o ≡ not (is_lt o)
    go Less = refl
    go Equal = refl
    go Greater = refl

gt-side : (x k : List ℕ) → on_side (asked true false false) (slice_cmp nat_cmp k x) ≡ passes (values.Str x) (test_at ops.Gt k)
gt-side x k = go (slice_cmp nat_cmp k x) ∙ sym (less-before k x)
  where
    go : (o : Ordering) → on_side (asked true false false) o ≡ is_lt o
    go Less = refl
    go Equal = refl
    go Greater = refl

ge-side : (x k : List ℕ) → on_side (asked true true false) (slice_cmp nat_cmp k x) ≡ passes (values.Str x) (test_at ops.Ge k)
ge-side x k = go (slice_cmp nat_cmp k x) ∙ ap not (sym (less-after x k))
  where
    go : (o : Ordering) → on_side (asked true true false) o ≡ not (is_gt o)
    go Less = refl
    go Equal = refl
    go Greater = refl

-- the keys on the sides that an operator asks for
pub side-passes : (op : Op) → is_pattern_op op ≡ false → (op ≡ ops.Any → ⊥) → (x k : List ℕ) → on_side (sides_of op) (slice_cmp nat_cmp k x) ≡ passes (values.Str x) (test_at op k)
side-passes ops.Any p h x k = absurd (h refl)
side-passes ops.Eq p h x k = eq-side x k
side-passes ops.Ne p h x k = ne-side x k
side-passes ops.Lt p h x k = lt-side x k
side-passes ops.Le p h x k = le-side x k
side-passes ops.Gt p h x k = gt-side x k
side-passes ops.Ge p h x k = ge-side x k
side-passes ops.Contains p h x k = cc
side-passes ops.Prefix p h x k = cc
side-passes ops.Suffix p h x k = cc

-- a pattern of neither the beginning nor the end
pub is-part : (op : Op) → is_pattern_op op ≡ true → (op ≡ ops.Prefix → ⊥) → (op ≡ ops.Suffix → ⊥) → op ≡ ops.Contains
is-part ops.Prefix h f g = absurd (f refl)
is-part ops.Suffix h f g = absurd (g refl)
is-part ops.Contains h f g = refl
is-part ops.Any h f g = cc
is-part ops.Eq h f g = cc
is-part ops.Ne h f g = cc
is-part ops.Lt h f g = cc
is-part ops.Le h f g = cc
is-part ops.Gt h f g = cc
is-part ops.Ge h f g = cc
