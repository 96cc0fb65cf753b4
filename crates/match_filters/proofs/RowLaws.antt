-- What one attribute adds to the rows.
use Rattle.std.proofs.Common.{◌≡◌, ◌↔◌, ◌+◌, ◌≤◌, ◌<◌, ◌==◌, ◌&&◌, ◌||◌, ◌∙◌, refl, sym, ap, ap₂, subst, arith, ℕ, Bool, true, false, not, cond, nat_lt, nat_eq, List, [], ◌∷◌, ◌++◌, length, take, set, add-one, zero, suc, get_or, Some, None}
use Rattle.std.specs.Prelude.{Vec}
use Rattle.std.specs.declared.alloc.Global.{Global}
use Rattle.std.specs.List.{IsDistinct}
use Rattle.std.specs.Map.{lookup, keys_of}
use Rattle.std.specs.Ordering.{is_eq}
use Rattle.std.specs.Str.{bytes_eq}
use Rattle.std.proofs.lemmas.Bool.Decides.{nat_tests}
use Rattle.std.proofs.lemmas.List.Sums.{sum_by_push}
use Rattle.std.proofs.lemmas.Map.Text.{is_eq-slice_cmp}
use Rattle.filter_values.specs.Value.{kind_of, same_kind}
use Rattle.filter_values.specs.declared.value.Kind.{Kind}
use Rattle.filter_values.specs.declared.value.Kind.TheVariants as kinds
use Rattle.filter_values.specs.declared.value.Value.{Value}
use Rattle.filter_constraints.specs.Constraint.{satisfies}
use Rattle.filter_types.specs.Notice.{Attribute}
use Rattle.base.proofs.Lists.{bytes_eq-self}
use Rattle.base_bits.specs.Words.{bit}
use Rattle.match_index.specs.Pairs.{tally, Pair, Test, passes}
use Rattle.match_index.specs.Keys.{same_bytes, at_key, key_cmp}
use Rattle.match_cells.specs.Counts.{rows_with}
use Rattle.match_numbers.specs.Operands.{is_apart, AreOf, is_other as is_other_pair, is_of, is_missed as is_missed_of}
use Rattle.match_filters.specs.Index.{Use}
use Rattle.base_bits.proofs.Bits.{bit-small}
use Rattle.match_numbers.proofs.Putting.{of-value}
use Rattle.match_filters.specs.Parts.{is_alone, is_on, is_missed}
use Rattle.match_filters.specs.Rows.{AreLong, IsRead, HaveMore}
use Rattle.match_filters.specs.Shelves.{constraint_of, uses_of}
use Rattle.match_filters.specs.Uses.{is_other, AreOfKind}
use Rattle.match_filters.proofs.Filling.{of_filter}
use Rattle.match_filters.proofs.ShelfLaws.{AreNamed, shelf-only, shelf-none}

-- tests that agree on all members but some, of which there are none
pub tally-agree-but : {X : Type 0} (bad p q : X → Bool) (xs : List X) → tally bad xs ≡ 0 → ((x : X) → bad x ≡ false → p x ≡ q x) → tally p xs ≡ tally q xs
tally-agree-but bad p q [] e h = refl
tally-agree-but bad p q (x ∷ xs) e h = omega (arith, tally-agree-but bad p q xs (later (bad x) e) h, ap {B = ℕ} (λ (b : Bool). cond b 1 0) (h x (here (bad x) e)))
  where
    later : (b : Bool) → cond b 1 0 + tally bad xs ≡ 0 → tally bad xs ≡ 0
    later true s = absurd (omega (arith, s))
    later false s = omega (arith, s)

    here : (b : Bool) → cond b 1 0 + tally bad xs ≡ 0 → b ≡ false
    here true s = absurd (omega (arith, s))
    here false s = refl

kind-self : (x : Kind) → same_kind x x ≡ true
kind-self kinds.Bool = refl
kind-self kinds.Int = refl
kind-self kinds.Str = refl
kind-self kinds.Time = refl

-- a constraint on the name and the kind of an attribute that is no part by itself
on-one : (name : List ℕ) (v : Value) (t : Test) → not (same_kind t.kind (kind_of v)) || is_apart t ≡ false → is_on (name, v) (constraint_of name t) ≡ true
on-one name v t h =
    let b = of-value t.kind (kind_of v) (is_apart t) h in
    rw (b.1, bytes_eq-self name) (ap (λ (z : Kind). same_kind (kind_of v) z) b.0 ∙ kind-self (kind_of v))

missed-one : (name : List ℕ) (v : Value) (t : Test) (k : Bool) → not (same_kind t.kind (kind_of v)) || is_apart t ≡ false → is_missed (name, v) (constraint_of name t) && k ≡ k && not (passes v t)
unfolding satisfies
missed-one name v t k h = ap (λ (b : Bool). (b && not (passes v t)) && k) (on-one name v t h) ∙ swap (passes v t) k
  where
    swap : (a b : Bool) → (not a && b) ≡ (b && not a)
    swap true true = refl
    swap true false = refl
    swap false true = refl
    swap false false = refl

differs : (m n : List ℕ) → same_bytes m n ≡ false → bytes_eq m n ≡ false
differs m n h = sym (is_eq-slice_cmp m n) ∙ h

on-named : (a : Attribute) (k : ℕ) → AreNamed a.0 (of_filter (is_on a) k)
on-named a k u h = ap (λ (b : Bool). (not (is_alone u.0) && (b && same_kind (kind_of a.1) u.0.kind)) && u.1 == k) (differs a.0 u.0.name h) ∙ never (not (is_alone u.0)) (u.1 == k)
  where
    never : (x y : Bool) → ((x && false) && y) ≡ false
    never true y = refl
    never false y = refl

missed-named : (a : Attribute) (k : ℕ) → AreNamed a.0 (of_filter (is_missed a) k)
missed-named a k u h = ap (λ (b : Bool). ((not (is_alone u.0) && (b && same_kind (kind_of a.1) u.0.kind)) && not (satisfies u.0 a.1)) && u.1 == k) (differs a.0 u.0.name h) ∙ never (not (is_alone u.0)) (not (satisfies u.0 a.1)) (u.1 == k)
  where
    never : (x y z : Bool) → (((x && false) && y) && z) ≡ false
    never true y z = refl
    never false y z = refl

module _ (name : List ℕ) (v : Value) (pairs : List Pair) (es : List (Vec ℕ Global × List Pair)) (of : AreOfKind v (uses_of es)) (distinct : IsDistinct (λ j k. is_eq (key_cmp j k)) (keys_of es)) (here : lookup (at_key name) es ≡ Some pairs) where
  -- all of the shelf is of the value's kind, and no part by itself
  pub of-kind : AreOf v pairs
  of-kind = omega (arith, all, few, of.0, of.1)
    where
      p : Use → Bool
      p u = same_bytes name u.0.name && (is_other (kind_of v) u || is_alone u.0)

      few : tally p (uses_of es) ≤ tally (is_other (kind_of v)) (uses_of es) + tally (λ u. is_alone u.0) (uses_of es)
      few = few-of (uses_of es)
        where
          few-of : (us : List Use) → tally p us ≤ tally (is_other (kind_of v)) us + tally (λ u. is_alone u.0) us
          few-of [] = omega arith
          few-of (u ∷ us) = omega (arith, few-of us, each (same_bytes name u.0.name) (is_other (kind_of v) u) (is_alone u.0))
            where
              each : (x y z : Bool) → cond {A = ℕ} (x && (y || z)) 1 0 ≤ cond y 1 0 + cond z 1 0
              each true true true = omega arith
              each true true false = omega arith
              each true false true = omega arith
              each true false false = omega arith
              each false true true = omega arith
              each false true false = omega arith
              each false false true = omega arith
              each false false false = omega arith

      here-same : (x : Pair) → p (constraint_of name x.0, x.1) ≡ is_other_pair v x
      here-same x = ap (λ (b : Bool). b && (not (same_kind x.0.kind (kind_of v)) || is_apart x.0)) (is_eq-slice_cmp name name ∙ bytes_eq-self name)

      agree : (xs : List Pair) → tally (λ (x : Pair). p (constraint_of name x.0, x.1)) xs ≡ tally (is_other_pair v) xs
      agree [] = refl
      agree (x ∷ xs) = omega (arith, agree xs, ap {B = ℕ} (λ (b : Bool). cond b 1 0) (here-same x))

      all : tally p (uses_of es) ≡ tally (is_other_pair v) pairs
      all = shelf-only name p pairs es (λ u h. ap (λ (b : Bool). b && (is_other (kind_of v) u || is_alone u.0)) h) distinct here ∙ agree pairs

  pub on-shelf : (k : ℕ) → tally (of_filter (is_on (name, v)) k) (uses_of es) ≡ tally (is_of k) pairs
  on-shelf k =
      shelf-only name (of_filter (is_on (name, v)) k) pairs es (on-named (name, v) k) distinct here
      ∙ tally-agree-but (is_other_pair v) (λ x. is_on (name, v) (constraint_of name x.0) && x.1 == k) (is_of k) pairs of-kind (λ x h. ap (λ (b : Bool). b && x.1 == k) (on-one name v x.0 h))

  pub missed-shelf : (k : ℕ) → tally (of_filter (is_missed (name, v)) k) (uses_of es) ≡ tally (is_missed_of v k) pairs
  missed-shelf k =
      shelf-only name (of_filter (is_missed (name, v)) k) pairs es (missed-named (name, v) k) distinct here
      ∙ tally-agree-but (is_other_pair v) (λ x. is_missed (name, v) (constraint_of name x.0) && x.1 == k) (is_missed_of v k) pairs of-kind (λ x h. missed-one name v x.0 (x.1 == k) h)

long-more : (span : ℕ) (rows new : List (Vec ℕ Global)) (row : Vec ℕ Global) → new ≡ rows ++ row ∷ [] → length row.items ≡ span → AreLong span rows → AreLong span new
long-more span rows new row e l h = subst (AreLong span) (sym e) (λ d r m. go rows h d r m)
  where
    go : (rows : List (Vec ℕ Global)) → ((d : Vec ℕ Global) (r : ℕ) → r < length rows → length (get_or rows r d).items ≡ span) → (d : Vec ℕ Global) (r : ℕ) → r < length (rows ++ row ∷ []) → length (get_or (rows ++ row ∷ []) r d).items ≡ span
    go [] h d zero m = l
    go [] h d (suc r) m = absurd (omega (arith, m))
    go (x ∷ rows) h d zero m = h d 0 (omega arith)
    go (x ∷ rows) h d (suc r) m = go rows (λ e s n. h e (suc s) (omega (arith, n))) d r (omega (arith, m))

-- the row of an attribute's part
pub part-read : (span : ℕ) (name : List ℕ) (a : Attribute) (pairs : List Pair) (es : List (Vec ℕ Global × List Pair)) (old new : List (Vec ℕ Global)) → name ≡ a.0 → AreOfKind a.1 (uses_of es) → IsDistinct (λ j k. is_eq (key_cmp j k)) (keys_of es) → lookup (at_key name) es ≡ Some pairs → IsRead span a.1 pairs old new → HaveMore span a (uses_of es) old new
part-read span name a pairs es old new n of distinct h is = record {
  long = long-more span old new is.row is.more is.long;
  more = λ k l. (
      let here = subst (λ (m : List ℕ). lookup (at_key m) es ≡ Some pairs) n h in
      let b = is.bits (of-kind a.0 a.1 pairs es of distinct here) k l in
      omega (
        arith,
        ap (λ (rows : List (Vec ℕ Global)). rows_with rows k) is.more,
        sum_by_push (λ (row : Vec ℕ Global). bit row.items k) old is.row,
        told (bit is.row.items k) (tally (is_of k) pairs) (tally (is_missed_of a.1 k) pairs) (bit-small is.row.items k) b,
        ap₂ {C = ℕ} (λ (x y : ℕ). cond (nat_lt 0 x && nat_eq y 0) 1 0) (on-shelf a.0 a.1 pairs es of distinct here k) (missed-shelf a.0 a.1 pairs es of distinct here k),
      ));
}
  where
    told : (b x y : ℕ) → b < 2 → (b ≡ 1) ↔ ((0 < x) × (y ≡ 0)) → b ≡ cond (nat_lt 0 x && nat_eq y 0) 1 0
    told b x y l h = grind (arith, nat_tests)

-- no part on the attribute's name
pub part-none : (span : ℕ) (name : List ℕ) (a : Attribute) (es : List (Vec ℕ Global × List Pair)) (rows : List (Vec ℕ Global)) → name ≡ a.0 → lookup (at_key name) es ≡ None → HaveMore span a (uses_of es) rows rows
part-none span name a es rows n h = record {
  long = λ l. l;
  more = λ k l. (
      let here = subst (λ (m : List ℕ). lookup (at_key m) es ≡ None) n h in
      omega (arith, ap {B = ℕ} (λ (x : ℕ). cond (nat_lt 0 x && nat_eq (tally (of_filter (is_missed a) k) (uses_of es)) 0) 1 0) (shelf-none a.0 (of_filter (is_on a) k) es (on-named a k) here)));
}

pub read-more : {X : Type 0} (xs : List X) (i : ℕ) (x : X) → i < length xs → take (i + 1) (set xs i x) ≡ take i xs ++ x ∷ []
read-more {X = X} xs i x l = ap (λ (n : ℕ). take n (set xs i x)) (add-one i) ∙ go xs i l
  where
    go : (xs : List X) (i : ℕ) → i < length xs → take (suc i) (set xs i x) ≡ take i xs ++ x ∷ []
    go [] i l = absurd (omega (arith, l))
    go (y ∷ []) zero l = refl
    go (y ∷ z ∷ ys) zero l = refl
    go (y ∷ ys) (suc i) l = ap (λ zs. y ∷ zs) (go ys i (omega (arith, l)))
