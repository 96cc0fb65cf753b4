-- The constraints of all filters, kept apart by kind.
use Rattle.std.proofs.Common.{◌≡◌, ◌+◌, ◌≤◌, ◌==◌, ◌&&◌, ◌∙◌, refl, sym, ap, ap₂, arith, ℕ, Bool, true, false, not, cond, nat_lt, nat_le, nat_eq, List, [], ◌∷◌, ◌++◌, Some, None, append-nil}
use Rattle.std.specs.Prelude.{Vec}
use Rattle.std.specs.declared.alloc.Global.{Global}
use Rattle.std.specs.Str.{bytes_eq}
use Rattle.filter_values.specs.Value.{kind_of, same_kind}
use Rattle.filter_values.specs.declared.value.Kind.{Kind}
use Rattle.filter_values.specs.declared.value.Value.{Value}
use Rattle.filter_values.specs.declared.value.Value.TheVariants as values
use Rattle.filter_values.specs.declared.value.Kind.TheVariants as kinds
use Rattle.filter_constraints.specs.Constraint.{ConstraintParts, satisfies}
use Rattle.filter_constraints.proofs.ConstraintLaws.{sat-kind}
use Rattle.filter_types.specs.Notice.{Attribute}
use Rattle.filter_types.specs.Cover.{attribute_satisfies}
use Rattle.match_index.specs.Pairs.{tally, Same, Appends}
use Rattle.match_index.specs.Heads.{is_pattern_op}
use Rattle.match_index.proofs.Tallies.{tally-append}
use Rattle.match_cells.specs.Counts.{rows_with}
use Rattle.match_filters.specs.Index.{Use, is_satisfied, ids_satisfied}
use Rattle.match_filters.specs.Kinds.{ByKind, all_uses, AreByKind, IsAdded}
use Rattle.std.proofs.lemmas.Bool.{and_parts}
use Rattle.match_filters.specs.Parts.{is_alone, is_on, is_missed}
use Rattle.match_filters.specs.Rows.{is_met, HaveMore}
use Rattle.match_filters.specs.Uses.{is_other, AreAll, AreAlone, AreJoined, AreKnown}
use Rattle.match_filters.proofs.Filling.{of_filter, tally-within}
use Rattle.match_filters.proofs.Satisfied.{tally-satisfied}

pub kind-tells : (a b : Kind) → same_kind a b ≡ true → a ≡ b
kind-tells a b h = grind arith

front : {X : Type 0} (a new r : List X) (x : X) → Same new (x ∷ a) → Same (new ++ r) (x ∷ (a ++ r))
front a new r x s = λ p. omega (arith, tally-append p new r, tally-append p a r, s p)

behind : {X : Type 0} (a r new : List X) (x : X) → Same new (x ∷ r) → Same (a ++ new) (x ∷ (a ++ r))
behind a r new x s = λ p. omega (arith, tally-append p a new, tally-append p a r, s p)

all-more : (kind : Kind) (c : ConstraintParts) (id : ℕ) (old new : List Use) → c.kind ≡ kind → Same new ((c, id) ∷ old) → AreAll kind old → AreAll kind new
all-more kind c id old new e s h = omega (arith, s (is_other kind), h, ap {B = ℕ} (λ (b : Bool). cond b 1 0) (ap (λ (z : Kind). not (same_kind z kind)) e ∙ ap not (self kind)))
  where
    self : (x : Kind) → same_kind x x ≡ true
    self kinds.Bool = refl
    self kinds.Int = refl
    self kinds.Str = refl
    self kinds.Time = refl

module _ (c : ConstraintParts) (id : ℕ) (x : ByKind) (new : List Use) where
  pub added-int : c.kind ≡ kinds.Int → Same new ((c, id) ∷ x.ints) → IsAdded c id x (record { ints = new; bools = x.bools; times = x.times; strs = x.strs; texts = x.texts })
  added-int e s = record {
    same = front x.ints new (x.bools ++ (x.times ++ (x.strs ++ x.texts))) (c, id) s;
    kept = λ k. record { ints = all-more kinds.Int c id x.ints new e s k.ints; bools = k.bools; times = k.times; strs = k.strs; joined = k.joined; texts = k.texts; alone = k.alone };
  }

  pub added-bool : c.kind ≡ kinds.Bool → Same new ((c, id) ∷ x.bools) → IsAdded c id x (record { ints = x.ints; bools = new; times = x.times; strs = x.strs; texts = x.texts })
  added-bool e s = record {
    same = behind x.ints (x.bools ++ (x.times ++ (x.strs ++ x.texts))) (new ++ (x.times ++ (x.strs ++ x.texts))) (c, id) (front x.bools new (x.times ++ (x.strs ++ x.texts)) (c, id) s);
    kept = λ k. record { ints = k.ints; bools = all-more kinds.Bool c id x.bools new e s k.bools; times = k.times; strs = k.strs; joined = k.joined; texts = k.texts; alone = k.alone };
  }

  pub added-time : c.kind ≡ kinds.Time → Same new ((c, id) ∷ x.times) → IsAdded c id x (record { ints = x.ints; bools = x.bools; times = new; strs = x.strs; texts = x.texts })
  added-time e s = record {
    same = behind x.ints (x.bools ++ (x.times ++ (x.strs ++ x.texts))) (x.bools ++ (new ++ (x.strs ++ x.texts))) (c, id) (behind x.bools (x.times ++ (x.strs ++ x.texts)) (new ++ (x.strs ++ x.texts)) (c, id) (front x.times new (x.strs ++ x.texts) (c, id) s));
    kept = λ k. record { ints = k.ints; bools = k.bools; times = all-more kinds.Time c id x.times new e s k.times; strs = k.strs; joined = k.joined; texts = k.texts; alone = k.alone };
  }

  pub added-str : c.kind ≡ kinds.Str → is_alone c ≡ false → Same new ((c, id) ∷ x.strs) → IsAdded c id x (record { ints = x.ints; bools = x.bools; times = x.times; strs = new; texts = x.texts })
  added-str e l s = record {
    same = behind x.ints (x.bools ++ (x.times ++ (x.strs ++ x.texts))) (x.bools ++ (x.times ++ (new ++ x.texts))) (c, id) (behind x.bools (x.times ++ (x.strs ++ x.texts)) (x.times ++ (new ++ x.texts)) (c, id) (behind x.times (x.strs ++ x.texts) (new ++ x.texts) (c, id) (front x.strs new x.texts (c, id) s)));
    kept = λ k. record { ints = k.ints; bools = k.bools; times = k.times; strs = all-more kinds.Str c id x.strs new e s k.strs; joined = omega (arith, s (λ u. is_alone u.0), k.joined, ap {B = ℕ} (λ (b : Bool). cond b 1 0) l); texts = k.texts; alone = k.alone };
  }

  pub added-text : c.kind ≡ kinds.Str → is_alone c ≡ true → Same new ((c, id) ∷ x.texts) → IsAdded c id x (record { ints = x.ints; bools = x.bools; times = x.times; strs = x.strs; texts = new })
  added-text e l s = record {
    same = behind x.ints (x.bools ++ (x.times ++ (x.strs ++ x.texts))) (x.bools ++ (x.times ++ (x.strs ++ new))) (c, id) (behind x.bools (x.times ++ (x.strs ++ x.texts)) (x.times ++ (x.strs ++ new)) (c, id) (behind x.times (x.strs ++ x.texts) (x.strs ++ new) (c, id) (behind x.strs x.texts new (c, id) s)));
    kept = λ k. record { ints = k.ints; bools = k.bools; times = k.times; strs = k.strs; joined = k.joined; texts = all-more kinds.Str c id x.texts new e s k.texts; alone = omega (arith, s (λ u. not (is_alone u.0)), k.alone, ap {B = ℕ} (λ (b : Bool). cond (not b) 1 0) l) };
  }

pub tally-kinds : (p : Use → Bool) (x : ByKind) → tally p (all_uses x) ≡ tally p x.ints + (tally p x.bools + (tally p x.times + (tally p x.strs + tally p x.texts)))
tally-kinds p x = omega (arith, tally-append p x.ints (x.bools ++ (x.times ++ (x.strs ++ x.texts))), tally-append p x.bools (x.times ++ (x.strs ++ x.texts)), tally-append p x.times (x.strs ++ x.texts), tally-append p x.strs x.texts)

-- no constraint of another kind belongs to the part on an attribute
off : (a : Attribute) (kind : Kind) → same_kind (kind_of a.1) kind ≡ false → (c : ConstraintParts) → is_on a c ≡ true → not (same_kind c.kind kind) ≡ true
off a kind h c e =
    let k : kind_of a.1 ≡ c.kind = kind-tells (kind_of a.1) c.kind (and_parts (bytes_eq a.0 c.name) (same_kind (kind_of a.1) c.kind) (and_parts (not (is_alone c)) (bytes_eq a.0 c.name && same_kind (kind_of a.1) c.kind) e).1).1 in
    ap not (ap (λ (z : Kind). same_kind z kind) (sym k) ∙ h)

none-on : (a : Attribute) (kind : Kind) → same_kind (kind_of a.1) kind ≡ false → (uses : List Use) → AreAll kind uses → (k : ℕ) → tally (of_filter (is_on a) k) uses ≡ 0
none-on a kind h uses all k = omega (arith, all, tally-within (of_filter (is_on a) k) (is_other kind) (λ u e. off a kind h u.0 ((and_parts (is_on a u.0) (u.1 == k) e).0)) uses)

-- a constraint that is a part by itself belongs to no part on an attribute
apart-on : (a : Attribute) (uses : List Use) → AreAlone uses → (k : ℕ) → tally (of_filter (is_on a) k) uses ≡ 0
apart-on a uses alone k = omega (arith, alone, tally-within (of_filter (is_on a) k) (λ u. not (is_alone u.0)) (λ u e. (and_parts (not (is_alone u.0)) (bytes_eq a.0 u.0.name && same_kind (kind_of a.1) u.0.kind) (and_parts (is_on a u.0) (u.1 == k) e).0).0) uses)

-- of a kind but str no constraint is a part by itself
pub none-alone : (kind : Kind) → same_kind kinds.Str kind ≡ false → (uses : List Use) → AreAll kind uses → AreJoined uses
none-alone kind h uses all = omega (arith, all, tally-within (λ u. is_alone u.0) (is_other kind) (λ u e. ap not (ap (λ (z : Kind). same_kind z kind) (kind-tells u.0.kind kinds.Str (and_parts (same_kind u.0.kind kinds.Str) (is_pattern_op u.0.op) e).0) ∙ h)) uses)

missed-few : (a : Attribute) (k : ℕ) (uses : List Use) → tally (of_filter (is_missed a) k) uses ≤ tally (of_filter (is_on a) k) uses
missed-few a k uses = tally-within (of_filter (is_missed a) k) (of_filter (is_on a) k) (λ u e. each (is_on a u.0) (not (satisfies u.0 a.1)) (u.1 == k) e) uses
  where
    each : (x y z : Bool) → (x && y) && z ≡ true → x && z ≡ true
    each true true z e = e
    each true false z e = cc
    each false y z e = cc

none-missed : (a : Attribute) (kind : Kind) → same_kind (kind_of a.1) kind ≡ false → (uses : List Use) → AreAll kind uses → (k : ℕ) → tally (of_filter (is_missed a) k) uses ≡ 0
none-missed a kind h uses all k = omega (arith, none-on a kind h uses all k, missed-few a k uses)

same-met : (a : Attribute) (xs ys : List Use) (k : ℕ) → tally (of_filter (is_on a) k) xs ≡ tally (of_filter (is_on a) k) ys → tally (of_filter (is_missed a) k) xs ≡ tally (of_filter (is_missed a) k) ys → is_met a xs k ≡ is_met a ys k
same-met a xs ys k e f = ap₂ (λ (x y : ℕ). nat_lt 0 x && nat_eq y 0) e f

more-by : (span : ℕ) (a : Attribute) (xs ys : List Use) (old new : List (Vec ℕ Global)) → ((k : ℕ) → is_met a xs k ≡ is_met a ys k) → HaveMore span a xs old new → HaveMore span a ys old new
more-by span a xs ys old new e h = record { long = h.long; more = λ k l. h.more k l ∙ ap {B = ℕ} (λ (b : Bool). rows_with old k + cond b 1 0) (e k) }

module _ (x : ByKind) (are : AreByKind x) (span : ℕ) (a : Attribute) (old new : List (Vec ℕ Global)) where
  pub read-int : kind_of a.1 ≡ kinds.Int → HaveMore span a x.ints old new → HaveMore span a (all_uses x) old new
  read-int e = more-by span a x.ints (all_uses x) old new (λ k. same-met a x.ints (all_uses x) k
      (omega (arith, tally-kinds (of_filter (is_on a) k) x, none-on a kinds.Bool (other kinds.Bool refl) x.bools are.bools k, none-on a kinds.Time (other kinds.Time refl) x.times are.times k, none-on a kinds.Str (other kinds.Str refl) x.strs are.strs k, none-on a kinds.Str (other kinds.Str refl) x.texts are.texts k))
      (omega (arith, tally-kinds (of_filter (is_missed a) k) x, none-missed a kinds.Bool (other kinds.Bool refl) x.bools are.bools k, none-missed a kinds.Time (other kinds.Time refl) x.times are.times k, none-missed a kinds.Str (other kinds.Str refl) x.strs are.strs k, none-missed a kinds.Str (other kinds.Str refl) x.texts are.texts k)))
    where
      other : (kind : Kind) → same_kind kinds.Int kind ≡ false → same_kind (kind_of a.1) kind ≡ false
      other kind h = ap (λ (z : Kind). same_kind z kind) e ∙ h

  pub read-bool : kind_of a.1 ≡ kinds.Bool → HaveMore span a x.bools old new → HaveMore span a (all_uses x) old new
  read-bool e = more-by span a x.bools (all_uses x) old new (λ k. same-met a x.bools (all_uses x) k
      (omega (arith, tally-kinds (of_filter (is_on a) k) x, none-on a kinds.Int (other kinds.Int refl) x.ints are.ints k, none-on a kinds.Time (other kinds.Time refl) x.times are.times k, none-on a kinds.Str (other kinds.Str refl) x.strs are.strs k, none-on a kinds.Str (other kinds.Str refl) x.texts are.texts k))
      (omega (arith, tally-kinds (of_filter (is_missed a) k) x, none-missed a kinds.Int (other kinds.Int refl) x.ints are.ints k, none-missed a kinds.Time (other kinds.Time refl) x.times are.times k, none-missed a kinds.Str (other kinds.Str refl) x.strs are.strs k, none-missed a kinds.Str (other kinds.Str refl) x.texts are.texts k)))
    where
      other : (kind : Kind) → same_kind kinds.Bool kind ≡ false → same_kind (kind_of a.1) kind ≡ false
      other kind h = ap (λ (z : Kind). same_kind z kind) e ∙ h

  pub read-time : kind_of a.1 ≡ kinds.Time → HaveMore span a x.times old new → HaveMore span a (all_uses x) old new
  read-time e = more-by span a x.times (all_uses x) old new (λ k. same-met a x.times (all_uses x) k
      (omega (arith, tally-kinds (of_filter (is_on a) k) x, none-on a kinds.Int (other kinds.Int refl) x.ints are.ints k, none-on a kinds.Bool (other kinds.Bool refl) x.bools are.bools k, none-on a kinds.Str (other kinds.Str refl) x.strs are.strs k, none-on a kinds.Str (other kinds.Str refl) x.texts are.texts k))
      (omega (arith, tally-kinds (of_filter (is_missed a) k) x, none-missed a kinds.Int (other kinds.Int refl) x.ints are.ints k, none-missed a kinds.Bool (other kinds.Bool refl) x.bools are.bools k, none-missed a kinds.Str (other kinds.Str refl) x.strs are.strs k, none-missed a kinds.Str (other kinds.Str refl) x.texts are.texts k)))
    where
      other : (kind : Kind) → same_kind kinds.Time kind ≡ false → same_kind (kind_of a.1) kind ≡ false
      other kind h = ap (λ (z : Kind). same_kind z kind) e ∙ h

  pub read-str : kind_of a.1 ≡ kinds.Str → HaveMore span a x.strs old new → HaveMore span a (all_uses x) old new
  read-str e = more-by span a x.strs (all_uses x) old new (λ k. same-met a x.strs (all_uses x) k
      (omega (arith, tally-kinds (of_filter (is_on a) k) x, none-on a kinds.Int (other kinds.Int refl) x.ints are.ints k, none-on a kinds.Bool (other kinds.Bool refl) x.bools are.bools k, none-on a kinds.Time (other kinds.Time refl) x.times are.times k, apart-on a x.texts are.alone k))
      (omega (arith, tally-kinds (of_filter (is_missed a) k) x, none-missed a kinds.Int (other kinds.Int refl) x.ints are.ints k, none-missed a kinds.Bool (other kinds.Bool refl) x.bools are.bools k, none-missed a kinds.Time (other kinds.Time refl) x.times are.times k, apart-on a x.texts are.alone k, missed-few a k x.texts)))
    where
      other : (kind : Kind) → same_kind kinds.Str kind ≡ false → same_kind (kind_of a.1) kind ≡ false
      other kind h = ap (λ (z : Kind). same_kind z kind) e ∙ h

-- no constraint on a str is satisfied by a value of another kind
pub no-text : (a : Attribute) (found : List ℕ) (uses : List Use) → same_kind (kind_of a.1) kinds.Str ≡ false → AreAll kinds.Str uses → Appends found found (ids_satisfied (a ∷ []) uses)
no-text a found uses e all = record {
  tail = [];
  whole = sym (append-nil found);
  same = λ q. omega (arith, all, tally-satisfied q (a ∷ []) uses, tally-within (λ u. is_satisfied (a ∷ []) u.0 && q u.1) (is_other kinds.Str) (λ u h. each u.0 ((and_parts (is_satisfied (a ∷ []) u.0) (q u.1) h).0)) uses);
}
  where
    each : (c : ConstraintParts) → is_satisfied (a ∷ []) c ≡ true → not (same_kind c.kind kinds.Str) ≡ true
    each c h = go (bytes_eq a.0 c.name) h
      where
        go : (b : Bool) → attribute_satisfies (cond b (Some a) None) c ≡ true → not (same_kind c.kind kinds.Str) ≡ true
        go true s = ap not (ap (λ (z : Kind). same_kind z kinds.Str) (sat-kind c a.1 s) ∙ e)
        go false s = cc

pub not-text : (v : Value) → ((x : List ℕ) → v ≡ values.Str x → ⊥) → same_kind (kind_of v) kinds.Str ≡ false
not-text (values.Bool b) h = refl
not-text (values.Int n) h = refl
not-text (values.Time t) h = refl
not-text (values.Str x) h = absurd (h x refl)

module _ (bound : ℕ) (x : ByKind) (known : AreKnown bound (all_uses x)) where
  pub known-ints : AreKnown bound x.ints
  known-ints = omega (arith, known, tally-kinds (λ u. nat_le bound u.1) x)

  pub known-bools : AreKnown bound x.bools
  known-bools = omega (arith, known, tally-kinds (λ u. nat_le bound u.1) x)

  pub known-times : AreKnown bound x.times
  known-times = omega (arith, known, tally-kinds (λ u. nat_le bound u.1) x)

  pub known-strs : AreKnown bound x.strs
  known-strs = omega (arith, known, tally-kinds (λ u. nat_le bound u.1) x)
