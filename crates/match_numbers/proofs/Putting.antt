-- One pair more, among operands that say what the pairs say.
use Rattle.std.proofs.Common.{◌≡◌, ◌&&◌, ◌||◌, ◌==◌, inl, inr, ◌∙◌, ℕ, ℤ, ◌+◌, ◌*◌, ◌<◌, Bool, true, false, not, cond, nat_le, List, [], ◌∷◌, length, Some, refl, sym, ap, ap₂, subst, arith}
use Rattle.std.specs.Ordering.{int_cmp}
use Rattle.std.proofs.lemmas.Bool.Decides.{nat_tests}
use Rattle.filter_values.specs.Value.{kind_of, same_kind}
use Rattle.filter_values.specs.declared.value.Kind.{Kind}
use Rattle.filter_values.specs.declared.value.Kind.TheVariants as kinds
use Rattle.filter_values.specs.declared.value.Value.{Value}
use Rattle.filter_constraints.specs.Constraint.{ConstraintParts, IsConstraint, IsTest}
use Rattle.match_index.specs.Pairs.{tally, Pair, test_of, passes}
use Rattle.match_index.specs.Lines.{on_side}
use Rattle.match_cells.specs.declared.ask.Ask.{Ask}
use Rattle.match_cells.specs.Asks.{met}
use Rattle.match_cells.specs.Cells.{Groups, asked, total, AreKnown}
use Rattle.match_cells.specs.Places.{AreRising, missed_by, side_of}
use Rattle.match_numbers.specs.Keys.{key_of}
use Rattle.match_numbers.specs.Kinds.{sides_for}
use Rattle.match_numbers.specs.Operands.{IsNumeric, is_apart, is_other, AreOf, is_missed, IsTold}
use Rattle.match_numbers.proofs.KindsMet.{side-passes}

pub told-none : IsTold [] [] []
told-none = record {
  paired = refl;
  rising = λ d j k l m. absurd (omega (arith, m));
  asks = λ v n of k. refl;
  misses = λ v n of k. refl;
  known = λ span below d e c i l m. absurd (omega (arith, l));
  size = omega arith;
}

pub no-more : (b : Bool) (n : ℕ) → cond b 1 0 + n ≡ 0 → (b ≡ false) × (n ≡ 0)
no-more true n e = absurd (omega (arith, e))
no-more false n e = (refl, omega (arith, e))

pub of-value : (a b : Kind) (apart : Bool) → not (same_kind a b) || apart ≡ false → (a ≡ b) × (apart ≡ false)
of-value a b true h = absurd (both (not (same_kind a b)) h)
  where
    both : (x : Bool) → x || true ≡ false → ⊥
    both true e = cc
    both false e = cc
of-value a b false h = (same a b (drop (not (same_kind a b)) h), refl)
  where
    drop : (x : Bool) → x || false ≡ false → x ≡ false
    drop true e = cc
    drop false e = refl

    same : (a b : Kind) → not (same_kind a b) ≡ false → a ≡ b
    same a b e = grind arith

-- a pair of a text says nothing of numbers
pub told-other : (c : ConstraintParts) → c.kind ≡ kinds.Str → (id : ℕ) (cuts : List ℤ) (groups : Groups) (pairs : List Pair) → IsTold cuts groups pairs → IsTold cuts groups ((test_of c, id) ∷ pairs)
told-other c e id cuts groups pairs is = record {
  paired = is.paired;
  rising = is.rising;
  asks = λ v n of k. absurd (never v n of);
  misses = λ v n of k. absurd (never v n of);
  known = λ span below. is.known span (no-more (nat_le (64 * span) id) (tally (λ p. nat_le (64 * span) p.1) pairs) below).1;
  size = omega (arith, is.size);
}
  where
    no-text : (kind : Kind) → IsNumeric kind → kind ≡ kinds.Str → ⊥
    no-text kind (inl p) q = cc
    no-text kind (inr (inl p)) q = cc
    no-text kind (inr (inr p)) q = cc

    never : (v : Value) → IsNumeric (kind_of v) → AreOf v ((test_of c, id) ∷ pairs) → ⊥
    never v n of = no-text (kind_of v) n (sym (of-value c.kind (kind_of v) (is_apart (test_of c)) (no-more (is_other v (test_of c, id)) (tally (is_other v) pairs) of).0).0 ∙ e)

pub told-more : (c : ConstraintParts) → IsConstraint c → (id : ℕ) (key : ℤ) → key ≡ key_of c.operand → (ask : Ask) → ask.id ≡ id → ((o : _) → met (side_of o) ask ≡ on_side (sides_for c.op) o) → (cuts more : List ℤ) (groups others : Groups) (pairs : List Pair) → IsTold cuts groups pairs
    → length more ≡ length others → AreRising int_cmp more
    → ((x : ℤ) (k : ℕ) → missed_by int_cmp x k more others ≡ cond ((ask.id == k) && not (met (side_of (int_cmp key x)) ask)) 1 0 + missed_by int_cmp x k cuts groups)
    → ((k : ℕ) → asked k others ≡ cond (ask.id == k) 1 0 + asked k groups)
    → ((span : ℕ) → AreKnown span groups → ask.id < 64 * span → AreKnown span others)
    → total others ≡ 1 + total groups
    → IsTold more others ((test_of c, id) ∷ pairs)
told-more c valid id key from ask own sides cuts more groups others pairs is paired rising missed asks known size = record {
  paired = paired;
  rising = rising;
  asks = λ v n of k. omega (arith, asks k, is.asks v n (no-more (is_other v (test_of c, id)) (tally (is_other v) pairs) of).1 k, ap {B = ℕ} (λ (i : ℕ). cond (i == k) 1 0) own);
  misses = misses;
  known = λ span below. (let b = no-more (nat_le (64 * span) id) (tally (λ p. nat_le (64 * span) p.1) pairs) below in known span (is.known span b.1) (subst (λ (i : ℕ). i < 64 * span) (sym own) (grind (arith, nat_tests, b.0))));
  size = omega (arith, size, is.size);
}
  where
    misses : (v : Value) → IsNumeric (kind_of v) → AreOf v ((test_of c, id) ∷ pairs) → (k : ℕ) → missed_by int_cmp (key_of (Some v)) k more others ≡ tally (is_missed v k) ((test_of c, id) ∷ pairs)
    misses v n of k =
        let b = no-more (is_other v (test_of c, id)) (tally (is_other v) pairs) of in
        let kind : c.kind ≡ kind_of v = (of-value c.kind (kind_of v) (is_apart (test_of c)) b.0).0 in
        let valid2 : IsTest (kind_of v) c.op c.operand = subst (λ (z : Kind). IsTest z c.op c.operand) kind valid in
        let p : on_side (sides_for c.op) (int_cmp (key_of c.operand) (key_of (Some v))) ≡ passes v (test_of c) = side-passes v c.op c.operand n valid2 ∙ ap (λ (z : Kind). passes v (record { kind = z; op = c.op; operand = c.operand })) (sym kind) in
        let m : met (side_of (int_cmp key (key_of (Some v)))) ask ≡ passes v (test_of c) = ap (λ (z : ℤ). met (side_of (int_cmp z (key_of (Some v)))) ask) from ∙ (sides _ ∙ p) in
        omega (arith, missed (key_of (Some v)) k, is.misses v n b.1 k, ap₂ {C = ℕ} (λ (i : ℕ) (t : Bool). cond ((i == k) && not t) 1 0) own m)
