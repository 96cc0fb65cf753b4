-- One pair more, among operands that say what the pairs say of texts.
use Rattle.std.proofs.Common.{◌≡◌, ◌&&◌, ◌==◌, ◌∙◌, ℕ, ◌+◌, ◌*◌, ◌<◌, Bool, false, not, cond, nat_le, List, [], ◌∷◌, length, Some, None, refl, sym, ap, ap₂, subst, arith}
use Rattle.std.specs.declared.option.Option.{Option}
use Rattle.std.specs.Ordering.{nat_cmp}
use Rattle.std.specs.Cmp.Lexicographic.{slice_cmp}
use Rattle.std.proofs.lemmas.Bool.Decides.{nat_tests}
use Rattle.filter_values.specs.declared.value.Kind.{Kind}
use Rattle.filter_values.specs.declared.value.Kind.TheVariants as kinds
use Rattle.filter_values.specs.declared.value.Value.{Value}
use Rattle.filter_values.specs.declared.value.Value.TheVariants as values
use Rattle.filter_constraints.specs.declared.op.Op.{Op}
use Rattle.filter_constraints.specs.declared.op.Op.TheVariants as ops
use Rattle.filter_constraints.specs.Constraint.{ConstraintParts, IsConstraint, IsTest}
use Rattle.match_index.specs.Pairs.{tally, Pair, test_of, passes}
use Rattle.match_index.specs.Heads.{is_pattern_op}
use Rattle.match_index.specs.Keys.{key_of}
use Rattle.match_index.specs.Lines.{on_side}
use Rattle.match_index.proofs.Codes.{encode}
use Rattle.match_index.proofs.Meets.{side-passes}
use Rattle.match_cells.specs.declared.ask.Ask.{Ask}
use Rattle.match_cells.specs.Asks.{met}
use Rattle.match_cells.specs.Cells.{Groups, asked, total, AreKnown}
use Rattle.match_cells.specs.Places.{AreRising, missed_by, side_of}
use Rattle.match_numbers.specs.Kinds.{sides_for}
use Rattle.match_numbers.specs.Operands.{is_apart, is_other, AreOf, is_missed}
use Rattle.match_numbers.specs.Texts.{AreTextsTold}
use Rattle.match_numbers.proofs.KindsMet.{usual, no-operand}
use Rattle.match_numbers.proofs.Putting.{no-more, of-value}

pub texts-none : AreTextsTold [] [] []
texts-none = record {
  paired = refl;
  rising = λ d j k l m. absurd (omega (arith, m));
  least = λ x of k. omega arith;
  most = λ x of k. omega arith;
  misses = λ x of k. refl;
  known = λ span below d e c i l m. absurd (omega (arith, l));
  size = omega arith;
}

-- the operand of a constraint is on a side that its operator asks for exactly where the text passes its test
text-passes : (op : Op) (operand : Option Value) → is_pattern_op op ≡ false → IsTest kinds.Str op operand → (x : List ℕ) → on_side (sides_for op) (slice_cmp nat_cmp (key_of operand) x) ≡ passes (values.Str x) (record { kind = kinds.Str; op = op; operand = operand })
text-passes op None p t x = no-operand op _ t
text-passes op (Some (values.Str u)) p t x =
    let n : op ≡ ops.Any → ⊥ = λ e. (subst (λ (o : Op). IsTest kinds.Str o (Some (values.Str u))) e t).0 in
    ap (λ s. on_side s (slice_cmp nat_cmp u x)) (usual op n) ∙ (side-passes op p n x u ∙ ap (passes (values.Str x)) (encode op (Some (values.Str u)) t))
text-passes op (Some (values.Bool u)) p t x = absurd t
text-passes op (Some (values.Int u)) p t x = absurd t
text-passes op (Some (values.Time u)) p t x = absurd t

-- a pair of another kind says nothing of texts
pub texts-other : (c : ConstraintParts) → (c.kind ≡ kinds.Str → ⊥) → (id : ℕ) (cuts : List (List ℕ)) (groups : Groups) (pairs : List Pair) → AreTextsTold cuts groups pairs → AreTextsTold cuts groups ((test_of c, id) ∷ pairs)
texts-other c e id cuts groups pairs is = record {
  paired = is.paired;
  rising = is.rising;
  least = λ x of k. absurd (never x of);
  most = λ x of k. absurd (never x of);
  misses = λ x of k. absurd (never x of);
  known = λ span below. is.known span (no-more (nat_le (64 * span) id) (tally (λ p. nat_le (64 * span) p.1) pairs) below).1;
  size = omega (arith, is.size);
}
  where
    never : (x : List ℕ) → AreOf (values.Str x) ((test_of c, id) ∷ pairs) → ⊥
    never x of = e (of-value c.kind kinds.Str (is_apart (test_of c)) (no-more (is_other (values.Str x) (test_of c, id)) (tally (is_other (values.Str x)) pairs) of).0).0

pub texts-more : (c : ConstraintParts) → IsConstraint c → (id : ℕ) (key : List ℕ) → key ≡ key_of c.operand → (ask : Ask) → ask.id ≡ id → ((o : _) → met (side_of o) ask ≡ on_side (sides_for c.op) o) → (cuts more : List (List ℕ)) (groups others : Groups) (pairs : List Pair) → AreTextsTold cuts groups pairs
    → length more ≡ length others → AreRising (slice_cmp nat_cmp) more
    → ((x : List ℕ) (k : ℕ) → missed_by (slice_cmp nat_cmp) x k more others ≡ cond ((ask.id == k) && not (met (side_of (slice_cmp nat_cmp key x)) ask)) 1 0 + missed_by (slice_cmp nat_cmp) x k cuts groups)
    → ((k : ℕ) → asked k others ≡ cond (ask.id == k) 1 0 + asked k groups)
    → ((span : ℕ) → AreKnown span groups → ask.id < 64 * span → AreKnown span others)
    → total others ≡ 1 + total groups
    → AreTextsTold more others ((test_of c, id) ∷ pairs)
texts-more c valid id key from ask own sides cuts more groups others pairs is paired rising missed asks known size = record {
  paired = paired;
  rising = rising;
  least = λ x of k. omega (arith, asks k, is.least x (later x of) k, ap {B = ℕ} (λ (i : ℕ). cond (i == k) 1 0) own);
  most = λ x of k. omega (arith, asks k, is.most x (later x of) k, ap {B = ℕ} (λ (i : ℕ). cond (i == k) 1 0) own);
  misses = misses;
  known = λ span below. (let b = no-more (nat_le (64 * span) id) (tally (λ p. nat_le (64 * span) p.1) pairs) below in known span (is.known span b.1) (subst (λ (i : ℕ). i < 64 * span) (sym own) (grind (arith, nat_tests, b.0))));
  size = omega (arith, size, is.size);
}
  where
    later : (x : List ℕ) → AreOf (values.Str x) ((test_of c, id) ∷ pairs) → AreOf (values.Str x) pairs
    later x of = (no-more (is_other (values.Str x) (test_of c, id)) (tally (is_other (values.Str x)) pairs) of).1

    misses : (x : List ℕ) → AreOf (values.Str x) ((test_of c, id) ∷ pairs) → (k : ℕ) → missed_by (slice_cmp nat_cmp) x k more others ≡ tally (is_missed (values.Str x) k) ((test_of c, id) ∷ pairs)
    misses x of k =
        let b = of-value c.kind kinds.Str (is_apart (test_of c)) (no-more (is_other (values.Str x) (test_of c, id)) (tally (is_other (values.Str x)) pairs) of).0 in
        let plain : is_pattern_op c.op ≡ false = ap (λ (z : Kind). is_apart (record { kind = z; op = c.op; operand = c.operand })) (sym b.0) ∙ b.1 in
        let valid2 : IsTest kinds.Str c.op c.operand = subst (λ (z : Kind). IsTest z c.op c.operand) b.0 valid in
        let p : on_side (sides_for c.op) (slice_cmp nat_cmp (key_of c.operand) x) ≡ passes (values.Str x) (test_of c) = text-passes c.op c.operand plain valid2 x ∙ ap (λ (z : Kind). passes (values.Str x) (record { kind = z; op = c.op; operand = c.operand })) (sym b.0) in
        let m : met (side_of (slice_cmp nat_cmp key x)) ask ≡ passes (values.Str x) (test_of c) = ap (λ (z : List ℕ). met (side_of (slice_cmp nat_cmp z x)) ask) from ∙ (sides _ ∙ p) in
        omega (arith, missed x k, is.misses x (later x of) k, ap₂ {C = ℕ} (λ (i : ℕ) (t : Bool). cond ((i == k) && not t) 1 0) own m)
