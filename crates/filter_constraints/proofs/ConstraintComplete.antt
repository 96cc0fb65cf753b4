-- The covering table says yes wherever each value of the covered constraint satisfies the covering one.
use Rattle.std.proofs.Common.{◌≡◌, ◌^◌, ◌<◌, ℕ, ℤ, pos, negsuc, true, false, refl, sym, subst, ◌∙◌, arith, List, [], ◌∷◌, Some, None, Option, FitsSigned}
use Rattle.std.proofs.lemmas.Int.{ints}
use Rattle.std.specs.Int.{w64}
use Rattle.filter_values.specs.Value.{IsValue}
use Rattle.filter_values.specs.Text.{IsText}
use Rattle.filter_values.specs.declared.value.Kind.{Kind}
use Rattle.filter_values.specs.declared.value.Kind.TheVariants as kinds
use Rattle.filter_values.specs.declared.value.Value.{Value}
use Rattle.filter_values.specs.declared.value.Value.TheVariants as values
use Rattle.filter_constraints.specs.declared.op.Op.{Op}
use Rattle.filter_constraints.specs.declared.op.Op.TheVariants as ops
use Rattle.filter_constraints.specs.Truths.{Truths, truth_allows, truth_covers, truth_form}
use Rattle.filter_constraints.specs.Numbers.{Numbers, IsWithin, number_allows, number_form}
use Rattle.filter_constraints.specs.Texts.{Texts, text_covers, text_form, IsTextForm, IsWider}
use Rattle.filter_constraints.specs.Constraint.{ConstraintParts, IsTextTest, IsTest, value_satisfies, form_of, form_allows, form_covers, int_least, int_greatest, time_least, time_greatest, satisfies, constraint_covers}
use Rattle.filter_constraints.specs.Constraint.Form.{time}
use Rattle.filter_constraints.specs.Complete.{AreCompleteTexts, AreCompleteForms, IsCompletePair, IsImplied}
use Rattle.filter_constraints.proofs.NumberForms as nf
use Rattle.filter_constraints.proofs.NumberLaws as nl
use Rattle.filter_constraints.proofs.TextWitnesses as tw
use Rattle.filter_constraints.proofs.ConstraintLaws.{wide, in_range, time_wide, time_in_range, form_same, subject-told}

pub fits : (x : ℤ) → IsWithin int_least int_greatest x → FitsSigned w64 x
fits x l = search (arith, ints)

-- a number of the range of times is a time
pub fits_time : (x : ℤ) → IsWithin time_least time_greatest x → (n : ℕ) × (n < 2 ^ 64) × (x ≡ pos n)
fits_time (pos n) l = (n, omega (arith, ints, l.high), refl)
fits_time (negsuc n) l = absurd (omega (arith, ints, l.low))

-- what each time passes, each number of the range passes
timed : (k m : Numbers) → ((x : Value) → IsValue x → form_allows (time m) x ≡ true → form_allows (time k) x ≡ true) → (x : ℤ) → IsWithin time_least time_greatest x → number_allows m x ≡ true → number_allows k x ≡ true
timed k m h x l q =
    let t = fits_time x l in
    subst (λ (y : ℤ). number_allows k y ≡ true) (sym t.2) (h (values.Time t.0) t.1 (subst (λ (y : ℤ). number_allows m y ≡ true) t.2 q))

truths-complete : (k m : Truths) → (truth_allows m true ≡ true → truth_allows k true ≡ true) → (truth_allows m false ≡ true → truth_allows k false ≡ true) → truth_covers k m ≡ true
truths-complete k m a b = grind arith

text-form : (op : Op) (u : List ℕ) → IsTextTest op u → IsText u → IsTextForm (text_form op u)
text-form ops.Any u i t = tt
text-form ops.Eq u i t = t
text-form ops.Ne u i t = t
text-form ops.Prefix u i t = (t, i)
text-form ops.Suffix u i t = (t, i)
text-form ops.Contains u i t = (t, i)
text-form ops.Lt [] i t = tt
text-form ops.Lt (c ∷ u) i t = (t, omega arith)
text-form ops.Le [] i t = t
text-form ops.Le (c ∷ u) i t = (t, omega arith)
text-form ops.Gt [] i t = t
text-form ops.Gt (c ∷ u) i t = (t, omega arith)
text-form ops.Ge [] i t = tt
text-form ops.Ge (c ∷ u) i t = (t, omega arith)

texts-complete : (k m : Texts) → IsTextForm k → IsTextForm m → AreCompleteTexts k m → IsWider k m → text_covers k m ≡ true
texts-complete Texts.all m i j t h = refl
texts-complete k Texts.empty i j t h = grind arith
texts-complete k (Texts.equal v) i j t h = tw.covered_one k v j h
texts-complete (Texts.unequal u) m i j t h = tw.covering_but u m i h
texts-complete k m i j t h = tw.patterns k m i j t.0 t.1 t.2 h

-- the same for the normal forms
by_form : (kind : Kind) (k m : Op) (o p : Option Value) → IsTest kind k o → IsTest kind m p → AreCompleteForms (form_of kind k o) (form_of kind m p) → ((x : Value) → IsValue x → form_allows (form_of kind m p) x ≡ true → form_allows (form_of kind k o) x ≡ true) → form_covers (form_of kind k o) (form_of kind m p) ≡ true
by_form kinds.Bool k m None None i j t h = refl
by_form kinds.Bool k m None (Some (values.Bool v)) i j t h = refl
by_form kinds.Bool k m (Some (values.Bool u)) None i j t h = truths-complete (truth_form k u) Truths.all (h (values.Bool true) tt) (h (values.Bool false) tt)
by_form kinds.Bool k m (Some (values.Bool u)) (Some (values.Bool v)) i j t h = truths-complete (truth_form k u) (truth_form m v) (h (values.Bool true) tt) (h (values.Bool false) tt)
by_form kinds.Int k m None None i j t h = refl
by_form kinds.Int k m None (Some (values.Int v)) i j t h = refl
by_form kinds.Int k m (Some (values.Int u)) None i j t h =
    nl.complete int_least int_greatest (number_form int_least int_greatest k u) Numbers.all wide (nf.form int_least int_greatest k u wide (in_range u i.1)) tt (λ x l q. h (values.Int x) (fits x l) q)
by_form kinds.Int k m (Some (values.Int u)) (Some (values.Int v)) i j t h =
    nl.complete int_least int_greatest (number_form int_least int_greatest k u) (number_form int_least int_greatest m v) wide (nf.form int_least int_greatest k u wide (in_range u i.1)) (nf.form int_least int_greatest m v wide (in_range v j.1)) (λ x l q. h (values.Int x) (fits x l) q)
by_form kinds.Str k m None None i j t h = refl
by_form kinds.Str k m None (Some (values.Str v)) i j t h = refl
by_form kinds.Str k m (Some (values.Str u)) None i j t h = texts-complete (text_form k u) Texts.all (text-form k u i.0 i.1) tt t (λ x v q. h (values.Str x) v q)
by_form kinds.Str k m (Some (values.Str u)) (Some (values.Str v)) i j t h =
    texts-complete (text_form k u) (text_form m v) (text-form k u i.0 i.1) (text-form m v j.0 j.1) t (λ x w q. h (values.Str x) w q)
by_form kinds.Time k m None None i j t h = refl
by_form kinds.Time k m None (Some (values.Time v)) i j t h = refl
by_form kinds.Time k m (Some (values.Time u)) None i j t h =
    let form = number_form time_least time_greatest k (pos u) in
    nl.complete time_least time_greatest form Numbers.all time_wide (nf.form time_least time_greatest k (pos u) time_wide (time_in_range u i.1)) tt (timed form Numbers.all h)
by_form kinds.Time k m (Some (values.Time u)) (Some (values.Time v)) i j t h =
    let form = number_form time_least time_greatest k (pos u) in let other = number_form time_least time_greatest m (pos v) in
    nl.complete time_least time_greatest form other time_wide (nf.form time_least time_greatest k (pos u) time_wide (time_in_range u i.1)) (nf.form time_least time_greatest m (pos v) time_wide (time_in_range v j.1)) (timed form other h)
by_form kind k m o p i j t h = absurd (assumption)

pub complete : (c d : ConstraintParts) → IsCompletePair c d → IsImplied c d → constraint_covers c d ≡ true
unfolding constraint_covers satisfies
complete c d p h =
    let e = p.kind in
    let test : IsTest c.kind d.op d.operand = subst (λ (k : Kind). IsTest k d.op d.operand) (sym e) p.second in
    let pair : AreCompleteForms (form_of c.kind c.op c.operand) (form_of c.kind d.op d.operand) = subst (λ (k : Kind). AreCompleteForms (form_of c.kind c.op c.operand) (form_of k d.op d.operand)) (sym e) p.forms in
    let f : form_covers (form_of c.kind c.op c.operand) (form_of c.kind d.op d.operand) ≡ true =
    by_form c.kind c.op d.op c.operand d.operand p.first test pair (λ x v q.
    form_same c.kind c.op c.operand x v ∙ h x v (subst (λ (k : Kind). value_satisfies k d.op d.operand x ≡ true) e (sym (form_same c.kind d.op d.operand x v) ∙ q))) in
    let g : form_covers (form_of c.kind c.op c.operand) (form_of d.kind d.op d.operand) ≡ true = subst (λ (k : Kind). form_covers (form_of c.kind c.op c.operand) (form_of k d.op d.operand) ≡ true) e f in
    rw (subject-told c d p.name e, g) refl
