-- Compatibility is symmetric, never no where one value satisfies both, and exact for int and bool.
use Rattle.std.proofs.Common.{◌≡◌, ◌≢◌, ℤ, pos, Bool, true, false, not, ◌||◌, refl, sym, subst, ◌∙◌, arith, Some, None, Option}
use Rattle.filter_values.specs.Value.{IsValue}
use Rattle.filter_values.specs.declared.value.Kind.{Kind}
use Rattle.filter_values.specs.declared.value.Kind.TheVariants as kinds
use Rattle.filter_values.specs.declared.value.Value.{Value}
use Rattle.filter_values.specs.declared.value.Value.TheVariants as values
use Rattle.filter_constraints.specs.declared.op.Op.{Op}
use Rattle.filter_constraints.specs.Truths.{Truths, truth_allows, truth_compatible, truth_form}
use Rattle.filter_constraints.specs.Numbers.{Numbers, number_form, number_conflicts, number_allows, IsWithin}
use Rattle.filter_constraints.specs.Texts.{text_conflicts}
use Rattle.filter_constraints.specs.Constraint.{ConstraintParts, Form, IsTest, IsConstraint, form_of, form_allows, form_compatible, int_least, int_greatest, time_least, time_greatest, same_subject, satisfies, compatible, value_satisfies}
use Rattle.filter_constraints.specs.Constraint.Form.{truth, number, text, time}
use Rattle.filter_constraints.specs.Complete.{SharesValue}
use Rattle.filter_constraints.proofs.NumberForms as nf
use Rattle.filter_constraints.proofs.NumberLaws as nl
use Rattle.filter_constraints.proofs.ConstraintComplete.{fits, fits_time}
use Rattle.filter_constraints.proofs.ConstraintLaws.{wide, in_range, time_wide, time_in_range, form_same, subject-tells, subject-told, shared-compatible}
use Rattle.std.proofs.lemmas.Bool.{and_parts}
use Rattle.std.specs.Cmp.{both_ways}

pub normal : (c : ConstraintParts) (x : Value) → IsValue x → form_allows (form_of c.kind c.op c.operand) x ≡ satisfies c x
unfolding satisfies
normal c x v = form_same c.kind c.op c.operand x v

swapped : (a b : Bool) → not (a || b) ≡ true → not (b || a) ≡ true
swapped true b h = cc
swapped false true h = cc
swapped false false h = refl

form_symmetric : (k m : Form) → form_compatible k m ≡ true → form_compatible m k ≡ true
form_symmetric (truth k) (truth m) h = grind arith
form_symmetric (number k) (number m) h = swapped (number_conflicts k m) (number_conflicts m k) h
form_symmetric (text k) (text m) h = swapped (text_conflicts k m) (text_conflicts m k) h
form_symmetric (time k) (time m) h = swapped (number_conflicts k m) (number_conflicts m k) h
form_symmetric k m h = cc

one_way : (c d : ConstraintParts) → compatible c d ≡ true → compatible d c ≡ true
unfolding compatible
one_way c d h =
    let p = and_parts (same_subject c d) _ h in let s = subject-tells c d p.0 in
    rw (subject-told d c (sym s.0) (sym s.1), form_symmetric (form_of c.kind c.op c.operand) (form_of d.kind d.op d.operand) p.1) refl

pub symmetric : (c d : ConstraintParts) → compatible c d ≡ compatible d c
symmetric c d = both_ways (compatible c d) (compatible d c) (one_way c d) (one_way d c)

pub never_wrong : (c d : ConstraintParts) → c.name ≡ d.name → SharesValue c d → compatible c d ≡ true
never_wrong c d n s = shared-compatible c d s.0 s.1 n s.2 s.3

-- a value meets both normal forms
abbrev MeetsBoth : Form → Form → Type 0
MeetsBoth k m = (x : Value) × IsValue x × (form_allows k x ≡ true) × (form_allows m x ≡ true)

truth_self : (u : Bool) → truth_allows (Truths.equal u) u ≡ true
truth_self true = refl
truth_self false = refl

truths-exact : (k m : Truths) → truth_compatible k m ≡ true → MeetsBoth (truth k) (truth m)
truths-exact Truths.all Truths.all h = (values.Bool true, tt, refl, refl)
truths-exact Truths.all (Truths.equal v) h = (values.Bool v, tt, refl, truth_self v)
truths-exact (Truths.equal u) Truths.all h = (values.Bool u, tt, truth_self u, refl)
truths-exact (Truths.equal u) (Truths.equal v) h = (values.Bool u, tt, truth_self u, h)

numbers-exact : (k m : Numbers) → ((x : ℤ) × IsWithin int_least int_greatest x × (number_allows k x ≡ true) × (number_allows m x ≡ true)) → MeetsBoth (number k) (number m)
numbers-exact k m w = (values.Int w.0, fits w.0 w.1, w.2, w.3)

times-exact : (k m : Numbers) → ((x : ℤ) × IsWithin time_least time_greatest x × (number_allows k x ≡ true) × (number_allows m x ≡ true)) → MeetsBoth (time k) (time m)
times-exact k m w =
    let t = fits_time w.0 w.1 in
    (values.Time t.0, t.1, subst (λ (y : ℤ). number_allows k y ≡ true) t.2 w.2, subst (λ (y : ℤ). number_allows m y ≡ true) t.2 w.3)

by_form : (kind : Kind) (k m : Op) (o p : Option Value) → IsTest kind k o → IsTest kind m p → kind ≢ kinds.Str → form_compatible (form_of kind k o) (form_of kind m p) ≡ true → MeetsBoth (form_of kind k o) (form_of kind m p)
by_form kinds.Bool k m None None i j n h = truths-exact Truths.all Truths.all h
by_form kinds.Bool k m None (Some (values.Bool v)) i j n h = truths-exact Truths.all (truth_form m v) h
by_form kinds.Bool k m (Some (values.Bool u)) None i j n h = truths-exact (truth_form k u) Truths.all h
by_form kinds.Bool k m (Some (values.Bool u)) (Some (values.Bool v)) i j n h = truths-exact (truth_form k u) (truth_form m v) h
by_form kinds.Int k m None None i j n h =
    numbers-exact Numbers.all Numbers.all (nl.exact int_least int_greatest Numbers.all Numbers.all wide tt tt h)
by_form kinds.Int k m None (Some (values.Int v)) i j n h =
    numbers-exact Numbers.all (number_form int_least int_greatest m v) (nl.exact int_least int_greatest Numbers.all (number_form int_least int_greatest m v) wide tt (nf.form int_least int_greatest m v wide (in_range v j.1)) h)
by_form kinds.Int k m (Some (values.Int u)) None i j n h =
    numbers-exact (number_form int_least int_greatest k u) Numbers.all (nl.exact int_least int_greatest (number_form int_least int_greatest k u) Numbers.all wide (nf.form int_least int_greatest k u wide (in_range u i.1)) tt h)
by_form kinds.Int k m (Some (values.Int u)) (Some (values.Int v)) i j n h =
    numbers-exact (number_form int_least int_greatest k u) (number_form int_least int_greatest m v) (nl.exact int_least int_greatest (number_form int_least int_greatest k u) (number_form int_least int_greatest m v) wide (nf.form int_least int_greatest k u wide (in_range u i.1)) (nf.form int_least int_greatest m v wide (in_range v j.1)) h)
by_form kinds.Time k m None None i j n h =
    times-exact Numbers.all Numbers.all (nl.exact time_least time_greatest Numbers.all Numbers.all time_wide tt tt h)
by_form kinds.Time k m None (Some (values.Time v)) i j n h =
    let other = number_form time_least time_greatest m (pos v) in
    times-exact Numbers.all other (nl.exact time_least time_greatest Numbers.all other time_wide tt (nf.form time_least time_greatest m (pos v) time_wide (time_in_range v j.1)) h)
by_form kinds.Time k m (Some (values.Time u)) None i j n h =
    let form = number_form time_least time_greatest k (pos u) in
    times-exact form Numbers.all (nl.exact time_least time_greatest form Numbers.all time_wide (nf.form time_least time_greatest k (pos u) time_wide (time_in_range u i.1)) tt h)
by_form kinds.Time k m (Some (values.Time u)) (Some (values.Time v)) i j n h =
    let form = number_form time_least time_greatest k (pos u) in let other = number_form time_least time_greatest m (pos v) in
    times-exact form other (nl.exact time_least time_greatest form other time_wide (nf.form time_least time_greatest k (pos u) time_wide (time_in_range u i.1)) (nf.form time_least time_greatest m (pos v) time_wide (time_in_range v j.1)) h)
by_form kinds.Str k m o p i j n h = absurd (n refl)
by_form kind k m o p i j n h = absurd (assumption)

pub exact : (c d : ConstraintParts) → IsConstraint c → IsConstraint d → c.kind ≢ kinds.Str → compatible c d ≡ true → SharesValue c d
unfolding compatible satisfies
exact c d i j n h =
    let p = and_parts (same_subject c d) _ h in let e = (subject-tells c d p.0).1 in
    let test : IsTest c.kind d.op d.operand = subst (λ (k : Kind). IsTest k d.op d.operand) (sym e) j in
    let f : form_compatible (form_of c.kind c.op c.operand) (form_of c.kind d.op d.operand) ≡ true = subst (λ (k : Kind). form_compatible (form_of c.kind c.op c.operand) (form_of k d.op d.operand) ≡ true) (sym e) p.1 in
    let w = by_form c.kind c.op d.op c.operand d.operand i test n f in (
      w.0,
      w.1,
      sym (form_same c.kind c.op c.operand w.0 w.1) ∙ w.2,
      subst (λ (k : Kind). value_satisfies k d.op d.operand w.0 ≡ true) e (sym (form_same c.kind d.op d.operand w.0 w.1) ∙ w.3),
    )
