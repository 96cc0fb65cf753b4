-- Proves that covering and compatibility of constraints are sound.
use Rattle.std.proofs.Common.{◌≡◌, ◌<◌, ◌^◌, ℕ, ℤ, pos, Bool, true, false, not, ◌&&◌, refl, sym, subst, ◌∙◌, arith, List, [], ◌∷◌, Some, None, Option, FitsSigned}
use Rattle.std.proofs.lemmas.Int.{ints}
use Rattle.std.specs.Int.{w64}
use Rattle.std.specs.Str.{bytes_eq}
use Rattle.filter_values.specs.Value.{IsValue, kind_of, same_kind}
use Rattle.filter_values.specs.declared.value.Kind.{Kind}
use Rattle.filter_values.specs.declared.value.Kind.TheVariants as kinds
use Rattle.filter_values.specs.declared.value.Value.{Value}
use Rattle.filter_values.specs.declared.value.Value.TheVariants as values
use Rattle.filter_constraints.specs.declared.op.Op.{Op}
use Rattle.filter_constraints.specs.declared.op.Op.TheVariants as ops
use Rattle.filter_constraints.specs.Bytes.{less}
use Rattle.filter_constraints.specs.Truths.{truth_allows, truth_satisfies, truth_form}
use Rattle.filter_constraints.specs.Numbers.{IsWithin, IsWide}
use Rattle.filter_constraints.specs.Texts.{text_allows, text_satisfies, text_form}
use Rattle.filter_constraints.specs.Constraint.{ConstraintParts, Form, value_satisfies, form_of, form_allows, form_covers, form_compatible, int_least, int_greatest, time_least, time_greatest, same_subject, satisfies, constraint_covers, compatible}
use Rattle.filter_constraints.specs.Constraint.Form.{truth, number, text, time, no_form}
use Rattle.filter_constraints.proofs.BytesLemmas.{bytes_eq-tells, bytes_eq-told}
use Rattle.filter_constraints.proofs.NumberForms as nf
use Rattle.filter_constraints.proofs.TextLaws as tl
use Rattle.std.proofs.lemmas.Bool.{and_parts}

pub wide : IsWide int_least int_greatest
wide = omega (arith, ints)

pub in_range : (x : ℤ) → FitsSigned w64 x → IsWithin int_least int_greatest x
in_range x f = record { low = omega (arith, ints); high = omega (arith, ints) }

pub time_wide : IsWide time_least time_greatest
time_wide = omega (arith, ints)

pub time_in_range : (x : ℕ) → x < 2 ^ 64 → IsWithin time_least time_greatest (pos x)
time_in_range x f = record { low = omega (arith, ints); high = omega (arith, ints) }

nothing_less : (x : List ℕ) → less x [] ≡ false
unfolding less
nothing_less [] = refl
nothing_less (b ∷ x) = refl

less_than_some : (x : List ℕ) → less [] x ≡ not (bytes_eq x [])
unfolding less
less_than_some [] = refl
less_than_some (b ∷ x) = refl

text_same : (op : Op) (u x : List ℕ) → text_allows (text_form op u) x ≡ text_satisfies op x u
text_same ops.Any u x = refl
text_same ops.Eq u x = refl
text_same ops.Ne u x = refl
text_same ops.Prefix u x = refl
text_same ops.Suffix u x = refl
text_same ops.Contains u x = refl
text_same ops.Lt [] x = sym (nothing_less x)
text_same ops.Lt (c ∷ u) x = refl
text_same ops.Le [] x = rw (less_than_some x) (twice (bytes_eq x []))
  where
    twice : (b : Bool) → b ≡ not (not b)
    twice true = refl
    twice false = refl
text_same ops.Le (c ∷ u) x = refl
text_same ops.Gt [] x = sym (less_than_some x)
text_same ops.Gt (c ∷ u) x = refl
text_same ops.Ge [] x = rw (nothing_less x) refl
text_same ops.Ge (c ∷ u) x = refl

truth_same : (op : Op) (u x : Bool) → truth_allows (truth_form op u) x ≡ truth_satisfies op x u
truth_same ops.Eq u x = refl
truth_same ops.Ne true true = refl
truth_same ops.Ne true false = refl
truth_same ops.Ne false true = refl
truth_same ops.Ne false false = refl
truth_same op u x = refl

-- the normal form allows what the constraint allows
pub form_same : (kind : Kind) (op : Op) (operand : Option Value) (x : Value) → IsValue x → form_allows (form_of kind op operand) x ≡ value_satisfies kind op operand x
form_same kinds.Bool op None (values.Bool x) i = refl
form_same kinds.Int op None (values.Int x) i = refl
form_same kinds.Str op None (values.Str x) i = refl
form_same kinds.Time op None (values.Time x) i = refl
form_same kinds.Bool op (Some (values.Bool u)) (values.Bool x) i = truth_same op u x
form_same kinds.Int op (Some (values.Int u)) (values.Int x) i = nf.same int_least int_greatest op u x wide (in_range x i)
form_same kinds.Str op (Some (values.Str u)) (values.Str x) i = text_same op u x
form_same kinds.Time op (Some (values.Time u)) (values.Time x) i = nf.same time_least time_greatest op (pos u) (pos x) time_wide (time_in_range x i)
form_same kind op operand x i = refl

form_reflexive : (k : Form) → form_covers k k ≡ true
form_reflexive (truth k) = grind arith
form_reflexive (number k) = grind (arith, ints)
form_reflexive (text k) = tl.reflexive k
form_reflexive (time k) = grind (arith, ints)
form_reflexive no_form = refl

form_transitive : (k m n : Form) → form_covers k m ≡ true → form_covers m n ≡ true → form_covers k n ≡ true
form_transitive (truth k) (truth m) (truth n) h j = grind arith
form_transitive (number k) (number m) (number n) h j = grind (arith, ints)
form_transitive (text k) (text m) (text n) h j = tl.transitive k m n h j
form_transitive (time k) (time m) (time n) h j = grind (arith, ints)
form_transitive no_form no_form n h j = j
form_transitive k m n h j = cc

form_sound : (k m : Form) (x : Value) → form_covers k m ≡ true → form_allows m x ≡ true → form_allows k x ≡ true
form_sound (truth k) (truth m) (values.Bool x) h j = grind arith
form_sound (number k) (number m) (values.Int x) h j = grind (arith, ints)
form_sound (text k) (text m) (values.Str x) h j = tl.sound k m x h j
form_sound (time k) (time m) (values.Time x) h j = grind (arith, ints)
form_sound k m (values.Bool x) h j = grind arith
form_sound k m (values.Int x) h j = grind arith
form_sound k m (values.Str x) h j = grind arith
form_sound k m (values.Time x) h j = grind arith

form_never_wrong : (k m : Form) (x : Value) → form_allows k x ≡ true → form_allows m x ≡ true → form_compatible k m ≡ true
form_never_wrong (truth k) (truth m) (values.Bool x) h j = grind arith
form_never_wrong (number k) (number m) (values.Int x) h j = grind (arith, ints)
form_never_wrong (text k) (text m) (values.Str x) h j = tl.never_wrong k m x h j
form_never_wrong (time k) (time m) (values.Time x) h j = grind (arith, ints)
form_never_wrong k m (values.Bool x) h j = cc
form_never_wrong k m (values.Int x) h j = cc
form_never_wrong k m (values.Str x) h j = cc
form_never_wrong k m (values.Time x) h j = cc

kind-told : (a b : Kind) → a ≡ b → same_kind a b ≡ true
kind-told a b e = subst (λ (x : Kind). same_kind a x ≡ true) e (self a)
  where
    self : (x : Kind) → same_kind x x ≡ true
    self kinds.Bool = refl
    self kinds.Int = refl
    self kinds.Str = refl
    self kinds.Time = refl

kind-tells : (a b : Kind) → same_kind a b ≡ true → a ≡ b
kind-tells a b h = grind arith

pub subject-tells : (c d : ConstraintParts) → same_subject c d ≡ true → (c.name ≡ d.name) × (c.kind ≡ d.kind)
subject-tells c d h =
    let p = and_parts (bytes_eq c.name d.name) (same_kind c.kind d.kind) h in
    (bytes_eq-tells c.name d.name p.0, kind-tells c.kind d.kind p.1)

pub subject-told : (c d : ConstraintParts) → c.name ≡ d.name → c.kind ≡ d.kind → same_subject c d ≡ true
subject-told c d n k = rw (bytes_eq-told c.name d.name n) (kind-told c.kind d.kind k)

pub covers-self : (c : ConstraintParts) → constraint_covers c c ≡ true
unfolding constraint_covers
covers-self c = rw (subject-told c c refl refl, form_reflexive (form_of c.kind c.op c.operand)) refl

pub covers-covers : (c d e : ConstraintParts) → constraint_covers c d ≡ true → constraint_covers d e ≡ true → constraint_covers c e ≡ true
unfolding constraint_covers
covers-covers c d e h j =
    let p = and_parts (same_subject c d) _ h in let q = and_parts (same_subject d e) _ j in
    let s = subject-tells c d p.0 in let t = subject-tells d e q.0 in
    let f = form_transitive (form_of c.kind c.op c.operand) (form_of d.kind d.op d.operand) (form_of e.kind e.op e.operand) p.1 q.1 in
    rw (subject-told c e (s.0 ∙ t.0) (s.1 ∙ t.1), f) refl

pub covers-name : (c d : ConstraintParts) → constraint_covers c d ≡ true → c.name ≡ d.name
unfolding constraint_covers
covers-name c d h = (subject-tells c d (and_parts (same_subject c d) _ h).0).0

pub covers-sound : (c d : ConstraintParts) (x : Value) → IsValue x → constraint_covers c d ≡ true → satisfies d x ≡ true → satisfies c x ≡ true
unfolding constraint_covers satisfies
covers-sound c d x v h s =
    let p = and_parts (same_subject c d) _ h in
    sym (form_same c.kind c.op c.operand x v) ∙ form_sound (form_of c.kind c.op c.operand) (form_of d.kind d.op d.operand) x p.1 (form_same d.kind d.op d.operand x v ∙ s)

value_satisfies-kind : (kind : Kind) (op : Op) (operand : Option Value) (x : Value) → value_satisfies kind op operand x ≡ true → kind ≡ kind_of x
value_satisfies-kind kind op operand x h = grind arith

pub sat-kind : (c : ConstraintParts) (x : Value) → satisfies c x ≡ true → c.kind ≡ kind_of x
unfolding satisfies
sat-kind c x h = value_satisfies-kind c.kind c.op c.operand x h

pub shared-compatible : (c d : ConstraintParts) (x : Value) → IsValue x → c.name ≡ d.name → satisfies c x ≡ true → satisfies d x ≡ true → compatible c d ≡ true
unfolding compatible
shared-compatible c d x v n h s =
    let f = form_never_wrong (form_of c.kind c.op c.operand) (form_of d.kind d.op d.operand) x (form_same c.kind c.op c.operand x v ∙ (unfold satisfies in h)) (form_same d.kind d.op d.operand x v ∙ (unfold satisfies in s)) in
    rw (subject-told c d n (sat-kind c x h ∙ sym (sat-kind d x s)), f) refl
