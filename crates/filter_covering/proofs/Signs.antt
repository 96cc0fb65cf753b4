-- The signs of a constraint by its normal form.
use Rattle.std.proofs.Common.{◌≡◌, ℕ, ℤ, ◌+◌, ◌*◌, ◌%◌, ◌^◌, ◌<◌, Bor, List, [], ◌∷◌, ◌++◌, bit_or, refl, sym, ap, ap₂, subst, ◌∙◌, arith}
use Rattle.std.specs.Prelude.{unsigned_abs}
use Rattle.std.proofs.Math.Pow.{pow_mono}
use Rattle.filter_values.specs.declared.value.Kind.{Kind}
use Rattle.filter_values.specs.declared.value.Kind.TheVariants as kinds
use Rattle.filter_constraints.specs.declared.op.Op.TheVariants as ops
use Rattle.filter_constraints.specs.declared.normal.IntSet.TheVariants as sets
use Rattle.filter_constraints.specs.declared.normal.TimeSet.TheVariants as times
use Rattle.filter_constraints.specs.declared.normal.Normal.{Normal}
use Rattle.filter_constraints.specs.declared.normal.Normal.TheVariants as normals
use Rattle.filter_constraints.specs.Constraint.{Form}
use Rattle.filter_constraints.specs.Normal.{form_meant, IsOfKind}
use Rattle.base.specs.Signature.{place_from, marks_from}
use Rattle.filter_covering.specs.Signatures.{value_signs}
use Rattle.base.proofs.Signatures.{place_from-append}

shifted : (p : ℕ) → p < 61 → 1 * 2 ^ p % 18446744073709551616 ≡ 2 ^ p
shifted p l = omega (arith, pow_mono {i = p} {j = 61} (omega (arith, l)))

-- the bits of a name and of the name with more bytes
pub two-marks : (m p q : ℕ) (name rest : List ℕ) (form : Form) → p ≡ place_from 0 name → p < 61 → q ≡ place_from p rest → q < 61 → value_signs name form ≡ (name ++ rest) ∷ []
    → bit_or (bit_or m (1 * 2 ^ p % 18446744073709551616)) (1 * 2 ^ q % 18446744073709551616) ≡ marks_from (λ s. s) m (name ∷ value_signs name form)
two-marks m p q name rest form e l f k v =
    ap₂ bit_or (ap (bit_or m) (shifted p l ∙ ap (λ z. 2 ^ z) e)) (shifted q k ∙ ap (λ z. 2 ^ z) (f ∙ ap (λ z. place_from z rest) e ∙ sym (place_from-append 0 name rest)))
    ∙ ap (λ z. marks_from (λ s. s) m (name ∷ z)) (sym v)

-- the one value that a normal form lets pass
int-of : (name : List ℕ) (kind : Kind) (u : ℤ) (form : Form) → IsOfKind kind (normals.Int (sets.Eq u)) → form_meant kind (normals.Int (sets.Eq u)) ≡ form → value_signs name form ≡ (name ++ unsigned_abs u ∷ []) ∷ []
int-of name kinds.Int u form k e = subst (λ z. value_signs name z ≡ (name ++ unsigned_abs u ∷ []) ∷ []) e refl
int-of name kinds.Bool u form k e = absurd k
int-of name kinds.Str u form k e = absurd k
int-of name kinds.Time u form k e = absurd k

time-of : (name : List ℕ) (kind : Kind) (u : ℕ) (form : Form) → IsOfKind kind (normals.Time (times.Eq u)) → form_meant kind (normals.Time (times.Eq u)) ≡ form → value_signs name form ≡ (name ++ u ∷ []) ∷ []
time-of name kinds.Time u form k e = subst (λ z. value_signs name z ≡ (name ++ u ∷ []) ∷ []) e refl
time-of name kinds.Bool u form k e = absurd k
time-of name kinds.Str u form k e = absurd k
time-of name kinds.Int u form k e = absurd k

text-of : (name : List ℕ) (kind : Kind) (t : Bor (List ℕ)) (form : Form) → IsOfKind kind (normals.Str ops.Eq t) → form_meant kind (normals.Str ops.Eq t) ≡ form → value_signs name form ≡ (name ++ t.now) ∷ []
text-of name kinds.Str t form k e = subst (λ z. value_signs name z ≡ (name ++ t.now) ∷ []) e refl
text-of name kinds.Bool t form k e = absurd k
text-of name kinds.Int t form k e = absurd k
text-of name kinds.Time t form k e = absurd k

pub int-sign : (name : List ℕ) (kind : Kind) (n : Normal) (u : ℤ) (form : Form) → n ≡ normals.Int (sets.Eq u) → IsOfKind kind n → form_meant kind n ≡ form → value_signs name form ≡ (name ++ unsigned_abs u ∷ []) ∷ []
int-sign name kind n u form q k e = int-of name kind u form (subst (IsOfKind kind) q k) (ap (form_meant kind) (sym q) ∙ e)

pub time-sign : (name : List ℕ) (kind : Kind) (n : Normal) (u : ℕ) (form : Form) → n ≡ normals.Time (times.Eq u) → IsOfKind kind n → form_meant kind n ≡ form → value_signs name form ≡ (name ++ u ∷ []) ∷ []
time-sign name kind n u form q k e = time-of name kind u form (subst (IsOfKind kind) q k) (ap (form_meant kind) (sym q) ∙ e)

pub text-sign : (name : List ℕ) (kind : Kind) (n : Normal) (t : Bor (List ℕ)) (form : Form) → n ≡ normals.Str ops.Eq t → IsOfKind kind n → form_meant kind n ≡ form → value_signs name form ≡ (name ++ t.now) ∷ []
text-sign name kind n t form q k e = text-of name kind t form (subst (IsOfKind kind) q k) (ap (form_meant kind) (sym q) ∙ e)
