-- Defines signatures by the names of constraints, and by the one value that a constraint lets pass.
use Rattle.std.proofs.Common.{◌≡◌, ◌⊎◌, inl, inr, ℕ, ℤ, ◌-◌, ◌^◌, ◌<◌, ◌||◌, Bool, true, false, cond, List, [], ◌∷◌, ◌++◌, bit_and, refl}
use Rattle.std.proofs.Common.{sym, subst, ◌∙◌, arith}
use Rattle.std.specs.Prelude.{unsigned_abs}
use Rattle.std.proofs.lemmas.Nat.{and_mask}
use Rattle.std.specs.List.{list_any}
use Rattle.std.specs.Cmp.{signed_Decides}
use Rattle.filter_constraints.specs.Numbers.{Numbers, number_covers}
use Rattle.filter_constraints.specs.Texts.{Texts, text_covers}
use Rattle.filter_constraints.specs.Constraint.{ConstraintParts, Form, constraint_covers, same_subject, form_covers, form_of}
use Rattle.filter_constraints.specs.Constraint.Form.{truth, number, text, time, no_form}
use Rattle.filter_values.specs.Value.{same_kind}
use Rattle.filter_constraints.proofs.BytesLemmas.{bytes_eq-tells}
use Rattle.std.specs.Str.{bytes_eq}
use Rattle.filter_types.specs.Cover.{filter_covers, advert_covers, covers_some, some_covers}
use Rattle.base.specs.Sets.{Has}
use Rattle.filter_types.proofs.Lists.{all-has}
use Rattle.base.specs.Signature.{marks, other_marks}
use Rattle.base.proofs.Signatures.{names-among, others-among, marks-within}
use Rattle.std.proofs.lemmas.Bool.{and_parts}
use Rattle.base.proofs.Sets.{any-some, has-append, has-append-left, has-append-right}

-- the sign of the one number that a normal form lets pass, beside a name
abbrev pub number_signs : List ℕ → Numbers → List (List ℕ)
number_signs name (Numbers.equal u) = (name ++ unsigned_abs u ∷ []) ∷ []
number_signs name k = []

-- the sign of the one text that a normal form lets pass, beside a name
abbrev pub text_signs : List ℕ → Texts → List (List ℕ)
text_signs name (Texts.equal u) = (name ++ u) ∷ []
text_signs name k = []

-- the sign of the one number or text that a normal form lets pass, beside a name
abbrev pub value_signs : List ℕ → Form → List (List ℕ)
value_signs name (number k) = number_signs name k
value_signs name (text k) = text_signs name k
value_signs name (time k) = number_signs name k
value_signs name form = []

-- whether a normal form lets no number pass
abbrev pub is_void_number : Numbers → Bool
is_void_number Numbers.empty = true
is_void_number k = false

-- whether a normal form lets no text pass
abbrev pub is_void_text : Texts → Bool
is_void_text Texts.empty = true
is_void_text k = false

-- whether a normal form lets no value pass
abbrev pub is_void_form : Form → Bool
is_void_form (number k) = is_void_number k
is_void_form (text k) = is_void_text k
is_void_form (time k) = is_void_number k
is_void_form form = false

-- whether a constraint lets no value pass
abbrev pub is_void : ConstraintParts → Bool
is_void c = is_void_form (form_of c.kind c.op c.operand)

-- the signs of a constraint: its name, and the name with the value where it lets one alone pass
abbrev pub signs : ConstraintParts → List (List ℕ)
signs c = c.name ∷ value_signs c.name (form_of c.kind c.op c.operand)

-- the signs of a filter's constraints
abbrev pub all_signs : List ConstraintParts → List (List ℕ)
all_signs [] = []
all_signs (c ∷ cs) = signs c ++ all_signs cs

-- the bits of a filter's signs, and all bits where some constraint lets no value pass
abbrev pub sub_marks : List ConstraintParts → ℕ
sub_marks f = cond (list_any is_void f) (2 ^ 64 - 1) (marks (λ s. s) (all_signs f))

-- all bits but those of an advertisement's names
abbrev pub ad_marks : List ConstraintParts → ℕ
ad_marks a = other_marks (λ c. c.name) a

covered-name : (c d : ConstraintParts) → constraint_covers c d ≡ true → c.name ≡ d.name
unfolding constraint_covers
covered-name c d e = bytes_eq-tells c.name d.name
    (and_parts (bytes_eq c.name d.name) (same_kind c.kind d.kind)
    (and_parts (same_subject c d) (form_covers (form_of c.kind c.op c.operand) (form_of d.kind d.op d.operand)) e).0).0

-- a covered form that lets a value pass has the signs of the one that covers it
number-keeps : (name : List ℕ) (k m : Numbers) → number_covers k m ≡ true → is_void_number m ≡ false → (s : List ℕ) → Has s (number_signs name k)
    → Has s (number_signs name m)
number-keeps name (Numbers.equal u) (Numbers.equal v) e f s h = subst (λ z. Has s (number_signs name (Numbers.equal z))) ((signed_Decides u v).0 e) h
number-keeps name (Numbers.equal u) Numbers.empty e f s h = absurd cc
number-keeps name (Numbers.equal u) Numbers.all e f s h = absurd cc
number-keeps name (Numbers.equal u) (Numbers.unequal v) e f s h = absurd cc
number-keeps name (Numbers.equal u) (Numbers.at_most v) e f s h = absurd cc
number-keeps name (Numbers.equal u) (Numbers.at_least v) e f s h = absurd cc
number-keeps name Numbers.empty m e f s h = absurd h
number-keeps name Numbers.all m e f s h = absurd h
number-keeps name (Numbers.unequal u) m e f s h = absurd h
number-keeps name (Numbers.at_most u) m e f s h = absurd h
number-keeps name (Numbers.at_least u) m e f s h = absurd h

text-keeps : (name : List ℕ) (k m : Texts) → text_covers k m ≡ true → is_void_text m ≡ false → (s : List ℕ) → Has s (text_signs name k)
    → Has s (text_signs name m)
text-keeps name (Texts.equal u) (Texts.equal v) e f s h = subst (λ z. Has s (text_signs name (Texts.equal z))) (sym (bytes_eq-tells v u e)) h
text-keeps name (Texts.equal u) Texts.empty e f s h = absurd cc
text-keeps name (Texts.equal u) Texts.all e f s h = absurd cc
text-keeps name (Texts.equal u) (Texts.unequal v) e f s h = absurd cc
text-keeps name (Texts.equal u) (Texts.less_than v) e f s h = absurd cc
text-keeps name (Texts.equal u) (Texts.at_most v) e f s h = absurd cc
text-keeps name (Texts.equal u) (Texts.greater_than v) e f s h = absurd cc
text-keeps name (Texts.equal u) (Texts.at_least v) e f s h = absurd cc
text-keeps name (Texts.equal u) (Texts.prefix v) e f s h = absurd cc
text-keeps name (Texts.equal u) (Texts.suffix v) e f s h = absurd cc
text-keeps name (Texts.equal u) (Texts.contains v) e f s h = absurd cc
text-keeps name Texts.empty m e f s h = absurd h
text-keeps name Texts.all m e f s h = absurd h
text-keeps name (Texts.unequal u) m e f s h = absurd h
text-keeps name (Texts.less_than u) m e f s h = absurd h
text-keeps name (Texts.at_most u) m e f s h = absurd h
text-keeps name (Texts.greater_than u) m e f s h = absurd h
text-keeps name (Texts.at_least u) m e f s h = absurd h
text-keeps name (Texts.prefix u) m e f s h = absurd h
text-keeps name (Texts.suffix u) m e f s h = absurd h
text-keeps name (Texts.contains u) m e f s h = absurd h

form-keeps : (name : List ℕ) (k m : Form) → form_covers k m ≡ true → is_void_form m ≡ false → (s : List ℕ) → Has s (value_signs name k)
    → Has s (value_signs name m)
form-keeps name (number k) (number m) e f s h = number-keeps name k m e f s h
form-keeps name (text k) (text m) e f s h = text-keeps name k m e f s h
form-keeps name (time k) (time m) e f s h = number-keeps name k m e f s h
form-keeps name (number k) (truth m) e f s h = absurd cc
form-keeps name (number k) (text m) e f s h = absurd cc
form-keeps name (number k) (time m) e f s h = absurd cc
form-keeps name (number k) no_form e f s h = absurd cc
form-keeps name (text k) (truth m) e f s h = absurd cc
form-keeps name (text k) (number m) e f s h = absurd cc
form-keeps name (text k) (time m) e f s h = absurd cc
form-keeps name (text k) no_form e f s h = absurd cc
form-keeps name (time k) (truth m) e f s h = absurd cc
form-keeps name (time k) (number m) e f s h = absurd cc
form-keeps name (time k) (text m) e f s h = absurd cc
form-keeps name (time k) no_form e f s h = absurd cc
form-keeps name (truth k) m e f s h = absurd h
form-keeps name no_form m e f s h = absurd h

signs-kept : (c d : ConstraintParts) → constraint_covers c d ≡ true → is_void d ≡ false → (s : List ℕ) → Has s (signs c) → Has s (signs d)
unfolding constraint_covers
signs-kept c d e f s h =
    let parts = and_parts (same_subject c d) (form_covers (form_of c.kind c.op c.operand) (form_of d.kind d.op d.operand)) e in
    let name : c.name ≡ d.name = bytes_eq-tells c.name d.name (and_parts (bytes_eq c.name d.name) (same_kind c.kind d.kind) parts.0).0 in
    go name parts.1 h
  where
    go : c.name ≡ d.name → form_covers (form_of c.kind c.op c.operand) (form_of d.kind d.op d.operand) ≡ true → Has s (signs c) → Has s (signs d)
    go n g (inl q) = inl (q ∙ n)
    go n g (inr m) =
        inr (form-keeps d.name (form_of c.kind c.op c.operand) (form_of d.kind d.op d.operand) g f s
        (subst (λ z. Has s (value_signs z (form_of c.kind c.op c.operand))) n m))

-- the signs of a list are those of its members
one-of : (s : List ℕ) (f : List ConstraintParts) → Has s (all_signs f) → (c : ConstraintParts) × Has c f × Has s (signs c)
one-of s [] h = absurd h
one-of s (c ∷ cs) h = elim (has-append s (signs c) (all_signs cs) h) [
  | inl m ↦ (c, inl refl, m)
  | inr m ↦ let r = one-of s cs m in (r.0, inr r.1, r.2)
]

of-one : (s : List ℕ) (g : List ConstraintParts) (d : ConstraintParts) → Has d g → Has s (signs d) → Has s (all_signs g)
of-one s [] d m h = absurd m
of-one s (c ∷ cs) d (inl q) h = has-append-left s (signs c) (all_signs cs) (subst (λ z. Has s (signs z)) q h)
of-one s (c ∷ cs) d (inr m) h = has-append-right s (signs c) (all_signs cs) (of-one s cs d m h)

none-void : (g : List ConstraintParts) → list_any is_void g ≡ false → (d : ConstraintParts) → Has d g → is_void d ≡ false
none-void [] e d m = absurd m
none-void (c ∷ cs) e d m = go (is_void c) (list_any is_void cs) refl refl e m (none-void cs)
  where
    go : (a b : Bool) → is_void c ≡ a → list_any is_void cs ≡ b → (a || b) ≡ false → Has d (c ∷ cs)
        → (list_any is_void cs ≡ false → (d : ConstraintParts) → Has d cs → is_void d ≡ false) → is_void d ≡ false
    go true b p q r m ih = absurd cc
    go false true p q r m ih = absurd cc
    go false false p q r (inl s) ih = subst (λ z. is_void z ≡ false) (sym s) p
    go false false p q r (inr h) ih = ih q d h

-- a void constraint covers void ones alone
number-void : (k m : Numbers) → number_covers k m ≡ true → is_void_number k ≡ true → is_void_number m ≡ true
number-void Numbers.empty Numbers.empty e f = refl
number-void Numbers.empty Numbers.all e f = absurd cc
number-void Numbers.empty (Numbers.equal v) e f = absurd cc
number-void Numbers.empty (Numbers.unequal v) e f = absurd cc
number-void Numbers.empty (Numbers.at_most v) e f = absurd cc
number-void Numbers.empty (Numbers.at_least v) e f = absurd cc
number-void Numbers.all m e f = absurd cc
number-void (Numbers.equal u) m e f = absurd cc
number-void (Numbers.unequal u) m e f = absurd cc
number-void (Numbers.at_most u) m e f = absurd cc
number-void (Numbers.at_least u) m e f = absurd cc

text-void : (k m : Texts) → text_covers k m ≡ true → is_void_text k ≡ true → is_void_text m ≡ true
text-void Texts.empty Texts.empty e f = refl
text-void Texts.empty Texts.all e f = absurd cc
text-void Texts.empty (Texts.equal u) e f = absurd cc
text-void Texts.empty (Texts.unequal u) e f = absurd cc
text-void Texts.empty (Texts.less_than u) e f = absurd cc
text-void Texts.empty (Texts.at_most u) e f = absurd cc
text-void Texts.empty (Texts.greater_than u) e f = absurd cc
text-void Texts.empty (Texts.at_least u) e f = absurd cc
text-void Texts.empty (Texts.prefix u) e f = absurd cc
text-void Texts.empty (Texts.suffix u) e f = absurd cc
text-void Texts.empty (Texts.contains u) e f = absurd cc
text-void Texts.all m e f = absurd cc
text-void (Texts.equal u) m e f = absurd cc
text-void (Texts.unequal u) m e f = absurd cc
text-void (Texts.less_than u) m e f = absurd cc
text-void (Texts.at_most u) m e f = absurd cc
text-void (Texts.greater_than u) m e f = absurd cc
text-void (Texts.at_least u) m e f = absurd cc
text-void (Texts.prefix u) m e f = absurd cc
text-void (Texts.suffix u) m e f = absurd cc
text-void (Texts.contains u) m e f = absurd cc

form-void : (k m : Form) → form_covers k m ≡ true → is_void_form k ≡ true → is_void_form m ≡ true
form-void (number k) (number m) e f = number-void k m e f
form-void (text k) (text m) e f = text-void k m e f
form-void (time k) (time m) e f = number-void k m e f
form-void (number k) (truth m) e f = absurd cc
form-void (number k) (text m) e f = absurd cc
form-void (number k) (time m) e f = absurd cc
form-void (number k) no_form e f = absurd cc
form-void (text k) (truth m) e f = absurd cc
form-void (text k) (number m) e f = absurd cc
form-void (text k) (time m) e f = absurd cc
form-void (text k) no_form e f = absurd cc
form-void (time k) (truth m) e f = absurd cc
form-void (time k) (number m) e f = absurd cc
form-void (time k) (text m) e f = absurd cc
form-void (time k) no_form e f = absurd cc
form-void (truth k) m e f = absurd cc
form-void no_form m e f = absurd cc

-- what covers a constraint that lets a value pass lets one pass
void-passes : (c d : ConstraintParts) → constraint_covers c d ≡ true → is_void d ≡ false → is_void c ≡ false
unfolding constraint_covers
void-passes c d e f = go (is_void c) refl
  where
    go : (b : Bool) → is_void c ≡ b → b ≡ false
    go false p = refl
    go true p =
        let q = form-void (form_of c.kind c.op c.operand) (form_of d.kind d.op d.operand)
        (and_parts (same_subject c d) (form_covers (form_of c.kind c.op c.operand) (form_of d.kind d.op d.operand)) e).1 p in
        absurd cc

void-none : (f : List ConstraintParts) → ((c : ConstraintParts) → Has c f → is_void c ≡ false) → list_any is_void f ≡ false
void-none [] h = refl
void-none (c ∷ cs) h = rw (h c (inl refl)) (void-none cs (λ d m. h d (inr m)))

pub sub_never_misses : (f g : List ConstraintParts) → filter_covers f g ≡ true → bit_and (sub_marks f) (sub_marks g) ≡ sub_marks f
unfolding filter_covers
sub_never_misses f g e = go (list_any is_void g) refl
  where
    covered : (c : ConstraintParts) → Has c f → (d : ConstraintParts) × Has d g × (constraint_covers c d ≡ true)
    covered c m =
        let r = any-some (λ d. constraint_covers c d) g (all-has (λ c. covers_some c g) c f e m) in
        r

    within : sub_marks f < 2 ^ 64
    within = ends (list_any is_void f)
      where
        ends : (b : Bool) → cond b (2 ^ 64 - 1) (marks (λ s. s) (all_signs f)) < 2 ^ 64
        ends true = omega arith
        ends false = marks-within (λ s. s) 0 (all_signs f) (omega arith)

    go : (b : Bool) → list_any is_void g ≡ b → bit_and (sub_marks f) (sub_marks g) ≡ sub_marks f
    go true v = rw v (and_mask (sub_marks f) 64 ∙ omega (arith, within))
    go false v =
        let none : list_any is_void f ≡ false = void-none f (λ c m. let r = covered c m in void-passes c r.0 r.2 (none-void g v r.0 r.1)) in
        rw (v, none) (names-among (λ s. s) (all_signs f) (all_signs g) kept)
      where
        kept : (s : List ℕ) → Has s (all_signs f) → (t : List ℕ) × Has t (all_signs g) × (s ≡ t)
        kept s m =
            let c = one-of s f m in
            let d = covered c.0 c.1 in
            (s, of-one s g d.0 d.1 (signs-kept c.0 d.0 d.2 (none-void g v d.0 d.1) s c.2), refl)

pub ad_never_misses : (a b : List ConstraintParts) → advert_covers a b ≡ true → bit_and (ad_marks a) (ad_marks b) ≡ ad_marks a
unfolding advert_covers
ad_never_misses a b e = others-among (λ c. c.name) b a names
  where
    names : (d : ConstraintParts) → Has d b → (c : ConstraintParts) × Has c a × (d.name ≡ c.name)
    names d m =
        let r = any-some (λ c. constraint_covers c d) a (all-has (λ d. some_covers a d) d b e m) in
        (r.0, r.1, sym (covered-name r.0 d r.2))
