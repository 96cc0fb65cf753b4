-- The command of a form without fault is one of the version.
use Rattle.std.proofs.Common.{◌≡◌, ℕ, ◌<◌, ◌≤◌, true, false, Ordering, refl, arith, inl, inr, List, [], ◌∷◌, length, Option, Some, None}
use Rattle.std.specs.Prelude.{nat_lt}
use Rattle.std.specs.List.{list_any}
use Rattle.std.specs.declared.cmp.Ordering.TheVariants.{Less, Equal, Greater}
use Rattle.std.proofs.lemmas.Bool.Decides.{nat_tests}
use Rattle.base.specs.Sets.{set_of}
use Rattle.filter_values.specs.Value.{kind_of}
use Rattle.filter_constraints.specs.Constraint.{ConstraintParts}
use Rattle.filter_constraints.specs.Order.{constraint_cmp}
use Rattle.filter_types.specs.Canonical.{canonical, placed, put, AreConstraints}
use Rattle.filter_types.specs.Notice.{Attribute, AreNames, AreValues, is_name_less}
use Rattle.filter_types.proofs.CanonicalLaws.{rises, canonical_some}
use Rattle.filter_text.specs.FilterText.{AreNamed}
use Rattle.filter_text.specs.MessageText.{Each}
use Rattle.filter_text.proofs.Options.{choose}
use Rattle.document_script.specs.declared.form.Given.{Given}
use Rattle.document_script.specs.declared.form.Given.TheVariants.{Fit, Wide}
use Rattle.document_script.specs.declared.form.Part.{Part}
use Rattle.document_script.specs.declared.form.Part.TheVariants.{Whole, Beyond, Empty}
use Rattle.document_script.specs.Command.{is_beyond, is_empty, is_wide, wholes, fits, control_fault, publish_fault}
use Rattle.document_script.proofs.CommandLaws.{some_whole, some_fits}
use Rattle.document_format.specs.CommandText.{has_kind, IsListIn, IsNoticeIn}
use Rattle.document_format.proofs.PartLaws.{IsConstraintIn, IsAttributeIn}
use Rattle.document_format.proofs.FormLaws.{IsPartIn, IsGivenIn}
use Rattle.document_format.proofs.NameOrder.{set_rises, set_each, set_some, set_few}

some_not : {A B : Type 0} (y : A) → ◌≡◌ {A = Option A} (Some y) None → B
some_not y e = absurd cc

not_nil : {A : Type 0} (xs : List A) → (xs ≡ [] → ⊥) → 0 < length xs
not_nil [] k = absurd (k refl)
not_nil (x ∷ xs) k = omega arith

-- Constraints.

each_wholes : (version : ℕ) (parts : List Part) → Each (IsPartIn version) parts → Each (IsConstraintIn version) (wholes parts)
each_wholes version [] h = tt
each_wholes version (Whole c ∷ parts) h = (h.0, each_wholes version parts h.1)
each_wholes version (Beyond ∷ parts) h = each_wholes version parts h.1
each_wholes version (Empty ∷ parts) h = each_wholes version parts h.1

put_each : (P : ConstraintParts → Type 0) (c : ConstraintParts) (xs : List ConstraintParts) → P c → Each P xs → Each P (put c xs)
put_each P c [] p h = (p, tt)
put_each P c (d ∷ xs) p h = go (constraint_cmp c d) (put_each P c xs p h.1)
  where
    go : (o : Ordering) → Each P (put c xs) → Each P (placed o c d xs (put c xs))
    go Less k = (p, h)
    go Equal k = h
    go Greater k = (h.0, k)

canonical_each : (P : ConstraintParts → Type 0) (xs : List ConstraintParts) → Each P xs → Each P (canonical xs)
unfolding canonical
canonical_each P [] h = tt
canonical_each P (c ∷ xs) h = put_each P c (canonical xs) h.0 (canonical_each P xs h.1)

named_of : (version : ℕ) (f : List ConstraintParts) → Each (IsConstraintIn version) f → AreNamed f
named_of version [] h = tt
named_of version (c ∷ f) h = (h.0.0, named_of version f h.1)

constraints_of : (version : ℕ) (f : List ConstraintParts) → Each (IsConstraintIn version) f → AreConstraints f
constraints_of version [] h = tt
constraints_of version (c ∷ f) h = (h.0.1, constraints_of version f h.1)

kinds_of : (version : ℕ) (f : List ConstraintParts) → Each (IsConstraintIn version) f → Each (λ c. has_kind version c.kind ≡ true) f
kinds_of version [] h = tt
kinds_of version (c ∷ f) h = (h.0.2, kinds_of version f h.1)

-- what the tests of a control command without fault tell
record Fits (limit : ℕ) (parts : List Part) : Type 0 where
  pub beyond : list_any is_beyond parts ≡ false
  pub empty : list_any is_empty parts ≡ false
  pub few : length (canonical (wholes parts)) ≤ limit

fits_tests : (limit : ℕ) (parts : List Part) → control_fault limit parts ≡ None → Fits limit parts
unfolding control_fault
fits_tests limit parts e =
    elim (choose (list_any is_beyond parts) _ _ _ e) [
      | inl a ↦ some_not _ a.1
      | inr a ↦ elim (choose (list_any is_empty parts) _ _ _ a.1) [
        | inl b ↦ some_not _ b.1
        | inr b ↦ elim (choose (nat_lt limit (length (canonical (wholes parts)))) _ _ _ b.1) [
          | inl d ↦ some_not _ d.1
          | inr d ↦ record { beyond = a.0; empty = b.0; few = small limit (length (canonical (wholes parts))) d.0 }
        ]
      ]
    ]
  where
    small : (m n : ℕ) → nat_lt m n ≡ false → n ≤ m
    small m n f = grind (arith, nat_tests, f)

pub list_in : (limit version : ℕ) (parts : List Part) → Each (IsPartIn version) parts → 0 < length parts → control_fault limit parts ≡ None → IsListIn limit version (canonical (wholes parts))
list_in limit version parts h l e =
    let t = fits_tests limit parts e in
    let each = canonical_each (IsConstraintIn version) (wholes parts) (each_wholes version parts h) in
    let some = not_nil (wholes parts) (λ n. some_whole parts l t.beyond t.empty n) in
    record {
      whole = record {
        listed = record {
          rising = rises (wholes parts);
          some = canonical_some (wholes parts) (canonical (wholes parts)) refl some;
          few = t.few;
          whole = constraints_of version (canonical (wholes parts)) each;
        };
        named = named_of version (canonical (wholes parts)) each;
      };
      kinds = kinds_of version (canonical (wholes parts)) each;
    }

-- Attributes.

each_fits : (version : ℕ) (attributes : List (List ℕ × Given)) → Each (IsGivenIn version) attributes → Each (IsAttributeIn version) (fits attributes)
each_fits version [] h = tt
each_fits version ((name, Fit v) ∷ rest) h = (h.0, each_fits version rest h.1)
each_fits version ((name, Wide) ∷ rest) h = each_fits version rest h.1

names_of : (version : ℕ) (n : List Attribute) → Each (IsAttributeIn version) n → AreNames n
names_of version [] h = tt
names_of version (a ∷ n) h = (h.0.0, names_of version n h.1)

values_of : (version : ℕ) (n : List Attribute) → Each (IsAttributeIn version) n → AreValues n
values_of version [] h = tt
values_of version (a ∷ n) h = (h.0.1, values_of version n h.1)

value_kinds : (version : ℕ) (n : List Attribute) → Each (IsAttributeIn version) n → Each (λ a. has_kind version (kind_of a.1) ≡ true) n
value_kinds version [] h = tt
value_kinds version (a ∷ n) h = (h.0.2, value_kinds version n h.1)

publish_tests : (attributes : List (List ℕ × Given)) → publish_fault attributes ≡ None → (list_any is_wide attributes ≡ false) × (length (fits attributes) ≤ 64)
unfolding publish_fault
publish_tests attributes e =
    elim (choose (list_any is_wide attributes) _ _ _ e) [
      | inl a ↦ some_not _ a.1
      | inr a ↦ elim (choose (nat_lt 64 (length (fits attributes))) _ _ _ a.1) [
        | inl b ↦ some_not _ b.1
        | inr b ↦ (a.0, small 64 (length (fits attributes)) b.0)
      ]
    ]
  where
    small : (m n : ℕ) → nat_lt m n ≡ false → n ≤ m
    small m n f = grind (arith, nat_tests, f)

pub notice_in : (version : ℕ) (attributes : List (List ℕ × Given)) → Each (IsGivenIn version) attributes → 0 < length attributes → publish_fault attributes ≡ None → IsNoticeIn version (set_of is_name_less (fits attributes))
notice_in version attributes h l e =
    let t = publish_tests attributes e in
    let each = set_each (IsAttributeIn version) (fits attributes) (each_fits version attributes h) in
    let some = not_nil (fits attributes) (λ n. some_fits attributes l t.0 n) in
    record {
      notice = record {
        some = set_some (fits attributes) some;
        few = omega (arith, set_few (fits attributes), t.1);
        rising = set_rises (fits attributes);
        names = names_of version (set_of is_name_less (fits attributes)) each;
        values = values_of version (set_of is_name_less (fits attributes)) each;
      };
      kinds = value_kinds version (set_of is_name_less (fits attributes)) each;
    }
