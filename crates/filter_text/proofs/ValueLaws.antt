-- Proves that values and attributes are read as they were written.
use Rattle.std.proofs.Common.{◌≡◌, ℕ, Bool, true, false, refl, sym, ap, subst, ◌∙◌, inl, inr, List, [], ◌∷◌, ◌++◌, append_assoc}
use Rattle.std.specs.Prelude.{Some, codes}
use Rattle.std.specs.Fmt.{decimal, signed_decimal}
use Rattle.std.specs.Str.{bytes_eq}
use Rattle.std.proofs.lemmas.Option.{same_Some}
use Rattle.filter_constraints.proofs.BytesLemmas.{bytes_eq-tells}
use Rattle.filter_values.specs.Name.{IsName}
use Rattle.filter_values.specs.Value.{IsValue, kind_of}
use Rattle.filter_values.specs.declared.value.Kind.{Kind}
use Rattle.filter_values.specs.declared.value.Kind.TheVariants as kinds
use Rattle.filter_values.specs.declared.value.Value.{Value}
use Rattle.filter_values.specs.declared.value.Value.TheVariants as values
use Rattle.filter_types.specs.Notice.{Attribute}
use Rattle.filter_text.specs.ValueText.{truth_word, kind_word, value_text}
use Rattle.filter_text.specs.NoticeText.{attribute_text}
use Rattle.filter_text.specs.Reading.{◌>>=◌}
use Rattle.filter_text.specs.Words.{word_at, space_at, head_at, int_of, time_of}
use Rattle.filter_text.specs.Values.{text_at, truth_named, value_at, attribute_at}
use Rattle.filter_text.proofs.Options.{bind_some, pair_in, choose, none_not}
use Rattle.filter_text.proofs.StringLaws.{text_again, text_spelled}
use Rattle.filter_text.proofs.IntLaws.{int_again, int_spelled}
use Rattle.filter_text.proofs.TimeLaws.{time_again, time_spelled}
use Rattle.filter_text.proofs.WordLaws.{IsStopped, word_again, word_spelled, space_spelled, int_word, time_word, head_again, head_spelled}

-- what each attribute is
abbrev pub IsAttribute : Attribute → Type 0
IsAttribute a = IsName a.0 × IsValue a.1

pub value_again : (v : Value) (tail : List ℕ) → IsValue v → IsStopped tail → value_at (kind_of v) (value_text v ++ tail) ≡ Some (v, tail)
unfolding value_at
value_again (values.Bool true) tail is s = rw (word_again [] (truth_word true) tail refl s) refl
value_again (values.Bool false) tail is s = rw (word_again [] (truth_word false) tail refl s) refl
value_again (values.Int z) tail is s = rw (word_again [] (signed_decimal z) tail (int_word z is) s, int_again z is) refl
value_again (values.Str t) tail is s = rw (text_again t tail is) refl
value_again (values.Time n) tail is s = rw (word_again [] (decimal n) tail (time_word n is) s, time_again n is) refl

truth_is : (w : List ℕ) (b : Bool) → truth_named w ≡ Some b → w ≡ truth_word b
truth_is w b e = elim (choose (bytes_eq w (codes "true")) _ _ _ e) [
  | inl a ↦ bytes_eq-tells w (codes "true") a.0 ∙ ap truth_word (same_Some true b a.1)
  | inr c ↦ elim (choose (bytes_eq w (codes "false")) _ _ _ c.1) [
    | inl a ↦ bytes_eq-tells w (codes "false") a.0 ∙ ap truth_word (same_Some false b a.1)
    | inr d ↦ none_not b d.1
  ]
]

-- what a value of the kind is that is written before what follows
abbrev IsWritten : Kind → List ℕ → Value → List ℕ → Type 0
IsWritten kind bytes v rest = IsValue v × (kind_of v ≡ kind) × (bytes ≡ value_text v ++ rest)

pub value_spelled : (kind : Kind) (bytes : List ℕ) (v : Value) (rest : List ℕ) → value_at kind bytes ≡ Some (v, rest) → IsValue v × (kind_of v ≡ kind) × (bytes ≡ value_text v ++ rest)
unfolding value_at
value_spelled kinds.Bool bytes v rest e =
    let b = bind_some (truth_named (word_at [] bytes).0) (λ b. Some (values.Bool b, (word_at [] bytes).1)) (v, rest) e in
    let p = pair_in (values.Bool b.0) (word_at [] bytes).1 v rest b.2 in
    subst (λ (z : Value). IsWritten kinds.Bool bytes z rest) p.0 (tt, refl, word_spelled bytes (truth_word b.0) rest (truth_is (word_at [] bytes).0 b.0 b.1) p.1)
value_spelled kinds.Int bytes v rest e =
    let z = bind_some (int_of (word_at [] bytes).0) (λ z. Some (values.Int z, (word_at [] bytes).1)) (v, rest) e in
    let p = pair_in (values.Int z.0) (word_at [] bytes).1 v rest z.2 in
    let is = int_spelled (word_at [] bytes).0 z.0 z.1 in
    subst (λ (z : Value). IsWritten kinds.Int bytes z rest) p.0 (is.0, refl, word_spelled bytes (signed_decimal z.0) rest is.1 p.1)
value_spelled kinds.Str bytes v rest e =
    let t = bind_some (text_at bytes) (λ t. Some (values.Str t.0, t.1)) (v, rest) e in
    let p = pair_in (values.Str t.0.0) t.0.1 v rest t.2 in
    let is = text_spelled bytes t.0.0 t.0.1 t.1 in
    subst (λ (z : Value). IsWritten kinds.Str bytes z rest) p.0 (is.0, refl, is.1 ∙ rw p.1 refl)
value_spelled kinds.Time bytes v rest e =
    let n = bind_some (time_of (word_at [] bytes).0) (λ n. Some (values.Time n, (word_at [] bytes).1)) (v, rest) e in
    let p = pair_in (values.Time n.0) (word_at [] bytes).1 v rest n.2 in
    let is = time_spelled (word_at [] bytes).0 n.0 n.1 in
    subst (λ (z : Value). IsWritten kinds.Time bytes z rest) p.0 (is.0, refl, word_spelled bytes (decimal n.0) rest is.1 p.1)

regrouped : (a : Attribute) (tail : List ℕ) → attribute_text a ++ tail ≡ a.0 ++ 32 ∷ (kind_word (kind_of a.1) ++ 32 ∷ (value_text a.1 ++ tail))
unfolding attribute_text
regrouped a tail = simp append_assoc

read_back : (a : Attribute) (tail : List ℕ) → IsAttribute a → IsStopped tail → attribute_at (a.0 ++ 32 ∷ (kind_word (kind_of a.1) ++ 32 ∷ (value_text a.1 ++ tail))) ≡ Some (a, tail)
unfolding attribute_at
read_back a tail is s = rw (head_again a.0 (kind_of a.1) (32 ∷ (value_text a.1 ++ tail)) is.0 refl, value_again a.1 tail is.1 s) refl

pub attribute_again : (a : Attribute) (tail : List ℕ) → IsAttribute a → IsStopped tail → attribute_at (attribute_text a ++ tail) ≡ Some (a, tail)
attribute_again a tail is s = ap attribute_at (regrouped a tail) ∙ read_back a tail is s

composed : (bytes name : List ℕ) (k : Kind) (a b : List ℕ) (v : Value) (c rest : List ℕ) → bytes ≡ name ++ 32 ∷ (kind_word k ++ a) → a ≡ 32 ∷ b → b ≡ value_text v ++ c → kind_of v ≡ k → c ≡ rest → bytes ≡ name ++ 32 ∷ (kind_word (kind_of v) ++ 32 ∷ (value_text v ++ rest))
composed bytes name k a b v c rest one two three same left = one ∙ rw (two, three, same, left) refl

pub attribute_spelled : (bytes : List ℕ) (a : Attribute) (rest : List ℕ) → attribute_at bytes ≡ Some (a, rest) → IsAttribute a × (bytes ≡ attribute_text a ++ rest)
unfolding attribute_at
attribute_spelled bytes a rest e =
    let h = bind_some (head_at bytes) (λ h. space_at h.1 >>= λ r. value_at h.0.1 r.1 >>= λ v. Some ((h.0.0, v.0), v.1)) (a, rest) e in
    let r = bind_some (space_at h.0.1) (λ r. value_at h.0.0.1 r.1 >>= λ v. Some ((h.0.0.0, v.0), v.1)) (a, rest) h.2 in
    let v = bind_some (value_at h.0.0.1 r.0.1) (λ v. Some ((h.0.0.0, v.0), v.1)) (a, rest) r.2 in
    let p = pair_in (h.0.0.0, v.0.0) v.0.1 a rest v.2 in
    let one = head_spelled bytes h.0.0.0 h.0.0.1 h.0.1 h.1 in
    let two = space_spelled h.0.1 r.0.1 r.0.0 r.1 in
    let three = value_spelled h.0.0.1 r.0.1 v.0.0 v.0.1 v.1 in
    let all = composed bytes h.0.0.0 h.0.0.1 h.0.1 r.0.1 v.0.0 v.0.1 rest one.1 two three.2 three.1 p.1 in
    subst (λ (z : Attribute). IsAttribute z × (bytes ≡ attribute_text z ++ rest)) p.0 ((one.0, three.0), all ∙ sym (regrouped (h.0.0.0, v.0.0) rest))
