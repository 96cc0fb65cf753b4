use Rattle.std.proofs.Common.{◌≡◌, ◌∙◌, ◌++◌, sym, ap, refl, false, ℕ, List}
use Rattle.filter_values.specs.declared.value.Value.{Value}
use Rattle.filter_values.specs.declared.value.Value.TheVariants as values
use Rattle.filter_constraints.specs.declared.op.Op.TheVariants as ops
use Rattle.match_index.specs.Pairs.{ids_met, passes}
use Rattle.match_index.specs.Lines.{told}
use Rattle.match_index.proofs.Rows.{met-append}
use Rattle.match_index.proofs.Lines.{none-met-told}
use Rattle.match_index.specs.Keys.{test_at}
use Rattle.match_texts.proofs.patterns.Patterns.lemma_only_texts.Goals as goal

no-prefix : (v : Value) → ((x : List ℕ) → v ≡ values.Str x → ⊥) → (k : List ℕ) → passes v (test_at ops.Prefix k) ≡ false
no-prefix (values.Str x) n k = absurd (n x refl)
no-prefix (values.Bool x) n k = refl
no-prefix (values.Int x) n k = refl
no-prefix (values.Time x) n k = refl

no-suffix : (v : Value) → ((x : List ℕ) → v ≡ values.Str x → ⊥) → (k : List ℕ) → passes v (test_at ops.Suffix k) ≡ false
no-suffix (values.Str x) n k = absurd (n x refl)
no-suffix (values.Bool x) n k = refl
no-suffix (values.Int x) n k = refl
no-suffix (values.Time x) n k = refl

no-part : (v : Value) → ((x : List ℕ) → v ≡ values.Str x → ⊥) → (k : List ℕ) → passes v (test_at ops.Contains k) ≡ false
no-part (values.Str x) n k = absurd (n x refl)
no-part (values.Bool x) n k = refl
no-part (values.Int x) n k = refl
no-part (values.Time x) n k = refl

pub returns : goal.returns
returns c v n =
    let a = c.self.inside.prefixes in
    let b = c.self.inside.suffixes in
    let d = c.self.inside.parts in
    let ta = told (test_at ops.Prefix) a in
    let tb = told (test_at ops.Suffix) b in
    let td = told (test_at ops.Contains) d in
    let ea = none-met-told v (test_at ops.Prefix) a (no-prefix v n) in
    let eb = none-met-told v (test_at ops.Suffix) b (no-suffix v n) in
    let ed = none-met-told v (test_at ops.Contains) d (no-part v n) in
    ap (ids_met v) (sym c.self.view_is) ∙ (met-append v ta (tb ++ td) ∙ (ap (λ (z : List ℕ). z ++ ids_met v (tb ++ td)) ea ∙ (met-append v tb td ∙ (ap (λ (z : List ℕ). z ++ ids_met v td) eb ∙ ed))))
