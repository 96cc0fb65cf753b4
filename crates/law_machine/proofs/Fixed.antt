-- A run is fixed by its entries, each beginning of a run is a run, and the journals of a run's end are its parts.
use Rattle.std.proofs.Common.{◌≡◌, ℕ, List, [], ◌∷◌, ◌++◌, inl, inr, Option, Some, None, refl, sym, ap, subst, ◌∙◌, arith}
use Rattle.law_machine.specs.Machine.{Machine, Entry, act_phase}
use Rattle.law_machine.specs.Journals.{Cell, IsBetweenPhases, IsMerge}
use Rattle.law_machine.specs.Network.{NetworkState}
use Rattle.law_machine.specs.Runs.{IsReady, IsRun, IsQuiet, IsThrough}
use Rattle.law_machine.proofs.Order.{merge-once}
use Rattle.law_machine.proofs.Turn.{step-turn}

module _ (m : Machine) where
  pub ready-once : (w : NetworkState m) (p : ℕ) (o : Option ℕ) (x y : NetworkState m) (q r : ℕ) → IsReady m w p o x q → IsReady m w p o y r → (x ≡ y) × (q ≡ r)
  ready-once w p None x y q r a b = (sym a.0 ∙ b.0, sym a.1 ∙ b.1)
  ready-once w p (Some k) x y q r (a, inl f) (b, inl g) = (sym f.1 ∙ g.1, sym a ∙ b)
  ready-once w p (Some k) x y q r (a, inr f) (b, inr g) = (sym f.3 ∙ g.3, sym a ∙ b)
  ready-once w p (Some k) x y q r (a, inl f) (b, inr g) = absurd (omega (arith, f.0, g.0))
  ready-once w p (Some k) x y q r (a, inr f) (b, inl g) = absurd (omega (arith, f.0, g.0))

  pub run-once : (w : NetworkState m) (p : ℕ) (es : List (Entry m)) (a b : NetworkState m) (q r : ℕ) → IsRun m w p es a q → IsRun m w p es b r → (a ≡ b) × (q ≡ r)
  run-once w p [] a b q r f g = (sym f.0 ∙ g.0, sym f.1 ∙ g.1)
  run-once w p (e ∷ es) a b q r (x, v, s, ready, step, rest) (x', v', s', ready', step', rest') =
      let o = ready-once w p (act_phase m e.server (w.state e.server) e.act) x x' s s' ready ready' in
      let v-same : v ≡ v' = sym (step-turn m x e v step) ∙ ap (λ z. Rattle.law_machine.specs.Network.turn m z e.server e.act) o.0 ∙ step-turn m x' e v' step' in
      run-once v s es a b q r rest (subst (λ z. IsRun m z s es b r) (sym v-same) (subst (λ z. IsRun m v' z es b r) (sym o.1) rest'))

  pub run-begins : (w : NetworkState m) (p : ℕ) (es fs : List (Entry m)) (x : NetworkState m) (y : ℕ) → IsRun m w p (es ++ fs) x y → (v : NetworkState m) × (q : ℕ) × IsRun m w p es v q × IsRun m v q fs x y
  run-begins w p [] fs x y r = (w, p, (refl, refl), r)
  run-begins w p (e ∷ es) fs x y (a, b, s, ready, step, rest) =
      let ih = run-begins b s es fs x y rest in
      (ih.0, ih.1, (a, b, s, ready, step, ih.2), ih.3)

  -- at the end the merge of the whole journals is a run that ends at rest
  pub whole-run : (opening w : NetworkState m) (p k : ℕ) (sofar : List (Entry m)) (journals : ℕ → List (Entry m)) (cells : ℕ → Cell m) → IsBetweenPhases m opening w p k sofar journals cells → (all : List (Entry m)) → IsMerge m journals all → IsRun m opening 0 all w p × IsQuiet m w × IsThrough m w k
  whole-run opening w p k sofar journals cells stands all merge =
      let same : sofar ≡ all = merge-once m sofar all stands.merge.order merge.order (λ t. stands.merge.parts t ∙ sym (merge.parts t)) in
      (subst (λ z. IsRun m opening 0 z w p) same stands.run, stands.quiet, stands.through)
