use Rattle.std.proofs.Common.{ℕ, List, [], ◌∷◌, ◌⊎◌, inl, inr, sym, ◌∙◌}
use Rattle.law_machine.specs.Machine.{Has}
use Rattle.law_machine.proofs.Lists.{Same, Is, Not, compare}
use Rattle.law_machine.proofs.Exists.{merge-some}
use Rattle.law_machine.proofs.laws.one_merge.Goals as goal

in_or_out : (t : ℕ) (xs : List ℕ) → Has t xs ⊎ (Has t xs → ⊥)
in_or_out t [] = inr (λ h. h)
in_or_out t (x ∷ xs) = go (compare t x) (in_or_out t xs)
  where
    go : Same t x → Has t xs ⊎ (Has t xs → ⊥) → Has t (x ∷ xs) ⊎ (Has t (x ∷ xs) → ⊥)
    go (Is p v) y = inl (inl p)
    go (Not n v) (inl h) = inl (inr h)
    go (Not n v) (inr h) = inr (λ z. elim z [ inl a ↦ n a | inr b ↦ h b ])

pub returns : goal.returns
returns hold c servers d journals j =
    let ys = merge-some hold.M.LocalStep.machine servers d journals j.own in
    (ys.0, record { order = ys.1; parts = λ t. elim (in_or_out t servers) [ inl h ↦ ys.3 t h | inr n ↦ ys.4 t n ∙ sym (j.none t n) ] })
