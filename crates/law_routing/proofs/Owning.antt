-- Proves what one command makes of a client's list.
use Rattle.std.proofs.Common.{◌≡◌, ◌↔◌, ◌⊎◌, inl, inr, Bool, true, false, not, List, [], ◌∷◌, filter, arith}
use Rattle.base.specs.Sets.{Has, union}
use Rattle.base.specs.Laws.{CoverLaws}
use Rattle.base.proofs.Sets.{has-union}
use Rattle.base.proofs.Roots.{Has-filter, filter-Has}
use Rattle.std.proofs.lemmas.Bool.{not-true, not_from_false}

module _ {T : Type 0} {covers before : T → T → Bool} (laws : CoverLaws covers before) where
  pub added : (xs : List T) (f g : T) → Has g (union before (f ∷ []) xs) ↔ ((g ≡ f) ⊎ Has g xs)
  added xs f g = (to, from)
    where
      to : Has g (union before (f ∷ []) xs) → (g ≡ f) ⊎ Has g xs
      to h = elim ((has-union laws g (f ∷ []) xs).0 h) [ inl a ↦ elim a [ inl e ↦ inl e | inr z ↦ absurd z ] | inr b ↦ inr b ]

      from : (g ≡ f) ⊎ Has g xs → Has g (union before (f ∷ []) xs)
      from (inl e) = (has-union laws g (f ∷ []) xs).1 (inl (inl e))
      from (inr h) = (has-union laws g (f ∷ []) xs).1 (inr h)

pub kept : {T : Type 0} (covers : T → T → Bool) (xs : List T) (f g : T) → Has g (filter (λ x. not (covers f x)) xs) ↔ Has g xs × (covers f g ≡ false)
kept covers xs f g = ((λ h. (let r = filter-Has (λ x. not (covers f x)) g xs h in (r.0, not-true (covers f g) r.1))), λ r. Has-filter (λ x. not (covers f x)) g xs r.0 (not_from_false (covers f g) r.1))
