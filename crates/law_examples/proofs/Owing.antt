-- Who may be given what in the worked nets, and who must.
use Rattle.std.proofs.Common.{◌≡◌, ℕ, [], take, inl, refl, subst, arith}
use Rattle.base.specs.Sets.{Has}
use Rattle.law_routing.specs.Clients.{filters_after}
use Rattle.law_routing.specs.Owed.{IsMomentOfPhase, IsOwed, IsAllowed}
use Rattle.law_examples.specs.Ranges.{Above, Any, ranges}
use Rattle.law_examples.specs.SmallNets.{withdrawn_wide, subscribed_again}

pub wide-allowed : IsAllowed ranges withdrawn_wide 1 9 1
wide-allowed = record { index = 1; moment = record { from = omega arith; upto = omega arith }; filter = Any; listed = inl refl; matches = refl }

pub wide-not-owed : IsOwed ranges withdrawn_wide 3 1 9 1 → ⊥
wide-not-owed owed = owed.always 2 (record { from = omega arith; upto = omega arith })

pub narrow-owed : IsOwed ranges withdrawn_wide 3 1 9 2
narrow-owed = record { filter = Above 5; always = always; matches = refl; allowed = λ e. absurd cc }
  where
    listed : (count : ℕ) → 1 ≡ count → Has (Above 5) (filters_after ranges [] (take count (withdrawn_wide.script 2)))
    listed count e = subst (λ k. Has (Above 5) (filters_after ranges [] (take k (withdrawn_wide.script 2)))) e (inl refl)

    always : (count : ℕ) → IsMomentOfPhase ranges withdrawn_wide 1 2 count → Has (Above 5) (filters_after ranges [] (take count (withdrawn_wide.script 2)))
    always count m = listed count (omega (arith, m.from, m.upto))

pub again-allowed : IsAllowed ranges subscribed_again 1 8 1
again-allowed = record { index = 5; moment = record { from = omega arith; upto = omega arith }; filter = Any; listed = inl refl; matches = refl }

pub again-not-owed : IsOwed ranges subscribed_again 2 1 8 1 → ⊥
again-not-owed owed = owed.always 4 (record { from = omega arith; upto = omega arith })
