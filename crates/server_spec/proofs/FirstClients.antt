-- What the first so many clients have together.
use Rattle.std.proofs.Common.{◌≡◌, ◌⊎◌, ◌↔◌, inl, inr, ℕ, ◌+◌, List, [], take, Some, slice_get, refl, sym, subst}
use Rattle.base.specs.Sets.{Has}
use Rattle.filter_constraints.specs.Constraint.{ConstraintParts}
use Rattle.filter_text.specs.Messages.{Lists}
use Rattle.server_spec.proofs.Taken.{has-next}

pub home-none : (sets : ℕ → Lists) (clients : List ℕ) (filters : Lists) → filters ≡ [] → (f : List ConstraintParts) → Has f filters ↔ ((client : ℕ) × Has client (take 0 clients) × Has f (sets client))
home-none sets clients filters none f = (λ m. absurd (subst (Has f) none m), λ r. absurd r.1)

pub home-step : (sets : ℕ → Lists) (clients : List ℕ) (n x : ℕ) → slice_get clients n ≡ Some x → (old new held : Lists) → held ≡ sets x
    → ((f : List ConstraintParts) → Has f new ↔ (Has f old ⊎ Has f held))
    → ((f : List ConstraintParts) → Has f old ↔ ((client : ℕ) × Has client (take n clients) × Has f (sets client)))
    → (f : List ConstraintParts) → Has f new ↔ ((client : ℕ) × Has client (take (n + 1) clients) × Has f (sets client))
home-step sets clients n x at old new held is step before f = (to, from)
  where
    to : Has f new → (client : ℕ) × Has client (take (n + 1) clients) × Has f (sets client)
    to m = elim ((step f).0 m) [
      | inl k ↦ (let r = (before f).0 k in (r.0, (has-next clients n x r.0 at).1 (inl r.1), r.2))
      | inr k ↦ (x, (has-next clients n x x at).1 (inr refl), subst (Has f) is k)
    ]

    from : (client : ℕ) × Has client (take (n + 1) clients) × Has f (sets client) → Has f new
    from (client, m, k) = elim ((has-next clients n x client at).0 m) [
      | inl h ↦ (step f).1 (inl ((before f).1 (client, h, k)))
      | inr e ↦ (step f).1 (inr (subst (Has f) (sym is) (subst (λ z. Has f (sets z)) e k)))
    ]
