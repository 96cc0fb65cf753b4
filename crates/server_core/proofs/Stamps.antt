-- Lemmas on stamps, and on the one fault that they have.
use Rattle.std.proofs.Common.{◌≡◌, ◌↔◌, ℕ, suc, max, ◌+◌, ◌<◌, Result, Ok, Err, IsErrOf, OnErr, ap, sym, ◌∙◌, arith}
use Rattle.server_core.specs.Step.{last_stamp}
use Rattle.server_core.specs.declared.stepped.StepFault.{StepFault}
use Rattle.server_core.specs.declared.stepped.StepFault.TheVariants.{StampsExhausted, NoMemory}

pub max-none : (n : ℕ) → max n 0 ≡ n
max-none n = grind arith

pub next-is : (a b : ℕ) → a ≡ 1 + b → a ≡ suc b
next-is a b e = omega (arith, e)

err-is : {T : Type 0} {f g : StepFault} → IsErrOf {T = T} (Err f) g → f ≡ g
err-is e = cc

-- a fault is one whatever the answer would have been
pub exhausted-of : {A B P : Type 0} (fault : StepFault) (s : ℕ) → IsErrOf {T = A} (Err fault) (StampsExhausted s) ↔ P → IsErrOf {T = B} (Err fault) (StampsExhausted s) ↔ P
exhausted-of fault s announced = (λ e. announced.0 (ap Err (err-is e)), λ p. ap Err (err-is (announced.1 p)))

pub exhausted-none : {A : Type 0} (clock s : ℕ) (fault : StepFault) → IsErrOf {T = A} (Err fault) (StampsExhausted s) ↔ ((max clock 0 ≡ last_stamp) × (s ≡ last_stamp)) → IsErrOf {T = A} (Err fault) (StampsExhausted s) ↔ ((clock ≡ last_stamp) × (s ≡ last_stamp))
exhausted-none clock s fault announced = (λ e. let r = announced.0 e in (sym (max-none clock) ∙ r.0, r.1), λ r. announced.1 (max-none clock ∙ r.0, r.1))

-- a table update of a clock below the greatest stamp is installed
pub never_publishes : (answer : Result ℕ StepFault) (fault : StepFault) → answer ≡ Err fault → (clock : ℕ) → clock < last_stamp
    → ((s : ℕ) → IsErrOf answer (StampsExhausted s) ↔ ((clock ≡ last_stamp) × (s ≡ last_stamp))) → (IsErrOf answer NoMemory → ⊥) → ⊥
never_publishes answer NoMemory e clock low exhausted memory = memory e
never_publishes answer (StampsExhausted s) e clock low exhausted memory = let w = ((exhausted s).0 e).0 in omega (arith, low, w)
