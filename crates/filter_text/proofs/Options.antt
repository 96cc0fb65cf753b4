-- What an answer of a chain of readers tells of each.
use Rattle.std.proofs.Common.{◌≡◌, ◌⊎◌, inl, inr, Bool, true, false, cond, refl, ap, List, [], ◌∷◌, ℕ}
use Rattle.std.specs.Prelude.{Some, None, IsErrOf}
use Rattle.std.specs.declared.option.Option.{Option}
use Rattle.std.specs.declared.result.Result.{Result}
use Rattle.std.specs.declared.result.Result.TheVariants.{Ok, Err}
use Rattle.std.proofs.lemmas.Option.{same_Some}
use Rattle.filter_text.specs.declared.fault.WireFault.{WireFault}
use Rattle.filter_text.specs.declared.fault.WireFault.TheVariants as faults
use Rattle.filter_text.specs.Reading.{◌>>=◌, Gives, whole}

pub bind_some : {A B : Type 0} (r : Option A) (f : A → Option B) (y : B) → (r >>= f) ≡ Some y → (x : A) × (r ≡ Some x) × (f x ≡ Some y)
bind_some None f y e = absurd cc
bind_some (Some x) f y e = (x, refl, e)

pub pair_in : {A B : Type 0} (x : A) (r : B) (y : A) (s : B) → ◌≡◌ {A = Option (A × B)} (Some (x, r)) (Some (y, s)) → (x ≡ y) × (r ≡ s)
pair_in {A = A} {B = B} x r y s e = let p : ◌≡◌ {A = A × B} (x, r) (y, s) = same_Some (x, r) (y, s) e in (ap (λ (z : A × B). z.0) p, ap (λ (z : A × B). z.1) p)

pub choose : {A : Type 0} (p : Bool) (x y r : A) → cond p x y ≡ r → ((p ≡ true) × (x ≡ r)) ⊎ ((p ≡ false) × (y ≡ r))
choose true x y r e = inl (refl, e)
choose false x y r e = inr (refl, e)

-- what passes a test
pub tested : {A : Type 0} (p : Bool) (x y : A) → cond p (Some x) None ≡ Some y → (p ≡ true) × (x ≡ y)
tested true x y e = (refl, same_Some x y e)
tested false x y e = absurd cc

pub none_not : {A B : Type 0} (y : A) → ◌≡◌ {A = Option A} None (Some y) → B
none_not y e = absurd cc

-- what was read whole was read, and nothing follows
pub whole_is : {A : Type 0} (r : Option (A × List ℕ)) (x : A) → whole r ≡ Some x → r ≡ Some (x, [])
whole_is None x e = none_not x e
whole_is (Some (y, [])) x e = rw (same_Some y x e) refl
whole_is (Some (y, b ∷ rest)) x e = none_not x e

-- bytes that are outside are read as nothing
pub gives_none : {X Y : Type 0} (view : X → Y) (r : Result X WireFault) (read : Option Y) → Gives view r read → IsErrOf r faults.Outside → read ≡ None
gives_none view (Ok x) read g e = absurd cc
gives_none view (Err faults.NoMemory) read g e = absurd cc
gives_none view (Err faults.Outside) read g e = g
