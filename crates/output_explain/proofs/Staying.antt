-- Being there through a script: the first time that the code finds is the first time.
use Rattle.std.proofs.Common.{◌≡◌, ◌↔◌, ℕ, zero, suc, ◌+◌, ◌-◌, ◌≤◌, ◌<◌, Bool, true, false, cond, [], ◌∷◌, inl, inr, take, drop, length, Option, Some, None, refl, sym, ap, subst, ◌∙◌, arith}
use Rattle.std.proofs.lemmas.Bool.{cases_lt}
use Rattle.filter_text.specs.declared.command.Command.{Command}
use Rattle.output_flood.specs.Held.{Script}
use Rattle.output_explain.specs.declared.stay.Effect.{Effect}
use Rattle.output_explain.specs.declared.stay.Effect.TheVariants as effects
use Rattle.output_explain.specs.declared.stay.Stay.{Stay}
use Rattle.output_explain.specs.Stays.{HoldsUntil, IsFirstStay, there_after, is_there, same_effect, moment_of, stay_since, stay_of}

-- what an effect makes of being there
abbrev pub After : Effect → Type 0 → Type 0 → Type 0
After effects.Adds Before Now = Now
After effects.Withdraws Before Now = Now → ⊥
After effects.Leaves Before Now = Before ↔ Now

-- being there at moments follows the commands behind so many others
abbrev pub Follows : (Command → Effect) → (ℕ → Type 0) → ℕ → Script → Type 0
Follows effect Holds count [] = Unit {0}
Follows effect Holds count (step ∷ steps) = After (effect step.1) (Holds count) (Holds (suc count)) × Follows effect Holds (suc count) steps

pub follows_take : (effect : Command → Effect) (Holds : ℕ → Type 0) (count n : ℕ) (steps : Script) → Follows effect Holds count steps → Follows effect Holds count (take n steps)
follows_take effect Holds count zero [] f = tt
follows_take effect Holds count (suc n) [] f = tt
follows_take effect Holds count zero (step ∷ steps) f = tt
follows_take effect Holds count (suc n) (step ∷ steps) f = (f.0, follows_take effect Holds (suc count) n steps f.1)

pub follows_drop : (effect : Command → Effect) (Holds : ℕ → Type 0) (count n : ℕ) (steps : Script) → n ≤ length steps → Follows effect Holds count steps
    → Follows effect Holds (count + n) (drop n steps)
follows_drop effect Holds count zero [] l f = tt
follows_drop effect Holds count (suc n) [] l f = tt
follows_drop effect Holds count zero (step ∷ steps) l f = subst (λ z. Follows effect Holds z (step ∷ steps)) (plain count) f
  where
    plain : (count : ℕ) → count ≡ count + 0
    plain count = omega arith
follows_drop effect Holds count (suc n) (step ∷ steps) l f =
    subst (λ z. Follows effect Holds z (drop n steps)) (next count n) (follows_drop effect Holds (suc count) n steps (omega (arith, l)) f.1)
  where
    next : (count n : ℕ) → suc count + n ≡ count + suc n
    next count n = omega arith

-- whether it is there
pub there_is : (effect : Command → Effect) (Holds : ℕ → Type 0) (count : ℕ) (steps : Script) → Follows effect Holds count steps
    → (there : Bool) → (there ≡ true) ↔ Holds count → (is_there effect there steps ≡ true) ↔ Holds (count + length steps)
there_is effect Holds count [] f there e = subst (λ z. (there ≡ true) ↔ Holds z) (plain count) e
  where
    plain : (count : ℕ) → count ≡ count + 0
    plain count = omega arith
there_is effect Holds count (step ∷ steps) f there e =
    subst (λ z. (is_there effect (there_after there (effect step.1)) steps ≡ true) ↔ Holds z) (next count (length steps))
    (there_is effect Holds (suc count) steps f.1 (there_after there (effect step.1)) (go (effect step.1) f.0))
  where
    next : (count n : ℕ) → suc count + n ≡ count + suc n
    next count n = omega arith

    go : (done : Effect) → After done (Holds count) (Holds (suc count)) → (there_after there done ≡ true) ↔ Holds (suc count)
    go effects.Adds now = ((λ t. now), (λ h. refl))
    go effects.Withdraws never = ((λ t. absurd cc), (λ h. absurd (never h)))
    go effects.Leaves same = ((λ t. same.0 (e.0 t)), (λ h. e.1 (same.1 h)))

-- from one moment earlier on
earlier : (Holds : ℕ → Type 0) (count upto : ℕ) (moment : Option ℕ) → Holds count → HoldsUntil Holds (suc count) upto moment → HoldsUntil Holds count upto moment
earlier Holds count upto None h until = all
  where
    all : (m : ℕ) → count ≤ m → m ≤ upto → Holds m
    all m l u = elim (cases_lt count m) [ inl a ↦ until m (omega (arith, a)) u | inr b ↦ subst Holds (omega (arith, l, b)) h ]
earlier Holds count upto (Some moment) h until = (omega (arith, until.0), until.1, until.2, all)
  where
    all : (m : ℕ) → count ≤ m → m < moment → Holds m
    all m l u = elim (cases_lt count m) [ inl a ↦ until.3 m (omega (arith, a)) u | inr b ↦ subst Holds (omega (arith, l, b)) h ]

pub until_is : (effect : Command → Effect) (Holds : ℕ → Type 0) (count : ℕ) (steps : Script) → Follows effect Holds count steps → Holds count
    → HoldsUntil Holds count (count + length steps) (moment_of effect effects.Withdraws count steps)
until_is effect Holds count [] f h = λ m l u. subst Holds (omega (arith, l, u)) h
until_is effect Holds count (step ∷ steps) f h = go (until_is effect Holds (suc count) steps f.1) (effect step.1) f.0
  where
    next : (count n : ℕ) → suc count + n ≡ count + suc n
    next count n = omega arith

    later : (Holds (suc count) → HoldsUntil Holds (suc count) (suc count + length steps) (moment_of effect effects.Withdraws (suc count) steps))
        → Holds (suc count) → HoldsUntil Holds count (count + suc (length steps)) (moment_of effect effects.Withdraws (suc count) steps)
    later ih now =
        earlier Holds count (count + suc (length steps)) (moment_of effect effects.Withdraws (suc count) steps) h
        (subst (λ z. HoldsUntil Holds (suc count) z (moment_of effect effects.Withdraws (suc count) steps)) (next count (length steps))
        (ih now))

    go : (Holds (suc count) → HoldsUntil Holds (suc count) (suc count + length steps) (moment_of effect effects.Withdraws (suc count) steps))
        → (done : Effect) → After done (Holds count) (Holds (suc count))
        → HoldsUntil Holds count (count + suc (length steps))
        (cond (same_effect done effects.Withdraws) (Some (suc count)) (moment_of effect effects.Withdraws (suc count) steps))
    go ih effects.Adds now = later ih now
    go ih effects.Withdraws never = (omega arith, omega arith, never, (λ m l u. subst Holds (omega (arith, l, u)) h))
    go ih effects.Leaves same = later ih (same.0 h)

-- when it comes, where it wasn't there
abbrev pub Comes : (Command → Effect) → (ℕ → Type 0) → ℕ → Script → Option ℕ → Type 0
Comes effect Holds count steps None = (m : ℕ) → count ≤ m → m ≤ count + length steps → Holds m → ⊥
Comes effect Holds count steps (Some moment) =
    (count < moment) × (moment ≤ count + length steps) × Holds moment × ((m : ℕ) → count ≤ m → m < moment → Holds m → ⊥)
    × Follows effect Holds moment (drop (moment - count) steps) × (moment + length (drop (moment - count) steps) ≡ count + length steps)

sooner : (effect : Command → Effect) (Holds : ℕ → Type 0) (count : ℕ) (step : ℕ × Command) (steps : Script) (moment : Option ℕ) → (Holds count → ⊥)
    → Comes effect Holds (suc count) steps moment → Comes effect Holds count (step ∷ steps) moment
sooner effect Holds count step steps None n comes = none
  where
    none : (m : ℕ) → count ≤ m → m ≤ count + suc (length steps) → Holds m → ⊥
    none m l u h = elim (cases_lt count m) [ inl a ↦ comes m (omega (arith, a)) (omega (arith, u)) h | inr b ↦ n (subst Holds (omega (arith, l, b)) h) ]
sooner effect Holds count step steps (Some moment) n comes = (
  omega (arith, comes.0),
  omega (arith, comes.1),
  comes.2,
  none,
  subst (λ z. Follows effect Holds moment (drop z (step ∷ steps))) (sym (one moment count comes.0)) comes.4,
  ap (λ z. moment + length (drop z (step ∷ steps))) (one moment count comes.0) ∙ comes.5 ∙ next count (length steps),
)
  where
    one : (moment count : ℕ) → suc count < moment → moment - count ≡ suc (moment - suc count)
    one moment count l = omega (arith, l)

    next : (count n : ℕ) → suc count + n ≡ count + suc n
    next count n = omega arith

    none : (m : ℕ) → count ≤ m → m < moment → Holds m → ⊥
    none m l u h = elim (cases_lt count m) [ inl a ↦ comes.3 m (omega (arith, a)) u h | inr b ↦ n (subst Holds (omega (arith, l, b)) h) ]

pub comes_is : (effect : Command → Effect) (Holds : ℕ → Type 0) (count : ℕ) (steps : Script) → Follows effect Holds count steps → (Holds count → ⊥)
    → Comes effect Holds count steps (moment_of effect effects.Adds count steps)
comes_is effect Holds count [] f n = λ m l u h. n (subst Holds (omega (arith, l, u)) h)
comes_is effect Holds count (step ∷ steps) f n = go (comes_is effect Holds (suc count) steps f.1) (effect step.1) f.0
  where
    one : (count : ℕ) → suc count - count ≡ suc zero
    one count = omega arith

    next : (count n : ℕ) → suc count + n ≡ count + suc n
    next count n = omega arith

    later : ((Holds (suc count) → ⊥) → Comes effect Holds (suc count) steps (moment_of effect effects.Adds (suc count) steps))
        → (Holds (suc count) → ⊥) → Comes effect Holds count (step ∷ steps) (moment_of effect effects.Adds (suc count) steps)
    later ih never = sooner effect Holds count step steps (moment_of effect effects.Adds (suc count) steps) n (ih never)

    whole : (xs : Script) → drop zero xs ≡ xs
    whole [] = refl
    whole (x ∷ xs) = refl

    go : ((Holds (suc count) → ⊥) → Comes effect Holds (suc count) steps (moment_of effect effects.Adds (suc count) steps))
        → (done : Effect) → After done (Holds count) (Holds (suc count))
        → Comes effect Holds count (step ∷ steps) (cond (same_effect done effects.Adds) (Some (suc count)) (moment_of effect effects.Adds (suc count) steps))
    go ih effects.Adds now = (
      omega arith,
      omega arith,
      now,
      (λ m l u h. n (subst Holds (omega (arith, l, u)) h)),
      subst (λ z. Follows effect Holds (suc count) (drop z (step ∷ steps))) (sym (one count)) (subst (Follows effect Holds (suc count)) (sym (whole steps)) f.1),
      ap (λ z. suc count + length (drop z (step ∷ steps))) (one count) ∙ ap (λ z. suc count + length z) (whole steps) ∙ next count (length steps),
    )
    go ih effects.Withdraws never = later ih never
    go ih effects.Leaves same = later ih (λ h. n (same.1 h))

-- what the code answers
abbrev pub IsStayAnswer : (ℕ → Type 0) → ℕ → ℕ → Option Stay → Type 0
IsStayAnswer Holds from upto None = (m : ℕ) → from ≤ m → m ≤ upto → Holds m → ⊥
IsStayAnswer Holds from upto (Some stay) = IsFirstStay Holds from upto stay

pub stay_is : (effect : Command → Effect) (Holds : ℕ → Type 0) (before within : Script) → (Holds 0 → ⊥) → Follows effect Holds 0 before
    → Follows effect Holds (length before) within → IsStayAnswer Holds (length before) (length before + length within) (stay_of effect before within)
stay_is effect Holds before within n f g = go (is_there effect false before) there
  where
    begins : (k : ℕ) → 0 + k ≡ k
    begins k = omega arith

    there : (is_there effect false before ≡ true) ↔ Holds (length before)
    there = subst (λ z. (is_there effect false before ≡ true) ↔ Holds z) (begins (length before)) (there_is effect Holds 0 before f false ((λ t. absurd cc), (λ h. absurd (n h))))

    coming : (moment : Option ℕ) → Comes effect Holds (length before) within moment → IsStayAnswer Holds (length before) (length before + length within) (stay_since effect (length before) within moment)
    coming None c = c
    coming (Some moment) c = record {
      since = (c.0, c.1, c.2, c.3);
      until =
          subst (λ z. HoldsUntil Holds moment z (moment_of effect effects.Withdraws moment (drop (moment - length before) within))) c.5
          (until_is effect Holds moment (drop (moment - length before) within) c.4 c.2);
    }

    go : (there : Bool) → (there ≡ true) ↔ Holds (length before)
        → IsStayAnswer Holds (length before) (length before + length within) (cond there (Some (record { since = None; until = moment_of effect effects.Withdraws (length before) within }))
        (stay_since effect (length before) within (moment_of effect effects.Adds (length before) within)))
    go true e = record { since = e.0 refl; until = until_is effect Holds (length before) within g (e.0 refl) }
    go false e = coming (moment_of effect effects.Adds (length before) within) (comes_is effect Holds (length before) within g (λ h. absurd (no (e.1 h))))
      where
        no : false ≡ true → ⊥
        no q = absurd cc
