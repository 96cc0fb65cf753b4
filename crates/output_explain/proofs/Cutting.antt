-- A script cut at a phase: the first stay that the code finds is the first one of the phase's moments.
use Rattle.std.proofs.Common.{◌≡◌, ℕ, zero, suc, ◌+◌, ◌-◌, ◌≤◌, Bool, true, false, cond, nat_lt, [], ◌∷◌, take, drop, length, refl, sym, ap, subst, ◌∙◌, arith}
use Rattle.filter_text.specs.declared.command.Command.{Command}
use Rattle.output_flood.specs.Held.{Script, below, before, within}
use Rattle.output_flood.proofs.Below.{below_rises}
use Rattle.output_explain.specs.declared.stay.Effect.{Effect}
use Rattle.output_explain.specs.Stays.{stay_of}
use Rattle.output_explain.proofs.Staying.{Follows, follows_take, follows_drop, IsStayAnswer, stay_is}

below_most : (k : ℕ) (script : Script) → below k script ≤ length script
below_most k [] = omega arith
below_most k (step ∷ steps) = go (nat_lt step.0 k) (below_most k steps)
  where
    go : (b : Bool) → below k steps ≤ length steps → cond b (suc (below k steps)) (below k steps) ≤ suc (length steps)
    go true l = omega (arith, l)
    go false l = omega (arith, l)

pub length_taken : (n : ℕ) (xs : Script) → n ≤ length xs → length (take n xs) ≡ n
length_taken zero [] l = refl
length_taken (suc n) [] l = absurd (omega (arith, l))
length_taken zero (x ∷ xs) l = refl
length_taken (suc n) (x ∷ xs) l = ap suc (length_taken n xs (omega (arith, l)))

length_dropped : (n : ℕ) (xs : Script) → n ≤ length xs → n + length (drop n xs) ≡ length xs
length_dropped zero [] l = refl
length_dropped (suc n) [] l = absurd (omega (arith, l))
length_dropped zero (x ∷ xs) l = omega arith
length_dropped (suc n) (x ∷ xs) l = omega (arith, length_dropped n xs (omega (arith, l)))

pub from_is : (k : ℕ) (script : Script) → length (before k script) ≡ below k script
from_is k script = length_taken (below k script) script (below_most k script)

pub upto_is : (k : ℕ) (script : Script) → length (before k script) + length (within k script) ≡ below (k + 1) script
upto_is k script =
    ap (λ z. z + length (within k script)) (from_is k script)
    ∙ ap (λ z. below k script + z) (length_taken (below (k + 1) script - below k script) (drop (below k script) script) room)
    ∙ whole (below k script) (below (k + 1) script) (below_rises k script)
  where
    room : below (k + 1) script - below k script ≤ length (drop (below k script) script)
    room = omega (arith, below_most (k + 1) script, length_dropped (below k script) script (below_most k script))

    whole : (a b : ℕ) → a ≤ b → a + (b - a) ≡ b
    whole a b l = omega (arith, l)

pub stay_in_phase : (effect : Command → Effect) (Holds : ℕ → Type 0) (k : ℕ) (script : Script) → (Holds 0 → ⊥) → Follows effect Holds 0 script
    → IsStayAnswer Holds (below k script) (below (k + 1) script) (stay_of effect (before k script) (within k script))
stay_in_phase effect Holds k script n f =
    subst (λ z. IsStayAnswer Holds z (below (k + 1) script) (stay_of effect (before k script) (within k script))) (from_is k script)
    (subst (λ z. IsStayAnswer Holds (length (before k script)) z (stay_of effect (before k script) (within k script))) (upto_is k script)
    (stay_is effect Holds (before k script) (within k script) n (follows_take effect Holds 0 (below k script) script f)
    (follows_take effect Holds (length (before k script)) (below (k + 1) script - below k script) (drop (below k script) script)
    (subst (λ z. Follows effect Holds z (drop (below k script) script)) (begins (below k script) ∙ sym (from_is k script))
    (follows_drop effect Holds 0 (below k script) script (below_most k script) f)))))
  where
    begins : (b : ℕ) → 0 + b ≡ b
    begins b = omega arith
