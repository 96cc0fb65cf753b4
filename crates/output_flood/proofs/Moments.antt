-- Lemmas on scripts and their beginnings.
use Rattle.std.proofs.Common.{◌≡◌, ℕ, zero, suc, ◌+◌, ◌-◌, ◌≤◌, cond, nat_lt, ◌↔◌, List, [], ◌∷◌, ◌++◌, map, take, drop, length, refl, sym, ap, ◌∙◌, arith, zero-le, suc-le-suc}
use Rattle.base.specs.Sets.{Has}
use Rattle.law_routing.specs.Net.{PhasedCommand}
use Rattle.law_routing.specs.Clients.{commands_below}
use Rattle.net_model.specs.Real.{real}
use Rattle.net_model.specs.Meaning.{phased_command}
use Rattle.output_flood.specs.Held.{Script, below, before, within}
use Rattle.std.proofs.lemmas.List.{drop-map}

-- two lists with the same members
abbrev pub Same : {T : Type 0} → List T → List T → Type 0
Same {T} xs ys = (x : T) → Has x xs ↔ Has x ys

-- the commands of a script in the runs
abbrev pub ps : Script → List (PhasedCommand real)
ps script = map phased_command script

pub below_same : (k : ℕ) (script : Script) → commands_below real k (ps script) ≡ below k script
below_same k [] = refl
below_same k (s ∷ script) = ap (λ n. cond (nat_lt s.0 k) (suc n) n) (below_same k script)

take_map : {A B : Type 0} (f : A → B) (n : ℕ) (xs : List A) → take n (map f xs) ≡ map f (take n xs)
take_map f zero [] = refl
take_map f (suc n) [] = refl
take_map f zero (x ∷ xs) = refl
take_map f (suc n) (x ∷ xs) = ap (λ l. f x ∷ l) (take_map f n xs)

take_both : {A : Type 0} (b n : ℕ) (xs : List A) → take (b + n) xs ≡ take b xs ++ take n (drop b xs)
take_both zero n xs = ap (λ z. take z xs) (none n) ∙ start n xs
  where
    none : (n : ℕ) → 0 + n ≡ n
    none n = omega arith

    start : {A : Type 0} (n : ℕ) (xs : List A) → take n xs ≡ take zero xs ++ take n (drop zero xs)
    start n [] = refl
    start n (x ∷ xs) = refl
take_both (suc b) n [] = ap (λ z. take z []) (more b n) ∙ nothing b n
  where
    more : (b n : ℕ) → suc b + n ≡ suc (b + n)
    more b n = omega arith

    nothing : {A : Type 0} (b n : ℕ) → take {A = A} (suc (b + n)) [] ≡ take (suc b) [] ++ take n (drop (suc b) [])
    nothing b zero = refl
    nothing b (suc n) = refl
take_both (suc b) n (x ∷ xs) = ap (λ z. take z (x ∷ xs)) (more b n) ∙ ap (λ l. x ∷ l) (take_both b n xs)
  where
    more : (b n : ℕ) → suc b + n ≡ suc (b + n)
    more b n = omega arith

take_less : {A : Type 0} (n m : ℕ) (xs : List A) → n ≤ m → take n (take m xs) ≡ take n xs
take_less zero zero [] l = refl
take_less zero (suc m) [] l = refl
take_less (suc n) zero [] l = refl
take_less (suc n) (suc m) [] l = refl
take_less zero zero (x ∷ xs) l = refl
take_less zero (suc m) (x ∷ xs) l = refl
take_less (suc n) zero (x ∷ xs) l = absurd (omega (arith, l))
take_less (suc n) (suc m) (x ∷ xs) l = ap (λ z. x ∷ z) (take_less n m xs (omega (arith, l)))

pub take_most : {A : Type 0} (n : ℕ) (xs : List A) → length (take n xs) ≤ n
take_most zero [] = zero-le
take_most (suc n) [] = zero-le
take_most zero (x ∷ xs) = zero-le
take_most (suc n) (x ∷ xs) = suc-le-suc (take_most n xs)

-- a moment of a phase: the commands before the phase, and some of it
pub at_moment : (k n : ℕ) (script : Script) → n ≤ below (k + 1) script - below k script
    → take (below k script + n) (ps script) ≡ ps (before k script) ++ ps (take n (within k script))
at_moment k n script l =
    take_both (below k script) n (ps script)
    ∙ ap (λ z. z ++ take n (drop (below k script) (ps script))) (take_map phased_command (below k script) script)
    ∙ ap (λ z. ps (before k script) ++ z)
    (ap (take n) (drop-map phased_command (below k script) script) ∙ take_map phased_command n (drop (below k script) script)
    ∙ ap ps (sym (take_less n (below (k + 1) script - below k script) (drop (below k script) script) l)))

pub take_ps : (n : ℕ) (script : Script) → ps (take n script) ≡ take n (ps script)
take_ps n script = sym (take_map phased_command n script)
