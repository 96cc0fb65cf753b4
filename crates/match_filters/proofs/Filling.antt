-- What an index tells of a filter, where it has the constraints of some filters.
use Rattle.std.proofs.Common.{◌≡◌, ◌+◌, ◌*◌, ◌≤◌, ◌<◌, ◌==◌, ◌&&◌, ◌∙◌, refl, sym, ap, arith, ℕ, Bool, true, false, cond, nat_le, List, [], ◌∷◌, ◌++◌, length, get_or, zero, suc}
use Rattle.std.proofs.lemmas.Bool.Decides.{nat_tests}
use Rattle.filter_constraints.specs.Constraint.{ConstraintParts}
use Rattle.match_index.specs.Pairs.{tally, Same}
use Rattle.match_index.proofs.Tallies.{tally-append, tally-map, tally-agree, tally-none}
use Rattle.match_filters.specs.Index.{Use}
use Rattle.match_filters.specs.Slots.{numbered}
use Rattle.match_filters.specs.Goals.{uses_from}

abbrev pub of_filter : (ConstraintParts → Bool) → ℕ → Use → Bool
of_filter q k u = q u.0 && u.1 == k

-- a test that is passed where another one is
pub tally-within : {X : Type 0} (p q : X → Bool) → ((x : X) → p x ≡ true → q x ≡ true) → (xs : List X) → tally p xs ≤ tally q xs
tally-within p q h [] = omega arith
tally-within p q h (x ∷ xs) = omega (arith, tally-within p q h xs, each (p x) refl)
  where
    each : (b : Bool) → p x ≡ b → cond {A = ℕ} b 1 0 ≤ cond (q x) 1 0
    each true e = omega (arith, ap {B = ℕ} (λ (b : Bool). cond b 1 0) (h x e))
    each false e = omega arith

pub tally-all : {X : Type 0} (xs : List X) → tally (λ x. true) xs ≡ length xs
tally-all [] = refl
tally-all (x ∷ xs) = omega (arith, tally-all xs)

pub uses-push : (p : Use → Bool) (j : ℕ) (fs : List (List ConstraintParts)) (f : List ConstraintParts) → tally p (uses_from j (fs ++ f ∷ [])) ≡ tally p (numbered (j + length fs) f) + tally p (uses_from j fs)
uses-push p j [] f =
    let z : j + 0 ≡ j = omega arith in
    omega (arith, tally-append p (numbered j f) [], ap (λ (k : ℕ). tally p (numbered k f)) z)
uses-push p j (g ∷ fs) f =
    let z : suc j + length fs ≡ j + length (g ∷ fs) = omega arith in
    omega (arith, tally-append p (numbered j g) (uses_from (suc j) (fs ++ f ∷ [])), tally-append p (numbered j g) (uses_from (suc j) fs), uses-push p (suc j) fs f, ap (λ (k : ℕ). tally p (numbered k f)) z)

module _ (q : ConstraintParts → Bool) where
  met-own : (i : ℕ) (cs : List ConstraintParts) → tally (of_filter q i) (numbered i cs) ≡ tally q cs
  met-own i cs = tally-map (λ (c : ConstraintParts). (c, i)) (of_filter q i) cs ∙ tally-agree (λ c. q c && i == i) q cs (λ c. own (q c))
    where
      own : (b : Bool) → (b && i == i) ≡ b
      own b = grind (arith, nat_tests)

  met-other : (i k : ℕ) (cs : List ConstraintParts) → (i == k) ≡ false → tally (of_filter q k) (numbered i cs) ≡ 0
  met-other i k cs h = tally-map (λ (c : ConstraintParts). (c, i)) (of_filter q k) cs ∙ tally-none (λ c. q c && i == k) cs (λ c. other (q c))
    where
      other : (b : Bool) → (b && i == k) ≡ false
      other true = h
      other false = refl

  past : (j : ℕ) → tally q (get_or [] j []) ≡ 0
  past zero = refl
  past (suc j) = refl

  met-before : (i k : ℕ) (fs : List (List ConstraintParts)) → k < i → tally (of_filter q k) (uses_from i fs) ≡ 0
  met-before i k [] h = refl
  met-before i k (f ∷ fs) h =
      let o : (i == k) ≡ false = grind (arith, nat_tests) in
      omega (arith, tally-append (of_filter q k) (numbered i f) (uses_from (suc i) fs), met-other i k f o, met-before (suc i) k fs (omega (arith, h)))

  met-at : (i j : ℕ) (fs : List (List ConstraintParts)) → tally (of_filter q (i + j)) (uses_from i fs) ≡ tally q (get_or fs j [])
  met-at i j [] = sym (past j)
  met-at i zero (f ∷ fs) =
      let z : i + 0 ≡ i = omega arith in
      let a = tally-append (of_filter q i) (numbered i f) (uses_from (suc i) fs) in
      let b = met-own i f in
      let c = met-before (suc i) i fs (omega arith) in
      let d = ap {B = ℕ} (λ k. tally (of_filter q k) (uses_from i (f ∷ fs))) z in
      omega (arith, a, b, c, d)
  met-at i (suc j) (f ∷ fs) =
      let z : i + suc j ≡ suc i + j = omega arith in
      let o : (i == suc i + j) ≡ false = grind (arith, nat_tests) in
      let a = tally-append (of_filter q (suc i + j)) (numbered i f) (uses_from (suc i) fs) in
      let b = met-other i (suc i + j) f o in
      let c = met-at (suc i) j fs in
      let d = ap {B = ℕ} (λ k. tally (of_filter q k) (uses_from i (f ∷ fs))) z in
      omega (arith, a, b, c, d)

  -- how many constraints of a filter pass a test
  pub of-filter : (uses : List Use) (filters : List (List ConstraintParts)) → Same uses (uses_from 0 filters) → (k : ℕ) → tally (of_filter q k) uses ≡ tally q (get_or filters k [])
  of-filter uses filters same k =
      let z : 0 + k ≡ k = omega arith in
      same (of_filter q k) ∙ (ap {B = ℕ} (λ j. tally (of_filter q j) (uses_from 0 filters)) (sym z) ∙ met-at 0 k filters)

-- all numbers are below the number of filters
ids-from : (bound i : ℕ) (fs : List (List ConstraintParts)) → i + length fs ≤ bound → tally (λ (u : Use). nat_le bound u.1) (uses_from i fs) ≡ 0
ids-from bound i [] h = refl
ids-from bound i (f ∷ fs) h =
    let o : nat_le bound i ≡ false = grind (arith, nat_tests) in
    let p = λ (u : Use). nat_le bound u.1 in
    omega (arith, tally-append p (numbered i f) (uses_from (suc i) fs), tally-map (λ (c : ConstraintParts). (c, i)) p f ∙ tally-none (λ (c : ConstraintParts). nat_le bound i) f (λ c. o), ids-from bound (suc i) fs (omega (arith, h)))

pub ids-known : (bound : ℕ) (uses : List Use) (filters : List (List ConstraintParts)) → Same uses (uses_from 0 filters) → length filters ≤ bound → tally (λ (u : Use). nat_le bound u.1) uses ≡ 0
ids-known bound uses filters same l = same (λ u. nat_le bound u.1) ∙ ids-from bound 0 filters (omega (arith, l))

few-from : (i : ℕ) (fs : List (List ConstraintParts)) → ((k : ℕ) → length (get_or fs k []) ≤ 16) → tally (λ (u : Use). true) (uses_from i fs) ≤ 16 * length fs
few-from i [] h = omega arith
few-from i (f ∷ fs) h =
    let p = λ (u : Use). true in
    omega (arith, tally-append p (numbered i f) (uses_from (suc i) fs), tally-map (λ (c : ConstraintParts). (c, i)) p f ∙ tally-all f, h 0, few-from (suc i) fs (λ k. h (suc k)))

pub uses-few : (uses : List Use) (filters : List (List ConstraintParts)) → Same uses (uses_from 0 filters) → ((k : ℕ) → length (get_or filters k []) ≤ 16) → length uses ≤ 16 * length filters
uses-few uses filters same h = omega (arith, tally-all uses, same (λ u. true), few-from 0 filters h)
