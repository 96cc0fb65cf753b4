-- Lemmas on the first place at which two texts differ.
use Rattle.std.proofs.Common.{◌≡◌, ◌≢◌, ℕ, zero, suc, ◌+◌, ◌<◌, ◌≤◌, Bool, true, false, List, [], ◌∷◌, ◌++◌, length, take, get_or, Option, Some, None, refl, sym, ap, ◌∙◌, arith, min}
use Rattle.std.specs.Prelude.{nat_eq, if◌then◌else◌}
use Rattle.std.specs.Option.{option_map}
use Rattle.audit_claim.specs.Difference.{difference}
use Rattle.base.proofs.Numbers.{eq-nat_eq, neq-nat_eq, nat_eq-true}

abbrev pub AreAlike : List ℕ → List ℕ → ℕ → Type 0
AreAlike cs ts n = (k : ℕ) → k < n → get_or cs k 0 ≡ get_or ts k 0

-- at the first byte that is another
pub differs_at : (cs ts : List ℕ) (n : ℕ) → n < length cs → n < length ts → AreAlike cs ts n → get_or cs n 0 ≢ get_or ts n 0 → difference cs ts ≡ Some n
differs_at [] ts n l m same ne = absurd (omega arith)
differs_at (c ∷ cs) [] n l m same ne = absurd (omega arith)
differs_at (c ∷ cs) (t ∷ ts) zero l m same ne = rw (neq-nat_eq c t ne) refl
differs_at (c ∷ cs) (t ∷ ts) (suc n) l m same ne =
    rw (eq-nat_eq c t (same 0 (omega arith)), differs_at cs ts n (omega arith) (omega arith) (λ k s. same (suc k) (omega arith)) ne) refl

-- at the end of one of the two
pub ends_at : (cs ts : List ℕ) (n : ℕ) → n ≡ min (length cs) (length ts) → AreAlike cs ts n → length cs ≢ length ts → difference cs ts ≡ Some n
ends_at [] [] n e same ne = absurd (ne refl)
ends_at [] (t ∷ ts) n e same ne = ap Some (omega (arith, e))
ends_at (c ∷ cs) [] n e same ne = ap Some (omega (arith, e))
ends_at (c ∷ cs) (t ∷ ts) zero e same ne = absurd (omega (arith, e))
ends_at (c ∷ cs) (t ∷ ts) (suc n) e same ne =
    rw (eq-nat_eq c t (same 0 (omega arith)), ends_at cs ts n (omega (arith, e)) (λ k s. same (suc k) (omega arith)) (λ z. ne (ap suc z))) refl

-- nowhere
pub alike_whole : (cs ts : List ℕ) → AreAlike cs ts (length cs) → length cs ≡ length ts → difference cs ts ≡ None
alike_whole [] [] same e = refl
alike_whole [] (t ∷ ts) same e = absurd (omega (arith, e))
alike_whole (c ∷ cs) [] same e = absurd (omega (arith, e))
alike_whole (c ∷ cs) (t ∷ ts) same e =
    rw (eq-nat_eq c t (same 0 (omega arith)), alike_whole cs ts (λ k s. same (suc k) (omega arith)) (omega (arith, e))) refl

map_none : (o : Option ℕ) → option_map suc o ≡ None → o ≡ None
map_none None e = refl
map_none (Some x) e = cc

-- two texts are equal exactly where they part nowhere
pub none_equal : (cs ts : List ℕ) → difference cs ts ≡ None → cs ≡ ts
none_equal [] [] e = refl
none_equal [] (t ∷ ts) e = absurd cc
none_equal (c ∷ cs) [] e = absurd cc
none_equal (c ∷ cs) (t ∷ ts) e = go (nat_eq c t) refl e (none_equal cs ts)
  where
    go : (b : Bool) → nat_eq c t ≡ b → (if b then option_map suc (difference cs ts) else Some 0) ≡ None → (difference cs ts ≡ None → cs ≡ ts) → c ∷ cs ≡ t ∷ ts
    go true f h rest = ap (λ z. z ∷ cs) (nat_eq-true c t f) ∙ ap (λ l. t ∷ l) (rest (map_none (difference cs ts) h))
    go false f h rest = cc

pub equal_none : (cs : List ℕ) → difference cs cs ≡ None
equal_none [] = refl
equal_none (c ∷ cs) = rw (eq-nat_eq c c refl, equal_none cs) refl

-- Behind what is alike.

plus_suc : (n : ℕ) (o : Option ℕ) → option_map suc (option_map (λ p. n + p) o) ≡ option_map (λ p. suc n + p) o
plus_suc n None = refl
plus_suc n (Some p) = ap Some (omega arith)

none_behind : (o : Option ℕ) → o ≡ option_map (λ p. 0 + p) o
none_behind None = refl
none_behind (Some p) = ap Some (omega arith)

pub behind_alike : (xs cs ts : List ℕ) → difference (xs ++ cs) (xs ++ ts) ≡ option_map (λ p. length xs + p) (difference cs ts)
behind_alike [] cs ts = none_behind (difference cs ts)
behind_alike (x ∷ xs) cs ts = rw (eq-nat_eq x x refl, behind_alike xs cs ts) (plus_suc (length xs) (difference cs ts))

some_before : (o : Option ℕ) (p : ℕ) → option_map suc o ≡ Some p → (q : ℕ) × (o ≡ Some q) × (p ≡ suc q)
some_before None p e = absurd cc
some_before (Some q) p e = let same : suc q ≡ p = cc in (q, refl, sym same)

-- a place before the end of the text stays, whatever follows
pub stays_apart : (cs ts more : List ℕ) (p : ℕ) → difference cs ts ≡ Some p → p < length ts → difference cs (ts ++ more) ≡ Some p
stays_apart [] [] more p e l = absurd (omega (arith, l))
stays_apart [] (t ∷ ts) more p e l = e
stays_apart (c ∷ cs) [] more p e l = absurd (omega (arith, l))
stays_apart (c ∷ cs) (t ∷ ts) more p e l = go (nat_eq c t) e (λ q f m. stays_apart cs ts more q f m)
  where
    go : (b : Bool) → (if b then option_map suc (difference cs ts) else Some 0) ≡ Some p
        → ((q : ℕ) → difference cs ts ≡ Some q → q < length ts → difference cs (ts ++ more) ≡ Some q)
        → (if b then option_map suc (difference cs (ts ++ more)) else Some 0) ≡ Some p
    go true f rest =
        let t = some_before (difference cs ts) p f in
        ap (option_map suc) (rest t.0 t.1 (omega (arith, l, t.2))) ∙ ap Some (sym t.2)
    go false f rest = f

-- a place at the end of the text: it begins what is claimed
pub begins_claimed : (cs ts : List ℕ) (p : ℕ) → difference cs ts ≡ Some p → length ts ≤ p → (ts ≡ take p cs) × (p ≡ length ts) × (p ≤ length cs)
begins_claimed [] [] p e l = absurd cc
begins_claimed [] (t ∷ ts) p e l = let z : 0 ≡ p = cc in absurd (omega (arith, l, z))
begins_claimed (c ∷ cs) [] p e l =
    let z : 0 ≡ p = cc in
    (ap (λ n. take n (c ∷ cs)) z, sym z, omega (arith, z))
begins_claimed (c ∷ cs) (t ∷ ts) p e l = go (nat_eq c t) refl e (λ q f m. begins_claimed cs ts q f m)
  where
    go : (b : Bool) → nat_eq c t ≡ b → (if b then option_map suc (difference cs ts) else Some 0) ≡ Some p
        → ((q : ℕ) → difference cs ts ≡ Some q → length ts ≤ q → (ts ≡ take q cs) × (q ≡ length ts) × (q ≤ length cs))
        → (t ∷ ts ≡ take p (c ∷ cs)) × (p ≡ length (t ∷ ts)) × (p ≤ length (c ∷ cs))
    go true f g rest =
        let s = some_before (difference cs ts) p g in
        let r = rest s.0 s.1 (omega (arith, l, s.2)) in
        ((λ i. (sym (nat_eq-true c t f)) i ∷ r.0 i) ∙ ap (λ n. take n (c ∷ cs)) (sym s.2), omega (arith, r.1, s.2), omega (arith, r.2, s.2))
    go false f g rest = let z : 0 ≡ p = cc in absurd (omega (arith, l, z))

-- the beginning of what is claimed parts from it at its end
pub at_beginning : (cs : List ℕ) (n : ℕ) → n < length cs → difference cs (take n cs) ≡ Some n
at_beginning [] n l = absurd (omega (arith, l))
at_beginning (c ∷ cs) zero l = refl
at_beginning (c ∷ cs) (suc n) l = rw (eq-nat_eq c c refl, at_beginning cs n (omega (arith, l))) refl
