-- Texts are ordered as the numbers of their first bytes, where these differ.
use Rattle.std.proofs.Common.{◌≡◌, ◌*◌, ◌^◌, ◌<◌, ◌≤◌, ◌∙◌, inl, inr, refl, sym, ap, subst, arith, ℕ, zero, suc, List, [], ◌∷◌, get_or, Ordering}
use Rattle.std.specs.declared.cmp.Ordering.TheVariants.{Less, Equal, Greater}
use Rattle.std.specs.Ordering.{nat_cmp, ordering_reverse, ordering_then}
use Rattle.std.specs.Cmp.{nat_cmp_is}
use Rattle.std.specs.Cmp.Lexicographic.{slice_cmp}
use Rattle.std.proofs.Math.Nat.{pow-succ'}
use Rattle.std.proofs.lemmas.Bool.{cases_eq}
use Rattle.std.proofs.lemmas.Cmp.{nat_list_cmp_total}
use Rattle.match_texts.specs.Keys.{number_of, head_of}

abbrev pub AreBytes : List ℕ → Type 0
AreBytes x = (i : ℕ) → get_or x i 0 < 256

power : (i : ℕ) → i < 8 → 256 ^ i ≤ 256 ^ 7
power zero l = omega arith
power (suc zero) l = omega arith
power (suc (suc zero)) l = omega arith
power (suc (suc (suc zero))) l = omega arith
power (suc (suc (suc (suc zero)))) l = omega arith
power (suc (suc (suc (suc (suc zero))))) l = omega arith
power (suc (suc (suc (suc (suc (suc zero)))))) l = omega arith
power (suc (suc (suc (suc (suc (suc (suc zero))))))) l = omega arith
power (suc (suc (suc (suc (suc (suc (suc (suc i)))))))) l = absurd (omega (arith, l))

below-power : (i : ℕ) (x : List ℕ) → AreBytes x → number_of i x < 256 ^ i
below-power zero x b = omega arith
below-power (suc i) x b =
    let p : 256 ^ suc i ≡ 256 * 256 ^ i = pow-succ' 256 i in
    omega (arith, p, below-power i x b, b i)

-- so many bytes fit
pub number-fits : (i : ℕ) (x : List ℕ) → AreBytes x → i < 8 → number_of i x < 256 ^ 7
number-fits i x b l = omega (arith, below-power i x b, power i l)

-- the same number is of the same bytes
same-bytes : (n : ℕ) (u v : List ℕ) → AreBytes u → AreBytes v → number_of n u ≡ number_of n v → (i : ℕ) → i < n → get_or u i 0 ≡ get_or v i 0
same-bytes zero u v a b e i l = absurd (omega (arith, l))
same-bytes (suc n) u v a b e i l = elim (cases_eq i n) [
  | inl q ↦ subst (λ (k : ℕ). get_or u k 0 ≡ get_or v k 0) (sym q) (omega (arith, e, a n, b n))
  | inr q ↦ same-bytes n u v a b (omega (arith, e, a n, b n)) i (omega (arith, l, q))
]

-- the first byte that differs
first-less : (n : ℕ) (u v : List ℕ) → ((i : ℕ) → i < n → get_or u i 0 ≡ get_or v i 0) → get_or u n 0 < get_or v n 0 → slice_cmp nat_cmp u v ≡ Less
first-less zero [] [] s l = absurd (omega (arith, l))
first-less zero [] (c ∷ v) s l = refl
first-less zero (b ∷ u) [] s l = absurd (omega (arith, l))
first-less zero (b ∷ u) (c ∷ v) s l = ap (λ (o : Ordering). ordering_then o (slice_cmp nat_cmp u v)) (sym (nat_cmp_is b c Less l))
first-less (suc n) [] [] s l = absurd (omega (arith, l))
first-less (suc n) [] (c ∷ v) s l = refl
first-less (suc n) (b ∷ u) [] s l = absurd (omega (arith, l))
first-less (suc n) (b ∷ u) (c ∷ v) s l =
    let e : b ≡ c = s 0 (omega arith) in
    let r = first-less n u v (λ i k. s (suc i) (omega (arith, k))) l in
    let same : nat_cmp b c ≡ Equal = subst (λ (z : ℕ). nat_cmp b z ≡ Equal) e (sym (nat_cmp_is b b Equal refl)) in
    ap (λ (o : Ordering). ordering_then o (slice_cmp nat_cmp u v)) same ∙ r

less-number : (n : ℕ) (u v : List ℕ) → AreBytes u → AreBytes v → number_of n u < number_of n v → slice_cmp nat_cmp u v ≡ Less
less-number zero u v a b l = absurd (omega (arith, l))
less-number (suc n) u v a b l = elim (cases_eq (number_of n u) (number_of n v)) [
  | inl e ↦ first-less n u v (same-bytes n u v a b e) (omega (arith, e, l))
  | inr q ↦ less-number n u v a b (omega (arith, q, l, a n, b n))
]

pub less-head : (u v : List ℕ) → AreBytes u → AreBytes v → head_of u < head_of v → slice_cmp nat_cmp u v ≡ Less
unfolding head_of
less-head u v a b l = less-number 8 u v a b l

pub greater-head : (u v : List ℕ) → AreBytes u → AreBytes v → head_of v < head_of u → slice_cmp nat_cmp u v ≡ Greater
greater-head u v a b l = nat_list_cmp_total.antisymm u v ∙ ap ordering_reverse (less-head v u b a l)
