-- Proves that the sizes of the sides of a tree's edges add up.
use Rattle.std.proofs.Common.{◌≡◌, ℕ, suc, ◌+◌, ◌==◌, Bool, true, false, cond, not, List, length, refl, sym, ap, ◌∙◌, arith, ne_eqb, eq-eqb}
use Rattle.base.specs.Sets.{Has}
use Rattle.base.specs.Numbers.{sum_over, count}
use Rattle.base_tree.specs.Hops.{side, side_size, AreHops}
use Rattle.base_tree.specs.Sides.{size_but}
use Rattle.base.proofs.Numbers.{Same, Is, Not, compare, sum_over-zero}
use Rattle.base_tree.proofs.Sums.{sum-same, sum-plus, sum-swap, sum-cond, ones, only, only-at, only-off, only-one}

flat : (y : Bool) → cond y 0 (count false) ≡ count false
flat true = refl
flat false = refl

module _ (servers : List ℕ) (links : ℕ → List ℕ) (hop : ℕ → ℕ → ℕ) (good : AreHops servers links hop) where
  -- from b, and x elsewhere, one link leads to x
  leads : (b c x : ℕ) → (x ≡ b → ⊥) → side hop b c x ≡ (hop b x == c)
  leads b c x n = rw (ne_eqb x b n) refl

  nowhere : (b c x : ℕ) → x ≡ b → side hop b c x ≡ false
  nowhere b c x e = rw (eq-eqb x b e) refl

  one : (c h : ℕ) → count (h == c) ≡ only h c
  one c h = by (compare h c)
    where
      by : Same h c → count (h == c) ≡ only h c
      by (Is p v) = rw (v, eq-eqb c h (sym p)) refl
      by (Not n v) = rw (v, ne_eqb c h (λ e. n (sym e))) refl

  -- how often x is counted beyond b, without the way back to a
  further : (a b x : ℕ) → ℕ
  further a b x = sum_over (λ c. cond (c == a) 0 (count (side hop b c x))) (links b)

  point : (a b x : ℕ) → Has b (links a) → Has x servers → count (side hop a b x) ≡ only b x + further a b x
  unfolding further
  point a b x near here = by (compare x b) (compare (hop b x) a)
    where
      by : Same x b → Same (hop b x) a → count (side hop a b x) ≡ only b x + sum_over (λ c. cond (c == a) 0 (count (side hop b c x))) (links b)
      by (Is p v) y =
          let none : sum_over (λ c. cond (c == a) 0 (count (side hop b c x))) (links b) ≡ 0 = sum-same (λ c. cond (c == a) 0 (count (side hop b c x))) (λ c. 0) (links b) (λ c h. ap (λ z. cond (c == a) 0 (count z)) (nowhere b c x p) ∙ flat (c == a)) ∙ sum_over-zero (links b) in
          omega (arith, ap count (good.one_side a b x near here ∙ ap not (nowhere b a x p)), only-at b x p, none)
      by (Not n v) (Is q v') =
          let none : sum_over (λ c. cond (c == a) 0 (count (side hop b c x))) (links b) ≡ 0 = sum-same (λ c. cond (c == a) 0 (count (side hop b c x))) (λ c. 0) (links b) (λ c h. gone c (compare c a)) ∙ sum_over-zero (links b) in
          omega (arith, ap count (good.one_side a b x near here ∙ ap not (leads b a x n ∙ v')), only-off b x n, none)
        where
          gone : (c : ℕ) → Same c a → cond (c == a) 0 (count (side hop b c x)) ≡ 0
          gone c (Is u w) = rw w refl
          gone c (Not m w) = rw w (ap count (leads b c x n ∙ ne_eqb (hop b x) c (λ e. m (sym e ∙ q))))
      by (Not n v) (Not m v') =
          let h : Has (hop b x) (links b) = good.near b x (good.linked b a (good.both a b near)) here n in
          let all : sum_over (λ c. cond (c == a) 0 (count (side hop b c x))) (links b) ≡ 1 = sum-same (λ c. cond (c == a) 0 (count (side hop b c x))) (only (hop b x)) (links b) (λ c i. each c (compare c a)) ∙ only-one (hop b x) (links b) (good.single b) h in
          omega (arith, ap count (good.one_side a b x near here ∙ ap not (leads b a x n ∙ v')), only-off b x n, all)
        where
          each : (c : ℕ) → Same c a → cond (c == a) 0 (count (side hop b c x)) ≡ only (hop b x) c
          each c (Is u w) = rw w (sym (only-off (hop b x) c (λ e. m (sym e ∙ u))))
          each c (Not k w) = rw w (ap count (leads b c x n) ∙ one c (hop b x))

  swapped : (a b : ℕ) → sum_over (λ x. further a b x) servers ≡ size_but hop servers a b (links b)
  unfolding further
  swapped a b = sum-swap (λ x c. cond (c == a) 0 (count (side hop b c x))) servers (links b) ∙ sum-same (λ c. sum_over (λ x. cond (c == a) 0 (count (side hop b c x))) servers) (λ c. cond (c == a) 0 (side_size hop servers b c)) (links b) (λ c h. sum-cond (c == a) (λ x. count (side hop b c x)) servers)

  pub weighs : (a b : ℕ) → Has b (links a) → side_size hop servers a b ≡ suc (size_but hop servers a b (links b))
  weighs a b near =
      omega (
        arith,
        sum-same (λ x. count (side hop a b x)) (λ x. only b x + further a b x) servers (λ x h. point a b x near h),
        sum-plus (only b) (λ x. further a b x) servers,
        only-one b servers good.distinct (good.linked b a (good.both a b near)),
        swapped a b,
      )

  pub total : (t : ℕ) → Has t servers → suc (sum_over (side_size hop servers t) (links t)) ≡ length servers
  total t here =
      omega (
        arith,
        sum-swap (λ x b. count (side hop t b x)) servers (links t),
        sum-plus (only t) (λ x. sum_over (λ b. count (side hop t b x)) (links t)) servers,
        sum-same (λ x. only t x + sum_over (λ b. count (side hop t b x)) (links t)) (λ x. 1) servers (λ x h. each x h (compare x t)),
        only-one t servers good.distinct here,
        ones servers,
      )
    where
      each : (x : ℕ) → Has x servers → Same x t → only t x + sum_over (λ b. count (side hop t b x)) (links t) ≡ 1
      each x h (Is p v) = omega (arith, only-at t x p, sum-same (λ b. count (side hop t b x)) (λ b. 0) (links t) (λ b i. ap count (nowhere t b x p)), sum_over-zero (links t))
      each x h (Not n v) = omega (arith, only-off t x n, sum-same (λ b. count (side hop t b x)) (only (hop t x)) (links t) (λ b i. ap count (leads t b x n) ∙ one b (hop t x)), only-one (hop t x) (links t) (good.single t) (good.near t x here h n))
