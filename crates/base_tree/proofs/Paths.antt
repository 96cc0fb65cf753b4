-- Between each two servers of a tree there is one path, and it goes by the hops.
use Rattle.std.proofs.Common.{◌≡◌, ℕ, zero, suc, ◌<◌, ◌≤◌, ◌==◌, true, false, cond, not, slice_get, Some, List, [], ◌∷◌, ◌++◌, ◌⊎◌, ◌↔◌, inl, inr, refl, sym, ap, subst, ◌∙◌, arith, eq-eqb, eqb-true, ne_eqb}
use Rattle.base.specs.Sets.{Has}
use Rattle.base.specs.Numbers.{IsDistinct}
use Rattle.base_tree.specs.Hops.{side, side_size, AreHops}
use Rattle.base_tree.specs.Tree.{IsWay, NeverTurnsBack, IsPath}
use Rattle.base_tree.specs.Sides.{size_but, IsToward, AreSides}
use Rattle.base.proofs.Numbers.{Same, Is, Not, compare}
use Rattle.base_tree.proofs.Truths.{both-right}
use Rattle.base_tree.proofs.Sums.{part-sum}
use Rattle.base_tree.proofs.Sizes.{weighs, total}
use Rattle.std.proofs.lemmas.Bool.{both_ways, false_from_ne_true}

pub has-append : (x : ℕ) (xs ys : List ℕ) → Has x (xs ++ ys) → Has x xs ⊎ Has x ys
has-append x [] ys h = inr h
has-append x (y ∷ xs) ys (inl e) = inl (inl e)
has-append x (y ∷ xs) ys (inr h) = elim (has-append x xs ys h) [ inl a ↦ inl (inr a) | inr b ↦ inr b ]

distinct-more : (xs : List ℕ) (y : ℕ) → IsDistinct xs → (Has y xs → ⊥) → IsDistinct (xs ++ y ∷ [])
distinct-more [] y d n = ((λ h. h), tt)
distinct-more (x ∷ xs) y d n = ((λ h. elim (has-append x xs (y ∷ []) h) [ inl k ↦ d.0 k | inr k ↦ elim k [ inl e ↦ n (inl (sym e)) | inr z ↦ z ] ]), distinct-more xs y d.1 (λ h. n (inr h)))

way-more : (links : ℕ → List ℕ) (a b c : ℕ) (way : List ℕ) → IsWay links a way b → Has c (links b) → IsWay links a (way ++ c ∷ []) c
way-more links a b c [] w h = (subst (λ z. Has c (links z)) (sym w) h, refl)
way-more links a b c (d ∷ way) w h = (w.0, way-more links d b c way w.1 h)

pub path-here : (links : ℕ → List ℕ) (a : ℕ) → IsPath links a a (a ∷ [])
path-here links a = record { way = []; begins = refl; along = refl; distinct = ((λ h. h), tt) }

pub path-more : (links : ℕ → List ℕ) (a b c : ℕ) (path : List ℕ) → IsPath links a b path → Has c (links b) → (Has c path → ⊥) → IsPath links a c (path ++ c ∷ [])
path-more links a b c path p h n = record {
  way = p.way ++ c ∷ [];
  begins = ap (λ z. z ++ c ∷ []) p.begins;
  along = way-more links a b c p.way p.along h;
  distinct = distinct-more path c p.distinct n;
}

-- what never repeats never turns back
pub no-turn : (links : ℕ → List ℕ) (prior a x : ℕ) (way : List ℕ) → (Has prior way → ⊥) → IsDistinct (a ∷ way) → NeverTurnsBack prior a way
no-turn links prior a x [] n d = tt
no-turn links prior a x (b ∷ way) n d = ((λ e. n (inl (sym e))), no-turn links a b x way (λ h. d.0 (inr h)) d.1)

-- how far x is from t: as many servers as lie beyond the first step
pub far : List ℕ → (ℕ → ℕ → ℕ) → ℕ → ℕ → ℕ
far servers hop x t = cond (x == t) 0 (side_size hop servers t (hop t x))

-- a path so far, of servers ever nearer to x
pub record Toward (servers : List ℕ) (links : ℕ → List ℕ) (hop : ℕ → ℕ → ℕ) (a x t : ℕ) (path : List ℕ) : Type 0 where
  pub path_so_far : IsPath links a t path
  pub here : Has t servers
  pub nearing : (y : ℕ) → Has y path → far servers hop x t ≤ far servers hop x y

module _ (servers : List ℕ) (links : ℕ → List ℕ) (hop : ℕ → ℕ → ℕ) (good : AreHops servers links hop) where
  pub side-self : (a b : ℕ) → side hop a b a ≡ false
  side-self a b = rw (eq-eqb a a refl) refl

  pub side-hop : (a b x : ℕ) → side hop a b x ≡ true → hop a x ≡ b
  side-hop a b x e = eqb-true (hop a x) b (both-right (not (x == a)) (hop a x == b) e)

  pub side-off : (a b x : ℕ) → side hop a b x ≡ true → x ≡ a → ⊥
  side-off a b x e q = both_ways _ (rw (eq-eqb x a q) refl) e

  pub hop-side : (t x : ℕ) → (x ≡ t → ⊥) → side hop t (hop t x) x ≡ true
  hop-side t x n = rw (ne_eqb x t n, eq-eqb (hop t x) (hop t x) refl) refl

  -- what isn't beyond b is on this side
  other-side : (a b x : ℕ) → Has b (links a) → Has x servers → side hop a b x ≡ false → side hop b a x ≡ true
  other-side a b x near h e = grind (arith, good.one_side a b x near h, e)

  not-both : (a b x : ℕ) → Has b (links a) → Has x servers → side hop a b x ≡ true → side hop b a x ≡ false
  not-both a b x near h e = grind (arith, good.one_side b a x (good.both a b near) h, e)

  -- a way that never turns back has its end beyond its first step
  pub way-side : (prior t u x : ℕ) (way : List ℕ) → IsWay links t (u ∷ way) x → NeverTurnsBack prior t (u ∷ way) → Has x servers → side hop t u x ≡ true
  way-side prior t u x [] w b i = other-side u t x (good.both t u w.0) i (subst (λ z. side hop u t z ≡ false) w.1 (side-self u t))
  way-side prior t u x (v ∷ way) w b i =
      let s = way-side t u v x way w.1 b.1 i in
      other-side u t x (good.both t u w.0) i (false_from_ne_true (side hop u t x) (λ e. b.1.0 (sym (side-hop u v x s) ∙ side-hop u t x e)))

  -- ways that never turn back, with the same ends, are the same
  pub one-way : (before prior t x : ℕ) (p q : List ℕ) → IsWay links t p x → IsWay links t q x → NeverTurnsBack before t p → NeverTurnsBack prior t q → Has x servers → p ≡ q
  one-way before prior t x [] [] w v b c i = refl
  one-way before prior t x [] (u ∷ q) w v b c i = absurd (side-off t u x (way-side prior t u x q v c i) (sym w))
  one-way before prior t x (u ∷ p) [] w v b c i = absurd (side-off t u x (way-side before t u x p w b i) (sym v))
  one-way before prior t x (u ∷ p) (s ∷ q) w v b c i =
      let same : s ≡ u = sym (side-hop t s x (way-side prior t s x q v c i)) ∙ side-hop t u x (way-side before t u x p w b i) in
      let moved : IsWay links u q x = subst (λ z. IsWay links z q x) same v.1 in
      let turned : NeverTurnsBack t u q = subst (λ z. NeverTurnsBack t z q) same c.1 in
      ap (λ z. u ∷ z) (one-way t t u x p q w.1 moved b.1 turned i) ∙ ap (λ z. z ∷ q) (sym same)

  pub path-turn : (a x : ℕ) (path : List ℕ) → (p : IsPath links a x path) → NeverTurnsBack a a p.way
  path-turn a x path p = let d : IsDistinct (a ∷ p.way) = subst IsDistinct p.begins p.distinct in no-turn links a a x p.way d.0 d

  -- there is no other path
  pub one-path : (a x : ℕ) (p q : List ℕ) → Has x servers → IsPath links a x p → IsPath links a x q → p ≡ q
  one-path a x p q i s t = s.begins ∙ ap (λ z. a ∷ z) (one-way a a a x s.way t.way s.along t.along (path-turn a x p s) (path-turn a x q t) i) ∙ sym t.begins

  pub nearer : (x t : ℕ) → Has t servers → Has x servers → (x ≡ t → ⊥) → far servers hop x (hop t x) < far servers hop x t
  unfolding far
  nearer x t h i n = go (compare x (hop t x))
    where
      next : Has (hop t x) (links t)
      next = good.near t x h i n

      size : side_size hop servers t (hop t x) ≡ suc (size_but hop servers t (hop t x) (links (hop t x)))
      size = weighs servers links hop good t (hop t x) next

      go : Same x (hop t x) → cond (x == hop t x) 0 (side_size hop servers (hop t x) (hop (hop t x) x)) < cond (x == t) 0 (side_size hop servers t (hop t x))
      go (Is p v) = rw (v, ne_eqb x t n) (omega (arith, size))
      go (Not m v) =
          let there : Has (hop t x) servers = good.linked (hop t x) t (good.both t (hop t x) next) in
          let on : Has (hop (hop t x) x) (links (hop t x)) = good.near (hop t x) x there i m in
          let off : hop (hop t x) x ≡ t → ⊥ = λ e. both_ways _ (not-both t (hop t x) x next i (hop-side t x n)) (subst (λ z. side hop (hop t x) z x ≡ true) e (hop-side (hop t x) x m)) in
          rw (v, ne_eqb x t n) (omega (arith, size, part-sum (side_size hop servers (hop t x)) t (hop (hop t x) x) (links (hop t x)) on off))

  pub toward-start : (a x : ℕ) → Has a servers → Toward servers links hop a x a (a ∷ [])
  toward-start a x h = record { path_so_far = path-here links a; here = h; nearing = λ y k. elim k [ inl e ↦ rw e (omega arith) | inr z ↦ absurd z ] }

  pub toward-more : (a x t : ℕ) (path : List ℕ) → Has x servers → (x ≡ t → ⊥) → Toward servers links hop a x t path → Toward servers links hop a x (hop t x) (path ++ hop t x ∷ [])
  toward-more a x t path i n w =
      let next : Has (hop t x) (links t) = good.near t x w.here i n in
      let less : far servers hop x (hop t x) < far servers hop x t = nearer x t w.here i n in
      record {
        path_so_far = path-more links a t (hop t x) path w.path_so_far next (λ h. omega (arith, less, w.nearing (hop t x) h));
        here = good.linked (hop t x) t (good.both t (hop t x) next);
        nearing = λ y h. elim (has-append y path (hop t x ∷ []) h) [ inl k ↦ omega (arith, less, w.nearing y k) | inr k ↦ elim k [ inl e ↦ rw e (omega arith) | inr z ↦ absurd z ] ];
      }

  path-by : (m a x t : ℕ) (path : List ℕ) → Has x servers → Toward servers links hop a x t path → far servers hop x t ≤ m → (whole : List ℕ) × IsPath links a x whole
  path-by zero a x t path i w l = go (compare x t)
    where
      go : Same x t → (whole : List ℕ) × IsPath links a x whole
      go (Is p v) = (path, subst (λ z. IsPath links a z path) (sym p) w.path_so_far)
      go (Not n v) = absurd (omega (arith, l, nearer x t w.here i n))
  path-by (suc m) a x t path i w l = go (compare x t) (λ u p v k. path-by m a x u p i v k)
    where
      go : Same x t → ((u : ℕ) (p : List ℕ) → Toward servers links hop a x u p → far servers hop x u ≤ m → (whole : List ℕ) × IsPath links a x whole) → (whole : List ℕ) × IsPath links a x whole
      go (Is p v) ih = (path, subst (λ z. IsPath links a z path) (sym p) w.path_so_far)
      go (Not n v) ih = ih (hop t x) (path ++ hop t x ∷ []) (toward-more a x t path i n w) (omega (arith, l, nearer x t w.here i n))

  pub a-path : (a x : ℕ) → Has a servers → Has x servers → (path : List ℕ) × IsPath links a x path
  a-path a x h i = path-by (far servers hop x a) a x a (a ∷ []) i (toward-start a x h) (omega arith)

  -- the second server of a path is the next hop
  pub path-second : (a x : ℕ) (path : List ℕ) → (a ≡ x → ⊥) → Has x servers → IsPath links a x path → slice_get path 1 ≡ Some (hop a x)
  path-second a x path m i p = go p.way p.begins p.along (path-turn a x path p)
    where
      go : (way : List ℕ) → path ≡ a ∷ way → IsWay links a way x → NeverTurnsBack a a way → slice_get path 1 ≡ Some (hop a x)
      go [] e w t = absurd (m w)
      go (b ∷ way) e w t = rw e (ap Some (sym (side-hop a b x (way-side a a b x way w t i))))

  path-hop : (a x b : ℕ) (rest : List ℕ) → Has x servers → IsPath links a x (a ∷ b ∷ rest) → side hop a b x ≡ true
  path-hop a x b rest i p =
      let same : b ∷ rest ≡ p.way = tail p.begins in
      way-side a a b x rest (subst (λ z. IsWay links a z x) (sym same) p.along) (subst (λ z. NeverTurnsBack a a z) (sym same) (path-turn a x (a ∷ b ∷ rest) p)) i
    where
      tail : {y z : ℕ} {ys zs : List ℕ} → y ∷ ys ≡ z ∷ zs → ys ≡ zs
      tail e = cc

  hop-path : (a x b : ℕ) → Has a servers → Has x servers → side hop a b x ≡ true → (rest : List ℕ) × IsPath links a x (a ∷ b ∷ rest)
  hop-path a x b h i e = go (a-path a x h i)
    where
      go : ((path : List ℕ) × IsPath links a x path) → (rest : List ℕ) × IsPath links a x (a ∷ b ∷ rest)
      go w = by w.1.way refl
        where
          by : (way : List ℕ) → w.1.way ≡ way → (rest : List ℕ) × IsPath links a x (a ∷ b ∷ rest)
          by [] q = absurd (side-off a b x e (sym (subst (λ z. IsWay links a z x) q w.1.along)))
          by (c ∷ rest) q =
              let p : IsPath links a x (a ∷ c ∷ rest) = subst (IsPath links a x) (w.1.begins ∙ ap (λ z. a ∷ z) q) w.1 in
              let same : c ≡ b = sym (side-hop a c x (path-hop a x c rest i p)) ∙ side-hop a b x e in
              (rest, subst (λ z. IsPath links a x (a ∷ z ∷ rest)) same p)

  -- x lies beyond b exactly where the path from a to x begins with b
  pub side-path : (a b x : ℕ) → Has a servers → Has x servers → (side hop a b x ≡ true) ↔ ((rest : List ℕ) × IsPath links a x (a ∷ b ∷ rest))
  side-path a b x h i = ((λ e. hop-path a x b h i e), (λ r. path-hop a x b r.0 i r.1))

  -- the tests that a side is asked by
  pub side-test : (a b x : ℕ) (n : ℕ) → Has a servers → Has x servers → (a ≡ x → ⊥) → n ≡ hop a x → ((n == b) ≡ true) ↔ ((rest : List ℕ) × IsPath links a x (a ∷ b ∷ rest))
  side-test a b x n h i m e = let both = side-path a b x h i in ((λ t. both.0 (shut t)), (λ r. open' (both.1 r)))
    where
      same : side hop a b x ≡ (n == b)
      same = rw (ne_eqb x a (λ q. m (sym q)), e) refl

      shut : (n == b) ≡ true → side hop a b x ≡ true
      shut t = same ∙ t

      open' : side hop a b x ≡ true → (n == b) ≡ true
      open' t = sym same ∙ t

  -- no path from a server to itself begins with a step
  pub side-end : (a b x : ℕ) → a ≡ x → Has a servers → Has x servers → ((rest : List ℕ) × IsPath links a x (a ∷ b ∷ rest)) → ⊥
  side-end a b x e h i r = side-off a b x ((side-path a b x h i).1 r) (sym e)

  toward : (a x : ℕ) → Has a servers → Has x servers → (x ≡ a → ⊥) → IsToward links hop a x (hop a x)
  toward a x h i m = record {
    near = good.near a x h i m;
    beyond = hop-side a x m;
    alone = λ c k s. sym (side-hop a c x s);
  }

  pub sides : AreSides servers links hop
  sides = record {
    one_side = good.one_side;
    one_neighbour = toward;
    a_path = a-path;
    one_way = λ prior a x way path i w t p. ap (λ z. a ∷ z) (one-way prior a a x way p.way w p.along t (path-turn a x path p) i) ∙ sym p.begins;
    weighs = weighs servers links hop good;
    total = total servers links hop good;
  }
