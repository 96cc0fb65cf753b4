-- Each member of a finite set is covered by a root.
use Rattle.std.proofs.Common.{◌≡◌, Bool, true, false, cond, List, [], ◌∷◌, ◌↔◌, inl, inr, filter, refl, sym, subst, arith}
use Rattle.base.specs.Laws.{CoverLaws}
use Rattle.base.specs.Sets.{Has, all_pass, yields, is_root, roots}

-- a list with or without one more in front
keep : {T : Type 0} (x y : T) (b : Bool) (ys : List T) → Has x ys → Has x (cond b (y ∷ ys) ys)
keep x y true ys h = inr h
keep x y false ys h = h

pub Has-filter : {T : Type 0} (p : T → Bool) (x : T) (xs : List T) → Has x xs → p x ≡ true → Has x (filter p xs)
Has-filter p x [] h e = h
Has-filter p x (y ∷ ys) (inl q) e = rw (subst (λ z. p z ≡ true) q e) (inl q)
Has-filter p x (y ∷ ys) (inr h) e = keep x y (p y) (filter p ys) (Has-filter p x ys h e)

unkeep : {T : Type 0} (p : T → Bool) (x y : T) (ys : List T) (b : Bool) → p y ≡ b → Has x (cond b (y ∷ filter p ys) (filter p ys)) → (Has x (filter p ys) → Has x ys × (p x ≡ true)) → Has x (y ∷ ys) × (p x ≡ true)
unkeep p x y ys true e (inl q) ih = (inl q, rw q e)
unkeep p x y ys true e (inr h) ih = let r = ih h in (inr r.0, r.1)
unkeep p x y ys false e h ih = let r = ih h in (inr r.0, r.1)

pub filter-Has : {T : Type 0} (p : T → Bool) (x : T) (xs : List T) → Has x (filter p xs) → Has x xs × (p x ≡ true)
filter-Has p x [] h = absurd h
filter-Has p x (y ∷ ys) h = unkeep p x y ys (p y) refl h (filter-Has p x ys)

pub all_pass-from : {T : Type 0} (p : T → Bool) (xs : List T) → ((x : T) → Has x xs → p x ≡ true) → all_pass p xs ≡ true
all_pass-from p [] h = refl
all_pass-from p (x ∷ xs) h = rw (h x (inl refl)) (all_pass-from p xs (λ y m. h y (inr m)))

pub all_pass-to : {T : Type 0} (p : T → Bool) (xs : List T) → all_pass p xs ≡ true → (x : T) → Has x xs → p x ≡ true
all_pass-to p [] e x h = absurd h
all_pass-to p (y ∷ ys) e x (inl q) = subst (λ z. p z ≡ true) (sym q) (grind arith)
all_pass-to p (y ∷ ys) e x (inr h) = all_pass-to p ys (grind arith) x h

pub filter-iff : {T : Type 0} (p : T → Bool) (x : T) (xs : List T) → Has x (filter p xs) ↔ (Has x xs × (p x ≡ true))
filter-iff p x xs = (filter-Has p x xs, λ r. Has-filter p x xs r.0 r.1)

-- what it is to be a root
pub roots-iff : {T : Type 0} (covers before : T → T → Bool) (s : List T) (f : T) → Has f (roots covers before s) ↔ (Has f s × ((g : T) → Has g s → covers g f ≡ true → (covers f g ≡ true) × (before g f ≡ false)))
roots-iff {T} covers before s f = (to, from)
  where
    to : Has f (roots covers before s) → Has f s × ((g : T) → Has g s → covers g f ≡ true → (covers f g ≡ true) × (before g f ≡ false))
    to h =
        let r = filter-Has (is_root covers before s) f s h in
        (r.0, λ g m e. let y = all_pass-to (λ g. yields covers before g f) s r.1 g m in (grind arith, grind arith))

    from : Has f s × ((g : T) → Has g s → covers g f ≡ true → (covers f g ≡ true) × (before g f ≡ false)) → Has f (roots covers before s)
    from (h, most) = Has-filter (is_root covers before s) f s h (all_pass-from (λ g. yields covers before g f) s each)
      where
        go : (g : T) → Has g s → (b : Bool) → covers g f ≡ b → yields covers before g f ≡ true
        go g m true e = let r = most g m e in grind (arith, r.0, r.1)
        go g m false e = grind arith

        each : (g : T) → Has g s → yields covers before g f ≡ true
        each g m = go g m (covers g f) refl

module _ {T : Type 0} {covers before : T → T → Bool} (laws : CoverLaws covers before) where
  lift : (h x g : T) → yields covers before x g ≡ false → yields covers before h g ≡ true → yields covers before h x ≡ true
  lift h x g less more = grind (arith, laws.transitive h x g, laws.transitive x g h, laws.transitive g h x, laws.chain h x g)

  self : (x : T) → yields covers before x x ≡ true
  self x = grind (arith, laws.reflexive x, laws.irreflexive x)

  over : (x g f : T) → yields covers before x g ≡ false → covers g f ≡ true → covers x f ≡ true
  over x g f less more = grind (arith, laws.transitive x g f)

  Highest : List T → T → T → Type 0
  Highest s f g = Has g (f ∷ s) × (covers g f ≡ true) × ((h : T) → Has h s → yields covers before h g ≡ true)

  highest : (s : List T) (f : T) → (g : T) × Highest s f g
  unfolding Highest
  highest [] f = (f, (inl refl, laws.reflexive f, λ h e. absurd e))
  highest (x ∷ s) f = step (highest s f) (yields covers before x (highest s f).0) refl
    where
      wider : (g : T) → Has g (f ∷ s) → Has g (f ∷ x ∷ s)
      wider g (inl q) = inl q
      wider g (inr m) = inr (inr m)

      step : (r : (g : T) × Highest s f g) (b : Bool) → yields covers before x r.0 ≡ b → (g : T) × Highest (x ∷ s) f g
      step (g, (has, cov, most)) true e = (g, (wider g has, cov, each))
        where
          each : (h : T) → Has h (x ∷ s) → yields covers before h g ≡ true
          each h (inl q) = rw q e
          each h (inr m) = most h m
      step (g, (has, cov, most)) false e = (x, (inr (inl refl), over x g f e cov, each))
        where
          each : (h : T) → Has h (x ∷ s) → yields covers before h x ≡ true
          each h (inl q) = rw q (self x)
          each h (inr m) = lift h x g e (most h m)

  -- each member is covered by a root
  pub covered_by_root : (s : List T) (f : T) → Has f s → (r : T) × (Has r (roots covers before s)) × (covers r f ≡ true)
  unfolding Highest
  covered_by_root s f m =
      let top = highest s f in
      let among : Has top.0 s = inside top.0 top.1.0 in
      (top.0, Has-filter (is_root covers before s) top.0 s among (all_pass-from _ s top.1.2), top.1.1)
    where
      inside : (g : T) → Has g (f ∷ s) → Has g s
      inside g (inl q) = rw q m
      inside g (inr k) = k
