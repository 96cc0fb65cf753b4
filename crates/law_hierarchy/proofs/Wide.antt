-- A theory with one more filter, which matches every notice, and one more notice, which no filter matches.
use Rattle.std.proofs.Common.{◌≡◌, inl, inr, Bool, true, false, cond, not, ◌&&◌, ◌||◌, List, [], ◌∷◌, map, filter, Option, Some, None, refl, ap, ◌∙◌}
use Rattle.base.specs.Laws.{CoverLaws}
use Rattle.base.specs.Sets.{Has, yields, is_root, roots, same, member, same_list, IsRising, put_in, union, minus}
use Rattle.law_routing.specs.Theory.{Theory, TheoryLaws}
use Rattle.law_routing.specs.Clients.{some_pass}

-- nothing said is all: it covers all, and comes first
abbrev pub covers-wide : {T : Type 0} → (T → T → Bool) → Option T → Option T → Bool
covers-wide covers None g = true
covers-wide covers (Some f) None = false
covers-wide covers (Some f) (Some g) = covers f g

abbrev pub before-wide : {T : Type 0} → (T → T → Bool) → Option T → Option T → Bool
before-wide before None None = false
before-wide before None (Some g) = true
before-wide before (Some f) None = false
before-wide before (Some f) (Some g) = before f g

abbrev pub matches-wide : {T N : Type 0} → (N → T → Bool) → Option N → Option T → Bool
matches-wide matches None f = false
matches-wide matches (Some n) None = true
matches-wide matches (Some n) (Some f) = matches n f

abbrev pub allows-wide : {A N : Type 0} → (A → N → Bool) → A → Option N → Bool
allows-wide allows a None = false
allows-wide allows a (Some n) = allows a n

abbrev pub wide : Theory → Theory
wide th = record {
  Filter = Option th.Filter;
  Advert = th.Advert;
  Notice = Option th.Notice;
  covers = covers-wide th.covers;
  before = before-wide th.before;
  covers_advert = th.covers_advert;
  before_advert = th.before_advert;
  matches = matches-wide th.matches;
  allows = allows-wide th.allows;
  overlaps = λ f a. true;
}

wide-cover : {T : Type 0} (covers before : T → T → Bool) → CoverLaws covers before → CoverLaws (covers-wide covers) (before-wide before)
wide-cover {T} covers before laws = record { reflexive = reflexive; transitive = transitive; irreflexive = irreflexive; chain = chain; total = total }
  where
    reflexive : (x : Option T) → covers-wide covers x x ≡ true
    reflexive None = refl
    reflexive (Some x) = laws.reflexive x

    transitive : (x y z : Option T) → covers-wide covers x y ≡ true → covers-wide covers y z ≡ true → covers-wide covers x z ≡ true
    transitive None y z e f = refl
    transitive (Some x) None z e f = absurd cc
    transitive (Some x) (Some y) None e f = absurd cc
    transitive (Some x) (Some y) (Some z) e f = laws.transitive x y z e f

    irreflexive : (x : Option T) → before-wide before x x ≡ false
    irreflexive None = refl
    irreflexive (Some x) = laws.irreflexive x

    chain : (x y z : Option T) → before-wide before x y ≡ true → before-wide before y z ≡ true → before-wide before x z ≡ true
    chain None None z e f = absurd cc
    chain None (Some y) None e f = absurd cc
    chain None (Some y) (Some z) e f = refl
    chain (Some x) None z e f = absurd cc
    chain (Some x) (Some y) None e f = absurd cc
    chain (Some x) (Some y) (Some z) e f = laws.chain x y z e f

    total : (x y : Option T) → before-wide before x y ≡ false → before-wide before y x ≡ false → x ≡ y
    total None None e f = refl
    total None (Some y) e f = absurd cc
    total (Some x) None e f = absurd cc
    total (Some x) (Some y) e f = ap Some (laws.total x y e f)

pub wide-laws : (th : Theory) → TheoryLaws th → TheoryLaws (wide th)
wide-laws th laws = record { filters = wide-cover th.covers th.before laws.filters; adverts = laws.adverts; sound = sound; sound_advert = sound-advert; meet = λ n f a e h. refl }
  where
    sound : (n : Option th.Notice) (f g : Option th.Filter) → covers-wide th.covers f g ≡ true → matches-wide th.matches n g ≡ true → matches-wide th.matches n f ≡ true
    sound None f g e h = absurd cc
    sound (Some n) None g e h = refl
    sound (Some n) (Some f) None e h = absurd cc
    sound (Some n) (Some f) (Some g) e h = laws.sound n f g e h

    sound-advert : (n : Option th.Notice) (a b : th.Advert) → th.covers_advert a b ≡ true → allows-wide th.allows b n ≡ true → allows-wide th.allows a n ≡ true
    sound-advert None a b e h = absurd cc
    sound-advert (Some n) a b e h = laws.sound_advert n a b e h

-- filters of the theory among those of the wider one
abbrev pub said : {T : Type 0} → List T → List (Option T)
said xs = map Some xs

pub unsaid : {T : Type 0} (xs ys : List T) → said xs ≡ said ys → xs ≡ ys
unsaid [] [] e = refl
unsaid [] (y ∷ ys) e = absurd cc
unsaid (x ∷ xs) [] e = absurd cc
unsaid {T} (x ∷ xs) (y ∷ ys) e = both (head e) (unsaid xs ys (tail e))
  where
    head : Some x ∷ said xs ≡ Some y ∷ said ys → x ≡ y
    head e = cc

    tail : Some x ∷ said xs ≡ Some y ∷ said ys → said xs ≡ said ys
    tail e = cc

    both : x ≡ y → xs ≡ ys → x ∷ xs ≡ y ∷ ys
    both p q = λ i. p i ∷ q i

pub said-has : {T : Type 0} (x : T) (xs : List T) → Has x xs → Has (Some x) (said xs)
said-has x [] h = absurd h
said-has x (y ∷ ys) (inl e) = inl (ap Some e)
said-has x (y ∷ ys) (inr h) = inr (said-has x ys h)

-- sets of them are as they were
module _ {T : Type 0} (before : T → T → Bool) where
  said-put_in : (x : T) (ys : List T) → put_in (before-wide before) (Some x) (said ys) ≡ said (put_in before x ys)
  said-put_in x [] = refl
  said-put_in x (y ∷ ys) = go (before x y) (before y x) (said-put_in x ys)
    where
      go : (a b : Bool) → put_in (before-wide before) (Some x) (said ys) ≡ said (put_in before x ys)
          → cond a (Some x ∷ Some y ∷ said ys) (cond b (Some y ∷ put_in (before-wide before) (Some x) (said ys)) (Some y ∷ said ys)) ≡ said (cond a (x ∷ y ∷ ys) (cond b (y ∷ put_in before x ys) (y ∷ ys)))
      go true b ih = refl
      go false true ih = ap (λ z. Some y ∷ z) ih
      go false false ih = refl

  pub said-union : (xs ys : List T) → union (before-wide before) (said xs) (said ys) ≡ said (union before xs ys)
  said-union [] ys = refl
  said-union (x ∷ xs) ys = ap (put_in (before-wide before) (Some x)) (said-union xs ys) ∙ said-put_in x (union before xs ys)

  pub said-filter : (p : Option T → Bool) (xs : List T) → filter p (said xs) ≡ said (filter (λ x. p (Some x)) xs)
  said-filter p [] = refl
  said-filter p (x ∷ xs) = go (p (Some x)) (said-filter p xs)
    where
      go : (b : Bool) → filter p (said xs) ≡ said (filter (λ x. p (Some x)) xs) → cond b (Some x ∷ filter p (said xs)) (filter p (said xs)) ≡ said (cond b (x ∷ filter (λ x. p (Some x)) xs) (filter (λ x. p (Some x)) xs))
      go true ih = ap (λ z. Some x ∷ z) ih
      go false ih = ih

  said-member : (x : T) (ys : List T) → member (before-wide before) (Some x) (said ys) ≡ member before x ys
  said-member x [] = refl
  said-member x (y ∷ ys) = ap (λ z. same before x y || z) (said-member x ys)

  pub said-minus : (xs ys : List T) → minus (before-wide before) (said xs) (said ys) ≡ said (minus before xs ys)
  said-minus xs ys = said-filter (λ x. not (member (before-wide before) x (said ys))) xs ∙ ap (λ (z : T → Bool). said (filter z xs)) (λ i x. not (said-member x ys i))

  pub said-same_list : (xs ys : List T) → same_list (before-wide before) (said xs) (said ys) ≡ same_list before xs ys
  said-same_list [] [] = refl
  said-same_list [] (y ∷ ys) = refl
  said-same_list (x ∷ xs) [] = refl
  said-same_list (x ∷ xs) (y ∷ ys) = ap (λ z. same before x y && z) (said-same_list xs ys)

  module _ (covers : T → T → Bool) where
    said-root : (f : T) (s : List T) → is_root (covers-wide covers) (before-wide before) (said s) (Some f) ≡ is_root covers before s f
    said-root f [] = refl
    said-root f (g ∷ s) = ap (λ z. yields covers before g f && z) (said-root f s)

    pub said-roots : (s : List T) → roots (covers-wide covers) (before-wide before) (said s) ≡ said (roots covers before s)
    said-roots s = said-filter (is_root (covers-wide covers) (before-wide before) (said s)) s ∙ ap (λ (z : T → Bool). said (filter z s)) (λ i x. said-root x s i)

    -- the root of a set with the filter that matches all is that one
    pub all-root : CoverLaws covers before → (s : List (Option T)) → IsRising (before-wide before) s → Has None s → roots (covers-wide covers) (before-wide before) s ≡ None ∷ []
    all-root laws s rising has = only s rising has (λ x h. h)
      where
        first : is_root (covers-wide covers) (before-wide before) s None ≡ true
        first = go s
          where
            go : (xs : List (Option T)) → is_root (covers-wide covers) (before-wide before) xs None ≡ true
            go [] = refl
            go (None ∷ xs) = go xs
            go (Some x ∷ xs) = go xs

        others : (f : T) → is_root (covers-wide covers) (before-wide before) s (Some f) ≡ false
        others f = go s has
          where
            flat : (b : Bool) → b && false ≡ false
            flat true = refl
            flat false = refl

            go : (xs : List (Option T)) → Has None xs → is_root (covers-wide covers) (before-wide before) xs (Some f) ≡ false
            go [] h = absurd h
            go (None ∷ xs) h = refl
            go (Some x ∷ xs) (inl e) = absurd (never e)
              where
                never : None ≡ Some x → ⊥
                never e = cc
            go (Some x ∷ xs) (inr h) = ap (λ z. yields covers before x f && z) (go xs h) ∙ flat (yields covers before x f)

        none : (xs : List (Option T)) → (Has None xs → ⊥) → filter (is_root (covers-wide covers) (before-wide before) s) xs ≡ []
        none [] n = refl
        none (None ∷ xs) n = absurd (n (inl refl))
        none (Some x ∷ xs) n = rw (others x) (none xs (λ h. n (inr h)))

        only : (xs : List (Option T)) → IsRising (before-wide before) xs → Has None xs → ((x : Option T) → Has x xs → Has x xs) → filter (is_root (covers-wide covers) (before-wide before) s) xs ≡ None ∷ []
        only [] r h k = absurd h
        only (None ∷ xs) r h k = rw first (ap (λ z. None ∷ z) (none xs (λ i. clash (r.0 None i))))
          where
            clash : false ≡ true → ⊥
            clash e = cc
        only (Some x ∷ xs) r (inl e) k = absurd (never e)
          where
            never : None ≡ Some x → ⊥
            never e = cc
        only (Some x ∷ xs) r (inr h) k = absurd (clash (r.0 None h))
          where
            clash : false ≡ true → ⊥
            clash e = cc

-- a test on them
pub said-pass : {T N : Type 0} (matches : N → T → Bool) (n : N) (xs : List T) → some_pass (matches-wide matches (Some n)) (said xs) ≡ some_pass (matches n) xs
said-pass matches n [] = refl
said-pass matches n (x ∷ xs) = ap (λ z. matches n x || z) (said-pass matches n xs)

pub never-pass : {T N : Type 0} (matches : N → T → Bool) (xs : List (Option T)) → some_pass (matches-wide matches None) xs ≡ false
never-pass matches [] = refl
never-pass matches (x ∷ xs) = never-pass matches xs
