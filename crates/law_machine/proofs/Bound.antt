-- Each reception makes what is on its way lighter, and a command makes it heavier by no more than the square of the number of servers.
use Rattle.std.proofs.Common.{◌≡◌, ℕ, zero, suc, ◌+◌, ◌*◌, ◌≤◌, ◌==◌, ◌&&◌, Bool, true, false, cond, List, [], ◌∷◌, ◌++◌, ◌⊎◌, inl, inr, length, drop, slice_get, Some, refl, sym, ap, subst, ◌∙◌, arith, ne_eqb, eq-eqb, mul-le-mul_right}
use Rattle.std.proofs.lemmas.Option.{same_Some}
use Rattle.law_machine.specs.Machine.{Has, Machine, Input, Does, Receives, Outcome, Stamped, next_stamp, stamped}
use Rattle.law_machine.specs.Network.{NetworkState, IsAvailable, taken_after, network_after}
use Rattle.law_machine.specs.Runs.{IsWithinPuts}
use Rattle.base.specs.Numbers.{sum_over, IsDistinct}
use Rattle.law_machine.specs.Load.{other_sizes, Measure, MeasureLaws, weight_of, link_load, server_load, load}
use Rattle.law_machine.proofs.Lists.{Same, Is, Not, compare}
use Rattle.base.proofs.Numbers.{sum_over-zero}

pub sum-le : (f g h k : ℕ → ℕ) (xs : List ℕ) → ((x : ℕ) → Has x xs → f x + g x ≤ h x + k x) → sum_over f xs + sum_over g xs ≤ sum_over h xs + sum_over k xs
sum-le f g h k [] le = omega arith
sum-le f g h k (x ∷ xs) le = omega (arith, le x (inl refl), sum-le f g h k xs (λ y m. le y (inr m)))

pub sum-more : (f h k : ℕ → ℕ) (xs : List ℕ) → ((x : ℕ) → Has x xs → f x ≤ h x + k x) → sum_over f xs ≤ sum_over h xs + sum_over k xs
sum-more f h k [] le = omega arith
sum-more f h k (x ∷ xs) le = omega (arith, le x (inl refl), sum-more f h k xs (λ y m. le y (inr m)))

pub sum-same : (f g : ℕ → ℕ) (xs : List ℕ) → ((x : ℕ) → Has x xs → f x ≤ g x) → sum_over f xs ≤ sum_over g xs
sum-same f g [] le = omega arith
sum-same f g (x ∷ xs) le = omega (arith, le x (inl refl), sum-same f g xs (λ y m. le y (inr m)))

pub sum-has : (f : ℕ → ℕ) (xs : List ℕ) (x : ℕ) → Has x xs → f x ≤ sum_over f xs
sum-has f [] x h = absurd h
sum-has f (y ∷ xs) x (inl e) = omega (arith, ap f e)
sum-has f (y ∷ xs) x (inr h) = omega (arith, sum-has f xs x h)

times-more : (n a b c d : ℕ) → c ≡ n * a → d ≡ n * b → c + d ≡ n * (a + b)
times-more n a b c d e f = omega (arith, e, f)

pub sum-times : (n : ℕ) (f : ℕ → ℕ) (xs : List ℕ) → sum_over (λ x. n * f x) xs ≡ n * sum_over f xs
sum-times n f [] = omega arith
sum-times n f (x ∷ xs) = times-more n (f x) (sum_over f xs) (n * f x) (sum_over (λ x. n * f x) xs) refl (sum-times n f xs)

-- a number counted at one place of a list
abbrev pub only : ℕ → ℕ → ℕ → ℕ
only u s x = cond (x == u) s 0

pub only-at : (u s x : ℕ) → x ≡ u → only u s x ≡ s
only-at u s x e = rw (eq-eqb x u e) refl

pub only-off : (u s x : ℕ) → (x ≡ u → ⊥) → only u s x ≡ 0
only-off u s x n = rw (ne_eqb x u n) refl

pub sum-only : (u s : ℕ) (xs : List ℕ) → Has u xs → s ≤ sum_over (only u s) xs
sum-only u s [] h = absurd h
sum-only u s (x ∷ xs) (inl e) = rw (eq-eqb x u (sym e)) (omega arith)
sum-only u s (x ∷ xs) (inr h) = omega (arith, sum-only u s xs h)

sum-none : (u s : ℕ) (xs : List ℕ) → (Has u xs → ⊥) → sum_over (only u s) xs ≡ 0
sum-none u s [] n = refl
sum-none u s (x ∷ xs) n = rw (ne_eqb x u (λ e. n (inl (sym e)))) (omega (arith, sum-none u s xs (λ h. n (inr h))))

pub only-sum : (u s : ℕ) (xs : List ℕ) → IsDistinct xs → sum_over (only u s) xs ≤ s
only-sum u s [] d = omega arith
only-sum u s (x ∷ xs) d = go (compare x u) (only-sum u s xs d.1)
  where
    go : Same x u → sum_over (only u s) xs ≤ s → cond (x == u) s 0 + sum_over (only u s) xs ≤ s
    go (Is e v) ih = rw v (omega (arith, sum-none u s xs (λ h. d.0 (subst (λ z. Has z xs) (sym e) h))))
    go (Not n v) ih = rw v (omega arith)

-- sums over what is left of a list
module _ {X : Type 0} (f : X → ℕ) where
  drop-one : (k : ℕ) (xs : List X) → sum_over f (drop (suc k) xs) ≤ sum_over f (drop k xs)
  drop-one zero [] = omega arith
  drop-one zero (x ∷ xs) = omega arith
  drop-one (suc k) [] = omega arith
  drop-one (suc k) (x ∷ xs) = drop-one k xs

  pub drop-get : (k : ℕ) (xs : List X) (x : X) → slice_get xs k ≡ Some x → sum_over f (drop (suc k) xs) + f x ≤ sum_over f (drop k xs)
  drop-get k [] x e = absurd cc
  drop-get zero (y ∷ xs) x e = omega (arith, ap f (same_Some _ _ e))
  drop-get (suc k) (y ∷ xs) x e = drop-get k xs x e

  sum-append : (xs ys : List X) → sum_over f (xs ++ ys) ≡ sum_over f xs + sum_over f ys
  sum-append [] ys = omega arith
  sum-append (x ∷ xs) ys = omega (arith, sum-append xs ys)

  pub drop-append : (k : ℕ) (xs ys : List X) → k ≤ length xs → sum_over f (drop k (xs ++ ys)) ≡ sum_over f (drop k xs) + sum_over f ys
  drop-append zero xs ys l = sum-append xs ys
  drop-append (suc k) [] ys l = absurd (omega arith)
  drop-append (suc k) (x ∷ xs) ys l = drop-append k xs ys (omega arith)

  pub short-sum : (b : ℕ) (xs : List X) → length xs ≤ 1 → ((x : X) → Has x xs → f x ≤ b) → sum_over f xs ≤ b
  short-sum b [] l le = omega arith
  short-sum b (x ∷ []) l le = omega (arith, le x (inl refl))
  short-sum b (x ∷ y ∷ xs) l le = absurd (omega arith)

module _ (m : Machine) (k : Measure m) (laws : MeasureLaws m k) where
  abbrev n : ℕ
  n = length m.servers

  sum-stamped : (u t c : ℕ) (xs : List m.Message) → sum_over (λ s. weight_of m k u t s.message) (stamped m c xs) ≡ sum_over (weight_of m k u t) xs
  sum-stamped u t c [] = refl
  sum-stamped u t c (x ∷ xs) = omega (arith, sum-stamped u t c xs)

  pub plain-heft : (u t : ℕ) (x : m.Message) → k.wide x ≡ false → weight_of m k u t x ≡ k.size u t
  plain-heft u t x e = rw e refl

  wide-heft : (u t : ℕ) (x : m.Message) → k.wide x ≡ true → weight_of m k u t x ≡ n * k.size u t
  wide-heft u t x e = rw e refl

  once-more : (a b : ℕ) → 1 ≤ a → b ≤ a * b
  once-more a b l = omega (arith, mul-le-mul_right b l)

  pub any-heft : (u t : ℕ) (x : m.Message) → 1 ≤ n → weight_of m k u t x ≤ n * k.size u t
  any-heft u t x l = go (k.wide x)
    where
      go : (b : Bool) → cond b (n * k.size u t) (k.size u t) ≤ n * k.size u t
      go true = omega arith
      go false = once-more n (k.size u t) l

  pub some-servers : (t : ℕ) → Has t m.servers → 1 ≤ n
  some-servers t h = omega (arith, laws.total t h)

  -- the step of t
  module _ (w : NetworkState m) (t : ℕ) (d : Input m.Task (Stamped m.Message)) (r : Outcome m.State m.Message) (within : IsWithinPuts m w) where
    abbrev next : NetworkState m
    next = network_after m w t d r

    taken-more : (d : Input m.Task (Stamped m.Message)) (a b : ℕ) → (taken_after m w.taken t d a b ≡ w.taken a b) ⊎ (taken_after m w.taken t d a b ≡ suc (w.taken a b))
    taken-more (Does x) a b = inl refl
    taken-more (Receives u s) a b = go ((a == u) && (b == t))
      where
        go : (y : Bool) → (cond y (suc (w.taken a b)) (w.taken a b) ≡ w.taken a b) ⊎ (cond y (suc (w.taken a b)) (w.taken a b) ≡ suc (w.taken a b))
        go true = inr refl
        go false = inl refl

    fewer : (a b : ℕ) (xs : List (Stamped m.Message)) → sum_over (λ s. weight_of m k a b s.message) (drop (next.taken a b) xs) ≤ sum_over (λ s. weight_of m k a b s.message) (drop (w.taken a b) xs)
    fewer a b xs = elim (taken-more d a b) [ inl e ↦ omega (arith, ap (λ z. sum_over (λ s. weight_of m k a b s.message) (drop z xs)) e) | inr e ↦ omega (arith, ap (λ z. sum_over (λ s. weight_of m k a b s.message) (drop z xs)) e, drop-one (λ s. weight_of m k a b s.message) (w.taken a b) xs) ]

    line-other : (a b : ℕ) → (a ≡ t → ⊥) → link_load m k next a b ≤ link_load m k w a b
    line-other a b q = rw (ne_eqb a t q) (fewer a b (w.put a b))

    line-mine : (b : ℕ) → link_load m k next t b ≤ link_load m k w t b + sum_over (weight_of m k t b) (r.outs b)
    line-mine b =
        let new = stamped m (next_stamp m (w.clock t) d) (r.outs b) in
        rw (eq-eqb t t refl) (omega (arith, fewer t b (w.put t b ++ new), drop-append (λ s. weight_of m k t b s.message) (w.taken t b) (w.put t b) new (within t b), sum-stamped t b (next_stamp m (w.clock t) d) (r.outs b)))

    row-other : (a : ℕ) → (a ≡ t → ⊥) → server_load m k next a ≤ server_load m k w a
    row-other a q = sum-same (link_load m k next a) (link_load m k w a) (m.links a) (λ b h. line-other a b q)

    row-mine : (g : ℕ → ℕ) → ((b : ℕ) → Has b (m.links t) → sum_over (weight_of m k t b) (r.outs b) ≤ g b) → server_load m k next t ≤ server_load m k w t + sum_over g (m.links t)
    row-mine g le = sum-more (link_load m k next t) (link_load m k w t) g (m.links t) (λ b h. omega (arith, line-mine b, le b h))

    -- a step makes the load heavier by what it puts
    pub heavier : (g : ℕ → ℕ) → ((b : ℕ) → Has b (m.links t) → sum_over (weight_of m k t b) (r.outs b) ≤ g b) → load m k next ≤ load m k w + sum_over g (m.links t)
    heavier g le = omega (arith, sum-more (server_load m k next) (server_load m k w) (only t (sum_over g (m.links t))) m.servers (λ a h. each a (compare a t)), only-sum t (sum_over g (m.links t)) m.servers laws.distinct)
      where
        each : (a : ℕ) → Same a t → server_load m k next a ≤ server_load m k w a + only t (sum_over g (m.links t)) a
        each a (Is p v) = omega (arith, only-at t (sum_over g (m.links t)) a p, subst (λ z. server_load m k next z ≤ server_load m k w z + sum_over g (m.links t)) (sym p) (row-mine g le))
        each a (Not q v) = omega (arith, only-off t (sum_over g (m.links t)) a q, row-other a q)

  module _ (w : NetworkState m) (t u : ℕ) (s : Stamped m.Message) (r : Outcome m.State m.Message) (within : IsWithinPuts m w) (given : IsAvailable m w t (Receives u s)) (made : m.step t (w.state t) (Receives u s.message) ≡ Some r) where
    abbrev then : NetworkState m
    then = network_after m w t (Receives u s) r

    near : Has u (m.links t)
    near = laws.from t (w.state t) u s.message r made

    far : Has t (m.links u)
    far = laws.both t u near

    not-me : u ≡ t → ⊥
    not-me e = laws.apart t (subst (λ z. Has z (m.links t)) e near)

    line-taken : (b : ℕ) → Same b t → link_load m k then u b + only t (weight_of m k u t s.message) b ≤ link_load m k w u b + 0
    line-taken b (Is e v) = subst (λ z. link_load m k then u z + only t (weight_of m k u t s.message) z ≤ link_load m k w u z + 0) (sym e)
        (rw (ne_eqb u t not-me, eq-eqb u u refl, eq-eqb t t refl) (omega (arith, drop-get (λ x. weight_of m k u t x.message) (w.taken u t) (w.put u t) s given)))
    line-taken b (Not q v) = omega (arith, only-off t (weight_of m k u t s.message) b q, line-other w t (Receives u s) r within u b not-me)

    row-taken : server_load m k then u + weight_of m k u t s.message ≤ server_load m k w u
    row-taken = omega (arith, sum-le (link_load m k then u) (only t (weight_of m k u t s.message)) (link_load m k w u) (λ b. 0) (m.links u) (λ b h. line-taken b (compare b t)), sum-only t (weight_of m k u t s.message) (m.links u) far, sum_over-zero (m.links u))

    moved : (g : ℕ → ℕ) → ((b : ℕ) → Has b (m.links t) → sum_over (weight_of m k t b) (r.outs b) ≤ g b) → load m k then + weight_of m k u t s.message ≤ load m k w + sum_over g (m.links t)
    moved g le =
        omega (arith, sum-le (server_load m k then) (only u (weight_of m k u t s.message)) (server_load m k w) (only t (sum_over g (m.links t))) m.servers (λ a h. each a (compare a u) (compare a t)), sum-only u (weight_of m k u t s.message) m.servers (laws.linked u t far), only-sum t (sum_over g (m.links t)) m.servers laws.distinct)
      where
        each : (a : ℕ) → Same a u → Same a t → server_load m k then a + only u (weight_of m k u t s.message) a ≤ server_load m k w a + only t (sum_over g (m.links t)) a
        each a (Is p v) (Is p' v') = absurd (not-me (sym p ∙ p'))
        each a (Is p v) (Not q' v') = omega (arith, only-at u (weight_of m k u t s.message) a p, subst (λ z. server_load m k then z + weight_of m k u t s.message ≤ server_load m k w z) (sym p) row-taken)
        each a (Not q v) (Is p' v') = omega (arith, only-off u (weight_of m k u t s.message) a q, only-at t (sum_over g (m.links t)) a p', subst (λ z. server_load m k then z ≤ server_load m k w z + sum_over g (m.links t)) (sym p') (row-mine w t (Receives u s) r within g le))
        each a (Not q v) (Not q' v') = omega (arith, only-off u (weight_of m k u t s.message) a q, row-other w t (Receives u s) r within a q')

    short : (b : ℕ) → Has b (m.links t) → length (r.outs b) ≤ 1
    short b h = laws.one t (w.state t) (Receives u s.message) r made b h

    lighter-plain : k.wide s.message ≡ false → load m k then + 1 ≤ load m k w
    lighter-plain e = omega (arith, moved (λ b. cond (b == u) 0 (k.size t b)) (λ b h. each b h (compare b u)), plain-heft u t s.message e, laws.weighs u t far)
      where
        each : (b : ℕ) → Has b (m.links t) → Same b u → sum_over (weight_of m k t b) (r.outs b) ≤ cond (b == u) 0 (k.size t b)
        each b h (Is p v) = rw v (omega (arith, ap (sum_over (weight_of m k t b)) (ap r.outs p ∙ laws.back t (w.state t) u s.message r made e)))
        each b h (Not q v) = rw v (short-sum (weight_of m k t b) (k.size t b) (r.outs b) (short b h) (λ y i. omega (arith, plain-heft t b y (laws.plain t (w.state t) u s.message r made e b y i))))

    split-sum : (g : ℕ → ℕ) (h : ℕ → ℕ) (xs : List ℕ) → sum_over (λ b. g b + h b) xs ≡ sum_over g xs + sum_over h xs
    split-sum g h [] = omega arith
    split-sum g h (x ∷ xs) = omega (arith, split-sum g h xs)

    wide-room : (a x b c : ℕ) → b + 1 ≤ a → c ≡ suc x → a * x + b + 1 ≤ a * c
    wide-room a x b c l e = omega (arith, ap (λ z. a * z) e, step a x)
      where
        step : (a x : ℕ) → a * suc x ≡ a * x + a
        step a x = omega arith

    lighter-wide : k.wide s.message ≡ true → load m k then + 1 ≤ load m k w
    lighter-wide e =
        let here : Has t m.servers = laws.linked t u near in
        let g : ℕ → ℕ = λ b. n * cond (b == u) 0 (k.size t b) + only u (k.size t u) b in
        omega (
          arith,
          moved (λ b. n * cond (b == u) 0 (k.size t b) + only u (k.size t u) b) (λ b h. each b h (compare b u)),
          split-sum (λ b. n * cond (b == u) 0 (k.size t b)) (only u (k.size t u)) (m.links t),
          sum-times n (λ b. cond (b == u) 0 (k.size t b)) (m.links t),
          only-sum u (k.size t u) (m.links t) (laws.single t),
          wide-heft u t s.message e,
          wide-room n (other_sizes (k.size t) u (m.links t)) (k.size t u) (k.size u t) (omega (arith, laws.total t here, sum-has (k.size t) (m.links t) u near)) (laws.weighs u t far),
        )
      where
        each : (b : ℕ) → Has b (m.links t) → Same b u → sum_over (weight_of m k t b) (r.outs b) ≤ n * cond (b == u) 0 (k.size t b) + only u (k.size t u) b
        each b h (Is p v) = rw v (subst (λ z. sum_over (weight_of m k t z) (r.outs z) ≤ n * 0 + k.size t u) (sym p) (omega (arith, short-sum (weight_of m k t u) (k.size t u) (r.outs u) (short u near) (λ y i. omega (arith, plain-heft t u y (laws.back_plain t (w.state t) u s.message r made y i))))))
        each b h (Not q v) = rw v (omega (arith, short-sum (weight_of m k t b) (n * k.size t b) (r.outs b) (short b h) (λ y i. any-heft t b y (some-servers t (laws.linked t u near)))))

    -- a reception makes the load lighter
    pub lighter : load m k then + 1 ≤ load m k w
    lighter = go (k.wide s.message) refl
      where
        go : (b : Bool) → k.wide s.message ≡ b → load m k then + 1 ≤ load m k w
        go true e = lighter-wide e
        go false e = lighter-plain e
