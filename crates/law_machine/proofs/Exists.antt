-- Journals have a merge, a journal goes on by an entry, and the opening state.
use Rattle.std.proofs.Common.{◌≡◌, ℕ, ◌<◌, true, false, List, [], ◌∷◌, ◌++◌, ◌⊎◌, inl, inr, Some, refl, sym, ap, subst, ◌∙◌, arith, ne_eqb, eq-eqb}
use Rattle.law_machine.specs.Machine.{Has, Machine, Input, Outcome, Stamped, Entry, unstamped, act_of, entry_of, act_phase}
use Rattle.law_machine.specs.Journals.{Cell, cell_after, IsInPhase, IsReplay, network_of, entries_of, IsEarlier, IsInOrder, IsBetweenPhases, opening_cells, IsJournal}
use Rattle.law_machine.specs.Runs.{greatest, raised}
use Rattle.base.specs.Numbers.{IsDistinct}
use Rattle.law_machine.proofs.Lists.{Same, Is, Not, compare}

module _ (m : Machine) where
  -- a journal goes on by an entry
  pub tells-more : (k t : ℕ) (c : Cell m) (es : List (Entry m)) (c' : Cell m) (d : Input m.Task (Stamped m.Message)) (r : Outcome m.State m.Message) → IsReplay m k t c es c' → IsInPhase m k (act_phase m t c'.state (act_of m d)) → m.step t c'.state (unstamped m d) ≡ Some r
      → IsReplay m k t c (es ++ entry_of m t c'.clock d r ∷ []) (cell_after m c' d r)
  tells-more k t c [] c' d r e o s = subst (λ (z : Cell m). IsReplay m k t z (entry_of m t c'.clock d r ∷ []) (cell_after m c' d r)) (sym e) (o, d, r, s, refl, refl)
  tells-more k t c (e ∷ es) c' d r (o', d', r', s', q, rest) o s = (o', d', r', s', q, tells-more k t (cell_after m c d' r') es c' d r rest o s)

  zero-clock : (xs : List ℕ) → greatest m (λ t. 0) xs ≡ 0
  zero-clock [] = refl
  zero-clock (x ∷ xs) = omega (arith, zero-clock xs)

  -- at the opening nothing has been done
  pub opens : (start : ℕ → m.State) → ((t : ℕ) → Has t m.servers → m.pending t (start t) ≡ false) → ((t : ℕ) → Has t m.servers → m.through t (start t) 0 ≡ true)
      → IsBetweenPhases m (network_of m (opening_cells m start)) (network_of m (opening_cells m start)) 0 0 [] (λ t. []) (opening_cells m start)
  opens start calm thr =
      let same : raised m (network_of m (opening_cells m start)) ≡ network_of m (opening_cells m start) = λ i. record { state = start; clock = λ t. zero-clock m.servers i; put = λ u t. []; taken = λ u t. 0 } in
      record {
        run = (refl, refl);
        merge = record { order = tt; parts = λ t. refl };
        low = λ e h. absurd h;
        stand = same;
        quiet = record { empty = λ u t. refl; calm = calm };
        through = thr;
        phase = inr (refl, same);
      }

  chain : (e f g : Entry m) → IsEarlier m e f → IsEarlier m f g → IsEarlier m e g
  chain e f g (inl a) (inl b) = inl (omega (arith, a, b))
  chain e f g (inl a) (inr b) = inl (omega (arith, a, b.0))
  chain e f g (inr a) (inl b) = inl (omega (arith, a.0, b))
  chain e f g (inr a) (inr b) = inr (a.0 ∙ b.0, omega (arith, a.1, b.1))

  order : (a b : ℕ) → (a < b) ⊎ ((b < a) ⊎ (a ≡ b))
  order a b = grind arith

  -- of two entries that differ in stamp or server one is earlier
  which : (e f : Entry m) → ((e.stamp ≡ f.stamp) → (e.server ≡ f.server) → ⊥) → IsEarlier m e f ⊎ IsEarlier m f e
  which e f n = go (order e.stamp f.stamp) (order e.server f.server)
    where
      go : (e.stamp < f.stamp) ⊎ ((f.stamp < e.stamp) ⊎ (e.stamp ≡ f.stamp)) → (e.server < f.server) ⊎ ((f.server < e.server) ⊎ (e.server ≡ f.server)) → IsEarlier m e f ⊎ IsEarlier m f e
      go (inl a) y = inl (inl a)
      go (inr (inl a)) y = inr (inl a)
      go (inr (inr a)) (inl b) = inl (inr (a, b))
      go (inr (inr a)) (inr (inl b)) = inr (inr (sym a, b))
      go (inr (inr a)) (inr (inr b)) = absurd (n a b)

  -- an entry that is the first of its server finds its place among those in order
  pub insert : (e : Entry m) (xs : List (Entry m)) → IsInOrder m xs → ((f : Entry m) → Has f xs → f.server ≡ e.server → e.stamp < f.stamp)
      → (ys : List (Entry m)) × IsInOrder m ys × ((f : Entry m) → Has f ys → (e ≡ f) ⊎ Has f xs) × ((t : ℕ) → entries_of m t ys ≡ entries_of m t (e ∷ xs))
  insert e [] o first = (e ∷ [], ((λ f h. absurd h), tt), (λ f h. elim h [ inl a ↦ inl (sym a) | inr b ↦ inr b ]), λ t. refl)
  insert e (x ∷ xs) o first = go (which e x (λ a b. omega (arith, first x (inl refl) (sym b), a))) (insert e xs o.1 (λ f h. first f (inr h)))
    where
      go : IsEarlier m e x ⊎ IsEarlier m x e → (ys : List (Entry m)) × IsInOrder m ys × ((f : Entry m) → Has f ys → (e ≡ f) ⊎ Has f xs) × ((t : ℕ) → entries_of m t ys ≡ entries_of m t (e ∷ xs))
          → (ys : List (Entry m)) × IsInOrder m ys × ((f : Entry m) → Has f ys → (e ≡ f) ⊎ Has f (x ∷ xs)) × ((t : ℕ) → entries_of m t ys ≡ entries_of m t (e ∷ x ∷ xs))
      go (inl a) ih = (e ∷ x ∷ xs, ((λ f h. elim h [ inl q ↦ subst (λ z. IsEarlier m e z) (sym q) a | inr g ↦ chain e x f a (o.0 f g) ]), o), (λ f h. elim h [ inl q ↦ inl (sym q) | inr g ↦ inr g ]), λ t. refl)
      go (inr a) (ys, p, has, parts) = (x ∷ ys, ((λ f h. elim (has f h) [ inl q ↦ subst (λ z. IsEarlier m x z) q a | inr g ↦ o.0 f g ]), p), (λ f h. elim h [ inl q ↦ inr (inl q) | inr g ↦ elim (has f g) [ inl q ↦ inl q | inr i ↦ inr (inr i) ] ]), λ t. swap t (compare x.server t) (compare e.server t) (parts t))
        where
          swap : (t : ℕ) → Same x.server t → Same e.server t → entries_of m t ys ≡ entries_of m t (e ∷ xs) → entries_of m t (x ∷ ys) ≡ entries_of m t (e ∷ x ∷ xs)
          swap t (Is u v) (Is u' v') q = absurd (elim a [ inl l ↦ omega (arith, first x (inl refl) (u ∙ sym u'), l) | inr l ↦ omega (arith, l.1, u, u') ])
          swap t (Is u v) (Not n' v') q = rw (v', v) (ap (λ z. x ∷ z) (rw v' at q))
          swap t (Not n v) (Is u' v') q = rw (v', v) (rw v' at q)
          swap t (Not n v) (Not n' v') q = rw (v', v) (rw v' at q)

  -- a journal finds its place among the entries of other servers
  pub insert-all : (t : ℕ) (es xs : List (Entry m)) → IsJournal m t es → IsInOrder m xs → ((f : Entry m) → Has f xs → f.server ≡ t → ⊥)
      → (ys : List (Entry m)) × IsInOrder m ys × ((f : Entry m) → Has f ys → Has f es ⊎ Has f xs) × ((u : ℕ) → entries_of m u ys ≡ entries_of m u (es ++ xs))
  insert-all t [] xs j o n = (xs, o, (λ f h. inr h), λ u. refl)
  insert-all t (e ∷ es) xs j o n =
      let ih = insert-all t es xs j.2 o n in
      let one = insert e ih.0 ih.1 (λ f h q. elim (ih.2 f h) [ inl a ↦ j.1 f a | inr a ↦ absurd (n f a (q ∙ j.0)) ]) in
      (one.0, one.1, (λ f h. elim (one.2 f h) [ inl q ↦ inl (inl (sym q)) | inr g ↦ elim (ih.2 f g) [ inl a ↦ inl (inr a) | inr a ↦ inr a ] ]), λ u. one.3 u ∙ front u ih.0 (es ++ xs) (compare e.server u) (ih.3 u))
    where
      front : (u : ℕ) (ys zs : List (Entry m)) → Same e.server u → entries_of m u ys ≡ entries_of m u zs → entries_of m u (e ∷ ys) ≡ entries_of m u (e ∷ zs)
      front u ys zs (Is p v) q = rw v (ap (λ z. e ∷ z) q)
      front u ys zs (Not p v) q = rw v q

  of-all : (t : ℕ) (es xs : List (Entry m)) → IsJournal m t es → entries_of m t (es ++ xs) ≡ es ++ entries_of m t xs
  of-all t [] xs j = refl
  of-all t (e ∷ es) xs j = rw (eq-eqb e.server t j.0) (ap (λ z. e ∷ z) (of-all t es xs j.2))

  of-none : (u t : ℕ) (es xs : List (Entry m)) → (u ≡ t → ⊥) → IsJournal m t es → entries_of m u (es ++ xs) ≡ entries_of m u xs
  of-none u t [] xs n j = refl
  of-none u t (e ∷ es) xs n j = rw (ne_eqb e.server u (λ q. n (sym q ∙ j.0))) (of-none u t es xs n j.2)

  -- the journals of some servers have a merge
  pub merge-some : (servers : List ℕ) → IsDistinct servers → (journals : ℕ → List (Entry m)) → ((t : ℕ) → IsJournal m t (journals t))
      → (ys : List (Entry m)) × IsInOrder m ys × ((f : Entry m) → Has f ys → Has f.server servers) × ((t : ℕ) → Has t servers → entries_of m t ys ≡ journals t) × ((t : ℕ) → (Has t servers → ⊥) → entries_of m t ys ≡ [])
  merge-some [] d journals j = ([], tt, (λ f h. absurd h), (λ t h. absurd h), λ t n. refl)
  merge-some (s ∷ servers) d journals j =
      let ih = merge-some servers d.1 journals j in
      let all = insert-all s (journals s) ih.0 (j s) ih.1 (λ f h q. d.0 (subst (λ z. Has z servers) q (ih.2 f h))) in (
        all.0,
        all.1,
        (λ f h. elim (all.2 f h) [ inl a ↦ inl (own (journals s) (j s) f a) | inr a ↦ inr (ih.2 f a) ]),
        (λ t h. all.3 t ∙ elim h [ inl q ↦ subst (λ z. entries_of m z (journals s ++ ih.0) ≡ journals z) (sym q) (of-all s (journals s) ih.0 (j s) ∙ none (journals s) (ih.4 s d.0)) | inr g ↦ of-none t s (journals s) ih.0 (λ q. d.0 (subst (λ z. Has z servers) q g)) (j s) ∙ ih.3 t g ]),
        λ t n. all.3 t ∙ of-none t s (journals s) ih.0 (λ q. n (inl q)) (j s) ∙ ih.4 t (λ h. n (inr h)),
      )
    where
      own : (es : List (Entry m)) → IsJournal m s es → (f : Entry m) → Has f es → f.server ≡ s
      own [] j f h = absurd h
      own (e ∷ es) j f (inl q) = ap (λ (z : Entry m). z.server) q ∙ j.0
      own (e ∷ es) j f (inr h) = own es j.2 f h

      none : (xs : List (Entry m)) {zs : List (Entry m)} → zs ≡ [] → xs ++ zs ≡ xs
      none xs e = ap (λ z. xs ++ z) e ∙ nil xs
        where
          nil : (xs : List (Entry m)) → xs ++ [] ≡ xs
          nil [] = refl
          nil (x ∷ xs) = ap (λ z. x ∷ z) (nil xs)
