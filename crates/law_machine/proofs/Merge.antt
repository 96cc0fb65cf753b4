-- Journals merged by stamp are a run of the network.
use Rattle.std.proofs.Common.{◌≡◌, ℕ, suc, ◌≤◌, List, [], ◌∷◌, ◌++◌, inl, inr, length, slice_get, Some, refl, sym, ap, subst, ◌∙◌, arith, length-append, ne_eqb, eq-eqb}
use Rattle.law_machine.specs.Machine.{Has, at, Input, Does, Receives, Outcome, Machine, Stamped, Entry, next_stamp, stamped, entry_of, act_phase}
use Rattle.law_machine.specs.Journals.{IsPrefix, Cell, took_after, cell_after, IsReplay, IsInPhase, IsPhaseRun, network_of, entries_of, IsInOrder}
use Rattle.law_machine.specs.Network.{NetworkState, IsAvailable, taken_after, network_after, IsStep}
use Rattle.law_machine.proofs.Lists.{Same, Is, Not, compare, at-same, append-nothing, append-together, prefix-trans, prefix-self, get-after, get-front}
use Rattle.std.proofs.Math.Path.{fun_ext}
use Rattle.base.proofs.Sets.{has-append}

module _ (m : Machine) where
  -- what was received and put stays
  pub took-grows : (k t : ℕ) (c : Cell m) (es : List (Entry m)) (c' : Cell m) → IsReplay m k t c es c' → (u : ℕ) → IsPrefix (c.took u) (c'.took u)
  took-grows k t c [] c' e u = subst (λ (z : Cell m). IsPrefix (c.took u) (z.took u)) e (prefix-self (c.took u))
  took-grows k t c (e ∷ es) c' (o, d, r, s, q, rest) u = prefix-trans (c.took u) (took_after m c.took d u) (c'.took u) (go d) (took-grows k t (cell_after m c d r) es c' rest u)
    where
      go : (d : Input m.Task (Stamped m.Message)) → IsPrefix (c.took u) (took_after m c.took d u)
      go (Does a) = prefix-self (c.took u)
      go (Receives x s) = by (compare u x)
        where
          by : Same u x → IsPrefix (c.took u) (at c.took x (c.took x ++ s ∷ []) u)
          by (Is p v) = rw v (s ∷ [], ap (λ z. c.took z ++ s ∷ []) p)
          by (Not n v) = rw v (prefix-self (c.took u))

  pub stamped-has : (n : ℕ) (ms : List m.Message) (s : Stamped m.Message) → Has s (stamped m n ms) → s.stamp ≡ n
  stamped-has n [] s h = absurd h
  stamped-has n (x ∷ ms) s (inl e) = ap (λ (z : Stamped m.Message). z.stamp) e
  stamped-has n (x ∷ ms) s (inr h) = stamped-has n ms s h

  -- what a journal puts has stamps of its entries
  pub put-grows : (k b t : ℕ) (c : Cell m) (es : List (Entry m)) (c' : Cell m) → ((e : Entry m) → Has e es → b ≤ e.stamp) → IsReplay m k t c es c' → (v : ℕ)
      → (zs : List (Stamped m.Message)) × (c.put v ++ zs ≡ c'.put v) × ((s : Stamped m.Message) → Has s zs → b ≤ s.stamp)
  put-grows k b t c [] c' low e v = ([], append-nothing (c.put v) ∙ ap (λ (z : Cell m). z.put v) e, λ s h. absurd h)
  put-grows k b t c (e ∷ es) c' low (o, d, r, s, q, rest) v =
      let ih = put-grows k b t (cell_after m c d r) es c' (λ f h. low f (inr h)) rest v in
      let first : b ≤ next_stamp m c.clock d = omega (arith, low e (inl refl), ap (λ (z : Entry m). z.stamp) q) in
      let new = stamped m (next_stamp m c.clock d) (r.outs v) in
      (new ++ ih.0, sym (append-together (c.put v) new ih.0) ∙ ih.1, λ x h. elim (has-append x new ih.0 h) [ inl a ↦ omega (arith, first, stamped-has (next_stamp m c.clock d) (r.outs v) x a) | inr a ↦ ih.2 x a ])

  abbrev pub whole_next : (ℕ → Cell m) → ℕ → Input m.Task (Stamped m.Message) → Outcome m.State m.Message → NetworkState m
  whole_next cells t d r = network_of m (at cells t (cell_after m (cells t) d r))

  -- a step of one server is a step of the network
  pub whole-after : (cells : ℕ → Cell m) (t : ℕ) (d : Input m.Task (Stamped m.Message)) (r : Outcome m.State m.Message) → network_after m (network_of m cells) t d r ≡ network_of m (at cells t (cell_after m (cells t) d r))
  whole-after cells t d r = λ i. record { state = fun_ext states i; clock = fun_ext clocks i; put = λ u v. puts u v i; taken = λ u v. takens d u v i }
    where
      states : (x : ℕ) → (network_after m (network_of m cells) t d r).state x ≡ (whole_next cells t d r).state x
      states x = elim (compare x t) [ Is p v ↦ rw v refl | Not n v ↦ rw v refl ]

      clocks : (x : ℕ) → (network_after m (network_of m cells) t d r).clock x ≡ (whole_next cells t d r).clock x
      clocks x = elim (compare x t) [ Is p v ↦ rw v refl | Not n v ↦ rw v refl ]

      puts : (u v : ℕ) → (network_after m (network_of m cells) t d r).put u v ≡ (whole_next cells t d r).put u v
      puts u v = elim (compare u t) [ Is p q ↦ rw q (ap (λ z. (cells z).put v ++ stamped m (next_stamp m (cells t).clock d) (r.outs v)) p) | Not n q ↦ rw q refl ]

      takens : (d : Input m.Task (Stamped m.Message)) (u v : ℕ) → taken_after m (network_of m cells).taken t d u v ≡ length ((at cells t (cell_after m (cells t) d r) v).took u)
      takens (Does a) u v = elim (compare v t) [ Is p q ↦ rw q (ap (λ z. length ((cells z).took u)) p) | Not n q ↦ rw q refl ]
      takens (Receives s x) u v = by (compare v t) (compare u s)
        where
          by : Same v t → Same u s → taken_after m (network_of m cells).taken t (Receives s x) u v ≡ length ((at cells t (cell_after m (cells t) (Receives s x) r) v).took u)
          by (Is p q) (Is p' q') = rw (q, q') (ap suc (ap (λ z. length ((cells z).took u)) p ∙ ap (λ z. length ((cells t).took z)) p') ∙ one ((cells t).took s))
            where
              one : (xs : List (Stamped m.Message)) → suc (length xs) ≡ length (xs ++ x ∷ [])
              one xs = omega (arith, length-append xs (x ∷ []))
          by (Is p q) (Not n' q') = rw (q, q') (ap (λ z. length ((cells z).took u)) p)
          by (Not n q) (Is p' q') = rw (q, q') refl
          by (Not n q) (Not n' q') = rw (q, q') refl

  pub of-mine : (e : Entry m) (es : List (Entry m)) → entries_of m e.server (e ∷ es) ≡ e ∷ entries_of m e.server es
  of-mine e es = rw (eq-eqb e.server e.server refl) refl

  pub of-other : (e : Entry m) (es : List (Entry m)) (x : ℕ) → (x ≡ e.server → ⊥) → entries_of m x (e ∷ es) ≡ entries_of m x es
  of-other e es x n = rw (ne_eqb e.server x (λ q. n (sym q))) refl

  pub of-has : (t : ℕ) (es : List (Entry m)) (f : Entry m) → Has f (entries_of m t es) → Has f es
  of-has t [] f h = absurd h
  of-has t (e ∷ es) f h = by (compare e.server t) h (λ x. of-has t es f x)
    where
      split : (xs : List (Entry m)) → Has f (e ∷ xs) → (Has f xs → Has f es) → Has f (e ∷ es)
      split xs (inl q) ih = inl q
      split xs (inr x) ih = inr (ih x)

      by : Same e.server t → Has f (entries_of m t (e ∷ es)) → (Has f (entries_of m t es) → Has f es) → Has f (e ∷ es)
      by (Is p v) h ih = split (entries_of m t es) (rw v at h) ih
      by (Not n v) h ih = inr (ih (rw v at h))

  least : (e : Entry m) (es : List (Entry m)) → IsInOrder m (e ∷ es) → (f : Entry m) → Has f (e ∷ es) → e.stamp ≤ f.stamp
  least e es o f (inl q) = omega (arith, ap (λ (z : Entry m). z.stamp) q)
  least e es o f (inr h) = elim (o.0 f h) [ inl l ↦ omega (arith, l) | inr l ↦ omega (arith, l.0) ]

  -- Journals of all servers, over what each received, are a run in the order of the stamps, where what was received is the beginning of what was put
  pub merged-parts : (k : ℕ) (all : List (Entry m)) → IsInOrder m all → (cells ends : ℕ → Cell m) → ((t : ℕ) → IsReplay m k t (cells t) (entries_of m t all) (ends t)) → ((u t : ℕ) → IsPrefix ((ends t).took u) ((ends u).put t)) → IsPhaseRun m k (network_of m cells) all (network_of m ends)
  merged-parts k [] o cells ends tells pre = ap (network_of m) (fun_ext tells)
  merged-parts k (e ∷ es) o cells ends tells pre = go (subst (λ z. IsReplay m k e.server (cells e.server) z (ends e.server)) (of-mine e es) (tells e.server)) (λ c t. merged-parts k es o.1 c ends t pre)
    where
      go : IsReplay m k e.server (cells e.server) (e ∷ entries_of m e.server es) (ends e.server)
          → ((c : ℕ → Cell m) → ((t : ℕ) → IsReplay m k t (c t) (entries_of m t es) (ends t)) → IsPhaseRun m k (network_of m c) es (network_of m ends))
          → (v : NetworkState m) × IsInPhase m k (act_phase m e.server (cells e.server).state e.act) × IsStep m (network_of m cells) e v × IsPhaseRun m k v es (network_of m ends)
      go (ok, d, r, s, q, rest) ih = (network_of m (at cells e.server (cell_after m (cells e.server) d r)), ok, (d, r, s, q, given d q rest, whole-after cells e.server d r), ih (at cells e.server (cell_after m (cells e.server) d r)) (λ x. each x (compare x e.server)))
        where
          each : (x : ℕ) → Same x e.server → IsReplay m k x (at cells e.server (cell_after m (cells e.server) d r) x) (entries_of m x es) (ends x)
          each x (Is p v) = rw v (subst (λ z. IsReplay m k z (cell_after m (cells e.server) d r) (entries_of m z es) (ends z)) (sym p) rest)
          each x (Not n v) = rw v (subst (λ z. IsReplay m k x (cells x) z (ends x)) (of-other e es x n) (tells x))

          given : (d : Input m.Task (Stamped m.Message)) → e ≡ entry_of m e.server (cells e.server).clock d r → IsReplay m k e.server (cell_after m (cells e.server) d r) (entries_of m e.server es) (ends e.server) → IsAvailable m (network_of m cells) e.server d
          given (Does a) q rest = tt
          given (Receives u s) q rest =
              let t = e.server in
              let more = took-grows k t (cell_after m (cells t) (Receives u s) r) (entries_of m t es) (ends t) rest u in
              let puts = put-grows k e.stamp u (cells u) (entries_of m u (e ∷ es)) (ends u) (λ f h. least e es o f (of-has u (e ∷ es) f h)) (tells u) t in
              let now : took_after m (cells t).took (Receives u s) u ≡ (cells t).took u ++ s ∷ [] = at-same (cells t).took u ((cells t).took u ++ s ∷ []) in
              let link_load : (cells u).put t ++ puts.0 ≡ (cells t).took u ++ (s ∷ (more.0 ++ (pre u t).0)) =
              puts.1 ∙ sym (pre u t).1 ∙ ap (λ z. z ++ (pre u t).0) (sym more.1 ∙ ap (λ z. z ++ more.0) now) ∙ ap (λ z. z ++ (pre u t).0) (append-together ((cells t).took u) (s ∷ []) more.0) ∙ append-together ((cells t).took u) (s ∷ more.0) (pre u t).0 in
              get-front ((cells u).put t) puts.0 (length ((cells t).took u)) s
              (subst (λ z. slice_get z (length ((cells t).took u)) ≡ Some s) (sym link_load) (get-after ((cells t).took u) s (more.0 ++ (pre u t).0)))
              (λ h. omega (arith, puts.2 s h, ap (λ (z : Entry m). z.stamp) q))
