-- Proves that a settled notification is delivered.
use Rattle.std.proofs.Common.{◌≡◌, ℕ, zero, suc, ◌≤◌, ◌<◌, ◌==◌, Bool, true, false, cond, ◌&&◌, List, [], ◌∷◌, ◌++◌, ◌⊎◌, inl, inr, length, slice_get, Some, refl, sym, ap, subst, ◌∙◌, arith, length-append}
use Rattle.std.proofs.lemmas.Option.{slice_get_within, same_Some}
use Rattle.law_machine.specs.Links.{IsStayStep, IsReceiveStep as Taken}
use Rattle.base.proofs.Numbers.{Same, Is, Not, compare}
use Rattle.law_machine.proofs.Numbers.{slice_get-left}
use Rattle.law_machine.proofs.Links.{prefix}
use Rattle.law_machine.specs.Machine.{Has, Input, Does, Receives, Stamped, unstamped, stamped}
use Rattle.law_machine.specs.Network.{IsAvailable, taken_after}
use Rattle.law_machine.specs.History.{IsHistory}
use Rattle.law_machine.proofs.History.{link, applied}
use Rattle.law_routing.specs.Theory.{Theory, TheoryLaws}
use Rattle.law_routing.specs.Net.{Net, NetLaws}
use Rattle.law_routing.specs.Server.{Message, Noticed, Publication, is_among}
use Rattle.law_routing.specs.Step.{Task, Routes, message_work, work_of}
use Rattle.law_routing.specs.Clients.{some_pass}
use Rattle.law_routing.specs.Routing.{routing_machine, Network, NetEntry}
use Rattle.law_routing.specs.Contents.{filter_content}
use Rattle.law_routing.specs.Works.{work_at, Works}
use Rattle.law_routing.specs.Order.{IsStrictlyRising, ordinals_delivered}
use Rattle.law_routing.specs.Rest.{IsOnwardWay, end_of, IsAtRest}
use Rattle.law_routing.specs.AsOf.{IsRoutedAt, IsSettledAlong, IsReceivedAlong, times_delivered}
use Rattle.law_routing.proofs.Laws.{cond-some}
use Rattle.law_routing.proofs.Spreading.{one}
use Rattle.law_routing.proofs.Contents.{subs-laws}
use Rattle.law_routing.proofs.Listing.{slice_get-end}
use Rattle.law_routing.proofs.Working.{NextWorks, next-works}
use Rattle.law_routing.proofs.Along.{strict, filters-link}
use Rattle.law_routing.proofs.Passing.{pass-works, pass-put, pass-installed, sends-all, given-rises, sent-on, in-force}
use Rattle.std.proofs.lemmas.Bool.{cases_lt}
use Rattle.base.proofs.Sets.{has-append-right}

-- a count that rises by steps of one passes each number
pub crossing : (f : ℕ → ℕ) → ((n : ℕ) → f (suc n) ≤ suc (f n)) → (k e : ℕ) → f 0 ≤ k → k < f e → (m : ℕ) × (m < e) × (f m ≡ k) × (f (suc m) ≡ suc k)
crossing f slow k zero low l = absurd (omega (arith, low, l))
crossing f slow k (suc e) low l = go (cases_lt k (f e)) (crossing f slow k e low)
  where
    go : (k < f e) ⊎ (f e ≤ k) → (k < f e → (m : ℕ) × (m < e) × (f m ≡ k) × (f (suc m) ≡ suc k)) → (m : ℕ) × (m < suc e) × (f m ≡ k) × (f (suc m) ≡ suc k)
    go (inl h) ih = let r = ih h in (r.0, omega (arith, r.1), r.2, r.3)
    go (inr h) ih = (e, omega arith, omega (arith, h, l, slow e), omega (arith, h, l, slow e))

-- what stands at a place of a list's beginning stands there in the list
same-message : {X : Type 0} (xs ys all : List X) (k : ℕ) (a b : X) → k < length xs → slice_get xs k ≡ Some a → all ≡ xs ++ ys → slice_get all k ≡ Some b → a ≡ b
same-message xs ys all k a b l e f g = same_Some _ _ (sym e ∙ (sym (slice_get-left xs ys k l) ∙ (ap (λ z. slice_get z k) (sym f) ∙ g)))

module _ (th : Theory) (laws : TheoryLaws th) (net : Net th) (good : NetLaws th net) (J : List (NetEntry th net)) (h : ℕ → Network th net) (ph : ℕ → ℕ) (history : IsHistory (routing_machine th net) J h ph) (rest : IsAtRest th net (h 0)) where
  abbrev takes-deed : ℕ → Stamped (Message th) → Input Task (Stamped (Message th))
  takes-deed u y = Receives u y

  -- a count of receptions rises only by a reception of that link
  took : (w : Network th net) (server t u : ℕ) (d : Input Task (Stamped (Message th))) → taken_after (routing_machine th net) w.taken server d t u ≡ suc (w.taken t u) → (y : Stamped (Message th)) × (d ≡ Receives t y) × (server ≡ u)
  took w server t u (Does a) e = absurd (omega (arith, e))
  took w server t u (Receives x y) e = go (compare t x) (compare u server) e
    where
      go : Same t x → Same u server → cond ((t == x) && (u == server)) (suc (w.taken t u)) (w.taken t u) ≡ suc (w.taken t u) → (z : Stamped (Message th)) × (takes-deed x y ≡ takes-deed t z) × (server ≡ u)
      go (Is p f) (Is p' f') e' = (y, ap (λ z. takes-deed z y) (sym p), sym p')
      go (Is p f) (Not n f') e' = absurd (omega (arith, rw (f, f') at e'))
      go (Not n f) s e' = absurd (omega (arith, rw f at e'))

  -- the moment at which the message at place k of a link is received
  pub record Reception (t u k last : ℕ) : Type 0 where
    pub at : ℕ
    pub before : at < last
    pub entry : NetEntry th net
    pub slot : slice_get J at ≡ Some entry
    pub server : entry.server ≡ u
    pub message : Stamped (Message th)
    pub next : slice_get ((h at).put t u) k ≡ Some message
    pub works : Works th net (h at) entry (h (suc at))
    pub does : works.work ≡ message_work th net ((h at).state u) t message.message

  when-taken : (t u k last : ℕ) (near : Has u (net.links t)) → (h 0).taken t u ≤ k → k < (h last).taken t u → Reception t u k last
  when-taken t u k last near low l = go c (next-works th net J h ph history c.0)
    where
      c : (m : ℕ) × (m < last) × ((h m).taken t u ≡ k) × ((h (suc m)).taken t u ≡ suc k)
      c = crossing (λ n. (h n).taken t u) (λ n. slow n ((filters-link th laws net good J h ph history rest t u near).takes n)) k last low l
        where
          slow : (n : ℕ) → IsStayStep (link (routing_machine th net) (filter_content th net) (subs-laws th laws net good (strict th laws net good)) (one th (strict th laws net good) net) good.tree.apart good.tree.both J h ph history t u near) n
              ⊎ Taken (applied (routing_machine th net) (filter_content th net) (subs-laws th laws net good (strict th laws net good)) (one th (strict th laws net good) net) good.tree.apart good.tree.both J h ph history t u near) (link (routing_machine th net) (filter_content th net) (subs-laws th laws net good (strict th laws net good)) (one th (strict th laws net good) net) good.tree.apart good.tree.both J h ph history t u near) n
              → (h (suc n)).taken t u ≤ suc ((h n).taken t u)
          slow n (inl e) = omega (arith, e.counts)
          slow n (inr e) = omega (arith, e.counts)

      go : (c : (m : ℕ) × (m < last) × ((h m).taken t u ≡ k) × ((h (suc m)).taken t u ≡ suc k)) → NextWorks th net J h ph history c.0 → Reception t u k last
      go c (inl (f, e)) = absurd (omega (arith, c.2, c.3, ap (λ z. z.taken t u) e))
      go c (inr (e, f, w)) = by (took (h c.0) e.server t u w.deed (sym (ap (λ z. z t u) w.taken) ∙ (c.3 ∙ ap suc (sym c.2))))
        where
          by : (y : Stamped (Message th)) × (w.deed ≡ Receives t y) × (e.server ≡ u) → Reception t u k last
          by y =
              let given : IsAvailable (routing_machine th net) (h c.0) e.server (Receives t y.0) = subst (IsAvailable (routing_machine th net) (h c.0) e.server) y.1 w.given in
              let outcome_at : work_of th net e.server ((h c.0).state e.server) (Receives t y.0.message) ≡ Some w.work = subst (λ z. work_of th net e.server ((h c.0).state e.server) (unstamped (routing_machine th net) z) ≡ Some w.work) y.1 w.possible in
              let f' = cond-some (is_among e.server net.servers) (is_among t (net.links e.server)) (Some (message_work th net ((h c.0).state e.server) t y.0.message)) w.work outcome_at in
              record {
                at = c.0;
                before = c.1;
                entry = e;
                slot = f;
                server = y.2;
                message = y.0;
                next = subst (λ z. slice_get ((h c.0).put t z) k ≡ Some y.0) y.2 (subst (λ z. slice_get ((h c.0).put t e.server) z ≡ Some y.0) (ap (λ z. (h c.0).taken t z) y.2 ∙ c.2) given);
                works = w;
                does = sym (same_Some _ _ f'.2) ∙ ap (λ z. message_work th net ((h c.0).state z) t y.0.message) y.2;
              }

  prefix-of : (t u x m : ℕ) (near : Has u (net.links t)) → x ≤ m → (more : List (Stamped (Message th))) × ((h m).put t u ≡ (h x).put t u ++ more)
  prefix-of t u x m near l = prefix (applied (routing_machine th net) (filter_content th net) (subs-laws th laws net good (strict th laws net good)) (one th (strict th laws net good) net) good.tree.apart good.tree.both J h ph history t u near) (link (routing_machine th net) (filter_content th net) (subs-laws th laws net good (strict th laws net good)) (one th (strict th laws net good) net) good.tree.apart good.tree.both J h ph history t u near) (filters-link th laws net good J h ph history rest t u near) x m l

  -- a notice that is sent on stands on the link from then on
  stands : (m interface q o : ℕ) (n : th.Notice) (t u last : ℕ) (p : IsRoutedAt th net h J m t interface q o n) (near : Has u (net.links t)) → (u ≡ interface → ⊥) → some_pass (th.matches n) (((h m).state t).installed u) ≡ true → m < last
      → (x : Stamped (Message th)) × (slice_get ((h last).put t u) (length ((h m).put t u)) ≡ Some x) × (x.message ≡ Noticed q o n)
  stands m interface q o n t u last p near ne hit l =
      let x = pass-works th net J h ph history m t interface q o n p in
      let sends = sends-all th net t x.works.from interface q o n u near ne (subst (λ z. some_pass (th.matches n) z ≡ true) (sym (pass-installed th net J h ph history m t interface q o n p.entry x u)) hit) in
      let here : (h (suc m)).put t u ≡ (h m).put t u ++ (record { stamp = x.works.stamp; message = Noticed q o n } ∷ []) = pass-put th net J h ph history m t interface q o n p.entry x u ∙ ap (λ z. (h m).put t u ++ stamped (routing_machine th net) x.works.stamp z) sends in
      let more = prefix-of t u (suc m) last near (omega (arith, l)) in
      let frame : Stamped (Message th) = record { stamp = x.works.stamp; message = Noticed q o n } in (
        frame,
        ap (λ z. slice_get z (length ((h m).put t u))) (more.1 ∙ ap (λ z. z ++ more.0) here)
            ∙ (slice_get-left ((h m).put t u ++ (frame ∷ [])) more.0 (length ((h m).put t u)) (omega (arith, length-append ((h m).put t u) (frame ∷ []))) ∙ slice_get-end ((h m).put t u) frame []),
        refl,
      )

  -- and when its message is received it passes the neighbour
  pub moves-on : (m interface q o : ℕ) (n : th.Notice) (t u last : ℕ) (p : IsRoutedAt th net h J m t interface q o n) (near : Has u (net.links t)) → (u ≡ interface → ⊥) → some_pass (th.matches n) (((h m).state t).installed u) ≡ true → m < last
      → ((k : ℕ) (x : Stamped (Message th)) → slice_get ((h last).put t u) k ≡ Some x → x.message ≡ Noticed q o n → k < (h last).taken t u) → (m' : ℕ) × (m' < last) × IsRoutedAt th net h J m' u t q o n
  moves-on m interface q o n t u last p near ne hit l taken =
      let s = stands m interface q o n t u last p near ne hit l in
      let first = prefix-of t u 0 m near (omega arith) in
      let low : (h 0).taken t u ≤ length ((h m).put t u) = omega (arith, rest.empty t u, ap length first.1, length-append ((h 0).put t u) first.0) in
      let x = when-taken t u (length ((h m).put t u)) last near low (taken (length ((h m).put t u)) s.0 s.1 s.2) in
      let later = prefix-of t u x.at last near (omega (arith, x.before)) in
      let fits : length ((h m).put t u) < length ((h x.at).put t u) = slice_get_within ((h x.at).put t u) (length ((h m).put t u)) x.message x.next in
      let same = same-message ((h x.at).put t u) later.0 ((h last).put t u) (length ((h m).put t u)) x.message s.0 fits x.next later.1 s.1 in
      let work : x.works.work ≡ Routes t q o n = x.does ∙ ap (message_work th net ((h x.at).state u) t) (ap (λ z. z.message) same ∙ s.2) in
      (x.at, x.before, record { entry = x.entry; at = x.slot; server = x.server; routes = ap (λ z. work_at th net (h x.at) z x.entry.act) (sym x.server) ∙ (x.works.is ∙ ap Some work) })

  turns : (t u : ℕ) (path : List ℕ) → IsOnwardWay th net t u path → (v : ℕ) (more : List ℕ) → path ≡ v ∷ more → v ≡ t → ⊥
  turns t u [] way v more e f = absurd cc
  turns t u (x ∷ path) way v more e f = way.1 (first e ∙ f)
    where
      first : x ∷ path ≡ v ∷ more → x ≡ v
      first e = cc

  abbrev Back : ℕ → List ℕ → ℕ → List ℕ → Type 0
  Back q behind t path = net.adverts ≡ true → ((u : ℕ) (more : List ℕ) → path ≡ u ∷ more → IsOnwardWay th net u t behind) × Has q (net.clients (end_of th net t behind))

  pub delivered : (last q o c : ℕ) (n : th.Notice) (path behind : List ℕ) (prior t m interface : ℕ) → m < last → IsRoutedAt th net h J m t interface q o n → IsOnwardWay th net prior t path → ((u : ℕ) (more : List ℕ) → path ≡ u ∷ more → u ≡ interface → ⊥) → Back q behind t path → Has c (net.clients (end_of th net t path))
      → IsSettledAlong th net h J q o n c behind t path → IsReceivedAlong th net h last q o n t path → Has (record { publisher = q; ordinal = o; notice = n }) (((h last).state (end_of th net t path)).inbox c)
  delivered last q o c n [] behind prior t m interface l p way ne from lives set taken =
      let s = set m interface p in
      let g = (in-force th net laws good J h ph history rest m t interface q o n c p lives).1 (s.filter, s.wanted, s.matches) in
      given-rises th net J h ph history t c (record { publisher = q; ordinal = o; notice = n }) (suc m) last (omega (arith, l)) (subst (Has (record { publisher = q; ordinal = o; notice = n })) (sym g) (has-append-right (record { publisher = q; ordinal = o; notice = n }) (((h m).state t).inbox c) (record { publisher = q; ordinal = o; notice = n } ∷ []) (inl refl)))
  delivered last q o c n (u ∷ path) behind prior t m interface l p way ne from lives set taken =
      let s = set.0 m interface p in
      let hit = sent-on th net laws good J h ph history rest m t interface q o n u p q behind prior path c s.filter way (λ a. ((from a).0 u path refl, (from a).1)) lives s.wanted s.matches s.allowed in
      let x = moves-on m interface q o n t u last p way.0 (ne u path refl) hit l taken.0 in
      delivered last q o c n path (t ∷ behind) t u x.0 t x.1 x.2 way.2 (turns t u path way.2)
      (λ a. ((λ v more e. (good.tree.both t u way.0, (λ f. turns t u path way.2 v more e (sym f)), (from a).0 u path refl)), (from a).1)) lives set.1 taken.1

  -- exactly once
  occurrences : ℕ → List ℕ → ℕ
  occurrences o [] = 0
  occurrences o (x ∷ xs) = cond (o == x) (suc (occurrences o xs)) (occurrences o xs)

  times-none : (o : ℕ) (xs : List ℕ) → (Has o xs → ⊥) → occurrences o xs ≡ 0
  unfolding occurrences
  times-none o [] n = refl
  times-none o (x ∷ xs) n = go (compare o x) (times-none o xs (λ h. n (inr h)))
    where
      go : Same o x → occurrences o xs ≡ 0 → cond (o == x) (suc (occurrences o xs)) (occurrences o xs) ≡ 0
      go (Is p f) e = absurd (n (inl p))
      go (Not k f) e = rw f e

  times-one : (o : ℕ) (xs : List ℕ) → IsStrictlyRising xs → Has o xs → occurrences o xs ≡ 1
  unfolding occurrences
  times-one o [] u h = absurd h
  times-one o (x ∷ xs) u h = go (compare o x) h (λ k. times-one o xs u.1 k)
    where
      go : Same o x → Has o (x ∷ xs) → (Has o xs → occurrences o xs ≡ 1) → cond (o == x) (suc (occurrences o xs)) (occurrences o xs) ≡ 1
      go (Is p f) h ih = rw f (ap suc (times-none o xs (λ k. omega (arith, u.0 o k, p))))
      go (Not k f) (inl p) ih = absurd (k p)
      go (Not k f) (inr i) ih = rw f (ih i)

  times-most : (o : ℕ) (xs : List ℕ) → IsStrictlyRising xs → occurrences o xs ≤ 1
  unfolding occurrences
  times-most o [] u = omega arith
  times-most o (x ∷ xs) u = go (compare o x) (times-most o xs u.1)
    where
      go : Same o x → occurrences o xs ≤ 1 → cond (o == x) (suc (occurrences o xs)) (occurrences o xs) ≤ 1
      go (Is p f) l = rw f (omega (arith, times-none o xs (λ k. omega (arith, u.0 o k, p))))
      go (Not k f) l = rw f l

  times-given : (q o : ℕ) (xs : List (Publication th)) → times_delivered th net q o xs ≡ occurrences o (ordinals_delivered th net q xs)
  unfolding occurrences
  times-given q o [] = refl
  times-given q o (x ∷ xs) = go (q == x.publisher) (times-given q o xs)
    where
      go : (b : Bool) → times_delivered th net q o xs ≡ occurrences o (ordinals_delivered th net q xs) → cond (b && (o == x.ordinal)) (suc (times_delivered th net q o xs)) (times_delivered th net q o xs) ≡ occurrences o (cond b (x.ordinal ∷ ordinals_delivered th net q xs) (ordinals_delivered th net q xs))
      go true e = ap (λ z. cond (o == x.ordinal) (suc z) z) e
      go false e = e

  given-ordinal : (d : Publication th) (xs : List (Publication th)) → Has d xs → Has d.ordinal (ordinals_delivered th net d.publisher xs)
  given-ordinal d [] h = absurd h
  given-ordinal d (x ∷ xs) h = go (compare d.publisher x.publisher) h (given-ordinal d xs)
    where
      go : Same d.publisher x.publisher → Has d (x ∷ xs) → (Has d xs → Has d.ordinal (ordinals_delivered th net d.publisher xs)) → Has d.ordinal (cond (d.publisher == x.publisher) (x.ordinal ∷ ordinals_delivered th net d.publisher xs) (ordinals_delivered th net d.publisher xs))
      go (Is p f) (inl e) ih = rw f (inl (ap (λ z. z.ordinal) e))
      go (Is p f) (inr k) ih = rw f (inr (ih k))
      go (Not n f) (inl e) ih = absurd (n (ap (λ z. z.publisher) e))
      go (Not n f) (inr k) ih = rw f (ih k)

  pub once : (d : Publication th) (xs : List (Publication th)) → IsStrictlyRising (ordinals_delivered th net d.publisher xs) → Has d xs → times_delivered th net d.publisher d.ordinal xs ≡ 1
  once d xs u h = times-given d.publisher d.ordinal xs ∙ times-one d.ordinal (ordinals_delivered th net d.publisher xs) u (given-ordinal d xs h)

  pub never-twice : (q o : ℕ) (xs : List (Publication th)) → IsStrictlyRising (ordinals_delivered th net q xs) → times_delivered th net q o xs ≤ 1
  never-twice q o xs u = omega (arith, times-given q o xs, times-most o (ordinals_delivered th net q xs) u)
