-- What an entry that routes a notice puts on links and gives to clients.
use Rattle.std.proofs.Common.{◌≡◌, ℕ, suc, ◌+◌, ◌≤◌, ◌<◌, ◌==◌, nat_lt, Bool, true, false, cond, not, ◌&&◌, ◌↔◌, List, [], ◌∷◌, ◌++◌, inl, inr, length, Some, None, refl, sym, ap, subst, ◌∙◌, arith, eq-eqb, ne_eqb, length-append}
use Rattle.std.proofs.lemmas.Option.{same_Some}
use Rattle.law_machine.specs.Machine.{Has, receivers, stamped}
use Rattle.law_machine.specs.History.{IsHistory}
use Rattle.law_machine.proofs.Lists.{Same, Is, Not, compare}
use Rattle.law_machine.proofs.Numbers.{climb}
use Rattle.base_tree.specs.Hops.{side_size}
use Rattle.law_routing.specs.Theory.{Theory, TheoryLaws}
use Rattle.law_routing.specs.Net.{Net, NetLaws}
use Rattle.law_routing.specs.Server.{Message, Noticed, Publication, ServerState, is_among}
use Rattle.law_routing.specs.Step.{Work, SetsFilters, SetsAdverts, Routes, InstallsTable, Nothing, effect}
use Rattle.law_routing.specs.Clients.{some_pass}
use Rattle.law_routing.specs.Routing.{routing_machine, Network, NetEntry}
use Rattle.law_routing.specs.Works.{work_at, Works}
use Rattle.law_routing.specs.Rest.{filters_of, IsOnwardWay, end_of, IsAtRest}
use Rattle.law_routing.specs.AsOf.{calm, as_of, IsAdvertisedAlong, IsRoutedAt, IsDeliveredAt, IsWantedBeyond}
use Rattle.law_routing.proofs.Listing.{has-one, pass-by, by-pass}
use Rattle.law_routing.proofs.Working.{state-here, state-other, NextWorks, next-works}
use Rattle.law_routing.proofs.Listed.{filters-are}
use Rattle.law_routing.proofs.Calm.{installed-calm}
use Rattle.law_routing.proofs.Along.{comes-from, filter-along}
use Rattle.base.proofs.Sets.{has-append-left}

module _ (th : Theory) (net : Net th) where
  pub has-given : (outs : ℕ → List (Message th)) (u : ℕ) (ls : List ℕ) → Has u ls → 0 < length (outs u) → Has u (receivers (routing_machine th net) outs ls)
  has-given outs u [] h l = absurd h
  has-given outs u (x ∷ ls) h l = go (nat_lt 0 (length (outs x))) refl h (λ k. has-given outs u ls k l)
    where
      go : (b : Bool) → nat_lt 0 (length (outs x)) ≡ b → Has u (x ∷ ls) → (Has u ls → Has u (receivers (routing_machine th net) outs ls)) → Has u (cond b (x ∷ receivers (routing_machine th net) outs ls) (receivers (routing_machine th net) outs ls))
      go true e (inl p) ih = inl p
      go true e (inr k) ih = inr (ih k)
      go false e (inl p) ih = absurd (none (length (outs x)) e (subst (λ z. 0 < length (outs z)) p l))
        where
          none : (k : ℕ) → nat_lt 0 k ≡ false → 0 < k → ⊥
          none k e l = grind (arith, e, l)
      go false e (inr k) ih = ih k

  pub given-has : (outs : ℕ → List (Message th)) (u : ℕ) (ls : List ℕ) → Has u (receivers (routing_machine th net) outs ls) → Has u ls × (0 < length (outs u))
  given-has outs u [] h = absurd h
  given-has outs u (x ∷ ls) h = go (nat_lt 0 (length (outs x))) refl h (given-has outs u ls)
    where
      some : (k : ℕ) → nat_lt 0 k ≡ true → 0 < k
      some k e = grind (arith, e)

      go : (b : Bool) → nat_lt 0 (length (outs x)) ≡ b → Has u (cond b (x ∷ receivers (routing_machine th net) outs ls) (receivers (routing_machine th net) outs ls)) → (Has u (receivers (routing_machine th net) outs ls) → Has u ls × (0 < length (outs u))) → Has u (x ∷ ls) × (0 < length (outs u))
      go true e (inl p) ih = (inl p, subst (λ z. 0 < length (outs z)) (sym p) (some (length (outs x)) e))
      go true e (inr k) ih = let r = ih k in (inr r.0, r.1)
      go false e k ih = let r = ih k in (inr r.0, r.1)

  -- what is sent on is not back and matches what is installed there
  pub sends-only : (t : ℕ) (s : ServerState th) (interface q o : ℕ) (n : th.Notice) (u : ℕ) → 0 < length ((effect th net t s (Routes interface q o n)).outs u) → (u ≡ interface → ⊥) × (some_pass (th.matches n) (s.installed u) ≡ true)
  sends-only t s interface q o n u l = go (is_among u (net.links t)) (compare u interface) (some_pass (th.matches n) (s.installed u)) refl l
    where
      go : (x : Bool) → Same u interface → (y : Bool) → some_pass (th.matches n) (s.installed u) ≡ y → 0 < length {A = Message th} (cond x (cond (not (u == interface) && y) (Noticed q o n ∷ []) []) []) → (u ≡ interface → ⊥) × (some_pass (th.matches n) (s.installed u) ≡ true)
      go false z y e l = absurd (omega (arith, l))
      go true (Is p v) y e l = absurd (omega (arith, rw v at l))
      go true (Not m v) true e l = (m, e)
      go true (Not m v) false e l = absurd (omega (arith, rw v at l))

  pub sends-all : (t : ℕ) (s : ServerState th) (interface q o : ℕ) (n : th.Notice) (u : ℕ) → Has u (net.links t) → (u ≡ interface → ⊥) → some_pass (th.matches n) (s.installed u) ≡ true → (effect th net t s (Routes interface q o n)).outs u ≡ Noticed q o n ∷ []
  sends-all t s interface q o n u near ne hit = rw (has-one u (net.links t) near, ne_eqb u interface ne, hit) refl

  pub gives-all : (t : ℕ) (s : ServerState th) (interface q o : ℕ) (n : th.Notice) (c : ℕ) → Has c (net.clients t) → some_pass (th.matches n) (s.installed (64 + c)) ≡ true → (effect th net t s (Routes interface q o n)).state.inbox c ≡ s.inbox c ++ record { publisher = q; ordinal = o; notice = n } ∷ []
  gives-all t s interface q o n c lives hit = rw (has-one c (net.clients t) lives, hit) refl

  pub gives-none : (t : ℕ) (s : ServerState th) (interface q o : ℕ) (n : th.Notice) (c : ℕ) → some_pass (th.matches n) (s.installed (64 + c)) ≡ false → (effect th net t s (Routes interface q o n)).state.inbox c ≡ s.inbox c
  gives-none t s interface q o n c miss = rw miss (flat (is_among c (net.clients t)))
    where
      flat : (b : Bool) → cond (b && false) (s.inbox c ++ record { publisher = q; ordinal = o; notice = n } ∷ []) (s.inbox c) ≡ s.inbox c
      flat true = refl
      flat false = refl

  -- what was given stays given
  keeps-given : (t : ℕ) (s : ServerState th) (k : Work th) (c : ℕ) (d : Publication th) → Has d (s.inbox c) → Has d ((effect th net t s k).state.inbox c)
  keeps-given t s (SetsFilters i set) c d h = h
  keeps-given t s (SetsAdverts i set) c d h = h
  keeps-given t s (Routes i p o n) c d h = go (is_among c (net.clients t) && some_pass (th.matches n) (s.installed (64 + c)))
    where
      go : (b : Bool) → Has d (cond b (s.inbox c ++ record { publisher = p; ordinal = o; notice = n } ∷ []) (s.inbox c))
      go true = has-append-left d (s.inbox c) (record { publisher = p; ordinal = o; notice = n } ∷ []) h
      go false = h
  keeps-given t s InstallsTable c d h = h
  keeps-given t s Nothing c d h = h

  module _ (J : List (NetEntry th net)) (h : ℕ → Network th net) (ph : ℕ → ℕ) (history : IsHistory (routing_machine th net) J h ph) where
    pub given-rises : (t c : ℕ) (d : Publication th) (x m : ℕ) → x ≤ m → Has d (((h x).state t).inbox c) → Has d (((h m).state t).inbox c)
    given-rises t c d x m l has = climb (λ y. Has d (((h y).state t).inbox c)) x has (λ y b i. one y (next-works th net J h ph history y) i) m l
      where
        one : (y : ℕ) → NextWorks th net J h ph history y → Has d (((h y).state t).inbox c) → Has d (((h (suc y)).state t).inbox c)
        one y (inl (f, e)) i = subst (λ z. Has d ((z.state t).inbox c)) (sym e) i
        one y (inr (e, f, w)) i = two (compare t e.server)
          where
            two : Same t e.server → Has d (((h (suc y)).state t).inbox c)
            two (Not n v) = subst (λ z. Has d (z.inbox c)) (sym (state-other th net (h y) e (h (suc y)) w t n)) i
            two (Is p v) = subst (λ z. Has d (z.inbox c)) (sym (state-here th net (h y) e (h (suc y)) w t p)) (keeps-given e.server w.from w.work c d (subst (λ z. Has d (z c)) (sym w.counts.inbox) (subst (λ z. Has d (((h y).state z).inbox c)) p i)))

    pub record PassWorks (m t interface q o : ℕ) (n : th.Notice) (e : NetEntry th net) : Type 0 where
      pub works : Works th net (h m) e (h (suc m))
      pub server : e.server ≡ t
      pub is : works.work ≡ Routes interface q o n

    pub pass-works : (m t interface q o : ℕ) (n : th.Notice) (p : IsRoutedAt th net h J m t interface q o n) → PassWorks m t interface q o n p.entry
    pass-works m t interface q o n p = go (next-works th net J h ph history m)
      where
        same : (e : NetEntry th net) → e ≡ p.entry → Works th net (h m) e (h (suc m)) → PassWorks m t interface q o n p.entry
        same e f w =
            let x : Works th net (h m) p.entry (h (suc m)) = subst (λ z. Works th net (h m) z (h (suc m))) f w in
            record { works = x; server = p.server; is = same_Some _ _ (sym x.is ∙ (ap (λ z. work_at th net (h m) z p.entry.act) p.server ∙ p.routes)) }

        go : NextWorks th net J h ph history m → PassWorks m t interface q o n p.entry
        go (inl (f, e)) = absurd (never (sym f ∙ p.at))
          where
            never : None ≡ Some p.entry → ⊥
            never e = cc
        go (inr (e, f, w)) = same e (same_Some _ _ (sym f ∙ p.at)) w

    -- the state of the routing server afterwards, and what it put
    pub pass-state : (m t interface q o : ℕ) (n : th.Notice) (e : NetEntry th net) (x : PassWorks m t interface q o n e) → (h (suc m)).state t ≡ (effect th net t x.works.from (Routes interface q o n)).state
    pass-state m t interface q o n e x = state-here th net (h m) e (h (suc m)) x.works t (sym x.server) ∙ ap (λ z. (effect th net z x.works.from x.works.work).state) x.server ∙ ap (λ z. (effect th net t x.works.from z).state) x.is

    pub pass-put : (m t interface q o : ℕ) (n : th.Notice) (e : NetEntry th net) (x : PassWorks m t interface q o n e) (u : ℕ) → (h (suc m)).put t u ≡ (h m).put t u ++ stamped (routing_machine th net) x.works.stamp ((effect th net t x.works.from (Routes interface q o n)).outs u)
    pass-put m t interface q o n e x u =
        ap (λ z. z t u) x.works.put ∙ (rw (eq-eqb t e.server (sym x.server)) refl
        ∙ ap (λ z. (h m).put t u ++ stamped (routing_machine th net) x.works.stamp ((effect th net z x.works.from x.works.work).outs u)) x.server
        ∙ ap (λ z. (h m).put t u ++ stamped (routing_machine th net) x.works.stamp ((effect th net t x.works.from z).outs u)) x.is)

    pub pass-outs : (m t interface q o : ℕ) (n : th.Notice) (e : NetEntry th net) (x : PassWorks m t interface q o n e) → e.outs ≡ receivers (routing_machine th net) (effect th net t x.works.from (Routes interface q o n)).outs (net.links t)
    pass-outs m t interface q o n e x =
        x.works.outs ∙ ap (λ z. receivers (routing_machine th net) (effect th net z x.works.from x.works.work).outs (net.links z)) x.server ∙ ap (λ z. receivers (routing_machine th net) (effect th net t x.works.from z).outs (net.links t)) x.is

    pub pass-installed : (m t interface q o : ℕ) (n : th.Notice) (e : NetEntry th net) (x : PassWorks m t interface q o n e) (i : ℕ) → x.works.from.installed i ≡ ((h m).state t).installed i
    pass-installed m t interface q o n e x i = ap (λ z. z i) x.works.counts.installed ∙ ap (λ z. ((h m).state z).installed i) x.server

    pub pass-inbox : (m t interface q o : ℕ) (n : th.Notice) (e : NetEntry th net) (x : PassWorks m t interface q o n e) (c : ℕ) → x.works.from.inbox c ≡ ((h m).state t).inbox c
    pass-inbox m t interface q o n e x c = ap (λ z. z c) x.works.counts.inbox ∙ ap (λ z. ((h m).state z).inbox c) x.server

  module _ (laws : TheoryLaws th) (good : NetLaws th net) (J : List (NetEntry th net)) (h : ℕ → Network th net) (ph : ℕ → ℕ) (history : IsHistory (routing_machine th net) J h ph) (rest : IsAtRest th net (h 0)) where
    pub shown-is : (t m i : ℕ) → ((h m).state t).installed i ≡ ((h (calm th net h t m)).state t).subs i
    shown-is t m i = installed-calm th laws net J h ph history (λ t e i. rest.installed t i) rest.none_pending t m i

    -- what is sent on matches a filter of some client beyond
    pub pruned : (m t interface q o : ℕ) (n : th.Notice) (u : ℕ) (p : IsRoutedAt th net h J m t interface q o n) → Has u p.entry.outs → IsWantedBeyond th net h n t u m
    pruned m t interface q o n u p has =
        let x = pass-works J h ph history m t interface q o n p in
        let g = given-has (effect th net t x.works.from (Routes interface q o n)).outs u (net.links t) (subst (Has u) (pass-outs J h ph history m t interface q o n p.entry x) has) in
        let s = sends-only t x.works.from interface q o n u g.1 in
        let f = by-pass (th.matches n) (((h (calm th net h t m)).state t).subs u) (subst (λ z. some_pass (th.matches n) z ≡ true) (pass-installed J h ph history m t interface q o n p.entry x u ∙ shown-is t m u) s.1) in
        let b = comes-from th laws net good J h ph history rest (side_size net.hop net.servers t u) t u (calm th net h t m) f.0 g.0 (omega arith) f.1 in
        record { path = b.path; client = b.client; filter = f.0; way = b.way; lives = b.lives; listed = b.listed; matches = f.2 }

    -- a notice that some filter beyond wants is sent on, where the advertisements known on the way allow it
    pub sent-on : (m t interface q o : ℕ) (n : th.Notice) (u : ℕ) (x : IsRoutedAt th net h J m t interface q o n) (p : ℕ) (behind : List ℕ) (prior : ℕ) (path : List ℕ) (c : ℕ) (f : th.Filter) → IsOnwardWay th net prior t (u ∷ path) → (net.adverts ≡ true → IsOnwardWay th net u t behind × Has p (net.clients (end_of th net t behind))) → Has c (net.clients (end_of th net u path))
        → Has f (filters_of th net (h (as_of th net h t (u ∷ path) (calm th net h t m))) c) → th.matches n f ≡ true → IsAdvertisedAlong th net h p n behind t (u ∷ path) (calm th net h t m) → some_pass (th.matches n) (((h m).state t).installed u) ≡ true
    sent-on m t interface q o n u x p behind prior path c f way from lives has hit knows =
        let r = filter-along th laws net good J h ph history rest p behind prior t u path (calm th net h t m) c f n way from lives has hit knows in
        subst (λ z. some_pass (th.matches n) z ≡ true) (sym (shown-is t m u)) (pass-by (th.matches n) r.0 (((h (calm th net h t m)).state t).subs u) r.1 r.2)

    -- without advertisements it is sent on exactly there
    unadvertised : (p : ℕ) (n : th.Notice) (behind : List ℕ) (t : ℕ) (path : List ℕ) (m : ℕ) → net.adverts ≡ false → IsAdvertisedAlong th net h p n behind t path m
    unadvertised p n behind t [] m e = tt
    unadvertised p n behind t (u ∷ path) m e = ((λ o. absurd (grind (arith, e, o))), unadvertised p n (t ∷ behind) u path _ e)

    pub wanted-sent : net.adverts ≡ false → (m t interface q o : ℕ) (n : th.Notice) (u : ℕ) (p : IsRoutedAt th net h J m t interface q o n) → Has u (net.links t) → (u ≡ interface → ⊥) → IsWantedBeyond th net h n t u m → Has u p.entry.outs
    wanted-sent e m t interface q o n u p near ne b =
        let x = pass-works J h ph history m t interface q o n p in
        let hit = sent-on m t interface q o n u p b.client [] (suc u) b.path b.client b.filter (near, (λ y. omega (arith, y)), b.way) (λ y. absurd (grind (arith, e, y))) b.lives b.listed b.matches (unadvertised b.client n [] t (u ∷ b.path) (calm th net h t m) e) in
        subst (Has u) (sym (pass-outs J h ph history m t interface q o n p.entry x)) (has-given (effect th net t x.works.from (Routes interface q o n)).outs u (net.links t) near
        (subst (λ z. 0 < length z) (sym (sends-all t x.works.from interface q o n u near ne (subst (λ z. some_pass (th.matches n) z ≡ true) (sym (pass-installed J h ph history m t interface q o n p.entry x u)) hit))) (omega arith)))

    -- at its home a client is given it exactly where a filter of its list at the last calm moment matches
    pub in-force : (m t interface q o : ℕ) (n : th.Notice) (c : ℕ) → IsRoutedAt th net h J m t interface q o n → Has c (net.clients t)
        → IsDeliveredAt th net h m t c (record { publisher = q; ordinal = o; notice = n }) ↔ ((f : th.Filter) × Has f (filters_of th net (h (calm th net h t m)) c) × (th.matches n f ≡ true))
    in-force m t interface q o n c p lives = (to, from)
      where
        x : PassWorks J h ph history m t interface q o n p.entry
        x = pass-works J h ph history m t interface q o n p

        with_update : x.works.from.installed (64 + c) ≡ filters_of th net (h (calm th net h t m)) c
        with_update = pass-installed J h ph history m t interface q o n p.entry x (64 + c) ∙ (shown-is t m (64 + c) ∙ filters-are th net good J h ph history rest (calm th net h t m) t c lives)

        from : ((f : th.Filter) × Has f (filters_of th net (h (calm th net h t m)) c) × (th.matches n f ≡ true)) → IsDeliveredAt th net h m t c (record { publisher = q; ordinal = o; notice = n })
        from f =
            ap (λ z. z.inbox c) (pass-state J h ph history m t interface q o n p.entry x)
            ∙ (gives-all t x.works.from interface q o n c lives (subst (λ z. some_pass (th.matches n) z ≡ true) (sym with_update) (pass-by (th.matches n) f.0 (filters_of th net (h (calm th net h t m)) c) f.1 f.2))
            ∙ ap (λ z. z ++ record { publisher = q; ordinal = o; notice = n } ∷ []) (pass-inbox J h ph history m t interface q o n p.entry x c))

        to : IsDeliveredAt th net h m t c (record { publisher = q; ordinal = o; notice = n }) → (f : th.Filter) × Has f (filters_of th net (h (calm th net h t m)) c) × (th.matches n f ≡ true)
        to g = go (some_pass (th.matches n) (x.works.from.installed (64 + c))) refl
          where
            longer : (xs : List (Publication th)) → xs ≡ xs ++ record { publisher = q; ordinal = o; notice = n } ∷ [] → ⊥
            longer xs e = omega (arith, ap length e, length-append xs (record { publisher = q; ordinal = o; notice = n } ∷ []))

            go : (b : Bool) → some_pass (th.matches n) (x.works.from.installed (64 + c)) ≡ b → (f : th.Filter) × Has f (filters_of th net (h (calm th net h t m)) c) × (th.matches n f ≡ true)
            go true e = by-pass (th.matches n) (filters_of th net (h (calm th net h t m)) c) (subst (λ z. some_pass (th.matches n) z ≡ true) with_update e)
            go false e =
                let same : ((h (suc m)).state t).inbox c ≡ ((h m).state t).inbox c = ap (λ z. z.inbox c) (pass-state J h ph history m t interface q o n p.entry x) ∙ (gives-none t x.works.from interface q o n c e ∙ pass-inbox J h ph history m t interface q o n p.entry x c) in
                absurd (longer (((h m).state t).inbox c) (sym same ∙ g))
