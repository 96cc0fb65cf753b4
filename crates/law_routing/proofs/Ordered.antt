-- One publisher's notices pass each server, each link and each inbox in the order of their ordinals.
use Rattle.std.proofs.Common.{◌≡◌, ℕ, zero, suc, ◌≤◌, ◌==◌, Bool, true, false, cond, List, [], ◌∷◌, ◌++◌, ◌⊎◌, inl, inr, length, take, refl, sym, ap, subst, ◌∙◌, arith, append-nil}
use Rattle.std.proofs.lemmas.List.{take-append-le}
use Rattle.law_machine.specs.Machine.{Has, Input, Does, Receives, Stamped}
use Rattle.law_machine.specs.Network.{taken_after}
use Rattle.law_machine.specs.Runs.{IsWithinPuts}
use Rattle.law_machine.specs.History.{IsHistory}
use Rattle.law_machine.proofs.Lists.{Same, Is, Not, compare}
use Rattle.base_tree.specs.Hops.{side}
use Rattle.law_routing.specs.Theory.{Theory}
use Rattle.law_routing.specs.Net.{Net, PhasedCommand, NetLaws}
use Rattle.law_routing.specs.Server.{Message, ServerState, is_among}
use Rattle.law_routing.specs.Step.{Task, NextCommand, TableUpdate, Work, SetsFilters, SetsAdverts, Routes, InstallsTable, Nothing, effect}
use Rattle.law_routing.specs.Clients.{is_publish, ordinal}
use Rattle.law_routing.specs.Routing.{routing_machine, Network, NetEntry}
use Rattle.law_routing.specs.Works.{done_after, Works}
use Rattle.law_routing.specs.Order.{IsStrictlyRising, ordinals_delivered, ordinals_maybe, ordinals_of_entry, ordinals_routed, IsOrderly}
use Rattle.law_routing.proofs.Laws.{one-has}
use Rattle.law_routing.proofs.Listing.{up-append}
use Rattle.law_routing.proofs.Working.{taken-other, state-here, state-other, all-along, within-all}
use Rattle.law_routing.proofs.Effects.{ids, adds, frames, ids-append, one-up, Effect, gives-of, effect-of}
use Rattle.base.proofs.Sets.{has-append-left, has-append-right, has-append}

module _ (th : Theory) (net : Net th) (good : NetLaws th net) (q earlier : ℕ) where
  take-rises : (cs : List (PhasedCommand th)) (j : ℕ) → ordinal th (take j cs) ≤ ordinal th (take (suc j) cs)
  take-rises [] zero = omega arith
  take-rises [] (suc j) = omega arith
  take-rises (c ∷ cs) zero = omega arith
  take-rises (c ∷ cs) (suc j) = go (is_publish th c.command) (take-rises cs j)
    where
      go : (b : Bool) → ordinal th (take j cs) ≤ ordinal th (take (suc j) cs) → cond b (suc (ordinal th (take j cs))) (ordinal th (take j cs)) ≤ cond b (suc (ordinal th (take (suc j) cs))) (ordinal th (take (suc j) cs))
      go true l = omega (arith, l)
      go false l = l

  done-rises : (done : ℕ → ℕ) (d : Input Task (Stamped (Message th))) → ordinal th (take (done q) (net.script q)) ≤ ordinal th (take (done_after th net done d q) (net.script q))
  done-rises done (Does (NextCommand c)) = go (compare q c)
    where
      go : Same q c → ordinal th (take (done q) (net.script q)) ≤ ordinal th (take (Rattle.law_machine.specs.Machine.at done c (suc (done c)) q) (net.script q))
      go (Is e v) = rw v (subst (λ z. ordinal th (take (done q) (net.script q)) ≤ ordinal th (take (suc (done z)) (net.script q))) e (take-rises (net.script q) (done q)))
      go (Not n v) = rw v (omega arith)
  done-rises done (Does TableUpdate) = omega arith
  done-rises done (Receives s y) = omega arith

  effect-done : (t : ℕ) (s : ServerState th) (k : Work th) → (effect th net t s k).state.done ≡ s.done
  effect-done t s (SetsFilters i set) = refl
  effect-done t s (SetsAdverts i set) = refl
  effect-done t s (Routes i p o n) = refl
  effect-done t s InstallsTable = refl
  effect-done t s Nothing = refl

  far-outs : (t : ℕ) (s : ServerState th) (k : Work th) (b : ℕ) → is_among b (net.links t) ≡ false → (effect th net t s k).outs b ≡ []
  far-outs t s k b e = rw e refl

  module _ (w : Network th net) (e : NetEntry th net) (v : Network th net) (x : Works th net w e v) (routed : ℕ → List ℕ) (within : IsWithinPuts (routing_machine th net) w) (ord : IsOrderly th net q earlier w routed) where
    abbrev t : ℕ
    t = e.server

    abbrev k : Work th
    k = x.work

    abbrev fresh-ids : ℕ → List (Stamped (Message th))
    fresh-ids b = frames th net good q earlier x.stamp ((effect th net t x.from k).outs b)

    eff : Effect th net good q earlier w (routed t) t x.deed x.from k
    eff = effect-of th net good q earlier w routed t x.deed x.from k ord x.given x.possible

    abbrev next : ℕ → List ℕ
    next s = routed s ++ cond (s == t) (adds th net good q earlier k) []

    put-case : (a b : ℕ) → (v.put a b ≡ w.put a b) ⊎ ((a ≡ t) × Has b (net.links t) × (v.put a b ≡ w.put a b ++ fresh-ids b))
    put-case a b = go (compare a t) (is_among b (net.links t)) refl
      where
        go : Same a t → (y : Bool) → is_among b (net.links t) ≡ y → (v.put a b ≡ w.put a b) ⊎ ((a ≡ t) × Has b (net.links t) × (v.put a b ≡ w.put a b ++ fresh-ids b))
        go (Is p f) true g = inr (p, one-has b (net.links t) g, ap (λ z. z a b) x.put ∙ rw f refl)
        go (Is p f) false g = inl (ap (λ z. z a b) x.put ∙ (rw f refl ∙ (ap (λ z. w.put a b ++ frames th net good q earlier x.stamp z) (far-outs t x.from k b g) ∙ append-nil (w.put a b))))
        go (Not n f) y g = inl (ap (λ z. z a b) x.put ∙ rw f refl)

    abbrev New : ℕ → ℕ → Type 0
    New a b = (ids th net good q earlier (v.put a b) ≡ ids th net good q earlier (w.put a b)) ⊎ ((a ≡ t) × (side net.hop b t (net.home q) ≡ true) × (ids th net good q earlier (v.put a b) ≡ ids th net good q earlier (w.put a b) ++ adds th net good q earlier k))

    new-ids : (a b : ℕ) → New a b
    new-ids a b = go (put-case a b)
      where
        two : a ≡ t → ids th net good q earlier (v.put a b) ≡ ids th net good q earlier (w.put a b) ++ ids th net good q earlier (fresh-ids b) → (ids th net good q earlier (fresh-ids b) ≡ []) ⊎ ((ids th net good q earlier (fresh-ids b) ≡ adds th net good q earlier k) × (side net.hop b t (net.home q) ≡ true)) → New a b
        two p f (inl z) = inl (f ∙ (ap (λ y. ids th net good q earlier (w.put a b) ++ y) z ∙ append-nil (ids th net good q earlier (w.put a b))))
        two p f (inr z) = inr (p, z.1, f ∙ ap (λ y. ids th net good q earlier (w.put a b) ++ y) z.0)

        go : (v.put a b ≡ w.put a b) ⊎ ((a ≡ t) × Has b (net.links t) × (v.put a b ≡ w.put a b ++ fresh-ids b)) → New a b
        go (inl f) = inl (ap (ids th net good q earlier) f)
        go (inr c) = two c.0 (ap (ids th net good q earlier) c.2 ∙ ids-append th net good q earlier (w.put a b) (fresh-ids b)) (eff.puts b c.1 x.stamp)

    routed-case : (s : ℕ) → ((s ≡ t) × (next s ≡ routed s ++ adds th net good q earlier k)) ⊎ ((s ≡ t → ⊥) × (next s ≡ routed s))
    routed-case s = go (compare s t)
      where
        go : Same s t → ((s ≡ t) × (next s ≡ routed s ++ adds th net good q earlier k)) ⊎ ((s ≡ t → ⊥) × (next s ≡ routed s))
        go (Is p f) = inl (p, rw f refl)
        go (Not n f) = inr (n, rw f (append-nil (routed s)))

    grows : (s o : ℕ) → Has o (routed s) → Has o (next s)
    grows s o h = has-append-left o (routed s) (cond (s == t) (adds th net good q earlier k) []) h

    known : (s o : ℕ) → Has o (routed s) ⊎ (o ≤ earlier) → Has o (next s) ⊎ (o ≤ earlier)
    known s o (inl h) = inl (grows s o h)
    known s o (inr l) = inr l

    lands : (s o : ℕ) → s ≡ t → Has o (adds th net good q earlier k) → Has o (next s)
    lands s o p h = elim (routed-case s) [ inl c ↦ subst (Has o) (sym c.1) (has-append-right o (routed s) (adds th net good q earlier k) h) | inr c ↦ absurd (c.0 p) ]

    longer : (xs : List ℕ) (s : ℕ) → s ≡ t → IsStrictlyRising xs → ((o : ℕ) → Has o xs → Has o (routed s) ⊎ (o ≤ earlier)) → IsStrictlyRising (xs ++ adds th net good q earlier k)
    longer xs s p u known = up-append xs (adds th net good q earlier k) u (one-up th net good q earlier k) (λ y o h i. elim (known y h) [ inl r ↦ eff.fresh o y (subst (λ z. Has y (routed z)) p r) i | inr l ↦ omega (arith, l, eff.later o i) ])

    there-next : (s u : ℕ) → Has u (net.links s) → side net.hop s u (net.home q) ≡ true → next s ≡ ids th net good q earlier (take (v.taken u s) (v.put u s))
    there-next s u near beyond = go (routed-case s) (put-case u s)
      where
        go : ((s ≡ t) × (next s ≡ routed s ++ adds th net good q earlier k)) ⊎ ((s ≡ t → ⊥) × (next s ≡ routed s)) → (v.put u s ≡ w.put u s) ⊎ ((u ≡ t) × Has s (net.links t) × (v.put u s ≡ w.put u s ++ fresh-ids s)) → next s ≡ ids th net good q earlier (take (v.taken u s) (v.put u s))
        go (inl c) (inr d) = absurd (good.tree.apart t (subst (λ z. Has z (net.links t)) c.0 d.1))
        go (inl c) (inl f) =
            let more : ids th net good q earlier (take (taken_after (routing_machine th net) w.taken t x.deed u s) (w.put u s)) ≡ ids th net good q earlier (take (w.taken u s) (w.put u s)) ++ adds th net good q earlier k =
            subst (λ z. Has u (net.links z) → side net.hop z u (net.home q) ≡ true → ids th net good q earlier (take (taken_after (routing_machine th net) w.taken t x.deed u z) (w.put u z)) ≡ ids th net good q earlier (take (w.taken u z) (w.put u z)) ++ adds th net good q earlier k) (sym c.0) (eff.takes u) near beyond in
            c.1 ∙ (ap (λ z. z ++ adds th net good q earlier k) (ord.there s u near beyond) ∙ (sym more ∙ (ap (λ z. ids th net good q earlier (take (taken_after (routing_machine th net) w.taken t x.deed u s) z)) (sym f) ∙ ap (λ z. ids th net good q earlier (take (z u s) (v.put u s))) (sym x.taken))))
        go (inr c) (inl f) =
            c.1 ∙ (ord.there s u near beyond ∙ (ap (λ z. ids th net good q earlier (take z (w.put u s))) (sym (ap (λ z. z u s) x.taken ∙ taken-other th net w.taken t x.deed u s c.0)) ∙ ap (λ z. ids th net good q earlier (take (v.taken u s) z)) (sym f)))
        go (inr c) (inr d) =
            let fits : w.taken u s ≤ length (w.put u s) = within u s in
            let same : take (w.taken u s) (w.put u s ++ fresh-ids s) ≡ take (w.taken u s) (w.put u s) = rw take-append-le refl in
            c.1 ∙ (ord.there s u near beyond ∙ (ap (ids th net good q earlier) (sym same) ∙ (ap (λ z. ids th net good q earlier (take z (w.put u s ++ fresh-ids s))) (sym (ap (λ z. z u s) x.taken ∙ taken-other th net w.taken t x.deed u s c.0)) ∙ ap (λ z. ids th net good q earlier (take (v.taken u s) z)) (sym d.2))))

    abbrev Gives : ℕ → ℕ → Type 0
    Gives s c = (ordinals_delivered th net q ((v.state s).inbox c) ≡ ordinals_delivered th net q ((w.state s).inbox c)) ⊎ ((s ≡ t) × (ordinals_delivered th net q ((v.state s).inbox c) ≡ ordinals_delivered th net q ((w.state s).inbox c) ++ adds th net good q earlier k))

    gives : (s c : ℕ) → Gives s c
    gives s c = go (compare s t)
      where
        old : s ≡ t → ordinals_delivered th net q (x.from.inbox c) ≡ ordinals_delivered th net q ((w.state s).inbox c)
        old p = ap (λ z. ordinals_delivered th net q (z c)) x.counts.inbox ∙ ap (λ z. ordinals_delivered th net q ((w.state z).inbox c)) (sym p)

        go : Same s t → Gives s c
        go (Not n f) = inl (ap (λ z. ordinals_delivered th net q (z.inbox c)) (state-other th net w e v x s n))
        go (Is p f) = elim (gives-of th net good q earlier x.from t k c) [
          | inl g ↦ inl (ap (λ z. ordinals_delivered th net q (z.inbox c)) (state-here th net w e v x s p) ∙ (g ∙ old p))
          | inr g ↦ inr (p, ap (λ z. ordinals_delivered th net q (z.inbox c)) (state-here th net w e v x s p) ∙ (g ∙ ap (λ z. z ++ adds th net good q earlier k) (old p)))
        ]

    -- at home the commands executed are as many as before or more
    home-rises : ordinal th (take ((w.state (net.home q)).done q) (net.script q)) ≤ ordinal th (take ((v.state (net.home q)).done q) (net.script q))
    home-rises = go (compare (net.home q) t)
      where
        go : Same (net.home q) t → ordinal th (take ((w.state (net.home q)).done q) (net.script q)) ≤ ordinal th (take ((v.state (net.home q)).done q) (net.script q))
        go (Not n f) = omega (arith, ap (λ z. ordinal th (take (z.done q) (net.script q))) (state-other th net w e v x (net.home q) n))
        go (Is p f) = omega (arith, home-done p, ap (λ z. ordinal th (take ((w.state z).done q) (net.script q))) p, done-rises (w.state t).done x.deed)
          where
            home-done : net.home q ≡ t → ordinal th (take ((v.state (net.home q)).done q) (net.script q)) ≡ ordinal th (take (done_after th net (w.state t).done x.deed q) (net.script q))
            home-done p = ap (λ z. ordinal th (take (z.done q) (net.script q))) (state-here th net w e v x (net.home q) p) ∙ (ap (λ z. ordinal th (take (z q) (net.script q))) (effect-done t x.from k) ∙ ap (λ z. ordinal th (take (z q) (net.script q))) x.done)

    home-counts : net.home q ≡ t → (o : ℕ) → Has o (adds th net good q earlier k) → o ≤ ordinal th (take ((v.state (net.home q)).done q) (net.script q))
    home-counts p o h =
        let same : ordinal th (take ((v.state (net.home q)).done q) (net.script q)) ≡ ordinal th (take (done_after th net (w.state t).done x.deed q) (net.script q)) =
        ap (λ z. ordinal th (take (z.done q) (net.script q))) (state-here th net w e v x (net.home q) p) ∙ (ap (λ z. ordinal th (take (z q) (net.script q))) (effect-done t x.from k) ∙ ap (λ z. ordinal th (take (z q) (net.script q))) x.done) in
        omega (arith, same, eff.counts (sym p) o h)

    pub orderly-next : IsOrderly th net q earlier v next
    orderly-next = record {
      routed_up = λ s. elim (routed-case s) [ inl c ↦ subst IsStrictlyRising (sym c.1) (longer (routed s) s c.0 (ord.routed_up s) (λ o h. inl h)) | inr c ↦ subst IsStrictlyRising (sym c.1) (ord.routed_up s) ];
      put_up = λ a b. elim (new-ids a b) [ inl f ↦ subst IsStrictlyRising (sym f) (ord.put_up a b) | inr c ↦ subst IsStrictlyRising (sym c.2) (longer (ids th net good q earlier (w.put a b)) a c.0 (ord.put_up a b) (λ o h. inl (ord.put_known a b o h))) ];
      put_known = λ a b o h. elim (new-ids a b) [ inl f ↦ grows a o (ord.put_known a b o (subst (Has o) f h)) | inr c ↦ elim (has-append o (ids th net good q earlier (w.put a b)) (adds th net good q earlier k) (subst (Has o) c.2 h)) [ inl i ↦ grows a o (ord.put_known a b o i) | inr i ↦ lands a o c.0 i ] ];
      given_up = λ s c. elim (gives s c) [ inl f ↦ subst IsStrictlyRising (sym f) (ord.given_up s c) | inr d ↦ subst IsStrictlyRising (sym d.1) (longer (ordinals_delivered th net q ((w.state s).inbox c)) s d.0 (ord.given_up s c) (λ o h. ord.given_known s c o h)) ];
      given_known = λ s c o h. elim (gives s c) [
        | inl f ↦ known s o (ord.given_known s c o (subst (Has o) f h))
        | inr d ↦ elim (has-append o (ordinals_delivered th net q ((w.state s).inbox c)) (adds th net good q earlier k) (subst (Has o) d.1 h)) [ inl i ↦ known s o (ord.given_known s c o i) | inr i ↦ inl (lands s o d.0 i) ]
      ];
      later = λ s o h. elim (routed-case s) [ inl c ↦ elim (has-append o (routed s) (adds th net good q earlier k) (subst (Has o) c.1 h)) [ inl i ↦ ord.later s o i | inr i ↦ eff.later o i ] | inr c ↦ ord.later s o (subst (Has o) c.1 h) ];
      since = omega (arith, ord.since, home-rises);
      here = λ o h. elim (routed-case (net.home q)) [ inl c ↦ elim (has-append o (routed (net.home q)) (adds th net good q earlier k) (subst (Has o) c.1 h)) [ inl i ↦ omega (arith, ord.here o i, home-rises) | inr i ↦ home-counts c.0 o i ] | inr c ↦ omega (arith, ord.here o (subst (Has o) c.1 h), home-rises) ];
      there = there-next;
      away = λ a b near beyond. elim (new-ids a b) [ inl f ↦ f ∙ ord.away a b near beyond | inr c ↦ absurd (grind (arith, c.1, subst (λ z. side net.hop b z (net.home q) ≡ false) c.0 beyond)) ];
    }

module _ (th : Theory) (net : Net th) (good : NetLaws th net) (q earlier : ℕ) (J : List (NetEntry th net)) (h : ℕ → Network th net) (ph : ℕ → ℕ) (history : IsHistory (routing_machine th net) J h ph) (within : IsWithinPuts (routing_machine th net) (h 0)) where
  -- at each moment
  pub orderly-all : IsOrderly th net q earlier (h 0) (λ t. []) → (n : ℕ) → IsOrderly th net q earlier (h n) (ordinals_routed th net h J q n)
  orderly-all base = all-along th net J h ph history (λ n w. IsOrderly th net q earlier w (ordinals_routed th net h J q n)) base
      (λ n f p. subst (IsOrderly th net q earlier (h n)) (λ i t. sym (ap (λ z. ordinals_routed th net h J q n t ++ ordinals_of_entry th net q t (h n) z) f ∙ append-nil (ordinals_routed th net h J q n t)) i) p)
      (λ n e v f x p. subst (IsOrderly th net q earlier v) (λ i t. ordinals_routed th net h J q n t ++ sym (ap (ordinals_of_entry th net q t (h n)) f ∙ ap (λ z. cond (t == e.server) (ordinals_maybe th net q z) []) x.is) i)
      (orderly-next th net good q earlier (h n) e v x (ordinals_routed th net h J q n) (within-all th net J h ph history within n) p))
