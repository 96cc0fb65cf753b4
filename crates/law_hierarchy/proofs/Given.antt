-- What a hierarchy delivers, and what it puts on the links that lead up.
use Rattle.std.proofs.Common.{◌≡◌, ℕ, zero, suc, ◌≤◌, ◌<◌, ◌==◌, Bool, true, false, cond, ◌↔◌, List, [], ◌∷◌, ◌++◌, ◌⊎◌, inl, inr, map, length, take, slice_get, Option, Some, None, refl, sym, ap, subst, ◌∙◌, arith, ne_eqb, eq-eqb}
use Rattle.base.specs.Sets.{Has}
use Rattle.law_machine.specs.Machine.{Outcome, unstamped}
use Rattle.law_machine.specs.History.{IsNext}
use Rattle.law_machine.proofs.History.{moves}
use Rattle.law_machine.proofs.Lists.{Same, Is, Not, compare}
use Rattle.law_routing.specs.Theory.{Theory, TheoryLaws}
use Rattle.law_routing.specs.Net.{Net, Command, Publish}
use Rattle.law_routing.specs.Clients.{some_pass, adverts_after, filters_after, ordinal, commands_below}
use Rattle.law_routing.specs.Server.{Message, Publication, ServerState, is_among}
use Rattle.law_routing.specs.Step.{Work, SetsFilters, SetsAdverts, Routes, InstallsTable, Nothing}
use Rattle.law_routing.specs.Routing.{Network, NetEntry}
use Rattle.law_machine.specs.Runs.{IsQuiet, IsThrough}
use Rattle.law_routing.specs.Rest.{filters_of, IsDrained}
use Rattle.law_routing.specs.Works.{work_at}
use Rattle.law_routing.specs.AsOf.{calm, times_delivered}
use Rattle.law_routing.specs.Order.{IsStrictlyRising, ordinals_put, ordinals_delivered, ordinals_routed, ordinals_of_entry, ordinals_maybe, IsOrderly, IsAccepted, IsAuthentic}
use Rattle.law_routing.specs.Owed.{IsMomentOfPhase, IsPublication, IsAllowed}
use Rattle.law_routing.specs.LegalRun.{LegalRun, IsOwedTo as IsPeerOwed, IsDueTo as IsPeerDue, IsDeliveredOnce as IsPeerOnce, IsAllowedTo as IsPeerAllowed, IsDelivered as IsPeerDelivered, IsInForce as IsPeerInForce}
use Rattle.law_routing.proofs.Listing.{pass-by, by-pass, up-append, up-left, up-below}
use Rattle.law_routing.proofs.Laws.{one-has}
use Rattle.law_routing.proofs.Started.{in-force-run, ordered-run, authentic-run}
use Rattle.law_routing.proofs.Flooded.{twice-never, owed-once, due-once, owed-in-phase, allowed-run}
use Rattle.law_hierarchy.specs.Masters.{top}
use Rattle.law_hierarchy.specs.Step.{effect, hierarchy_machine, Hierarchy, HierarchyEntry, entry_as_peers}
use Rattle.law_hierarchy.specs.HierarchyRun.{times, HierarchyRun, states, entries, IsDrainedRun, Routed, IsDelivered, IsInForce, inbox_of, IsDeliveredOnce, IsPublished, IsOwedTo, IsFloodOwedTo, IsAllowedTo, IsInOrder, times_put, times_routed}
use Rattle.law_hierarchy.proofs.Wide.{wide, wide-laws, said, said-has}
use Rattle.law_hierarchy.proofs.Listener.{listener, peers, wide-command, wide-phased, wide-next, wide-length, wide-get, wide-list, wide-ordinal, wide-below, wide-script, listens, fresh, other, lives-in, in-lives}
use Rattle.law_hierarchy.proofs.Shadow.{given, sent-on}
use Rattle.law_hierarchy.proofs.Local.{served}
use Rattle.law_hierarchy.proofs.Networks.{AlikeNets, entry-on, stamped-on, quiet-on, through-on}
use Rattle.law_hierarchy.proofs.Listened.{peer-run, carried, h, h', ph, own-history, moments}
use Rattle.law_hierarchy.proofs.Carried.{Accepts, accepts-off, put-same, delivered-same, times-same, ungiven, has-given, routes-on, calm-same, filters-same}
use Rattle.law_hierarchy.proofs.Told.{routed-peer, last-moment}
use Rattle.base.proofs.Sets.{has-append-left, has-append-right, map-has, has-map, has-append}
use Rattle.std.proofs.lemmas.List.{map-append}
use Rattle.base.proofs.Lists.{get-map, get-map-none}

up-right : (xs ys : List ℕ) → IsStrictlyRising (xs ++ ys) → IsStrictlyRising ys
up-right [] ys u = u
up-right (x ∷ xs) ys u = up-right xs ys u.1

-- numbers of one list that stand in another in the same order
record IsPart (xs ys : List ℕ) : Type 0 where
  each : (o : ℕ) → Has o xs → Has o ys
  rises : IsStrictlyRising ys → IsStrictlyRising xs

more-part : (xs ys a b : List ℕ) → IsPart xs ys → (a ≡ b) ⊎ (a ≡ []) → IsPart (xs ++ a) (ys ++ b)
more-part xs ys a b p (inl e) = record {
  each = λ o h. elim (has-append o xs a h) [ inl i ↦ has-append-left o ys b (p.each o i) | inr i ↦ has-append-right o ys b (subst (λ z. Has o z) e i) ];
  rises = λ u. up-append xs a (p.rises (up-left ys b u)) (subst IsStrictlyRising (sym e) (up-right ys b u)) (λ x y i k. up-below ys b u x y (p.each x i) (subst (λ z. Has y z) e k));
}
more-part xs ys a b p (inr e) = subst (λ z. IsPart (xs ++ z) (ys ++ b)) (sym e) (record {
  each = λ o h. elim (has-append o xs [] h) [ inl i ↦ has-append-left o ys b (p.each o i) | inr i ↦ absurd i ];
  rises = λ u. up-append xs [] (p.rises (up-left ys b u)) tt (λ x y i k. absurd k);
})

-- how often a number stands in a rising list
none-times : (o : ℕ) (xs : List ℕ) → (Has o xs → ⊥) → times o xs ≡ 0
none-times o [] n = refl
none-times o (x ∷ xs) n = rw (ne_eqb o x (λ e. n (inl e))) (none-times o xs (λ h. n (inr h)))

pub few-times : (o : ℕ) (xs : List ℕ) → IsStrictlyRising xs → times o xs ≤ 1
few-times o [] u = omega arith
few-times o (x ∷ xs) u = go (compare o x) (few-times o xs u.1)
  where
    go : Same o x → times o xs ≤ 1 → times o (x ∷ xs) ≤ 1
    go (Not n v) ih = rw v ih
    go (Is e v) ih = rw v (omega (arith, none-times o xs (λ h. omega (arith, u.0 o h, e))))

pub one-time : (o : ℕ) (xs : List ℕ) → IsStrictlyRising xs → Has o xs → times o xs ≡ 1
one-time o [] u h = absurd h
one-time o (x ∷ xs) u h = go (compare o x) h (one-time o xs u.1)
  where
    go : Same o x → Has o (x ∷ xs) → (Has o xs → times o xs ≡ 1) → times o (x ∷ xs) ≡ 1
    go (Is e v) h ih = rw v (omega (arith, none-times o xs (λ h. omega (arith, u.0 o h, e))))
    go (Not n v) (inl e) ih = absurd (n e)
    go (Not n v) (inr i) ih = rw v (ih i)

module _ (th : Theory) (net : Net th) where
  pub ordinal-in : (x : Publication th) (xs : List (Publication th)) → Has x xs → Has x.ordinal (ordinals_delivered th net x.publisher xs)
  ordinal-in x [] h = absurd h
  ordinal-in x (y ∷ ys) (inl e) = subst (λ (z : Publication th). Has x.ordinal (cond (x.publisher == z.publisher) (z.ordinal ∷ ordinals_delivered th net x.publisher ys) (ordinals_delivered th net x.publisher ys))) e (rw (eq-eqb x.publisher x.publisher refl) (inl refl))
  ordinal-in x (y ∷ ys) (inr h) = go (x.publisher == y.publisher) (ordinal-in x ys h)
    where
      go : (b : Bool) → Has x.ordinal (ordinals_delivered th net x.publisher ys) → Has x.ordinal (cond b (y.ordinal ∷ ordinals_delivered th net x.publisher ys) (ordinals_delivered th net x.publisher ys))
      go true i = inr i
      go false i = i

module _ (th : Theory) (laws : TheoryLaws th) (run : HierarchyRun th) where
  abbrev net : Net th
  net = run.net

  abbrev alike : (n : ℕ) → AlikeNets th laws run.net run.laws (h th laws run n) (h' th laws run n)
  alike n = (moments th laws run n).network

  -- what does not live at a server has nothing delivered there
  abbrev Strays : ℕ → Type 0
  Strays n = (t c : ℕ) → is_among c (run.net.clients t) ≡ false → ((h th laws run n).state t).inbox c ≡ []

  effect-strays : (t c : ℕ) (s : ServerState th) (k : Work th) → is_among c (run.net.clients t) ≡ false → (effect th run.net t s k).state.inbox c ≡ s.inbox c
  effect-strays t c s (SetsFilters i fs) e = refl
  effect-strays t c s (SetsAdverts i xs) e = refl
  effect-strays t c s (Routes i p o n) e = rw e refl
  effect-strays t c s InstallsTable e = refl
  effect-strays t c s Nothing e = refl

  pub strays : (n : ℕ) → Strays n
  strays zero = λ t c e. refl
  strays (suc n) = go (own-history th laws run n) (strays n)
    where
      go : IsNext (hierarchy_machine th run.net) run.journal (h th laws run) (ph th laws run) n → Strays n → Strays (suc n)
      go (inl (f, s)) ih t c e = ap (λ (z : Hierarchy th run.net). (z.state t).inbox c) s.network ∙ ih t c e
      go (inr (x, f, s)) ih t c e = by (compare t x.server)
        where
          m : Rattle.law_machine.specs.History.Moves (hierarchy_machine th run.net) (h th laws run n) x (h th laws run (suc n))
          m = moves (hierarchy_machine th run.net) (h th laws run n) (ph th laws run n) x (h th laws run (suc n)) (ph th laws run (suc n)) s

          by : Same t x.server → ((h th laws run (suc n)).state t).inbox c ≡ []
          by (Not k v) = ap (λ z. (z t).inbox c) m.state ∙ (rw v (ih t c e))
          by (Is q v) =
              let k = served th run.net x.server ((h th laws run n).state x.server) (unstamped (hierarchy_machine th run.net) m.deed) m.made m.step in
              ap (λ z. (z t).inbox c) m.state ∙ (rw v (ap (λ (z : Outcome (ServerState th) (Message th)). z.state.inbox c) k.made
              ∙ (effect-strays x.server c k.from k.work (subst (λ z. is_among c (run.net.clients z) ≡ false) q e) ∙ (ap (λ z. z c) k.counts.inbox ∙ ih x.server c (subst (λ z. is_among c (run.net.clients z) ≡ false) q e)))))

  -- no advertisement is held
  abbrev Unheld : ℕ → Type 0
  Unheld n = (t i : ℕ) → ((h th laws run n).state t).advs i ≡ []

  effect-unheld : (t i : ℕ) (s : ServerState th) (k : Work th) → (effect th run.net t s k).state.advs i ≡ s.advs i
  effect-unheld t i s (SetsFilters j fs) = refl
  effect-unheld t i s (SetsAdverts j xs) = refl
  effect-unheld t i s (Routes j p o n) = refl
  effect-unheld t i s InstallsTable = refl
  effect-unheld t i s Nothing = refl

  pub unheld : (n : ℕ) → Unheld n
  unheld zero = λ t i. refl
  unheld (suc n) = go (own-history th laws run n) (unheld n)
    where
      go : IsNext (hierarchy_machine th run.net) run.journal (h th laws run) (ph th laws run) n → Unheld n → Unheld (suc n)
      go (inl (f, s)) ih t i = ap (λ (z : Hierarchy th run.net). (z.state t).advs i) s.network ∙ ih t i
      go (inr (x, f, s)) ih t i = by (compare t x.server)
        where
          m : Rattle.law_machine.specs.History.Moves (hierarchy_machine th run.net) (h th laws run n) x (h th laws run (suc n))
          m = moves (hierarchy_machine th run.net) (h th laws run n) (ph th laws run n) x (h th laws run (suc n)) (ph th laws run (suc n)) s

          by : Same t x.server → ((h th laws run (suc n)).state t).advs i ≡ []
          by (Not k v) = ap (λ z. (z t).advs i) m.state ∙ (rw v (ih t i))
          by (Is q v) =
              let k = served th run.net x.server ((h th laws run n).state x.server) (unstamped (hierarchy_machine th run.net) m.deed) m.made m.step in
              ap (λ z. (z t).advs i) m.state ∙ (rw v (ap (λ (z : Outcome (ServerState th) (Message th)). z.state.advs i) k.made ∙ (effect-unheld x.server i k.from k.work ∙ (ap (λ z. z i) k.counts.advs ∙ ih x.server i))))

  -- of each client at a server either it lives there, or it has nothing there
  pub by-inbox : (P : List (Publication th) → Type 0) (n t c : ℕ) → P [] → (Has c (run.net.clients t) → P (((h th laws run n).state t).inbox c)) → P (((h th laws run n).state t).inbox c)
  by-inbox P n t c none some = go (is_among c (run.net.clients t)) refl
    where
      go : (b : Bool) → is_among c (run.net.clients t) ≡ b → P (((h th laws run n).state t).inbox c)
      go true e = some (one-has c (run.net.clients t) e)
      go false e = subst P (sym (strays n t c e)) none

  pub inbox-same : (n t c : ℕ) → Has c (run.net.clients t) → ((h' th laws run n).state t).inbox c ≡ map (given th) (((h th laws run n).state t).inbox c)
  inbox-same n t c lives = ((alike n).state t).inbox c (fresh th run.net run.laws t c lives)

  -- deliveries are in force
  pub in-force : (r : Routed th run) (c : ℕ) → Has c (run.net.clients r.server) → IsDelivered th run r c ↔ IsInForce th run r c
  in-force r c lives = (to, from)
    where
      own : (c == listener th run.net) ≡ false
      own = other th run.net run.laws r.server c lives

      then : ℕ
      then = calm th run.net (states th run) r.server r.moment

      both : IsPeerDelivered (wide th) (peer-run th laws run) (routed-peer th laws run r) c ↔ IsPeerInForce (wide th) (peer-run th laws run) (routed-peer th laws run r) c
      both = in-force-run (wide th) (wide-laws th laws) (peer-run th laws run) (routed-peer th laws run r) c (in-lives th run.net run.laws r.server c lives)

      list : filters_of (wide th) (peers th run.net) (h' th laws run (calm (wide th) (peers th run.net) (h' th laws run) r.server r.moment)) c ≡ said (filters_of th run.net (states th run (calm th run.net (states th run) r.server r.moment)) c)
      list = ap (λ z. filters_of (wide th) (peers th run.net) (h' th laws run z) c) (calm-same th laws run r.server r.moment) ∙ filters-same th laws run c (calm th run.net (states th run) r.server r.moment) own

      to : IsDelivered th run r c → IsInForce th run r c
      to d =
          let x = both.0 (inbox-same (suc r.moment) r.server c lives ∙ (ap (map (given th)) d ∙ (map-append (given th) (((h th laws run r.moment).state r.server).inbox c) (r.publication ∷ []) ∙ ap (λ z. z ++ given th r.publication ∷ []) (sym (inbox-same r.moment r.server c lives))))) in
          let f = has-map Some (filters_of th run.net (states th run (calm th run.net (states th run) r.server r.moment)) c) x.0 (subst (λ z. Has x.0 z) list x.1) in
          (f.0, f.1, subst (λ z. (wide th).matches (Some r.publication.notice) z ≡ true) f.2 x.2)

      from : IsInForce th run r c → IsDelivered th run r c
      from (f, listed, hit) =
          let d = both.1 (Some f, subst (λ z. Has (Some f) z) (sym list) (said-has f (filters_of th run.net (states th run (calm th run.net (states th run) r.server r.moment)) c) listed), hit) in
          ungiven th laws run.net run.laws (((h th laws run (suc r.moment)).state r.server).inbox c) (((h th laws run r.moment).state r.server).inbox c ++ r.publication ∷ [])
          (sym (inbox-same (suc r.moment) r.server c lives) ∙ (d ∙ (ap (λ z. z ++ given th r.publication ∷ []) (inbox-same r.moment r.server c lives) ∙ sym (map-append (given th) (((h th laws run r.moment).state r.server).inbox c) (r.publication ∷ [])))))

  -- order
  abbrev Orderly : ℕ → ℕ → Type 0
  Orderly q n = IsOrderly (wide th) (peers th run.net) q (Rattle.law_routing.specs.LegalRun.ordinal_before (wide th) (peer-run th laws run) q) (h' th laws run n) (ordinals_routed (wide th) (peers th run.net) (h' th laws run) (peer-run th laws run).journal q n)

  pub orderly : (q n : ℕ) → Orderly q n
  orderly q n = ordered-run (wide th) (wide-laws th laws) (peer-run th laws run) q n

  abbrev OfEntry : ℕ → ℕ → ℕ → Option (NetEntry th run.net) → Option (NetEntry (wide th) (peers th run.net)) → Type 0
  OfEntry q t n a b = (ordinals_of_entry th run.net q t (states th run n) a ≡ ordinals_of_entry (wide th) (peers th run.net) q t (h' th laws run n) b) ⊎ (ordinals_of_entry th run.net q t (states th run n) a ≡ [])

  routed-part : (q t n : ℕ) → IsPart (ordinals_routed th run.net (states th run) (entries th run) q n t) (ordinals_routed (wide th) (peers th run.net) (h' th laws run) (peer-run th laws run).journal q n t)
  routed-part q t zero = record { each = λ o h. h; rises = λ u. u }
  routed-part q t (suc n) = more-part (ordinals_routed th run.net (states th run) (entries th run) q n t) (ordinals_routed (wide th) (peers th run.net) (h' th laws run) (peer-run th laws run).journal q n t)
      (ordinals_of_entry th run.net q t (states th run n) (slice_get (entries th run) n)) (ordinals_of_entry (wide th) (peers th run.net) q t (h' th laws run n) (slice_get (peer-run th laws run).journal n)) (routed-part q t n) (go (slice_get run.journal n) refl)
    where
      entry : (e : HierarchyEntry th run.net) → OfEntry q t n (Some (entry_as_peers th run.net e)) (Some (entry-on th laws run.net run.laws e))
      entry e = by (t == e.server) (work_at th run.net (states th run n) e.server e.act) refl
        where
          by : (b : Bool) (k : Option (Work th)) → work_at th run.net (states th run n) e.server e.act ≡ k
              → (cond b (ordinals_maybe th run.net q (work_at th run.net (states th run n) e.server e.act)) [] ≡ cond b (ordinals_maybe (wide th) (peers th run.net) q (work_at (wide th) (peers th run.net) (h' th laws run n) e.server e.act)) []) ⊎ (cond b (ordinals_maybe th run.net q (work_at th run.net (states th run n) e.server e.act)) [] ≡ [])
          by false k f = inr refl
          by true None f = inr (ap (ordinals_maybe th run.net q) f)
          by true (Some (SetsFilters i fs)) f = inr (ap (ordinals_maybe th run.net q) f)
          by true (Some (SetsAdverts i xs)) f = inr (ap (ordinals_maybe th run.net q) f)
          by true (Some (Routes i p o m)) f = inl (ap (ordinals_maybe th run.net q) f ∙ sym (ap (ordinals_maybe (wide th) (peers th run.net) q) (routes-on th laws run.net run.laws (h th laws run n) (h' th laws run n) (alike n) e.server e.act i p o m f)))
          by true (Some InstallsTable) f = inr (ap (ordinals_maybe th run.net q) f)
          by true (Some Nothing) f = inr (ap (ordinals_maybe th run.net q) f)

      go : (x : Option (HierarchyEntry th run.net)) → slice_get run.journal n ≡ x → OfEntry q t n (slice_get (entries th run) n) (slice_get (peer-run th laws run).journal n)
      go None f = inr (ap (ordinals_of_entry th run.net q t (states th run n)) (get-map-none (entry_as_peers th run.net) run.journal n f))
      go (Some e) f = subst (λ z. OfEntry q t n z (slice_get (peer-run th laws run).journal n)) (sym (get-map (entry_as_peers th run.net) run.journal n e f)) (subst (λ z. OfEntry q t n (Some (entry_as_peers th run.net e)) z) (sym (get-map (entry-on th laws run.net run.laws) run.journal n e f)) (entry e))

  pub put-rises : (q n a b : ℕ) → IsStrictlyRising (ordinals_put th run.net q ((h th laws run n).put a b))
  put-rises q n a b = subst IsStrictlyRising (ap (ordinals_put (wide th) (peers th run.net) q) ((alike n).put a b) ∙ put-same th laws run.net run.laws q ((h th laws run n).put a b)) ((orderly q n).put_up a b)

  pub in-order : (q n : ℕ) → IsInOrder th run q n
  in-order q n = record {
    routed = λ t. (routed-part q t n).rises ((orderly q n).routed_up t);
    put = put-rises q n;
    delivered = λ t c. by-inbox (λ z. IsStrictlyRising (ordinals_delivered th run.net q z)) n t c tt (λ lives. subst IsStrictlyRising (ap (ordinals_delivered (wide th) (peers th run.net) q) (inbox-same n t c lives) ∙ delivered-same th laws run.net run.laws q (((h th laws run n).state t).inbox c)) ((orderly q n).given_up t c));
  }

  pub put-twice : (n a b q o : ℕ) → times_put th run n a b q o ≤ 1
  put-twice n a b q o = few-times o (ordinals_put th run.net q ((h th laws run n).put a b)) (put-rises q n a b)

  pub routed-twice : (n t q o : ℕ) → times_routed th run n t q o ≤ 1
  routed-twice n t q o = few-times o (ordinals_routed th run.net (states th run) (entries th run) q n t) ((routed-part q t n).rises ((orderly q n).routed_up t))

  pub delivered-twice : (n t c q o : ℕ) → times_delivered th run.net q o (((states th run n).state t).inbox c) ≤ 1
  delivered-twice n t c q o = by-inbox (λ z. times_delivered th run.net q o z ≤ 1) n t c (omega arith)
      (λ lives. omega (arith, twice-never (wide th) (wide-laws th laws) (peer-run th laws run) n t c q o, ap (times_delivered (wide th) (peers th run.net) q o) (inbox-same n t c lives), times-same th laws run.net run.laws q o (((h th laws run n).state t).inbox c)))

  -- what is put and delivered is authentic
  pub done-same : (n q : ℕ) → (q == listener th run.net) ≡ false → ((h' th laws run n).state ((peers th run.net).home q)).done q ≡ ((h th laws run n).state (run.net.home q)).done q
  done-same n q own = ap (λ z. ((h' th laws run n).state (cond z top (run.net.home q))).done q) own ∙ (((alike n).state (run.net.home q)).done q ∙ rw own refl)

  pub script-same : (q : ℕ) → (q == listener th run.net) ≡ false → (peers th run.net).script q ≡ wide-script th run.net [] (run.net.script q)
  script-same q own = rw own refl

  accepted-off : (n q o : ℕ) (k : th.Notice) → IsAccepted (wide th) (peers th run.net) (h' th laws run n) q o (Some k) → IsAccepted th run.net (states th run n) q o k
  accepted-off n q o k x =
      let a = accepts-off th laws run.net run.laws q x.index x.command k x.at x.publishes in
      record {
        index = x.index;
        taken = omega (arith, x.taken, done-same n q a.own);
        command = a.next;
        at = a.at;
        publishes = a.publishes;
        ordinal = sym (ap (λ z. ordinal (wide th) (take (suc x.index) z)) (script-same q a.own) ∙ wide-ordinal th run.net (run.net.script q) (suc x.index)) ∙ x.ordinal;
        allowed = a.allowed;
      }

  pub authentic : (n : ℕ) → IsAuthentic th run.net (states th run n)
  authentic n = record {
    put = λ a b x q o k h e. accepted-off n q o k ((authentic-run (wide th) (wide-laws th laws) (peer-run th laws run) n).put a b (stamped-on th laws run.net run.laws x) q o (Some k) (subst (λ z. Has (stamped-on th laws run.net run.laws x) z) (sym ((alike n).put a b)) (map-has (stamped-on th laws run.net run.laws) ((Rattle.law_hierarchy.proofs.Listened.h th laws run n).put a b) x h)) (ap (sent-on th) e));
    given = λ t c x. by-inbox (λ z. Has x z → IsAccepted th run.net (states th run n) x.publisher x.ordinal x.notice) n t c (λ h. absurd h) (λ lives h. accepted-off n x.publisher x.ordinal x.notice ((authentic-run (wide th) (wide-laws th laws) (peer-run th laws run) n).given t c (given th x) (subst (λ z. Has (given th x) z) (sym (inbox-same n t c lives)) (map-has (given th) (((Rattle.law_hierarchy.proofs.Listened.h th laws run n).state t).inbox c) x h))));
  }

  -- what is delivered is allowed
  pub allowed : (n t c : ℕ) (p : Publication th) → Has c (run.net.clients t) → Has p (((states th run n).state t).inbox c) → IsAllowedTo th run p c
  allowed n t c p lives has =
      let r : IsPeerAllowed (wide th) (peer-run th laws run) (given th p) c = allowed-run (wide th) (wide-laws th laws) (peer-run th laws run) n t c (given th p) (in-lives th run.net run.laws t c lives) (subst (λ z. Has (given th p) z) (sym (inbox-same n t c lives)) (map-has (given th) (((h th laws run n).state t).inbox c) p has)) in
      by r.0 r.1 (accepts-off th laws run.net run.laws p.publisher r.1.index r.1.command p.notice r.1.at r.1.publishes) r.2
    where
      own : (c == listener th run.net) ≡ false
      own = other th run.net run.laws t c lives

      listed : (c : ℕ) → (c == listener th run.net) ≡ false → (k : ℕ) → IsAllowed (wide th) (peers th run.net) (suc k) (Some p.notice) c → IsAllowed th run.net k p.notice c
      listed c own k y =
          let f = has-map Some (filters_after th [] (take y.index (run.net.script c))) y.filter (subst (λ z. Has y.filter z) (ap (λ z. filters_after (wide th) [] (take y.index z)) (script-same c own) ∙ wide-list th run.net (run.net.script c) y.index) y.listed) in
          record {
            index = y.index;
            moment = record {
              from = omega (arith, y.moment.from, ap (commands_below (wide th) (suc k)) (script-same c own), wide-below th run.net k [] (run.net.script c));
              upto = omega (arith, y.moment.upto, ap (commands_below (wide th) (suc (suc k))) (script-same c own), wide-below th run.net (suc k) [] (run.net.script c));
            };
            filter = f.0;
            listed = f.1;
            matches = subst (λ z. (wide th).matches (Some p.notice) z ≡ true) f.2 y.matches;
          }

      by : (k : ℕ) (x : IsPublication (wide th) (peers th run.net) p.publisher p.ordinal k (Some p.notice)) → Accepts th laws run.net run.laws p.publisher x.index x.command p.notice → IsAllowed (wide th) (peers th run.net) k (Some p.notice) c → IsAllowedTo th run p c
      by k x a y = (
        a.next.phase,
        record {
          index = x.index;
          command = a.next;
          at = a.at;
          publishes = a.publishes;
          ordinal = sym (ap (λ z. ordinal (wide th) (take (suc x.index) z)) (script-same p.publisher a.own) ∙ wide-ordinal th run.net (run.net.script p.publisher) (suc x.index)) ∙ x.ordinal;
          allowed = a.allowed;
          phase = refl;
        },
        listed c own a.next.phase (subst (λ z. IsAllowed (wide th) (peers th run.net) z (Some p.notice) c) (sym x.phase ∙ a.phase) y),
      )

  -- what is owed
  pub published-peer : (p : Publication th) → (x : IsPublished th run p) → IsPublication (wide th) (peers th run.net) p.publisher p.ordinal (suc x.phase) (Some p.notice)
  published-peer p x =
      let y = x.published in
      record {
        index = y.index;
        command = wide-phased th run.net (adverts_after th [] (take y.index (run.net.script p.publisher))) y.command;
        at = ap (λ z. slice_get z y.index) (script-same p.publisher own) ∙ (wide-get th run.net [] (run.net.script p.publisher) y.index ∙ ap (wide-next th run.net (adverts_after th [] (take y.index (run.net.script p.publisher)))) y.at);
        publishes = ap (wide-command th run.net (adverts_after th [] (take y.index (run.net.script p.publisher)))) y.publishes ∙ ap (λ z. publish (cond z (Some p.notice) None)) y.allowed;
        ordinal = ap (λ z. ordinal (wide th) (take (suc y.index) z)) (script-same p.publisher own) ∙ (wide-ordinal th run.net (run.net.script p.publisher) (suc y.index) ∙ y.ordinal);
        allowed = refl;
        phase = ap suc y.phase;
      }
    where
      publish : Option th.Notice → Command (wide th)
      publish n = Publish n

      own : (p.publisher == listener th run.net) ≡ false
      own = other th run.net run.laws (run.net.home p.publisher) p.publisher x.here

  pub here-peer : (c : ℕ) → Has c (run.net.clients (run.net.home c)) → Has c ((peers th run.net).clients ((peers th run.net).home c))
  here-peer c lives = subst (λ z. Has c ((peers th run.net).clients z)) (sym (ap (λ z. cond z top (run.net.home c)) (other th run.net run.laws (run.net.home c) c lives))) (in-lives th run.net run.laws (run.net.home c) c lives)

  owed-peer : (p : Publication th) (c : ℕ) → IsOwedTo th run p c → IsPeerOwed (wide th) (peer-run th laws run) (given th p) c
  owed-peer p c o = record {
    phase = suc o.accepted.phase;
    since = omega arith;
    published = published-peer p o.accepted;
    owed = record { filter = Some o.owed.filter; always = always; matches = o.owed.matches; allowed = λ e. absurd (never e) };
    here = here-peer p.publisher o.accepted.here;
    lives = here-peer c o.lives;
  }
    where
      never : false ≡ true → ⊥
      never e = cc

      own : (c == listener th run.net) ≡ false
      own = other th run.net run.laws (run.net.home c) c o.lives

      always : (count : ℕ) → IsMomentOfPhase (wide th) (peers th run.net) (suc o.accepted.phase) c count → Has (Some o.owed.filter) (filters_after (wide th) [] (take count ((peers th run.net).script c)))
      always count m = subst (λ z. Has (Some o.owed.filter) z) (sym (ap (λ z. filters_after (wide th) [] (take count z)) (script-same c own) ∙ wide-list th run.net (run.net.script c) count))
          (said-has o.owed.filter (filters_after th [] (take count (run.net.script c))) (o.owed.always count (record {
            from = omega (arith, m.from, ap (commands_below (wide th) (suc o.accepted.phase)) (script-same c own), wide-below th run.net o.accepted.phase [] (run.net.script c));
            upto = omega (arith, m.upto, ap (commands_below (wide th) (suc (suc o.accepted.phase))) (script-same c own), wide-below th run.net (suc o.accepted.phase) [] (run.net.script c));
          })))

  owed-phase : (p : Publication th) (c : ℕ) (o : IsOwedTo th run p c) → (owed-peer p c o).phase ≡ suc o.accepted.phase
  unfolding owed-peer
  owed-phase p c o = refl

  -- a drained run is a drained run of the peers
  pub drained-peer : IsDrainedRun th run → IsDrained (wide th) (peers th run.net) (carried th laws run).end'
  drained-peer d = record {
    quiet = quiet-on th laws run.net run.laws run.end (carried th laws run).end' (carried th laws run).alike (record { empty = d.quiet.empty; calm = d.quiet.calm });
    taken = λ t c lives. elim (lives-in th run.net run.laws t c lives) [ inl i ↦ own t c i | inr e ↦ listens-on t c e.1 ];
  }
    where
      own : (t c : ℕ) → Has c (run.net.clients t) → ((carried th laws run).end'.state t).done c ≡ length ((peers th run.net).script c)
      own t c i =
          let n = other th run.net run.laws t c i in
          ((carried th laws run).alike.state t).done c ∙ (ap (λ z. cond z 1 ((run.end.state t).done c)) n ∙ (d.taken t c i ∙ sym (ap length (script-same c n) ∙ wide-length th run.net [] (run.net.script c))))

      listens-on : (t c : ℕ) → c ≡ listener th run.net → ((carried th laws run).end'.state t).done c ≡ length ((peers th run.net).script c)
      listens-on t c e =
          let v : (c == listener th run.net) ≡ true = eq-eqb c (listener th run.net) e in
          ((carried th laws run).alike.state t).done c ∙ (ap (λ z. cond z 1 ((run.end.state t).done c)) v ∙ sym (ap (λ z. length (cond z (listens th run.net) (wide-script th run.net [] (run.net.script c)))) v))

  once-off : (p : Publication th) (c : ℕ) → Has c (run.net.clients (run.net.home c)) → IsPeerOnce (wide th) (peer-run th laws run) (given th p) c → IsDeliveredOnce th run p c
  once-off p c lives r =
      let own = other th run.net run.laws (run.net.home c) c lives in
      let box : ((carried th laws run).end'.state ((peers th run.net).home c)).inbox c ≡ map (given th) ((run.end.state (run.net.home c)).inbox c) = ap (λ z. ((carried th laws run).end'.state (cond z top (run.net.home c))).inbox c) own ∙ ((carried th laws run).alike.state (run.net.home c)).inbox c (fresh th run.net run.laws (run.net.home c) c lives) in (
        has-given th laws run.net run.laws p ((run.end.state (run.net.home c)).inbox c) (subst (λ z. Has (given th p) z) box r.0),
        sym (ap (times_delivered (wide th) (peers th run.net) p.publisher p.ordinal) box ∙ times-same th laws run.net run.laws p.publisher p.ordinal ((run.end.state (run.net.home c)).inbox c)) ∙ r.1,
      )

  pub owed : IsDrainedRun th run → (p : Publication th) (c : ℕ) → IsOwedTo th run p c → IsDeliveredOnce th run p c
  owed d p c o = once-off p c o.lives (owed-once (wide th) (wide-laws th laws) (peer-run th laws run) (drained-peer d) (given th p) c (owed-peer p c o))

  -- and so is all that flooding owes: no advertisement steers a filter here
  pub flood-owed : IsDrainedRun th run → (p : Publication th) (c : ℕ) → IsFloodOwedTo th run p c → IsDeliveredOnce th run p c
  flood-owed d p c o = once-off p c o.lives (due-once (wide th) (wide-laws th laws) (peer-run th laws run) (drained-peer d) (given th p) c due)
    where
      k : ℕ
      k = o.accepted.phase

      own : (c == listener th run.net) ≡ false
      own = other th run.net run.laws (run.net.home c) c o.lives

      wanted : (count : ℕ) → IsMomentOfPhase (wide th) (peers th run.net) (suc o.accepted.phase) c count → some_pass ((wide th).matches (Some p.notice)) (filters_after (wide th) [] (take count ((peers th run.net).script c))) ≡ true
      wanted count m =
          let f = by-pass (th.matches p.notice) (filters_after th [] (take count (run.net.script c))) (o.wanted count (record {
            from = omega (arith, m.from, ap (commands_below (wide th) (suc o.accepted.phase)) (script-same c own), wide-below th run.net o.accepted.phase [] (run.net.script c));
            upto = omega (arith, m.upto, ap (commands_below (wide th) (suc (suc o.accepted.phase))) (script-same c own), wide-below th run.net (suc o.accepted.phase) [] (run.net.script c));
          })) in
          pass-by ((wide th).matches (Some p.notice)) (Some f.0) (filters_after (wide th) [] (take count ((peers th run.net).script c)))
          (subst (λ z. Has (Some f.0) z) (sym (ap (λ z. filters_after (wide th) [] (take count z)) (script-same c own) ∙ wide-list th run.net (run.net.script c) count)) (said-has f.0 (filters_after th [] (take count (run.net.script c))) f.1)) f.2

      due : IsPeerDue (wide th) (peer-run th laws run) (given th p) c
      due = record {
        phase = suc k;
        since = omega arith;
        published = published-peer p o.accepted;
        due = record { wanted = wanted; allowed = λ count from upto. refl };
        here = here-peer p.publisher o.accepted.here;
        lives = here-peer c o.lives;
      }

  -- and so is what is owed in a phase that is through
  pub owed-by : (k : ℕ) → IsQuiet (hierarchy_machine th run.net) run.end → IsThrough (hierarchy_machine th run.net) run.end k → (p : Publication th) (c : ℕ) → (o : IsOwedTo th run p c) → o.accepted.phase < k → IsDeliveredOnce th run p c
  owed-by k quiet through p c o before =
      once-off p c o.lives
      (owed-in-phase (wide th) (wide-laws th laws) (peer-run th laws run) (suc k) (quiet-on th laws run.net run.laws run.end (carried th laws run).end' (carried th laws run).alike quiet) (through-on th laws run.net run.laws run.end (carried th laws run).end' (carried th laws run).alike k through) (given th p) c (owed-peer p c o) (omega (arith, before, owed-phase p c o)))

  pub stable : IsDrainedRun th run → (c : ℕ) → Has c (run.net.clients (run.net.home c)) → ((p : Publication th) → IsAllowedTo th run p c → IsOwedTo th run p c) → (p : Publication th) → Has p (inbox_of th run c) ↔ IsAllowedTo th run p c
  stable d c lives all p = (
    (λ has. allowed (length run.journal) (run.net.home c) c p lives (subst (λ (z : Network th run.net). Has p ((z.state (run.net.home c)).inbox c)) (sym (last-moment th laws run)) has)),
    (λ x. (owed d p c (all p x)).0),
  )
