-- What is settled on its way to a client of a hierarchy is in the client's inbox once each of its messages on that way is received.
use Rattle.std.proofs.Common.{◌≡◌, ℕ, suc, ◌+◌, ◌≤◌, ◌<◌, Bool, true, false, cond, ◌&&◌, List, [], ◌∷◌, ◌⊎◌, map, take, slice_get, Option, Some, None, inl, inr, refl, sym, ap, subst, ◌∙◌, arith}
use Rattle.std.proofs.lemmas.Option.{same_Some}
use Rattle.base.specs.Sets.{Has}
use Rattle.base.proofs.Lists.{get-map, get-map-none, map-get}
use Rattle.base.proofs.Sets.{has-append-right, map-has}
use Rattle.law_machine.specs.Machine.{Act, Did, Received, Stamped}
use Rattle.law_machine.specs.History.{IsHistory}
use Rattle.law_routing.specs.Theory.{Theory, TheoryLaws}
use Rattle.law_routing.specs.Net.{Net, Command, Subscribe, Unsubscribe, Advertise, Unadvertise, Publish, PhasedCommand}
use Rattle.law_routing.specs.Clients.{some_pass, accepts, adverts_after, ordinal}
use Rattle.law_routing.specs.Server.{Message, Subs, Advs, Noticed, Publication, is_among}
use Rattle.law_routing.specs.Step.{Task, NextCommand, TableUpdate, Work, SetsFilters, SetsAdverts, Routes, InstallsTable, Nothing, effect, command_work, message_work, next_work}
use Rattle.law_routing.specs.Routing.{Network, routing_machine}
use Rattle.law_routing.specs.Works.{reception_work, work_at}
use Rattle.law_routing.specs.Rest.{IsOnwardWay, end_of}
use Rattle.law_routing.specs.AsOf.{IsRoutedAt, IsReceivedOn, IsReceivedAlong, times_delivered}
use Rattle.law_routing.proofs.Laws.{one-has, cond-some}
use Rattle.law_routing.proofs.Passing.{given-has, sends-only, given-rises, pass-works, pass-outs, pass-installed}
use Rattle.law_routing.proofs.Delivered.{moves-on, once}
use Rattle.law_routing.proofs.Started.{history}
use Rattle.law_hierarchy.specs.Masters.{top, master, is_master}
use Rattle.law_hierarchy.specs.Step.{Hierarchy, as_peers, entry_as_peers}
use Rattle.law_hierarchy.specs.HierarchyRun.{HierarchyRun, Routed, states, entries, IsSettledAlong, IsSettledOn, IsAllReceivedBy, IsDeliveredOnceBy}
use Rattle.law_hierarchy.proofs.Wide.{wide, wide-laws}
use Rattle.law_hierarchy.proofs.Listener.{peers, lives-in}
use Rattle.law_hierarchy.proofs.Shadow.{given, sent-on, master-is}
use Rattle.law_hierarchy.proofs.Networks.{AlikeNets, stamped-on, entry-on}
use Rattle.law_hierarchy.proofs.Listened.{peer-run, h, h', ph', journal', moments}
use Rattle.law_hierarchy.proofs.Carried.{has-given, times-same}
use Rattle.law_hierarchy.proofs.Told.{routed-at, sent-down, goes-up}
use Rattle.law_hierarchy.proofs.Given.{inbox-same, in-force, orderly}

abbrev noticed : (th : Theory) → ℕ → ℕ → th.Notice → Message th
noticed th p o n = Noticed p o n

abbrev route : (th : Theory) → ℕ → ℕ → ℕ → th.Notice → Work th
route th i p o n = Routes i p o n

abbrev installs : (th : Theory) → Work th
installs th = InstallsTable

abbrev set-filters : (th : Theory) → ℕ → List th.Filter → Work th
set-filters th i fs = SetsFilters i fs

abbrev set-adverts : (th : Theory) → ℕ → List th.Advert → Work th
set-adverts th i xs = SetsAdverts i xs

module _ (th : Theory) where
  -- a message that is this notification among the peers is it in the hierarchy
  notice-off : (y : Message th) (q o : ℕ) (n : th.Notice) → sent-on th y ≡ noticed (wide th) q o (Some n) → y ≡ noticed th q o n
  notice-off (Subs out add) q o n e = absurd cc
  notice-off (Advs out add) q o n e = absurd cc
  notice-off (Noticed a b m) q o n e = λ i. Noticed (one e i) (two e i) (same_Some _ _ (three e) i)
    where
      one : {x y : Option th.Notice} → noticed (wide th) a b x ≡ noticed (wide th) q o y → a ≡ q
      one e = cc

      two : {x y : Option th.Notice} → noticed (wide th) a b x ≡ noticed (wide th) q o y → b ≡ o
      two e = cc

      three : {x y : Option th.Notice} → noticed (wide th) a b x ≡ noticed (wide th) q o y → x ≡ y
      three e = cc

  -- the parts of a route
  route-interface : (t u : Theory) (i p o j q k : ℕ) (n m : t.Notice) → route t i p o n ≡ route t j q k m → i ≡ j
  route-interface t u i p o j q k n m e = cc

  -- a command that routes does so from its client
  from-client : (net : Net (wide th)) (c count : ℕ) (command : Command (wide th)) (i p o : ℕ) (n : Option th.Notice) → command_work (wide th) net c count command ≡ route (wide th) i p o n → 64 + c ≡ i
  from-client net c count (Subscribe f) i p o n e = absurd cc
  from-client net c count (Unsubscribe f) i p o n e = absurd cc
  from-client net c count (Advertise a) i p o n e = absurd (none net.adverts e)
    where
      none : (b : Bool) → cond b (set-adverts (wide th) (64 + c) (adverts_after (wide th) [] (take (suc count) (net.script c)))) Nothing ≡ route (wide th) i p o n → ⊥
      none true e = cc
      none false e = cc
  from-client net c count (Unadvertise a) i p o n e = absurd (none net.adverts e)
    where
      none : (b : Bool) → cond b (set-adverts (wide th) (64 + c) (adverts_after (wide th) [] (take (suc count) (net.script c)))) Nothing ≡ route (wide th) i p o n → ⊥
      none true e = cc
      none false e = cc
  from-client net c count (Publish m) i p o n e = go (accepts (wide th) net (adverts_after (wide th) [] (take count (net.script c))) m) e
    where
      go : (b : Bool) → cond b (route (wide th) (64 + c) c (ordinal (wide th) (take (suc count) (net.script c))) m) Nothing ≡ route (wide th) i p o n → 64 + c ≡ i
      go true e = route-interface (wide th) th (64 + c) c (ordinal (wide th) (take (suc count) (net.script c))) i p o m n e
      go false e = absurd cc

  next-client : (net : Net (wide th)) (c count : ℕ) (next : Option (PhasedCommand (wide th))) (i p o : ℕ) (n : Option th.Notice) → next_work (wide th) net c count next ≡ Some (route (wide th) i p o n) → 64 + c ≡ i
  next-client net c count None i p o n e = absurd cc
  next-client net c count (Some x) i p o n e = from-client net c count x.command i p o n (same_Some _ _ e)

module _ (th : Theory) (laws : TheoryLaws th) (run : HierarchyRun th) where
  abbrev W : Theory
  W = wide th

  abbrev N : Net (wide th)
  N = peers th run.net

  abbrev peer-history : IsHistory (routing_machine (wide th) (peers th run.net)) (journal' th laws run) (h' th laws run) (ph' th laws run)
  peer-history = history (wide th) (wide-laws th laws) (peer-run th laws run)

  -- what comes by a link and is routed among the peers is routed in the hierarchy
  work-off : (w : Hierarchy th run.net) (w' : Network (wide th) (peers th run.net)) → AlikeNets th laws run.net run.laws w w' → (u : ℕ) (a : Act Task) (t q o : ℕ) (n : th.Notice) → Has t (run.net.links u)
      → work_at (wide th) (peers th run.net) w' u a ≡ Some (route (wide th) t q o (Some n)) → work_at th run.net (as_peers th run.net w) u a ≡ Some (route th t q o n)
  work-off w w' alike u (Did TableUpdate) t q o n near e = absurd (none (is_among u run.net.servers && (w'.state u).pending) e)
    where
      none : (b : Bool) → cond b (Some (installs (wide th))) None ≡ Some (route (wide th) t q o (Some n)) → ⊥
      none true e = cc
      none false e = cc
  work-off w w' alike u (Did (NextCommand c)) t q o n near e =
      let f = cond-some (is_among u (peers th run.net).servers) (is_among c ((peers th run.net).clients u)) (next_work (wide th) (peers th run.net) c ((w'.state u).done c) (slice_get ((peers th run.net).script c) ((w'.state u).done c))) (Routes t q o (Some n)) e in
      let own = next-client th (peers th run.net) c ((w'.state u).done c) (slice_get ((peers th run.net).script c) ((w'.state u).done c)) t q o (Some n) f.2 in
      let some : 1 ≤ c = elim (lives-in th run.net run.laws u c (one-has c ((peers th run.net).clients u) f.1)) [ inl lives ↦ run.laws.lawful.counted u c lives | inr i ↦ omega (arith, i.1) ] in
      absurd (omega (arith, own, some, run.laws.lawful.small u t near))
  work-off w w' alike u (Received v) t q o n near e =
      go (slice_get (w.put v u) (w.taken v u)) refl (ap (reception_work (wide th) (peers th run.net) u (w'.state u) v) (sym (λ j. slice_get (alike.put v u j) (alike.taken v u j))) ∙ e)
    where
      go : (x : Option (Stamped (Message th))) → slice_get (w.put v u) (w.taken v u) ≡ x
          → reception_work (wide th) (peers th run.net) u (w'.state u) v (slice_get (map (stamped-on th laws run.net run.laws) (w.put v u)) (w.taken v u)) ≡ Some (route (wide th) t q o (Some n))
          → work_at th run.net (as_peers th run.net w) u (Received v) ≡ Some (route th t q o n)
      go None f g = absurd (none (ap (reception_work (wide th) (peers th run.net) u (w'.state u) v) (sym (get-map-none (stamped-on th laws run.net run.laws) (w.put v u) (w.taken v u) f)) ∙ g))
        where
          none : None ≡ Some (route (wide th) t q o (Some n)) → ⊥
          none e = cc
      go (Some x) f g =
          let k = cond-some (is_among u run.net.servers) (is_among v (run.net.links u)) (Some (message_work (wide th) (peers th run.net) (w'.state u) v (sent-on th x.message))) (Routes t q o (Some n))
          (ap (reception_work (wide th) (peers th run.net) u (w'.state u) v) (sym (get-map (stamped-on th laws run.net run.laws) (w.put v u) (w.taken v u) x f)) ∙ g) in
          ap (reception_work th run.net u (w.state u) v) f ∙ by x.message k.0 k.1 (same_Some _ _ k.2)
        where
          by : (y : Message th) → is_among u run.net.servers ≡ true → is_among v (run.net.links u) ≡ true → message_work (wide th) (peers th run.net) (w'.state u) v (sent-on th y) ≡ route (wide th) t q o (Some n)
              → cond (is_among u run.net.servers && is_among v (run.net.links u)) (Some (message_work th run.net (w.state u) v y)) None ≡ Some (route th t q o n)
          by (Subs out add) a b c = absurd cc
          by (Advs out add) a b c = absurd cc
          by (Noticed x y m) a b c = rw (a, b) (λ i. Some (Routes (from c i) (publisher c i) (number c i) (same_Some _ _ (notice c) i)))
            where
              from : {z z' : Option th.Notice} → route (wide th) v x y z ≡ route (wide th) t q o z' → v ≡ t
              from e = cc

              publisher : {z z' : Option th.Notice} → route (wide th) v x y z ≡ route (wide th) t q o z' → x ≡ q
              publisher e = cc

              number : {z z' : Option th.Notice} → route (wide th) v x y z ≡ route (wide th) t q o z' → y ≡ o
              number e = cc

              notice : {z z' : Option th.Notice} → route (wide th) v x y z ≡ route (wide th) t q o z' → z ≡ z'
              notice e = cc

  abbrev RoutedHere : ℕ → ℕ → ℕ → Publication th → Type 0
  RoutedHere m t i p = IsRoutedAt th run.net (states th run) (entries th run) m t i p.publisher p.ordinal p.notice

  abbrev RoutedThere : ℕ → ℕ → ℕ → Publication th → Type 0
  RoutedThere m t i p = IsRoutedAt (wide th) (peers th run.net) (h' th laws run) (journal' th laws run) m t i p.publisher p.ordinal (Some p.notice)

  routed-off : (m u t : ℕ) (p : Publication th) → Has t (run.net.links u) → RoutedThere m u t p → RoutedHere m u t p
  routed-off m u t p near y =
      let e = map-get (entry-on th laws run.net run.laws) run.journal m y.entry y.at in
      record {
        entry = entry_as_peers th run.net e.0;
        at = get-map (entry_as_peers th run.net) run.journal m e.0 e.1;
        server = ap (λ z. z.server) e.2 ∙ y.server;
        routes = work-off (h th laws run m) (h' th laws run m) (moments th laws run m).network u e.0.act t p.publisher p.ordinal p.notice near (ap (λ z. work_at (wide th) (peers th run.net) (h' th laws run m) u z.act) e.2 ∙ y.routes);
      }

  -- what an entry sends to a neighbour passes what is installed of it among the peers
  installed-hits : (m t i u : ℕ) (p : Publication th) (x : RoutedHere m t i p) → Has u x.entry.outs → (u ≡ i → ⊥) × (some_pass ((wide th).matches (Some p.notice)) (((h' th laws run m).state t).installed u) ≡ true)
  installed-hits m t i u p x sent =
      let y : RoutedThere m t i p = routed-at th laws run m t i p.publisher p.ordinal p.notice x in
      let w = pass-works (wide th) (peers th run.net) (journal' th laws run) (h' th laws run) (ph' th laws run) peer-history m t i p.publisher p.ordinal (Some p.notice) y in
      let g = given-has (wide th) (peers th run.net) (effect (wide th) (peers th run.net) t w.works.from (Routes i p.publisher p.ordinal (Some p.notice))).outs u ((peers th run.net).links t)
      (subst (Has u) (pass-outs (wide th) (peers th run.net) (journal' th laws run) (h' th laws run) (ph' th laws run) peer-history m t i p.publisher p.ordinal (Some p.notice) y.entry w) sent) in
      let s = sends-only (wide th) (peers th run.net) t w.works.from i p.publisher p.ordinal (Some p.notice) u g.1 in (
        s.0,
        subst (λ z. some_pass ((wide th).matches (Some p.notice)) z ≡ true)
            (pass-installed (wide th) (peers th run.net) (journal' th laws run) (h' th laws run) (ph' th laws run) peer-history m t i p.publisher p.ordinal (Some p.notice) y.entry w u) s.1,
      )

  received-there : (last t u : ℕ) (p : Publication th) → IsReceivedOn th run.net (states th run) last p.publisher p.ordinal p.notice t u
      → (k : ℕ) (x : Stamped (Message (wide th))) → slice_get ((h' th laws run last).put t u) k ≡ Some x → x.message ≡ noticed (wide th) p.publisher p.ordinal (Some p.notice) → k < (h' th laws run last).taken t u
  received-there last t u p received k x e f =
      let a = (moments th laws run last).network in
      let y = map-get (stamped-on th laws run.net run.laws) ((h th laws run last).put t u) k x (ap (λ z. slice_get z k) (sym (a.put t u)) ∙ e) in
      subst (λ z. k < z) (sym (a.taken t u)) (received k y.0 y.1 (notice-off th y.0.message p.publisher p.ordinal p.notice (ap (λ z. z.message) y.2 ∙ f)))

  -- an inbox only grows
  inbox-grows : (a b t c : ℕ) (p : Publication th) → a ≤ b → Has c (run.net.clients t) → Has p (((h th laws run a).state t).inbox c) → Has p (((h th laws run b).state t).inbox c)
  inbox-grows a b t c p l lives has =
      has-given th laws run.net run.laws p (((h th laws run b).state t).inbox c) (subst (Has (given th p)) (inbox-same th laws run b t c lives)
      (given-rises (wide th) (peers th run.net) (journal' th laws run) (h' th laws run) (ph' th laws run) peer-history t c (given th p) a b l
      (subst (Has (given th p)) (sym (inbox-same th laws run a t c lives)) (map-has (given th) (((h th laws run a).state t).inbox c) p has))))

  abbrev routed-here : (m t i : ℕ) (p : Publication th) → RoutedHere m t i p → Routed th run
  routed-here m t i p x = record { moment = m; server = t; interface = i; publication = p; at = x }

  -- where it is settled it is sent on
  sent : (m t i u : ℕ) (path : List ℕ) (p : Publication th) (c : ℕ) (x : RoutedHere m t i p) → Has u (run.net.links t) → IsOnwardWay th run.net t u path → (u ≡ i → ⊥) → Has c (run.net.clients (end_of th run.net u path))
      → IsSettledAlong th run p c t (u ∷ path) → Has u x.entry.outs
  sent m t i u path p c x near way ne lives set = go (is_master th run.net t u) refl
    where
      clash : true ≡ false → ⊥
      clash e = cc

      down : is_master th run.net t u ≡ false → (is_master th run.net t u ≡ true) ⊎ Rattle.law_hierarchy.specs.HierarchyRun.IsKnownHere th run p c t (u ∷ path) → Has u x.entry.outs
      down e (inl f) = absurd (clash (sym f ∙ e))
      down e (inr knows) =
          let k = knows m i x in
          sent-down th laws run (routed-here m t i p x) u (record { near = near; lower = e }) ne
          (record { path = path; client = c; filter = k.filter; way = way; lives = lives; listed = k.wanted; matches = k.matches })

      go : (b : Bool) → is_master th run.net t u ≡ b → Has u x.entry.outs
      go false e = down e set.0
      go true e =
          let up : u ≡ master th run.net t = master-is th laws run.net run.laws t u e in
          subst (λ z. Has z x.entry.outs) (sym up) (goes-up th laws run (routed-here m t i p x) below (λ f. ne (up ∙ f)))
        where
          below : t ≡ top → ⊥
          below f = clash (sym e ∙ ap (λ z. is_master th run.net z u) f)

  -- and so it reaches the client
  reach : (n : ℕ) (p : Publication th) (c : ℕ) (path : List ℕ) (prior t m i : ℕ) → m < n → RoutedHere m t i p → IsOnwardWay th run.net prior t path → ((u : ℕ) (more : List ℕ) → path ≡ u ∷ more → u ≡ i → ⊥)
      → Has c (run.net.clients (end_of th run.net t path)) → IsSettledAlong th run p c t path → IsReceivedAlong th run.net (states th run) n p.publisher p.ordinal p.notice t path
      → Has p (((h th laws run n).state (end_of th run.net t path)).inbox c)
  reach n p c [] prior t m i l x way ne lives set received =
      let k = set m i x in
      let d = (in-force th laws run (routed-here m t i p x) c lives).1 (k.filter, k.wanted, k.matches) in
      inbox-grows (suc m) n t c p (omega (arith, l)) lives (subst (Has p) (sym d) (has-append-right p (((h th laws run m).state t).inbox c) (p ∷ []) (inl refl)))
  reach n p c (u ∷ path) prior t m i l x way ne lives set received =
      let g = installed-hits m t i u p x (sent m t i u path p c x way.0 way.2 (ne u path refl) lives set) in
      let L = peer-run th laws run in
      let y = moves-on (wide th) (wide-laws th laws) L.net L.laws (journal' th laws run) (h' th laws run) (ph' th laws run) peer-history L.begins.rest m i p.publisher p.ordinal (Some p.notice) t u n
      (routed-at th laws run m t i p.publisher p.ordinal p.notice x) way.0 g.0 g.1 l (received-there n t u p received.0) in
      reach n p c path t u y.0 t y.1 (routed-off y.0 u t p (run.laws.lawful.tree.both t u way.0) y.2) way.2 (turns path way.2) lives set.1 received.1
    where
      first : (a b : ℕ) (xs ys : List ℕ) → a ∷ xs ≡ b ∷ ys → a ≡ b
      first a b xs ys e = cc

      turns : (path : List ℕ) → IsOnwardWay th run.net t u path → (v : ℕ) (more : List ℕ) → path ≡ v ∷ more → v ≡ t → ⊥
      turns [] way v more e f = absurd cc
      turns (x ∷ path) way v more e f = way.1 (first x v path more e ∙ f)

  pub settled-by : (p : Publication th) (c : ℕ) (s : IsSettledOn th run p c) (n : ℕ) → IsAllReceivedBy th run n p c s → IsDeliveredOnceBy th run n p c
  settled-by p c s n a = subst (λ z. Has p (((h th laws run n).state z).inbox c) × (times_delivered th run.net p.publisher p.ordinal (((h th laws run n).state z).inbox c) ≡ 1)) (sym home) (has, single)
    where
      far : ℕ
      far = end_of th run.net (run.net.home p.publisher) s.path

      home : run.net.home c ≡ far
      home = run.laws.lawful.lives far c s.lives

      first : (a b : ℕ) (xs ys : List ℕ) → a ∷ xs ≡ b ∷ ys → a ≡ b
      first a b xs ys e = cc

      not-own : (path : List ℕ) → IsOnwardWay th run.net (run.net.home p.publisher) (run.net.home p.publisher) path → (u : ℕ) (more : List ℕ) → path ≡ u ∷ more → u ≡ 64 + p.publisher → ⊥
      not-own [] way u more e f = absurd cc
      not-own (x ∷ path) way u more e f =
          let low : x ≤ 64 = run.laws.lawful.small (run.net.home p.publisher) x way.0 in
          let some : 1 ≤ p.publisher = run.laws.lawful.counted (run.net.home p.publisher) p.publisher s.here in
          omega (arith, low, some, first x u path more e, f)

      has : Has p (((h th laws run n).state far).inbox c)
      has = reach n p c s.path (run.net.home p.publisher) (run.net.home p.publisher) s.moment (64 + p.publisher) a.published s.published s.way (not-own s.path s.way) s.lives s.settled a.received

      single : times_delivered th run.net p.publisher p.ordinal (((h th laws run n).state far).inbox c) ≡ 1
      single =
          let L = peer-run th laws run in
          let same = inbox-same th laws run n far c s.lives in
          sym (times-same th laws run.net run.laws p.publisher p.ordinal (((h th laws run n).state far).inbox c))
          ∙ (ap (times_delivered (wide th) (peers th run.net) p.publisher p.ordinal) (sym same)
          ∙ once (wide th) (wide-laws th laws) L.net L.laws (journal' th laws run) (h' th laws run) (ph' th laws run) peer-history L.begins.rest (given th p) (((h' th laws run n).state far).inbox c)
          ((orderly th laws run p.publisher n).given_up far c) (subst (Has (given th p)) (sym same) (map-has (given th) (((h th laws run n).state far).inbox c) p has)))
