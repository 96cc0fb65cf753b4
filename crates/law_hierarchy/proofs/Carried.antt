-- What is said of the peers with the listener is said of the hierarchy: moments to look back to, lists, ways, works and publications.
use Rattle.std.proofs.Common.{◌≡◌, ℕ, zero, suc, ◌+◌, ◌==◌, nat_le, Bool, true, false, cond, not, ◌&&◌, List, [], ◌∷◌, map, length, take, slice_get, Option, Some, None, refl, sym, ap, subst, ◌∙◌, ne_eqb, eq-eqb}
use Rattle.law_machine.specs.Links.{last_where}
use Rattle.base.specs.Sets.{Has}
use Rattle.base_tree.specs.Hops.{side}
use Rattle.law_machine.specs.Machine.{Act, Did, Received, Stamped}
use Rattle.law_machine.proofs.Lists.{Same, Is, Not, compare}
use Rattle.law_routing.specs.Theory.{Theory, TheoryLaws}
use Rattle.law_routing.specs.Net.{Net, Command, Subscribe, Unsubscribe, Advertise, Unadvertise, Publish, PhasedCommand}
use Rattle.law_routing.specs.Clients.{accepts, adverts_after, filters_after, ordinal}
use Rattle.law_routing.specs.Server.{Message, Subs, Advs, Noticed, Publication, ServerState, is_among}
use Rattle.law_routing.specs.Step.{Task, NextCommand, TableUpdate, Work, SetsFilters, SetsAdverts, Routes, InstallsTable, Nothing, command_work, message_work, next_work}
use Rattle.law_routing.specs.Routing.{Network}
use Rattle.law_routing.specs.Rest.{filters_of, IsOnwardWay, end_of}
use Rattle.law_routing.specs.Works.{reception_work, work_at}
use Rattle.law_routing.specs.AsOf.{calm, back, as_of, times_delivered}
use Rattle.law_routing.specs.Order.{ordinals_put, ordinals_delivered}
use Rattle.law_routing.proofs.Laws.{one-has, cond-some}
use Rattle.law_routing.proofs.Listing.{has-one}
use Rattle.law_routing.proofs.Paths.{way-by-hops}
use Rattle.law_routing.proofs.Sides.{other-side, side-here}
use Rattle.std.proofs.lemmas.Option.{same_Some}
use Rattle.law_hierarchy.specs.Masters.{top, HierarchyLaws}
use Rattle.law_hierarchy.specs.Step.{Hierarchy, as_peers}
use Rattle.law_hierarchy.specs.HierarchyRun.{HierarchyRun, states}
use Rattle.law_hierarchy.proofs.Wide.{wide, said}
use Rattle.law_hierarchy.proofs.Listener.{listener, peers, wide-command, wide-next, wide-script, wide-get, wide-list, wide-ordinal, listens, other}
use Rattle.law_hierarchy.proofs.Shadow.{sent-on, given}
use Rattle.law_hierarchy.proofs.Networks.{AlikeNets, stamped-on, phase-next}
use Rattle.law_hierarchy.proofs.Listened.{h, h', moments}
use Rattle.base.proofs.Sets.{has-map}
use Rattle.base.proofs.Lists.{get-map}
use Rattle.std.proofs.lemmas.List.{length-map}

abbrev published : (th : Theory) → th.Notice → Command th
published th n = Publish n

abbrev sets-adverts : (th : Theory) → ℕ → List th.Advert → Work th
sets-adverts th i xs = SetsAdverts i xs

abbrev sets-filters : (th : Theory) → ℕ → List th.Filter → Work th
sets-filters th i fs = SetsFilters i fs

abbrev shows-table_update : (th : Theory) → Work th
shows-table_update th = InstallsTable

abbrev route : (th : Theory) → ℕ → ℕ → ℕ → th.Notice → Work th
route th i p o n = Routes i p o n

no-route : (th : Theory) (b : Bool) (i : ℕ) (xs : List th.Advert) (j p o : ℕ) (n : th.Notice) → cond b (sets-adverts th i xs) Nothing ≡ route th j p o n → ⊥
no-route th true i xs j p o n e = cc
no-route th false i xs j p o n e = cc

module _ (th : Theory) (laws : TheoryLaws th) (net : Net th) (good : HierarchyLaws th net) where
  -- a way does not come back to where it began
  pub way-side : (before t u : ℕ) (path : List ℕ) → IsOnwardWay th net before t (u ∷ path) → Has (end_of th net u path) net.servers → side net.hop t u (end_of th net u path) ≡ true
  way-side before t u [] way here = other-side net.servers net.links net.hop good.lawful.tree u t u (good.lawful.tree.both t u way.0) here (side-here net.hop u t)
  way-side before t u (v ∷ path) way here =
      other-side net.servers net.links net.hop good.lawful.tree u t (end_of th net v path) (good.lawful.tree.both t u way.0) here
      (rw (ne_eqb (net.hop u (end_of th net v path)) t (λ e. way.2.1 (sym (way-by-hops th laws net good.lawful t u v path way.2 here) ∙ e))) (flat (not (end_of th net v path == u))))
    where
      flat : (b : Bool) → b && false ≡ false
      flat true = refl
      flat false = refl

  -- ways are the same
  pub way-on : (before t : ℕ) (path : List ℕ) → IsOnwardWay th net before t path → IsOnwardWay (wide th) (peers th net) before t path
  way-on before t [] way = tt
  way-on before t (u ∷ path) way = (way.0, way.1, way-on t u path way.2)

  pub way-off : (before t : ℕ) (path : List ℕ) → IsOnwardWay (wide th) (peers th net) before t path → IsOnwardWay th net before t path
  way-off before t [] way = tt
  way-off before t (u ∷ path) way = (way.0, way.1, way-off t u path way.2)

  pub end-same : (t : ℕ) (path : List ℕ) → end_of (wide th) (peers th net) t path ≡ end_of th net t path
  end-same t [] = refl
  end-same t (u ∷ path) = end-same u path

  -- publishes
  publish-off : (ads : List th.Advert) (k : Command th) (n : th.Notice) → wide-command th net ads k ≡ Publish (Some n) → (k ≡ Publish n) × (accepts th net ads n ≡ true)
  publish-off ads (Subscribe f) n e = absurd cc
  publish-off ads (Unsubscribe f) n e = absurd cc
  publish-off ads (Advertise a) n e = absurd cc
  publish-off ads (Unadvertise a) n e = absurd cc
  publish-off ads (Publish m) n e = go (accepts th net ads m) refl (inner e)
    where
      inner : {a b : Option th.Notice} → published (wide th) a ≡ published (wide th) b → a ≡ b
      inner e = cc

      go : (b : Bool) → accepts th net ads m ≡ b → cond b (Some m) None ≡ Some n → (published th m ≡ published th n) × (accepts th net ads n ≡ true)
      go true f q = (ap (published th) (same_Some _ _ q), subst (λ z. accepts th net ads z ≡ true) (same_Some _ _ q) f)
      go false f q = absurd cc

  -- a publish of a notice in the wider script is an accepted one
  pub record Accepts (q index : ℕ) (command : PhasedCommand (wide th)) (n : th.Notice) : Type 0 where
    pub own : (q == listener th net) ≡ false
    pub next : PhasedCommand th
    pub at : slice_get (net.script q) index ≡ Some next
    pub publishes : next.command ≡ Publish n
    pub allowed : accepts th net (adverts_after th [] (take index (net.script q))) n ≡ true
    pub phase : command.phase ≡ suc next.phase

  pub accepts-off : (q index : ℕ) (command : PhasedCommand (wide th)) (n : th.Notice) → slice_get ((peers th net).script q) index ≡ Some command → command.command ≡ Publish (Some n) → Accepts q index command n
  accepts-off q index command n at publishes = go (compare q (listener th net))
    where
      listened : (j : ℕ) → slice_get (listens th net) j ≡ Some command → ⊥
      listened zero e = apart (ap (λ (z : PhasedCommand (wide th)). z.command) (same_Some _ _ e) ∙ publishes)
        where
          apart : {n : Option th.Notice} → Subscribe None ≡ published (wide th) n → ⊥
          apart e = cc
      listened (suc zero) e = absurd cc
      listened (suc (suc j)) e = absurd cc

      go : Same q (listener th net) → Accepts q index command n
      go (Is e v) = absurd (listened index (sym (ap (λ z. slice_get (cond z (listens th net) (wide-script th net [] (net.script q))) index) v) ∙ at))
      go (Not m v) = by (slice_get (net.script q) index) refl (sym (wide-get th net [] (net.script q) index) ∙ (sym (ap (λ z. slice_get (cond z (listens th net) (wide-script th net [] (net.script q))) index) v) ∙ at))
        where
          by : (o : Option (PhasedCommand th)) → slice_get (net.script q) index ≡ o → wide-next th net (adverts_after th [] (take index (net.script q))) o ≡ Some command → Accepts q index command n
          by None f g = absurd cc
          by (Some x) f g =
              let p = publish-off (adverts_after th [] (take index (net.script q))) x.command n (ap (λ (z : PhasedCommand (wide th)). z.command) (same_Some _ _ g) ∙ publishes) in
              record { own = v; next = x; at = f; publishes = p.0; allowed = p.1; phase = ap (λ (z : PhasedCommand (wide th)). z.phase) (sym (same_Some _ _ g)) }

  -- the ordinals of what is put and delivered
  pub put-same : (q : ℕ) (xs : List (Stamped (Message th))) → ordinals_put (wide th) (peers th net) q (map (stamped-on th laws net good) xs) ≡ ordinals_put th net q xs
  put-same q [] = refl
  put-same q (x ∷ xs) = go x.message (put-same q xs)
    where
      go : (m : Message th) → ordinals_put (wide th) (peers th net) q (map (stamped-on th laws net good) xs) ≡ ordinals_put th net q xs
          → Rattle.law_routing.specs.Order.add_ordinal (wide th) (peers th net) q (sent-on th m) (ordinals_put (wide th) (peers th net) q (map (stamped-on th laws net good) xs)) ≡ Rattle.law_routing.specs.Order.add_ordinal th net q m (ordinals_put th net q xs)
      go (Subs out add) ih = ih
      go (Advs out add) ih = ih
      go (Noticed p o n) ih = ap (λ z. cond (q == p) (o ∷ z) z) ih

  pub delivered-same : (q : ℕ) (xs : List (Publication th)) → ordinals_delivered (wide th) (peers th net) q (map (given th) xs) ≡ ordinals_delivered th net q xs
  delivered-same q [] = refl
  delivered-same q (x ∷ xs) = ap (λ z. cond (q == x.publisher) (x.ordinal ∷ z) z) (delivered-same q xs)

  pub times-same : (q o : ℕ) (xs : List (Publication th)) → times_delivered (wide th) (peers th net) q o (map (given th) xs) ≡ times_delivered th net q o xs
  times-same q o [] = refl
  times-same q o (x ∷ xs) = ap (λ z. cond ((q == x.publisher) && (o == x.ordinal)) (suc z) z) (times-same q o xs)

  given-one : (x y : Publication th) → given th x ≡ given th y → x ≡ y
  given-one x y e = λ i. record { publisher = ap (λ (z : Publication (wide th)). z.publisher) e i; ordinal = ap (λ (z : Publication (wide th)). z.ordinal) e i; notice = same_Some _ _ (ap (λ (z : Publication (wide th)). z.notice) e) i }

  pub ungiven : (xs ys : List (Publication th)) → map (given th) xs ≡ map (given th) ys → xs ≡ ys
  ungiven [] [] e = refl
  ungiven [] (y ∷ ys) e = absurd cc
  ungiven (x ∷ xs) [] e = absurd cc
  ungiven (x ∷ xs) (y ∷ ys) e = both (given-one x y (head e)) (ungiven xs ys (tail e))
    where
      head : given th x ∷ map (given th) xs ≡ given th y ∷ map (given th) ys → given th x ≡ given th y
      head e = cc

      tail : given th x ∷ map (given th) xs ≡ given th y ∷ map (given th) ys → map (given th) xs ≡ map (given th) ys
      tail e = cc

      both : x ≡ y → xs ≡ ys → x ∷ xs ≡ y ∷ ys
      both p q = λ i. p i ∷ q i

  pub has-given : (x : Publication th) (xs : List (Publication th)) → Has (given th x) (map (given th) xs) → Has x xs
  has-given x xs h = let r = has-map (given th) xs (given th x) h in subst (λ z. Has z xs) (sym (given-one x r.0 r.2)) r.1

  -- a routed notice is routed by the peer
  pub routes-on : (w : Hierarchy th net) (w' : Network (wide th) (peers th net)) → AlikeNets th laws net good w w' → (t : ℕ) (a : Act Task) (i p o : ℕ) (n : th.Notice) → work_at th net (as_peers th net w) t a ≡ Some (Routes i p o n) → work_at (wide th) (peers th net) w' t a ≡ Some (Routes i p o (Some n))
  routes-on w w' alike t (Did TableUpdate) i p o n e = absurd (go (is_among t net.servers && (w.state t).pending) e)
    where
      go : (b : Bool) → cond b (Some (shows-table_update th)) None ≡ Some (route th i p o n) → ⊥
      go true e = cc
      go false e = cc
  routes-on w w' alike t (Received u) i p o n e = go (slice_get (w.put u t) (w.taken u t)) refl e
    where
      go : (m : Option (Stamped (Message th))) → slice_get (w.put u t) (w.taken u t) ≡ m → reception_work th net t (w.state t) u m ≡ Some (Routes i p o n) → work_at (wide th) (peers th net) w' t (Received u) ≡ Some (Routes i p o (Some n))
      go None f g = absurd cc
      go (Some x) f g =
          ap (reception_work (wide th) (peers th net) t (w'.state t) u) ((λ j. slice_get (alike.put u t j) (alike.taken u t j)) ∙ get-map (stamped-on th laws net good) (w.put u t) (w.taken u t) x f)
          ∙ by x.message (cond-some (is_among t net.servers) (is_among u (net.links t)) (Some (message_work th net (w.state t) u x.message)) (Routes i p o n) g)
        where
          by : (m : Message th) → (is_among t net.servers ≡ true) × (is_among u (net.links t) ≡ true) × (Some (message_work th net (w.state t) u m) ≡ Some (Routes i p o n))
              → cond (is_among t net.servers && is_among u (net.links t)) (Some (message_work (wide th) (peers th net) (w'.state t) u (sent-on th m))) None ≡ Some (Routes i p o (Some n))
          by (Subs out add) c = absurd (no c.2)
            where
              no : {i : ℕ} {fs : List th.Filter} {j p o : ℕ} {n : th.Notice} → Some (sets-filters th i fs) ≡ Some (route th j p o n) → ⊥
              no e = cc
          by (Advs out add) c = absurd (no c.2)
            where
              no : {i : ℕ} {xs : List th.Advert} {j p o : ℕ} {n : th.Notice} → Some (sets-adverts th i xs) ≡ Some (route th j p o n) → ⊥
              no e = cc
          by (Noticed q k m) c = rw (c.0, c.1) (same (same_Some _ _ c.2))
            where
              same : route th u q k m ≡ route th i p o n → Some (route (wide th) u q k (Some m)) ≡ Some (route (wide th) i p o (Some n))
              same e = ap (λ z. Some (widen z)) e
                where
                  widen : Work th → Work (wide th)
                  widen (SetsFilters i fs) = Nothing
                  widen (SetsAdverts i xs) = Nothing
                  widen (Routes i p o n) = Routes i p o (Some n)
                  widen InstallsTable = Nothing
                  widen Nothing = Nothing
  routes-on w w' alike t (Did (NextCommand c)) i p o n e =
      let f = cond-some (is_among t net.servers) (is_among c (net.clients t)) (next_work th net c ((w.state t).done c) (slice_get (net.script c) ((w.state t).done c))) (Routes i p o n) e in
      go (slice_get (net.script c) ((w.state t).done c)) refl f.0 f.1 f.2
    where
      s : ServerState th
      s = w.state t

      widen : Work th → Work (wide th)
      widen (SetsFilters i fs) = Nothing
      widen (SetsAdverts i xs) = Nothing
      widen (Routes i p o n) = Routes i p o (Some n)
      widen InstallsTable = Nothing
      widen Nothing = Nothing

      go : (x : Option (PhasedCommand th)) → slice_get (net.script c) ((w.state t).done c) ≡ x → is_among t net.servers ≡ true → is_among c (net.clients t) ≡ true → next_work th net c ((w.state t).done c) x ≡ Some (Routes i p o n) → work_at (wide th) (peers th net) w' t (Did (NextCommand c)) ≡ Some (Routes i p o (Some n))
      go None f a b g = absurd cc
      go (Some x) f a b g = whole ∙ by x.command (same_Some _ _ g)
        where
          lives : Has c (net.clients t)
          lives = one-has c (net.clients t) b

          m : (c == listener th net) ≡ false
          m = other th net good t c lives

          now : (w'.state t).done c ≡ (w.state t).done c
          now = (alike.state t).done c ∙ rw m refl

          script : (peers th net).script c ≡ wide-script th net [] (net.script c)
          script = rw m refl

          among : is_among c ((peers th net).clients t) ≡ true
          among = has-one c ((peers th net).clients t) (Rattle.law_hierarchy.proofs.Listener.in-lives th net good t c lives)

          whole : work_at (wide th) (peers th net) w' t (Did (NextCommand c)) ≡ Some (command_work (wide th) (peers th net) c ((w'.state t).done c) (wide-command th net (adverts_after th [] (take ((w.state t).done c) (net.script c))) x.command))
          whole = rw (a, among, phase-next th laws net good t c (w.state t) (w'.state t) (alike.state t) m, f) refl

          by : (k : Command th) → command_work th net c ((w.state t).done c) k ≡ Routes i p o n → Some (command_work (wide th) (peers th net) c ((w'.state t).done c) (wide-command th net (adverts_after th [] (take ((w.state t).done c) (net.script c))) k)) ≡ Some (Routes i p o (Some n))
          by (Subscribe y) e = absurd cc
          by (Unsubscribe y) e = absurd cc
          by (Advertise y) e = absurd (no-route th net.adverts (64 + c) (adverts_after th [] (take (suc ((w.state t).done c)) (net.script c))) i p o n e)
          by (Unadvertise y) e = absurd (no-route th net.adverts (64 + c) (adverts_after th [] (take (suc ((w.state t).done c)) (net.script c))) i p o n e)
          by (Publish y) e = ap (λ z. Some (Routes (64 + c) c z (cond (accepts th net (adverts_after th [] (take ((w.state t).done c) (net.script c))) y) (Some y) None))) ((λ j. ordinal (wide th) (take (suc (now j)) (script j))) ∙ wide-ordinal th net (net.script c) (suc ((w.state t).done c)))
              ∙ on (accepts th net (adverts_after th [] (take ((w.state t).done c) (net.script c))) y) e
            where
              on : (b : Bool) → cond b (route th (64 + c) c (ordinal th (take (suc ((w.state t).done c)) (net.script c))) y) Nothing ≡ route th i p o n → Some (route (wide th) (64 + c) c (ordinal th (take (suc ((w.state t).done c)) (net.script c))) (cond b (Some y) None)) ≡ Some (route (wide th) i p o (Some n))
              on true e = ap (λ z. Some (widen z)) e
              on false e = absurd cc

module _ (th : Theory) (laws : TheoryLaws th) (run : HierarchyRun th) where
  -- moments to look back to
  pub calm-same : (t m : ℕ) → calm (wide th) (peers th run.net) (h' th laws run) t m ≡ calm th run.net (states th run) t m
  calm-same t m = ap (λ z. last_where z m) (λ i x. not (((moments th laws run x).network.state t).pending i))

  pub back-same : (t u m : ℕ) → back (wide th) (peers th run.net) (h' th laws run) t u m ≡ back th run.net (states th run) t u m
  back-same t u m = λ i. last_where (λ x. nat_le (long x i) ((moments th laws run m).network.taken u t i)) m
    where
      long : (x : ℕ) → length ((h' th laws run x).put u t) ≡ length ((h th laws run x).put u t)
      long x = ap length ((moments th laws run x).network.put u t) ∙ length-map ((h th laws run x).put u t) (stamped-on th laws run.net run.laws)

  pub as_of-same : (t : ℕ) (path : List ℕ) (m : ℕ) → as_of (wide th) (peers th run.net) (h' th laws run) t path m ≡ as_of th run.net (states th run) t path m
  as_of-same t [] m = refl
  as_of-same t (u ∷ path) m = ap (as_of (wide th) (peers th run.net) (h' th laws run) u path) (back-same t u m) ∙ as_of-same u path (back th run.net (states th run) t u m)

  -- the lists of clients
  pub filters-same : (c m : ℕ) → (c == listener th run.net) ≡ false → filters_of (wide th) (peers th run.net) (h' th laws run m) c ≡ said (filters_of th run.net (states th run m) c)
  filters-same c m n = (λ i. filters_after (wide th) [] (take (now i) (script i))) ∙ wide-list th run.net (run.net.script c) (((h th laws run m).state (run.net.home c)).done c)
    where
      script : (peers th run.net).script c ≡ wide-script th run.net [] (run.net.script c)
      script = rw n refl

      now : ((h' th laws run m).state ((peers th run.net).home c)).done c ≡ ((h th laws run m).state (run.net.home c)).done c
      now = ap (λ z. ((h' th laws run m).state (cond z top (run.net.home c))).done c) n ∙ (((moments th laws run m).network.state (run.net.home c)).done c ∙ rw n refl)

  pub listener-filters : (m : ℕ) → filters_of (wide th) (peers th run.net) (h' th laws run m) (listener th run.net) ≡ None ∷ []
  listener-filters m = λ i. filters_after (wide th) [] (take (now i) (script i))
    where
      v : (listener th run.net == listener th run.net) ≡ true
      v = eq-eqb (listener th run.net) (listener th run.net) refl

      script : (peers th run.net).script (listener th run.net) ≡ listens th run.net
      script = rw v refl

      now : ((h' th laws run m).state ((peers th run.net).home (listener th run.net))).done (listener th run.net) ≡ 1
      now = ((moments th laws run m).network.state ((peers th run.net).home (listener th run.net))).done (listener th run.net) ∙ rw v refl
