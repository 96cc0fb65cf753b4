-- The laws of every run of a hierarchy, from those of the peers.
use Rattle.std.proofs.Common.{◌≡◌, arith, ℕ, zero, suc, ◌+◌, Bool, true, false, cond, ◌&&◌, List, [], ◌∷◌, ◌⊎◌, inl, inr, map, length, slice_get, Option, Some, None, refl, sym, ap, subst, ◌∙◌}
use Rattle.law_machine.proofs.Links.{back-sent}
use Rattle.base.specs.Sets.{Has, union}
use Rattle.law_machine.specs.Machine.{Stamped, Act, Did, Received}
use Rattle.law_machine.proofs.History.{run-ends, is-link, link, applied}
use Rattle.law_machine.specs.Runs.{IsWithinPuts}
use Rattle.law_machine.specs.Content.{IsHeldSent}
use Rattle.law_machine.proofs.Kept.{kept-run}
use Rattle.law_machine.proofs.Lists.{Same, Is, Not, compare}
use Rattle.law_routing.specs.Theory.{Theory, TheoryLaws}
use Rattle.law_routing.specs.Net.{Net}
use Rattle.law_routing.specs.Server.{Message, is_among, interfaces, union_except}
use Rattle.law_routing.specs.Step.{Task, Work, Routes, InstallsTable}
use Rattle.law_routing.specs.Routing.{NetEntry, empty_server}
use Rattle.law_routing.specs.Rest.{filters_of, IsOnwardWay, end_of}
use Rattle.law_routing.specs.Works.{work_at}
use Rattle.law_routing.specs.AsOf.{calm, back, as_of, IsRoutedAt}
use Rattle.law_routing.specs.LegalRun.{Routed as PeerRouted, IsWanted as IsPeerWanted}
use Rattle.law_routing.proofs.Laws.{one-has}
use Rattle.law_routing.proofs.Paths.{path-to, way-by-hops}
use Rattle.law_routing.proofs.Started.{installed-run, pruned-run, sent-run}
use Rattle.law_hierarchy.specs.Masters.{top, master, is_master, union_all, IsLower, up}
use Rattle.law_hierarchy.specs.Step.{hierarchy_machine, opening, as_peers, entry_as_peers}
use Rattle.law_hierarchy.specs.Content.{sent_up, filter_content}
use Rattle.law_hierarchy.specs.HierarchyRun.{HierarchyRun, states, entries, last_state, Routed, IsSentTo, IsWanted}
use Rattle.law_hierarchy.proofs.Wide.{wide, wide-laws, said, unsaid, said-has}
use Rattle.law_hierarchy.proofs.Listener.{listener, peers, other, lives-in, in-lives}
use Rattle.law_hierarchy.proofs.Shadow.{given, widened, link-above, client-above, is-top, master-near}
use Rattle.law_hierarchy.proofs.Networks.{AlikeNets, entry-on, masters-apart}
use Rattle.law_hierarchy.proofs.Listened.{peer-run, h, h', ph, own-history, moments, home-in}
use Rattle.law_hierarchy.proofs.Carried.{way-side, way-on, way-off, end-same, routes-on, calm-same, as_of-same, filters-same, listener-filters}
use Rattle.law_hierarchy.proofs.Spread.{content-laws, one}
use Rattle.base.proofs.Sets.{has-map, has-append}
use Rattle.base.proofs.Lists.{get-map, map-get}
use Rattle.law_routing.proofs.Rest.{gather-none}

all-held : {T : Type 0} (before : T → T → Bool) (sets : ℕ → List T) (but : ℕ) → sets but ≡ [] → (is : List ℕ) → union_except before sets but is ≡ union_all before sets is
all-held before sets but e [] = refl
all-held before sets but e (i ∷ is) = go (compare i but) (all-held before sets but e is)
  where
    go : Same i but → union_except before sets but is ≡ union_all before sets is → union_except before sets but (i ∷ is) ≡ union_all before sets (i ∷ is)
    go (Is q v) ih = rw v (ih ∙ sym (ap (λ z. union before z (union_all before sets is)) (ap sets q ∙ e)))
    go (Not n v) ih = rw v (ap (union before (sets i)) ih)

module _ (th : Theory) (laws : TheoryLaws th) (run : HierarchyRun th) where
  abbrev net : Net th
  net = run.net

  abbrev alike : (n : ℕ) → AlikeNets th laws run.net run.laws (h th laws run n) (h' th laws run n)
  alike n = (moments th laws run n).network

  -- a run's last moment is its end
  pub last-moment : states th run (length run.journal) ≡ last_state th run
  last-moment = ap (λ z. as_peers th run.net z.network) (run-ends (hierarchy_machine th run.net) (opening th run.net) 0 run.journal run.end run.last run.legal)

  -- at the opening nothing is sent
  nothing-sent : (u t : ℕ) → sent_up th run.net (empty_server th run.net) u t ≡ []
  nothing-sent u t = go (is_master th run.net u t)
    where
      go : (b : Bool) → cond b (up th run.net (empty_server th run.net) u) [] ≡ []
      go true = ap (Rattle.base.specs.Sets.roots th.covers th.before) (gather-none th.before (master th run.net u) (interfaces th run.net u))
      go false = refl

  -- what is held of a neighbour is what that had sent up
  pub held-up : (u t m : ℕ) → Has t (run.net.links u) → ((states th run m).state t).subs u ≡ sent_up th run.net ((states th run (back th run.net (states th run) t u m)).state u) u t
  held-up u t m near =
      back-sent (applied (hierarchy_machine th run.net) (filter_content th run.net) (content-laws th laws run.net run.laws.lawful) (one th laws run.net) run.laws.lawful.tree.apart run.laws.lawful.tree.both run.journal (h th laws run) (ph th laws run) (own-history th laws run) u t near)
      (link (hierarchy_machine th run.net) (filter_content th run.net) (content-laws th laws run.net run.laws.lawful) (one th laws run.net) run.laws.lawful.tree.apart run.laws.lawful.tree.both run.journal (h th laws run) (ph th laws run) (own-history th laws run) u t near)
      (is-link (hierarchy_machine th run.net) (filter_content th run.net) (content-laws th laws run.net run.laws.lawful) (one th laws run.net) run.laws.lawful.tree.apart run.laws.lawful.tree.both run.journal (h th laws run) (ph th laws run) (own-history th laws run) u t near refl none) m
    where
      none : [] ≡ sent_up th run.net ((h th laws run 0).state u) u t
      none = sym (nothing-sent u t)

  -- with what is on its way it is what is sent up
  pub kept : IsWithinPuts (hierarchy_machine th run.net) run.end × IsHeldSent (hierarchy_machine th run.net) (filter_content th run.net) run.end
  kept = kept-run (hierarchy_machine th run.net) (filter_content th run.net) (content-laws th laws run.net run.laws.lawful) run.laws.lawful.tree.apart run.laws.lawful.tree.both (opening th run.net) 0 run.journal run.end run.last run.legal (λ a b. omega arith) (λ a b near. sym (nothing-sent a b))

  pub held-below : (u t m : ℕ) → Has t (run.net.links u) → is_master th run.net u t ≡ true → ((states th run m).state t).subs u ≡ up th run.net ((states th run (back th run.net (states th run) t u m)).state u) u
  held-below u t m near e = held-up u t m near ∙ ap (λ z. cond z (up th run.net ((states th run (back th run.net (states th run) t u m)).state u) u) []) e

  pub held-above : (t u m : ℕ) → Has u (run.net.links t) → is_master th run.net t u ≡ true → ((states th run m).state t).subs u ≡ []
  held-above t u m near e = held-up u t m (run.laws.lawful.tree.both t u near) ∙ ap (λ z. cond z (up th run.net ((states th run (back th run.net (states th run) t u m)).state u) u) []) (masters-apart th laws run.net run.laws t u near e)

  pub held-lower : (t u m : ℕ) → IsLower th run.net t u → ((states th run m).state t).subs u ≡ up th run.net ((states th run (back th run.net (states th run) t u m)).state u) u
  held-lower t u m low = held-below u t m (run.laws.lawful.tree.both t u low.near) (Rattle.law_hierarchy.proofs.Listened.one-master th laws run.net run.laws t u low.near low.lower)

  pub up-all : (t m : ℕ) → Has t run.net.servers → (t ≡ top → ⊥) → up th run.net ((states th run m).state t) t ≡ Rattle.base.specs.Sets.roots th.covers th.before (union_all th.before ((states th run m).state t).subs (interfaces th run.net t))
  up-all t m here n = ap (Rattle.base.specs.Sets.roots th.covers th.before) (all-held th.before ((states th run m).state t).subs (master th run.net t) (held-above t (master th run.net t) m (master-near th laws run.net run.laws t here n) (is-top th laws run.net run.laws t n)) (interfaces th run.net t))

  -- what is installed of a lower neighbour or a client
  pub installed-then : (t m i : ℕ) → Has i (interfaces th run.net t) → is_master th run.net t i ≡ false → ((states th run m).state t).installed i ≡ ((states th run (calm th run.net (states th run) t m)).state t).subs i
  installed-then t m i port low =
      unsaid (((states th run m).state t).installed i) (((states th run (calm th run.net (states th run) t m)).state t).subs i)
      (sym (plain (((states th run m).state t).installed i)) ∙ (sym (((alike m).state t).installed i) ∙ (installed-run (wide th) (wide-laws th laws) (peer-run th laws run) t m i
      ∙ (ap (λ z. ((h' th laws run z).state t).subs i) (calm-same th laws run t m) ∙ (((alike (calm th run.net (states th run) t m)).state t).subs i ∙ plain (((states th run (calm th run.net (states th run) t m)).state t).subs i))))))
    where
      not-above : Rattle.law_hierarchy.proofs.Shadow.above th laws run.net run.laws t i ≡ false
      not-above = elim (has-append i (run.net.links t) (map (λ c. 64 + c) (run.net.clients t)) port) [
        | inl near ↦ link-above th laws run.net run.laws t i near ∙ low
        | inr k ↦ of-client (has-map (λ c. 64 + c) (run.net.clients t) i k)
      ]
        where
          of-client : (c : ℕ) × Has c (run.net.clients t) × (i ≡ 64 + c) → Rattle.law_hierarchy.proofs.Shadow.above th laws run.net run.laws t i ≡ false
          of-client (c, lives, e) = ap (Rattle.law_hierarchy.proofs.Shadow.above th laws run.net run.laws t) e ∙ client-above th laws run.net run.laws t c (home-in th laws run.net run.laws t c lives) lives

      plain : (fs : List th.Filter) → widened th laws run.net run.laws t i fs ≡ said fs
      plain fs = ap (λ z. cond z (None ∷ []) (said fs)) not-above

  -- an entry that routes a publication, and the peer's
  abbrev pub routed-at : (m t i p o : ℕ) (n : th.Notice) → IsRoutedAt th run.net (states th run) (entries th run) m t i p o n → IsRoutedAt (wide th) (peers th run.net) (h' th laws run) (peer-run th laws run).journal m t i p o (Some n)
  routed-at m t i p o n x =
      let e = map-get (entry_as_peers th run.net) run.journal m x.entry x.at in
      record {
        entry = record { stamp = x.entry.stamp; server = x.entry.server; act = x.entry.act; outs = x.entry.outs };
        at = get-map (entry-on th laws run.net run.laws) run.journal m e.0 e.1 ∙ ap (λ (z : NetEntry th run.net). Some (record { stamp = z.stamp; server = z.server; act = z.act; outs = z.outs })) e.2;
        server = x.server;
        routes = routes-on th laws run.net run.laws (h th laws run m) (h' th laws run m) (alike m) t x.entry.act i p o n x.routes;
      }

  abbrev pub routed-peer : Routed th run → PeerRouted (wide th) (peer-run th laws run)
  routed-peer r = record { moment = r.moment; server = r.server; interface = r.interface; publication = given th r.publication; at = routed-at r.moment r.server r.interface r.publication.publisher r.publication.ordinal r.publication.notice r.at }

  wanted-peer : (r : Routed th run) (u : ℕ) → IsWanted th run r u → IsPeerWanted (wide th) (peer-run th laws run) (routed-peer r) u
  wanted-peer r u w = record {
    path = w.path;
    client = w.client;
    filter = Some w.filter;
    way = way-on th laws run.net run.laws r.server u w.path w.way;
    lives = subst (λ z. Has w.client ((peers th run.net).clients z)) (sym (end-same th laws run.net run.laws u w.path)) (in-lives th run.net run.laws (end_of th run.net u w.path) w.client w.lives);
    listed = subst (λ z. Has (Some w.filter) z) (sym (moment ∙ filters-same th laws run w.client (as_of th run.net (states th run) r.server (u ∷ w.path) (calm th run.net (states th run) r.server r.moment)) (other th run.net run.laws (end_of th run.net u w.path) w.client w.lives))) (said-has w.filter (filters_of th run.net (states th run (as_of th run.net (states th run) r.server (u ∷ w.path) (calm th run.net (states th run) r.server r.moment))) w.client) w.listed);
    matches = w.matches;
  }
    where
      moment : filters_of (wide th) (peers th run.net) (h' th laws run (as_of (wide th) (peers th run.net) (h' th laws run) r.server (u ∷ w.path) (calm (wide th) (peers th run.net) (h' th laws run) r.server r.moment))) w.client
          ≡ filters_of (wide th) (peers th run.net) (h' th laws run (as_of th run.net (states th run) r.server (u ∷ w.path) (calm th run.net (states th run) r.server r.moment))) w.client
      moment = ap (λ z. filters_of (wide th) (peers th run.net) (h' th laws run z) w.client) (ap (as_of (wide th) (peers th run.net) (h' th laws run) r.server (u ∷ w.path)) (calm-same th laws run r.server r.moment) ∙ as_of-same th laws run r.server (u ∷ w.path) (calm th run.net (states th run) r.server r.moment))

  -- a notice goes down where it is wanted
  pub sent-down : (r : Routed th run) (u : ℕ) → IsLower th run.net r.server u → (u ≡ r.interface → ⊥) → IsWanted th run r u → IsSentTo th run r u
  sent-down r u low n w = sent-run (wide th) (wide-laws th laws) (peer-run th laws run) refl (routed-peer r) u low.near n (wanted-peer r u w)

  -- the way up
  way-up : (t : ℕ) → Has t run.net.servers → (t ≡ top → ⊥) → (path : List ℕ) × IsOnwardWay th run.net t (master th run.net t) path × (end_of th run.net (master th run.net t) path ≡ top)
  way-up t here n = let p = path-to th laws run.net run.laws.lawful t top here run.laws.topped in go p.path p.way p.end
    where
      go : (path : List ℕ) → IsOnwardWay th run.net t t path → end_of th run.net t path ≡ top → (path : List ℕ) × IsOnwardWay th run.net t (master th run.net t) path × (end_of th run.net (master th run.net t) path ≡ top)
      go [] way e = absurd (n e)
      go (u ∷ path) way e =
          let up-is : master th run.net t ≡ u = ap (run.net.hop t) (sym e) ∙ way-by-hops th laws run.net run.laws.lawful t t u path way (subst (λ z. Has z run.net.servers) (sym e) run.laws.topped) in
          (path, subst (λ z. IsOnwardWay th run.net t z path) (sym up-is) way.2, subst (λ z. end_of th run.net z path ≡ top) (sym up-is) e)

  -- and always up
  pub goes-up : (r : Routed th run) → (r.server ≡ top → ⊥) → (master th run.net r.server ≡ r.interface → ⊥) → IsSentTo th run r (master th run.net r.server)
  goes-up r n other-way = sent-run (wide th) (wide-laws th laws) (peer-run th laws run) refl (routed-peer r) (master th run.net r.server) (master-near th laws run.net run.laws r.server here n) other-way wanted
    where
      here : Has r.server run.net.servers
      here = go r.at.entry.act r.at.routes
        where
          within : (b : Bool) (k : Option (Work th)) (x : Work th) → cond (is_among r.server run.net.servers && b) k None ≡ Some x → Has r.server run.net.servers
          within b k x e = one-has r.server run.net.servers (Rattle.law_routing.proofs.Laws.cond-some (is_among r.server run.net.servers) b k x e).0

          go : (a : Act Task) → work_at th run.net (states th run r.moment) r.server a ≡ Some (Routes r.interface r.publication.publisher r.publication.ordinal r.publication.notice) → Has r.server run.net.servers
          go (Did (Rattle.law_routing.specs.Step.NextCommand c)) e = within (is_among c (run.net.clients r.server)) (Rattle.law_routing.specs.Step.next_work th run.net c (((states th run r.moment).state r.server).done c) (slice_get (run.net.script c) (((states th run r.moment).state r.server).done c))) (Routes r.interface r.publication.publisher r.publication.ordinal r.publication.notice) e
          go (Did Rattle.law_routing.specs.Step.TableUpdate) e = within ((states th run r.moment).state r.server).pending (Some InstallsTable) (Routes r.interface r.publication.publisher r.publication.ordinal r.publication.notice) e
          go (Received u) e = reception (slice_get ((states th run r.moment).put u r.server) ((states th run r.moment).taken u r.server)) e
            where
              reception : (o : Option (Stamped (Message th))) → Rattle.law_routing.specs.Works.reception_work th run.net r.server ((states th run r.moment).state r.server) u o ≡ Some (Routes r.interface r.publication.publisher r.publication.ordinal r.publication.notice) → Has r.server run.net.servers
              reception None e = absurd cc
              reception (Some x) e = within (is_among u (run.net.links r.server)) (Some (Rattle.law_routing.specs.Step.message_work th run.net ((states th run r.moment).state r.server) u x.message)) (Routes r.interface r.publication.publisher r.publication.ordinal r.publication.notice) e

      way : (path : List ℕ) × IsOnwardWay th run.net r.server (master th run.net r.server) path × (end_of th run.net (master th run.net r.server) path ≡ top)
      way = way-up r.server here n

      wanted : IsPeerWanted (wide th) (peer-run th laws run) (routed-peer r) (master th run.net r.server)
      wanted = record {
        path = way.0;
        client = listener th run.net;
        filter = None;
        way = way-on th laws run.net run.laws r.server (master th run.net r.server) way.0 way.1;
        lives = subst (λ z. Has (listener th run.net) ((peers th run.net).clients z)) (sym (end-same th laws run.net run.laws (master th run.net r.server) way.0 ∙ way.2)) (inl refl);
        listed = subst (λ (z : List (Option th.Filter)). Has None z) (sym (listener-filters th laws run (as_of (wide th) (peers th run.net) (h' th laws run) r.server (master th run.net r.server ∷ way.0) (calm (wide th) (peers th run.net) (h' th laws run) r.server r.moment)))) one-none;
        matches = refl;
      }
        where
          one-none : Has {T = Option th.Filter} None (None ∷ [])
          one-none = inl refl

  -- and down only where it is wanted
  pub pruned : (r : Routed th run) (u : ℕ) → IsLower th run.net r.server u → IsSentTo th run r u → IsWanted th run r u
  pruned r u low sends = go (lives-in th run.net run.laws (end_of (wide th) (peers th run.net) u w.path) w.client w.lives)
    where
      w : IsPeerWanted (wide th) (peer-run th laws run) (routed-peer r) u
      w = pruned-run (wide th) (wide-laws th laws) (peer-run th laws run) (routed-peer r) u sends

      way : IsOnwardWay th run.net r.server u w.path
      way = way-off th laws run.net run.laws r.server u w.path w.way

      clash : true ≡ false → ⊥
      clash e = cc

      at-top : end_of th run.net u w.path ≡ top → ⊥
      at-top e =
          let whole : IsOnwardWay th run.net r.server r.server (u ∷ w.path) = (low.near, (λ q. run.laws.lawful.tree.apart r.server (subst (λ z. Has z (run.net.links r.server)) q low.near)), way) in
          let beyond = way-side th laws run.net run.laws r.server r.server u w.path whole (subst (λ z. Has z run.net.servers) (sym e) run.laws.topped) in
          clash (sym (subst (λ z. Rattle.base_tree.specs.Hops.side run.net.hop r.server u z ≡ true) e beyond) ∙ (Rattle.law_hierarchy.proofs.Listened.side-master th laws run.net run.laws r.server u ∙ low.lower))

      listed : Has w.filter (filters_of (wide th) (peers th run.net) (h' th laws run (as_of th run.net (states th run) r.server (u ∷ w.path) (calm th run.net (states th run) r.server r.moment))) w.client)
      listed = subst (λ z. Has w.filter (filters_of (wide th) (peers th run.net) (h' th laws run z) w.client)) (ap (as_of (wide th) (peers th run.net) (h' th laws run) r.server (u ∷ w.path)) (calm-same th laws run r.server r.moment) ∙ as_of-same th laws run r.server (u ∷ w.path) (calm th run.net (states th run) r.server r.moment)) w.listed

      go : Has w.client (run.net.clients (end_of (wide th) (peers th run.net) u w.path)) ⊎ ((end_of (wide th) (peers th run.net) u w.path ≡ top) × (w.client ≡ listener th run.net)) → IsWanted th run r u
      go (inr e) = absurd (at-top (sym (end-same th laws run.net run.laws u w.path) ∙ e.0))
      go (inl lives) =
          let home : Has w.client (run.net.clients (end_of th run.net u w.path)) = subst (λ z. Has w.client (run.net.clients z)) (end-same th laws run.net run.laws u w.path) lives in
          let m = as_of th run.net (states th run) r.server (u ∷ w.path) (calm th run.net (states th run) r.server r.moment) in
          let f = has-map Some (filters_of th run.net (states th run m) w.client) w.filter (subst (λ z. Has w.filter z) (filters-same th laws run w.client m (other th run.net run.laws (end_of th run.net u w.path) w.client home)) listed) in
          record { path = w.path; client = w.client; filter = f.0; way = way; lives = home; listed = f.1; matches = subst (λ z. (wide th).matches (Some r.publication.notice) z ≡ true) f.2 w.matches }
