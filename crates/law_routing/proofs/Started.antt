-- What holds at a start, and along a run from it.
use Rattle.std.proofs.Common.{◌≡◌, ℕ, zero, suc, ◌+◌, ◌≤◌, false, ◌↔◌, List, [], ◌∷◌, inl, inr, length, take, refl, sym, ap, subst, arith}
use Rattle.std.proofs.lemmas.Option.{slice_get_within}
use Rattle.base.specs.Sets.{Has}
use Rattle.base_tree.specs.Hops.{side_size}
use Rattle.law_machine.specs.Machine.{Stamped}
use Rattle.law_machine.specs.Runs.{IsWithinPuts}
use Rattle.law_machine.specs.History.{IsHistory}
use Rattle.law_machine.proofs.History.{run-history, run-ends}
use Rattle.law_machine.proofs.Lists.{Same, Is, Not, compare}
use Rattle.law_routing.specs.Theory.{Theory, TheoryLaws}
use Rattle.law_routing.specs.Net.{Net, NetLaws}
use Rattle.law_routing.specs.Clients.{ordinal, commands_below}
use Rattle.law_routing.specs.Server.{Message, Publication, sent, sent_adverts}
use Rattle.law_routing.specs.Routing.{routing_machine, Network, NetEntry, opening}
use Rattle.law_routing.specs.Rest.{IsOnwardWay, end_of, IsAtRest}
use Rattle.law_routing.specs.AsOf.{calm, back, times_delivered}
use Rattle.law_routing.specs.Order.{IsStrictlyRising, ordinals_put, ordinals_delivered, IsOrderly, IsAccepted, IsAuthentic, ordinals_routed}
use Rattle.law_routing.specs.Start.{IsStart}
use Rattle.law_routing.specs.LegalRun.{LegalRun, states, phases, Routed, IsSentTo, IsWanted, IsDelivered, IsInForce, IsDeliveredOnce, IsSettledTo}
use Rattle.law_routing.proofs.Scripts.{take-rises, zero-below, below-rises}
use Rattle.law_routing.proofs.Rest.{none-sent, none-sent_adverts}
use Rattle.law_routing.proofs.Along.{strict, tree, filters-back, adverts-back}
use Rattle.law_routing.proofs.Ordered.{orderly-all}
use Rattle.law_routing.proofs.Calm.{calm-since, calm-low}
use Rattle.law_routing.proofs.Accepted.{authentic-all}
use Rattle.law_routing.proofs.Passing.{pruned, wanted-sent, in-force, shown-is}
use Rattle.law_routing.proofs.Delivered.{delivered, once}

-- the ordinals of an inbox are those of its publications
module _ (th : Theory) (net : Net th) where
  abbrev OrdinalOf : ℕ → ℕ → List (Publication th) → Type 0
  OrdinalOf q o xs = (x : Publication th) × Has x xs × (x.publisher ≡ q) × (x.ordinal ≡ o)

  ordinal-of : (q o : ℕ) (xs : List (Publication th)) → Has o (ordinals_delivered th net q xs) → OrdinalOf q o xs
  ordinal-of q o [] h = absurd h
  ordinal-of q o (x ∷ xs) h = go (compare q x.publisher) h (ordinal-of q o xs)
    where
      more : OrdinalOf q o xs → OrdinalOf q o (x ∷ xs)
      more r = (r.0, inr r.1, r.2, r.3)

      go : Same q x.publisher → Has o (ordinals_delivered th net q (x ∷ xs)) → (Has o (ordinals_delivered th net q xs) → OrdinalOf q o xs) → OrdinalOf q o (x ∷ xs)
      go (Is p v) h ih = by (rw v at h) ih
        where
          by : Has o (x.ordinal ∷ ordinals_delivered th net q xs) → (Has o (ordinals_delivered th net q xs) → OrdinalOf q o xs) → OrdinalOf q o (x ∷ xs)
          by (inl e) ih = (x, inl refl, sym p, sym e)
          by (inr k) ih = more (ih k)
      go (Not n v) h ih = more (ih (rw v at h))

  pub orderly-start : (w : Network th net) (first q : ℕ) → IsStart th net w first → IsOrderly th net q (ordinal th (take ((w.state (net.home q)).done q) (net.script q))) w (λ t. [])
  orderly-start w first q start = record {
    routed_up = λ t. tt;
    put_up = λ a b. subst (λ z. IsStrictlyRising (ordinals_put th net q z)) (sym (start.fresh a b)) tt;
    put_known = λ a b o h. absurd (subst (λ z. Has o (ordinals_put th net q z)) (start.fresh a b) h);
    given_up = λ t c. start.rising q t c;
    given_known = λ t c o h. inr (early t c o (ordinal-of q o ((w.state t).inbox c) h));
    later = λ t o h. absurd h;
    since = omega arith;
    here = λ o h. absurd h;
    there = λ t u near beyond. sym (none (w.taken u t) (w.put u t) (start.fresh u t));
    away = λ a b near beyond. ap (ordinals_put th net q) (start.fresh a b);
  }
    where
      early : (t c o : ℕ) → OrdinalOf q o ((w.state t).inbox c) → o ≤ ordinal th (take ((w.state (net.home q)).done q) (net.script q))
      early t c o r = low (subst (λ z. IsAccepted th net w z r.0.ordinal r.0.notice) r.2 (start.accepted t c r.0 r.1))
        where
          low : IsAccepted th net w q r.0.ordinal r.0.notice → o ≤ ordinal th (take ((w.state (net.home q)).done q) (net.script q))
          low a = omega (arith, r.3, a.ordinal, take-rises th (net.script q) (suc a.index) ((w.state (net.home q)).done q) a.taken)

      none : (k : ℕ) (xs : List (Stamped (Message th))) → xs ≡ [] → ordinals_put th net q (take k xs) ≡ []
      none zero xs e = refl
      none (suc k) xs e = ap (λ z. ordinals_put th net q (take (suc k) z)) e

  pub authentic-start : (w : Network th net) (first : ℕ) → IsStart th net w first → IsAuthentic th net w
  authentic-start w first start = record { put = λ a b x q o n h m. absurd (subst (Has x) (start.fresh a b) h); given = start.accepted }

  pub within-start : (w : Network th net) (first : ℕ) → IsStart th net w first → IsWithinPuts (routing_machine th net) w
  within-start w first start u t = omega (arith, start.rest.empty u t)

  pub rest-opening : TheoryLaws th → NetLaws th net → IsAtRest th net (opening th net)
  rest-opening laws good = record {
    empty = λ u t. refl;
    none_pending = λ t. refl;
    installed = λ t i. refl;
    filters = λ t c h. refl;
    adverts = λ t c h o. refl;
    subs = λ u t near. sym (none-sent th laws (strict th laws net good) net good (side_size net.hop net.servers) (tree th laws net good) u t);
    advs = λ u t near. sym (none-sent_adverts th laws (strict th laws net good) net good (side_size net.hop net.servers) (tree th laws net good) u t);
  }

  -- the opening is a start
  pub opening-start : TheoryLaws th → NetLaws th net → IsStart th net (opening th net) 0
  opening-start laws good = record {
    rest = rest-opening laws good;
    fresh = λ a b. refl;
    counts = λ t c lives. sym (zero-below th (net.script c));
    clocks = λ t. omega arith;
    rising = λ q t c. tt;
    accepted = λ t c x h. absurd h;
    allowed = λ t c x lives h. absurd h;
  }

module _ (th : Theory) (laws : TheoryLaws th) (run : LegalRun th) where
  abbrev net : Net th
  net = run.net

  abbrev J : List (NetEntry th run.net)
  J = run.journal

  abbrev h : ℕ → Network th run.net
  h = states th run

  abbrev ph : ℕ → ℕ
  ph = phases th run

  pub history : IsHistory (routing_machine th run.net) run.journal (states th run) (phases th run)
  history = run-history (routing_machine th run.net) run.start run.first run.journal run.end run.last run.legal

  pub ends : states th run (length run.journal) ≡ run.end
  ends = ap (λ z. z.network) (run-ends (routing_machine th run.net) run.start run.first run.journal run.end run.last run.legal)

  pub last-phase : phases th run (length run.journal) ≡ run.last
  last-phase = ap (λ z. z.phase) (run-ends (routing_machine th run.net) run.start run.first run.journal run.end run.last run.legal)

  pub ordered-run : (q n : ℕ) → IsOrderly th run.net q (ordinal th (take ((run.start.state (run.net.home q)).done q) (run.net.script q))) (states th run n) (ordinals_routed th run.net (states th run) run.journal q n)
  ordered-run q n = orderly-all th net run.laws q (ordinal th (take ((run.start.state (run.net.home q)).done q) (run.net.script q))) J h ph history (within-start th net run.start run.first run.begins) (orderly-start th net run.start run.first q run.begins) n

  pub authentic-run : (n : ℕ) → IsAuthentic th run.net (states th run n)
  authentic-run n = authentic-all th net run.laws J h ph history (authentic-start th net run.start run.first run.begins) n

  -- what a server holds of a neighbour is what the neighbour sent at the moment to look back to
  pub held-run : (u t m : ℕ) → Has t (run.net.links u)
      → ((((h m).state t).subs u ≡ sent th run.net ((h (back th run.net h t u m)).state u) u t) × (((h m).state t).advs u ≡ sent_adverts th run.net ((h (back th run.net h t u m)).state u) u t))
  held-run u t m near = (filters-back th laws net run.laws J h ph history run.begins.rest u t m near, adverts-back th laws net run.laws J h ph history run.begins.rest u t m near)

  -- what is installed is what was held when nothing was last pending
  pub installed-run : (t m i : ℕ) → ((h m).state t).installed i ≡ ((h (calm th run.net h t m)).state t).subs i
  installed-run t m i = shown-is th net laws run.laws J h ph history run.begins.rest t m i

  pub calm-now : (t m : ℕ) → ((h m).state t).pending ≡ false → calm th run.net h t m ≡ m
  calm-now t m e =
      omega (arith, calm-low th laws net J h ph history (λ t e i. run.begins.rest.installed t i) run.begins.rest.none_pending t m, calm-since th laws net J h ph history (λ t e i. run.begins.rest.installed t i) run.begins.rest.none_pending t m m e (omega arith))

  pub pruned-run : (r : Routed th run) (u : ℕ) → IsSentTo th run r u → IsWanted th run r u
  pruned-run r u sends = pruned th net laws run.laws J h ph history run.begins.rest r.moment r.server r.interface r.publication.publisher r.publication.ordinal r.publication.notice u r.at sends

  pub sent-run : run.net.adverts ≡ false → (r : Routed th run) (u : ℕ) → Has u (run.net.links r.server) → (u ≡ r.interface → ⊥) → IsWanted th run r u → IsSentTo th run r u
  sent-run plain r u near other wanted = wanted-sent th net laws run.laws J h ph history run.begins.rest plain r.moment r.server r.interface r.publication.publisher r.publication.ordinal r.publication.notice u r.at near other wanted

  pub in-force-run : (r : Routed th run) (c : ℕ) → Has c (run.net.clients r.server) → IsDelivered th run r c ↔ IsInForce th run r c
  in-force-run r c lives = in-force th net laws run.laws J h ph history run.begins.rest r.moment r.server r.interface r.publication.publisher r.publication.ordinal r.publication.notice c r.at lives

  pub delivered-once : (p : Publication th) (c t : ℕ) → Has p ((run.end.state t).inbox c) → times_delivered th run.net p.publisher p.ordinal ((run.end.state t).inbox c) ≡ 1
  delivered-once p c t has =
      once th laws net run.laws J h ph history run.begins.rest p ((run.end.state t).inbox c)
      (subst (λ (z : Network th run.net). IsStrictlyRising (ordinals_delivered th run.net p.publisher ((z.state t).inbox c))) ends ((ordered-run p.publisher (length J)).given_up t c)) has

  pub delivered-run : (p : Publication th) (c : ℕ) → IsSettledTo th run p c → IsDeliveredOnce th run p c
  delivered-run p c s = subst (λ z. Has p ((run.end.state z).inbox c) × (times_delivered th run.net p.publisher p.ordinal ((run.end.state z).inbox c) ≡ 1)) (sym home) (has, delivered-once p c far has)
    where
      far : ℕ
      far = end_of th run.net (run.net.home p.publisher) s.path

      home : run.net.home c ≡ far
      home = run.laws.lives far c s.lives

      not-interface : (path : List ℕ) → IsOnwardWay th run.net (run.net.home p.publisher) (run.net.home p.publisher) path → (u : ℕ) (more : List ℕ) → path ≡ u ∷ more → u ≡ 64 + p.publisher → ⊥
      not-interface [] way u more e f = absurd cc
      not-interface (x ∷ path) way u more e f =
          let low : x ≤ 64 = run.laws.small (run.net.home p.publisher) x way.0 in
          let one : 1 ≤ p.publisher = run.laws.counted (run.net.home p.publisher) p.publisher s.here in
          omega (arith, low, one, first e, f)
        where
          first : x ∷ path ≡ u ∷ more → x ≡ u
          first e = cc

      got : Has p (((h (length J)).state far).inbox c)
      got = delivered th laws net run.laws J h ph history run.begins.rest (length J) p.publisher p.ordinal c p.notice s.path [] (run.net.home p.publisher) (run.net.home p.publisher) s.moment (64 + p.publisher)
          (slice_get_within J s.moment s.published.entry s.published.at) s.published s.way (not-interface s.path s.way) (λ a. ((λ u more e. tt), s.here)) s.lives s.settled s.taken

      has : Has p ((run.end.state far).inbox c)
      has = subst (λ (z : Network th run.net). Has p ((z.state far).inbox c)) ends got

  -- the commands executed at the start are those below its phase
  pub starts : (t c : ℕ) → Has t run.net.servers → Has c (run.net.clients t) → commands_below th run.first (run.net.script c) ≤ (run.start.state t).done c
  starts t c here lives = omega (arith, run.begins.counts t c lives)

  pub low : (t c : ℕ) → Has c (run.net.clients t) → (run.start.state t).done c ≤ commands_below th (suc run.first) (run.net.script c)
  low t c lives = omega (arith, run.begins.counts t c lives, below-rises th run.first (suc run.first) (run.net.script c) (omega arith))
