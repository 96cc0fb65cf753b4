-- What is published behind a publication is given behind it in a hierarchy, since it is among its peers.
use Rattle.std.proofs.Common.{◌≡◌, ℕ, suc, ◌<◌, ◌==◌, false, cond, List, [], ◌∷◌, ◌⊎◌, map, slice_get, Some, inl, inr, refl, sym, ap, subst, ◌∙◌, arith}
use Rattle.base.specs.Sets.{Has}
use Rattle.law_routing.specs.Theory.{Theory, TheoryLaws}
use Rattle.law_routing.specs.Server.{Publication, client_interface}
use Rattle.law_routing.specs.Owed.{IsPublication}
use Rattle.law_routing.specs.AsOf.{IsRoutedAt}
use Rattle.law_routing.specs.LegalRun.{phases as peer-phases, states as peer-states}
use Rattle.law_routing.proofs.Causal.{Passes, Follows, IsLine, causal}
use Rattle.law_routing.proofs.Current.{pass-publication}
use Rattle.law_routing.proofs.Started.{history, starts}
use Rattle.law_routing.proofs.Logged.{given-at, stands-before}
use Rattle.law_hierarchy.specs.Masters.{top}
use Rattle.law_hierarchy.specs.HierarchyRun.{HierarchyRun, IsMadeBehind, HappensBefore, IsMadeKnowing, AreGivenInOrder}
use Rattle.law_hierarchy.proofs.Wide.{wide, wide-laws}
use Rattle.law_hierarchy.proofs.Listener.{peers}
use Rattle.law_hierarchy.proofs.Shadow.{given}
use Rattle.law_hierarchy.proofs.Listened.{peer-run, h}
use Rattle.law_hierarchy.proofs.Carried.{accepts-off}
use Rattle.law_hierarchy.proofs.Told.{routed-peer}
use Rattle.law_hierarchy.proofs.Given.{inbox-same}
use Rattle.base.proofs.Lists.{get-map}
use Rattle.base.proofs.Sets.{has-get}

module _ (th : Theory) (laws : TheoryLaws th) (run : HierarchyRun th) where
  abbrev Peer : ℕ → ℕ → ℕ → Publication th → Type 0
  Peer m t i p = Passes (wide th) (wide-laws th laws) (peer-run th laws run) m t i p.publisher p.ordinal (Some p.notice)

  -- an entry that routes it does so among the peers
  on-peers : (m t i : ℕ) (p : Publication th) → IsRoutedAt th run.net (Rattle.law_hierarchy.specs.HierarchyRun.states th run) (Rattle.law_hierarchy.specs.HierarchyRun.entries th run) m t i p.publisher p.ordinal p.notice → Peer m t i p
  on-peers m t i p at = (routed-peer th laws run (record { moment = m; server = t; interface = i; publication = p; at = at })).at

  -- and its publisher is not the listener, so it has its own home
  own-home : (m t i : ℕ) (p : Publication th) → Peer m t i p → (peers th run.net).home p.publisher ≡ run.net.home p.publisher
  own-home m t i p pass =
      let L = peer-run th laws run in
      let x : IsPublication (wide th) (peers th run.net) p.publisher p.ordinal (peer-phases (wide th) L (suc m)) (Some p.notice) =
      pass-publication (wide th) (wide-laws th laws) L.net L.laws L.journal (peer-states (wide th) L) (peer-phases (wide th) L) (history (wide th) (wide-laws th laws) L) L.begins.rest (starts (wide th) (wide-laws th laws) L) L.laws.phased m t i p.publisher p.ordinal (Some p.notice) pass in
      let a = accepts-off th laws run.net run.laws p.publisher x.index x.command p.notice x.at x.publishes in
      ap (λ z. cond z top (run.net.home p.publisher)) a.own

  follows-peers : (one other : Publication th) → IsMadeBehind th run one other → Follows (wide th) (wide-laws th laws) (peer-run th laws run) (given th one) (given th other)
  follows-peers one other m =
      let second = on-peers m.made (run.net.home other.publisher) (client_interface other.publisher) other m.makes in
      let home = own-home m.made (run.net.home other.publisher) (client_interface other.publisher) other second in
      record {
        moment = m.moment;
        interface = m.interface;
        routed = subst (λ z. Peer m.moment z m.interface one) (sym home) (on-peers m.moment (run.net.home other.publisher) m.interface one m.routed);
        made = m.made;
        by = client_interface other.publisher;
        makes = subst (λ z. Peer m.made z (client_interface other.publisher) other) (sym home) second;
        follows = m.follows;
      }

  -- what its publisher had been given passed its server before
  knows-peers : (one other : Publication th) → IsMadeKnowing th run one other → Follows (wide th) (wide-laws th laws) (peer-run th laws run) (given th one) (given th other)
  knows-peers one other m =
      let q = other.publisher in
      let t = run.net.home other.publisher in
      let second = on-peers m.made t (client_interface q) other m.makes in
      let home = own-home m.made t (client_interface q) other second in
      let i = has-get (((h th laws run m.made).state t).inbox q) one m.known in
      let there = ap (λ w. slice_get w i.0) (inbox-same th laws run m.made t q m.here) ∙ get-map (given th) (((h th laws run m.made).state t).inbox q) i.0 one i.1 in
      let a = given-at (wide th) (wide-laws th laws) (peer-run th laws run) (λ t c. refl) m.made t q i.0 (given th one) there in
      record {
        moment = a.moment;
        interface = a.interface;
        routed = subst (λ z. Peer a.moment z a.interface one) (sym home) a.routes;
        made = m.made;
        by = client_interface q;
        makes = subst (λ z. Peer m.made z (client_interface q) other) (sym home) second;
        follows = a.before;
      }

  link-peers : (one other : Publication th) → IsMadeBehind th run one other ⊎ IsMadeKnowing th run one other → Follows (wide th) (wide-laws th laws) (peer-run th laws run) (given th one) (given th other)
  link-peers one other (inl m) = follows-peers one other m
  link-peers one other (inr m) = knows-peers one other m

  line-peers : (one : Publication th) (between : List (Publication th)) (other : Publication th) → HappensBefore th run one between other → IsLine (wide th) (wide-laws th laws) (peer-run th laws run) (given th one) (map (given th) between) (given th other)
  line-peers one [] other m = link-peers one other m
  line-peers one (next ∷ between) other (m, rest) = (link-peers one next m, line-peers next between other rest)

  pub causal-order : (one : Publication th) (between : List (Publication th)) (other : Publication th) → HappensBefore th run one between other → (n t c : ℕ) → Has c (run.net.clients t) → Has one (((h th laws run n).state t).inbox c) → Has other (((h th laws run n).state t).inbox c) → AreGivenInOrder th run n t c one other
  causal-order one between other chain n t c lives has-one has-other =
      let i = has-get (((h th laws run n).state t).inbox c) one has-one in
      let j = has-get (((h th laws run n).state t).inbox c) other has-other in
      let there = λ (z : Publication th) (m : ℕ) (g : slice_get (((h th laws run n).state t).inbox c) m ≡ Some z).
      ap (λ w. slice_get w m) (inbox-same th laws run n t c lives) ∙ get-map (given th) (((h th laws run n).state t).inbox c) m z g in
      let a = given-at (wide th) (wide-laws th laws) (peer-run th laws run) (λ t c. refl) n t c i.0 (given th one) (there one i.0 i.1) in
      let b = given-at (wide th) (wide-laws th laws) (peer-run th laws run) (λ t c. refl) n t c j.0 (given th other) (there other j.0 j.1) in
      let up = causal (wide th) (wide-laws th laws) (peer-run th laws run) (given th one) (map (given th) between) (given th other) (line-peers one between other chain) t a.moment b.moment a.interface b.interface a.routes b.routes in
      record { place = i.0; later = j.0; before = stands-before (wide th) (wide-laws th laws) (peer-run th laws run) (λ t c. refl) n t c i.0 j.0 (given th one) (given th other) a b up; first = i.1; second = j.1 }
