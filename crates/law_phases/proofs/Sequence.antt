-- The order in which a client is given publications.
use Rattle.std.proofs.Common.{◌≡◌, ℕ, suc, ◌+◌, ◌-◌, ◌≤◌, ◌<◌, List, [], ◌∷◌, ◌⊎◌, inl, inr, length, slice_get, Some, refl, sym, ap, subst, ◌∙◌, arith}
use Rattle.std.proofs.lemmas.Option.{slice_get_within, same_Some}
use Rattle.law_machine.specs.Machine.{Did}
use Rattle.law_routing.specs.Theory.{Theory, TheoryLaws}
use Rattle.law_routing.specs.Net.{Net, Publish}
use Rattle.law_routing.specs.Server.{Publication, client_interface, is_among}
use Rattle.law_routing.specs.Step.{NextCommand, Routes, command_work, next_work}
use Rattle.law_routing.specs.Routing.{Network}
use Rattle.law_routing.specs.Works.{work_at, Works}
use Rattle.law_routing.proofs.Laws.{cond-some}
use Rattle.law_routing.proofs.Causal.{causal, Passes, Follows, IsLine}
use Rattle.law_routing.proofs.Current.{one-publication}
use Rattle.law_phases.specs.Trees.{JournalEntry, on, entry_on, trees_by, net_at}
use Rattle.law_phases.specs.Runs.{PhasedRun}
use Rattle.law_phases.specs.AtMoments.{states, seen, phase_seen, net_seen, states_on, inbox_at}
use Rattle.law_phases.specs.Owing.{IsPublishedIn}
use Rattle.law_phases.specs.Routes.{Routed, IsRoutedOn}
use Rattle.law_phases.specs.Sequence.{IsChain, AreByPhase, IsMadeAt, IsMadeBehind, IsMadeKnowing, IsMadeAfter, HappensBefore, PassesBefore, AreGivenInOrder}
use Rattle.law_phases.proofs.Nets.{net-one}
use Rattle.law_phases.proofs.Pieces.{published-at}
use Rattle.law_phases.proofs.Entries.{happens-run, keeps-run}
use Rattle.law_phases.proofs.Parts.{unmapped, since, counts}
use Rattle.law_phases.proofs.Routes.{part, part-run, offset, net-here}
use Rattle.law_phases.proofs.Passing.{in-part, routes-publication}
use Rattle.law_phases.proofs.Given.{GivenAt, given-at, given-before, stands-before, seen-rises, mapped, works-there}
use Rattle.std.proofs.lemmas.Bool.{cases_lt}
use Rattle.base.proofs.Sets.{has-get}

module _ (th : Theory) (laws : TheoryLaws th) (run : PhasedRun th) where
  -- what an entry routes has no other phase than the entry's
  pub one-phase : (r : Routed th run) (k : ℕ) → IsPublishedIn th run.net k r.publication → phase_seen th run r.moment ≡ k
  one-phase r k p =
      (one-publication th (net_at th run.net k) r.publication.publisher r.publication.ordinal (phase_seen th run r.moment) k r.publication.notice r.publication.notice
      (published-at th laws run.net run.laws (phase_seen th run r.moment) k r.publication.publisher r.publication.ordinal (phase_seen th run r.moment) r.publication.notice (routes-publication th laws run r)) p).0

  abbrev routed-at : (m t i : ℕ) (p : Publication th) → IsRoutedOn th run (net_seen th run m) m t i p → Routed th run
  routed-at m t i p at = record { moment = m; server = t; interface = i; publication = p; at = at }

  abbrev given : (n t c i : ℕ) (p : Publication th) → GivenAt th laws run n t c i p → Routed th run
  given n t c i p g = record { moment = g.moment; server = t; interface = g.interface; publication = p; at = g.routes }

  -- the phases of an inbox never fall
  pub by-phase : (n t c : ℕ) → AreByPhase th run.net (inbox_at th run n t c)
  by-phase n t c one other k l s p q =
      let a = given-at th laws run n t c s.place one s.here in
      let b = given-at th laws run n t c s.later other s.there in
      let less = given-before th laws run n t c s.place s.later one other a b s.before in
      omega (arith, seen-rises th laws run a.moment b.moment (omega (arith, less)), one-phase (given n t c s.place one a) k p, one-phase (given n t c s.later other b) l q)

  -- an entry that publishes routes at home
  pub makes-routes : (n : ℕ) (p : Publication th) → IsMadeAt th run n p → IsRoutedOn th run (net_seen th run n) n (run.net.home p.publisher) (client_interface p.publisher) p
  makes-routes n p m = record {
    entry = entry_on th (net_seen th run n) m.entry;
    at = mapped (entry_on th (net_seen th run n)) run.journal n m.entry m.at;
    server = m.server;
    routes = ap (λ z. work_at th N S z m.entry.act) (sym m.server) ∙ (w.is ∙ ap Some asked);
  }
    where
      N : Net th
      N = net_seen th run n

      S : Network th (net_seen th run n)
      S = states_on th run (net_seen th run n) n

      home : ℕ
      home = run.net.home p.publisher

      w : Works th (net_seen th run n) (states_on th run (net_seen th run n) n) (entry_on th (net_seen th run n) m.entry) (on th (net_seen th run n) (states th run (suc n)))
      w = works-there th laws run n m.entry m.at

      done : m.published.index ≡ ((seen th run n).state (run.net.home p.publisher)).done p.publisher
      done = m.next ∙ ap (λ z. z p.publisher) (sym (keeps-run th laws run n (run.net.home p.publisher)).done)

      possible : work_at th (net_seen th run n) (states_on th run (net_seen th run n) n) (run.net.home p.publisher) (Did (NextCommand p.publisher)) ≡ Some w.work
      possible = ap (λ z. work_at th (net_seen th run n) (states_on th run (net_seen th run n) n) z (Did (NextCommand p.publisher))) (sym m.server) ∙ (ap (work_at th (net_seen th run n) (states_on th run (net_seen th run n) n) m.entry.server) (sym m.act) ∙ w.is)

      next : next_work th (net_seen th run n) p.publisher m.published.index (slice_get (run.net.script p.publisher) m.published.index) ≡ Some w.work
      next = ap (λ z. next_work th (net_seen th run n) p.publisher z (slice_get (run.net.script p.publisher) z)) done ∙ (cond-some (is_among (run.net.home p.publisher) run.net.servers) (is_among p.publisher (run.net.clients (run.net.home p.publisher))) (next_work th (net_seen th run n) p.publisher (((seen th run n).state (run.net.home p.publisher)).done p.publisher) (slice_get (run.net.script p.publisher) (((seen th run n).state (run.net.home p.publisher)).done p.publisher))) w.work possible).2

      accepted : command_work th (net_seen th run n) p.publisher m.published.index (Publish p.notice) ≡ Routes (client_interface p.publisher) p.publisher p.ordinal p.notice
      accepted = rw m.published.allowed (ap (λ z. Routes (client_interface p.publisher) p.publisher z p.notice) m.published.ordinal)

      asked : w.work ≡ Routes (client_interface p.publisher) p.publisher p.ordinal p.notice
      asked = sym (same_Some _ _ (ap (next_work th (net_seen th run n) p.publisher m.published.index) (sym m.published.at) ∙ next)) ∙ (ap (command_work th (net_seen th run n) p.publisher m.published.index) m.published.publishes ∙ accepted)

  -- a link of a chain whose entries are of one phase and no later than one of it
  abbrev LinkTo : ℕ → Publication th → Publication th → Type 0
  LinkTo z x y = (m : IsMadeBehind th run x y) × (m.made ≤ z) × (phase_seen th run m.moment ≡ phase_seen th run z) × (phase_seen th run m.made ≡ phase_seen th run z)

  -- entries of one phase, up to one of them, are entries of a run over one tree
  module _ (z : ℕ) (e : JournalEntry) (is : slice_get run.journal z ≡ Some e) where
    abbrev N : Net th
    N = net_at th run.net (part th laws run z e is).first

    record There (m t i : ℕ) (p : Publication th) : Type 0 where
      index : ℕ
      place : offset th laws run z e is + index ≡ m
      passes : Passes th laws (part-run th laws run z e is) index t i p.publisher p.ordinal p.notice

    there : (m t i : ℕ) (p : Publication th) → m ≤ z → phase_seen th run m ≡ phase_seen th run z → IsRoutedOn th run (net_seen th run m) m t i p → There m t i p
    there m t i p low same at =
        let within : suc z ≤ length run.journal = slice_get_within run.journal z e is in
        let trees : trees_by run.net.later (phase_seen th run m) ≡ trees_by run.net.later (phase_seen th run z) = ap (trees_by run.net.later) same in
        let from-o : offset th laws run z e is ≤ m = since th laws run (suc z) within m (omega (arith, low)) (trees ∙ ap (trees_by run.net.later) (sym (happens-run th laws run z e is).phase)) in
        let place : offset th laws run z e is + (m - offset th laws run z e is) ≡ m = omega (arith, from-o) in
        let inside : m - offset th laws run z e is < length (part th laws run z e is).part = omega (arith, place, low, counts th laws run (suc z) within) in
        let net : net_seen th run m ≡ N = net-one th run.net (phase_seen th run m) (phase_seen th run z) trees ∙ sym (net-here th laws run z e is) in
        record {
          index = m - offset th laws run z e is;
          place = place;
          passes = in-part th laws run z e is (m - offset th laws run z e is) t i p inside (subst (λ y. IsRoutedOn th run N y t i p) (sym place) (subst (λ (y : Net th). IsRoutedOn th run y m t i p) net at));
        }

    -- a chain of entries of its phase up to it
    follows-there : (x y : Publication th) (m : IsMadeBehind th run x y) → m.made ≤ z → phase_seen th run m.moment ≡ phase_seen th run z → phase_seen th run m.made ≡ phase_seen th run z → Follows th laws (part-run th laws run z e is) x y
    follows-there x y m low a b =
        let first = there m.moment (run.net.home y.publisher) m.interface x (omega (arith, low, m.follows)) a m.routed in
        let second = there m.made (run.net.home y.publisher) (client_interface y.publisher) y low b (makes-routes m.made y m.makes) in
        record { moment = first.index; interface = m.interface; routed = first.passes; made = second.index; by = client_interface y.publisher; makes = second.passes; follows = omega (arith, first.place, second.place, m.follows) }

    line-there : (one : Publication th) (between : List (Publication th)) (other : Publication th) → IsChain (LinkTo z) one between other → IsLine th laws (part-run th laws run z e is) one between other
    line-there one [] other (m, low, a, b) = follows-there one other m low a b
    line-there one (next ∷ between) other ((m, low, a, b), rest) = (follows-there one next m low a b, line-there next between other rest)

    chain-there : (one : Publication th) (between : List (Publication th)) (other : Publication th) → IsChain (LinkTo z) one between other → (t c d f g : ℕ) → c ≤ z → d ≤ z → phase_seen th run c ≡ phase_seen th run z → phase_seen th run d ≡ phase_seen th run z
        → IsRoutedOn th run (net_seen th run c) c t f one → IsRoutedOn th run (net_seen th run d) d t g other → c < d
    chain-there one between other chain t c d f g lc ld ec ed first second =
        let a = there c t f one lc ec first in
        let b = there d t g other ld ed second in
        let r : a.index < b.index = causal th laws (part-run th laws run z e is) one between other (line-there one between other chain) t a.index b.index f g a.passes b.passes in
        omega (arith, r, a.place, b.place)

  -- the later of two entries
  record Later (a b : Routed th run) : Type 0 where
    last : Routed th run
    first_up : a.moment ≤ last.moment
    second_up : b.moment ≤ last.moment
    phase : (k : ℕ) → phase_seen th run a.moment ≡ k → phase_seen th run b.moment ≡ k → phase_seen th run last.moment ≡ k

  later : (a b : Routed th run) → Later a b
  later a b = go (cases_lt a.moment b.moment)
    where
      go : (a.moment < b.moment) ⊎ (b.moment ≤ a.moment) → Later a b
      go (inl l) = record { last = b; first_up = omega (arith, l); second_up = omega arith; phase = λ k e f. f }
      go (inr l) = record { last = a; first_up = omega arith; second_up = l; phase = λ k e f. e }

  abbrev made : (p : Publication th) (n : ℕ) → IsMadeAt th run n p → Routed th run
  made p n m = record { moment = n; server = run.net.home p.publisher; interface = client_interface p.publisher; publication = p; at = makes-routes n p m }

  made-phase : (p : Publication th) (n : ℕ) (m : IsMadeAt th run n p) → phase_seen th run n ≡ m.phase
  made-phase p n m = one-phase (made p n m) m.phase m.published

  -- along a chain phases never fall
  link-up : (p q : Publication th) (m : IsMadeBehind th run p q) (k : ℕ) → IsPublishedIn th run.net k p → (phase_seen th run m.moment ≡ k) × (k ≤ m.makes.phase)
  link-up p q m k published =
      let same = one-phase (routed-at m.moment (run.net.home q.publisher) m.interface p m.routed) k published in
      (same, omega (arith, same, made-phase q m.made m.makes, seen-rises th laws run m.moment m.made (omega (arith, m.follows))))

  phase-of : (p : Publication th) (k l : ℕ) → IsPublishedIn th run.net k p → IsPublishedIn th run.net l p → k ≡ l
  phase-of p k l a b = (one-publication th (net_at th run.net l) p.publisher p.ordinal k l p.notice p.notice (published-at th laws run.net run.laws k l p.publisher p.ordinal k p.notice a) b).0

  pub chain-up : (one : Publication th) (between : List (Publication th)) (other : Publication th) → PassesBefore th run one between other → (k l : ℕ) → IsPublishedIn th run.net k one → IsPublishedIn th run.net l other → k ≤ l
  chain-up one [] other m k l first last = omega (arith, (link-up one other m k first).1, phase-of other m.makes.phase l m.makes.published last)
  chain-up one (next ∷ between) other (m, rest) k l first last = omega (arith, (link-up one next m k first).1, chain-up next between other rest m.makes.phase l m.makes.published last)

  -- the last entry of a chain within a phase, and of another entry
  record Top (k : ℕ) (r : Routed th run) (one : Publication th) (between : List (Publication th)) (other : Publication th) : Type 0 where
    last : Routed th run
    up : r.moment ≤ last.moment
    phase : phase_seen th run last.moment ≡ k
    chain : (z : ℕ) → last.moment ≤ z → phase_seen th run z ≡ k → IsChain (LinkTo z) one between other

  top : (k : ℕ) (r : Routed th run) → phase_seen th run r.moment ≡ k → (one : Publication th) (between : List (Publication th)) (other : Publication th) → PassesBefore th run one between other → IsPublishedIn th run.net k one → IsPublishedIn th run.net k other → Top k r one between other
  top k r e one [] other m first last =
      let x = later r (made other m.made m.makes) in
      let at-end : phase_seen th run m.made ≡ k = one-phase (made other m.made m.makes) k last in
      record { last = x.last; up = x.first_up; phase = x.phase k e at-end; chain = λ z low same. (m, omega (arith, x.second_up, low), (link-up one other m k first).0 ∙ sym same, at-end ∙ sym same) }
  top k r e one (next ∷ between) other (m, rest) first last =
      let a = link-up one next m k first in
      let j : m.makes.phase ≡ k = omega (arith, a.1, chain-up next between other rest m.makes.phase k m.makes.published last) in
      let at-end : phase_seen th run m.made ≡ k = made-phase next m.made m.makes ∙ j in
      let x = later r (made next m.made m.makes) in
      let y = top k x.last (x.phase k e at-end) next between other rest (subst (λ z. IsPublishedIn th run.net z next) j m.makes.published) last in
      record { last = y.last; up = omega (arith, x.first_up, y.up); phase = y.phase; chain = λ z low same. ((m, omega (arith, x.second_up, y.up, low), a.0 ∙ sym same, at-end ∙ sym same), y.chain z low same) }

  -- what was installed behind another passes each server behind it
  pub passes-behind : (one : Publication th) (between : List (Publication th)) (other : Publication th) → PassesBefore th run one between other → (t c d f g : ℕ) → IsRoutedOn th run (net_seen th run c) c t f one → IsRoutedOn th run (net_seen th run d) d t g other → c < d
  passes-behind one between other chain t c d f g first second = go (cases_lt (phase_seen th run c) (phase_seen th run d))
    where
      rc : Routed th run
      rc = routed-at c t f one first

      rd : Routed th run
      rd = routed-at d t g other second

      pc : IsPublishedIn th run.net (phase_seen th run c) one
      pc = routes-publication th laws run (routed-at c t f one first)

      pd : IsPublishedIn th run.net (phase_seen th run d) other
      pd = routes-publication th laws run (routed-at d t g other second)

      go : (phase_seen th run c < phase_seen th run d) ⊎ (phase_seen th run d ≤ phase_seen th run c) → c < d
      go (inl l) = by (cases_lt c d)
        where
          by : (c < d) ⊎ (d ≤ c) → c < d
          by (inl h) = h
          by (inr h) = absurd (omega (arith, l, seen-rises th laws run d c h))
      go (inr l) =
          let same : phase_seen th run d ≡ phase_seen th run c = omega (arith, l, chain-up one between other chain (phase_seen th run c) (phase_seen th run d) pc pd) in
          let x = later rc rd in
          let y = top (phase_seen th run c) x.last (x.phase (phase_seen th run c) refl same) one between other chain pc (subst (λ z. IsPublishedIn th run.net z other) same pd) in
          let z = y.last in
          let e = unmapped th (net_seen th run z.moment) run.journal z.moment z.at.entry z.at.at in
          chain-there z.moment e.0 e.1 one between other (y.chain z.moment (omega arith) y.phase) t c d f g (omega (arith, x.first_up, y.up)) (omega (arith, x.second_up, y.up)) (sym y.phase) (same ∙ sym y.phase) first second

  -- so it stands behind it in each inbox that has both
  pub causal-order : (one : Publication th) (between : List (Publication th)) (other : Publication th) → PassesBefore th run one between other → (n t c : ℕ) → AreGivenInOrder th run n t c one other
  causal-order one between other chain n t c has-one has-other =
      let i = has-get (inbox_at th run n t c) one has-one in
      let j = has-get (inbox_at th run n t c) other has-other in
      let a = given-at th laws run n t c i.0 one i.1 in
      let b = given-at th laws run n t c j.0 other j.1 in
      record { place = i.0; later = j.0; before = stands-before th laws run n t c i.0 j.0 one other a b (passes-behind one between other chain t a.moment b.moment a.interface b.interface a.routes b.routes); here = i.1; there = j.1 }

  -- what a publisher had been given, or had published, passed its server before
  cause-behind : (p q : Publication th) → IsMadeKnowing th run p q ⊎ IsMadeAfter th run p q → IsMadeBehind th run p q
  cause-behind p q (inl k) =
      let i = has-get (inbox_at th run k.made (run.net.home q.publisher) q.publisher) p k.known in
      let a = given-at th laws run k.made (run.net.home q.publisher) q.publisher i.0 p i.1 in
      record { moment = a.moment; interface = a.interface; routed = a.routes; made = k.made; makes = k.makes; follows = a.before }
  cause-behind p q (inr k) = record {
    moment = k.moment;
    interface = client_interface p.publisher;
    routed = subst (λ z. IsRoutedOn th run (net_seen th run k.moment) k.moment (run.net.home z) (client_interface p.publisher) p) k.one_publisher (makes-routes k.moment p k.first);
    made = k.made;
    makes = k.makes;
    follows = k.follows;
  }

  pub happens-passes : (one : Publication th) (between : List (Publication th)) (other : Publication th) → HappensBefore th run one between other → PassesBefore th run one between other
  happens-passes one [] other k = cause-behind one other k
  happens-passes one (next ∷ between) other (k, rest) = (cause-behind one next k, happens-passes next between other rest)
