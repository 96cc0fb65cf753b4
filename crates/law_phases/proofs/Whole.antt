-- The laws of whole runs over trees, by the part that a moment lies in.
use Rattle.std.proofs.Common.{◌≡◌, ◌↔◌, ℕ, zero, suc, ◌≤◌, ◌<◌, List, [], ◌∷◌, ◌⊎◌, inl, inr, length, take, refl, sym, ap, subst}
use Rattle.base.specs.Sets.{Has}
use Rattle.law_machine.specs.Runs.{IsQuiet}
use Rattle.law_routing.specs.Theory.{Theory, TheoryLaws}
use Rattle.law_routing.specs.Net.{Net}
use Rattle.law_routing.specs.Server.{Publication}
use Rattle.law_routing.specs.Routing.{routing_machine, Network}
use Rattle.law_routing.specs.Rest.{IsAtRest, IsDrained}
use Rattle.law_routing.specs.AsOf.{times_delivered}
use Rattle.law_routing.specs.Order.{IsStrictlyRising, ordinals_put, ordinals_delivered, IsAuthentic}
use Rattle.law_routing.specs.LegalRun.{LegalRun, IsAllowedTo as IsAllowedOnTree}
use Rattle.law_routing.proofs.Started.{ends, ordered-run, authentic-run}
use Rattle.law_routing.proofs.Flooded.{due-once, quiet-at-rest, twice-never, allowed-run}
use Rattle.law_routing.proofs.Due.{owed-is-due}
use Rattle.law_routing.proofs.Changed.{stays-delivered}
use Rattle.law_phases.specs.Trees.{JournalEntry, State, on, PhasedNet, net_at, machine_at, at_phase}
use Rattle.law_phases.specs.Moments.{Moment, opening_moment, moment_after}
use Rattle.law_phases.specs.Runs.{IsPhasedRun, PhasedRun}
use Rattle.law_phases.specs.AtMoments.{states, phases, EndsDrained, inbox_of}
use Rattle.law_phases.specs.Owing.{IsOwedByScripts, IsDueByScripts, IsAllowedByScripts}
use Rattle.law_phases.specs.Routes.{IsDeliveredOnce}
use Rattle.law_phases.proofs.Nets.{net-one}
use Rattle.law_phases.proofs.Moments.{now, stepped, run-ends}
use Rattle.law_phases.proofs.Pieces.{Piece, run-of, due-on, piece-of, published-at}
use Rattle.std.proofs.lemmas.Bool.{cases_lt}

module _ (th : Theory) (net : PhasedNet th) where
  -- each beginning of a run is a run, to its moment
  pub begin-at : (s : State th) (p : ℕ) (es : List JournalEntry) (s' : State th) (p' : ℕ) → IsPhasedRun th net s p es s' p' → (n : ℕ) → IsPhasedRun th net s p (take n es) (moment_after th net (now th net s p) es n).state (moment_after th net (now th net s p) es n).phase
  begin-at s p [] s' p' r zero = (refl, refl)
  begin-at s p [] s' p' r (suc n) = (refl, refl)
  begin-at s p (e ∷ es) s' p' (x, v, q, ready, step, rest) zero = (refl, refl)
  begin-at s p (e ∷ es) s' p' (x, v, q, ready, step, rest) (suc n) =
      (x, v, q, ready, step, subst (λ (z : Moment th net). IsPhasedRun th net v q (take n es) (moment_after th net z es n).state (moment_after th net z es n).phase) (sym (stepped th net s p e x v q ready step)) (begin-at v q es s' p' rest n))

module _ (th : Theory) (laws : TheoryLaws th) where
  -- a beginning, as a run
  abbrev pub prefix : PhasedRun th → ℕ → PhasedRun th
  prefix run n = record { net = run.net; laws = run.laws; journal = take n run.journal; end = states th run n; last = phases th run n; legal = begin-at th run.net (opening_moment th run.net).state 0 run.journal run.end run.last run.legal n }

  pub piece : (run : PhasedRun th) → Piece th laws run.net run.laws run.journal run.end run.last
  piece run = piece-of th laws run.net run.laws run.journal run.end run.last run.legal

  -- the last part, as a run over one tree
  abbrev pub last-run : PhasedRun th → LegalRun th
  last-run run = run-of th laws run.net run.laws run.journal run.end run.last (piece run)

  pub whole-ends : (run : PhasedRun th) → states th run (length run.journal) ≡ run.end
  whole-ends run = ap (λ (z : Moment th run.net). z.state) (run-ends th run.net (opening_moment th run.net).state 0 run.journal run.end run.last run.legal)

  -- at the end the net is that of the last part
  pub last-net : (run : PhasedRun th) → net_at th run.net (piece run).first ≡ net_at th run.net run.last
  last-net run = net-one th run.net (piece run).first run.last (piece run).one

  -- nothing is delivered twice
  never-at-end : (run : PhasedRun th) (t c q o : ℕ) → times_delivered th (net_at th run.net run.last) q o ((run.end.state t).inbox c) ≤ 1
  never-at-end run t c q o =
      subst (λ (z : Net th). times_delivered th z q o ((run.end.state t).inbox c) ≤ 1) (last-net run)
      (subst (λ (z : Network th (net_at th run.net (piece run).first)). times_delivered th (net_at th run.net (piece run).first) q o ((z.state t).inbox c) ≤ 1) (ends th laws (last-run run)) (twice-never th laws (last-run run) (length (piece run).part) t c q o))

  pub never-twice : (run : PhasedRun th) (n t c q o : ℕ) → times_delivered th (net_at th run.net (phases th run n)) q o (((states th run n).state t).inbox c) ≤ 1
  never-twice run n = never-at-end (prefix run n)

  -- each inbox is in the order of the ordinals
  inbox-at-end : (run : PhasedRun th) (q t c : ℕ) → IsStrictlyRising (ordinals_delivered th (net_at th run.net run.last) q ((run.end.state t).inbox c))
  inbox-at-end run q t c =
      subst (λ (z : Net th). IsStrictlyRising (ordinals_delivered th z q ((run.end.state t).inbox c))) (last-net run)
      (subst (λ (z : Network th (net_at th run.net (piece run).first)). IsStrictlyRising (ordinals_delivered th (net_at th run.net (piece run).first) q ((z.state t).inbox c))) (ends th laws (last-run run)) ((ordered-run th laws (last-run run) q (length (piece run).part)).given_up t c))

  pub inbox-rises : (run : PhasedRun th) (n q t c : ℕ) → IsStrictlyRising (ordinals_delivered th (net_at th run.net (phases th run n)) q (((states th run n).state t).inbox c))
  inbox-rises run n = inbox-at-end (prefix run n)

  -- and so is each link
  put-at-end : (run : PhasedRun th) (q a b : ℕ) → IsStrictlyRising (ordinals_put th (net_at th run.net run.last) q (run.end.put a b))
  put-at-end run q a b =
      subst (λ (z : Net th). IsStrictlyRising (ordinals_put th z q (run.end.put a b))) (last-net run)
      (subst (λ (z : Network th (net_at th run.net (piece run).first)). IsStrictlyRising (ordinals_put th (net_at th run.net (piece run).first) q (z.put a b))) (ends th laws (last-run run)) ((ordered-run th laws (last-run run) q (length (piece run).part)).put_up a b))

  pub put-rises : (run : PhasedRun th) (n q a b : ℕ) → IsStrictlyRising (ordinals_put th (net_at th run.net (phases th run n)) q ((states th run n).put a b))
  put-rises run n = put-at-end (prefix run n)

  -- what is on a link or in an inbox was accepted
  authentic-at-end : (run : PhasedRun th) → IsAuthentic th (net_at th run.net run.last) (at_phase th run.net run.last run.end)
  authentic-at-end run =
      subst (λ (z : Net th). IsAuthentic th z (on th z run.end)) (last-net run)
      (subst (IsAuthentic th (net_at th run.net (piece run).first)) (ends th laws (last-run run)) (authentic-run th laws (last-run run) (length (piece run).part)))

  pub authentic : (run : PhasedRun th) (n : ℕ) → IsAuthentic th (net_at th run.net (phases th run n)) (at_phase th run.net (phases th run n) (states th run n))
  authentic run n = authentic-at-end (prefix run n)

  -- what is delivered is allowed
  allowed-at-end : (run : PhasedRun th) (t c : ℕ) (p : Publication th) → Has c (run.net.clients t) → Has p ((run.end.state t).inbox c) → IsAllowedByScripts th run.net p c
  allowed-at-end run t c p lives has =
      let f = (piece run).first in
      let a : IsAllowedOnTree th (last-run run) p c = allowed-run th laws (last-run run) (length (piece run).part) t c p lives (subst (λ (z : Network th (net_at th run.net (piece run).first)). Has p ((z.state t).inbox c)) (sym (ends th laws (last-run run))) has) in
      (a.0, published-at th laws run.net run.laws f a.0 p.publisher p.ordinal a.0 p.notice a.1, record { index = a.2.index; moment = record { from = a.2.moment.from; upto = a.2.moment.upto }; filter = a.2.filter; listed = a.2.listed; matches = a.2.matches })

  pub delivered-allowed : (run : PhasedRun th) (n t c : ℕ) (p : Publication th) → Has c (run.net.clients t) → Has p (((states th run n).state t).inbox c) → IsAllowedByScripts th run.net p c
  delivered-allowed run n = allowed-at-end (prefix run n)

  -- a quiet moment is at rest
  pub rest-at-end : (run : PhasedRun th) → IsQuiet (machine_at th run.net run.last) (at_phase th run.net run.last run.end) → IsAtRest th (net_at th run.net run.last) (at_phase th run.net run.last run.end)
  rest-at-end run quiet =
      let m = routing_machine th (net_at th run.net (piece run).first) in
      let here : IsQuiet m (at_phase th run.net (piece run).first run.end) = subst (λ (z : Net th). IsQuiet (routing_machine th z) (on th z run.end)) (sym (last-net run)) quiet in
      subst (λ (z : Net th). IsAtRest th z (on th z run.end)) (last-net run)
      (subst (IsAtRest th (net_at th run.net (piece run).first)) (ends th laws (last-run run)) (quiet-at-rest th laws (last-run run) (length (piece run).part) (subst (IsQuiet m) (sym (ends th laws (last-run run))) here)))

  pub quiet-rests : (run : PhasedRun th) (n : ℕ) → IsQuiet (machine_at th run.net (phases th run n)) (at_phase th run.net (phases th run n) (states th run n)) → IsAtRest th (net_at th run.net (phases th run n)) (at_phase th run.net (phases th run n) (states th run n))
  quiet-rests run n = rest-at-end (prefix run n)

  -- in a drained run what is due is delivered exactly once
  pub due-once-in : (run : PhasedRun th) → EndsDrained th run → (p : Publication th) (c : ℕ) → IsDueByScripts th run.net p c → IsDeliveredOnce th run p c
  due-once-in run drained p c o =
      subst (λ (z : Net th). Has p ((run.end.state (run.net.home c)).inbox c) × (times_delivered th z p.publisher p.ordinal ((run.end.state (run.net.home c)).inbox c) ≡ 1)) (last-net run) (go (cases_lt o.phase (piece run).first))
    where
      here : IsDrained th (net_at th run.net (piece run).first) (at_phase th run.net (piece run).first run.end)
      here = subst (λ (z : Net th). IsDrained th z (on th z run.end)) (sym (last-net run)) drained

      go : (o.phase < (piece run).first) ⊎ ((piece run).first ≤ o.phase) → Has p ((run.end.state (run.net.home c)).inbox c) × (times_delivered th (net_at th run.net (piece run).first) p.publisher p.ordinal ((run.end.state (run.net.home c)).inbox c) ≡ 1)
      go (inl l) = stays-delivered th laws (last-run run) p c ((piece run).earlier p c o l)
      go (inr l) = due-once th laws (last-run run) here p c (due-on th laws run.net run.laws run.journal run.end run.last (piece run) p c o l)

  -- what is owed is due
  abbrev pub is-due-in : (run : PhasedRun th) (p : Publication th) (c : ℕ) → IsOwedByScripts th run.net p c → IsDueByScripts th run.net p c
  is-due-in run p c o = record {
    phase = o.phase;
    published = o.published;
    due = owed-is-due th (net_at th run.net o.phase) run.laws.phased p.publisher p.ordinal o.phase c p.notice o.published o.owed;
    here = o.here;
    lives = o.lives;
  }

  pub owed-once-in : (run : PhasedRun th) → EndsDrained th run → (p : Publication th) (c : ℕ) → IsOwedByScripts th run.net p c → IsDeliveredOnce th run p c
  owed-once-in run drained p c o = due-once-in run drained p c (is-due-in run p c o)

  -- where allowed is owed, a drained run delivers exactly what flooding does
  pub stable-in : (run : PhasedRun th) → EndsDrained th run → (c : ℕ) → Has c (run.net.clients (run.net.home c)) → ((p : Publication th) → IsAllowedByScripts th run.net p c → IsOwedByScripts th run.net p c) → (p : Publication th) → Has p (inbox_of th run c) ↔ IsAllowedByScripts th run.net p c
  stable-in run drained c lives stable p = ((λ has. allowed-at-end run (run.net.home c) c p lives has), λ a. (owed-once-in run drained p c (stable p a)).0)
