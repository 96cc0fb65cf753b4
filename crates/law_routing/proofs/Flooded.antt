-- In a drained run what is owed is delivered exactly once, and what is delivered is allowed.
use Rattle.std.proofs.Common.{◌≡◌, ℕ, suc, ◌≤◌, ◌<◌, ◌↔◌, List, [], ◌∷◌, length, slice_get, Some, refl, sym, ap, subst, ◌∙◌, arith}
use Rattle.std.proofs.lemmas.Option.{slice_get_within, same_Some}
use Rattle.base.specs.Sets.{Has}
use Rattle.law_machine.specs.Runs.{IsQuiet, IsThrough}
use Rattle.law_routing.specs.Theory.{Theory, TheoryLaws}
use Rattle.law_routing.specs.Net.{Net, PhasedCommand}
use Rattle.law_routing.specs.Server.{Publication}
use Rattle.law_routing.specs.Routing.{routing_machine, Network, NetEntry}
use Rattle.law_routing.specs.Rest.{IsDrained, IsOnwardWay, IsAtRest}
use Rattle.law_routing.specs.AsOf.{calm, as_of, IsSettledAlong, IsReceivedAlong, times_delivered}
use Rattle.law_routing.specs.LegalRun.{LegalRun, states, phases, inbox_of, IsDeliveredOnce, IsSettledTo, IsOwedTo, IsDueTo, IsAllowedTo}
use Rattle.law_routing.proofs.Started.{history, starts, ordered-run, ends, delivered-run}
use Rattle.law_routing.proofs.Delivered.{never-twice}
use Rattle.law_routing.proofs.Paths.{path-to}
use Rattle.law_routing.proofs.Scripts.{through-count, through-one, upto-count, below-rises}
use Rattle.law_routing.proofs.Begins.{Turn, Same_phase, New_phase, turn-of, quiet-rests, through-client, as_of-since, calm-from}
use Rattle.law_routing.proofs.Due.{owed-is-due}
use Rattle.law_routing.proofs.Owing.{due-along, published-entry, given-allowed}

module _ (th : Theory) (laws : TheoryLaws th) (run : LegalRun th) where
  abbrev net : Net th
  net = run.net

  abbrev J : List (NetEntry th run.net)
  J = run.journal

  abbrev h : ℕ → Network th run.net
  h = states th run

  abbrev ph : ℕ → ℕ
  ph = phases th run

  -- a phase begins at rest
  pub begins-at-rest : (n : ℕ) → ph n < ph (suc n) → IsAtRest th run.net (h n)
  begins-at-rest n l = go (turn-of th laws net run.laws J h ph (history th laws run) run.begins.rest (starts th laws run) run.laws.phased n)
    where
      go : Turn th laws net run.laws J h ph (history th laws run) run.begins.rest (starts th laws run) run.laws.phased n → IsAtRest th run.net (h n)
      go (Same_phase e) = absurd (omega (arith, l, e))
      go (New_phase m quiet t) = quiet-rests th laws net run.laws J h ph (history th laws run) run.begins.rest n quiet

  -- and so does its end
  pub quiet-at-rest : (n : ℕ) → IsQuiet (routing_machine th run.net) (h n) → IsAtRest th run.net (h n)
  quiet-at-rest n quiet = quiet-rests th laws net run.laws J h ph (history th laws run) run.begins.rest n quiet

  -- no moment to look back to lies before a moment at rest
  pub not-before-rest : (b m prior t : ℕ) (path : List ℕ) → IsAtRest th run.net (h b) → b ≤ m → IsOnwardWay th run.net prior t path → b ≤ as_of th run.net h t path (calm th run.net h t m)
  not-before-rest b m prior t path still l way =
      (as_of-since th laws net run.laws J h ph (history th laws run) run.begins.rest b still prior t path (calm th net h t m) way (calm-from th laws net run.laws J h ph (history th laws run) run.begins.rest b still t m l)).0

  pub not-before-rest-plain : (b m prior t : ℕ) (path : List ℕ) → IsAtRest th run.net (h b) → b ≤ m → IsOnwardWay th run.net prior t path → b ≤ as_of th run.net h t path m
  not-before-rest-plain b m prior t path still l way = (as_of-since th laws net run.laws J h ph (history th laws run) run.begins.rest b still prior t path m way l).0

  -- nothing is delivered twice
  pub twice-never : (n t c q o : ℕ) → times_delivered th run.net q o (((h n).state t).inbox c) ≤ 1
  twice-never n t c q o = never-twice th laws net run.laws J h ph (history th laws run) run.begins.rest q o (((h n).state t).inbox c) ((ordered-run th laws run q n).given_up t c)

  -- what is owed is due
  abbrev pub is-due : (p : Publication th) (c : ℕ) → IsOwedTo th run p c → IsDueTo th run p c
  is-due p c o = record { phase = o.phase; since = o.since; published = o.published; due = owed-is-due th run.net run.laws.phased p.publisher p.ordinal o.phase c p.notice o.published o.owed; here = o.here; lives = o.lives }

  -- what is due is settled wherever it passes
  pub due-settles : (p : Publication th) (c : ℕ) → IsDueTo th run p c → (path : List ℕ) → IsOnwardWay th run.net (run.net.home p.publisher) (run.net.home p.publisher) path → IsSettledAlong th run.net h run.journal p.publisher p.ordinal p.notice c [] (run.net.home p.publisher) path
  due-settles p c o path way = due-along th laws run p.publisher p.ordinal o.phase c p.notice o.published o.due o.here o.lives [] (run.net.home p.publisher) (run.net.home p.publisher) path way (λ a u more e. tt) refl

  pub owed-settles : (p : Publication th) (c : ℕ) → IsOwedTo th run p c → (path : List ℕ) → IsOnwardWay th run.net (run.net.home p.publisher) (run.net.home p.publisher) path → IsSettledAlong th run.net h run.journal p.publisher p.ordinal p.notice c [] (run.net.home p.publisher) path
  owed-settles p c o path way = due-settles p c (is-due p c o) path way

  taken-along : IsQuiet (routing_machine th run.net) (h (length run.journal)) → (p : Publication th) (t : ℕ) (path : List ℕ) → IsReceivedAlong th run.net h (length run.journal) p.publisher p.ordinal p.notice t path
  taken-along quiet p t [] = tt
  taken-along quiet p t (u ∷ path) = ((λ k x e m. omega (arith, quiet.empty t u, slice_get_within ((h (length J)).put t u) k x e)), taken-along quiet p u path)

  -- where all is quiet and its command is executed, it is settled to its client
  pub due-to-settled : IsQuiet (routing_machine th run.net) run.end → (p : Publication th) (c : ℕ) → (o : IsDueTo th run p c) → o.published.index < (run.end.state (run.net.home p.publisher)).done p.publisher → IsSettledTo th run p c
  due-to-settled quiet-end p c o taken =
      let count : o.published.index < ((h (length J)).state (net.home p.publisher)).done p.publisher = omega (arith, taken, ap (λ (z : Network th run.net). (z.state (run.net.home p.publisher)).done p.publisher) (ends th laws run)) in
      let since : (run.start.state (net.home p.publisher)).done p.publisher ≤ o.published.index = omega (arith, run.begins.counts (net.home p.publisher) p.publisher o.here, through-count th run.first (net.script p.publisher) o.published.index (run.laws.phased p.publisher) later) in
      let e = published-entry th laws run p.publisher p.ordinal o.phase p.notice (length J) o.published since count in
      let w = path-to th laws net run.laws (net.home p.publisher) (net.home c) (run.laws.housed p.publisher) (run.laws.housed c) in
      let quiet : IsQuiet (routing_machine th net) (h (length J)) = subst (IsQuiet (routing_machine th run.net)) (sym (ends th laws run)) quiet-end in
      record {
        here = o.here;
        moment = e.at;
        published = e.passes;
        path = w.path;
        way = w.way;
        lives = subst (λ z. Has c (run.net.clients z)) (sym w.end) o.lives;
        settled = due-settles p c o w.path w.way;
        taken = taken-along quiet p (net.home p.publisher) w.path;
      }
    where
      later : (x : PhasedCommand th) → slice_get (run.net.script p.publisher) o.published.index ≡ Some x → run.first ≤ x.phase
      later x f = omega (arith, o.since, o.published.phase, ap (λ (z : PhasedCommand th). z.phase) (same_Some _ _ (sym o.published.at ∙ f)))

  -- in a drained run what is due is delivered exactly once
  pub due-once : IsDrained th run.net run.end → (p : Publication th) (c : ℕ) → IsDueTo th run p c → IsDeliveredOnce th run p c
  due-once drained p c o =
      delivered-run th laws run p c (due-to-settled drained.quiet p c o (omega (arith, slice_get_within (run.net.script p.publisher) o.published.index o.published.command o.published.at, drained.taken (run.net.home p.publisher) p.publisher o.here)))

  pub owed-once : IsDrained th run.net run.end → (p : Publication th) (c : ℕ) → IsOwedTo th run p c → IsDeliveredOnce th run p c
  owed-once drained p c o = due-once drained p c (is-due p c o)

  -- and so is what is due in a phase, where that phase is through and all is quiet
  pub due-in-phase : (k : ℕ) → IsQuiet (routing_machine th run.net) run.end → IsThrough (routing_machine th run.net) run.end k → (p : Publication th) (c : ℕ) → (o : IsDueTo th run p c) → o.phase < k → IsDeliveredOnce th run p c
  due-in-phase k quiet through p c o before =
      let home = run.net.home p.publisher in
      let past = through-client th laws net run.laws J h ph (history th laws run) run.begins.rest (run.end.state home) k p.publisher (net.clients home) o.here (through home (run.laws.housed p.publisher)) in
      let least = through-count th k (net.script p.publisher) ((run.end.state home).done p.publisher) (run.laws.phased p.publisher) (λ x e. through-one th net k (slice_get (net.script p.publisher) ((run.end.state home).done p.publisher)) x past e) in
      let index = upto-count th o.phase (net.script p.publisher) o.published.index o.published.command (run.laws.phased p.publisher) o.published.at (omega (arith, o.published.phase)) in
      delivered-run th laws run p c (due-to-settled quiet p c o (omega (arith, least, index, below-rises th (suc o.phase) k (net.script p.publisher) (omega (arith, before)))))

  pub owed-in-phase : (k : ℕ) → IsQuiet (routing_machine th run.net) run.end → IsThrough (routing_machine th run.net) run.end k → (p : Publication th) (c : ℕ) → (o : IsOwedTo th run p c) → o.phase < k → IsDeliveredOnce th run p c
  owed-in-phase k quiet through p c o before = due-in-phase k quiet through p c (is-due p c o) before

  -- what is delivered is allowed
  pub allowed-run : (n t c : ℕ) (p : Publication th) → Has c (run.net.clients t) → Has p (((h n).state t).inbox c) → IsAllowedTo th run p c
  allowed-run n t c p lives has =
      let r = given-allowed th laws run (λ t c d lives has. (let x = run.begins.allowed t c d lives has in record { phase = x.0; publication = x.1; allowed = x.2 })) n t c p lives has in
      (r.phase, r.publication, r.allowed)

  -- where allowed is owed, a drained run delivers exactly what flooding does
  pub stable-run : IsDrained th run.net run.end → (c : ℕ) → Has c (run.net.clients (run.net.home c)) → ((p : Publication th) → IsAllowedTo th run p c → IsOwedTo th run p c) → (p : Publication th) → Has p (inbox_of th run c) ↔ IsAllowedTo th run p c
  stable-run drained c lives stable p = (
    (λ has. allowed-run (length J) (net.home c) c p lives (subst (λ (z : Network th run.net). Has p ((z.state (run.net.home c)).inbox c)) (sym (ends th laws run)) has)),
    (λ x. (owed-once drained p c (stable p x)).0),
  )
