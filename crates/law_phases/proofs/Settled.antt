-- What is settled wherever it passes is delivered, on the tree of its phase or by the time that tree goes.
use Rattle.std.proofs.Common.{◌≡◌, ℕ, zero, suc, ◌+◌, ◌-◌, ◌≤◌, ◌<◌, true, List, [], ◌∷◌, ◌⊎◌, inl, inr, length, slice_get, Option, Some, None, refl, sym, ap, subst, ◌∙◌, arith, eq-eqb}
use Rattle.std.proofs.lemmas.Option.{slice_get_within}
use Rattle.base.specs.Sets.{Has}
use Rattle.base.proofs.Numbers.{Same, Is, Not, compare}
use Rattle.law_machine.specs.Runs.{IsQuiet}
use Rattle.law_routing.specs.Theory.{Theory, TheoryLaws}
use Rattle.law_routing.specs.Net.{Net}
use Rattle.law_routing.specs.Server.{Publication}
use Rattle.law_routing.specs.Routing.{Network}
use Rattle.law_routing.specs.Rest.{IsOnwardWay, end_of}
use Rattle.law_routing.specs.AsOf.{IsRoutedAt, IsSettledAlong, IsReceivedAlong, times_delivered}
use Rattle.law_routing.specs.LegalRun.{states as states_of, IsSettledTo as IsSettledOnTree}
use Rattle.law_routing.proofs.Started.{delivered-once, delivered-run}
use Rattle.law_routing.proofs.Changed.{inbox-grows}
use Rattle.law_phases.specs.Trees.{JournalEntry, State, on, entries_on, trees_by, net_at, machine_at, at_phase, is_one_tree}
use Rattle.law_phases.specs.Moments.{Moment, command_phase}
use Rattle.law_phases.specs.Runs.{ActFinds, PhasedRun}
use Rattle.law_phases.specs.AtMoments.{states, phases, seen, phase_seen, moment_at, net_seen, states_on}
use Rattle.law_phases.specs.Routes.{IsDeliveredOnce}
use Rattle.law_phases.specs.Settled.{IsSettledHere, IsSettledOnWay, IsSettledTo, IsSettledOn, IsAllReceivedBy, IsDeliveredOnceBy}
use Rattle.law_phases.proofs.Nets.{net-one}
use Rattle.law_phases.proofs.Whole.{prefix, last-run, last-net, whole-ends}
use Rattle.law_phases.proofs.Entries.{happens-run, keeps-run}
use Rattle.law_phases.proofs.Shift.{work-like, settled-from}
use Rattle.law_phases.proofs.Parts.{part, part-run, offset, counts, like, one-tree, net-there, entry-there, after-all, since, unmapped}
use Rattle.law_phases.proofs.Routes.{part-run as run-at, index, like-here, after-here}
use Rattle.base.proofs.Lists.{get-below}

module _ (th : Theory) (laws : TheoryLaws th) (run : PhasedRun th) where
  -- an inbox only grows
  pub grows-one : (n : ℕ) (e : JournalEntry) → slice_get run.journal n ≡ Some e → (t c : ℕ) (p : Publication th) → Has p (((states th run n).state t).inbox c) → Has p (((states th run (suc n)).state t).inbox c)
  grows-one n e is t c p has =
      let there : Has p (((states_of th (run-at th laws run n e is) (index th laws run n e is)).state t).inbox c) = subst (λ z. Has p ((z t).inbox c)) (like-here th laws run n e is).state (subst (λ z. Has p (z c)) (sym (keeps-run th laws run n t).inbox) has) in
      let more = inbox-grows th laws (run-at th laws run n e is) t c p (index th laws run n e is) (suc (index th laws run n e is)) (omega arith) there in
      subst (λ (z : Network th (run-at th laws run n e is).net). Has p ((z.state t).inbox c)) (after-here th laws run n e is) more

  module _ (p : Publication th) (c : ℕ) (x : IsSettledOn th run p c) where
    abbrev q : ℕ
    q = p.publisher

    abbrev home : ℕ
    home = run.net.home p.publisher

    abbrev k : ℕ
    k = phase_seen th run x.moment

    abbrev Inbox : State th → Type 0
    Inbox s = Has p ((s.state (run.net.home c)).inbox c)

    -- in a beginning of the run whose tree is that of the publication
    module _ (n : ℕ) (short : n ≤ length run.journal) (later : x.moment < n) (one : trees_by run.net.later (phase_seen th run x.moment) ≡ trees_by run.net.later (phases th run n)) where
      abbrev first : ℕ
      first = (part th laws run n short).first

      abbrev N : Net th
      N = net_at th run.net first

      abbrev o : ℕ
      o = offset th laws run n short

      abbrev i : ℕ
      i = x.moment - o

      from-o : o ≤ x.moment
      from-o = since th laws run n short x.moment later one

      place : o + i ≡ x.moment
      place = omega (arith, from-o)

      inside : i < length (part th laws run n short).part
      inside = omega (arith, place, later, counts th laws run n short)

      same : N ≡ net_seen th run x.moment
      same = net-there th laws run n short i inside ∙ ap (net_seen th run) place

      first-k : trees_by run.net.later first ≡ trees_by run.net.later (phase_seen th run x.moment)
      first-k = (part th laws run n short).one ∙ sym one

      -- an entry of the part that routes it, as one of the whole
      routed-whole : (j t f : ℕ) → IsRoutedAt th N (states_of th (part-run th laws run n short)) (part th laws run n short).part j t f p.publisher p.ordinal p.notice → IsRoutedAt th N (states_on th run N) (entries_on th N run.journal) (o + j) t f p.publisher p.ordinal p.notice
      routed-whole j t f r =
          let l = slice_get_within (part th laws run n short).part j r.entry r.at in
          record { entry = r.entry; at = sym (entry-there th laws run n short j l) ∙ r.at; server = r.server; routes = work-like th N (states_on th run N (o + j)) (states_of th (part-run th laws run n short) j) t r.entry.act (like th laws run n short j l) ∙ r.routes }

      here-part : (behind : List ℕ) (t : ℕ) (path : List ℕ) → IsSettledHere th run N k p c behind t path → (j f : ℕ) → IsRoutedAt th N (states_of th (part-run th laws run n short)) (part th laws run n short).part j t f p.publisher p.ordinal p.notice
          → Rattle.law_routing.specs.AsOf.IsSettled th N (states_of th (part-run th laws run n short)) p.notice p.publisher c behind t path j
      here-part behind t path whole j f r =
          let l = slice_get_within (part th laws run n short).part j r.entry r.at in
          settled-from th N (states_on th run N) (states_of th (part-run th laws run n short)) o j (λ y h. like th laws run n short y (omega (arith, h, l))) (part th laws run n short).begins.fresh (part th laws run n short).begins.rest.none_pending p.notice p.publisher c behind t path j (omega arith)
          (whole (o + j) f (eq-eqb (trees_by run.net.later (phase_seen th run (o + j))) (trees_by run.net.later k) (sym (one-tree th laws run n short j l) ∙ first-k)) (routed-whole j t f r))

      along-part : (behind : List ℕ) (t : ℕ) (path : List ℕ) → IsSettledOnWay th run N k p c behind t path → IsSettledAlong th N (states_of th (part-run th laws run n short)) (part th laws run n short).part p.publisher p.ordinal p.notice c behind t path
      along-part behind t [] whole = here-part behind t [] whole
      along-part behind t (u ∷ path) whole = (here-part behind t (u ∷ path) whole.0, along-part (t ∷ behind) u path whole.1)

      taken-part : (t : ℕ) (path : List ℕ) → IsReceivedAlong th N (λ y. on th N (states th run n)) 0 p.publisher p.ordinal p.notice t path → IsReceivedAlong th N (states_of th (part-run th laws run n short)) (length (part th laws run n short).part) p.publisher p.ordinal p.notice t path
      taken-part t [] e = tt
      taken-part t (u ∷ path) (e, rest) = (
        (λ y s f g. subst (λ (z : Network th N). y < z.taken t u) (sym (after-all th laws run n short)) (e y s (sym (ap (λ (z : Network th N). slice_get (z.put t u) y) (after-all th laws run n short)) ∙ f) g)),
        taken-part u path rest,
      )

      on-part : IsReceivedAlong th N (λ y. on th N (states th run n)) 0 p.publisher p.ordinal p.notice home x.path → IsSettledOnTree th (part-run th laws run n short) p c
      on-part taken = record {
        here = x.here;
        moment = i;
        published = (let at : IsRoutedAt th N (states_on th run N) (entries_on th N run.journal) x.moment home (64 + q) p.publisher p.ordinal p.notice =
            subst (λ (z : Net th). IsRoutedAt th z (states_on th run z) (entries_on th z run.journal) x.moment home (64 + q) p.publisher p.ordinal p.notice) (sym same) x.published in
            record {
              entry = at.entry;
              at = entry-there th laws run n short i inside ∙ (ap (slice_get (entries_on th N run.journal)) place ∙ at.at);
              server = at.server;
              routes = sym (work-like th N (states_on th run N (o + i)) (states_of th (part-run th laws run n short) i) home at.entry.act (like th laws run n short i inside)) ∙ (ap (λ z. Rattle.law_routing.specs.Works.work_at th N (states_on th run N z) home at.entry.act) place ∙ at.routes);
            });
        path = x.path;
        way = subst (λ (z : Net th). IsOnwardWay th z home home x.path) (sym same) x.way;
        lives = subst (λ (z : Net th). Has c (run.net.clients (end_of th z home x.path))) (sym same) x.lives;
        settled = along-part [] home x.path (subst (λ (z : Net th). IsSettledOnWay th run z k p c [] home x.path) (sym same) x.settled);
        taken = taken-part home x.path taken;
      }

      pub delivered-part : IsReceivedAlong th N (λ y. on th N (states th run n)) 0 p.publisher p.ordinal p.notice home x.path → Inbox (states th run n)
      delivered-part taken = (delivered-run th laws (part-run th laws run n short) p c (on-part taken)).0

      -- where all is quiet all is received
      pub quiet-taken : IsQuiet (machine_at th run.net (phases th run n)) (at_phase th run.net (phases th run n) (states th run n)) → (t : ℕ) (path : List ℕ) → IsReceivedAlong th N (λ y. on th N (states th run n)) 0 p.publisher p.ordinal p.notice t path
      quiet-taken quiet t [] = tt
      quiet-taken quiet t (u ∷ path) = ((λ y s f g. (let l = slice_get_within ((states th run n).put t u) y s f in omega (arith, l, quiet.empty t u))), quiet-taken quiet u path)

    -- an entry publishes it
    published-entry : (e : JournalEntry) × (slice_get run.journal x.moment ≡ Some e)
    published-entry = unmapped th (net_seen th run x.moment) run.journal x.moment x.published.entry x.published.at

    -- the tree stays, or it is delivered
    abbrev Stays : ℕ → Type 0
    Stays n = (trees_by run.net.later (phase_seen th run x.moment) ≡ trees_by run.net.later (phases th run n)) ⊎ Inbox (states th run n)

    step : (n : ℕ) (e : JournalEntry) → slice_get run.journal n ≡ Some e → x.moment < n → Stays n → Stays (suc n)
    step n e is l (inr has) = inr (grows-one n e is (run.net.home c) c p has)
    step n e is l (inl one) = go (command_phase th run.net (moment_at th run n) e) (happens-run th laws run n e is).phase (happens-run th laws run n e is).ready
      where
        short : n ≤ length run.journal
        short = omega (arith, slice_get_within run.journal n e is)

        go : (o : Option ℕ) → phases th run (suc n) ≡ phase_seen th run n → ActFinds th run.net (states th run n) (phases th run n) o (seen th run n) (phase_seen th run n) → Stays (suc n)
        go None f (a, b) = inl (one ∙ ap (trees_by run.net.later) (b ∙ sym f))
        go (Some j) f (a, inl b) = inl (one ∙ ap (trees_by run.net.later) (b.0 ∙ a ∙ sym f))
        go (Some j) f (a, inr (b, t, quiet, g)) = by (compare (trees_by run.net.later (phases th run n)) (trees_by run.net.later j))
          where
            by : Same (trees_by run.net.later (phases th run n)) (trees_by run.net.later j) → Stays (suc n)
            by (Is y v) = inl (one ∙ (y ∙ ap (trees_by run.net.later) (a ∙ sym f)))
            by (Not y v) = inr (grows-one n e is (run.net.home c) c p (delivered-part n short l one (quiet-taken n short l one quiet home x.path)))

    stays : (d : ℕ) → suc x.moment + d ≤ length run.journal → Stays (suc x.moment + d)
    stays zero l = subst Stays (none (suc x.moment)) (inl (ap (trees_by run.net.later) (sym (happens-run th laws run x.moment published-entry.0 published-entry.1).phase)))
      where
        none : (a : ℕ) → a ≡ a + 0
        none a = omega arith
    stays (suc d) l =
        let e = get-below run.journal (suc x.moment + d) (omega (arith, l)) in
        subst Stays (more (suc x.moment) d) (step (suc x.moment + d) e.0 e.1 (omega arith) (stays d (omega (arith, l))))
      where
        more : (a b : ℕ) → suc (a + b) ≡ a + suc b
        more a b = omega arith

    stays-by : (n : ℕ) → n ≤ length run.journal → x.moment < n → Stays n
    stays-by n short later = subst Stays there (stays (n - suc x.moment) (omega (arith, there, short)))
      where
        there : suc x.moment + (n - suc x.moment) ≡ n
        there = omega (arith, later)

    -- after so many entries, where all its messages on the way are received, it is delivered
    pub arrived : (n : ℕ) → n ≤ length run.journal → x.moment < n
        → (is_one_tree th run.net (phase_seen th run x.moment) (phases th run n) ≡ true → IsReceivedAlong th (net_seen th run x.moment) (λ y. on th (net_seen th run x.moment) (states th run n)) 0 p.publisher p.ordinal p.notice home x.path) → Inbox (states th run n)
    arrived n short later taken = go (stays-by n short later)
      where
        go : Stays n → Inbox (states th run n)
        go (inr has) = has
        go (inl one) =
            let yes : is_one_tree th run.net (phase_seen th run x.moment) (phases th run n) ≡ true = eq-eqb (trees_by run.net.later (phase_seen th run x.moment)) (trees_by run.net.later (phases th run n)) one in
            let same-net : net_at th run.net (part th laws run n short).first ≡ net_seen th run x.moment = net-one th run.net (part th laws run n short).first (phase_seen th run x.moment) ((part th laws run n short).one ∙ sym one) in
            delivered-part n short later one (subst (λ (z : Net th). IsReceivedAlong th z (λ y. on th z (states th run n)) 0 p.publisher p.ordinal p.notice home x.path) (sym same-net) (taken yes))

  -- exactly once
  pub settled-by : (p : Publication th) (c : ℕ) (x : IsSettledOn th run p c) (n : ℕ) → IsAllReceivedBy th run n p c x → IsDeliveredOnceBy th run n p c
  settled-by p c x n all =
      let has = arrived p c x n all.within all.published all.taken in
      let z = prefix th laws run n in
      (has, subst (λ (y : Net th). times_delivered th y p.publisher p.ordinal (((states th run n).state (run.net.home c)).inbox c) ≡ 1) (last-net th laws z) (delivered-once th laws (last-run th laws z) p c (run.net.home c) has))

  pub settled-delivery : (p : Publication th) (c : ℕ) → IsSettledTo th run p c → IsDeliveredOnce th run p c
  settled-delivery p c x =
      let on-way : IsSettledOn th run p c = record { here = x.here; moment = x.moment; published = x.published; path = x.path; way = x.way; lives = x.lives; settled = x.settled } in
      let n = length run.journal in
      let long : suc x.moment ≤ length run.journal = slice_get_within run.journal x.moment (published-entry p c on-way).0 (published-entry p c on-way).1 in
      let once = settled-by p c on-way n (record {
        within = omega arith;
        published = long;
        taken = λ yes.
            subst (λ (z : State th). IsReceivedAlong th (net_seen th run x.moment) (λ y. on th (net_seen th run x.moment) z) 0 p.publisher p.ordinal p.notice (run.net.home p.publisher) x.path) (sym (whole-ends th laws run))
            (x.taken (subst (λ k. is_one_tree th run.net (phase_seen th run x.moment) k ≡ true) last-is yes));
      }) in
      subst (λ (z : Moment th run.net). Has p ((z.state.state (run.net.home c)).inbox c) × (times_delivered th (net_at th run.net z.phase) p.publisher p.ordinal ((z.state.state (run.net.home c)).inbox c) ≡ 1)) at-end once
    where
      at-end : Rattle.law_phases.specs.AtMoments.moment_at th run (length run.journal) ≡ record { state = run.end; phase = run.last }
      at-end = Rattle.law_phases.proofs.Moments.run-ends th run.net (Rattle.law_phases.specs.Moments.opening_moment th run.net).state 0 run.journal run.end run.last run.legal

      last-is : phases th run (length run.journal) ≡ run.last
      last-is = ap (λ (z : Moment th run.net). z.phase) at-end
