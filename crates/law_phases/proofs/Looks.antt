-- What servers hold and publish, and the moments to look back to, at each moment of a run.
use Rattle.std.proofs.Common.{◌≡◌, ℕ, zero, suc, ◌+◌, ◌-◌, ◌≤◌, ◌<◌, List, [], ◌∷◌, ◌⊎◌, inl, inr, length, slice_get, refl, sym, ap, subst, ◌∙◌, arith}
use Rattle.base.specs.Sets.{Has}
use Rattle.law_routing.specs.Theory.{Theory, TheoryLaws}
use Rattle.law_routing.specs.Net.{Net}
use Rattle.law_routing.specs.Server.{sent, sent_adverts}
use Rattle.law_routing.specs.Routing.{Network}
use Rattle.law_routing.specs.Rest.{IsAtRest, IsOnwardWay}
use Rattle.law_routing.specs.AsOf.{calm, back, as_of}
use Rattle.law_routing.specs.LegalRun.{LegalRun, states as states_of}
use Rattle.law_routing.proofs.Started.{held-run, installed-run}
use Rattle.law_routing.proofs.Flooded.{not-before-rest, not-before-rest-plain}
use Rattle.law_phases.specs.Trees.{trees_by, net_at}
use Rattle.law_phases.specs.Moments.{Moment, opening_moment}
use Rattle.law_phases.specs.Runs.{PhasedRun}
use Rattle.law_phases.specs.AtMoments.{phases, seen, phase_seen, found_at, net_seen, states_on}
use Rattle.law_phases.proofs.Nets.{net-one}
use Rattle.law_phases.proofs.Entries.{still, happens-run}
use Rattle.law_phases.proofs.Shift.{Like, calm-shift, calm-low, back-shift, back-low, as-of-shift}
use Rattle.law_phases.proofs.Parts.{part, part-run, offset, counts, filled, like, one-tree, after-all, since}
use Rattle.std.proofs.lemmas.Bool.{cases_lt}
use Rattle.base.proofs.Lists.{get-below}

module _ (th : Theory) (laws : TheoryLaws th) (run : PhasedRun th) where
  -- a moment as one of the last part of the first size entries, at which the tree is that of the part
  pub record Stands (m : ℕ) : Type 0 where
    pub size : ℕ
    pub short : size ≤ length run.journal
    pub index : ℕ
    pub place : offset th laws run size short + index ≡ m
    pub like : (j : ℕ) → j ≤ index → Like th (net_at th run.net (part th laws run size short).first) (states_on th run (net_at th run.net (part th laws run size short).first) (offset th laws run size short + j)) (states_of th (part-run th laws run size short) j)
    pub one : trees_by run.net.later (part th laws run size short).first ≡ trees_by run.net.later (phase_seen th run m)
    pub since-tree : (x : ℕ) → x ≤ m → trees_by run.net.later (phase_seen th run x) ≡ trees_by run.net.later (phase_seen th run m) → offset th laws run size short ≤ x

  past-end : {X : Type 0} (xs : List X) → slice_get xs (length xs) ≡ Rattle.std.proofs.Common.None
  past-end [] = refl
  past-end (x ∷ xs) = past-end xs

  seen-end : found_at th run (length run.journal) ≡ Rattle.law_phases.specs.AtMoments.moment_at th run (length run.journal)
  seen-end = (still th run.net (opening_moment th run.net) run.journal (length run.journal) (past-end run.journal)).1

  stands-before : (m : ℕ) → suc m ≤ length run.journal → Stands m
  stands-before m l = record {
    size = suc m;
    short = l;
    index = length (part th laws run (suc m) l).part - 1;
    place = place;
    like = λ j h. like th laws run (suc m) l j (omega (arith, h, full));
    one = one-tree th laws run (suc m) l (length (part th laws run (suc m) l).part - 1) (omega (arith, full)) ∙ ap (λ z. trees_by run.net.later (phase_seen th run z)) place;
    since-tree = λ x h e. since th laws run (suc m) l x (omega (arith, h)) (e ∙ ap (trees_by run.net.later) (sym (happens-run th laws run m (get-below run.journal m l).0 (get-below run.journal m l).1).phase));
  }
    where
      full : suc (length (part th laws run (suc m) l).part - 1) ≡ length (part th laws run (suc m) l).part
      full = go (length (part th laws run (suc m) l).part) (filled th laws run (suc m) l (omega arith))
        where
          go : (n : ℕ) → (n ≡ 0 → ⊥) → suc (n - 1) ≡ n
          go zero f = absurd (f refl)
          go (suc n) f = omega arith

      place : offset th laws run (suc m) l + (length (part th laws run (suc m) l).part - 1) ≡ m
      place = omega (arith, full, counts th laws run (suc m) l)

  stands-last : Stands (length run.journal)
  stands-last = record {
    size = n;
    short = short;
    index = length (part th laws run n short).part;
    place = counts th laws run n short;
    like = λ j h. by j h (cases_lt j (length (part th laws run n short).part));
    one = (part th laws run n short).one ∙ phase-end;
    since-tree = λ x h e. go x h e (cases_lt x n);
  }
    where
      n : ℕ
      n = length run.journal

      short : length run.journal ≤ length run.journal
      short = omega arith

      phase-end : trees_by run.net.later (phases th run (length run.journal)) ≡ trees_by run.net.later (phase_seen th run (length run.journal))
      phase-end = ap (λ (z : Moment th run.net). trees_by run.net.later z.phase) (sym seen-end)

      at-end : Like th (net_at th run.net (part th laws run n short).first) (states_on th run (net_at th run.net (part th laws run n short).first) (length run.journal)) (states_of th (part-run th laws run n short) (length (part th laws run n short).part))
      at-end = record {
        state = ap (λ (z : Moment th run.net). z.state.state) seen-end ∙ ap (λ (z : Network th (net_at th run.net (part th laws run n short).first)). z.state) (sym (after-all th laws run n short));
        put = ap (λ (z : Moment th run.net). z.state.put) seen-end ∙ ap (λ (z : Network th (net_at th run.net (part th laws run n short).first)). z.put) (sym (after-all th laws run n short));
        taken = ap (λ (z : Moment th run.net). z.state.taken) seen-end ∙ ap (λ (z : Network th (net_at th run.net (part th laws run n short).first)). z.taken) (sym (after-all th laws run n short));
      }

      by : (j : ℕ) → j ≤ length (part th laws run n short).part → (j < length (part th laws run n short).part) ⊎ (length (part th laws run n short).part ≤ j)
          → Like th (net_at th run.net (part th laws run n short).first) (states_on th run (net_at th run.net (part th laws run n short).first) (offset th laws run n short + j)) (states_of th (part-run th laws run n short) j)
      by j h (inl l) = like th laws run n short j l
      by j h (inr l) =
          let same : length (part th laws run n short).part ≡ j = omega (arith, h, l) in
          subst (λ z. Like th (net_at th run.net (part th laws run n short).first) (states_on th run (net_at th run.net (part th laws run n short).first) (offset th laws run n short + z)) (states_of th (part-run th laws run n short) z)) same
          (subst (λ z. Like th (net_at th run.net (part th laws run n short).first) (states_on th run (net_at th run.net (part th laws run n short).first) z) (states_of th (part-run th laws run n short) (length (part th laws run n short).part))) (sym (counts th laws run n short)) at-end)

      go : (x : ℕ) → x ≤ n → trees_by run.net.later (phase_seen th run x) ≡ trees_by run.net.later (phase_seen th run n) → (x < n) ⊎ (n ≤ x) → offset th laws run n short ≤ x
      go x h e (inl l) = since th laws run n short x l (e ∙ sym phase-end)
      go x h e (inr l) = omega (arith, l, counts th laws run n short)

  pub stands : (m : ℕ) → m ≤ length run.journal → Stands m
  stands m l = go (cases_lt m (length run.journal))
    where
      go : (m < length run.journal) ⊎ (length run.journal ≤ m) → Stands m
      go (inl h) = stands-before m h
      go (inr h) = subst Stands (omega (arith, l, h)) stands-last

  module _ (m : ℕ) (within : m ≤ length run.journal) where
    abbrev s : Stands m
    s = stands m within

    abbrev N : Net th
    N = net_at th run.net (part th laws run s.size s.short).first

    abbrev L : LegalRun th
    L = part-run th laws run s.size s.short

    abbrev o : ℕ
    o = offset th laws run s.size s.short

    net-is : N ≡ net_seen th run m
    net-is = net-one th run.net (part th laws run s.size s.short).first (phase_seen th run m) s.one

    here : Like th N (states_on th run N m) (states_of th L s.index)
    here = subst (λ z. Like th N (states_on th run N z) (states_of th L s.index)) s.place (s.like s.index (omega arith))

    pub held : (u t : ℕ) → Has t ((net_seen th run m).links u) → (((seen th run m).state t).subs u ≡ sent th (net_seen th run m) ((seen th run (back th (net_seen th run m) (states_on th run (net_seen th run m)) t u m)).state u) u t) × (((seen th run m).state t).advs u ≡ sent_adverts th (net_seen th run m) ((seen th run (back th (net_seen th run m) (states_on th run (net_seen th run m)) t u m)).state u) u t)
    held u t = subst (λ (z : Net th). Has t (z.links u) → (((seen th run m).state t).subs u ≡ sent th z ((seen th run (back th z (states_on th run z) t u m)).state u) u t) × (((seen th run m).state t).advs u ≡ sent_adverts th z ((seen th run (back th z (states_on th run z) t u m)).state u) u t)) net-is one
      where
        b : ℕ
        b = back th N (states_of th L) t u s.index

        low : b ≤ s.index
        low = back-low th N (states_on th run N) (states_of th L) o s.index s.like (part th laws run s.size s.short).begins.fresh (part th laws run s.size s.short).begins.rest.none_pending t u s.index

        looked : back th N (states_on th run N) t u m ≡ o + b
        looked = ap (back th N (states_on th run N) t u) (sym s.place) ∙ back-shift th N (states_on th run N) (states_of th L) o s.index s.like (part th laws run s.size s.short).begins.fresh (part th laws run s.size s.short).begins.rest.none_pending t u s.index (omega arith)

        there : (states_of th L b).state u ≡ (seen th run (back th N (states_on th run N) t u m)).state u
        there = sym (ap (λ z. z u) (s.like b low).state) ∙ ap (λ z. (seen th run z).state u) (sym looked)

        one : Has t (N.links u) → (((seen th run m).state t).subs u ≡ sent th N ((seen th run (back th N (states_on th run N) t u m)).state u) u t) × (((seen th run m).state t).advs u ≡ sent_adverts th N ((seen th run (back th N (states_on th run N) t u m)).state u) u t)
        one near =
            let h = held-run th laws L u t s.index near in (
              ap (λ z. (z t).subs u) here.state ∙ (h.0 ∙ ap (λ z. sent th N z u t) there),
              ap (λ z. (z t).advs u) here.state ∙ (h.1 ∙ ap (λ z. sent_adverts th N z u t) there),
            )

    pub installed : (t i : ℕ) → ((seen th run m).state t).installed i ≡ ((seen th run (calm th (net_seen th run m) (states_on th run (net_seen th run m)) t m)).state t).subs i
    installed t i = subst (λ (z : Net th). ((seen th run m).state t).installed i ≡ ((seen th run (calm th z (states_on th run z) t m)).state t).subs i) net-is one
      where
        c : ℕ
        c = calm th N (states_of th L) t s.index

        low : c ≤ s.index
        low = calm-low th N (states_on th run N) (states_of th L) o s.index s.like (part th laws run s.size s.short).begins.fresh (part th laws run s.size s.short).begins.rest.none_pending t s.index

        looked : calm th N (states_on th run N) t m ≡ o + c
        looked = ap (calm th N (states_on th run N) t) (sym s.place) ∙ calm-shift th N (states_on th run N) (states_of th L) o s.index s.like (part th laws run s.size s.short).begins.fresh (part th laws run s.size s.short).begins.rest.none_pending t s.index (omega arith)

        one : ((seen th run m).state t).installed i ≡ ((seen th run (calm th N (states_on th run N) t m)).state t).subs i
        one = ap (λ z. (z t).installed i) here.state ∙ (installed-run th laws L t s.index i ∙ (sym (ap (λ z. (z t).subs i) (s.like c low).state) ∙ ap (λ z. ((seen th run z).state t).subs i) (sym looked)))

    -- no moment to look back to lies before a moment at rest on the same tree
    pub not-behind : (rest prior t : ℕ) (path : List ℕ) → rest ≤ m → trees_by run.net.later (phase_seen th run rest) ≡ trees_by run.net.later (phase_seen th run m) → IsAtRest th (net_seen th run m) (states_on th run (net_seen th run m) rest) → IsOnwardWay th (net_seen th run m) prior t path
        → (rest ≤ as_of th (net_seen th run m) (states_on th run (net_seen th run m)) t path (calm th (net_seen th run m) (states_on th run (net_seen th run m)) t m)) × (rest ≤ as_of th (net_seen th run m) (states_on th run (net_seen th run m)) t path m)
    not-behind rest prior t path le same = subst (λ (z : Net th). IsAtRest th z (states_on th run z rest) → IsOnwardWay th z prior t path → (rest ≤ as_of th z (states_on th run z) t path (calm th z (states_on th run z) t m)) × (rest ≤ as_of th z (states_on th run z) t path m)) net-is one
      where
        from-o : o ≤ rest
        from-o = s.since-tree rest le same

        r : ℕ
        r = rest - o

        at-r : o + r ≡ rest
        at-r = omega (arith, from-o)

        low : r ≤ s.index
        low = omega (arith, at-r, le, s.place)

        c : ℕ
        c = calm th N (states_of th L) t s.index

        calm-under : c ≤ s.index
        calm-under = calm-low th N (states_on th run N) (states_of th L) o s.index s.like (part th laws run s.size s.short).begins.fresh (part th laws run s.size s.short).begins.rest.none_pending t s.index

        looked : calm th N (states_on th run N) t m ≡ o + c
        looked = ap (calm th N (states_on th run N) t) (sym s.place) ∙ calm-shift th N (states_on th run N) (states_of th L) o s.index s.like (part th laws run s.size s.short).begins.fresh (part th laws run s.size s.short).begins.rest.none_pending t s.index (omega arith)

        ended : (j : ℕ) → j ≤ s.index → as_of th N (states_on th run N) t path (o + j) ≡ o + as_of th N (states_of th L) t path j
        ended j l = as-of-shift th N (states_on th run N) (states_of th L) o s.index s.like (part th laws run s.size s.short).begins.fresh (part th laws run s.size s.short).begins.rest.none_pending t path j l

        rests : IsAtRest th N (states_on th run N rest) → IsAtRest th N (states_of th L r)
        rests x =
            let l = s.like r low in
            let y : IsAtRest th N (states_on th run N (o + r)) = subst (λ z. IsAtRest th N (states_on th run N z)) (sym at-r) x in
            let clockless : IsAtRest th N (record { state = (states_on th run N (o + r)).state; clock = (states_of th L r).clock; put = (states_on th run N (o + r)).put; taken = (states_on th run N (o + r)).taken }) =
            record { empty = y.empty; none_pending = y.none_pending; installed = y.installed; filters = y.filters; adverts = y.adverts; subs = y.subs; advs = y.advs } in
            let path : record { state = (states_on th run N (o + r)).state; clock = (states_of th L r).clock; put = (states_on th run N (o + r)).put; taken = (states_on th run N (o + r)).taken } ≡ states_of th L r = (λ i. record { state = l.state i; clock = (states_of th L r).clock; put = l.put i; taken = l.taken i }) in
            subst (IsAtRest th N) path clockless

        one : IsAtRest th N (states_on th run N rest) → IsOnwardWay th N prior t path → (rest ≤ as_of th N (states_on th run N) t path (calm th N (states_on th run N) t m)) × (rest ≤ as_of th N (states_on th run N) t path m)
        one x way =
            let a = not-before-rest th laws L r s.index prior t path (rests x) low way in
            let b = not-before-rest-plain th laws L r s.index prior t path (rests x) low way in (
              omega (arith, a, at-r, ap (as_of th N (states_on th run N) t path) looked, ended c calm-under),
              omega (arith, b, at-r, ap (as_of th N (states_on th run N) t path) (sym s.place), ended s.index (omega arith)),
            )
