-- Laws of a run's entries, by the part that an entry lies in.
use Rattle.std.proofs.Common.{◌≡◌, ◌↔◌, ℕ, zero, suc, ◌+◌, ◌-◌, ◌≤◌, false, true, [], ◌∷◌, ◌++◌, length, take, slice_get, Some, refl, sym, ap, subst, ◌∙◌, arith}
use Rattle.std.proofs.lemmas.Option.{slice_get_within}
use Rattle.base.specs.Sets.{Has}
use Rattle.law_routing.specs.Theory.{Theory, TheoryLaws}
use Rattle.law_routing.specs.Net.{Net}
use Rattle.law_routing.specs.Server.{Publication}
use Rattle.law_routing.specs.Routing.{Network}
use Rattle.law_routing.specs.Rest.{filters_of}
use Rattle.law_routing.specs.AsOf.{calm, IsRoutedAt, IsWantedBeyond}
use Rattle.law_routing.specs.LegalRun.{LegalRun, states as states_of, Routed as RoutedOnTree}
use Rattle.law_routing.proofs.Started.{pruned-run, sent-run, in-force-run}
use Rattle.law_phases.specs.Trees.{JournalEntry, on, entries_on, net_at}
use Rattle.law_phases.specs.Runs.{PhasedRun}
use Rattle.law_phases.specs.AtMoments.{states, phases, net_seen, states_on}
use Rattle.law_phases.specs.Routes.{Routed, IsSentTo, IsWanted, IsDelivered, IsInForce}
use Rattle.law_phases.proofs.Pieces.{Piece}
use Rattle.law_phases.proofs.Whole.{prefix, piece, last-run}
use Rattle.law_phases.proofs.Entries.{keeps-run}
use Rattle.law_phases.proofs.Parts.{unmapped, filled, counts, like as like-there, net-there, entry-there, after-all}
use Rattle.law_phases.proofs.Shift.{Like, work-like, calm-shift, calm-low, filters-shift, wanted-to, wanted-from}

module _ (th : Theory) (laws : TheoryLaws th) (run : PhasedRun th) where
  -- an entry lies in the last part of the run up to it
  module _ (m : ℕ) (e : JournalEntry) (is : slice_get run.journal m ≡ Some e) where
    within : suc m ≤ length run.journal
    within = slice_get_within run.journal m e is

    abbrev pub part : Piece th laws run.net run.laws (take (suc m) run.journal) (states th run (suc m)) (phases th run (suc m))
    part = piece th laws (prefix th laws run (suc m))

    -- as a run over one tree
    abbrev pub part-run : LegalRun th
    part-run = last-run th laws (prefix th laws run (suc m))

    -- after so many entries it begins
    abbrev pub offset : ℕ
    offset = length part.before

    -- in it so many entries are before this one
    abbrev pub index : ℕ
    index = length part.part - 1

    pub last-one : suc index ≡ length part.part
    last-one = go (length part.part) (filled th laws run (suc m) within (omega arith))
      where
        go : (n : ℕ) → (n ≡ 0 → ⊥) → suc (n - 1) ≡ n
        go zero f = absurd (f refl)
        go (suc n) f = omega arith

    pub place : offset + index ≡ m
    place = omega (arith, counts th laws run (suc m) within, last-one)

    pub like : (j : ℕ) → j ≤ index → Like th (net_at th run.net part.first) (states_on th run (net_at th run.net part.first) (offset + j)) (states_of th part-run j)
    like j l = like-there th laws run (suc m) within j (omega (arith, l, last-one))

    pub like-here : Like th (net_at th run.net part.first) (states_on th run (net_at th run.net part.first) m) (states_of th part-run index)
    like-here = subst (λ z. Like th (net_at th run.net part.first) (states_on th run (net_at th run.net part.first) z) (states_of th part-run index)) place (like index (omega arith))

    pub net-here : net_at th run.net part.first ≡ net_seen th run m
    net-here = net-there th laws run (suc m) within index (omega (arith, last-one)) ∙ ap (net_seen th run) place

    pub entry-here : slice_get part.part index ≡ slice_get (entries_on th (net_at th run.net part.first) run.journal) m
    entry-here = entry-there th laws run (suc m) within index (omega (arith, last-one)) ∙ ap (slice_get (entries_on th (net_at th run.net part.first) run.journal)) place

    pub after-here : states_of th part-run (suc index) ≡ on th (net_at th run.net part.first) (states th run (suc m))
    after-here = ap (states_of th part-run) last-one ∙ after-all th laws run (suc m) within

    -- a routing entry
    abbrev pub IsRouting : Net th → ℕ → ℕ → Publication th → Type 0
    IsRouting z server interface p = IsRoutedAt th z (states_on th run z) (entries_on th z run.journal) m server interface p.publisher p.ordinal p.notice

    abbrev pub routed-here : (t i : ℕ) (p : Publication th) → IsRouting (net_at th run.net part.first) t i p → RoutedOnTree th part-run
    routed-here t i p at = record {
      moment = index;
      server = t;
      interface = i;
      publication = p;
      at = record { entry = at.entry; at = entry-here ∙ at.at; server = at.server; routes = sym (work-like th (net_at th run.net part.first) (states_on th run (net_at th run.net part.first) m) (states_of th part-run index) t at.entry.act like-here) ∙ at.routes };
    }

    pub pruned-here : (t i u : ℕ) (p : Publication th) (at : IsRouting (net_seen th run m) t i p) → Has u at.entry.outs → IsWantedBeyond th (net_seen th run m) (states_on th run (net_seen th run m)) p.notice t u m
    pruned-here t i u p = subst (λ (z : Net th). (at : IsRouting z t i p) → Has u at.entry.outs → IsWantedBeyond th z (states_on th run z) p.notice t u m) net-here one
      where
        one : (at : IsRouting (net_at th run.net part.first) t i p) → Has u at.entry.outs → IsWantedBeyond th (net_at th run.net part.first) (states_on th run (net_at th run.net part.first)) p.notice t u m
        one at has =
            subst (IsWantedBeyond th (net_at th run.net part.first) (states_on th run (net_at th run.net part.first)) p.notice t u) place
            (wanted-to th (net_at th run.net part.first) (states_on th run (net_at th run.net part.first)) (states_of th part-run) offset index like part.begins.fresh part.begins.rest.none_pending p.notice t u index (omega arith) (pruned-run th laws part-run (routed-here t i p at) u has))

    pub sent-here : run.net.adverts ≡ false → (t i u : ℕ) (p : Publication th) (at : IsRouting (net_seen th run m) t i p) → Has u ((net_seen th run m).links t) → (u ≡ i → ⊥) → IsWantedBeyond th (net_seen th run m) (states_on th run (net_seen th run m)) p.notice t u m → Has u at.entry.outs
    sent-here off t i u p = subst (λ (z : Net th). (at : IsRouting z t i p) → Has u (z.links t) → (u ≡ i → ⊥) → IsWantedBeyond th z (states_on th run z) p.notice t u m → Has u at.entry.outs) net-here one
      where
        one : (at : IsRouting (net_at th run.net part.first) t i p) → Has u ((net_at th run.net part.first).links t) → (u ≡ i → ⊥) → IsWantedBeyond th (net_at th run.net part.first) (states_on th run (net_at th run.net part.first)) p.notice t u m → Has u at.entry.outs
        one at near other wanted =
            sent-run th laws part-run off (routed-here t i p at) u near other
            (wanted-from th (net_at th run.net part.first) (states_on th run (net_at th run.net part.first)) (states_of th part-run) offset index like part.begins.fresh part.begins.rest.none_pending p.notice t u index (omega arith)
            (subst (IsWantedBeyond th (net_at th run.net part.first) (states_on th run (net_at th run.net part.first)) p.notice t u) (sym place) wanted))

    -- a filter that matches was in the client's list at the last calm moment, on the tree of a net
    abbrev pub IsForced : Net th → ℕ → ℕ → th.Notice → Type 0
    IsForced z t c n = (f : th.Filter) × Has f (filters_of th z (states_on th run z (calm th z (states_on th run z) t m)) c) × (th.matches n f ≡ true)

    pub forced-here : (t i c : ℕ) (p : Publication th) (at : IsRouting (net_seen th run m) t i p) → Has c (run.net.clients t) → (((states th run (suc m)).state t).inbox c ≡ ((states th run m).state t).inbox c ++ p ∷ []) ↔ IsForced (net_seen th run m) t c p.notice
    forced-here t i c p = subst (λ (z : Net th). (at : IsRouting z t i p) → Has c (run.net.clients t) → (((states th run (suc m)).state t).inbox c ≡ ((states th run m).state t).inbox c ++ p ∷ []) ↔ IsForced z t c p.notice) net-here one
      where
        z : Net th
        z = net_at th run.net part.first

        known : filters_of th z (states_on th run z (calm th z (states_on th run z) t m)) c ≡ filters_of th z (states_of th part-run (calm th z (states_of th part-run) t index)) c
        known =
            ap (λ x. filters_of th z (states_on th run z (calm th z (states_on th run z) t x)) c) (sym place)
            ∙ (ap (λ x. filters_of th z (states_on th run z x) c) (calm-shift th z (states_on th run z) (states_of th part-run) offset index like part.begins.fresh part.begins.rest.none_pending t index (omega arith))
            ∙ filters-shift th z (states_on th run z) (states_of th part-run) offset index like part.begins.fresh part.begins.rest.none_pending c (calm th z (states_of th part-run) t index) (calm-low th z (states_on th run z) (states_of th part-run) offset index like part.begins.fresh part.begins.rest.none_pending t index))

        before : ((states th run m).state t).inbox c ≡ ((states_of th part-run index).state t).inbox c
        before = ap (λ z. z c) (sym (keeps-run th laws run m t).inbox) ∙ ap (λ z. (z t).inbox c) like-here.state

        after : ((states th run (suc m)).state t).inbox c ≡ ((states_of th part-run (suc index)).state t).inbox c
        after = ap (λ (z : Network th (net_at th run.net part.first)). (z.state t).inbox c) (sym after-here)

        one : (at : IsRouting (net_at th run.net part.first) t i p) → Has c (run.net.clients t) → (((states th run (suc m)).state t).inbox c ≡ ((states th run m).state t).inbox c ++ p ∷ []) ↔ IsForced (net_at th run.net part.first) t c p.notice
        one at lives =
            let both = in-force-run th laws part-run (routed-here t i p at) c lives in (
              (λ d. (let x = both.0 (sym after ∙ (d ∙ ap (λ z. z ++ p ∷ []) before)) in (x.0, subst (Has x.0) (sym known) x.1, x.2))),
              (λ f. after ∙ (both.1 (f.0, subst (Has f.0) known f.1, f.2) ∙ ap (λ z. z ++ p ∷ []) (sym before))),
            )

  pub pruned : (r : Routed th run) (u : ℕ) → IsSentTo th run r u → IsWanted th run r u
  pruned r u has = let e = unmapped th (net_seen th run r.moment) run.journal r.moment r.at.entry r.at.at in pruned-here r.moment e.0 e.1 r.server r.interface u r.publication r.at has

  pub sent-where-wanted : run.net.adverts ≡ false → (r : Routed th run) (u : ℕ) → Has u ((net_seen th run r.moment).links r.server) → (u ≡ r.interface → ⊥) → IsWanted th run r u → IsSentTo th run r u
  sent-where-wanted off r u near other wanted = let e = unmapped th (net_seen th run r.moment) run.journal r.moment r.at.entry r.at.at in sent-here r.moment e.0 e.1 off r.server r.interface u r.publication r.at near other wanted

  pub in-force : (r : Routed th run) (c : ℕ) → Has c (run.net.clients r.server) → IsDelivered th run r c ↔ IsInForce th run r c
  in-force r c lives = let e = unmapped th (net_seen th run r.moment) run.journal r.moment r.at.entry r.at.at in forced-here r.moment e.0 e.1 r.server r.interface c r.publication r.at lives
