-- The phases of a client's deliveries never fall in a hierarchy, since they don't among its peers.
use Rattle.std.proofs.Common.{◌≡◌, ℕ, zero, suc, ◌≤◌, ◌<◌, List, [], ◌∷◌, map, take, slice_get, Some, refl, sym, ap, subst, ◌∙◌, arith}
use Rattle.base.specs.Sets.{Has}
use Rattle.law_routing.specs.Theory.{Theory, TheoryLaws}
use Rattle.law_routing.specs.Clients.{ordinal}
use Rattle.law_routing.specs.Server.{Publication}
use Rattle.law_routing.specs.Owed.{IsPublication}
use Rattle.law_routing.specs.LegalRun.{IsAllowedTo as IsPeerAllowed}
use Rattle.law_routing.proofs.Current.{one-publication}
use Rattle.law_routing.proofs.Flooded.{allowed-run}
use Rattle.law_routing.proofs.Logged.{by-phase as peers-by-phase}
use Rattle.law_hierarchy.specs.HierarchyRun.{HierarchyRun, IsByPhase}
use Rattle.law_hierarchy.proofs.Wide.{wide, wide-laws}
use Rattle.law_hierarchy.proofs.Listener.{peers, in-lives, wide-ordinal}
use Rattle.law_hierarchy.proofs.Shadow.{given}
use Rattle.law_hierarchy.proofs.Listened.{peer-run, h}
use Rattle.law_hierarchy.proofs.Carried.{Accepts, accepts-off}
use Rattle.law_hierarchy.proofs.Given.{inbox-same, script-same}
use Rattle.base.proofs.Sets.{get-has, map-has}
use Rattle.base.proofs.Lists.{get-map}

module _ (th : Theory) (laws : TheoryLaws th) (run : HierarchyRun th) where
  -- what a client was given is a publication of the next phase among peers
  record InBoth (p : Publication th) (k : ℕ) : Type 0 where
    wider : IsPublication (wide th) (peers th run.net) p.publisher p.ordinal (suc k) (Some p.notice)

  in-both : (n t c : ℕ) (p : Publication th) (k : ℕ) → Has c (run.net.clients t) → Has p (((h th laws run n).state t).inbox c) → IsPublication th run.net p.publisher p.ordinal k p.notice → InBoth p k
  in-both n t c p k lives has x =
      let r : IsPeerAllowed (wide th) (peer-run th laws run) (given th p) c = allowed-run (wide th) (wide-laws th laws) (peer-run th laws run) n t c (given th p) (in-lives th run.net run.laws t c lives) (subst (λ z. Has (given th p) z) (sym (inbox-same th laws run n t c lives)) (map-has (given th) (((h th laws run n).state t).inbox c) p has)) in
      by r.0 r.1 (accepts-off th laws run.net run.laws p.publisher r.1.index r.1.command p.notice r.1.at r.1.publishes)
    where
      by : (j : ℕ) (y : IsPublication (wide th) (peers th run.net) p.publisher p.ordinal j (Some p.notice)) → Accepts th laws run.net run.laws p.publisher y.index y.command p.notice → InBoth p k
      by j y a =
          let mine : IsPublication th run.net p.publisher p.ordinal a.next.phase p.notice = record {
            index = y.index;
            command = a.next;
            at = a.at;
            publishes = a.publishes;
            ordinal = sym (ap (λ z. ordinal (wide th) (take (suc y.index) z)) (script-same th laws run p.publisher a.own) ∙ wide-ordinal th run.net (run.net.script p.publisher) (suc y.index)) ∙ y.ordinal;
            allowed = a.allowed;
            phase = refl;
          } in
          let same : a.next.phase ≡ k = (one-publication th run.net p.publisher p.ordinal a.next.phase k p.notice p.notice mine x).0 in
          record { wider = subst (λ z. IsPublication (wide th) (peers th run.net) p.publisher p.ordinal z (Some p.notice)) (sym y.phase ∙ (a.phase ∙ ap suc same)) y }

  pub by-phase : (n t c : ℕ) → Has c (run.net.clients t) → IsByPhase th run n t c
  by-phase n t c lives p q i j k l less e f x y =
      let a = in-both n t c p k lives (get-has (((h th laws run n).state t).inbox c) i p e) x in
      let b = in-both n t c q l lives (get-has (((h th laws run n).state t).inbox c) j q f) y in
      let there = λ (z : Publication th) (m : ℕ) (g : slice_get (((h th laws run n).state t).inbox c) m ≡ Some z).
      ap (λ w. slice_get w m) (inbox-same th laws run n t c lives) ∙ get-map (given th) (((h th laws run n).state t).inbox c) m z g in
      let up : suc k ≤ suc l = peers-by-phase (wide th) (wide-laws th laws) (peer-run th laws run) (λ t c. refl) n t c i j (given th p) (given th q) (suc k) (suc l) less (there p i e) (there q j f) a.wider b.wider in
      omega (arith, up)
