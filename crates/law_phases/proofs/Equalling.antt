-- Where each publication is owed to some client beyond a link, it carries as many as plain flooding puts there.
use Rattle.std.proofs.Common.{◌≡◌, ℕ, suc, ◌==◌, Bool, true, false, not, ◌&&◌, cond, List, [], ◌∷◌, inl, length, take, slice_get, Some, refl, sym, ap, subst, ◌∙◌, arith, eq-eqb, eqb-true}
use Rattle.std.proofs.lemmas.Option.{slice_get_within}
use Rattle.base.specs.Sets.{Has}
use Rattle.base_tree.specs.Hops.{side}
use Rattle.law_routing.specs.Theory.{Theory, TheoryLaws}
use Rattle.law_routing.specs.Net.{Net, NetLaws}
use Rattle.law_routing.specs.Clients.{ordinal}
use Rattle.law_routing.specs.Server.{Publication, is_among}
use Rattle.law_routing.specs.Works.{work_at}
use Rattle.law_routing.specs.Routing.{Network, NetEntry}
use Rattle.law_routing.specs.AsOf.{IsRoutedAt}
use Rattle.law_routing.specs.Order.{ordinals_maybe, ordinals_of_entry, ordinals_put, ordinals_routed}
use Rattle.law_routing.specs.Rest.{IsOnwardWay, end_of}
use Rattle.law_routing.specs.LegalRun.{states as states_of}
use Rattle.law_routing.proofs.Current.{one-publication}
use Rattle.law_routing.proofs.Laws.{one-has}
use Rattle.law_routing.proofs.Paths.{Path, path-to, way-by-hops}
use Rattle.law_routing.proofs.Sides.{side-hop}
use Rattle.law_routing.proofs.Started.{ordered-run}
use Rattle.law_phases.specs.Trees.{JournalEntry, State, net_at, tree_at}
use Rattle.law_phases.specs.Runs.{PhasedRun}
use Rattle.law_phases.specs.AtMoments.{phase_seen, net_seen, EndsDrained}
use Rattle.law_phases.specs.Owing.{IsPublishedIn}
use Rattle.law_phases.specs.Routes.{IsRoutedOn}
use Rattle.law_phases.proofs.Passing.{publication-here}
use Rattle.law_phases.proofs.Pieces.{published-at}
use Rattle.law_phases.proofs.Routes.{part-run, index, net-here, after-here, routed-here}
use Rattle.law_phases.proofs.Whole.{due-once-in, is-due-in, whole-ends}
use Rattle.law_phases.specs.Economy.{flooded, flooded_by, floods_over}
use Rattle.law_phases.specs.Economy.{AreClients, IsAllOwed, IsAllDue, noticed}
use Rattle.law_phases.proofs.Carrying.{upto}
use Rattle.law_phases.proofs.Publishing.{accepted-is, accepted-rise}
use Rattle.law_phases.proofs.Arriving.{given-routed, put-upto, upto-grows}
use Rattle.law_phases.proofs.Saved.{sent_by_flooding, flood-many, all-noticed, never-more}
use Rattle.law_phases.proofs.Sums.{rising-within, sum-le}
use Rattle.law_phases.proofs.Coming.{came-along}
use Rattle.base.proofs.Sets.{has-append-right}
use Rattle.std.proofs.lemmas.Bool.{and_parts}

pub side-parts : (hop : ℕ → ℕ → ℕ) (a b x : ℕ) → side hop a b x ≡ true → (x ≡ a → ⊥) × (hop a x ≡ b)
side-parts hop a b x e =
    let p = and_parts (not (x == a)) (hop a x == b) e in
    ((λ f. (let y = eq-eqb x a f in let z : not (x == a) ≡ false = ap not y in let w : true ≡ false = sym p.0 ∙ z in absurd cc)), eqb-true (hop a x) b p.1)

-- what an entry routes is among the ordinals of its server
routed-ordinal : (th : Theory) (net : Net th) (h : ℕ → Network th net) (J : List (NetEntry th net)) (j t i q o : ℕ) (n : th.Notice) → IsRoutedAt th net h J j t i q o n → Has o (ordinals_of_entry th net q t (h j) (slice_get J j))
routed-ordinal th net h J j t i q o n r =
    subst (λ z. Has o (ordinals_of_entry th net q t (h j) z)) (sym r.at)
    (subst (λ z. Has o (cond z (ordinals_maybe th net q (work_at th net (h j) r.entry.server r.entry.act)) [])) (sym (eq-eqb t r.entry.server (sym r.server)))
    (subst (λ z. Has o (ordinals_maybe th net q z)) (sym (ap (λ z. work_at th net (h j) z r.entry.act) r.server ∙ r.routes)) (subst (λ z. Has o (cond z (o ∷ []) [])) (sym (eq-eqb q q refl)) (inl-here o))))
  where
    inl-here : (o : ℕ) → Has o (o ∷ [])
    inl-here o = inl refl

-- the way over a link to a server beyond it
way-over : (th : Theory) (laws : TheoryLaws th) (net : Net th) (good : NetLaws th net) (from to x : ℕ) → Has from net.servers → Has x net.servers → side net.hop from to x ≡ true
    → (path : List ℕ) × IsOnwardWay th net from to path × (end_of th net to path ≡ x)
way-over th laws net good from to x here there s = go p.path p.way p.end
  where
    p : Path th laws net good from from x
    p = path-to th laws net good from x here there

    go : (path : List ℕ) → IsOnwardWay th net from from path → end_of th net from path ≡ x → (rest : List ℕ) × IsOnwardWay th net from to rest × (end_of th net to rest ≡ x)
    go [] way end = absurd ((side-parts net.hop from to x s).0 (sym end))
    go (next ∷ rest) way end =
        let hop = way-by-hops th laws net good from from next rest way (subst (λ z. Has z net.servers) (sym end) there) in
        let same : next ≡ to = sym hop ∙ (ap (net.hop from) end ∙ side-hop net.hop from to x s) in
        subst (λ z. (rest : List ℕ) × IsOnwardWay th net from z rest × (end_of th net z rest ≡ x)) same (rest, way.2, end)

module _ (th : Theory) (laws : TheoryLaws th) (run : PhasedRun th) where
  -- what is routed beyond a link was put on it
  module _ (m : ℕ) (e : JournalEntry) (is : slice_get run.journal m ≡ Some e) (u i from to : ℕ) (p : Publication th) (at : IsRoutedOn th run (net_seen th run m) m u i p) where
    pub put-over : Has to ((net_seen th run m).links from) → side (net_seen th run m).hop to from (run.net.home p.publisher) ≡ true → side (net_seen th run m).hop from to u ≡ true → Has u run.net.servers
        → Has p.ordinal (upto th laws run p.publisher (suc m) from to)
    put-over = subst
        (λ (z : Net th). Has to (z.links from) → side z.hop to from (run.net.home p.publisher) ≡ true → side z.hop from to u ≡ true → Has u run.net.servers → Has p.ordinal (upto th laws run p.publisher (suc m) from to))
        (net-here th laws run m e is) one
      where
        routes : Has p.ordinal (ordinals_routed th (part-run th laws run m e is).net (states_of th (part-run th laws run m e is)) (part-run th laws run m e is).journal p.publisher (suc (index th laws run m e is)) u)
        routes =
            has-append-right p.ordinal
            (ordinals_routed th (part-run th laws run m e is).net (states_of th (part-run th laws run m e is)) (part-run th laws run m e is).journal p.publisher (index th laws run m e is) u)
            (ordinals_of_entry th (part-run th laws run m e is).net p.publisher u (states_of th (part-run th laws run m e is) (index th laws run m e is)) (slice_get (part-run th laws run m e is).journal (index th laws run m e is)))
            (routed-ordinal th (part-run th laws run m e is).net (states_of th (part-run th laws run m e is)) (part-run th laws run m e is).journal (index th laws run m e is) u i p.publisher p.ordinal p.notice
            (routed-here th laws run m e is u i p (subst (λ (z : Net th). IsRoutedOn th run z m u i p) (sym (net-here th laws run m e is)) at)).at)

        one : Has to ((part-run th laws run m e is).net.links from) → side (part-run th laws run m e is).net.hop to from (run.net.home p.publisher) ≡ true → side (part-run th laws run m e is).net.hop from to u ≡ true → Has u run.net.servers
            → Has p.ordinal (upto th laws run p.publisher (suc m) from to)
        one near away beyond there =
            let good : NetLaws th (part-run th laws run m e is).net = (part-run th laws run m e is).laws in
            let w = way-over th laws (part-run th laws run m e is).net good from to u (good.tree.linked from to near) there beyond in
            let ord = ordered-run th laws (part-run th laws run m e is) p.publisher (suc (index th laws run m e is)) in
            let put = came-along th (part-run th laws run m e is).net good p.publisher _ (states_of th (part-run th laws run m e is) (suc (index th laws run m e is))) _ ord from to p.ordinal w.0 near w.1 away (subst (λ z. Has p.ordinal (ordinals_routed th (part-run th laws run m e is).net (states_of th (part-run th laws run m e is)) (part-run th laws run m e is).journal p.publisher (suc (index th laws run m e is)) z)) (sym w.2) routes) in
            put-upto th laws run (part-run th laws run m e is).net p.publisher p.ordinal from to (suc m)
            (subst (λ (s : Network th (part-run th laws run m e is).net). Has p.ordinal (ordinals_put th (part-run th laws run m e is).net p.publisher (s.put from to))) (after-here th laws run m e is) put)

  module _ (drained : EndsDrained th run) (clients : List ℕ) (known : AreClients th run.net clients) (from to : ℕ) (due : IsAllDue th run.net from to) where
    -- a publication that flooding sends over the link was put on it
    put-too : (p : Publication th) (k : ℕ) → IsPublishedIn th run.net k p → floods_over th run.net (run.net.home p.publisher) from to k ≡ true → Has p.ordinal (upto th laws run p.publisher (length run.journal) from to)
    put-too p k published floods =
        let beyond = due p k published floods in
        let c = beyond.client in
        let u = run.net.home c in
        let given = (due-once-in th laws run drained p c beyond.due).0 in
        let r = given-routed th laws run (length run.journal) u c p (subst (λ (s : State th). Has p ((s.state u).inbox c)) (sym (whole-ends th laws run)) given) in
        let m = r.moment in
        let one = publication-here th laws run m r.routes.entry r.routes.slot u r.routes.interface p r.routes.at in
        let same : phase_seen th run m ≡ k = (one-publication th (net_at th run.net k) p.publisher p.ordinal (phase_seen th run m) k p.notice p.notice (published-at th laws run.net run.laws (phase_seen th run m) k p.publisher p.ordinal (phase_seen th run m) p.notice one) published).0 in
        let f = and_parts (is_among to ((tree_at th run.net k).links from)) (side (tree_at th run.net k).hop to from (run.net.home p.publisher)) floods in
        let near : Has to ((net_seen th run m).links from) = subst (λ j. Has to ((tree_at th run.net j).links from)) (sym same) (one-has to ((tree_at th run.net k).links from) f.0) in
        let away : side (net_seen th run m).hop to from (run.net.home p.publisher) ≡ true = subst (λ j. side (tree_at th run.net j).hop to from (run.net.home p.publisher) ≡ true) (sym same) f.1 in
        let far : side (net_seen th run m).hop from to u ≡ true = subst (λ j. side (tree_at th run.net j).hop from to (run.net.home c) ≡ true) (sym same) beyond.beyond in
        let put = put-over m r.routes.entry r.routes.slot u r.routes.interface from to p r.routes.at near away far (run.laws.housed c) in
        upto-grows th laws run (net_at th run.net k) p.publisher p.ordinal from to (suc m) (length run.journal) (slice_get_within run.journal m r.routes.entry r.routes.slot) put

    all-put : (q o : ℕ) → Has o (sent_by_flooding th laws run clients known from to q) → Has o (upto th laws run q (length run.journal) from to)
    all-put q o h =
        let x = accepted-is th (net_at th run.net 0) (floods_over th run.net (run.net.home q) from to) [] 0 (run.net.script q) o h in
        let number : ordinal th (take (suc x.index) (run.net.script q)) ≡ o = omega (arith, x.ordinal) in
        put-too (record { publisher = q; ordinal = o; notice = x.notice }) x.command.phase
        (record { index = x.index; command = x.command; at = x.at; publishes = x.publishes; ordinal = number; allowed = x.allowed; phase = refl }) x.passed

    pub as-flooding : noticed th run (length run.journal) from to ≡ flooded th run.net clients from to
    as-flooding =
        let each = sum-le (flooded_by th run.net from to) (λ q. length (upto th laws run q (length run.journal) from to)) clients
        (λ q h. (let l = rising-within (sent_by_flooding th laws run clients known from to q) (upto th laws run q (length run.journal) from to) (accepted-rise th (net_at th run.net 0) (floods_over th run.net (run.net.home q) from to) [] 0 (run.net.script q)) (λ o i. all-put q o i) in omega (arith, l, flood-many th laws run clients known from to q))) in
        omega (arith, each, all-noticed th laws run clients known from to, never-more th laws run clients known from to)

  -- what is owed is due
  pub all-due : (from to : ℕ) → IsAllOwed th run.net from to → IsAllDue th run.net from to
  all-due from to owed p k published floods = let x = owed p k published floods in record { client = x.client; due = is-due-in th laws run p x.client x.owed; beyond = x.beyond }
