-- What entries route: publications of their phases, which pass each server in the order of their ordinals; and what is owed is settled wherever it passes.
use Rattle.std.proofs.Common.{◌≡◌, ℕ, suc, ◌+◌, ◌-◌, ◌≤◌, ◌<◌, cond, List, [], ◌∷◌, ◌⊎◌, inl, inr, length, take, slice_get, Some, refl, sym, ap, subst, ◌∙◌, arith, eqb-true, eq-eqb}
use Rattle.std.proofs.lemmas.Option.{slice_get_within, same_Some}
use Rattle.base.specs.Sets.{Has}
use Rattle.base.proofs.Numbers.{Same, Is, Not, compare}
use Rattle.law_machine.proofs.Numbers.{climb}
use Rattle.law_routing.specs.Theory.{Theory, TheoryLaws}
use Rattle.law_routing.specs.Net.{Net}
use Rattle.law_routing.specs.Clients.{is_publish, ordinal, commands_below}
use Rattle.law_routing.specs.Server.{Publication}
use Rattle.law_routing.specs.Routing.{Network, NetEntry}
use Rattle.law_routing.specs.Works.{work_at}
use Rattle.law_routing.specs.Rest.{IsOnwardWay}
use Rattle.law_routing.specs.AsOf.{IsRoutedAt, IsSettled, IsSettledAlong}
use Rattle.law_routing.specs.Owed.{IsPublication}
use Rattle.law_routing.specs.Order.{ordinals_maybe, ordinals_of_entry, ordinals_routed}
use Rattle.law_routing.specs.LegalRun.{LegalRun, states as states_of, phases as phases_of}
use Rattle.law_routing.proofs.Listing.{up-below}
use Rattle.law_routing.proofs.Scripts.{take-rises, more-ordinals, through-count, upto-count, below-rises}
use Rattle.law_routing.proofs.Begins.{phase-rising}
use Rattle.law_routing.proofs.Current.{one-publication, pass-publication}
use Rattle.law_routing.proofs.Started.{history, last-phase, ordered-run, starts}
use Rattle.law_routing.proofs.Flooded.{due-settles}
use Rattle.law_phases.specs.Trees.{JournalEntry, entries_on, trees_by, net_at}
use Rattle.law_phases.specs.Runs.{PhasedRun}
use Rattle.law_phases.specs.AtMoments.{states, phases, phase_seen, net_seen, states_on}
use Rattle.law_phases.specs.Owing.{IsOwedByScripts, IsDueByScripts}
use Rattle.law_phases.specs.Routes.{Routed}
use Rattle.law_phases.specs.Settled.{IsSettledHere, IsSettledOnWay}
use Rattle.law_phases.proofs.Nets.{trees-rise, net-one}
use Rattle.law_phases.proofs.Pieces.{due-on, published-at}
use Rattle.law_phases.proofs.Whole.{is-due-in}
use Rattle.law_phases.proofs.Entries.{happens-run}
use Rattle.law_phases.proofs.Shift.{work-like, settled-to}
use Rattle.law_phases.proofs.Parts.{unmapped, since, counts, like as like-there, one-tree, entry-there}
use Rattle.law_phases.proofs.Routes.{part, part-run, offset, index, last-one, place, like, net-here}
use Rattle.std.proofs.lemmas.Bool.{cases_lt}
use Rattle.base.proofs.Sets.{has-append-left, has-append-right}

-- what an entry routes is among the ordinals of its server
routed-ordinal : (th : Theory) (net : Net th) (h : ℕ → Network th net) (J : List (NetEntry th net)) (j t i q o : ℕ) (n : th.Notice) → IsRoutedAt th net h J j t i q o n → Has o (ordinals_of_entry th net q t (h j) (slice_get J j))
routed-ordinal th net h J j t i q o n r =
    subst (λ z. Has o (ordinals_of_entry th net q t (h j) z)) (sym r.at)
    (subst (λ z. Has o (cond z (ordinals_maybe th net q (work_at th net (h j) r.entry.server r.entry.act)) [])) (sym (eq-eqb t r.entry.server (sym r.server)))
    (subst (λ z. Has o (ordinals_maybe th net q z)) (sym (ap (λ z. work_at th net (h j) z r.entry.act) r.server ∙ r.routes)) (subst (λ z. Has o (cond z (o ∷ []) [])) (sym (eq-eqb q q refl)) (inl refl))))

module _ (th : Theory) (laws : TheoryLaws th) (run : PhasedRun th) where
  -- a routing entry on the tree of a net
  abbrev IsRoutingAt : Net th → ℕ → ℕ → ℕ → Publication th → Type 0
  IsRoutingAt z m t i p = IsRoutedAt th z (states_on th run z) (entries_on th z run.journal) m t i p.publisher p.ordinal p.notice

  module _ (m : ℕ) (e : JournalEntry) (is : slice_get run.journal m ≡ Some e) where
    abbrev N : Net th
    N = net_at th run.net (part th laws run m e is).first

    abbrev L : LegalRun th
    L = part-run th laws run m e is

    -- in the part that ends with this entry
    pub in-part : (j t i : ℕ) (p : Publication th) → j < length (part th laws run m e is).part → IsRoutingAt (net_at th run.net (part th laws run m e is).first) (offset th laws run m e is + j) t i p → IsRoutedAt th N (states_of th L) (part th laws run m e is).part j t i p.publisher p.ordinal p.notice
    in-part j t i p l at =
        let within : suc m ≤ length run.journal = slice_get_within run.journal m e is in
        record { entry = at.entry; at = entry-there th laws run (suc m) within j l ∙ at.at; server = at.server; routes = sym (work-like th N (states_on th run N (offset th laws run m e is + j)) (states_of th L j) t at.entry.act (like-there th laws run (suc m) within j l)) ∙ at.routes }

    here : (t i : ℕ) (p : Publication th) → IsRoutingAt (net_seen th run m) m t i p → IsRoutedAt th N (states_of th L) (part th laws run m e is).part (index th laws run m e is) t i p.publisher p.ordinal p.notice
    here t i p at = in-part (index th laws run m e is) t i p (omega (arith, last-one th laws run m e is))
        (subst (λ z. IsRoutingAt N z t i p) (sym (place th laws run m e is)) (subst (λ (z : Net th). IsRoutingAt z m t i p) (sym (net-here th laws run m e is)) at))

    phase-here : phases_of th L (suc (index th laws run m e is)) ≡ phase_seen th run m
    phase-here = ap (phases_of th L) (last-one th laws run m e is) ∙ (last-phase th laws L ∙ (happens-run th laws run m e is).phase)

    first-low : (part th laws run m e is).first ≤ phase_seen th run m
    first-low = omega (arith, phase-rising th laws L.net L.laws L.journal (states_of th L) (phases_of th L) (history th laws L) L.begins.rest (starts th laws L) L.laws.phased 0 (suc (index th laws run m e is)) (omega arith), phase-here)

    -- what it routes is a publication of its phase
    pub publication-here : (t i : ℕ) (p : Publication th) → IsRoutingAt (net_seen th run m) m t i p → IsPublication th (net_seen th run m) p.publisher p.ordinal (phase_seen th run m) p.notice
    publication-here t i p at =
        published-at th laws run.net run.laws (part th laws run m e is).first (phase_seen th run m) p.publisher p.ordinal (phase_seen th run m) p.notice
        (subst (λ z. IsPublication th N p.publisher p.ordinal z p.notice) phase-here (pass-publication th laws L.net L.laws L.journal (states_of th L) (phases_of th L) (history th laws L) L.begins.rest (starts th laws L) L.laws.phased (index th laws run m e is) t i p.publisher p.ordinal p.notice (here t i p at)))

    -- a due publication that it routes is settled along each way
    due-here : (p : Publication th) (c : ℕ) → (o : IsDueByScripts th run.net p c) → (t i : ℕ) → IsRoutingAt (net_seen th run m) m t i p → (path : List ℕ) → IsOnwardWay th N (run.net.home p.publisher) (run.net.home p.publisher) path
        → IsSettledAlong th N (states_of th L) (part th laws run m e is).part p.publisher p.ordinal p.notice c [] (run.net.home p.publisher) path
    due-here p c o t i at path way =
        let k = phase_seen th run m in
        let same : k ≡ o.phase = (one-publication th (net_at th run.net o.phase) p.publisher p.ordinal k o.phase p.notice p.notice (published-at th laws run.net run.laws k o.phase p.publisher p.ordinal k p.notice (publication-here t i p at)) o.published).0 in
        let low : (part th laws run m e is).first ≤ o.phase = omega (arith, first-low, same) in
        due-settles th laws L p c (due-on th laws run.net run.laws (take (suc m) run.journal) (states th run (suc m)) (phases th run (suc m)) (part th laws run m e is) p c o low) path way

    settled-whole : (p : Publication th) (c : ℕ) (behind : List ℕ) (t : ℕ) (path : List ℕ) → IsSettled th N (states_of th L) p.notice p.publisher c behind t path (index th laws run m e is) → IsSettled th (net_seen th run m) (states_on th run (net_seen th run m)) p.notice p.publisher c behind t path m
    settled-whole p c behind t path s =
        subst (λ (z : Net th). IsSettled th z (states_on th run z) p.notice p.publisher c behind t path m) (net-here th laws run m e is)
        (subst (IsSettled th N (states_on th run N) p.notice p.publisher c behind t path) (place th laws run m e is)
        (settled-to th N (states_on th run N) (states_of th L) (offset th laws run m e is) (index th laws run m e is) (like th laws run m e is) (part th laws run m e is).begins.fresh (part th laws run m e is).begins.rest.none_pending p.notice p.publisher c behind t path (index th laws run m e is) (omega arith) s))

  -- what is due is settled wherever it passes on the tree of a phase
  module _ (p : Publication th) (c : ℕ) (o : IsDueByScripts th run.net p c) (k : ℕ) where
    abbrev Gives : List ℕ → ℕ → List ℕ → Type 0
    Gives behind t path =
        (m : ℕ) (e : JournalEntry) (is : slice_get run.journal m ≡ Some e) → trees_by run.net.later (phase_seen th run m) ≡ trees_by run.net.later k → (s i : ℕ) → IsRoutingAt (net_seen th run m) m s i p
        → IsSettledAlong th (net_at th run.net (part th laws run m e is).first) (states_of th (part-run th laws run m e is)) (part th laws run m e is).part p.publisher p.ordinal p.notice c behind t path

    one-here : (behind : List ℕ) (t : ℕ) (path : List ℕ)
        → ((m : ℕ) (e : JournalEntry) (is : slice_get run.journal m ≡ Some e) → trees_by run.net.later (phase_seen th run m) ≡ trees_by run.net.later k → (s i : ℕ) → IsRoutingAt (net_seen th run m) m s i p → (j f : ℕ) → IsRoutedAt th (net_at th run.net (part th laws run m e is).first) (states_of th (part-run th laws run m e is)) (part th laws run m e is).part j t f p.publisher p.ordinal p.notice → IsSettled th (net_at th run.net (part th laws run m e is).first) (states_of th (part-run th laws run m e is)) p.notice p.publisher c behind t path j)
        → IsSettledHere th run (net_at th run.net k) k p c behind t path
    one-here behind t path gives m f same-tree at =
        let e = unmapped th (net_at th run.net k) run.journal m at.entry at.at in
        let one : trees_by run.net.later (phase_seen th run m) ≡ trees_by run.net.later k = eqb-true (trees_by run.net.later (phase_seen th run m)) (trees_by run.net.later k) same-tree in
        let same : net_seen th run m ≡ net_at th run.net k = net-one th run.net (phase_seen th run m) k one in
        let there : IsRoutingAt (net_seen th run m) m t f p = subst (λ (z : Net th). IsRoutingAt z m t f p) (sym same) at in
        subst (λ (z : Net th). IsSettled th z (states_on th run z) p.notice p.publisher c behind t path m) same
        (settled-whole m e.0 e.1 p c behind t path (gives m e.0 e.1 one t f there (index th laws run m e.0 e.1) f (here m e.0 e.1 t f p there)))

    along : (behind : List ℕ) (t : ℕ) (path : List ℕ) → Gives behind t path → IsSettledOnWay th run (net_at th run.net k) k p c behind t path
    along behind t [] gives = one-here behind t [] (λ m e is one s i at. gives m e is one s i at)
    along behind t (u ∷ path) gives = (one-here behind t (u ∷ path) (λ m e is one s i at. (gives m e is one s i at).0), along (t ∷ behind) u path (λ m e is one s i at. (gives m e is one s i at).1))

    pub due-settled : (path : List ℕ) → IsOnwardWay th (net_at th run.net k) (run.net.home p.publisher) (run.net.home p.publisher) path → IsSettledOnWay th run (net_at th run.net k) k p c [] (run.net.home p.publisher) path
    due-settled path way = along [] (run.net.home p.publisher) path
        (λ m e is one s i at. due-here m e is p c o s i at path (subst (λ (z : Net th). IsOnwardWay th z (run.net.home p.publisher) (run.net.home p.publisher) path) (sym (net-here th laws run m e is ∙ net-one th run.net (phase_seen th run m) k one)) way))

  pub owed-settled : (p : Publication th) (c : ℕ) → IsOwedByScripts th run.net p c → (k : ℕ) (path : List ℕ) → IsOnwardWay th (net_at th run.net k) (run.net.home p.publisher) (run.net.home p.publisher) path
      → IsSettledOnWay th run (net_at th run.net k) k p c [] (run.net.home p.publisher) path
  owed-settled p c o = due-settled p c (is-due-in th laws run p c o)

  pub routes-publication : (r : Routed th run) → IsPublication th (net_seen th run r.moment) r.publication.publisher r.publication.ordinal (phase_seen th run r.moment) r.publication.notice
  routes-publication r = let e = unmapped th (net_seen th run r.moment) run.journal r.moment r.at.entry r.at.at in publication-here r.moment e.0 e.1 r.server r.interface r.publication r.at

  -- of two publications of one publisher the one of the earlier phase has the lesser ordinal
  earlier-less : (a b k l : ℕ) (x y : Publication th) → x.publisher ≡ y.publisher → IsPublication th (net_at th run.net a) x.publisher x.ordinal k x.notice → IsPublication th (net_at th run.net b) y.publisher y.ordinal l y.notice → k < l → x.ordinal < y.ordinal
  earlier-less a b k l x y same px py less =
      let q = y.publisher in
      let s = run.net.script y.publisher in
      let px' : IsPublication th (net_at th run.net a) y.publisher x.ordinal k x.notice = subst (λ z. IsPublication th (net_at th run.net a) z x.ordinal k x.notice) same px in
      let up : suc px'.index ≤ commands_below th (suc k) s = upto-count th k s px'.index px'.command (run.laws.phased q) px'.at (omega (arith, px'.phase)) in
      let down : commands_below th l s ≤ py.index = through-count th l s py.index (run.laws.phased q) (λ z e. (let f : py.command ≡ z = same_Some _ _ (sym py.at ∙ e) in omega (arith, py.phase, ap (λ (w : Rattle.law_routing.specs.Net.PhasedCommand th). w.phase) f))) in
      let rise : commands_below th (suc k) s ≤ commands_below th l s = below-rises th (suc k) l s less in
      let first : ordinal th (take (suc px'.index) s) ≤ ordinal th (take py.index s) = take-rises th s (suc px'.index) py.index (omega (arith, up, down, rise)) in
      let more : ordinal th (take py.index s) < ordinal th (take (suc py.index) s) = more-ordinals th s py.index py.command py.at (ap (is_publish th) py.publishes) in
      omega (arith, px'.ordinal, py.ordinal, first, more)

  -- at one server
  pub routed-in-order : (a b : Routed th run) → a.moment < b.moment → a.server ≡ b.server → a.publication.publisher ≡ b.publication.publisher → a.publication.ordinal < b.publication.ordinal
  routed-in-order a b less server publisher = go (compare (trees_by run.net.later (phase_seen th run a.moment)) (trees_by run.net.later (phase_seen th run b.moment)))
    where
      e : (e : JournalEntry) × (slice_get run.journal b.moment ≡ Some e)
      e = unmapped th (net_seen th run b.moment) run.journal b.moment b.at.entry b.at.at

      m : ℕ
      m = b.moment

      q : ℕ
      q = b.publication.publisher

      t : ℕ
      t = b.server

      P : Type 0
      P = a.publication.ordinal < b.publication.ordinal

      within : suc m ≤ length run.journal
      within = slice_get_within run.journal m e.0 e.1

      o : ℕ
      o = offset th laws run m e.0 e.1

      N' : Net th
      N' = net_at th run.net (part th laws run m e.0 e.1).first

      L' : LegalRun th
      L' = part-run th laws run m e.0 e.1

      up : ℕ
      up = index th laws run m e.0 e.1

      go : Same (trees_by run.net.later (phase_seen th run a.moment)) (trees_by run.net.later (phase_seen th run b.moment)) → a.publication.ordinal < b.publication.ordinal
      go (Not n v) = earlier-less (phase_seen th run a.moment) (phase_seen th run b.moment) (phase_seen th run a.moment) (phase_seen th run b.moment) a.publication b.publication publisher (routes-publication a) (routes-publication b) (by (cases_lt (phase_seen th run a.moment) (phase_seen th run b.moment)))
        where
          by : (phase_seen th run a.moment < phase_seen th run b.moment) ⊎ (phase_seen th run b.moment ≤ phase_seen th run a.moment) → phase_seen th run a.moment < phase_seen th run b.moment
          by (inl l) = l
          by (inr l) = absurd (n (omega (arith, trees-rise run.net.later (phase_seen th run b.moment) (phase_seen th run a.moment) l, rising-trees)))
            where
              rising-trees : trees_by run.net.later (phase_seen th run a.moment) ≤ trees_by run.net.later (phase_seen th run b.moment)
              rising-trees = part-trees (cases_lt a.moment o)
                where
                  part-trees : (a.moment < o) ⊎ (o ≤ a.moment) → trees_by run.net.later (phase_seen th run a.moment) ≤ trees_by run.net.later (phase_seen th run b.moment)
                  part-trees (inl g) = omega (arith, Rattle.law_phases.proofs.Parts.before-part th laws run (suc m) within a.moment g, (part th laws run m e.0 e.1).one, ap (trees_by run.net.later) (happens-run th laws run m e.0 e.1).phase)
                  part-trees (inr g) =
                      let there : o + (a.moment - o) ≡ a.moment = omega (arith, g) in
                      let inside : a.moment - o < length (part th laws run m e.0 e.1).part = omega (arith, there, less, counts th laws run (suc m) within) in
                      omega (arith, one-tree th laws run (suc m) within (a.moment - o) inside, ap (λ z. trees_by run.net.later (phase_seen th run z)) there, (part th laws run m e.0 e.1).one, ap (trees_by run.net.later) (happens-run th laws run m e.0 e.1).phase)
      go (Is x v) =
          let from-o : o ≤ a.moment = since th laws run (suc m) within a.moment (omega (arith, less)) (x ∙ ap (trees_by run.net.later) (sym (happens-run th laws run m e.0 e.1).phase)) in
          let there : o + (a.moment - o) ≡ a.moment = omega (arith, from-o) in
          let j = a.moment - o in
          let j-less : j < up = omega (arith, there, less, place th laws run m e.0 e.1) in
          let inside : j < length (part th laws run m e.0 e.1).part = omega (arith, j-less, last-one th laws run m e.0 e.1) in
          let net-a : net_seen th run a.moment ≡ N' = net-one th run.net (phase_seen th run a.moment) (phase_seen th run b.moment) x ∙ sym (net-here th laws run m e.0 e.1) in
          let at-a : IsRoutingAt N' (o + j) a.server a.interface a.publication = subst (λ z. IsRoutingAt N' z a.server a.interface a.publication) (sym there) (subst (λ (z : Net th). IsRoutingAt z a.moment a.server a.interface a.publication) net-a a.at) in
          let one : Has a.publication.ordinal (ordinals_routed th N' (states_of th L') (part th laws run m e.0 e.1).part a.publication.publisher (suc j) a.server) =
          has-append-right a.publication.ordinal (ordinals_routed th N' (states_of th L') (part th laws run m e.0 e.1).part a.publication.publisher j a.server) (ordinals_of_entry th N' a.publication.publisher a.server (states_of th L' j) (slice_get (part th laws run m e.0 e.1).part j))
          (routed-ordinal th N' (states_of th L') (part th laws run m e.0 e.1).part j a.server a.interface a.publication.publisher a.publication.ordinal a.publication.notice (in-part m e.0 e.1 j a.server a.interface a.publication inside at-a)) in
          let same : Has a.publication.ordinal (ordinals_routed th N' (states_of th L') (part th laws run m e.0 e.1).part q (suc j) t) =
          subst (λ z. Has a.publication.ordinal (ordinals_routed th N' (states_of th L') (part th laws run m e.0 e.1).part z (suc j) t)) publisher (subst (λ z. Has a.publication.ordinal (ordinals_routed th N' (states_of th L') (part th laws run m e.0 e.1).part a.publication.publisher (suc j) z)) server one) in
          let first : Has a.publication.ordinal (ordinals_routed th N' (states_of th L') (part th laws run m e.0 e.1).part q up t) =
          climb (λ y. Has a.publication.ordinal (ordinals_routed th N' (states_of th L') (part th laws run m e.0 e.1).part q y t)) (suc j) same (λ y l h. has-append-left a.publication.ordinal (ordinals_routed th N' (states_of th L') (part th laws run m e.0 e.1).part q y t) (ordinals_of_entry th N' q t (states_of th L' y) (slice_get (part th laws run m e.0 e.1).part y)) h) up (omega (arith, j-less)) in
          let second : Has b.publication.ordinal (ordinals_of_entry th N' q t (states_of th L' up) (slice_get (part th laws run m e.0 e.1).part up)) =
          routed-ordinal th N' (states_of th L') (part th laws run m e.0 e.1).part up t b.interface q b.publication.ordinal b.publication.notice (here m e.0 e.1 t b.interface b.publication b.at) in
          up-below (ordinals_routed th N' (states_of th L') (part th laws run m e.0 e.1).part q up t) (ordinals_of_entry th N' q t (states_of th L' up) (slice_get (part th laws run m e.0 e.1).part up)) ((ordered-run th laws L' q (suc up)).routed_up t) a.publication.ordinal b.publication.ordinal first second
