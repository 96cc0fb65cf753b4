-- Each accepted publication climbs from its publisher's home to the top, once on each link of the way, and on no other link that leads up.
use Rattle.std.proofs.Common.{◌≡◌, ℕ, zero, suc, ◌≤◌, ◌==◌, nat_lt, Bool, true, false, cond, List, [], ◌∷◌, inl, inr, length, take, Option, None, refl, sym, ap, subst, ◌∙◌, arith, eq-eqb}
use Rattle.base.specs.Sets.{Has}
use Rattle.base_tree.specs.Hops.{side}
use Rattle.law_machine.specs.Machine.{Stamped}
use Rattle.law_routing.specs.Theory.{Theory, TheoryLaws}
use Rattle.law_routing.specs.Net.{Net, Subscribe}
use Rattle.law_routing.specs.Clients.{filters_after, ordinal, commands_below}
use Rattle.law_routing.specs.Server.{Message, Subs, Advs, Noticed, Publication}
use Rattle.law_routing.specs.Routing.{Network}
use Rattle.law_routing.specs.Rest.{IsOnwardWay, end_of}
use Rattle.law_routing.specs.Order.{ordinals_put, ordinals_delivered, ordinals_routed, add_ordinal}
use Rattle.law_routing.specs.Owed.{IsMomentOfPhase}
use Rattle.law_routing.specs.LegalRun.{IsOwedTo as IsPeerOwed}
use Rattle.law_routing.proofs.Paths.{path-to, way-by-hops}
use Rattle.law_routing.proofs.Scripts.{more-ordinals}
use Rattle.law_routing.proofs.Started.{ends}
use Rattle.law_routing.proofs.Flooded.{owed-once}
use Rattle.law_hierarchy.specs.Masters.{top, master, IsBelow}
use Rattle.law_hierarchy.specs.HierarchyRun.{times, HierarchyRun, IsDrainedRun, IsPublished, times_put}
use Rattle.law_hierarchy.proofs.Wide.{wide, wide-laws}
use Rattle.law_hierarchy.proofs.Listener.{listener, peers, listens, other}
use Rattle.law_hierarchy.proofs.Shadow.{given, master-near}
use Rattle.law_hierarchy.proofs.Networks.{entry-on}
use Rattle.law_hierarchy.proofs.Listened.{peer-run, carried, h, h', moments}
use Rattle.law_hierarchy.proofs.Carried.{put-same}
use Rattle.law_hierarchy.proofs.Ways.{below-side, side-below, IsUnder, under-next}
use Rattle.law_hierarchy.proofs.Given.{ordinal-in, one-time, orderly, put-rises, published-peer, here-peer, drained-peer}
use Rattle.std.proofs.lemmas.List.{length-map}

-- a received beginning of what is put
module _ (th : Theory) (net : Net th) (q : ℕ) where
  has-take : (o k : ℕ) (xs : List (Stamped (Message th))) → Has o (ordinals_put th net q (take k xs)) → Has o (ordinals_put th net q xs)
  has-take o zero xs h = absurd h
  has-take o (suc k) [] h = h
  has-take o (suc k) (x ∷ xs) h = go x.message h (has-take o k xs)
    where
      go : (m : Message th) → Has o (add_ordinal th net q m (ordinals_put th net q (take k xs))) → (Has o (ordinals_put th net q (take k xs)) → Has o (ordinals_put th net q xs)) → Has o (add_ordinal th net q m (ordinals_put th net q xs))
      go (Subs out add) h ih = ih h
      go (Advs out add) h ih = ih h
      go (Noticed p j n) h ih = by (q == p) h
        where
          by : (b : Bool) → Has o (cond b (j ∷ ordinals_put th net q (take k xs)) (ordinals_put th net q (take k xs))) → Has o (cond b (j ∷ ordinals_put th net q xs) (ordinals_put th net q xs))
          by true (inl e) = inl e
          by true (inr i) = inr (ih i)
          by false h = ih h

take-none : {X : Type 0} (k : ℕ) → take {A = X} k [] ≡ []
take-none zero = refl
take-none (suc k) = refl

-- a notice that climbs
module _ (th : Theory) (laws : TheoryLaws th) (run : HierarchyRun th) (p : Publication th) (published : IsPublished th run p) where
  abbrev home : ℕ
  home = run.net.home p.publisher

  own : (p.publisher == listener th run.net) ≡ false
  own = other th run.net run.laws (run.net.home p.publisher) p.publisher published.here

  abbrev routed' : ℕ → ℕ → List ℕ
  routed' n t = ordinals_routed (wide th) (peers th run.net) (h' th laws run) (peer-run th laws run).journal p.publisher n t

  home-is : (peers th run.net).home p.publisher ≡ run.net.home p.publisher
  home-is = ap (λ z. cond z top (run.net.home p.publisher)) own

  housed : Has (run.net.home p.publisher) run.net.servers
  housed = run.laws.lawful.housed p.publisher

  -- the listener is owed it
  listener-owed : IsPeerOwed (wide th) (peer-run th laws run) (given th p) (listener th run.net)
  listener-owed = record {
    phase = suc published.phase;
    since = omega arith;
    published = published-peer th laws run p published;
    owed = record { filter = None; always = always; matches = refl; allowed = λ e. absurd (never e) };
    here = here-peer th laws run p.publisher published.here;
    lives = rw v (inl refl);
  }
    where
      never : false ≡ true → ⊥
      never e = cc

      v : (listener th run.net == listener th run.net) ≡ true
      v = eq-eqb (listener th run.net) (listener th run.net) refl

      script : (peers th run.net).script (listener th run.net) ≡ listens th run.net
      script = rw v refl

      always : (count : ℕ) → IsMomentOfPhase (wide th) (peers th run.net) (suc published.phase) (listener th run.net) count → Has None (filters_after (wide th) [] (take count ((peers th run.net).script (listener th run.net))))
      always zero m = absurd (omega (arith, m.from, ap (commands_below (wide th) (suc published.phase)) script, low))
        where
          low : commands_below (wide th) (suc published.phase) (listens th run.net) ≡ 1
          low = ap (λ z. cond z 1 0) (less published.phase)
            where
              less : (k : ℕ) → nat_lt 0 (suc k) ≡ true
              less k = grind arith
      always (suc k) m = subst (λ (z : List (Option th.Filter)). Has None z) (sym (ap (λ z. filters_after (wide th) [] (take (suc k) z)) script ∙ ap (λ z. filters_after (wide th) [] (record { phase = 0; command = Subscribe None } ∷ z)) (take-none k))) one-none
        where
          one-none : Has {T = Option th.Filter} None (None ∷ [])
          one-none = inl refl

  -- so the top has routed it by the end
  top-routed : IsDrainedRun th run → Has p.ordinal (routed' (length run.journal) top)
  top-routed d = elim (known ((orderly th laws run p.publisher (length run.journal)).given_known top (listener th run.net) p.ordinal)) [ inl h ↦ h | inr l ↦ absurd (omega (arith, l, before, above)) ]
    where
      v : (listener th run.net == listener th run.net) ≡ true
      v = eq-eqb (listener th run.net) (listener th run.net) refl

      end-is : h' th laws run (length run.journal) ≡ (carried th laws run).end'
      end-is = ap (h' th laws run) (sym (length-map run.journal (entry-on th laws run.net run.laws))) ∙ ends (wide th) (wide-laws th laws) (peer-run th laws run)

      box : Has (given th p) (((carried th laws run).end'.state top).inbox (listener th run.net))
      box = subst (λ z. Has (given th p) (((carried th laws run).end'.state (cond z top (run.net.home (listener th run.net)))).inbox (listener th run.net))) v (owed-once (wide th) (wide-laws th laws) (peer-run th laws run) (drained-peer th laws run d) (given th p) (listener th run.net) listener-owed).0

      inside : Has p.ordinal (ordinals_delivered (wide th) (peers th run.net) p.publisher (((h' th laws run (length run.journal)).state top).inbox (listener th run.net)))
      inside = subst (λ (z : Network (wide th) (peers th run.net)). Has p.ordinal (ordinals_delivered (wide th) (peers th run.net) p.publisher ((z.state top).inbox (listener th run.net)))) (sym end-is) (ordinal-in (wide th) (peers th run.net) (given th p) (((carried th laws run).end'.state top).inbox (listener th run.net)) box)

      known : {X : Type 0} → (Has p.ordinal (ordinals_delivered (wide th) (peers th run.net) p.publisher (((h' th laws run (length run.journal)).state top).inbox (listener th run.net))) → X) → X
      known f = f inside

      before : Rattle.law_routing.specs.LegalRun.ordinal_before (wide th) (peer-run th laws run) p.publisher ≡ 0
      before = ap (λ z. ordinal (wide th) (take (cond z 1 0) ((peers th run.net).script p.publisher))) own

      above : 1 ≤ p.ordinal
      above = omega (arith, published.published.ordinal, more-ordinals th (run.net.script p.publisher) published.published.index published.published.command published.published.at (ap (Rattle.law_routing.specs.Clients.is_publish th) published.published.publishes))

  abbrev OnLink : ℕ → ℕ → List ℕ → Type 0
  OnLink n t [] = Unit {0}
  OnLink n t (u ∷ path) = Has p.ordinal (ordinals_put (wide th) (peers th run.net) p.publisher ((h' th laws run n).put t u))

  climbs : (n before t : ℕ) (path : List ℕ) → IsOnwardWay th run.net before t path → end_of th run.net t path ≡ top → IsUnder th laws run.net run.laws (run.net.home p.publisher) housed t path → Has p.ordinal (routed' n top) → Has p.ordinal (routed' n t) × OnLink n t path
  climbs n before t [] way e s known = (subst (λ z. Has p.ordinal (routed' n z)) (sym e) known, tt)
  climbs n before t (u ∷ path) way e s known =
      let ih = climbs n t u path way.2 e (under-next th laws run.net run.laws (run.net.home p.publisher) housed before t u path way s) known in
      let o = orderly th laws run p.publisher n in
      let from : routed' n u ≡ ordinals_put (wide th) (peers th run.net) p.publisher (take ((h' th laws run n).taken t u) ((h' th laws run n).put t u)) = o.there u t (run.laws.lawful.tree.both t u way.0) (subst (λ z. side run.net.hop u t z ≡ true) (sym home-is) s) in
      let put = has-take (wide th) (peers th run.net) p.publisher p.ordinal ((h' th laws run n).taken t u) ((h' th laws run n).put t u) (subst (λ z. Has p.ordinal z) from ih.0) in
      (o.put_known t u p.ordinal put, put)

  -- in a drained run it was put once on each link that leads up from a server that has the home at or below it
  pub put-up : IsDrainedRun th run → (t : ℕ) → Has t run.net.servers → (t ≡ top → ⊥) → IsBelow th run.net (run.net.home p.publisher) t → times_put th run (length run.journal) t (master th run.net t) p.publisher p.ordinal ≡ 1
  put-up d t here n b = let x = path-to th laws run.net run.laws.lawful t top here run.laws.topped in go x.path x.way x.end
    where
      go : (path : List ℕ) → IsOnwardWay th run.net t t path → end_of th run.net t path ≡ top → times_put th run (length run.journal) t (master th run.net t) p.publisher p.ordinal ≡ 1
      go [] way e = absurd (n e)
      go (u ∷ path) way e = one-time p.ordinal (ordinals_put th run.net p.publisher ((h th laws run (length run.journal)).put t (master th run.net t))) (put-rises th laws run p.publisher (length run.journal) t (master th run.net t))
          (subst (λ z. Has p.ordinal z) (ap (ordinals_put (wide th) (peers th run.net) p.publisher) ((moments th laws run (length run.journal)).network.put t (master th run.net t)) ∙ put-same th laws run.net run.laws p.publisher ((h th laws run (length run.journal)).put t (master th run.net t)))
          (subst (λ z. Has p.ordinal (ordinals_put (wide th) (peers th run.net) p.publisher ((h' th laws run (length run.journal)).put t z))) (sym up-is) (climbs (length run.journal) t t (u ∷ path) way e (subst (λ z. side run.net.hop z t (run.net.home p.publisher) ≡ true) up-is (below-side th laws run.net run.laws (run.net.home p.publisher) housed t here n b)) (top-routed d)).1))
        where
          up-is : master th run.net t ≡ u
          up-is = ap (run.net.hop t) (sym e) ∙ way-by-hops th laws run.net run.laws.lawful t t u path way (subst (λ z. Has z run.net.servers) (sym e) run.laws.topped)

  -- and it is never put on another link that leads up
  pub put-nowhere-else : (n t : ℕ) → Has t run.net.servers → (t ≡ top → ⊥) → (IsBelow th run.net (run.net.home p.publisher) t → ⊥) → times_put th run n t (master th run.net t) p.publisher p.ordinal ≡ 0
  put-nowhere-else n t here m apart =
      ap (times p.ordinal) (sym (ap (ordinals_put (wide th) (peers th run.net) p.publisher) ((moments th laws run n).network.put t (master th run.net t)) ∙ put-same th laws run.net run.laws p.publisher ((h th laws run n).put t (master th run.net t)))
      ∙ (orderly th laws run p.publisher n).away t (master th run.net t) (master-near th laws run.net run.laws t here m) (subst (λ z. side run.net.hop (master th run.net t) t z ≡ false) (sym home-is) (go (side run.net.hop (master th run.net t) t (run.net.home p.publisher)) refl)))
    where
      go : (b : Bool) → side run.net.hop (master th run.net t) t (run.net.home p.publisher) ≡ b → side run.net.hop (master th run.net t) t (run.net.home p.publisher) ≡ false
      go false e = e
      go true e = absurd (apart (side-below th laws run.net run.laws (run.net.home p.publisher) housed t here m e))
