-- A run of a hierarchy is a legal run of the peers from a start at which the listener has subscribed, and each moment of it is the same.
use Rattle.std.proofs.Common.{◌≡◌, ℕ, zero, suc, ◌+◌, ◌==◌, Bool, true, false, cond, not, ◌&&◌, List, [], ◌∷◌, inl, inr, map, take, Some, None, refl, sym, ap, subst, ◌∙◌, arith, ne_eqb, eq-eqb}
use Rattle.base.specs.Sets.{Has, roots}
use Rattle.base_tree.specs.Hops.{side}
use Rattle.law_machine.specs.Machine.{act_phase}
use Rattle.law_machine.specs.Network.{turn}
use Rattle.law_machine.specs.Runs.{IsReady}
use Rattle.law_machine.specs.History.{state_at, phase_at, Happens, IsNext, IsHistory}
use Rattle.law_machine.proofs.History.{run-history}
use Rattle.law_machine.proofs.Fixed.{ready-once}
use Rattle.law_machine.proofs.Turn.{step-turn}
use Rattle.law_machine.proofs.Lists.{Same, Is, Not, compare}
use Rattle.law_routing.specs.Theory.{Theory, TheoryLaws}
use Rattle.law_routing.specs.Net.{Net}
use Rattle.law_routing.specs.Clients.{filters_after, commands_below}
use Rattle.law_routing.specs.Server.{interfaces, sent}
use Rattle.law_routing.specs.Routing.{routing_machine, Network, NetEntry, empty_server}
use Rattle.law_routing.specs.Rest.{IsAtRest, filters_of}
use Rattle.law_routing.specs.Start.{IsStart}
use Rattle.law_routing.specs.LegalRun.{LegalRun}
use Rattle.law_routing.proofs.Scripts.{zero-below}
use Rattle.law_routing.proofs.Sides.{other-side}
use Rattle.std.proofs.lemmas.Option.{same_Some}
use Rattle.law_hierarchy.specs.Masters.{top, master, is_master, HierarchyLaws}
use Rattle.law_hierarchy.specs.Step.{hierarchy_machine, Hierarchy, HierarchyEntry, opening}
use Rattle.law_hierarchy.specs.HierarchyRun.{HierarchyRun}
use Rattle.law_hierarchy.proofs.Wide.{wide, said}
use Rattle.law_hierarchy.proofs.Listener.{listener, peers, wide-script, wide-below, listens, other, lives-in, peers-laws}
use Rattle.law_hierarchy.proofs.Shadow.{widened, above, up-same, down-same, link-above, client-above}
use Rattle.law_hierarchy.proofs.Networks.{entry-on, AlikeNets, masters-apart, ready-on, step-on, phase-on, found-state, Runs, run-on}
use Rattle.base.proofs.Lists.{get-map, get-map-none}
use Rattle.law_routing.proofs.Rest.{gather-none}

pub eq-sym : (a b : ℕ) → (a == b) ≡ (b == a)
eq-sym a b = go (compare a b)
  where
    go : Same a b → (a == b) ≡ (b == a)
    go (Is e v) = v ∙ sym (eq-eqb b a (sym e))
    go (Not n v) = v ∙ sym (ne_eqb b a (λ e. n (sym e)))

module _ (th : Theory) (laws : TheoryLaws th) (net : Net th) (good : HierarchyLaws th net) where
  pub side-master : (a b : ℕ) → side net.hop a b top ≡ is_master th net a b
  side-master a b = λ i. not (eq-sym top a i) && eq-sym (net.hop a top) b i

  -- of two neighbours one is the other's master
  pub one-master : (a b : ℕ) → Has b (net.links a) → is_master th net a b ≡ false → is_master th net b a ≡ true
  one-master a b near e = sym (side-master b a) ∙ other-side net.servers net.links net.hop good.lawful.tree a b top near good.topped (side-master a b ∙ e)

  abbrev pub listening : Network (wide th) (peers th net)
  listening = record {
    state = λ t. record { subs = λ i. widened th laws net good t i []; advs = λ i. []; installed = λ i. widened th laws net good t i []; pending = false; done = λ c. cond (c == listener th net) 1 0; inbox = λ c. [] };
    clock = λ t. 0;
    put = λ a b. [];
    taken = λ a b. 0;
  }

  pub listening-alike : AlikeNets th laws net good (opening th net) listening
  listening-alike = record {
    state = λ t. record { subs = λ i. refl; installed = λ i. refl; pending = refl; done = λ c. refl; inbox = λ c n. refl };
    clock = λ t. refl;
    put = λ a b. refl;
    taken = λ a b. refl;
    low = λ a b x h e. absurd h;
  }

  pub home-in : (t c : ℕ) → Has c (net.clients t) → Has t net.servers
  home-in t c lives = subst (λ z. Has z net.servers) (good.lawful.lives t c lives) (good.lawful.housed c)

  resting : IsAtRest (wide th) (peers th net) listening
  resting = record { empty = λ a b. refl; none_pending = λ t. refl; installed = λ t i. refl; filters = filters; adverts = λ t c h e. absurd (never e); subs = subs; advs = λ a b near. refl }
    where
      never : false ≡ true → ⊥
      never e = cc

      filters : (t c : ℕ) → Has c ((peers th net).clients t) → widened th laws net good t (64 + c) [] ≡ filters_of (wide th) (peers th net) listening c
      filters t c h = elim (lives-in th net good t c h) [ inl i ↦ own i | inr e ↦ listens-on e.0 e.1 ]
        where
          own : Has c (net.clients t) → widened th laws net good t (64 + c) [] ≡ filters_of (wide th) (peers th net) listening c
          own i = ap (λ z. cond z (None ∷ []) (said [])) (client-above th laws net good t c (home-in t c i) i) ∙ sym (ap (λ z. filters_after (wide th) [] (take (cond z 1 0) (cond z (listens th net) (wide-script th net [] (net.script c))))) (other th net good t c i))

          listens-on : t ≡ top → c ≡ listener th net → widened th laws net good t (64 + c) [] ≡ filters_of (wide th) (peers th net) listening c
          listens-on p q = (ap (λ z. cond z (None ∷ []) (said [])) up-there) ∙ sym (ap (λ z. filters_after (wide th) [] (take (cond z 1 0) (cond z (listens th net) (wide-script th net [] (net.script c))))) (eq-eqb c (listener th net) q))
            where
              up-there : above th laws net good t (64 + c) ≡ true
              up-there = rw (eq-eqb t top p, eq-eqb (64 + c) (64 + listener th net) (ap (λ z. 64 + z) q)) refl

      subs : (a b : ℕ) → Has b (net.links a) → widened th laws net good b a [] ≡ sent (wide th) (peers th net) (listening.state a) a b
      subs a b near = ap (λ z. cond z (None ∷ []) (said [])) (link-above th laws net good b a back) ∙ go (is_master th net a b) refl
        where
          back : Has a (net.links b)
          back = good.lawful.tree.both a b near

          go : (x : Bool) → is_master th net a b ≡ x → cond (is_master th net b a) (None ∷ []) (said []) ≡ sent (wide th) (peers th net) (listening.state a) a b
          go true e = ap (λ z. cond z (None ∷ []) (said [])) (masters-apart th laws net good a b near e) ∙ sym (up-same th laws net good a b (empty_server th net) (listening.state a) (λ i. refl) e ∙ ap (λ z. said (roots th.covers th.before z)) (gather-none th.before (master th net a) (interfaces th net a)))
          go false e = ap (λ z. cond z (None ∷ []) (said [])) (one-master a b near e) ∙ sym (down-same th laws net good a b (empty_server th net) (listening.state a) (λ i. refl) (good.lawful.tree.linked a b near) near e)

  pub listening-starts : IsStart (wide th) (peers th net) listening 1
  listening-starts = record { rest = resting; fresh = λ a b. refl; counts = counts; clocks = λ t. omega arith; rising = λ q t c. tt; accepted = λ t c x h. absurd h; allowed = λ t c x lives h. absurd h }
    where
      counts : (t c : ℕ) → Has c ((peers th net).clients t) → cond (c == listener th net) 1 0 ≡ commands_below (wide th) 1 (cond (c == listener th net) (listens th net) (wide-script th net [] (net.script c)))
      counts t c h = elim (lives-in th net good t c h) [ inl i ↦ rw (other th net good t c i) (sym (wide-below th net 0 [] (net.script c) ∙ zero-below th (net.script c))) | inr e ↦ rw (eq-eqb c (listener th net) e.1) refl ]

module _ (th : Theory) (laws : TheoryLaws th) (run : HierarchyRun th) where
  abbrev pub carried : Runs th laws run.net run.laws (listening th laws run.net run.laws) 0 run.journal run.end run.last
  carried = run-on th laws run.net run.laws (opening th run.net) (listening th laws run.net run.laws) (listening-alike th laws run.net run.laws) 0 run.journal run.end run.last run.legal

  -- the run of the peers
  abbrev pub peer-run : LegalRun (wide th)
  peer-run = record {
    net = peers th run.net;
    laws = peers-laws th run.net run.laws;
    start = listening th laws run.net run.laws;
    first = 1;
    begins = listening-starts th laws run.net run.laws;
    journal = map (entry-on th laws run.net run.laws) run.journal;
    end = carried.end';
    last = suc run.last;
    legal = carried.run;
  }

  abbrev pub h : ℕ → Hierarchy th run.net
  h = state_at (hierarchy_machine th run.net) (opening th run.net) 0 run.journal

  abbrev pub ph : ℕ → ℕ
  ph = phase_at (hierarchy_machine th run.net) (opening th run.net) 0 run.journal

  abbrev pub journal' : List (NetEntry (wide th) (peers th run.net))
  journal' = map (entry-on th laws run.net run.laws) run.journal

  abbrev pub h' : ℕ → Network (wide th) (peers th run.net)
  h' = state_at (routing_machine (wide th) (peers th run.net)) (listening th laws run.net run.laws) 1 (map (entry-on th laws run.net run.laws) run.journal)

  abbrev pub ph' : ℕ → ℕ
  ph' = phase_at (routing_machine (wide th) (peers th run.net)) (listening th laws run.net run.laws) 1 (map (entry-on th laws run.net run.laws) run.journal)

  pub own-history : IsHistory (hierarchy_machine th run.net) run.journal h ph
  own-history = run-history (hierarchy_machine th run.net) (opening th run.net) 0 run.journal run.end run.last run.legal

  peer-history : IsHistory (routing_machine (wide th) (peers th run.net)) journal' h' ph'
  peer-history = run-history (routing_machine (wide th) (peers th run.net)) (listening th laws run.net run.laws) 1 journal' carried.end' (suc run.last) carried.run

  pub record AlikeMoments (n : ℕ) : Type 0 where
    pub network : AlikeNets th laws run.net run.laws (h n) (h' n)
    pub phase : ph' n ≡ suc (ph n)

  apart : {X : Type 0} {x : X} → Some x ≡ None → ⊥
  apart e = cc

  pub moments : (n : ℕ) → AlikeMoments n
  moments zero = record { network = listening-alike th laws run.net run.laws; phase = refl }
  moments (suc n) = go (own-history n) (peer-history n) (moments n)
    where
      both : (e : HierarchyEntry th run.net) (e' : NetEntry (wide th) (peers th run.net)) → entry-on th laws run.net run.laws e ≡ e' → Happens (hierarchy_machine th run.net) (h n) (ph n) e (h (suc n)) (ph (suc n)) → Happens (routing_machine (wide th) (peers th run.net)) (h' n) (ph' n) e' (h' (suc n)) (ph' (suc n)) → AlikeMoments n → AlikeMoments (suc n)
      both e e' same x y a =
          let r = ready-on th laws run.net run.laws (h n) (h' n) a.network (ph n) (act_phase (hierarchy_machine th run.net) e.server ((h n).state e.server) e.act) x.found (ph (suc n)) x.ready in
          let s = step-on th laws run.net run.laws x.found r.finds r.alike e (h (suc n)) x.step in
          let own = phase-on th laws run.net run.laws (h n) x.found (h' n) a.network (found-state th laws run.net run.laws (h n) (ph n) (act_phase (hierarchy_machine th run.net) e.server ((h n).state e.server) e.act) x.found (ph (suc n)) x.ready) e (h (suc n)) x.step in
          let y' : Happens (routing_machine (wide th) (peers th run.net)) (h' n) (suc (ph n)) (entry-on th laws run.net run.laws e) (h' (suc n)) (ph' (suc n)) = subst (λ z. Happens (routing_machine (wide th) (peers th run.net)) (h' n) z (entry-on th laws run.net run.laws e) (h' (suc n)) (ph' (suc n))) a.phase (subst (λ z. Happens (routing_machine (wide th) (peers th run.net)) (h' n) (ph' n) z (h' (suc n)) (ph' (suc n))) (sym same) y) in
          let one = ready-once (routing_machine (wide th) (peers th run.net)) (h' n) (suc (ph n)) (Rattle.law_hierarchy.proofs.Networks.later (act_phase (hierarchy_machine th run.net) e.server ((h n).state e.server) e.act)) r.finds y'.found (suc (ph (suc n))) (ph' (suc n)) r.ready (subst (λ z. IsReady (routing_machine (wide th) (peers th run.net)) (h' n) (suc (ph n)) z y'.found (ph' (suc n))) own y'.ready) in
          let next : s.after ≡ h' (suc n) = sym (step-turn (routing_machine (wide th) (peers th run.net)) r.finds (entry-on th laws run.net run.laws e) s.after s.step) ∙ (ap (λ z. turn (routing_machine (wide th) (peers th run.net)) z e.server e.act) one.0 ∙ step-turn (routing_machine (wide th) (peers th run.net)) y'.found (entry-on th laws run.net run.laws e) (h' (suc n)) y'.step) in
          record { network = subst (λ z. AlikeNets th laws run.net run.laws (h (suc n)) z) next s.alike; phase = sym one.1 }

      go : IsNext (hierarchy_machine th run.net) run.journal h ph n → IsNext (routing_machine (wide th) (peers th run.net)) journal' h' ph' n → AlikeMoments n → AlikeMoments (suc n)
      go (inl (f, s)) (inl (g, s')) a = record { network = subst (λ z. AlikeNets th laws run.net run.laws z (h' (suc n))) (sym s.network) (subst (λ z. AlikeNets th laws run.net run.laws (h n) z) (sym s'.network) a.network); phase = s'.phase ∙ (a.phase ∙ ap suc (sym s.phase)) }
      go (inl (f, s)) (inr (e', g, s')) a = absurd (apart (sym g ∙ get-map-none (entry-on th laws run.net run.laws) run.journal n f))
      go (inr (e, f, s)) (inl (g, s')) a = absurd (apart (sym (get-map (entry-on th laws run.net run.laws) run.journal n e f) ∙ g))
      go (inr (e, f, s)) (inr (e', g, s')) a = both e e' (same_Some _ _ (sym (get-map (entry-on th laws run.net run.laws) run.journal n e f) ∙ g)) s s' a
