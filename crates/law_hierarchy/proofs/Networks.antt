-- A network of a hierarchy and the network of peers with the listener: steps, phases and runs.
use Rattle.std.proofs.Common.{◌≡◌, ℕ, zero, suc, ◌==◌, nat_lt, max, Bool, true, false, cond, not, ◌&&◌, List, [], ◌∷◌, ◌++◌, inl, inr, map, length, take, slice_get, Option, Some, None, refl, sym, ap, subst, ◌∙◌, arith, eq-eqb}
use Rattle.base.specs.Sets.{Has}
use Rattle.law_machine.specs.Machine.{Machine, Input, Does, Receives, Outcome, Stamped, at, unstamped, act_of, next_stamp, stamped, receivers, entry_of, act_phase}
use Rattle.law_machine.specs.Network.{IsAvailable, taken_after, network_after, IsStep}
use Rattle.law_machine.specs.Runs.{greatest, raised, IsQuiet, IsThrough, IsReady, IsRun}
use Rattle.law_machine.proofs.Lists.{Same, Is, Not, compare}
use Rattle.law_routing.specs.Theory.{Theory, TheoryLaws}
use Rattle.law_routing.specs.Net.{Net, PhasedCommand}
use Rattle.law_routing.specs.Clients.{adverts_after}
use Rattle.law_routing.specs.Server.{Message, ServerState}
use Rattle.law_routing.specs.Step.{Task, NextCommand, TableUpdate}
use Rattle.law_routing.specs.Step.{local_step as peer_step}
use Rattle.law_routing.specs.Routing.{routing_machine, Network, NetEntry, phase_of, not_below, all_through}
use Rattle.law_routing.proofs.Sides.{not-both}
use Rattle.law_hierarchy.specs.Masters.{top, is_master, HierarchyLaws}
use Rattle.law_hierarchy.specs.Step.{local_step, hierarchy_machine, Hierarchy, HierarchyEntry}
use Rattle.law_hierarchy.proofs.Wide.{wide}
use Rattle.law_hierarchy.proofs.Listener.{listener, peers, wide-next, wide-script, wide-get, listens, other, le-suc}
use Rattle.law_hierarchy.proofs.Shadow.{sent-on, input-on, is-subs, Alike, AlikeOutcome, not-top, master-is}
use Rattle.law_hierarchy.proofs.Local.{served, commands, outs-up}
use Rattle.law_hierarchy.proofs.Stepped.{AlikeSteps, IsFromBelow, step-alike}
use Rattle.base.proofs.Sets.{has-append, has-map}
use Rattle.std.proofs.lemmas.List.{map-append, length-map}
use Rattle.base.proofs.Lists.{get-map}

abbrev pub later : Option ℕ → Option ℕ
later None = None
later (Some k) = Some (suc k)

module _ (th : Theory) (laws : TheoryLaws th) (net : Net th) (good : HierarchyLaws th net) where
  abbrev pub hm : Machine
  hm = hierarchy_machine th net

  abbrev pub pm : Machine
  pm = routing_machine (wide th) (peers th net)

  abbrev pub stamped-on : Stamped (Message th) → Stamped (Message (wide th))
  stamped-on x = record { stamp = x.stamp; message = sent-on th x.message }

  abbrev pub deed-on : Input Task (Stamped (Message th)) → Input Task (Stamped (Message (wide th)))
  deed-on (Does a) = Does a
  deed-on (Receives u x) = Receives u (stamped-on x)

  abbrev pub entry-on : HierarchyEntry th net → NetEntry (wide th) (peers th net)
  entry-on e = record { stamp = e.stamp; server = e.server; act = e.act; outs = e.outs }

  pub record AlikeNets (w : Hierarchy th net) (w' : Network (wide th) (peers th net)) : Type 0 where
    pub state : (t : ℕ) → Alike th laws net good t (w.state t) (w'.state t)
    pub clock : (t : ℕ) → w'.clock t ≡ w.clock t
    pub put : (a b : ℕ) → w'.put a b ≡ map stamped-on (w.put a b)
    pub taken : (a b : ℕ) → w'.taken a b ≡ w.taken a b
    -- filters go up alone
    pub low : (a b : ℕ) (x : Stamped (Message th)) → Has x (w.put a b) → is-subs th x.message ≡ true → is_master th net b a ≡ false

  pub masters-apart : (t l : ℕ) → Has l (net.links t) → is_master th net t l ≡ true → is_master th net l t ≡ false
  masters-apart t l near e = go (is_master th net l t) refl
    where
      clash : true ≡ false → ⊥
      clash q = cc

      beyond : (a b : ℕ) → is_master th net a b ≡ true → Rattle.base_tree.specs.Hops.side net.hop a b top ≡ true
      beyond a b f = (λ i. not (apart i) && (net.hop a top == q i)) ∙ rw (eq-eqb (net.hop a top) (net.hop a top) refl) refl
        where
          q : b ≡ net.hop a top
          q = master-is th laws net good a b f

          apart : (top == a) ≡ false
          apart = grind (arith, not-top th laws net good a b f)

      go : (b : Bool) → is_master th net l t ≡ b → is_master th net l t ≡ false
      go false f = f
      go true f = absurd (clash (sym (beyond l t f) ∙ not-both net.servers net.links net.hop good.lawful.tree t l top near good.topped (beyond t l e)))

  receivers-same : (f : ℕ → List (Message (wide th))) (g : ℕ → List (Message th)) → ((l : ℕ) → f l ≡ map (sent-on th) (g l)) → (links : List ℕ) → receivers pm f links ≡ receivers hm g links
  receivers-same f g each [] = refl
  receivers-same f g each (l ∷ links) = λ i. cond (nat_lt 0 (count i)) (l ∷ receivers-same f g each links i) (receivers-same f g each links i)
    where
      count : length (f l) ≡ length (g l)
      count = ap length (each l) ∙ length-map (g l) (sent-on th)

  stamped-same : (n : ℕ) (xs : List (Message th)) → stamped pm n (map (sent-on th) xs) ≡ map stamped-on (stamped hm n xs)
  stamped-same n [] = refl
  stamped-same n (x ∷ xs) = ap (λ z. record { stamp = n; message = sent-on th x } ∷ z) (stamped-same n xs)

  next-same : (k k' : ℕ) (d : Input Task (Stamped (Message th))) → k' ≡ k → next_stamp pm k' (deed-on d) ≡ next_stamp hm k d
  next-same k k' (Does a) e = ap suc e
  next-same k k' (Receives u x) e = ap (λ z. suc (max z x.stamp)) e

  act-same : (d : Input Task (Stamped (Message th))) → act_of hm d ≡ act_of pm (deed-on d)
  act-same (Does a) = refl
  act-same (Receives u x) = refl

  bare-same : (d : Input Task (Stamped (Message th))) → unstamped pm (deed-on d) ≡ input-on th (unstamped hm d)
  bare-same (Does a) = refl
  bare-same (Receives u x) = refl

  given-same : (w : Hierarchy th net) (w' : Network (wide th) (peers th net)) → AlikeNets w w' → (t : ℕ) (d : Input Task (Stamped (Message th))) → IsAvailable hm w t d → IsAvailable pm w' t (deed-on d)
  given-same w w' a t (Does b) g = tt
  given-same w w' a t (Receives u x) g = (λ i. slice_get (a.put u t i) (a.taken u t i)) ∙ get-map stamped-on (w.put u t) (w.taken u t) x g

  pub low-input : (w : Hierarchy th net) (w' : Network (wide th) (peers th net)) → AlikeNets w w' → (t : ℕ) (d : Input Task (Stamped (Message th))) → IsAvailable hm w t d → IsFromBelow th laws net good t (unstamped hm d)
  low-input w w' a t (Does b) g = tt
  low-input w w' a t (Receives u x) g = λ e. a.low u t x (Rattle.base.proofs.Sets.get-has (w.put u t) (w.taken u t) x g) e

  taken-same : (f f' : ℕ → ℕ → ℕ) (t : ℕ) (d : Input Task (Stamped (Message th))) → ((a b : ℕ) → f' a b ≡ f a b) → (a b : ℕ) → taken_after pm f' t (deed-on d) a b ≡ taken_after hm f t d a b
  taken-same f f' t (Does x) e a b = e a b
  taken-same f f' t (Receives u x) e a b = λ i. cond ((a == u) && (b == t)) (suc (e a b i)) (e a b i)

  module _ (w : Hierarchy th net) (w' : Network (wide th) (peers th net)) (a : AlikeNets w w') (t : ℕ) (d : Input Task (Stamped (Message th))) (r : Outcome (ServerState th) (Message th)) (r' : Outcome (ServerState (wide th)) (Message (wide th)))
      (made : local_step th net t (w.state t) (unstamped hm d) ≡ Some r) (same : AlikeOutcome th laws net good t r r') where
    after-same : AlikeNets (network_after hm w t d r) (network_after pm w' t (deed-on d) r')
    after-same = record { state = state; clock = clock; put = put; taken = taken-same w.taken w'.taken t d a.taken; low = low }
      where
        state : (x : ℕ) → Alike th laws net good x (at w.state t r.state x) (at w'.state t r'.state x)
        state x = go (compare x t)
          where
            go : Same x t → Alike th laws net good x (cond (x == t) r.state (w.state x)) (cond (x == t) r'.state (w'.state x))
            go (Is e v) = rw v (subst (λ z. Alike th laws net good z r.state r'.state) (sym e) same.state)
            go (Not n v) = rw v (a.state x)

        clock : (x : ℕ) → at w'.clock t (next_stamp pm (w'.clock t) (deed-on d)) x ≡ at w.clock t (next_stamp hm (w.clock t) d) x
        clock x = λ i. cond (x == t) (next-same (w.clock t) (w'.clock t) d (a.clock t) i) (a.clock x i)

        put : (x y : ℕ) → cond (x == t) (w'.put x y ++ stamped pm (next_stamp pm (w'.clock t) (deed-on d)) (r'.outs y)) (w'.put x y) ≡ map stamped-on (cond (x == t) (w.put x y ++ stamped hm (next_stamp hm (w.clock t) d) (r.outs y)) (w.put x y))
        put x y = (λ i. cond (x == t) (a.put x y i ++ stamped pm (next-same (w.clock t) (w'.clock t) d (a.clock t) i) (same.outs y i)) (a.put x y i)) ∙ go (x == t)
          where
            go : (b : Bool) → cond b (map stamped-on (w.put x y) ++ stamped pm (next_stamp hm (w.clock t) d) (map (sent-on th) (r.outs y))) (map stamped-on (w.put x y)) ≡ map stamped-on (cond b (w.put x y ++ stamped hm (next_stamp hm (w.clock t) d) (r.outs y)) (w.put x y))
            go true = ap (λ z. map stamped-on (w.put x y) ++ z) (stamped-same (next_stamp hm (w.clock t) d) (r.outs y)) ∙ sym (map-append stamped-on (w.put x y) (stamped hm (next_stamp hm (w.clock t) d) (r.outs y)))
            go false = refl

        low : (x y : ℕ) (m : Stamped (Message th)) → Has m (cond (x == t) (w.put x y ++ stamped hm (next_stamp hm (w.clock t) d) (r.outs y)) (w.put x y)) → is-subs th m.message ≡ true → is_master th net y x ≡ false
        low x y m h e = go (compare x t) h
          where
            new : Has m (stamped hm (next_stamp hm (w.clock t) d) (r.outs y)) → is_master th net y t ≡ false
            new h =
                let k = has-map (λ z. record { stamp = next_stamp hm (w.clock t) d; message = z }) (r.outs y) m h in
                let s = served th net t (w.state t) (unstamped hm d) r made in
                let o = outs-up th net t y s.from s.work k.0 (subst (λ (z : Outcome (ServerState th) (Message th)). Has k.0 (z.outs y)) s.made k.1) in
                masters-apart t y o.0 (o.1 (sym (ap (λ (z : Stamped (Message th)). is-subs th z.message) k.2) ∙ e))

            go : Same x t → Has m (cond (x == t) (w.put x y ++ stamped hm (next_stamp hm (w.clock t) d) (r.outs y)) (w.put x y)) → is_master th net y x ≡ false
            go (Not n v) h = a.low x y m (rw v at h) e
            go (Is q v) h = elim (has-append m (w.put x y) (stamped hm (next_stamp hm (w.clock t) d) (r.outs y)) (rw v at h)) [ inl i ↦ a.low x y m i e | inr i ↦ subst (λ z. is_master th net y z ≡ false) (sym q) (new i) ]

    entry-same : entry-on (entry_of hm t (w.clock t) d r) ≡ entry_of pm t (w'.clock t) (deed-on d) r'
    entry-same = λ i. record { stamp = sym (next-same (w.clock t) (w'.clock t) d (a.clock t)) i; server = t; act = act-same d i; outs = sym (receivers-same r'.outs r.outs same.outs (net.links t)) i }

  -- a step, made by the peers
  pub record Step (w : Hierarchy th net) (w' : Network (wide th) (peers th net)) (e : HierarchyEntry th net) (v : Hierarchy th net) : Type 0 where
    pub after : Network (wide th) (peers th net)
    pub step : IsStep pm w' (entry-on e) after
    pub alike : AlikeNets v after

  made-on : (w : Hierarchy th net) (w' : Network (wide th) (peers th net)) → AlikeNets w w' → (t : ℕ) (d : Input Task (Stamped (Message th))) (r : Outcome (ServerState th) (Message th)) → local_step th net t (w.state t) (unstamped hm d) ≡ Some r → IsAvailable hm w t d
      → Step w w' (entry_of hm t (w.clock t) d r) (network_after hm w t d r)
  made-on w w' a t d r made given =
      go (peer_step (wide th) (peers th net) t (w'.state t) (input-on th (unstamped hm d))) refl
      (subst (λ z. AlikeSteps th laws net good t z (peer_step (wide th) (peers th net) t (w'.state t) (input-on th (unstamped hm d)))) made (step-alike th laws net good t (w.state t) (w'.state t) (a.state t) (unstamped hm d) (low-input w w' a t d given)))
    where
      go : (o : Option (Outcome (ServerState (wide th)) (Message (wide th)))) → peer_step (wide th) (peers th net) t (w'.state t) (input-on th (unstamped hm d)) ≡ o → AlikeSteps th laws net good t (Some r) o → Step w w' (entry_of hm t (w.clock t) d r) (network_after hm w t d r)
      go None e s = absurd s
      go (Some r') e s = record {
        after = network_after pm w' t (deed-on d) r';
        step = (deed-on d, r', ap (λ z. peer_step (wide th) (peers th net) t (w'.state t) z) (bare-same d) ∙ e, entry-same w w' a t d r r' made s, given-same w w' a t d given, refl);
        alike = after-same w w' a t d r r' made s;
      }

  pub step-on : (w : Hierarchy th net) (w' : Network (wide th) (peers th net)) → AlikeNets w w' → (e : HierarchyEntry th net) (v : Hierarchy th net) → IsStep hm w e v → Step w w' e v
  step-on w w' a e v (d, r, made, told, given, after) = subst (λ z. Step w w' z v) (sym told) (subst (λ z. Step w w' (entry_of hm e.server (w.clock e.server) d r) z) after (made-on w w' a e.server d r made given))

  -- the phase of what is done
  pub phase-next : (t c : ℕ) (s : ServerState th) (s' : ServerState (wide th)) → Alike th laws net good t s s' → (c == listener th net) ≡ false → slice_get ((peers th net).script c) (s'.done c) ≡ wide-next th net (adverts_after th [] (take (s.done c) (net.script c))) (slice_get (net.script c) (s.done c))
  phase-next t c s s' a n = (λ i. slice_get (script i) (now i)) ∙ wide-get th net [] (net.script c) (s.done c)
    where
      now : s'.done c ≡ s.done c
      now = a.done c ∙ rw n refl

      script : (peers th net).script c ≡ wide-script th net [] (net.script c)
      script = rw n refl

  phase-same : (t : ℕ) (s : ServerState th) (s' : ServerState (wide th)) → Alike th laws net good t s s' → (d : Input Task (Stamped (Message th))) (r : Outcome (ServerState th) (Message th)) → local_step th net t s (unstamped hm d) ≡ Some r → act_phase pm t s' (act_of hm d) ≡ later (act_phase hm t s (act_of hm d))
  phase-same t s s' a (Receives u x) r e = refl
  phase-same t s s' a (Does TableUpdate) r e = refl
  phase-same t s s' a (Does (NextCommand c)) r e =
      let k = commands th net t s c r e in
      ap (phase_of (wide th) (peers th net)) (phase-next t c s s' a (other th net good t c k.lives) ∙ ap (wide-next th net (adverts_after th [] (take (s.done c) (net.script c)))) k.at) ∙ sym (ap (λ z. later (phase_of th net z)) k.at)

  pub phase-on : (w found : Hierarchy th net) (w' : Network (wide th) (peers th net)) → AlikeNets w w' → found.state ≡ w.state → (e : HierarchyEntry th net) (v : Hierarchy th net) → IsStep hm found e v → act_phase pm e.server (w'.state e.server) e.act ≡ later (act_phase hm e.server (w.state e.server) e.act)
  phase-on w found w' a same e v (d, r, made, told, given, after) =
      subst (λ z. act_phase pm e.server (w'.state e.server) z ≡ later (act_phase hm e.server (w.state e.server) z)) (sym (ap (λ (z : HierarchyEntry th net). z.act) told))
      (phase-same e.server (w.state e.server) (w'.state e.server) (a.state e.server) d r (subst (λ z. local_step th net e.server (z e.server) (unstamped hm d) ≡ Some r) same made))

  greatest-same : (f f' : ℕ → ℕ) → ((t : ℕ) → f' t ≡ f t) → (ts : List ℕ) → greatest pm f' ts ≡ greatest hm f ts
  greatest-same f f' e [] = refl
  greatest-same f f' e (t ∷ ts) = λ i. max (e t i) (greatest-same f f' e ts i)

  pub raised-same : (w : Hierarchy th net) (w' : Network (wide th) (peers th net)) → AlikeNets w w' → AlikeNets (raised hm w) (raised pm w')
  raised-same w w' a = record { state = a.state; clock = λ t. greatest-same w.clock w'.clock a.clock net.servers; put = a.put; taken = a.taken; low = a.low }

  pub quiet-on : (w : Hierarchy th net) (w' : Network (wide th) (peers th net)) → AlikeNets w w' → IsQuiet hm w → IsQuiet pm w'
  quiet-on w w' a q = record { empty = λ x y. a.taken x y ∙ (q.empty x y ∙ sym (ap length (a.put x y) ∙ length-map (w.put x y) stamped-on)); calm = λ t here. (a.state t).pending ∙ q.calm t here }

  pub quiet-off : (w : Hierarchy th net) (w' : Network (wide th) (peers th net)) → AlikeNets w w' → IsQuiet pm w' → IsQuiet hm w
  quiet-off w w' a q = record { empty = λ x y. sym (a.taken x y) ∙ (q.empty x y ∙ (ap length (a.put x y) ∙ length-map (w.put x y) stamped-on)); calm = λ t here. sym (a.state t).pending ∙ q.calm t here }

  pub below-same : (k t c : ℕ) (s : ServerState th) (s' : ServerState (wide th)) → Alike th laws net good t s s' → Has c (net.clients t) → not_below (wide th) (peers th net) (suc k) (slice_get ((peers th net).script c) (s'.done c)) ≡ not_below th net k (slice_get (net.script c) (s.done c))
  below-same k t c s s' a lives = ap (not_below (wide th) (peers th net) (suc k)) (phase-next t c s s' a (other th net good t c lives)) ∙ go (slice_get (net.script c) (s.done c))
    where
      go : (o : Option (PhasedCommand th)) → not_below (wide th) (peers th net) (suc k) (wide-next th net (adverts_after th [] (take (s.done c) (net.script c))) o) ≡ not_below th net k o
      go None = refl
      go (Some x) = le-suc k x.phase

  through-clients : (k t : ℕ) (s : ServerState th) (s' : ServerState (wide th)) → Alike th laws net good t s s' → (cs : List ℕ) → ((c : ℕ) → Has c cs → Has c (net.clients t)) → all_through (wide th) (peers th net) s' (suc k) cs ≡ all_through th net s k cs
  through-clients k t s s' a [] of = refl
  through-clients k t s s' a (c ∷ cs) of = λ i. below-same k t c s s' a (of c (inl refl)) i && through-clients k t s s' a cs (λ x h. of x (inr h)) i

  pub through-on : (w : Hierarchy th net) (w' : Network (wide th) (peers th net)) → AlikeNets w w' → (k : ℕ) → IsThrough hm w k → IsThrough pm w' (suc k)
  through-on w w' a k q t here = go (t == top)
    where
      own : all_through (wide th) (peers th net) (w'.state t) (suc k) (net.clients t) ≡ true
      own = through-clients k t (w.state t) (w'.state t) (a.state t) (net.clients t) (λ c h. h) ∙ q t here

      v : (listener th net == listener th net) ≡ true
      v = eq-eqb (listener th net) (listener th net) refl

      now : (w'.state t).done (listener th net) ≡ 1
      now = (a.state t).done (listener th net) ∙ rw v refl

      script : (peers th net).script (listener th net) ≡ listens th net
      script = rw v refl

      listening : not_below (wide th) (peers th net) (suc k) (slice_get ((peers th net).script (listener th net)) ((w'.state t).done (listener th net))) ≡ true
      listening = λ i. not_below (wide th) (peers th net) (suc k) (slice_get (script i) (now i))

      go : (b : Bool) → all_through (wide th) (peers th net) (w'.state t) (suc k) (cond b (listener th net ∷ net.clients t) (net.clients t)) ≡ true
      go true = λ i. listening i && own i
      go false = own

  -- the rule of phases
  pub record Ready (w' : Network (wide th) (peers th net)) (p : ℕ) (o : Option ℕ) (found : Hierarchy th net) (q : ℕ) : Type 0 where
    pub finds : Network (wide th) (peers th net)
    pub ready : IsReady pm w' (suc p) (later o) finds (suc q)
    pub alike : AlikeNets found finds

  pub ready-on : (w : Hierarchy th net) (w' : Network (wide th) (peers th net)) → AlikeNets w w' → (p : ℕ) (o : Option ℕ) (found : Hierarchy th net) (q : ℕ) → IsReady hm w p o found q → Ready w' p o found q
  ready-on w w' a p None found q (e, f) = record { finds = w'; ready = (refl, ap suc f); alike = subst (λ z. AlikeNets z w') e a }
  ready-on w w' a p (Some k) found q (e, inl (f, g)) = record { finds = w'; ready = (ap suc e, inl (ap suc f, refl)); alike = subst (λ z. AlikeNets z w') g a }
  ready-on w w' a p (Some k) found q (e, inr (l, t, c, g)) = record { finds = raised pm w'; ready = (ap suc e, inr (omega (arith, l), through-on w w' a k t, quiet-on w w' a c, refl)); alike = subst (λ z. AlikeNets z (raised pm w')) g (raised-same w w' a) }

  pub found-state : (w : Hierarchy th net) (p : ℕ) (o : Option ℕ) (found : Hierarchy th net) (q : ℕ) → IsReady hm w p o found q → found.state ≡ w.state
  found-state w p None found q (e, f) = ap (λ (z : Hierarchy th net). z.state) (sym e)
  found-state w p (Some k) found q (e, inl (f, g)) = ap (λ (z : Hierarchy th net). z.state) (sym g)
  found-state w p (Some k) found q (e, inr (l, t, c, g)) = ap (λ (z : Hierarchy th net). z.state) (sym g)

  -- a run
  pub record Runs (w' : Network (wide th) (peers th net)) (p : ℕ) (es : List (HierarchyEntry th net)) (end : Hierarchy th net) (last : ℕ) : Type 0 where
    pub end' : Network (wide th) (peers th net)
    pub run : IsRun pm w' (suc p) (map entry-on es) end' (suc last)
    pub alike : AlikeNets end end'

  pub run-on : (w : Hierarchy th net) (w' : Network (wide th) (peers th net)) → AlikeNets w w' → (p : ℕ) (es : List (HierarchyEntry th net)) (end : Hierarchy th net) (last : ℕ) → IsRun hm w p es end last → Runs w' p es end last
  run-on w w' a p [] end last (e, f) = record { end' = w'; run = (refl, ap suc f); alike = subst (λ z. AlikeNets z w') e a }
  run-on w w' a p (e ∷ es) end last (found, next, now, ready, step, rest) =
      let r = ready-on w w' a p (act_phase hm e.server (w.state e.server) e.act) found now ready in
      let s = step-on found r.finds r.alike e next step in
      let phase = phase-on w found w' a (found-state w p (act_phase hm e.server (w.state e.server) e.act) found now ready) e next step in
      let ih = run-on next s.after s.alike now es end last rest in
      record { end' = ih.end'; run = (r.finds, s.after, suc now, subst (λ z. IsReady pm w' (suc p) z r.finds (suc now)) (sym phase) r.ready, s.step, ih.run); alike = ih.alike }
