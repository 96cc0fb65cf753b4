-- Turns tried in a hierarchy, and by the peers: what is possible in the one is possible in the other.
use Rattle.std.proofs.Common.{◌≡◌, ℕ, suc, ◌==◌, Bool, true, false, cond, List, [], ◌∷◌, ◌⊎◌, inl, inr, map, take, slice_get, Option, Some, None, refl, sym, ap, subst, ◌∙◌, arith}
use Rattle.law_machine.specs.Machine.{Machine, Input, Does, Receives, Outcome, Act, Did, Received, Stamped, Entry, act_phase}
use Rattle.law_machine.specs.Network.{NetworkState, reception_of, outcome_of, outcome_at, turn, entry_given, entry_from, entry_at}
use Rattle.law_machine.specs.Runs.{raised}
use Rattle.law_machine.specs.History.{Moment, as_found, network_step}
use Rattle.law_machine.specs.Walk.{IsWalkable, is_of_phase, entry_of_phase, entry_in, with_default, moment_by}
use Rattle.law_machine.proofs.Tried.{Entered, entry-step, step-entry}
use Rattle.law_machine.proofs.Turn.{step-turn}
use Rattle.law_routing.specs.Theory.{Theory, TheoryLaws}
use Rattle.law_routing.specs.Net.{Net}
use Rattle.law_routing.specs.Clients.{adverts_after}
use Rattle.law_routing.specs.Server.{Message, ServerState}
use Rattle.law_routing.specs.Step.{Task, NextCommand, TableUpdate}
use Rattle.law_routing.specs.Step.{local_step as peer_step}
use Rattle.law_routing.specs.Routing.{routing_machine, Network, phase_of}
use Rattle.law_hierarchy.specs.Masters.{HierarchyLaws}
use Rattle.law_hierarchy.specs.Step.{local_step, hierarchy_machine, Hierarchy, HierarchyEntry}
use Rattle.law_hierarchy.proofs.Wide.{wide}
use Rattle.law_hierarchy.proofs.Listener.{peers, wide-next, other}
use Rattle.law_hierarchy.proofs.Shadow.{input-on}
use Rattle.law_hierarchy.proofs.Local.{commands}
use Rattle.law_hierarchy.proofs.Stepped.{AlikeSteps, IsFromBelow, step-alike}
use Rattle.law_hierarchy.proofs.Networks.{stamped-on, entry-on, AlikeNets, Step, step-on, raised-same, quiet-on, through-on, later, phase-next, low-input}
use Rattle.base.proofs.Lists.{get-map, get-map-none}

eq-suc : (a b : ℕ) → (suc a == suc b) ≡ (a == b)
eq-suc a b = grind arith

-- a step under the rule of phases, by its server and act
step-is : (m : Machine) (s : Moment m) (e : Entry m) (t : ℕ) (a : Act m.Task) → e.server ≡ t → e.act ≡ a
    → network_step m s e ≡ record { network = turn m (as_found m s (act_phase m t (s.network.state t) a)).network t a; phase = (as_found m s (act_phase m t (s.network.state t) a)).phase }
step-is m s e t a p q = λ i. record { network = turn m (as_found m s (act_phase m (p i) (s.network.state (p i)) (q i))).network (p i) (q i); phase = (as_found m s (act_phase m (p i) (s.network.state (p i)) (q i))).phase }

no-entry : (m : Machine) (w : NetworkState m) (t : ℕ) (d : Input m.Task (Stamped m.Message)) (o : Option (Outcome m.State m.Message)) → entry_given m w t d o ≡ None → o ≡ None
no-entry m w t d None e = refl
no-entry m w t d (Some r) e = absurd cc

-- an act that is not possible in a state has no entry, whatever the clocks
none-in : (m : Machine) (j : ℕ) (o : Option ℕ) (x : Moment m) (t : ℕ) (b : Act m.Task) → ((w : NetworkState m) → w.state ≡ x.network.state → entry_at m w t b ≡ None) → entry_of_phase m j x t b o ≡ None
none-in m j o x t b f = go (is_of_phase m j o) (kept o)
  where
    kept : (o : Option ℕ) → (as_found m x o).network.state ≡ x.network.state
    kept None = refl
    kept (Some i) = by (x.phase == i)
      where
        by : (c : Bool) → (cond c x (record { network = raised m x.network; phase = i })).network.state ≡ x.network.state
        by true = refl
        by false = refl

    go : (c : Bool) → (as_found m x o).network.state ≡ x.network.state → cond c (entry_at m (as_found m x o).network t b) None ≡ None
    go true e = f (as_found m x o).network e
    go false e = refl

module _ (th : Theory) (laws : TheoryLaws th) (net : Net th) (good : HierarchyLaws th net) where
  -- what is not possible in the one is not in the other
  none-on : (w : Hierarchy th net) (w' : Network (wide th) (peers th net)) → AlikeNets th laws net good w w' → (t : ℕ) (d : Input Task (Message th)) → IsFromBelow th laws net good t d → local_step th net t (w.state t) d ≡ None → peer_step (wide th) (peers th net) t (w'.state t) (input-on th d) ≡ None
  none-on w w' a t d low e = go (peer_step (wide th) (peers th net) t (w'.state t) (input-on th d)) refl (subst (λ z. AlikeSteps th laws net good t z (peer_step (wide th) (peers th net) t (w'.state t) (input-on th d))) e (step-alike th laws net good t (w.state t) (w'.state t) (a.state t) d low))
    where
      go : (o : Option (Outcome (ServerState (wide th)) (Message (wide th)))) → peer_step (wide th) (peers th net) t (w'.state t) (input-on th d) ≡ o → AlikeSteps th laws net good t None o → peer_step (wide th) (peers th net) t (w'.state t) (input-on th d) ≡ None
      go None f s = f
      go (Some r) f s = absurd s

  pub outcome-none : (w : Hierarchy th net) (w' : Network (wide th) (peers th net)) → AlikeNets th laws net good w w' → (t : ℕ) (a : Act Task) → outcome_at (hierarchy_machine th net) w t a ≡ None → outcome_at (routing_machine (wide th) (peers th net)) w' t a ≡ None
  outcome-none w w' a t (Did x) e = none-on w w' a t (Does x) tt e
  outcome-none w w' a t (Received u) e = go (slice_get (w.put u t) (w.taken u t)) refl e
    where
      here : slice_get (w'.put u t) (w'.taken u t) ≡ slice_get (map (stamped-on th laws net good) (w.put u t)) (w.taken u t)
      here = λ i. slice_get (a.put u t i) (a.taken u t i)

      go : (o : Option (Stamped (Message th))) → slice_get (w.put u t) (w.taken u t) ≡ o → outcome_of (hierarchy_machine th net) w t (reception_of (hierarchy_machine th net) u o) ≡ None → outcome_at (routing_machine (wide th) (peers th net)) w' t (Received u) ≡ None
      go None f g = ap (λ z. outcome_of (routing_machine (wide th) (peers th net)) w' t (reception_of (routing_machine (wide th) (peers th net)) u z)) (here ∙ get-map-none (stamped-on th laws net good) (w.put u t) (w.taken u t) f)
      go (Some x) f g =
          ap (λ z. outcome_of (routing_machine (wide th) (peers th net)) w' t (reception_of (routing_machine (wide th) (peers th net)) u z)) (here ∙ get-map (stamped-on th laws net good) (w.put u t) (w.taken u t) x f)
          ∙ none-on w w' a t (Receives u x.message) (low-input th laws net good w w' a t (Receives u x) f) g

  -- an entry of an act, in the one and in the other
  pub record Entries (w : Hierarchy th net) (w' : Network (wide th) (peers th net)) (t : ℕ) (act : Act Task) : Type 0 where
    pub entry : HierarchyEntry th net
    pub own : entry_at (hierarchy_machine th net) w t act ≡ Some entry
    pub peer : entry_at (routing_machine (wide th) (peers th net)) w' t act ≡ Some (entry-on th laws net good entry)
    pub server : entry.server ≡ t
    pub is : entry.act ≡ act
    pub alike : AlikeNets th laws net good (turn (hierarchy_machine th net) w t act) (turn (routing_machine (wide th) (peers th net)) w' t act)

  pub record NoEntries (w : Hierarchy th net) (w' : Network (wide th) (peers th net)) (t : ℕ) (act : Act Task) : Type 0 where
    pub own : entry_at (hierarchy_machine th net) w t act ≡ None
    pub peer : entry_at (routing_machine (wide th) (peers th net)) w' t act ≡ None

  none-entry : (w : Hierarchy th net) (w' : Network (wide th) (peers th net)) → AlikeNets th laws net good w w' → (t : ℕ) (act : Act Task) → entry_at (hierarchy_machine th net) w t act ≡ None → entry_at (routing_machine (wide th) (peers th net)) w' t act ≡ None
  none-entry w w' a t (Did x) e = ap (entry_given (routing_machine (wide th) (peers th net)) w' t (Does x)) (none-on w w' a t (Does x) tt (no-entry (hierarchy_machine th net) w t (Does x) (local_step th net t (w.state t) (Does x)) e))
  none-entry w w' a t (Received u) e = go (slice_get (w.put u t) (w.taken u t)) refl e
    where
      here : slice_get (w'.put u t) (w'.taken u t) ≡ slice_get (map (stamped-on th laws net good) (w.put u t)) (w.taken u t)
      here = λ i. slice_get (a.put u t i) (a.taken u t i)

      go : (o : Option (Stamped (Message th))) → slice_get (w.put u t) (w.taken u t) ≡ o → entry_from (hierarchy_machine th net) w t (reception_of (hierarchy_machine th net) u o) ≡ None → entry_at (routing_machine (wide th) (peers th net)) w' t (Received u) ≡ None
      go None f g = ap (λ z. entry_from (routing_machine (wide th) (peers th net)) w' t (reception_of (routing_machine (wide th) (peers th net)) u z)) (here ∙ get-map-none (stamped-on th laws net good) (w.put u t) (w.taken u t) f)
      go (Some x) f g =
          ap (λ z. entry_from (routing_machine (wide th) (peers th net)) w' t (reception_of (routing_machine (wide th) (peers th net)) u z)) (here ∙ get-map (stamped-on th laws net good) (w.put u t) (w.taken u t) x f)
          ∙ ap (entry_given (routing_machine (wide th) (peers th net)) w' t (Receives u (stamped-on th laws net good x))) (none-on w w' a t (Receives u x.message) (low-input th laws net good w w' a t (Receives u x) f) (no-entry (hierarchy_machine th net) w t (Receives u x) (local_step th net t (w.state t) (Receives u x.message)) g))

  entries-at : (w : Hierarchy th net) (w' : Network (wide th) (peers th net)) → AlikeNets th laws net good w w' → (t : ℕ) (act : Act Task) → NoEntries w w' t act ⊎ Entries w w' t act
  entries-at w w' a t act = go (entry_at (hierarchy_machine th net) w t act) refl
    where
      go : (o : Option (HierarchyEntry th net)) → entry_at (hierarchy_machine th net) w t act ≡ o → NoEntries w w' t act ⊎ Entries w w' t act
      go None e = inl (record { own = e; peer = none-entry w w' a t act e })
      go (Some x) e = inr (record {
        entry = x;
        own = e;
        peer = (λ i. entry_at (routing_machine (wide th) (peers th net)) w' (sym y.server i) (sym y.act i)) ∙ step-entry (routing_machine (wide th) (peers th net)) w' (entry-on th laws net good x) s.after s.step;
        server = y.server;
        is = y.act;
        alike = subst (λ z. AlikeNets th laws net good (turn (hierarchy_machine th net) w t act) z) (sym ((λ i. turn (routing_machine (wide th) (peers th net)) w' (sym y.server i) (sym y.act i)) ∙ step-turn (routing_machine (wide th) (peers th net)) w' (entry-on th laws net good x) s.after s.step)) s.alike;
      })
        where
          y : Entered (hierarchy_machine th net) w t act x
          y = entry-step (hierarchy_machine th net) w t act x e

          s : Step th laws net good w w' x (turn (hierarchy_machine th net) w t act)
          s = step-on th laws net good w w' a x (turn (hierarchy_machine th net) w t act) y.step

  -- moments
  pub record AlikeTimes (s : Moment (hierarchy_machine th net)) (s' : Moment (routing_machine (wide th) (peers th net))) : Type 0 where
    pub network : AlikeNets th laws net good s.network s'.network
    pub phase : s'.phase ≡ suc s.phase

  found-alike : (s : Moment (hierarchy_machine th net)) (s' : Moment (routing_machine (wide th) (peers th net))) → AlikeTimes s s' → (o : Option ℕ) → AlikeTimes (as_found (hierarchy_machine th net) s o) (as_found (routing_machine (wide th) (peers th net)) s' (later o))
  found-alike s s' a None = a
  found-alike s s' a (Some k) = subst (λ z. AlikeTimes (cond (s.phase == k) s up) (cond z s' up')) (sym (ap (λ z. z == suc k) a.phase ∙ eq-suc s.phase k)) (go (s.phase == k))
    where
      up : Moment (hierarchy_machine th net)
      up = record { network = raised (hierarchy_machine th net) s.network; phase = k }

      up' : Moment (routing_machine (wide th) (peers th net))
      up' = record { network = raised (routing_machine (wide th) (peers th net)) s'.network; phase = suc k }

      go : (b : Bool) → AlikeTimes (cond b s (record { network = raised (hierarchy_machine th net) s.network; phase = k })) (cond b s' (record { network = raised (routing_machine (wide th) (peers th net)) s'.network; phase = suc k }))
      go true = a
      go false = record { network = raised-same th laws net good s.network s'.network a.network; phase = refl }

  of-phase-same : (k : ℕ) (o : Option ℕ) → is_of_phase (routing_machine (wide th) (peers th net)) (suc k) (later o) ≡ is_of_phase (hierarchy_machine th net) k o
  of-phase-same k None = refl
  of-phase-same k (Some j) = eq-suc j k

  -- the moments after a turn, in the one and in the other
  module _ (k : ℕ) (s : Moment (hierarchy_machine th net)) (s' : Moment (routing_machine (wide th) (peers th net))) (a : AlikeTimes s s') (t : ℕ) (act : Act Task) where
    abbrev Goes-on : Type 0
    Goes-on = ((entry_in (hierarchy_machine th net) k s (t, act) ≡ None) × (entry_in (routing_machine (wide th) (peers th net)) (suc k) s' (t, act) ≡ None))
        ⊎ ((e : HierarchyEntry th net) × (entry_in (hierarchy_machine th net) k s (t, act) ≡ Some e) × (entry_in (routing_machine (wide th) (peers th net)) (suc k) s' (t, act) ≡ Some (entry-on th laws net good e)) × AlikeTimes (network_step (hierarchy_machine th net) s e) (network_step (routing_machine (wide th) (peers th net)) s' (entry-on th laws net good e)))

    abbrev own : Option ℕ
    own = act_phase (hierarchy_machine th net) t (s.network.state t) act

    -- where its phase is that of the peers
    tried : act_phase (routing_machine (wide th) (peers th net)) t (s'.network.state t) act ≡ later (act_phase (hierarchy_machine th net) t (s.network.state t) act) → Goes-on
    tried same = go (is_of_phase (hierarchy_machine th net) k own) refl (entries-at (as_found (hierarchy_machine th net) s own).network (as_found (routing_machine (wide th) (peers th net)) s' (later own)).network found.network t act)
      where
        found : AlikeTimes (as_found (hierarchy_machine th net) s (act_phase (hierarchy_machine th net) t (s.network.state t) act)) (as_found (routing_machine (wide th) (peers th net)) s' (later (act_phase (hierarchy_machine th net) t (s.network.state t) act)))
        found = found-alike s s' a (act_phase (hierarchy_machine th net) t (s.network.state t) act)

        peer-in : entry_in (routing_machine (wide th) (peers th net)) (suc k) s' (t, act) ≡ cond (is_of_phase (hierarchy_machine th net) k (act_phase (hierarchy_machine th net) t (s.network.state t) act)) (entry_at (routing_machine (wide th) (peers th net)) (as_found (routing_machine (wide th) (peers th net)) s' (later (act_phase (hierarchy_machine th net) t (s.network.state t) act))).network t act) None
        peer-in = ap (entry_of_phase (routing_machine (wide th) (peers th net)) (suc k) s' t act) same ∙ ap (λ z. cond z (entry_at (routing_machine (wide th) (peers th net)) (as_found (routing_machine (wide th) (peers th net)) s' (later (act_phase (hierarchy_machine th net) t (s.network.state t) act))).network t act) None) (of-phase-same k (act_phase (hierarchy_machine th net) t (s.network.state t) act))

        go : (b : Bool) → is_of_phase (hierarchy_machine th net) k (act_phase (hierarchy_machine th net) t (s.network.state t) act) ≡ b
            → NoEntries (as_found (hierarchy_machine th net) s own).network (as_found (routing_machine (wide th) (peers th net)) s' (later own)).network t act ⊎ Entries (as_found (hierarchy_machine th net) s own).network (as_found (routing_machine (wide th) (peers th net)) s' (later own)).network t act → Goes-on
        go false e x = inl (ap (λ z. cond z (entry_at (hierarchy_machine th net) (as_found (hierarchy_machine th net) s own).network t act) None) e, peer-in ∙ ap (λ z. cond z (entry_at (routing_machine (wide th) (peers th net)) (as_found (routing_machine (wide th) (peers th net)) s' (later own)).network t act) None) e)
        go true e (inl x) = inl (ap (λ z. cond z (entry_at (hierarchy_machine th net) (as_found (hierarchy_machine th net) s own).network t act) None) e ∙ x.own, peer-in ∙ (ap (λ z. cond z (entry_at (routing_machine (wide th) (peers th net)) (as_found (routing_machine (wide th) (peers th net)) s' (later own)).network t act) None) e ∙ x.peer))
        go true e (inr x) = inr (
          x.entry,
          ap (λ z. cond z (entry_at (hierarchy_machine th net) (as_found (hierarchy_machine th net) s own).network t act) None) e ∙ x.own,
          peer-in ∙ (ap (λ z. cond z (entry_at (routing_machine (wide th) (peers th net)) (as_found (routing_machine (wide th) (peers th net)) s' (later own)).network t act) None) e ∙ x.peer),
          subst (λ z. AlikeTimes z (network_step (routing_machine (wide th) (peers th net)) s' (entry-on th laws net good x.entry))) (sym (step-is (hierarchy_machine th net) s x.entry t act x.server x.is))
              (subst (λ z. AlikeTimes (record { network = turn (hierarchy_machine th net) (as_found (hierarchy_machine th net) s own).network t act; phase = (as_found (hierarchy_machine th net) s own).phase }) z)
              (sym (step-is (routing_machine (wide th) (peers th net)) s' (entry-on th laws net good x.entry) t act x.server x.is ∙ ap (λ z. record { network = turn (routing_machine (wide th) (peers th net)) (as_found (routing_machine (wide th) (peers th net)) s' z).network t act; phase = (as_found (routing_machine (wide th) (peers th net)) s' z).phase }) same))
              (record { network = x.alike; phase = found.phase })),
        )

    -- where it is not possible, whatever the clocks
    barred : ((w : Hierarchy th net) → w.state ≡ s.network.state → entry_at (hierarchy_machine th net) w t act ≡ None) → ((w' : Network (wide th) (peers th net)) → w'.state ≡ s'.network.state → entry_at (routing_machine (wide th) (peers th net)) w' t act ≡ None) → Goes-on
    barred f f' = inl (none-in (hierarchy_machine th net) k own s t act f, none-in (routing_machine (wide th) (peers th net)) (suc k) (act_phase (routing_machine (wide th) (peers th net)) t (s'.network.state t) act) s' t act f')

  goes-on : (k : ℕ) (s : Moment (hierarchy_machine th net)) (s' : Moment (routing_machine (wide th) (peers th net))) → (a : AlikeTimes s s') (t : ℕ) (act : Act Task) → Goes-on k s s' a t act
  goes-on k s s' a t (Received u) = tried k s s' a t (Received u) refl
  goes-on k s s' a t (Did TableUpdate) = tried k s s' a t (Did TableUpdate) refl
  goes-on k s s' a t (Did (NextCommand c)) = go (local_step th net t (s.network.state t) (Does (NextCommand c))) refl
    where
      go : (o : Option (Outcome (ServerState th) (Message th))) → local_step th net t (s.network.state t) (Does (NextCommand c)) ≡ o → Goes-on k s s' a t (Did (NextCommand c))
      go (Some r) e =
          let x = commands th net t (s.network.state t) c r e in
          tried k s s' a t (Did (NextCommand c)) (ap (phase_of (wide th) (peers th net)) (phase-next th laws net good t c (s.network.state t) (s'.network.state t) (a.network.state t) (other th net good t c x.lives) ∙ ap (wide-next th net (adverts_after th [] (take ((s.network.state t).done c) (net.script c)))) x.at) ∙ sym (ap (λ z. later (phase_of th net z)) x.at))
      go None e = barred k s s' a t (Did (NextCommand c))
          (λ w same. ap (entry_given (hierarchy_machine th net) w t (Does (NextCommand c))) (subst (λ z. local_step th net t (z t) (Does (NextCommand c)) ≡ None) (sym same) e))
          (λ w' same. ap (entry_given (routing_machine (wide th) (peers th net)) w' t (Does (NextCommand c))) (subst (λ z. peer_step (wide th) (peers th net) t (z t) (Does (NextCommand c)) ≡ None) (sym same) (none-on s.network s'.network a.network t (Does (NextCommand c)) tt e)))

  -- moments after turns
  pub turns-alike : (k : ℕ) (turns : List (ℕ × Act Task)) (s : Moment (hierarchy_machine th net)) (s' : Moment (routing_machine (wide th) (peers th net))) → AlikeTimes s s' → AlikeTimes (moment_by (hierarchy_machine th net) k s turns) (moment_by (routing_machine (wide th) (peers th net)) (suc k) s' turns)
  turns-alike k [] s s' a = a
  turns-alike k (x ∷ turns) s s' a = go (goes-on k s s' a x.0 x.1) (λ z z' b. turns-alike k turns z z' b)
    where
      go : Goes-on k s s' a x.0 x.1 → ((z : Moment (hierarchy_machine th net)) (z' : Moment (routing_machine (wide th) (peers th net))) → AlikeTimes z z' → AlikeTimes (moment_by (hierarchy_machine th net) k z turns) (moment_by (routing_machine (wide th) (peers th net)) (suc k) z' turns))
          → AlikeTimes (moment_by (hierarchy_machine th net) k s (x ∷ turns)) (moment_by (routing_machine (wide th) (peers th net)) (suc k) s' (x ∷ turns))
      go (inl (e, f)) ih =
          subst (λ o. AlikeTimes (with_default o (λ z. moment_by (hierarchy_machine th net) k (network_step (hierarchy_machine th net) s z) turns) (moment_by (hierarchy_machine th net) k s turns)) (moment_by (routing_machine (wide th) (peers th net)) (suc k) s' (x ∷ turns))) (sym e)
          (subst (λ o. AlikeTimes (moment_by (hierarchy_machine th net) k s turns) (with_default o (λ z. moment_by (routing_machine (wide th) (peers th net)) (suc k) (network_step (routing_machine (wide th) (peers th net)) s' z) turns) (moment_by (routing_machine (wide th) (peers th net)) (suc k) s' turns))) (sym f) (ih s s' a))
      go (inr (e, f, g, b)) ih =
          subst (λ o. AlikeTimes (with_default o (λ z. moment_by (hierarchy_machine th net) k (network_step (hierarchy_machine th net) s z) turns) (moment_by (hierarchy_machine th net) k s turns)) (moment_by (routing_machine (wide th) (peers th net)) (suc k) s' (x ∷ turns))) (sym f)
          (subst (λ o. AlikeTimes (moment_by (hierarchy_machine th net) k (network_step (hierarchy_machine th net) s e) turns) (with_default o (λ z. moment_by (routing_machine (wide th) (peers th net)) (suc k) (network_step (routing_machine (wide th) (peers th net)) s' z) turns) (moment_by (routing_machine (wide th) (peers th net)) (suc k) s' turns))) (sym g)
          (ih (network_step (hierarchy_machine th net) s e) (network_step (routing_machine (wide th) (peers th net)) s' (entry-on th laws net good e)) b))

  pub walkable-on : (k : ℕ) (s : Moment (hierarchy_machine th net)) (s' : Moment (routing_machine (wide th) (peers th net))) → AlikeTimes s s' → IsWalkable (hierarchy_machine th net) k s → IsWalkable (routing_machine (wide th) (peers th net)) (suc k) s'
  walkable-on k s s' a (inl e) = inl (a.phase ∙ ap suc e)
  walkable-on k s s' a (inr (l, t, q)) = inr (omega (arith, l, a.phase), through-on th laws net good s.network s'.network a.network k t, quiet-on th laws net good s.network s'.network a.network q)
