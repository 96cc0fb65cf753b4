-- A reception or a table update that is tried: made where it is permitted, and else nothing changes; and the network is kept.
use Rattle.std.proofs.Common.{◌≡◌, ℕ, zero, suc, ◌-◌, ◌≤◌, Bool, true, false, List, [], ◌∷◌, map, drop, slice_get, Option, Some, None, Result, Ok, Err, IfOk, OnErr, refl, sym, ap, subst, ◌∙◌, arith}
use Rattle.base.specs.Sets.{Has}
use Rattle.law_machine.specs.Machine.{Does, Receives, Did, Received, Stamped}
use Rattle.law_routing.specs.Server.{Message}
use Rattle.law_routing.specs.Step.{TableUpdate}
use Rattle.law_phases.specs.Trees.{State, net_at}
use Rattle.net_model.specs.Real.{real}
use Rattle.base_tree.specs.Tree.{links_of}
use Rattle.base.specs.declared.memory.NoMemory.{NoMemory}
use Rattle.net_model.specs.declared.turn.Act.TheVariants as acts
use Rattle.net_model.specs.declared.turn.Turn.TheVariants as turns
use Rattle.server_message.specs.Parts.{SendingParts}
use Rattle.net_model.specs.Parts.{NetParts, entry_parts}
use Rattle.net_model.specs.Nets.{phased_net, topology_at}
use Rattle.server_core.specs.Core.{CoreParts}
use Rattle.server_core.specs.Pending.{is_some_there}
use Rattle.net_turns.specs.Network.{network_parts, moment_by}
use Rattle.net_turns.specs.Turns.{IsTurn, IsMade, IsBarred}
use Rattle.sequential_network.specs.Links.{waiting_in}
use Rattle.sequential_network.specs.Kept.{IsNetwork}
use Rattle.sequential_network.specs.Acted.{Servers, IsActed}
use Rattle.sequential_network.specs.Ruling.{IsSame}
use Rattle.sequential_network.proofs.Acted.{network-step, IsNetworkStep}
use Rattle.net_turns.proofs.Barred.{permits}
use Rattle.sequential_network.proofs.Grown.{is_made, is_kept, stays_kept}
use Rattle.net_model.proofs.TreesByPhase.{laws_at, links_at}
use Rattle.sequential_network.specs.Stepping.{peers}

-- the first of what is left of a list
pub first-left : {A B : Type 0} (f : A → B) (xs : List A) (k : ℕ) (x : A) → slice_get xs k ≡ Some x → slice_get (map f (drop k xs)) 0 ≡ Some (f x)
first-left f [] zero x e = absurd cc
first-left f [] (suc k) x e = absurd cc
first-left f (y ∷ ys) zero x e = cc
first-left f (y ∷ ys) (suc k) x e = first-left f ys k x e

pub none-left : {A : Type 0} (xs : List A) (k : ℕ) → slice_get xs k ≡ None → drop k xs ≡ []
none-left [] zero e = refl
none-left [] (suc k) e = refl
none-left (y ∷ ys) zero e = absurd cc
none-left (y ∷ ys) (suc k) e = none-left ys k e

module _ (net : NetParts) (phase : ℕ) (old new : Servers CoreParts) (kept : IsNetwork net phase old) where
  abbrev state : State real
  state = (moment_by net old.journal).state

  -- a turn that was made or not, and the network after it
  pub record Tells (turn : turns.the_data) (answer : Result Bool NoMemory) : Type 0 where
    pub turned : IfOk answer (λ made. IsTurn made turn (network_parts net old.journal) (network_parts net new.journal))
    pub kept_on : IsNetwork net phase new

  pub same_kept : IsSame old new → IsNetwork net phase new
  same_kept same = stays_kept net phase old new kept same.run same.cores same.messages same.journal

  same_parts : IsSame old new → network_parts net new.journal ≡ network_parts net old.journal
  same_parts same = ap (network_parts net) same.journal

  -- a reception finds the network as it is
  reception_barred : (server from : ℕ) → (Has server (phased_net net).servers → Has from (links_of (topology_at net phase) server)
      → (m : Stamped (Message real)) → slice_get (state.put from server) (state.taken from server) ≡ Some m → ⊥)
      → IsBarred net old.journal (turns.Receive server from)
  reception_barred server from none entry next permitted =
      let p = permits net (moment_by net old.journal) (server, Received from) entry next permitted in
      none p.needs.0
      (subst (Has from) (links_at net phase server) (subst (λ z. Has from ((net_at real (phased_net net) z).links server)) (sym p.ready.1 ∙ kept.in_hand) p.needs.1))
      p.needs.2.0 (subst (λ (z : State real). slice_get (z.put from server) (z.taken from server) ≡ Some p.needs.2.0) (sym p.ready.0) p.needs.2.1)

  pub reception_none : (server from : ℕ) → (Has server (phased_net net).servers → Has from (links_of (topology_at net phase) server) → ⊥)
      → IsBarred net old.journal (turns.Receive server from)
  reception_none server from none = reception_barred server from (λ a b m e. none a b)

  pub reception_turn : (server from : ℕ) → 1 ≤ server → (answer : Result Bool NoMemory)
      → ((of : NetParts) (m : Stamped (Message real)) → slice_get (old.messages from server) 0 ≡ Some (waiting_in of m)
      → IfOk answer (λ made. (made ≡ true) × IsActed peers (server - 1) (Receives from m) (acts.Receive from) old new))
      → (old.messages from server ≡ [] → IfOk answer (λ made. (made ≡ false) × IsSame old new))
      → OnErr answer (IsSame old new)
      → Tells (turns.Receive server from) answer
  reception_turn server from counted (Err e) acted none same = record { turned = tt; kept_on = same_kept same }
  reception_turn server from counted (Ok made) acted none same = go (slice_get (state.put from server) (state.taken from server)) refl
    where
      go : (o : Option (Stamped (Message real))) → slice_get (state.put from server) (state.taken from server) ≡ o → Tells (turns.Receive server from) (Ok made)
      go None e = record {
        turned = subst (λ z. IsTurn z (turns.Receive server from) (network_parts net old.journal) (network_parts net new.journal)) (sym n.0)
            (same_parts n.1, reception_barred server from (λ a b m f. absurd (none-some (sym e ∙ f))));
        kept_on = same_kept n.1;
      }
        where
          none-some : {m : Stamped (Message real)} → ◌≡◌ {A = Option (Stamped (Message real))} None (Some m) → ⊥
          none-some q = cc

          n : (made ≡ false) × IsSame old new
          n = none (kept.links.messages_are from server ∙ ap (map (waiting_in net)) (none-left (state.put from server) (state.taken from server) e))
      go (Some m) e = record {
        turned = subst (λ z. IsTurn z (turns.Receive server from) (network_parts net old.journal) (network_parts net new.journal)) (sym a.0)
            (is_made net phase old new kept (entry_parts a.1.stamp a.1.core.server (acts.Receive from) (map (λ (s : SendingParts). s.to) a.1.sent)) state phase step.after a.1.journal ready step.step (turns.Receive server from) (λ i. (sym here i, Received from)));
        kept_on = is_kept net phase old new kept (entry_parts a.1.stamp a.1.core.server (acts.Receive from) (map (λ (s : SendingParts). s.to) a.1.sent)) state phase step.after a.1.journal ready step.step a.1.same_run step.servers step.links;
      }
        where
          a : (made ≡ true) × IsActed peers (server - 1) (Receives from m) (acts.Receive from) old new
          a = acted net m (ap (λ z. slice_get z 0) (kept.links.messages_are from server) ∙ first-left (waiting_in net) (state.put from server) (state.taken from server) m e)

          here : a.1.core.server ≡ server
          here = kept.cores.number (server - 1) a.1.core a.1.here ∙ omega (arith, counted)

          step : IsNetworkStep net phase (laws_at net kept.sound phase) state (entry_parts a.1.stamp a.1.core.server (acts.Receive from) (map (λ (s : SendingParts). s.to) a.1.sent)) new
          step = network-step net phase (laws_at net kept.sound phase) state (server - 1) (Receives from m) (acts.Receive from) old new kept.cores kept.links a.1 refl
              (subst (λ z. slice_get (state.put from z) (state.taken from z) ≡ Some m) (sym here) e)

          ready : (state ≡ state) × ((moment_by net old.journal).phase ≡ phase)
          ready = (refl, kept.in_hand)

  -- a table update needs something pending
  pub update_barred : (server : ℕ) → (Has server (phased_net net).servers → (state.state server).pending ≡ true → ⊥) → IsBarred net old.journal (turns.TableUpdate server)
  update_barred server none entry next permitted =
      let p = permits net (moment_by net old.journal) (server, Did TableUpdate) entry next permitted in
      none p.needs.0 (subst (λ (z : State real). (z.state server).pending ≡ true) (sym p.ready.0) p.needs.1)

  pub update_none : (server : ℕ) (core : CoreParts) → 1 ≤ server → slice_get old.cores (server - 1) ≡ Some core → core.pending ≡ [] → IsBarred net old.journal (turns.TableUpdate server)
  update_none server core counted at empty = update_barred server (λ a e. absurd (true-false (sym e ∙ off)))
    where
      true-false : true ≡ false → ⊥
      true-false q = cc

      off : (state.state server).pending ≡ false
      off = ap (λ z. (state.state z).pending) (sym place) ∙ (kept.cores.states (server - 1) core at).pending ∙ ap is_some_there empty
        where
          place : suc (server - 1) ≡ server
          place = omega (arith, counted)

  pub update_turn : (server : ℕ) → 1 ≤ server → (acted : IsActed peers (server - 1) (Does TableUpdate) acts.TableUpdate old new)
      → IsMade (turns.TableUpdate server) (network_parts net old.journal) (network_parts net new.journal) × IsNetwork net phase new
  update_turn server counted acted = (
    is_made net phase old new kept (entry_parts acted.stamp acted.core.server acts.TableUpdate (map (λ (s : SendingParts). s.to) acted.sent)) state phase step.after acted.journal ready step.step (turns.TableUpdate server) (λ i. (sym here i, Did TableUpdate)),
    is_kept net phase old new kept (entry_parts acted.stamp acted.core.server acts.TableUpdate (map (λ (s : SendingParts). s.to) acted.sent)) state phase step.after acted.journal ready step.step acted.same_run step.servers step.links,
  )
    where
      here : acted.core.server ≡ server
      here = kept.cores.number (server - 1) acted.core acted.here ∙ omega (arith, counted)

      step : IsNetworkStep net phase (laws_at net kept.sound phase) state (entry_parts acted.stamp acted.core.server acts.TableUpdate (map (λ (s : SendingParts). s.to) acted.sent)) new
      step = network-step net phase (laws_at net kept.sound phase) state (server - 1) (Does TableUpdate) acts.TableUpdate old new kept.cores kept.links acted refl tt

      ready : (state ≡ state) × ((moment_by net old.journal).phase ≡ phase)
      ready = (refl, kept.in_hand)
