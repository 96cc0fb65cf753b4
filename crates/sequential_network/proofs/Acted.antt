-- A step of one server's core is the step of the network: its turn makes this entry, and cores and links represent the next state.
use Rattle.std.proofs.Common.{◌≡◌, ℕ, zero, suc, ◌≤◌, ◌==◌, ◌&&◌, cond, Bool, true, false, List, [], ◌∷◌, ◌++◌, length, map, drop, slice_get, slice_set, Some, refl, sym, ap, subst, ◌∙◌, arith, eq-eqb, ne_eqb}
use Rattle.base.specs.Sets.{Has}
use Rattle.base.specs.Numbers.{IsDistinct}
use Rattle.base.proofs.Numbers.{Same, Is, Not, compare}
use Rattle.base_tree.specs.Hops.{side_size}
use Rattle.law_machine.specs.Machine.{Does, Receives, Outcome, at, stamped, receivers, unstamped, next_stamp, act_of as machine_act}
use Rattle.law_machine.specs.Load.{MeasureLaws}
use Rattle.law_machine.specs.Network.{IsAvailable, network_after, taken_after}
use Rattle.law_machine.proofs.Lists.{append-nothing}
use Rattle.law_routing.specs.Net.{NetLaws}
use Rattle.law_routing.specs.Server.{Message, ServerState, is_among}
use Rattle.law_routing.specs.Step.{local_step, full_effect}
use Rattle.law_routing.specs.Routing.{routing_machine, Network, measure}
use Rattle.law_routing.proofs.Along.{strict-of, tree}
use Rattle.law_routing.proofs.Spreading.{spreads}
use Rattle.law_routing.proofs.Working.{served}
use Rattle.law_phases.specs.Trees.{State, off, net_at, at_phase}
use Rattle.law_phases.specs.Runs.{IsStepOn}
use Rattle.net_model.specs.Real.{real, real_laws}
use Rattle.net_model.specs.Parts.{NetParts, EntryParts, entry_parts}
use Rattle.net_model.specs.Meaning.{act_of, entry_of}
use Rattle.net_model.specs.Nets.{phased_net}
use Rattle.net_model.specs.declared.turn.Act.{Act as EntryAct}
use Rattle.server_message.specs.Parts.{sent_by}
use Rattle.server_core.specs.Core.{CoreParts, RepresentsServer}
use Rattle.server_core.specs.Step.{IsServerStep, stamp_after}
use Rattle.sequential_network.specs.Links.{waiting_in, messages_to, AreOnLinks}
use Rattle.sequential_network.specs.Kept.{AreServers}
use Rattle.sequential_network.specs.Acted.{Servers, StampedInput, input_of, stamp_of, recorded_as, messages_left, IsActed}
use Rattle.server_core.proofs.SentOnLinks.{receivers-told}
use Rattle.sequential_network.proofs.Sending.{messages-told}
use Rattle.sequential_network.specs.Stepping.{peers}
use Rattle.std.proofs.lemmas.List.{map-append, length-append, drop-append-le, drop-map}
use Rattle.std.proofs.lemmas.Option.{slice_get_within}
use Rattle.base.proofs.Lists.{length-slice_set}

-- lists

pub drop-drop : {T : Type 0} (k : ℕ) (xs : List T) → drop 1 (drop k xs) ≡ drop (suc k) xs
drop-drop zero xs = refl
drop-drop (suc k) [] = refl
drop-drop (suc k) (x ∷ xs) = drop-drop k xs

-- one place of a list set
pub data Placed (T : Type 0) (xs : List T) (k : ℕ) (y : T) (j : ℕ) (x : T) : Type 0 where
  Here : (j ≡ k) → (x ≡ y) → Placed T xs k y j x
  There : (j ≡ k → ⊥) → slice_get xs j ≡ Some x → Placed T xs k y j x

pub set-get : {T : Type 0} (xs : List T) (k : ℕ) (y : T) (j : ℕ) (x : T) → slice_get (slice_set xs k y) j ≡ Some x → Placed T xs k y j x
set-get [] k y j x e = absurd cc
set-get (z ∷ zs) zero y zero x e = Here refl (sym cc)
set-get (z ∷ zs) zero y (suc j) x e = There (λ q. absurd (omega (arith, q))) e
set-get (z ∷ zs) (suc k) y zero x e = There (λ q. absurd (omega (arith, q))) e
set-get {T} (z ∷ zs) (suc k) y (suc j) x e = go (set-get zs k y j x e)
  where
    go : Placed T zs k y j x → Placed T (z ∷ zs) (suc k) y (suc j) x
    go (Here a b) = Here (ap suc a) b
    go (There a b) = There (λ q. a (omega (arith, q))) b

module _ (net : NetParts) (phase : ℕ) (laws : NetLaws real (net_at real (phased_net net) phase)) (state : State real) where
  -- a reception receives the next message of its link
  abbrev pub IsNext : ℕ → StampedInput → Type 0
  IsNext server (Does task) = Unit {0}
  IsNext server (Receives from m) = slice_get (state.put from server) (state.taken from server) ≡ Some m

  -- what the acting of a server is in the network: the step of its entry, and cores and links represent the state after it
  pub record IsNetworkStep (entry : EntryParts) (new : Servers CoreParts) : Type 0 where
    pub after : State real
    pub step : IsStepOn real (phased_net net) phase state (entry_of entry) after
    pub servers : AreServers net phase after new.cores
    pub links : AreOnLinks net after new.messages

  module _ (place : ℕ) (input : StampedInput) (act : EntryAct) (old new : Servers CoreParts) (servers : AreServers net phase state old.cores)
      (links : AreOnLinks net state old.messages) (step : IsActed peers place input act old new) (told : act_of act ≡ recorded_as input)
      (next : IsNext step.core.server input) where
    t-is : step.core.server ≡ suc place
    t-is = servers.number place step.core step.here

    stands : RepresentsServer (net_at real (phased_net net) phase) step.core (state.state step.core.server)
    stands = subst (λ z. RepresentsServer (net_at real (phased_net net) phase) step.core (state.state z)) (sym t-is) (servers.states place step.core step.here)

    local : IsServerStep (net_at real (phased_net net) phase) (state.state step.core.server) (input_of input) step.core step.next step.sent
    local = step.step.step (net_at real (phased_net net) phase) (state.state step.core.server) stands

    links-are : (net_at real (phased_net net) phase).links step.core.server ≡ step.core.control.links
    links-are = stands.control.links

    clock-is : step.core.clock ≡ state.clock step.core.server
    clock-is = servers.clocks place step.core step.here ∙ ap state.clock (sym t-is)

    stamp-is : (input : StampedInput) → next_stamp (routing_machine real (net_at real (phased_net net) phase)) (state.clock step.core.server) input ≡ stamp_after (state.clock step.core.server) (stamp_of input)
    stamp-is (Does task) = let c = state.clock step.core.server in omega arith
    stamp-is (Receives from m) = refl

    stamp-next : step.stamp ≡ next_stamp (routing_machine real (net_at real (phased_net net) phase)) (state.clock step.core.server) input
    stamp-next = step.step.stamp_is ∙ ap (λ z. stamp_after z (stamp_of input)) clock-is ∙ sym (stamp-is input)

    -- nothing goes where there is no link
    outs-apart : (b : ℕ) → is_among b ((net_at real (phased_net net) phase).links step.core.server) ≡ false → local.outcome.outs b ≡ []
    outs-apart b e =
        let s = served real (net_at real (phased_net net) phase) step.core.server (state.state step.core.server) (input_of input) local.outcome local.step in
        ap (λ (z : Outcome (ServerState real) (Message real)). z.outs b) s.made
        ∙ ap (λ z. cond z ((full_effect real (net_at real (phased_net net) phase) step.core.server s.from s.work).outs b) []) e

    one : (link : ℕ) → Has link step.core.control.links → length (local.outcome.outs link) ≤ 1
    one link h = measured.one step.core.server (state.state step.core.server) (input_of input) local.outcome local.step link (subst (Has link) (sym links-are) h)
      where
        measured : MeasureLaws (routing_machine real (net_at real (phased_net net) phase)) (measure real (net_at real (phased_net net) phase) (side_size (net_at real (phased_net net) phase).hop (net_at real (phased_net net) phase).servers))
        measured = spreads real (strict-of real real_laws) (net_at real (phased_net net) phase)
            (side_size (net_at real (phased_net net) phase).hop (net_at real (phased_net net) phase).servers) laws.single (tree real real_laws (net_at real (phased_net net) phase) laws)

    apart : IsDistinct step.core.control.links
    apart = subst IsDistinct links-are (laws.tree.single step.core.server)

    sent-by : step.sent ≡ sent_by net local.outcome.outs step.core.control.links
    sent-by = local.sent_are ∙ ap (λ z. sent_by z local.outcome.outs step.core.control.links) (servers.nets place step.core step.here)

    receivers-are : map (λ s. s.to) step.sent ≡ receivers (routing_machine real (net_at real (phased_net net) phase)) local.outcome.outs ((net_at real (phased_net net) phase).links step.core.server)
    receivers-are = ap (map (λ s. s.to)) sent-by ∙ receivers-told net local.outcome.outs (net_at real (phased_net net) phase) step.core.control.links one
        ∙ ap (receivers (routing_machine real (net_at real (phased_net net) phase)) local.outcome.outs) (sym links-are)

    -- what goes to a neighbour are the messages for it
    sent-are : (b : ℕ) → messages_to step.stamp step.sent b ≡ map (waiting_in net) (stamped (routing_machine real (net_at real (phased_net net) phase)) step.stamp (local.outcome.outs b))
    sent-are b =
        ap (λ z. messages_to step.stamp z b) sent-by ∙ messages-told net local.outcome.outs (net_at real (phased_net net) phase) step.stamp step.core.control.links apart b
        ∙ go (is_among b step.core.control.links) refl
      where
        go : (a : Bool) → is_among b step.core.control.links ≡ a
            → cond (is_among b step.core.control.links) (map (waiting_in net) (stamped (routing_machine real (net_at real (phased_net net) phase)) step.stamp (local.outcome.outs b))) []
            ≡ map (waiting_in net) (stamped (routing_machine real (net_at real (phased_net net) phase)) step.stamp (local.outcome.outs b))
        go true e = rw e refl
        go false e = rw (e, outs-apart b (ap (is_among b) links-are ∙ e)) refl

    bare-is : (input : StampedInput) → unstamped (routing_machine real (net_at real (phased_net net) phase)) input ≡ input_of input
    bare-is (Does task) = refl
    bare-is (Receives from m) = refl

    told-is : (input : StampedInput) → machine_act (routing_machine real (net_at real (phased_net net) phase)) input ≡ recorded_as input
    told-is (Does task) = refl
    told-is (Receives from m) = refl

    available : (input : StampedInput) → IsNext step.core.server input
        → IsAvailable (routing_machine real (net_at real (phased_net net) phase)) (at_phase real (phased_net net) phase state) step.core.server input
    available (Does task) n = tt
    available (Receives from m) n = n

    abbrev pub entry : EntryParts
    entry = entry_parts step.stamp step.core.server act (map (λ s. s.to) step.sent)

    abbrev after-here : Network real (net_at real (phased_net net) phase)
    after-here = network_after (routing_machine real (net_at real (phased_net net) phase)) (at_phase real (phased_net net) phase state) step.core.server input local.outcome

    is-step : IsStepOn real (phased_net net) phase state (entry_of entry) (off real (net_at real (phased_net net) phase) after-here)
    is-step = (
      input,
      local.outcome,
      ap (local_step real (net_at real (phased_net net) phase) step.core.server (state.state step.core.server)) (bare-is input) ∙ local.step,
      (λ i. record { stamp = stamp-next i; server = step.core.server; act = (told ∙ sym (told-is input)) i; outs = receivers-are i }),
      available input next,
      refl,
    )

    -- the server's own core, and those of the others
    state-here : (j : ℕ) → j ≡ place → at state.state step.core.server local.outcome.state (suc j) ≡ local.outcome.state
    state-here j e = rw (eq-eqb (suc j) step.core.server (ap suc e ∙ sym t-is)) refl

    state-other : (j : ℕ) → (j ≡ place → ⊥) → at state.state step.core.server local.outcome.state (suc j) ≡ state.state (suc j)
    state-other j n = rw (ne_eqb (suc j) step.core.server (λ e. n (omega (arith, e, t-is)))) refl

    clock-here : (j : ℕ) → j ≡ place → after-here.clock (suc j) ≡ step.stamp
    clock-here j e = rw (eq-eqb (suc j) step.core.server (ap suc e ∙ sym t-is)) (sym stamp-next)

    clock-other : (j : ℕ) → (j ≡ place → ⊥) → after-here.clock (suc j) ≡ state.clock (suc j)
    clock-other j n = rw (ne_eqb (suc j) step.core.server (λ e. n (omega (arith, e, t-is)))) refl

    record At (j : ℕ) (core : CoreParts) : Type 0 where
      of-net : core.net ≡ net
      number : core.server ≡ suc j
      stands-for : RepresentsServer (net_at real (phased_net net) phase) core (after-here.state (suc j))
      clock : core.clock ≡ after-here.clock (suc j)

    core-at : (j : ℕ) (core : CoreParts) → Placed CoreParts old.cores place step.next j core → At j core
    core-at j core (Here e q) = subst (At j) (sym q) (record {
      of-net = step.step.same_net ∙ servers.nets place step.core step.here;
      number = step.step.same_server ∙ t-is ∙ ap suc (sym e);
      stands-for = subst (RepresentsServer (net_at real (phased_net net) phase) step.next) (sym (state-here j e)) local.state_after;
      clock = step.step.clock_is ∙ sym (clock-here j e);
    })
    core-at j core (There n g) = record {
      of-net = servers.nets j core g;
      number = servers.number j core g;
      stands-for = subst (RepresentsServer (net_at real (phased_net net) phase) core) (sym (state-other j n)) (servers.states j core g);
      clock = servers.clocks j core g ∙ sym (clock-other j n);
    }

    placed : (j : ℕ) (core : CoreParts) → slice_get new.cores j ≡ Some core → At j core
    placed j core g = core-at j core (set-get old.cores place step.next j core (subst (λ z. slice_get z j ≡ Some core) step.cores g))

    servers-after : AreServers net phase (off real (net_at real (phased_net net) phase) after-here) new.cores
    servers-after = record {
      all = ap length step.cores ∙ length-slice_set old.cores place step.next ∙ servers.all;
      nets = λ j core g. (placed j core g).of-net;
      number = λ j core g. (placed j core g).number;
      states = λ j core g. (placed j core g).stands-for;
      clocks = λ j core g. (placed j core g).clock;
    }

    -- what is received, and what is on a link then
    taken-within : (input : StampedInput) → IsNext step.core.server input → (a b : ℕ)
        → taken_after (routing_machine real (net_at real (phased_net net) phase)) state.taken step.core.server input a b ≤ length (state.put a b)
    taken-within (Does task) n a b = links.within a b
    taken-within (Receives from m) n a b = go (compare a from) (compare b step.core.server)
      where
        go : Same a from → Same b step.core.server → cond ((a == from) && (b == step.core.server)) (suc (state.taken a b)) (state.taken a b) ≤ length (state.put a b)
        go (Is e v) (Is f w) = rw (v, w) (subst (λ z. suc (state.taken z b) ≤ length (state.put z b)) (sym e)
            (subst (λ z. suc (state.taken from z) ≤ length (state.put from z)) (sym f) (slice_get_within (state.put from step.core.server) (state.taken from step.core.server) m n)))
        go (Is e v) (Not f w) = rw (v, w) (links.within a b)
        go (Not e v) s = rw v (links.within a b)

    left-are : (input : StampedInput) → (a b : ℕ) → messages_left input step.core.server old.messages a b
        ≡ map (waiting_in net) (drop (taken_after (routing_machine real (net_at real (phased_net net) phase)) state.taken step.core.server input a b) (state.put a b))
    left-are (Does task) a b = links.messages_are a b
    left-are (Receives from m) a b = go ((a == from) && (b == step.core.server))
      where
        go : (c : Bool) → cond c (drop 1 (old.messages a b)) (old.messages a b) ≡ map (waiting_in net) (drop (cond c (suc (state.taken a b)) (state.taken a b)) (state.put a b))
        go true = ap (drop 1) (links.messages_are a b) ∙ drop-map (waiting_in net) 1 (drop (state.taken a b) (state.put a b)) ∙ ap (map (waiting_in net)) (drop-drop (state.taken a b) (state.put a b))
        go false = links.messages_are a b

    messages-after : (a b : ℕ) → new.messages a b ≡ map (waiting_in net) (drop (after-here.taken a b) (after-here.put a b))
    messages-after a b = step.messages a b ∙ go (a == step.core.server)
      where
        k : ℕ
        k = taken_after (routing_machine real (net_at real (phased_net net) phase)) state.taken step.core.server input a b

        sent : messages_to step.stamp step.sent b ≡ map (waiting_in net) (stamped (routing_machine real (net_at real (phased_net net) phase)) (next_stamp (routing_machine real (net_at real (phased_net net) phase)) (state.clock step.core.server) input) (local.outcome.outs b))
        sent = sent-are b ∙ ap (λ z. map (waiting_in net) (stamped (routing_machine real (net_at real (phased_net net) phase)) z (local.outcome.outs b))) stamp-next

        go : (c : Bool) → messages_left input step.core.server old.messages a b ++ cond c (messages_to step.stamp step.sent b) []
            ≡ map (waiting_in net) (drop k (cond c (state.put a b ++ stamped (routing_machine real (net_at real (phased_net net) phase)) (next_stamp (routing_machine real (net_at real (phased_net net) phase)) (state.clock step.core.server) input) (local.outcome.outs b)) (state.put a b)))
        go false = append-nothing (messages_left input step.core.server old.messages a b) ∙ left-are input a b
        go true =
            ap (λ z. z ++ messages_to step.stamp step.sent b) (left-are input a b)
            ∙ ap (λ z. map (waiting_in net) (drop k (state.put a b)) ++ z) sent
            ∙ sym (map-append (waiting_in net) (drop k (state.put a b)) (stamped (routing_machine real (net_at real (phased_net net) phase)) (next_stamp (routing_machine real (net_at real (phased_net net) phase)) (state.clock step.core.server) input) (local.outcome.outs b)))
            ∙ ap (map (waiting_in net)) (sym (drop-append-le k (state.put a b) (stamped (routing_machine real (net_at real (phased_net net) phase)) (next_stamp (routing_machine real (net_at real (phased_net net) phase)) (state.clock step.core.server) input) (local.outcome.outs b)) (taken-within input next a b)))

    within-after : (a b : ℕ) → after-here.taken a b ≤ length (after-here.put a b)
    within-after a b = go (a == step.core.server)
      where
        k : ℕ
        k = taken_after (routing_machine real (net_at real (phased_net net) phase)) state.taken step.core.server input a b

        low : taken_after (routing_machine real (net_at real (phased_net net) phase)) state.taken step.core.server input a b ≤ length (state.put a b)
        low = taken-within input next a b

        go : (c : Bool) → taken_after (routing_machine real (net_at real (phased_net net) phase)) state.taken step.core.server input a b
            ≤ length (cond c (state.put a b ++ stamped (routing_machine real (net_at real (phased_net net) phase)) (next_stamp (routing_machine real (net_at real (phased_net net) phase)) (state.clock step.core.server) input) (local.outcome.outs b)) (state.put a b))
        go false = low
        go true = let sum = length-append (state.put a b) (stamped (routing_machine real (net_at real (phased_net net) phase)) (next_stamp (routing_machine real (net_at real (phased_net net) phase)) (state.clock step.core.server) input) (local.outcome.outs b)) in omega (arith, low, sum)

    pub network-step : IsNetworkStep entry new
    network-step = record {
      after = off real (net_at real (phased_net net) phase) after-here;
      step = is-step;
      servers = servers-after;
      links = record { messages_are = messages-after; within = within-after };
    }
