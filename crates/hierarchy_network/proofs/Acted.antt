-- A step of one server's core is the step of the network: its turn makes this entry, and cores and links represent the next state.
use Rattle.std.proofs.Common.{◌≡◌, ℕ, suc, ◌≤◌, ◌==◌, ◌&&◌, nat_lt, cond, Bool, true, false, List, [], ◌∷◌, ◌++◌, length, map, drop, slice_get, Some, refl, sym, ap, subst, ◌∙◌, arith, eq-eqb, ne_eqb}
use Rattle.base.specs.Sets.{Has}
use Rattle.base.specs.Numbers.{IsDistinct}
use Rattle.base.proofs.Numbers.{Same, Is, Not, compare}
use Rattle.base_tree.specs.Hops.{side_size}
use Rattle.law_machine.specs.Machine.{Does, Receives, Outcome, at, stamped, receivers, unstamped, next_stamp, act_of as machine_act}
use Rattle.law_machine.specs.Load.{MeasureLaws}
use Rattle.law_machine.specs.Network.{IsAvailable, IsStep, network_after, taken_after}
use Rattle.law_machine.proofs.Lists.{append-nothing}
use Rattle.law_routing.specs.Server.{Message, ServerState, is_among}
use Rattle.law_routing.specs.Routing.{routing_machine}
use Rattle.law_hierarchy.specs.Masters.{HierarchyLaws}
use Rattle.law_hierarchy.specs.Step.{local_step, full_effect, Hierarchy, measure}
use Rattle.law_hierarchy.proofs.Local.{served}
use Rattle.law_hierarchy.proofs.Spread.{measure-laws}
use Rattle.net_model.specs.Real.{real, real_laws}
use Rattle.net_model.specs.Parts.{NetParts, EntryParts, entry_parts}
use Rattle.net_model.specs.Meaning.{act_of}
use Rattle.net_model.specs.declared.turn.Act.{Act as EntryAct}
use Rattle.server_message.specs.Parts.{sent_by}
use Rattle.server_core.specs.Step.{stamp_after}
use Rattle.hierarchy_network.specs.Core.{HierarchyParts, RepresentsHierarchyServer}
use Rattle.hierarchy_network.specs.Step.{IsHierarchyStep}
use Rattle.hierarchy_turns.specs.Network.{net_of, servers_of, entry_in}
use Rattle.sequential_network.specs.Links.{waiting_in, messages_to, AreOnLinks}
use Rattle.sequential_network.proofs.Acted.{drop-drop, Placed, Here, There, set-get}
use Rattle.server_core.proofs.SentOnLinks.{receivers-told}
use Rattle.sequential_network.proofs.Sending.{messages-told}
use Rattle.hierarchy_network.specs.Kept.{AreServers, state_in}
use Rattle.sequential_network.specs.Acted.{Servers, StampedInput, input_of, stamp_of, recorded_as, messages_left, IsActed}
use Rattle.hierarchy_network.specs.Stepping.{hierarchy}
use Rattle.std.proofs.lemmas.List.{drop-append-le, drop-map, map-append, length-append}
use Rattle.std.proofs.lemmas.Option.{slice_get_within}
use Rattle.base.proofs.Lists.{length-slice_set}

-- receivers are told by messages alone
pub same-receivers : (net : NetParts) (outs : ℕ → List (Message real)) (links : List ℕ) → receivers (routing_machine real (net_of net)) outs links ≡ receivers (servers_of net) outs links
same-receivers net outs [] = refl
same-receivers net outs (link ∷ links) = ap (λ z. cond (nat_lt 0 (length (outs link))) (link ∷ z) z) (same-receivers net outs links)

module _ (net : NetParts) (laws : HierarchyLaws real (net_of net)) (state : Hierarchy real (net_of net)) where
  -- a reception receives the next message of its link
  abbrev pub IsNext : ℕ → StampedInput → Type 0
  IsNext server (Does task) = Unit {0}
  IsNext server (Receives from m) = slice_get (state.put from server) (state.taken from server) ≡ Some m

  -- what the acting of a server is in the network: the step of its entry, and cores and links represent the state after it
  pub record IsNetworkStep (entry : EntryParts) (new : Servers HierarchyParts) : Type 0 where
    pub after : Hierarchy real (net_of net)
    pub step : IsStep (servers_of net) state (entry_in net entry) after
    pub servers : AreServers net after new.cores
    pub links : AreOnLinks net (state_in net after) new.messages

  module _ (place : ℕ) (input : StampedInput) (act : EntryAct) (old new : Servers HierarchyParts) (servers : AreServers net state old.cores)
      (links : AreOnLinks net (state_in net state) old.messages) (step : IsActed hierarchy place input act old new) (told : act_of act ≡ recorded_as input)
      (next : IsNext step.core.core.server input) where
    t-is : step.core.core.server ≡ suc place
    t-is = servers.number place step.core step.here

    stands : RepresentsHierarchyServer (net_of net) step.core (state.state step.core.core.server)
    stands = subst (λ z. RepresentsHierarchyServer (net_of net) step.core (state.state z)) (sym t-is) (servers.states place step.core step.here)

    local : IsHierarchyStep (net_of net) (state.state step.core.core.server) (input_of input) step.core step.next step.sent
    local = step.step.step (net_of net) (state.state step.core.core.server) stands

    links-are : (net_of net).links step.core.core.server ≡ step.core.core.control.links
    links-are = stands.stands.control.links

    clock-is : step.core.core.clock ≡ state.clock step.core.core.server
    clock-is = servers.clocks place step.core step.here ∙ ap state.clock (sym t-is)

    stamp-is : (input : StampedInput) → next_stamp (servers_of net) (state.clock step.core.core.server) input ≡ stamp_after (state.clock step.core.core.server) (stamp_of input)
    stamp-is (Does task) = let c = state.clock step.core.core.server in omega arith
    stamp-is (Receives from m) = refl

    stamp-next : step.stamp ≡ next_stamp (servers_of net) (state.clock step.core.core.server) input
    stamp-next = step.step.stamp_is ∙ ap (λ z. stamp_after z (stamp_of input)) clock-is ∙ sym (stamp-is input)

    -- nothing goes where there is no link
    outs-apart : (b : ℕ) → is_among b ((net_of net).links step.core.core.server) ≡ false → local.outcome.outs b ≡ []
    outs-apart b e =
        let s = served real (net_of net) step.core.core.server (state.state step.core.core.server) (input_of input) local.outcome local.step in
        ap (λ (z : Outcome (ServerState real) (Message real)). z.outs b) s.made
        ∙ ap (λ z. cond z ((full_effect real (net_of net) step.core.core.server s.from s.work).outs b) []) e

    one : (link : ℕ) → Has link step.core.core.control.links → length (local.outcome.outs link) ≤ 1
    one link h = measured.one step.core.core.server (state.state step.core.core.server) (input_of input) local.outcome local.step link (subst (Has link) (sym links-are) h)
      where
        measured : MeasureLaws (servers_of net) (measure real (net_of net) (side_size (net_of net).hop (net_of net).servers))
        measured = measure-laws real real_laws (net_of net) laws.lawful

    apart : IsDistinct step.core.core.control.links
    apart = subst IsDistinct links-are (laws.lawful.tree.single step.core.core.server)

    sent-by : step.sent ≡ sent_by net local.outcome.outs step.core.core.control.links
    sent-by = local.sent_are ∙ ap (λ z. sent_by z local.outcome.outs step.core.core.control.links) (servers.nets place step.core step.here)

    receivers-are : map (λ s. s.to) step.sent ≡ receivers (servers_of net) local.outcome.outs ((net_of net).links step.core.core.server)
    receivers-are = ap (map (λ s. s.to)) sent-by ∙ receivers-told net local.outcome.outs (net_of net) step.core.core.control.links one
        ∙ (same-receivers net local.outcome.outs step.core.core.control.links ∙ ap (receivers (servers_of net) local.outcome.outs) (sym links-are))

    -- what goes to a neighbour are the messages for it
    sent-are : (b : ℕ) → messages_to step.stamp step.sent b ≡ map (waiting_in net) (stamped (servers_of net) step.stamp (local.outcome.outs b))
    sent-are b =
        ap (λ z. messages_to step.stamp z b) sent-by ∙ messages-told net local.outcome.outs (net_of net) step.stamp step.core.core.control.links apart b
        ∙ go (is_among b step.core.core.control.links) refl
      where
        go : (a : Bool) → is_among b step.core.core.control.links ≡ a
            → cond (is_among b step.core.core.control.links) (map (waiting_in net) (stamped (servers_of net) step.stamp (local.outcome.outs b))) []
            ≡ map (waiting_in net) (stamped (servers_of net) step.stamp (local.outcome.outs b))
        go true e = rw e refl
        go false e = rw (e, outs-apart b (ap (is_among b) links-are ∙ e)) refl

    bare-is : (input : StampedInput) → unstamped (servers_of net) input ≡ input_of input
    bare-is (Does task) = refl
    bare-is (Receives from m) = refl

    told-is : (input : StampedInput) → machine_act (servers_of net) input ≡ recorded_as input
    told-is (Does task) = refl
    told-is (Receives from m) = refl

    available : (input : StampedInput) → IsNext step.core.core.server input
        → IsAvailable (servers_of net) state step.core.core.server input
    available (Does task) n = tt
    available (Receives from m) n = n

    abbrev pub entry : EntryParts
    entry = entry_parts step.stamp step.core.core.server act (map (λ s. s.to) step.sent)

    abbrev after-here : Hierarchy real (net_of net)
    after-here = network_after (servers_of net) state step.core.core.server input local.outcome

    is-step : IsStep (servers_of net) state (entry_in net entry) after-here
    is-step = (
      input,
      local.outcome,
      ap (local_step real (net_of net) step.core.core.server (state.state step.core.core.server)) (bare-is input) ∙ local.step,
      (λ i. record { stamp = stamp-next i; server = step.core.core.server; act = (told ∙ sym (told-is input)) i; outs = receivers-are i }),
      available input next,
      refl,
    )

    -- the server's own core, and those of the others
    state-here : (j : ℕ) → j ≡ place → at state.state step.core.core.server local.outcome.state (suc j) ≡ local.outcome.state
    state-here j e = rw (eq-eqb (suc j) step.core.core.server (ap suc e ∙ sym t-is)) refl

    state-other : (j : ℕ) → (j ≡ place → ⊥) → at state.state step.core.core.server local.outcome.state (suc j) ≡ state.state (suc j)
    state-other j n = rw (ne_eqb (suc j) step.core.core.server (λ e. n (omega (arith, e, t-is)))) refl

    clock-here : (j : ℕ) → j ≡ place → after-here.clock (suc j) ≡ step.stamp
    clock-here j e = rw (eq-eqb (suc j) step.core.core.server (ap suc e ∙ sym t-is)) (sym stamp-next)

    clock-other : (j : ℕ) → (j ≡ place → ⊥) → after-here.clock (suc j) ≡ state.clock (suc j)
    clock-other j n = rw (ne_eqb (suc j) step.core.core.server (λ e. n (omega (arith, e, t-is)))) refl

    record At (j : ℕ) (parts : HierarchyParts) : Type 0 where
      of-net : parts.core.net ≡ net
      number : parts.core.server ≡ suc j
      stands-for : RepresentsHierarchyServer (net_of net) parts (after-here.state (suc j))
      clock : parts.core.clock ≡ after-here.clock (suc j)

    core-at : (j : ℕ) (core : HierarchyParts) → Placed HierarchyParts old.cores place step.next j core → At j core
    core-at j core (Here e q) = subst (At j) (sym q) (record {
      of-net = step.step.same_net ∙ servers.nets place step.core step.here;
      number = step.step.same_server ∙ t-is ∙ ap suc (sym e);
      stands-for = subst (RepresentsHierarchyServer (net_of net) step.next) (sym (state-here j e)) local.state_after;
      clock = step.step.clock_is ∙ sym (clock-here j e);
    })
    core-at j core (There n g) = record {
      of-net = servers.nets j core g;
      number = servers.number j core g;
      stands-for = subst (RepresentsHierarchyServer (net_of net) core) (sym (state-other j n)) (servers.states j core g);
      clock = servers.clocks j core g ∙ sym (clock-other j n);
    }

    placed : (j : ℕ) (core : HierarchyParts) → slice_get new.cores j ≡ Some core → At j core
    placed j core g = core-at j core (set-get old.cores place step.next j core (subst (λ z. slice_get z j ≡ Some core) step.cores g))

    servers-after : AreServers net after-here new.cores
    servers-after = record {
      all = ap length step.cores ∙ length-slice_set old.cores place step.next ∙ servers.all;
      nets = λ j core g. (placed j core g).of-net;
      number = λ j core g. (placed j core g).number;
      states = λ j core g. (placed j core g).stands-for;
      clocks = λ j core g. (placed j core g).clock;
    }

    -- what is received, and what is on a link then
    taken-within : (input : StampedInput) → IsNext step.core.core.server input → (a b : ℕ)
        → taken_after (servers_of net) state.taken step.core.core.server input a b ≤ length (state.put a b)
    taken-within (Does task) n a b = links.within a b
    taken-within (Receives from m) n a b = go (compare a from) (compare b step.core.core.server)
      where
        go : Same a from → Same b step.core.core.server → cond ((a == from) && (b == step.core.core.server)) (suc (state.taken a b)) (state.taken a b) ≤ length (state.put a b)
        go (Is e v) (Is f w) = rw (v, w) (subst (λ z. suc (state.taken z b) ≤ length (state.put z b)) (sym e)
            (subst (λ z. suc (state.taken from z) ≤ length (state.put from z)) (sym f) (slice_get_within (state.put from step.core.core.server) (state.taken from step.core.core.server) m n)))
        go (Is e v) (Not f w) = rw (v, w) (links.within a b)
        go (Not e v) s = rw v (links.within a b)

    left-are : (input : StampedInput) → (a b : ℕ) → messages_left input step.core.core.server old.messages a b
        ≡ map (waiting_in net) (drop (taken_after (servers_of net) state.taken step.core.core.server input a b) (state.put a b))
    left-are (Does task) a b = links.messages_are a b
    left-are (Receives from m) a b = go ((a == from) && (b == step.core.core.server))
      where
        go : (c : Bool) → cond c (drop 1 (old.messages a b)) (old.messages a b) ≡ map (waiting_in net) (drop (cond c (suc (state.taken a b)) (state.taken a b)) (state.put a b))
        go true = ap (drop 1) (links.messages_are a b) ∙ drop-map (waiting_in net) 1 (drop (state.taken a b) (state.put a b)) ∙ ap (map (waiting_in net)) (drop-drop (state.taken a b) (state.put a b))
        go false = links.messages_are a b

    messages-after : (a b : ℕ) → new.messages a b ≡ map (waiting_in net) (drop (after-here.taken a b) (after-here.put a b))
    messages-after a b = step.messages a b ∙ go (a == step.core.core.server)
      where
        k : ℕ
        k = taken_after (servers_of net) state.taken step.core.core.server input a b

        sent : messages_to step.stamp step.sent b ≡ map (waiting_in net) (stamped (servers_of net) (next_stamp (servers_of net) (state.clock step.core.core.server) input) (local.outcome.outs b))
        sent = sent-are b ∙ ap (λ z. map (waiting_in net) (stamped (servers_of net) z (local.outcome.outs b))) stamp-next

        go : (c : Bool) → messages_left input step.core.core.server old.messages a b ++ cond c (messages_to step.stamp step.sent b) []
            ≡ map (waiting_in net) (drop k (cond c (state.put a b ++ stamped (servers_of net) (next_stamp (servers_of net) (state.clock step.core.core.server) input) (local.outcome.outs b)) (state.put a b)))
        go false = append-nothing (messages_left input step.core.core.server old.messages a b) ∙ left-are input a b
        go true =
            ap (λ z. z ++ messages_to step.stamp step.sent b) (left-are input a b)
            ∙ ap (λ z. map (waiting_in net) (drop k (state.put a b)) ++ z) sent
            ∙ sym (map-append (waiting_in net) (drop k (state.put a b)) (stamped (servers_of net) (next_stamp (servers_of net) (state.clock step.core.core.server) input) (local.outcome.outs b)))
            ∙ ap (map (waiting_in net)) (sym (drop-append-le k (state.put a b) (stamped (servers_of net) (next_stamp (servers_of net) (state.clock step.core.core.server) input) (local.outcome.outs b)) (taken-within input next a b)))

    within-after : (a b : ℕ) → after-here.taken a b ≤ length (after-here.put a b)
    within-after a b = go (a == step.core.core.server)
      where
        k : ℕ
        k = taken_after (servers_of net) state.taken step.core.core.server input a b

        low : taken_after (servers_of net) state.taken step.core.core.server input a b ≤ length (state.put a b)
        low = taken-within input next a b

        go : (c : Bool) → taken_after (servers_of net) state.taken step.core.core.server input a b
            ≤ length (cond c (state.put a b ++ stamped (servers_of net) (next_stamp (servers_of net) (state.clock step.core.core.server) input) (local.outcome.outs b)) (state.put a b))
        go false = low
        go true = let sum = length-append (state.put a b) (stamped (servers_of net) (next_stamp (servers_of net) (state.clock step.core.core.server) input) (local.outcome.outs b)) in omega (arith, low, sum)

    pub network-step : IsNetworkStep entry new
    network-step = record {
      after = after-here;
      step = is-step;
      servers = servers-after;
      links = record { messages_are = messages-after; within = within-after };
    }
