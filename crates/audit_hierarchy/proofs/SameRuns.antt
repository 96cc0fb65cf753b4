-- A hierarchy's runs depend on the neighbours and the masters of its servers alone: two nets with the same ones have the same runs, with the same texts.
use Rattle.std.proofs.Common.{◌≡◌, ℕ, zero, suc, ◌==◌, ◌&&◌, Bool, true, false, cond, List, [], ◌∷◌, ◌++◌, length, map, take, Option, Some, None, refl, sym, ap, subst, ◌∙◌}
use Rattle.std.specs.Prelude.{slice_get}
use Rattle.std.specs.List.{range_with_len}
use Rattle.base.specs.Sets.{Has}
use Rattle.base.proofs.Numbers.{Same, Is, Not, compare}
use Rattle.base_tree.specs.Graph.{servers_to}
use Rattle.base_tree.specs.Tree.{Topology}
use Rattle.law_machine.specs.Machine.{Machine, Input, Does, Receives, Outcome, Entry, act_phase}
use Rattle.law_machine.specs.Network.{NetworkState, messages_of}
use Rattle.law_machine.specs.Runs.{IsRun}
use Rattle.law_machine.specs.History.{Moment, moment_after, as_found}
use Rattle.law_machine.specs.Journals.{network_of, opening_cells}
use Rattle.law_routing.specs.Clients.{accepts, adverts_step, refused_from}
use Rattle.law_routing.specs.Net.{Net, PhasedCommand, Command, Subscribe, Unsubscribe, Advertise, Unadvertise, Publish}
use Rattle.law_routing.specs.Routing.{all_through, not_below, phase_of, task_phase}
use Rattle.law_routing.specs.Server.{Message, ServerState, is_among, Subs, Advs, Noticed}
use Rattle.law_routing.specs.Step.{Task, NextCommand, TableUpdate, Work, SetsFilters, SetsAdverts, Routes, InstallsTable, Nothing, command_work, message_work, with_command_executed}
use Rattle.law_routing.proofs.Laws.{one-has}
use Rattle.law_hierarchy.specs.Masters.{top}
use Rattle.law_hierarchy.specs.Step.{command_outcome, effect, local_step}
use Rattle.net_model.specs.Real.{real}
use Rattle.filter_text.specs.declared.semantics.Semantics.{Semantics}
use Rattle.filter_text.specs.declared.sent.Sent.{Sent}
use Rattle.server_spec.specs.Control.{texts}
use Rattle.net_model.specs.declared.turn.Turn.{Turn}
use Rattle.net_model.specs.Parts.{ClientParts, NetParts, EntryParts, net_parts}
use Rattle.net_model.specs.Lists.{refused_ordinals}
use Rattle.net_model.specs.Meaning.{act_of, deliveries_of}
use Rattle.net_model.specs.Nets.{clients_of, first_tree, home_of, script_of, with_adverts}
use Rattle.hierarchy_turns.specs.Network.{IsDrainedBy, IsLegal, executed_by, net_of, received_by, refused_by}
use Rattle.hierarchy_turns.specs.Told.{told_from}
use Rattle.audit_hierarchy.proofs.SameTrees.{AreOneTree, tree_at_start}

-- nets over the same clients, by their servers, their neighbours and the next servers on the way
module _ (semantics : Semantics) (clients : List ClientParts) where
  abbrev scripts : ℕ → List (PhasedCommand real)
  scripts = script_of (net_parts 0 semantics [] clients [])

  abbrev at_home : ℕ → List ℕ
  at_home = clients_of (net_parts 0 semantics [] clients [])

  abbrev home : ℕ → ℕ
  home = home_of (net_parts 0 semantics [] clients [])

  abbrev net_on : List ℕ → (ℕ → List ℕ) → (ℕ → ℕ → ℕ) → Net real
  net_on servers links hop = record { adverts = with_adverts semantics; servers = servers; links = links; hop = hop; home = home; clients = at_home; script = scripts }

  abbrev Step : Type 0
  Step = ℕ → ServerState real → Input Task (Message real) → Option (Outcome (ServerState real) (Message real))

  -- what a machine is made of
  abbrev Parts : Type 0
  Parts = List ℕ × (ℕ → List ℕ) × Step × (ℕ → ServerState real → Task → Option ℕ) × (ℕ → ServerState real → ℕ → Bool)

  abbrev parts_of : List ℕ → (ℕ → List ℕ) → (ℕ → ℕ → ℕ) → Parts
  parts_of servers links hop = (
    servers,
    links,
    local_step real (net_on servers links hop),
    task_phase real (net_on servers links hop),
    (λ t s k. all_through real (net_on servers links hop) s k (at_home t)),
  )

  abbrev machine : Parts → Machine
  machine p = record {
    State = ServerState real;
    Task = Task;
    Message = Message real;
    servers = p.0;
    links = p.1;
    step = p.2;
    phase = p.3;
    through = p.4;
    pending = λ server state. state.pending;
  }

  -- The step goes by the master alone.

  module _ (servers : List ℕ) (links : ℕ → List ℕ) where
    -- the same hop to everywhere
    abbrev fixed : ℕ → ℕ → ℕ → ℕ
    fixed h a x = h

    by-master : (hop : ℕ → ℕ → ℕ) (t : ℕ) (s : ServerState real) (w : Work real) → effect real (net_on servers links hop) t s w ≡ effect real (net_on servers links (fixed (hop t top))) t s w
    by-master hop t s (SetsFilters i fs) = refl
    by-master hop t s (SetsAdverts i ads) = refl
    by-master hop t s (Routes i q o n) = refl
    by-master hop t s InstallsTable = refl
    by-master hop t s Nothing = refl

    at-top : (hop other : ℕ → ℕ → ℕ) (s : ServerState real) (w : Work real) → effect real (net_on servers links hop) top s w ≡ effect real (net_on servers links other) top s w
    at-top hop other s (SetsFilters i fs) = refl
    at-top hop other s (SetsAdverts i ads) = refl
    at-top hop other s (Routes i q o n) = refl
    at-top hop other s InstallsTable = refl
    at-top hop other s Nothing = refl

    module _ (hop other : ℕ → ℕ → ℕ) (masters : (server : ℕ) → Has server servers → (server ≡ top → ⊥) → hop server top ≡ other server top) where
      same-effect : (t : ℕ) (s : ServerState real) (w : Work real) → Has t servers → effect real (net_on servers links hop) t s w ≡ effect real (net_on servers links other) t s w
      same-effect t s w h = go (compare t top)
        where
          go : Same t top → effect real (net_on servers links hop) t s w ≡ effect real (net_on servers links other) t s w
          go (Is e v) = subst (λ z. effect real (net_on servers links hop) z s w ≡ effect real (net_on servers links other) z s w) (sym e) (at-top hop other s w)
          go (Not m v) = by-master hop t s w ∙ ap (λ k. effect real (net_on servers links (fixed k)) t s w) (masters t h m) ∙ sym (by-master other t s w)

      same-work : (c k : ℕ) (x : Command real) → command_work real (net_on servers links hop) c k x ≡ command_work real (net_on servers links other) c k x
      same-work c k (Subscribe f) = refl
      same-work c k (Unsubscribe f) = refl
      same-work c k (Advertise a) = refl
      same-work c k (Unadvertise a) = refl
      same-work c k (Publish n) = refl

      same-outcome : (t : ℕ) (s : ServerState real) (c : ℕ) (o : Option (PhasedCommand real)) → Has t servers
          → command_outcome real (net_on servers links hop) t s c o ≡ command_outcome real (net_on servers links other) t s c o
      same-outcome t s c None h = refl
      same-outcome t s c (Some x) h =
          ap (λ w. Some (effect real (net_on servers links hop) t (with_command_executed real (net_on servers links hop) s c) w)) (same-work c (s.done c) x.command)
          ∙ ap Some (same-effect t (with_command_executed real (net_on servers links other) s c) (command_work real (net_on servers links other) c (s.done c) x.command) h)

      same-message : (s : ServerState real) (from : ℕ) (m : Message real) → message_work real (net_on servers links hop) s from m ≡ message_work real (net_on servers links other) s from m
      same-message s from (Subs out add) = refl
      same-message s from (Advs out add) = refl
      same-message s from (Noticed q o n) = refl

      -- where the server is one of the net
      where-among : {A : Type 0} (b c : Bool) (x y : Option A) → (b ≡ true → x ≡ y) → cond (b && c) x None ≡ cond (b && c) y None
      where-among true c x y f = ap (λ z. cond c z None) (f refl)
      where-among false c x y f = refl

      same-step : (t : ℕ) (s : ServerState real) (i : Input Task (Message real)) → local_step real (net_on servers links hop) t s i ≡ local_step real (net_on servers links other) t s i
      same-step t s (Does (NextCommand c)) =
          where-among (is_among t servers) (is_among c (at_home t)) (command_outcome real (net_on servers links hop) t s c (slice_get (scripts c) (s.done c)))
          (command_outcome real (net_on servers links other) t s c (slice_get (scripts c) (s.done c)))
          (λ h. same-outcome t s c (slice_get (scripts c) (s.done c)) (one-has t servers h))
      same-step t s (Does TableUpdate) =
          where-among (is_among t servers) s.pending (Some (effect real (net_on servers links hop) t s InstallsTable)) (Some (effect real (net_on servers links other) t s InstallsTable))
          (λ h. ap Some (same-effect t s InstallsTable (one-has t servers h)))
      same-step t s (Receives from m) =
          where-among (is_among t servers) (is_among from (links t)) (Some (effect real (net_on servers links hop) t s (message_work real (net_on servers links hop) s from m)))
          (Some (effect real (net_on servers links other) t s (message_work real (net_on servers links other) s from m)))
          (λ h. ap (λ w. Some (effect real (net_on servers links hop) t s w)) (same-message s from m)
          ∙ ap Some (same-effect t s (message_work real (net_on servers links other) s from m) (one-has t servers h)))

      same-task : (t : ℕ) (s : ServerState real) (x : Task) → task_phase real (net_on servers links hop) t s x ≡ task_phase real (net_on servers links other) t s x
      same-task t s (NextCommand c) = go (slice_get (scripts c) (s.done c))
        where
          go : (o : Option (PhasedCommand real)) → phase_of real (net_on servers links hop) o ≡ phase_of real (net_on servers links other) o
          go None = refl
          go (Some x) = refl
      same-task t s TableUpdate = refl

      same-through : (s : ServerState real) (k : ℕ) (cs : List ℕ) → all_through real (net_on servers links hop) s k cs ≡ all_through real (net_on servers links other) s k cs
      same-through s k [] = refl
      same-through s k (c ∷ cs) = λ i. below (slice_get (scripts c) (s.done c)) i && same-through s k cs i
        where
          below : (o : Option (PhasedCommand real)) → not_below real (net_on servers links hop) k o ≡ not_below real (net_on servers links other) k o
          below None = refl
          below (Some x) = refl

      same-hops : parts_of servers links hop ≡ parts_of servers links other
      same-hops = λ i. (servers, links, (λ t s x. same-step t s x i), (λ t s x. same-task t s x i), (λ t s k. same-through s k (at_home t) i))

  -- What is said of a run, by the parts of its machine.

  module _ (journal : List EntryParts) where
    abbrev entries : (p : Parts) → List EntryParts → List (Entry (machine p))
    entries p es = map (λ (e : EntryParts). (let x : Entry (machine p) = record { stamp = e.stamp; server = e.server; act = act_of e.act; outs = e.outs } in x)) es

    abbrev start : (p : Parts) → Moment (machine p)
    start p = record { network = network_of (machine p) (opening_cells (machine p) (λ server. record { subs = λ i. []; advs = λ i. []; installed = λ i. []; pending = false; done = λ c. 0; inbox = λ c. [] })); phase = 0 }

    abbrev moment : (p : Parts) → ℕ → Moment (machine p)
    moment p n = moment_after (machine p) (start p) (entries p journal) n

    abbrev last : (p : Parts) → Moment (machine p)
    last p = moment p (length (entries p journal))

    abbrev IsLegalIn : Parts → Type 0
    IsLegalIn p = IsRun (machine p) (start p).network 0 (entries p journal) (last p).network (last p).phase

    abbrev IsDrainedIn : Parts → Type 0
    IsDrainedIn p = ((a b : ℕ) → (last p).network.taken a b ≡ length ((last p).network.put a b))
        × ((server : ℕ) → Has server p.0 → ((last p).network.state server).pending ≡ false)
        × ((server client : ℕ) → Has client (at_home server) → ((last p).network.state server).done client ≡ length (scripts client))

    abbrev states_in : Parts → ℕ → ServerState real
    states_in p = (last p).network.state

    -- the texts of an entry behind n others
    abbrev told_in : Parts → ℕ → EntryParts → List Sent
    told_in p n e =
        (let x : Entry (machine p) = record { stamp = e.stamp; server = e.server; act = act_of e.act; outs = e.outs } in
        (let found : Moment (machine p) = as_found (machine p) (moment p n) (act_phase (machine p) e.server ((moment p n).network.state e.server) (act_of e.act)) in
        texts (messages_of (machine p) found.network x) (p.1 e.server)))

  -- one net beside another, whose trees are one
  module _ (v w : ℕ) (t u : List (ℕ × Topology)) (x y : List (ℕ × Turn)) (counts : (first_tree t).count ≡ (first_tree u).count) (one : AreOneTree (first_tree t).count (tree_at_start t) (tree_at_start u)) (journal : List EntryParts) where
    abbrev here : NetParts
    here = net_parts v semantics t clients x

    abbrev there : NetParts
    there = net_parts w semantics u clients y

    parts-same : parts_of (net_of here).servers (net_of here).links (net_of here).hop ≡ parts_of (net_of there).servers (net_of there).links (net_of there).hop
    parts-same =
        same-hops (servers_to (first_tree t).count) (tree_at_start t).links (tree_at_start t).hop (tree_at_start u).hop one.masters
        ∙ (λ i. parts_of (servers_to (counts i)) (one.links i) (tree_at_start u).hop)

    pub legal-same : IsLegal here journal → IsLegal there journal
    legal-same h = subst (IsLegalIn journal) parts-same h

    pub drained-same : IsDrainedBy here journal → IsDrainedBy there journal
    drained-same h =
        let z : IsDrainedIn journal (parts_of (net_of there).servers (net_of there).links (net_of there).hop) = subst (IsDrainedIn journal) parts-same (h.quiet.empty, h.quiet.calm, h.taken) in
        record { quiet = record { empty = z.0; calm = z.1 }; taken = z.2 }

    states-same : states_in journal (parts_of (net_of here).servers (net_of here).links (net_of here).hop) ≡ states_in journal (parts_of (net_of there).servers (net_of there).links (net_of there).hop)
    states-same = ap (states_in journal) parts-same

    executed-same : (c : ℕ) → executed_by here journal c ≡ executed_by there journal c
    executed-same c = ap (λ (s : ℕ → ServerState real). (s (home c)).done c) states-same

    pub received-same : (c : ℕ) → received_by here journal c ≡ received_by there journal c
    received-same c = ap (λ (s : ℕ → ServerState real). deliveries_of ((s (home c)).inbox c)) states-same

    pub told-same : (n : ℕ) (es : List EntryParts) → told_from here journal n es ≡ told_from there journal n es
    told-same n [] = refl
    told-same n (e ∷ es) = λ i. ap (λ p. told_in journal p n e) parts-same i ∷ told-same (suc n) es i

    refused-added : (adverts : List real.Advert) (before : ℕ) (commands : List (PhasedCommand real))
        → refused_from real (net_of here) adverts before commands ≡ refused_from real (net_of there) adverts before commands
    refused-added adverts before [] = refl
    refused-added adverts before (c ∷ cs) = go c.command (λ more count. refused-added more count cs)
      where
        go : (z : Command real)
            → ((more : List real.Advert) (count : ℕ) → refused_from real (net_of here) more count cs ≡ refused_from real (net_of there) more count cs)
            → refused_from real (net_of here) adverts before (record { phase = c.phase; command = z } ∷ cs)
            ≡ refused_from real (net_of there) adverts before (record { phase = c.phase; command = z } ∷ cs)
        go (Subscribe f) rest = rest adverts before
        go (Unsubscribe f) rest = rest adverts before
        go (Advertise a) rest = rest (adverts_step real adverts (Advertise a)) before
        go (Unadvertise a) rest = rest (adverts_step real adverts (Unadvertise a)) before
        go (Publish n) rest = ap (λ l. cond (accepts real (net_of here) adverts n) l (suc before ∷ l)) (rest adverts (suc before))

    pub refused-same : (c : ℕ) → refused_by here journal c ≡ refused_by there journal c
    refused-same c = refused-added [] 0 (take (executed_by here journal c) (script_of here c)) ∙ ap (refused_ordinals there c) (executed-same c)
