-- Runs depend on the neighbours of servers alone: nets over trees with the same neighbours have the same runs, however their trees represent the way.
use Rattle.std.proofs.Common.{◌≡◌, ℕ, zero, suc, ◌==◌, ◌&&◌, Bool, true, false, cond, inl, inr, List, [], ◌∷◌, ◌++◌, length, map, Option, Some, None, refl, sym, ap, subst, ◌∙◌}
use Rattle.std.specs.Prelude.{slice_get}
use Rattle.law_machine.specs.Machine.{Machine, Input, Does, Receives, Outcome, Act, Did, Received, Entry, act_phase}
use Rattle.law_machine.specs.Network.{IsStep, entry_at, turn, messages_of}
use Rattle.law_machine.specs.Walk.{is_of_phase, repeated, with_default}
use Rattle.law_machine.specs.Runs.{IsQuiet, IsThrough, raised}
use Rattle.law_routing.specs.Theory.{Theory}
use Rattle.law_routing.specs.Net.{Net, PhasedCommand, Command, Subscribe, Unsubscribe, Advertise, Unadvertise, Publish}
use Rattle.law_routing.specs.Server.{Message, ServerState, is_among}
use Rattle.law_routing.specs.Step.{Task, NextCommand, TableUpdate, Work, SetsFilters, SetsAdverts, Routes, InstallsTable, Nothing, effect, command_work, message_work, command_outcome, with_command_executed, local_step}
use Rattle.law_routing.specs.Server.{Subs, Advs, Noticed}
use Rattle.law_routing.specs.Routing.{NetEntry, all_through, not_below, phase_of, routing_machine, task_phase}
use Rattle.law_routing.specs.Walk.{client_turns, command_turns, enough_rounds, round_at, walk_round, walk_turns}
use Rattle.law_routing.specs.Change.{on_tree}
use Rattle.law_routing.specs.Rest.{IsDrained}
use Rattle.law_phases.specs.Trees.{Tree, JournalEntry, State, off, entry_on, PhasedNet, tree_after, trees_by, net_at, machine_at, at_phase, IsQuietOn, IsThroughOn}
use Rattle.law_phases.specs.Moments.{Moment, with_clocks_raised, with_tree_changed, begun, command_phase, as_found, found_by, acted, moment_after, found_after}
use Rattle.law_phases.specs.Runs.{ActFinds, IsStepOn, IsPhasedRun, Turn}
use Rattle.law_phases.specs.Turns.{entry_made, off_maybe}
use Rattle.law_phases.specs.Walk.{entries_by, entry_in, entry_of_phase, moment_by, moment_next, walk_phases}

-- a net but for its tree
module _ (th : Theory) (adverts : Bool) (servers : List ℕ) (home : ℕ → ℕ) (clients : ℕ → List ℕ) (script : ℕ → List (PhasedCommand th)) where
  -- on a tree
  abbrev net_on : (ℕ → List ℕ) → (ℕ → ℕ → ℕ) → Net th
  net_on links hop = record { adverts = adverts; servers = servers; links = links; hop = hop; home = home; clients = clients; script = script }

  -- its parts that speak of the tree
  abbrev Step : Type 0
  Step = ℕ → ServerState th → Input Task (Message th) → Option (Outcome (ServerState th) (Message th))

  abbrev machine : (ℕ → List ℕ) → Step → (ℕ → ServerState th → Task → Option ℕ) → (ℕ → ServerState th → ℕ → Bool) → Machine
  machine links step phase through = record {
    State = ServerState th;
    Task = Task;
    Message = Message th;
    servers = servers;
    links = links;
    step = step;
    phase = phase;
    through = through;
    pending = λ server state. state.pending;
  }

  module _ (links : ℕ → List ℕ) (hop other : ℕ → ℕ → ℕ) where
    same-effect : (t : ℕ) (s : ServerState th) (w : Work th) → effect th (net_on links hop) t s w ≡ effect th (net_on links other) t s w
    same-effect t s (SetsFilters i fs) = refl
    same-effect t s (SetsAdverts i ads) = refl
    same-effect t s (Routes i q o n) = refl
    same-effect t s InstallsTable = refl
    same-effect t s Nothing = refl

    same-work : (c k : ℕ) (x : Command th) → command_work th (net_on links hop) c k x ≡ command_work th (net_on links other) c k x
    same-work c k (Subscribe f) = refl
    same-work c k (Unsubscribe f) = refl
    same-work c k (Advertise a) = refl
    same-work c k (Unadvertise a) = refl
    same-work c k (Publish n) = refl

    same-outcome : (t : ℕ) (s : ServerState th) (c : ℕ) (o : Option (PhasedCommand th)) → command_outcome th (net_on links hop) t s c o ≡ command_outcome th (net_on links other) t s c o
    same-outcome t s c None = refl
    same-outcome t s c (Some x) =
        ap (λ w. Some (effect th (net_on links hop) t (with_command_executed th (net_on links hop) s c) w)) (same-work c (s.done c) x.command)
        ∙ ap Some (same-effect t (with_command_executed th (net_on links other) s c) (command_work th (net_on links other) c (s.done c) x.command))

    same-message : (s : ServerState th) (from : ℕ) (m : Message th) → message_work th (net_on links hop) s from m ≡ message_work th (net_on links other) s from m
    same-message s from (Subs out add) = refl
    same-message s from (Advs out add) = refl
    same-message s from (Noticed q o n) = refl

    same-step : (t : ℕ) (s : ServerState th) (i : Input Task (Message th)) → local_step th (net_on links hop) t s i ≡ local_step th (net_on links other) t s i
    same-step t s (Does (NextCommand c)) =
        ap (λ o. cond (is_among t servers && is_among c (clients t)) o None) (same-outcome t s c (slice_get (script c) (s.done c)))
    same-step t s (Does TableUpdate) = refl
    same-step t s (Receives from m) =
        ap (λ w. cond (is_among t servers && is_among from (links t)) (Some (effect th (net_on links hop) t s w)) None) (same-message s from m)
        ∙ ap (λ r. cond (is_among t servers && is_among from (links t)) (Some r) None) (same-effect t s (message_work th (net_on links other) s from m))

    same-task : (t : ℕ) (s : ServerState th) (x : Task) → task_phase th (net_on links hop) t s x ≡ task_phase th (net_on links other) t s x
    same-task t s (NextCommand c) = go (slice_get (script c) (s.done c))
      where
        go : (o : Option (PhasedCommand th)) → phase_of th (net_on links hop) o ≡ phase_of th (net_on links other) o
        go None = refl
        go (Some x) = refl
    same-task t s TableUpdate = refl

    same-through : (s : ServerState th) (k : ℕ) (cs : List ℕ) → all_through th (net_on links hop) s k cs ≡ all_through th (net_on links other) s k cs
    same-through s k [] = refl
    same-through s k (c ∷ cs) = λ i. below (slice_get (script c) (s.done c)) i && same-through s k cs i
      where
        below : (o : Option (PhasedCommand th)) → not_below th (net_on links hop) k o ≡ not_below th (net_on links other) k o
        below None = refl
        below (Some x) = refl

  -- one net beside another, whose trees have the same neighbours at each phase
  module _ (tree tree' : Tree) (later later' : List (ℕ × Tree)) (near : (p : ℕ) → (tree_after tree later p).links ≡ (tree_after tree' later' p).links) (count : (p : ℕ) → trees_by later p ≡ trees_by later' p) where
    abbrev one : PhasedNet th
    one = record { adverts = adverts; servers = servers; tree = tree; later = later; home = home; clients = clients; script = script }

    abbrev two : PhasedNet th
    two = record { adverts = adverts; servers = servers; tree = tree'; later = later'; home = home; clients = clients; script = script }

    -- what speaks of the servers at a phase
    by : {A : Type 0} (f : (ℕ → List ℕ) → Step → (ℕ → ServerState th → Task → Option ℕ) → (ℕ → ServerState th → ℕ → Bool) → A) (p : ℕ)
        → f (net_at th one p).links (local_step th (net_at th one p)) (task_phase th (net_at th one p)) (λ t s k. all_through th (net_at th one p) s k (clients t))
        ≡ f (net_at th two p).links (local_step th (net_at th two p)) (task_phase th (net_at th two p)) (λ t s k. all_through th (net_at th two p) s k (clients t))
    by f p =
        (λ i. f (near p i) (local_step th (net_on (near p i) (tree_after tree later p).hop)) (task_phase th (net_on (near p i) (tree_after tree later p).hop)) (λ t s k. all_through th (net_on (near p i) (tree_after tree later p).hop) s k (clients t)))
        ∙ (λ i. f (tree_after tree' later' p).links (λ t s x. same-step (tree_after tree' later' p).links (tree_after tree later p).hop (tree_after tree' later' p).hop t s x i)
        (λ t s x. same-task (tree_after tree' later' p).links (tree_after tree later p).hop (tree_after tree' later' p).hop t s x i)
        (λ t s k. same-through (tree_after tree' later' p).links (tree_after tree later p).hop (tree_after tree' later' p).hop s k (clients t) i))

    -- the same of what holds of them
    carry : (f : (ℕ → List ℕ) → Step → (ℕ → ServerState th → Task → Option ℕ) → (ℕ → ServerState th → ℕ → Bool) → Type 0) (p : ℕ)
        → f (net_at th one p).links (local_step th (net_at th one p)) (task_phase th (net_at th one p)) (λ t s k. all_through th (net_at th one p) s k (clients t))
        → f (net_at th two p).links (local_step th (net_at th two p)) (task_phase th (net_at th two p)) (λ t s k. all_through th (net_at th two p) s k (clients t))
    carry f p x =
        let first = subst (λ l. f l (local_step th (net_on l (tree_after tree later p).hop)) (task_phase th (net_on l (tree_after tree later p).hop)) (λ t s k. all_through th (net_on l (tree_after tree later p).hop) s k (clients t))) (near p) x in
        let links = (tree_after tree' later' p).links in
        let hop = (tree_after tree later p).hop in
        let hop' = (tree_after tree' later' p).hop in
        let a : Step × (ℕ → ServerState th → Task → Option ℕ) × (ℕ → ServerState th → ℕ → Bool) = (local_step th (net_on links hop), task_phase th (net_on links hop), (λ t s k. all_through th (net_on links hop) s k (clients t))) in
        let b : Step × (ℕ → ServerState th → Task → Option ℕ) × (ℕ → ServerState th → ℕ → Bool) = (local_step th (net_on links hop'), task_phase th (net_on links hop'), (λ t s k. all_through th (net_on links hop') s k (clients t))) in
        let same : a ≡ b = λ i. ((λ t s x. same-step links hop hop' t s x i), (λ t s x. same-task links hop hop' t s x i), (λ t s k. same-through links hop hop' s k (clients t) i)) in
        subst (λ (z : Step × (ℕ → ServerState th → Task → Option ℕ) × (ℕ → ServerState th → ℕ → Bool)). f links z.0 z.1 z.2) same first

    -- a moment of the one as one of the other
    abbrev moved : Moment th one → Moment th two
    moved m = record { state = m.state; phase = m.phase }

    same-change : (p k : ℕ) (s : State th) → with_tree_changed th one p k s ≡ with_tree_changed th two p k s
    same-change p k s =
        (λ i. off th (net_on (near k i) (tree_after tree later k).hop) (on_tree th (net_at th one p) (near k i) (tree_after tree later k).hop (at_phase th one p s)))
        ∙ go
      where
        go : off th (net_on (tree_after tree' later' k).links (tree_after tree later k).hop) (on_tree th (net_at th one p) (tree_after tree' later' k).links (tree_after tree later k).hop (at_phase th one p s)) ≡ with_tree_changed th two p k s
        go = refl

    same-raised : (p : ℕ) (s : State th) → with_clocks_raised th one p s ≡ with_clocks_raised th two p s
    same-raised p s = by (λ l step phase through. record {
      state = s.state;
      clock = (raised (machine l step phase through) (record { state = s.state; clock = s.clock; put = s.put; taken = s.taken })).clock;
      put = s.put;
      taken = s.taken;
    }) p

    same-begun : (p k : ℕ) (s : State th) → begun th one p k s ≡ begun th two p k s
    same-begun p k s = λ i. cond (count p i == count k i) (same-raised p s i) (same-change p k s i)

    same-phase : (p t : ℕ) (s : ServerState th) (a : Act Task) → act_phase (machine_at th one p) t s a ≡ act_phase (machine_at th two p) t s a
    same-phase p t s a = by (λ l step phase through. act_phase (machine l step phase through) t s a) p

    through-there : (p k : ℕ) (s : State th) → IsThroughOn th one p s k → IsThroughOn th two p s k
    through-there p k s h = carry (λ l step phase through. IsThrough (machine l step phase through) (record { state = s.state; clock = s.clock; put = s.put; taken = s.taken }) k) p h

    quiet-there : (p : ℕ) (s : State th) → IsQuietOn th one p s → IsQuietOn th two p s
    quiet-there p s h = carry (λ l step phase through. IsQuiet (machine l step phase through) (record { state = s.state; clock = s.clock; put = s.put; taken = s.taken })) p h

    step-there : (p : ℕ) (s : State th) (e : JournalEntry) (v : State th) → IsStepOn th one p s e v → IsStepOn th two p s e v
    step-there p s e v h = carry (λ l step phase through.
        IsStep (machine l step phase through) (record { state = s.state; clock = s.clock; put = s.put; taken = s.taken })
        (record { stamp = e.stamp; server = e.server; act = e.act; outs = e.outs })
        (record { state = v.state; clock = v.clock; put = v.put; taken = v.taken })) p h

    finds-there : (s : State th) (p : ℕ) (o : Option ℕ) (v : State th) (q : ℕ) → ActFinds th one s p o v q → ActFinds th two s p o v q
    finds-there s p None v q h = h
    finds-there s p (Some k) v q (e, inl h) = (e, inl h)
    finds-there s p (Some k) v q (e, inr (less, through, quiet, begins)) =
        (e, inr (less, through-there p k s through, quiet-there p s quiet, sym (same-begun p k s) ∙ begins))

    pub run-there : (es : List JournalEntry) (s : State th) (p : ℕ) (v : State th) (q : ℕ) → IsPhasedRun th one s p es v q → IsPhasedRun th two s p es v q
    run-there [] s p v q h = h
    run-there (e ∷ es) s p v q (found, next, now, ready, step, rest) = (
      found,
      next,
      now,
      subst (λ z. ActFinds th two s p z found now) (same-phase p e.server (s.state e.server) e.act) (finds-there s p (act_phase (machine_at th one p) e.server (s.state e.server) e.act) found now ready),
      step-there now found e next step,
      run-there es next now v q rest,
    )

    -- moments
    same-command : (m : Moment th one) (e : JournalEntry) → command_phase th one m e ≡ command_phase th two (moved m) e
    same-command m e = same-phase m.phase e.server (m.state.state e.server) e.act

    same-as : (m : Moment th one) (o : Option ℕ) → moved (as_found th one m o) ≡ as_found th two (moved m) o
    same-as m None = refl
    same-as m (Some k) = go (m.phase == k)
      where
        go : (b : Bool) → moved (cond b m (record { state = begun th one m.phase k m.state; phase = k })) ≡ cond b (moved m) (record { state = begun th two m.phase k m.state; phase = k })
        go true = refl
        go false = λ i. record { state = same-begun m.phase k m.state i; phase = k }

    pub same-found : (m : Moment th one) (e : JournalEntry) → moved (found_by th one m e) ≡ found_by th two (moved m) e
    same-found m e = same-as m (command_phase th one m e) ∙ ap (as_found th two (moved m)) (same-command m e)

    same-acted : (m : Moment th one) (e : JournalEntry) → moved (acted th one m e) ≡ acted th two (moved m) e
    same-acted m e = λ i. record {
      state = by (λ l step phase through.
          (let x = turn (machine l step phase through) (record { state = m.state.state; clock = m.state.clock; put = m.state.put; taken = m.state.taken }) e.server e.act in
          (let y : State th = record { state = x.state; clock = x.clock; put = x.put; taken = x.taken } in y))) m.phase i;
      phase = m.phase;
    }

    same-next : (m : Moment th one) (e : JournalEntry) → moved (acted th one (found_by th one m e) e) ≡ acted th two (found_by th two (moved m) e) e
    same-next m e = same-acted (found_by th one m e) e ∙ ap (λ z. acted th two z e) (same-found m e)

    pub same-after : (es : List JournalEntry) (n : ℕ) (m : Moment th one) → moved (moment_after th one m es n) ≡ moment_after th two (moved m) es n
    same-after es zero m = refl
    same-after [] (suc n) m = refl
    same-after (e ∷ es) (suc n) m = same-after es n (acted th one (found_by th one m e) e) ∙ ap (λ z. moment_after th two z es n) (same-next m e)

    pub same-found-after : (es : List JournalEntry) (n : ℕ) (m : Moment th one) → moved (found_after th one m es n) ≡ found_after th two (moved m) es n
    same-found-after [] n m = refl
    same-found-after (e ∷ es) zero m = same-found m e
    same-found-after (e ∷ es) (suc n) m = same-found-after es n (acted th one (found_by th one m e) e) ∙ ap (λ z. found_after th two z es n) (same-next m e)

    pub drained-there : (p : ℕ) (s : State th) → IsDrained th (net_at th one p) (at_phase th one p s) → IsDrained th (net_at th two p) (at_phase th two p s)
    drained-there p s d = record { quiet = quiet-there p s d.quiet; taken = d.taken }

    -- the messages of an entry
    pub same-messages : (p : ℕ) (s : State th) (e : JournalEntry) (link : ℕ)
        → messages_of (machine_at th one p) (at_phase th one p s) (entry_on th (net_at th one p) e) link ≡ messages_of (machine_at th two p) (at_phase th two p s) (entry_on th (net_at th two p) e) link
    same-messages p s e link = by (λ l step phase through.
        messages_of (machine l step phase through) (record { state = s.state; clock = s.clock; put = s.put; taken = s.taken })
        (record { stamp = e.stamp; server = e.server; act = e.act; outs = e.outs }) link) p

    -- the walk: what a turn makes
    abbrev plain : (links : ℕ → List ℕ) (step : Step) (phase : ℕ → ServerState th → Task → Option ℕ) (through : ℕ → ServerState th → ℕ → Bool)
        → Option (Entry (machine links step phase through)) → Option JournalEntry
    plain links step phase through None = None
    plain links step phase through (Some e) = Some (record { stamp = e.stamp; server = e.server; act = e.act; outs = e.outs })

    off-plain : (links : ℕ → List ℕ) (hop : ℕ → ℕ → ℕ) (o : Option (NetEntry th (net_on links hop)))
        → off_maybe th (net_on links hop) o
        ≡ plain links (local_step th (net_on links hop)) (task_phase th (net_on links hop)) (λ t s k. all_through th (net_on links hop) s k (clients t)) o
    off-plain links hop None = refl
    off-plain links hop (Some e) = refl

    same-made : (m : Moment th one) (t : Turn) → entry_made th one m t ≡ entry_made th two (moved m) t
    same-made m t =
        off-plain (tree_after tree later m.phase).links (tree_after tree later m.phase).hop (entry_at (machine_at th one m.phase) (at_phase th one m.phase m.state) t.0 t.1)
        ∙ by (λ l step phase through. plain l step phase through
        (entry_at (machine l step phase through) (record { state = m.state.state; clock = m.state.clock; put = m.state.put; taken = m.state.taken }) t.0 t.1)) m.phase
        ∙ sym (off-plain (tree_after tree' later' m.phase).links (tree_after tree' later' m.phase).hop
        (entry_at (machine_at th two m.phase) (at_phase th two m.phase m.state) t.0 t.1))

    same-own : (p : ℕ) (own : Option ℕ) → is_of_phase (machine_at th one p) p own ≡ is_of_phase (machine_at th two p) p own
    same-own p None = refl
    same-own p (Some k) = refl

    same-of : (p : ℕ) (m : Moment th one) (t : Turn) (own : Option ℕ) → entry_of_phase th one p m t own ≡ entry_of_phase th two p (moved m) t own
    same-of p m t own =
        ap (λ b. cond b (entry_made th one (as_found th one m own) t) None) (same-own p own)
        ∙ ap (λ z. cond (is_of_phase (machine_at th two p) p own) z None)
        (same-made (as_found th one m own) t ∙ ap (λ z. entry_made th two z t) (same-as m own))

    same-in : (p : ℕ) (m : Moment th one) (t : Turn) → entry_in th one p m t ≡ entry_in th two p (moved m) t
    same-in p m t =
        same-of p m t (act_phase (machine_at th one m.phase) t.0 (m.state.state t.0) t.1)
        ∙ ap (entry_of_phase th two p (moved m) t) (same-phase m.phase t.0 (m.state.state t.0) t.1)

    -- and turns one after the other
    same-entries : (p : ℕ) (ts : List Turn) (m : Moment th one) → entries_by th one p m ts ≡ entries_by th two p (moved m) ts
    same-entries p [] m = refl
    same-entries p (t ∷ ts) m =
        step (λ n. same-entries p ts n) (entry_in th one p m t)
        ∙ ap (λ o. with_default o (λ e. e ∷ entries_by th two p (moment_next th two (moved m) e) ts) (entries_by th two p (moved m) ts)) (same-in p m t)
      where
        step : ((n : Moment th one) → entries_by th one p n ts ≡ entries_by th two p (moved n) ts) → (o : Option JournalEntry)
            → with_default o (λ e. e ∷ entries_by th one p (moment_next th one m e) ts) (entries_by th one p m ts)
            ≡ with_default o (λ e. e ∷ entries_by th two p (moment_next th two (moved m) e) ts) (entries_by th two p (moved m) ts)
        step rest None = rest m
        step rest (Some e) = ap (λ l. e ∷ l) (rest (moment_next th one m e) ∙ ap (λ z. entries_by th two p z ts) (same-next m e))

    same-then : (p : ℕ) (ts : List Turn) (m : Moment th one) → moved (moment_by th one p m ts) ≡ moment_by th two p (moved m) ts
    same-then p [] m = refl
    same-then p (t ∷ ts) m =
        step (λ n. same-then p ts n) (entry_in th one p m t)
        ∙ ap (λ o. with_default o (λ e. moment_by th two p (moment_next th two (moved m) e) ts) (moment_by th two p (moved m) ts)) (same-in p m t)
      where
        step : ((n : Moment th one) → moved (moment_by th one p n ts) ≡ moment_by th two p (moved n) ts) → (o : Option JournalEntry)
            → moved (with_default o (λ e. moment_by th one p (moment_next th one m e) ts) (moment_by th one p m ts))
            ≡ with_default o (λ e. moment_by th two p (moment_next th two (moved m) e) ts) (moment_by th two p (moved m) ts)
        step rest None = rest m
        step rest (Some e) = rest (moment_next th one m e) ∙ ap (λ z. moment_by th two p z ts) (same-next m e)

    -- the turns of a phase
    same-repeated : (links : ℕ → List ℕ) (hop other : ℕ → ℕ → ℕ) (n : ℕ) (ts : List (ℕ × Act Task))
        → repeated (routing_machine th (net_on links hop)) n ts ≡ repeated (routing_machine th (net_on links other)) n ts
    same-repeated links hop other zero ts = refl
    same-repeated links hop other (suc n) ts = ap (λ l. ts ++ l) (same-repeated links hop other n ts)

    same-round : (links : ℕ → List ℕ) (hop other : ℕ → ℕ → ℕ) (ss : List ℕ) → round_at th (net_on links hop) ss ≡ round_at th (net_on links other) ss
    same-round links hop other [] = refl
    same-round links hop other (s ∷ ss) = ap (λ l. map (λ n. (s, Received n)) (links s) ++ ((s, Did TableUpdate) ∷ l)) (same-round links hop other ss)

    same-client-turns : (links : ℕ → List ℕ) (hop other : ℕ → ℕ → ℕ) (s : ℕ) (cs : List ℕ)
        → client_turns th (net_on links hop) s cs ≡ client_turns th (net_on links other) s cs
    same-client-turns links hop other s [] = refl
    same-client-turns links hop other s (c ∷ cs) =
        ap (λ l. l ++ client_turns th (net_on links hop) s cs) (same-repeated links hop other (length (script c)) ((s, Did (NextCommand c)) ∷ []))
        ∙ ap (λ l. repeated (routing_machine th (net_on links other)) (length (script c)) ((s, Did (NextCommand c)) ∷ []) ++ l) (same-client-turns links hop other s cs)

    same-command-turns : (links : ℕ → List ℕ) (hop other : ℕ → ℕ → ℕ) (ss : List ℕ) → command_turns th (net_on links hop) ss ≡ command_turns th (net_on links other) ss
    same-command-turns links hop other [] = refl
    same-command-turns links hop other (s ∷ ss) =
        ap (λ l. l ++ command_turns th (net_on links hop) ss) (same-client-turns links hop other s (clients s))
        ∙ ap (λ l. client_turns th (net_on links other) s (clients s) ++ l) (same-command-turns links hop other ss)

    same-turns : (p : ℕ) → walk_turns th (net_at th one p) ≡ walk_turns th (net_at th two p)
    same-turns p =
        (λ i. walk_turns th (net_on (near p i) (tree_after tree later p).hop))
        ∙ hops (tree_after tree' later' p).links (tree_after tree later p).hop (tree_after tree' later' p).hop
      where
        hops : (links : ℕ → List ℕ) (hop other : ℕ → ℕ → ℕ) → walk_turns th (net_on links hop) ≡ walk_turns th (net_on links other)
        hops links hop other =
            ap (λ l. l ++ repeated (routing_machine th (net_on links hop)) (enough_rounds th (net_on links hop)) (walk_round th (net_on links hop))) (same-command-turns links hop other servers)
            ∙ ap (λ l. command_turns th (net_on links other) servers ++ l)
            (same-repeated links hop other (enough_rounds th (net_on links hop)) (walk_round th (net_on links hop))
            ∙ ap (λ r. repeated (routing_machine th (net_on links other)) (enough_rounds th (net_on links other)) r) (same-round links hop other servers))

    -- so many phases of the walk
    pub same-phases : (n p : ℕ) (m : Moment th one) → walk_phases th one n p m ≡ walk_phases th two n p (moved m)
    same-phases zero p m = refl
    same-phases (suc n) p m =
        ap (λ ts. entries_by th one p m ts ++ walk_phases th one n (suc p) (moment_by th one p m ts)) (same-turns p)
        ∙ rest (walk_turns th (net_at th two p)) (λ x. same-phases n (suc p) x)
      where
        rest : (ts : List Turn) → ((x : Moment th one) → walk_phases th one n (suc p) x ≡ walk_phases th two n (suc p) (moved x))
            → entries_by th one p m ts ++ walk_phases th one n (suc p) (moment_by th one p m ts)
            ≡ entries_by th two p (moved m) ts ++ walk_phases th two n (suc p) (moment_by th two p (moved m) ts)
        rest ts later =
            ap (λ l. l ++ walk_phases th one n (suc p) (moment_by th one p m ts)) (same-entries p ts m)
            ∙ ap (λ l. entries_by th two p (moved m) ts ++ l)
            (later (moment_by th one p m ts) ∙ ap (λ z. walk_phases th two n (suc p) z) (same-then p ts m))
