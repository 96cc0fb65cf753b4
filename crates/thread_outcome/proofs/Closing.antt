-- Where all commands are executed, the merge of all journals is a whole run, and the cores show what clients have by its end.
use Rattle.std.proofs.Common.{◌≡◌, ◌⊎◌, inl, inr, ℕ, zero, suc, ◌≤◌, ◌<◌, ◌&&◌, true, false, nat_le, List, [], ◌∷◌, length, map, Option, Some, None, slice_get, refl, sym, ap, subst, ◌∙◌, arith}
use Rattle.std.proofs.lemmas.Bool.Decides.{nat_tests}
use Rattle.base.specs.Sets.{Has}
use Rattle.law_routing.specs.Net.{Net, PhasedCommand}
use Rattle.law_routing.specs.Server.{ServerState, is_among}
use Rattle.law_routing.proofs.Laws.{one-has}
use Rattle.law_routing.specs.Rest.{IsDrained}
use Rattle.law_routing.specs.Routing.{all_through, not_below}
use Rattle.law_phases.specs.Trees.{net_at, at_phase, IsThroughOn}
use Rattle.law_phases.specs.Moments.{Moment, opening_moment}
use Rattle.law_phases.specs.Runs.{PhasedRun, IsPhasedRun, IsRunTo}
use Rattle.law_phases.proofs.Moments.{run-ends}
use Rattle.law_phases.proofs.Walks.{drained}
use Rattle.net_model.specs.Real.{real, real_laws}
use Rattle.net_model.specs.Parts.{NetParts, EntryParts}
use Rattle.net_model.specs.Meaning.{journal_of, phased_command}
use Rattle.net_model.specs.Nets.{phased_net, phases_of, first_tree}
use Rattle.net_model.specs.Sound.{IsSound}
use Rattle.net_model.proofs.SoundNets.{net-laws, phases-low}
use Rattle.net_journal.specs.Merging.{IsMergeOf}
use Rattle.net_journal.proofs.Runs.{one-merge}
use Rattle.server_core.specs.Core.{CoreParts, RepresentsServer}
use Rattle.server_core.specs.Pending.{is_some_there}
use Rattle.net_turns.specs.Network.{moment_by}
use Rattle.sequential_network.specs.Kept.{AreServers}
use Rattle.net_turns.proofs.Among.{server_low}
use Rattle.thread_cell.specs.Cell.{CellParts, HasNoneBelow}
use Rattle.thread_cell.specs.Coming.{HaveCommand}
use Rattle.thread_cell.specs.Entered.{AreThrough, AreCalm, state_of}
use Rattle.thread_cell.specs.Together.{AreTogether, cell_roots}
use Rattle.thread_cell.proofs.Gathered.{map-found, found-map}
use Rattle.thread_cell.proofs.Due.{session-of, script-of, done-of}
use Rattle.thread_outcome.proofs.Going.{through-tells, command-at}
use Rattle.thread_outcome.specs.Outcome.{StandBetween, AreKept, IsWholeMerge, journals_by}
use Rattle.base.proofs.Lists.{get-below, map-get}

-- where each command left is of this phase or a later one
through-each : (net : Net real) (state : ServerState real) (phase : ℕ) (clients : List ℕ)
    → ((client : ℕ) → Has client clients → (c : PhasedCommand real) → slice_get (net.script client) (state.done client) ≡ Some c → phase ≤ c.phase) → all_through real net state phase clients ≡ true
through-each net state phase [] f = refl
through-each net state phase (client ∷ clients) f = both (slice_get (net.script client) (state.done client)) refl (through-each net state phase clients (λ c h. f c (inr h)))
  where
    both : (o : Option (PhasedCommand real)) → slice_get (net.script client) (state.done client) ≡ o → all_through real net state phase clients ≡ true → (not_below real net phase (slice_get (net.script client) (state.done client)) && all_through real net state phase clients) ≡ true
    both None e q = rw (e, q) refl
    both (Some c) e q = let le = f client (inl refl) c e in let t : nat_le phase c.phase ≡ true = grind (arith, nat_tests, le) in rw (e, q, t) refl

module _ (net : NetParts) (last next : ℕ) (cells : List CellParts) (sound : IsSound net) (stood : StandBetween net last next cells) (together : AreTogether net last (cell_roots cells)) (kept : AreKept cells) where
  abbrev here : Net real
  here = net_at real (phased_net net) last

  as-many : length cells ≡ (first_tree net.trees).count
  as-many = sym (len cells) ∙ together.all
    where
      len : (cells : List CellParts) → length (cell_roots cells) ≡ length cells
      len [] = refl
      len (c ∷ cells) = ap suc (len cells)

  number : (k : ℕ) (cell : CellParts) → slice_get cells k ≡ Some cell → cell.held.core.server ≡ suc k
  number k cell e = (kept k cell e).number ∙ together.numbers k cell.root (map-found (λ (c : CellParts). c.root) k cells cell e)

  -- the core of a cell is of the net
  net-is : (k : ℕ) (cell : CellParts) → slice_get cells k ≡ Some cell → cell.held.core.net ≡ net
  net-is k cell e = (kept k cell e).run ∙ together.nets k cell.root (map-found (λ (c : CellParts). c.root) k cells cell e)

  -- the core of a cell represents the state of its server
  state-at : (k : ℕ) (cell : CellParts) → slice_get cells k ≡ Some cell → RepresentsServer here cell.held.core ((state_of net last stood.ends).state (suc k))
  state-at k cell e = (stood.stand.stand k cell e).state

  left-at : (phase k : ℕ) (cell : CellParts) → slice_get cells k ≡ Some cell → HasNoneBelow phase cell.held.core.clients
      → (client : ℕ) → Has client (here.clients (suc k)) → (c : PhasedCommand real) → slice_get (here.script client) (((state_of net last stood.ends).state (suc k)).done client) ≡ Some c → phase ≤ c.phase
  left-at phase k cell e none client h c f =
      let core = cell.held.core in
      let state = (state_of net last stood.ends).state (suc k) in
      let stands = state-at k cell e in
      let s = session-of here core state stands phase client (subst (λ n. Has client (here.clients n)) (sym (number k cell e)) h) in
      let x = map-get phased_command s.0.script s.0.taken c
      (subst (λ n. slice_get (map phased_command s.0.script) n ≡ Some c) (done-of here core state stands phase s.0 s.1 client s.2)
      (subst (λ l. slice_get l (state.done client) ≡ Some c) (script-of here core state stands phase s.0 s.1 client s.2) f)) in
      subst (λ (z : PhasedCommand real). phase ≤ z.phase) x.2 (none s.0 x.0 s.1 x.1)

  pub through-on : (phase : ℕ) → AreThrough phase cells → IsThroughOn real (phased_net net) last (state_of net last stood.ends) phase
  through-on phase none server has = go server (server_low net server has)
    where
      go : (server : ℕ) → (1 ≤ server) × (server ≤ (first_tree net.trees).count) → all_through real here ((state_of net last stood.ends).state server) phase (here.clients server) ≡ true
      go zero low = absurd (let l = low.0 in omega (arith, l))
      go (suc k) low =
          let f = get-below cells k (let l = low.1 in let m = as-many in omega (arith, l, m)) in
          through-each here ((state_of net last stood.ends).state (suc k)) phase (here.clients (suc k)) (left-at phase k f.0 f.1 (none k f.0 f.1))

  -- nothing is pending
  pub calm : AreCalm cells
  calm k cell e =
      let stands = state-at k cell e in
      let n = number k cell e in
      none-pending cell.held.core (sym stands.pending
      ∙ stood.between.quiet.calm (suc k) (one-has (suc k) here.servers (subst (λ s. is_among s here.servers ≡ true) n stands.among)))
    where
      none-pending : (core : CoreParts) → is_some_there core.pending ≡ false → core.pending ≡ []
      none-pending core e = nothing core.pending e
        where
          nothing : {X : Type 0} (xs : List X) → is_some_there xs ≡ false → xs ≡ []
          nothing [] e = refl
          nothing (x ∷ xs) e = absurd cc

  -- no command of a lower phase is next
  next-low : (phase : ℕ) → HaveCommand cells phase → next ≤ phase
  next-low phase some =
      let stands = state-at some.place some.cell some.at in
      let n = number some.place some.cell some.at in
      let c = command-at here some.cell.held.core ((state_of net last stood.ends).state (suc some.place)) some.client phase stands some.command in
      let low = through-tells here ((state_of net last stood.ends).state (suc some.place)) next (here.clients (suc some.place)) some.client
      (stood.between.through (suc some.place) (one-has (suc some.place) here.servers (subst (λ s. is_among s here.servers ≡ true) n stands.among)))
      (subst (λ s. Has some.client (here.clients s)) n c.0) c.1 c.2 in
      let own = c.3 in
      omega (arith, low, own)

  -- they stand before the phase of the next command too
  pub stand-later : (phase : ℕ) → HaveCommand cells phase → AreThrough phase cells → StandBetween net last phase cells
  stand-later phase some none = record {
    ends = stood.ends;
    stand = stood.stand;
    sofar = stood.sofar;
    between = record {
      run = stood.between.run;
      merge = stood.between.merge;
      low = stood.between.low;
      quiet = stood.between.quiet;
      through = through-on phase none;
      phase = later stood.between.phase;
    };
    phase = later stood.phase;
  }
    where
      same-or-later : (a b : ℕ) → a ≤ b → (a < b) ⊎ (a ≡ b)
      same-or-later a b le = grind arith

      le : next ≤ phase
      le = next-low phase some

      later : {X : Type 0} → (last < next) ⊎ ((last ≡ next) × X) → (last < phase) ⊎ ((last ≡ phase) × X)
      later {X = X} (inl lt) = inl (omega (arith, lt, le))
      later {X = X} (inr (e, x)) = go (same-or-later next phase le)
        where
          go : (next < phase) ⊎ (next ≡ phase) → (last < phase) ⊎ ((last ≡ phase) × X)
          go (inl lt) = inl (omega (arith, lt, e))
          go (inr q) = inr (e ∙ q, x)

  module _ (merged : List EntryParts) (merge : IsMergeOf (journals_by cells) merged) (none : AreThrough (phases_of net) cells) where
    same-entries : stood.sofar ≡ journal_of merged
    same-entries = one-merge (net_at real (phased_net net) 0) (journals_by cells) merged stood.sofar (merge (net_at real (phased_net net) 0)) stood.between.merge

    run : PhasedRun real
    run = record {
      net = phased_net net;
      laws = net-laws net sound;
      journal = journal_of merged;
      end = (state_of net last stood.ends);
      last = last;
      legal = subst (λ entries. IsPhasedRun real (phased_net net) (opening_moment real (phased_net net)).state 0 entries (state_of net last stood.ends) last) same-entries stood.between.run;
    }

    abbrev end-moment : Moment real (phased_net net)
    end-moment = record { state = (state_of net last stood.ends); phase = last }

    pub at-end : moment_by net merged ≡ end-moment
    unfolding run
    at-end = run-ends real (phased_net net) (opening_moment real (phased_net net)).state 0 (journal_of merged) (state_of net last stood.ends) last run.legal

    -- the cores are those of the servers at the end of the run
    pub cores : AreServers net last (moment_by net merged).state (map (λ (c : CellParts). c.held.core) cells)
    cores = subst (λ (m : Moment real (phased_net net)). AreServers net last m.state (map (λ (c : CellParts). c.held.core) cells)) (sym at-end) (record {
      all = len cells ∙ as-many;
      nets = λ k core e. let c = found-map (λ (c : CellParts). c.held.core) k cells core e in ap (λ (x : CoreParts). x.net) (sym c.2) ∙ net-is k c.0 c.1;
      number = λ k core e. let c = found-map (λ (c : CellParts). c.held.core) k cells core e in ap (λ (x : CoreParts). x.server) (sym c.2) ∙ number k c.0 c.1;
      states = λ k core e. let c = found-map (λ (c : CellParts). c.held.core) k cells core e in subst (λ x. RepresentsServer here x ((state_of net last stood.ends).state (suc k))) c.2 (state-at k c.0 c.1);
      clocks = λ k core e.
          let c = found-map (λ (c : CellParts). c.held.core) k cells core e in
          ap (λ (x : CoreParts). x.clock) (sym c.2) ∙ (stood.stand.stand k c.0 c.1).clock;
    })
      where
        len : (cells : List CellParts) → length (map (λ (c : CellParts). c.held.core) cells) ≡ length cells
        len [] = refl
        len (c ∷ cells) = ap suc (len cells)

    pub whole : IsWholeMerge net cells merged
    unfolding run
    whole = record {
      merge = merge;
      legal = subst (λ m. IsRunTo real (phased_net net) (opening_moment real (phased_net net)) (journal_of merged) m) (sym at-end) run.legal;
      drained = subst (λ (m : Moment real (phased_net net)). IsDrained real (net_at real (phased_net net) m.phase) (at_phase real (phased_net net) m.phase m.state)) (sym at-end)
          (drained real real_laws run (phases_of net) (phases-low net sound) stood.between.quiet (through-on (phases_of net) none));
      ends = record { sound = sound; phase = last; cores_are = cores };
    }
