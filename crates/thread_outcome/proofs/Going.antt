-- A phase that is done leaves the cells between two phases.
use Rattle.std.proofs.Common.{◌≡◌, ◌⊎◌, inl, inr, ℕ, zero, suc, ◌≤◌, ◌<◌, ◌==◌, ◌&&◌, cond, Bool, true, false, nat_le, List, [], ◌∷◌, ◌++◌, length, map, take, drop, Some, None, slice_get, slice_index_or, refl, sym, ap, subst, ◌∙◌, arith}
use Rattle.std.proofs.lemmas.Bool.Decides.{nat_tests}
use Rattle.std.proofs.lemmas.List.{map-append, take-append-drop}
use Rattle.base.specs.Sets.{Has}
use Rattle.law_machine.specs.Journals.{Cell, IsReplay, entries_of}
use Rattle.law_routing.specs.Net.{Net, PhasedCommand}
use Rattle.law_routing.specs.Server.{ServerState, is_among}
use Rattle.law_routing.specs.Routing.{all_through, not_below}
use Rattle.law_routing.proofs.Laws.{one-has}
use Rattle.law_phases.specs.Trees.{JournalEntry, State, net_at, entry_off, entries_on, is_one_tree}
use Rattle.law_phases.specs.Moments.{with_clocks_raised, with_tree_changed}
use Rattle.law_phases.specs.Cells.{PhaseDone, IsBetween, entered, entries_off, end_after, entries_after}
use Rattle.law_phases.proofs.Merged.{goes-on}
use Rattle.net_model.specs.Real.{real}
use Rattle.net_model.specs.Parts.{NetParts, EntryParts}
use Rattle.net_model.specs.Meaning.{journal_of, entry_of}
use Rattle.net_model.specs.Nets.{phased_net}
use Rattle.net_journal.specs.Merging.{journals_in}
use Rattle.server_spec.specs.Session.{SessionParts}
use Rattle.server_core.specs.Core.{CoreParts, RepresentsServer}
use Rattle.server_core.specs.Clients.{client_numbers}
use Rattle.thread_cell.specs.declared.held.Root.{Root}
use Rattle.thread_cell.specs.Cell.{CellParts, RepresentsCell, machine_in, count_before}
use Rattle.thread_cell.specs.Entered.{IsEntered, state_of}
use Rattle.thread_cell.specs.Together.{AreBegun, IsFinished, cell_roots, phase_entries, journals}
use Rattle.thread_cell.specs.Turns.{HasCommand}
use Rattle.thread_cell.proofs.Gathered.{map-found, found-map, there-or-not}
use Rattle.thread_cell.proofs.Due.{next-of-phase}
use Rattle.thread_outcome.specs.Outcome.{StandBetween, IsPhaseDone, journals_by}
use Rattle.std.proofs.Math.Path.{fun_ext}
use Rattle.base.proofs.Sets.{map-has}
use Rattle.base.proofs.Lists.{index-get, get-map-none}

-- entries on a tree and off again are as they were
on-off : (net : Net real) (entries : List JournalEntry) → map (entry_off real net) (entries_on real net entries) ≡ entries
on-off net [] = refl
on-off net (e ∷ entries) = ap (λ l. e ∷ l) (on-off net entries)

pub at-none : {X : Type 0} (xs : List X) (k : ℕ) (none : X) → slice_get xs k ≡ None → slice_index_or xs k none ≡ none
at-none [] k none e = refl
at-none (y ∷ xs) zero none e = absurd cc
at-none (y ∷ xs) (suc k) none e = at-none xs k none e

no-more : {X Y : Type 0} (xs : List X) (ys : List Y) (k : ℕ) → length xs ≡ length ys → slice_get xs k ≡ None → slice_get ys k ≡ None
no-more xs [] k q e = refl
no-more [] (y ∷ ys) k q e = absurd (omega (arith, q))
no-more (x ∷ xs) (y ∷ ys) zero q e = absurd cc
no-more (x ∷ xs) (y ∷ ys) (suc k) q e = no-more xs ys k (omega (arith, q)) e

-- what is left where all commands of lower phases are executed is of this phase or a later one
pub through-tells : (net : Net real) (state : ServerState real) (phase : ℕ) (clients : List ℕ) (client : ℕ) → all_through real net state phase clients ≡ true → Has client clients
    → (c : PhasedCommand real) → slice_get (net.script client) (state.done client) ≡ Some c → phase ≤ c.phase
through-tells net state phase [] client t h c e = absurd h
through-tells net state phase (x ∷ clients) client t h c e = go (λ u later. through-tells net state phase clients client u later c e) (not_below real net phase (slice_get (net.script x) (state.done x))) refl t h
  where
    go : (all_through real net state phase clients ≡ true → Has client clients → phase ≤ c.phase) → (b : Bool) → not_below real net phase (slice_get (net.script x) (state.done x)) ≡ b → (b && all_through real net state phase clients) ≡ true → Has client (x ∷ clients) → phase ≤ c.phase
    go rest false p u h = absurd cc
    go rest true p u (inl same) =
        let at : slice_get (net.script x) (state.done x) ≡ Some c = subst (λ (n : ℕ). slice_get (net.script n) (state.done n) ≡ Some c) same e in
        let b : nat_le phase c.phase ≡ true = sym (ap (not_below real net phase) at) ∙ p in
        grind (arith, nat_tests, b)
    go rest true p u (inr later) = rest u later

-- a command that may be executed next is one of the state that the core represents, of a client of its server
pub command-at : (net : Net real) (core : CoreParts) (state : ServerState real) (client phase : ℕ) → RepresentsServer net core state → HasCommand core client phase
    → Has client (net.clients core.server) × (c : PhasedCommand real) × (slice_get (net.script client) (state.done client) ≡ Some c) × (c.phase ≡ phase)
command-at net core state client phase stands h =
    let n = next-of-phase net core state stands phase client h in (
      subst (Has client) (sym stands.clients) (subst (λ n. Has n (client_numbers core.clients)) h.2 (map-has (λ (s : SessionParts). s.client) core.clients h.0 h.1)),
      n.0,
      n.1,
      n.2,
    )

-- cells that entered a phase, and those cells later
module _ (net : NetParts) (last phase : ℕ) (end : State real) (started now : List CellParts) (enters : IsEntered net last phase end started) (roots_stay : cell_roots now ≡ cell_roots started) where
  -- a cell now was one as it entered, with the same root
  first-cell : (k : ℕ) (cell : CellParts) → slice_get now k ≡ Some cell → (first : CellParts) × (slice_get started k ≡ Some first) × (first.root ≡ cell.root)
  first-cell k cell e = found-map (λ (c : CellParts). c.root) k started cell.root (ap (λ l. slice_get l k) (sym roots_stay) ∙ map-found (λ (c : CellParts). c.root) k now cell e)

  same-many : length now ≡ length started
  same-many = sym (len now) ∙ ap (λ (l : List Root). length l) roots_stay ∙ len started
    where
      len : (cells : List CellParts) → length (cell_roots cells) ≡ length cells
      len [] = refl
      len (c ∷ cells) = ap suc (len cells)

  -- they began as the state that was entered
  pub are-begun : AreBegun net phase now enters.begun
  are-begun = record {
    stand = λ k cell e.
        let f = first-cell k cell e in
        subst (λ (r : Root). RepresentsCell net phase r.core.value r.links.value.items (enters.begun (suc k))) f.2 (enters.stand.stand k f.0 f.1);
    others = λ server beyond link. enters.stand.others server (λ k q lt. beyond k q (subst (λ n. k < n) (sym same-many) lt)) link;
  }

module _ (net : NetParts) (last phase : ℕ) (old started now : List CellParts) (done : IsPhaseDone net last phase old started now) where
  abbrev here : Net real
  here = net_at real (phased_net net) phase

  -- to enter a phase executes no command
  done-kept : (last phase : ℕ) (state : State real) (server : ℕ) → ((entered real (phased_net net) last phase state).state server).done ≡ (state.state server).done
  done-kept last phase state server = go (last == phase) (is_one_tree real (phased_net net) last phase)
    where
      go : (same one : Bool) → ((cond same state (cond one (with_clocks_raised real (phased_net net) last state) (with_tree_changed real (phased_net net) last phase state))).state server).done ≡ (state.state server).done
      go true one = refl
      go false true = refl
      go false false = refl

  abbrev begun : ℕ → Cell (machine_in net phase)
  begun = done.enters.begun

  then-cell : (k : ℕ) (cell : CellParts) → slice_get now k ≡ Some cell → (first : CellParts) × (slice_get started k ≡ Some first) × (first.root ≡ cell.root)
  then-cell = first-cell net last phase (state_of net last done.stood.ends) started now done.enters done.roots_stay

  are-begun-now : AreBegun net phase now begun
  are-begun-now = are-begun net last phase (state_of net last done.stood.ends) started now done.enters done.roots_stay

  abbrev ended : IsFinished net phase now begun
  ended = done.finished begun are-begun-now

  -- what the journal of a cell was before
  journal-before : (k : ℕ) (cell : CellParts) → slice_get now k ≡ Some cell → (before : CellParts) × (slice_get old k ≡ Some before) × (take (count_before cell.root) cell.journal ≡ before.journal)
  journal-before k cell e =
      let f = then-cell k cell e in
      let b = found-map (λ (c : CellParts). c.journal) k old f.0.journal (ap (λ l. slice_get l k) (sym done.journals) ∙ map-found (λ (c : CellParts). c.journal) k started f.0 f.1) in
      (b.0, b.1, (done.kept k cell e).before ∙ ap (λ (r : Root). r.before.value.entries) (sym f.2) ∙ (done.starts k f.0 f.1).before ∙ sym b.2)

  journal-now : (k : ℕ) (cell before : CellParts) → slice_get now k ≡ Some cell → take (count_before cell.root) cell.journal ≡ before.journal
      → journal_of cell.journal ≡ journal_of before.journal ++ entries_off real (phased_net net) phase (phase_entries net phase cell)
  journal-now k cell before e q =
      ap journal_of (sym (take-append-drop (count_before cell.root) cell.journal)) ∙ map-append entry_of (take (count_before cell.root) cell.journal) (drop (count_before cell.root) cell.journal)
      ∙ ap (λ l. journal_of l ++ journal_of (drop (count_before cell.root) cell.journal)) q
      ∙ ap (λ l. journal_of before.journal ++ l) (sym (on-off here (journal_of (drop (count_before cell.root) cell.journal))))

  old-many : length now ≡ length old
  old-many = same-many net last phase (state_of net last done.stood.ends) started now done.enters done.roots_stay ∙ sym (len started) ∙ ap (λ (l : List (List EntryParts)). length l) done.journals ∙ len old
    where
      len : (cells : List CellParts) → length (journals_by cells) ≡ length cells
      len [] = refl
      len (c ∷ cells) = ap suc (len cells)

  -- the journals of all servers go on
  server-journal : (server : ℕ) → journals_in (journals_by now) server ≡ journals_in (journals_by old) server ++ entries_off real (phased_net net) phase (journals net phase now server)
  server-journal zero = refl
  server-journal (suc k) = go (there-or-not now k)
    where
      go : ((cell : CellParts) × (slice_get now k ≡ Some cell)) ⊎ (slice_get now k ≡ None)
          → journals_in (journals_by now) (suc k) ≡ journals_in (journals_by old) (suc k) ++ entries_off real (phased_net net) phase (journals net phase now (suc k))
      go (inl (cell, e)) =
          let b = journal-before k cell e in
          ap journal_of (index-get (journals_by now) k cell.journal [] (map-found (λ (c : CellParts). c.journal) k now cell e))
          ∙ journal-now k cell b.0 e b.2
          ∙ ap (λ l. journal_of l ++ entries_off real (phased_net net) phase (phase_entries net phase cell)) (sym (index-get (journals_by old) k b.0.journal [] (map-found (λ (c : CellParts). c.journal) k old b.0 b.1)))
          ∙ ap (λ l. journals_in (journals_by old) (suc k) ++ entries_off real (phased_net net) phase l) (sym (index-get (map (phase_entries net phase) now) k (phase_entries net phase cell) [] (map-found (phase_entries net phase) k now cell e)))
      go (inr e) =
          ap journal_of (at-none (journals_by now) k [] (get-map-none (λ (c : CellParts). c.journal) now k e))
          ∙ sym (ap (λ l. journal_of l ++ entries_off real (phased_net net) phase (journals net phase now (suc k))) (at-none (journals_by old) k [] (get-map-none (λ (c : CellParts). c.journal) old k (no-more now old k old-many e)))
          ∙ ap (λ l. entries_off real (phased_net net) phase l) (at-none (map (phase_entries net phase) now) k [] (get-map-none (phase_entries net phase) now k e)))

  -- some entry is made in it
  some-entry : ended.merged ≡ [] → ⊥
  some-entry none =
      let low = through-tells here (begun (suc k)).state (suc phase) (here.clients (suc k)) done.some.client
      (subst (λ (c : Cell (machine_in net phase)). all_through real here c.state (suc phase) (here.clients (suc k)) ≡ true) (sym same) (ended.ended.through (suc k) among))
      (subst (λ s. Has done.some.client (here.clients s)) number command.0) command.1
      (subst (λ (f : ℕ → ℕ). slice_get (here.script done.some.client) (f done.some.client) ≡ Some command.1) (sym taken) command.2) in
      let own = command.3 in
      omega (arith, low, own)
    where
      k : ℕ
      k = done.some.place

      core : CoreParts
      core = done.some.cell.held.core

      before : ServerState real
      before = (done.stood.ends (suc k)).state

      stands : RepresentsServer (net_at real (phased_net net) last) core before
      stands = (done.stood.stand.stand k done.some.cell done.some.at).state

      number : core.server ≡ suc k
      number = (done.hand.kept k done.some.cell done.some.at).number ∙ done.hand.together.numbers k done.some.cell.root (map-found (λ (c : CellParts). c.root) k old done.some.cell done.some.at)

      command : Has done.some.client ((net_at real (phased_net net) last).clients core.server)
          × (c : PhasedCommand real) × (slice_get ((net_at real (phased_net net) last).script done.some.client) (before.done done.some.client) ≡ Some c) × (c.phase ≡ phase)
      command = command-at (net_at real (phased_net net) last) core before done.some.client phase stands done.some.command

      taken : (begun (suc k)).state.done ≡ before.done
      taken = ap (λ s. (s.state (suc k)).done) (sym done.enters.enters) ∙ done-kept last phase (state_of net last done.stood.ends) (suc k)

      empty : journals net phase now (suc k) ≡ []
      empty = sym (ended.in_hand.merge.parts (suc k)) ∙ ap (entries_of (machine_in net phase) (suc k)) none

      same : begun (suc k) ≡ ended.ends (suc k)
      same = subst (λ l. IsReplay (machine_in net phase) phase (suc k) (begun (suc k)) l (ended.ends (suc k))) empty (ended.in_hand.replay (suc k))

      among : Has (suc k) here.servers
      among = one-has (suc k) here.servers (subst (λ s. is_among s here.servers ≡ true) number stands.among)

  phase-done : PhaseDone real (phased_net net)
  phase-done = record {
    end = state_of net last done.stood.ends;
    last = last;
    phase = phase;
    sofar = done.stood.sofar;
    journals = journals_in (journals_by old);
    between = done.stood.between;
    cells = begun;
    ends = ended.ends;
    enters = done.enters.enters;
    fresh = journals net phase now;
    merged = ended.merged;
    some = some-entry;
    in_hand = ended.in_hand;
    ended = ended.ended;
  }

  -- THE CELLS STAND BETWEEN this phase and the next
  pub stand-between : StandBetween net phase (suc phase) now
  unfolding phase-done
  stand-between = record {
    ends = ended.ends;
    stand = record {
      stand = ended.stand;
      others = λ server beyond link. let b = are-begun-now.others server beyond link in let s = ended.others server beyond in
          (ap (λ (c : Cell (machine_in net phase)). c.put link) s ∙ b.0, ap (λ (c : Cell (machine_in net phase)). c.took link) s ∙ b.1);
    };
    sofar = entries_after real (phased_net net) phase-done;
    between = subst (λ js. IsBetween real (phased_net net) (end_after real (phased_net net) phase-done) phase (suc phase) (entries_after real (phased_net net) phase-done) js)
        (sym (fun_ext server-journal))
        (goes-on real (phased_net net) (state_of net last done.stood.ends) last phase done.stood.sofar (journals_in (journals_by old)) done.stood.between begun ended.ends done.enters.enters (journals net phase now) ended.merged some-entry ended.in_hand ended.ended);
    phase = inl (omega arith);
  }
