-- The entries of a phase count the commands that were executed, and their last stamp is the clock.
use Rattle.std.proofs.Common.{◌≡◌, ℕ, suc, ◌+◌, ◌≤◌, ◌==◌, cond, Bool, false, List, [], ◌∷◌, Some, slice_get, refl, sym, ap, subst, ◌∙◌, arith}
use Rattle.base.specs.Sets.{Has}
use Rattle.base.specs.Numbers.{sum_over, count}
use Rattle.law_machine.specs.Machine.{Input, Does, Receives, Act, Did, Received, Outcome, Stamped, unstamped, act_of as machine_act}
use Rattle.law_machine.specs.Journals.{Cell, IsReplay, cell_after}
use Rattle.law_machine.proofs.Lists.{Same, Is, Not, compare}
use Rattle.law_routing.specs.Net.{Net, PhasedCommand}
use Rattle.law_routing.specs.Server.{Message, ServerState}
use Rattle.law_routing.specs.Step.{Task, NextCommand, TableUpdate, Work, SetsFilters, SetsAdverts, Routes, InstallsTable, Nothing, effect, local_step}
use Rattle.law_routing.specs.Routing.{routing_machine, NetEntry}
use Rattle.law_routing.specs.Clients.{commands_below}
use Rattle.law_routing.specs.Works.{done_after}
use Rattle.law_routing.proofs.Working.{Served, served}
use Rattle.law_routing.proofs.Scripts.{through-count}
use Rattle.law_phases.specs.Trees.{net_at, entries_on}
use Rattle.net_model.specs.Real.{real}
use Rattle.net_model.specs.declared.turn.Act.TheVariants as acts
use Rattle.net_model.specs.Parts.{NetParts, EntryParts}
use Rattle.net_model.specs.Meaning.{journal_of, phased_command, act_of}
use Rattle.net_model.specs.Nets.{phased_net, clients_of}
use Rattle.thread_cell.specs.declared.held.ServerInHand.{ServerInHand}
use Rattle.thread_cell.specs.declared.held.Root.{Root}
use Rattle.thread_cell.specs.Cell.{IsKept, IsReplayed, HasNoneBelow}
use Rattle.thread_cell.proofs.Due.{session-of, done-of, script-of}
use Rattle.net_model.proofs.TreesByPhase.{laws_at}
use Rattle.thread_workers.specs.Journals.{is_command_of, commands_of, entries_since, HasCommands, last_or, clock_by}
use Rattle.base.proofs.Lists.{map-get}

-- whether an act executes a command of a client
abbrev takes_one : ℕ → Act Task → Bool
takes_one client (Did (NextCommand other)) = client == other
takes_one client (Did TableUpdate) = false
takes_one client (Received from) = false

module _ (net : Net real) where
  -- no work executes a command
  done-kept : (t : ℕ) (s : ServerState real) (work : Work real) → (effect real net t s work).state.done ≡ s.done
  done-kept t s (SetsFilters i fs) = refl
  done-kept t s (SetsAdverts i ads) = refl
  done-kept t s (Routes i p o n) = refl
  done-kept t s InstallsTable = refl
  done-kept t s Nothing = refl

  done-is : (t : ℕ) (s : ServerState real) (d : Input Task (Stamped (Message real))) (o : Outcome (ServerState real) (Message real)) (client : ℕ) → local_step real net t s (unstamped (routing_machine real net) d) ≡ Some o
      → o.state.done client ≡ count (takes_one client (machine_act (routing_machine real net) d)) + s.done client
  done-is t s d o client e = base ∙ counts d
    where
      step : Served real net t s (unstamped (routing_machine real net) d) o
      step = served real net t s (unstamped (routing_machine real net) d) o e

      base : o.state.done client ≡ done_after real net s.done (unstamped (routing_machine real net) d) client
      base = ap (λ (z : Outcome (ServerState real) (Message real)). z.state.done client) step.made ∙ ap (λ f. f client) (done-kept t step.from step.work) ∙ ap (λ f. f client) step.done

      counts : (d : Input Task (Stamped (Message real))) → done_after real net s.done (unstamped (routing_machine real net) d) client ≡ count (takes_one client (machine_act (routing_machine real net) d)) + s.done client
      counts (Does TableUpdate) = omega arith
      counts (Receives from m) = omega arith
      counts (Does (NextCommand other)) = go (compare client other)
        where
          go : Same client other → cond (client == other) (suc (s.done other)) (s.done client) ≡ count (client == other) + s.done client
          go (Is q v) = rw v (let e : s.done other ≡ s.done client = ap s.done (sym q) in omega (arith, e))
          go (Not q v) = rw v (omega arith)

  -- how many commands a replay takes of a client
  replay-done : (k t : ℕ) (c : Cell (routing_machine real net)) (es : List (NetEntry real net)) (e : Cell (routing_machine real net)) (client : ℕ) → IsReplay (routing_machine real net) k t c es e
      → e.state.done client ≡ sum_over (λ x. count (takes_one client x.act)) es + c.state.done client
  replay-done k t c [] e client r = let same = ap (λ (z : Cell (routing_machine real net)). z.state.done client) (sym r) in omega (arith, same)
  replay-done k t c (x ∷ es) e client (due, d, o, s, w, rest) =
      let more = replay-done k t (cell_after (routing_machine real net) c d o) es e client rest in
      let one = done-is t c.state d o client s in
      let a : count (takes_one client x.act) ≡ count (takes_one client (machine_act (routing_machine real net) d)) = ap (λ (z : NetEntry real net). count (takes_one client z.act)) w in
      omega (arith, more, one, a)

  -- the same of the entries of a cell
  act-same : (client : ℕ) (entry : EntryParts) → takes_one client (act_of entry.act) ≡ is_command_of client entry.act
  act-same client entry = go entry.act
    where
      go : (a : _) → takes_one client (act_of a) ≡ is_command_of client a
      go (acts.Command other) = refl
      go (acts.Receive from) = refl
      go acts.TableUpdate = refl

  entries-same : (client : ℕ) (es : List EntryParts) → sum_over (λ (x : NetEntry real net). count (takes_one client x.act)) (entries_on real net (journal_of es)) ≡ commands_of client es
  entries-same client [] = refl
  entries-same client (x ∷ es) = let a = ap count (act-same client x) in let b = entries-same client es in omega (arith, a, b)

  -- the clock after a replay
  replay-clock : (k t : ℕ) (c : Cell (routing_machine real net)) (es : List EntryParts) (e : Cell (routing_machine real net)) → IsReplay (routing_machine real net) k t c (entries_on real net (journal_of es)) e → e.clock ≡ last_or c.clock es
  replay-clock k t c [] e r = ap (λ (z : Cell (routing_machine real net)). z.clock) (sym r)
  replay-clock k t c (x ∷ es) e (due, d, o, s, w, rest) =
      replay-clock k t (cell_after (routing_machine real net) c d o) es e rest
      ∙ ap (λ n. last_or n es) (sym (ap (λ (z : NetEntry real net). z.stamp) w))

module _ (net : NetParts) (root : Root) (journal : List EntryParts) (held : ServerInHand) (kept : IsKept net root journal held) where
  abbrev here : Net real
  here = net_at real (phased_net net) root.phase

  r : IsReplayed net root journal kept.begins.0 held
  r = kept.replays kept.begins.0 kept.begins.1

  -- the clock by the journal is the one in hand
  pub clock-kept : clock_by root journal ≡ held.core.clock
  clock-kept =
      ap (λ n. last_or n (entries_since root journal)) kept.begins.1.clock
      ∙ sym (replay-clock here root.phase root.server kept.begins.0 (entries_since root journal) r.end r.replay)
      ∙ sym r.stands.clock

  -- where none is left in hand, the journal has every command
  pub has-commands : HasNoneBelow (suc root.phase) held.core.clients → HasCommands root.phase root journal
  has-commands none s h lives =
      let among : Has s.client (here.clients held.core.server) = subst (λ n. Has s.client (clients_of n held.core.server)) kept.net_is (subst (λ k. Has s.client (clients_of root.net.value k)) (sym kept.number) lives) in
      let now = session-of here held.core r.end.state r.stands.state root.phase s.client among in
      let done-now = done-of here held.core r.end.state r.stands.state root.phase now.0 now.1 s.client now.2 in
      let script-now = script-of here held.core r.end.state r.stands.state root.phase now.0 now.1 s.client now.2 in
      let done-then = kept.begins.1.state.taken s h in
      let between = replay-done here root.phase root.server kept.begins.0 (entries_on real here (journal_of (entries_since root journal))) r.end s.client r.replay in
      let entries = entries-same here s.client (entries_since root journal) in
      let past : (x : PhasedCommand real) → slice_get (here.script s.client) now.0.taken ≡ Some x → suc root.phase ≤ x.phase = λ x e. (
      let m = map-get phased_command now.0.script now.0.taken x (subst (λ l. slice_get l now.0.taken ≡ Some x) script-now e) in
      subst (λ (z : PhasedCommand real). suc root.phase ≤ z.phase) m.2 (none now.0 m.0 now.1 m.1)) in
      let below = through-count real (suc root.phase) (here.script s.client) now.0.taken ((laws_at net kept.sound root.phase).phased s.client) past in
      subst (λ l. commands_below real (suc root.phase) l ≤ s.taken + commands_of s.client (entries_since root journal)) (kept.begins.1.state.scripts s h) (omega (arith, below, done-now, done-then, between, entries))
