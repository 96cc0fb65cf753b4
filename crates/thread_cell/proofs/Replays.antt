-- A made step goes on with the replay of the journal.
use Rattle.std.proofs.Common.{◌≡◌, ℕ, zero, suc, ◌≤◌, List, [], ◌∷◌, ◌++◌, length, map, drop, Some, slice_get, refl, sym, ap, subst, ◌∙◌, arith}
use Rattle.std.proofs.lemmas.List.{map-append, drop-append-le}
use Rattle.base.specs.Sets.{Has}
use Rattle.law_machine.specs.Machine.{Does, Receives, Outcome, unstamped, next_stamp, stamped, act_phase, act_of as machine_act, receivers, entry_of as machine_entry}
use Rattle.law_machine.specs.Journals.{Cell, IsReplay, IsInPhase, cell_after, took_after}
use Rattle.law_machine.proofs.Exists.{tells-more}
use Rattle.law_machine.proofs.Lists.{append-nothing, Same, Is, Not, compare}
use Rattle.law_routing.specs.Net.{Net, NetLaws}
use Rattle.law_routing.specs.Server.{Message, ServerState, is_among}
use Rattle.law_routing.specs.Step.{NextCommand, TableUpdate, local_step}
use Rattle.law_routing.proofs.Laws.{one-has, cond-some}
use Rattle.law_phases.specs.Trees.{net_at, entry_on, entries_on}
use Rattle.net_model.specs.Real.{real}
use Rattle.net_model.specs.Parts.{NetParts, EntryParts, entry_parts}
use Rattle.net_model.specs.Meaning.{entry_of, journal_of, phased_command}
use Rattle.net_model.specs.Nets.{phased_net}
use Rattle.net_model.specs.declared.turn.Act.{Act as EntryAct}
use Rattle.server_core.specs.Step.{IsServerStep, stamp_after}
use Rattle.thread_cell.specs.Acted.{StampedInput, input_of, stamp_of, recorded_as}
use Rattle.thread_cell.specs.declared.held.ServerInHand.{ServerInHand}
use Rattle.thread_cell.specs.Links.{Both}
use Rattle.thread_cell.specs.LaneMessages.{AreInOrder, IsMoved, put_for, taken_from, only_for, all_sent_as}
use Rattle.thread_cell.specs.Cell.{RepresentsCell, machine_in}
use Rattle.thread_cell.specs.Turns.{IsCellTurn, IsOfPhase, received_by_input}
use Rattle.thread_cell.proofs.Going.{going-messages, going-told, going-order}
use Rattle.thread_cell.proofs.HandAll.{names, tos, none}
use Rattle.thread_cell.proofs.PutAndReceived.{puts, takes}
use Rattle.base.proofs.Lists.{get-map}

module _ (net : NetParts) (phase : ℕ) (laws : NetLaws real (net_at real (phased_net net) phase)) (input : StampedInput) (act : EntryAct) (old new : ServerInHand) (before after : List EntryParts)
    (turn : IsCellTurn phase input act old new before after) (neighbours : names old.links.items ≡ old.core.control.links) (cell : Cell (machine_in net phase)) (stands : RepresentsCell net phase old.core old.links.items cell) (run : old.core.net ≡ net) where
  abbrev here : Net real
  here = net_at real (phased_net net) phase

  pub local : IsServerStep here cell.state (input_of input) old.core new.core turn.sent
  local = turn.step.step here cell.state stands.state

  abbrev then-cell : Cell (machine_in net phase)
  then-cell = cell_after (machine_in net phase) cell input local.outcome

  bare-is : (input : StampedInput) → unstamped (machine_in net phase) input ≡ input_of input
  bare-is (Does task) = refl
  bare-is (Receives from m) = refl

  told-is : (input : StampedInput) → machine_act (machine_in net phase) input ≡ recorded_as input
  told-is (Does task) = refl
  told-is (Receives from m) = refl

  stamp-is : (input : StampedInput) → next_stamp (machine_in net phase) cell.clock input ≡ stamp_after cell.clock (stamp_of input)
  stamp-is (Does task) = let c = cell.clock in omega arith
  stamp-is (Receives from m) = refl

  stamp-next : turn.stamp ≡ next_stamp (machine_in net phase) cell.clock input
  stamp-next = turn.step.stamp_is ∙ ap (λ z. stamp_after z (stamp_of input)) stands.clock ∙ sym (stamp-is input)

  order : AreInOrder (tos turn.sent) (names old.links.items)
  order = subst (AreInOrder (tos turn.sent)) (sym neighbours) (going-order here laws cell.state old.core new.core stands.state (input_of input) turn.sent local)

  -- what was put and taken, as the net says it
  moved : Both (IsMoved net turn.stamp turn.sent (received_by_input input)) old.links.items new.links.items
  moved = subst (λ n. Both (IsMoved n turn.stamp turn.sent (received_by_input input)) old.links.items new.links.items) run turn.links

  -- what was put is what the step gives
  put-then : (n : ℕ) → put_for net new.links.items n ≡ then-cell.put n
  put-then n =
      moved-put n
      ∙ ap (λ z. z ++ all_sent_as turn.stamp (only_for n turn.sent)) (stands.put n)
      ∙ ap (λ z. cell.put n ++ z) (going-messages here laws cell.state old.core new.core stands.state (input_of input) turn.sent local turn.stamp n)
      ∙ ap (λ z. cell.put n ++ stamped (machine_in net phase) z (local.outcome.outs n)) stamp-next
    where
      moved-put : (n : ℕ) → put_for net new.links.items n ≡ put_for net old.links.items n ++ all_sent_as turn.stamp (only_for n turn.sent)
      moved-put n = puts net turn.stamp turn.sent (received_by_input input) old.links.items new.links.items moved n (none n turn.sent (names old.links.items) order)

  -- a reception is from a neighbour
  from-is : (input : StampedInput) (outcome : Outcome (ServerState real) (Message real)) → local_step real here old.core.server cell.state (input_of input) ≡ Some outcome → (n : ℕ) → (Has n (names old.links.items) → ⊥) → received_by_input input n ≡ []
  from-is (Does task) outcome e n other = refl
  from-is (Receives from m) outcome e n other = go (compare n from)
    where
      go : Same n from → received_by_input (Receives from m) n ≡ []
      go (Is q v) =
          let r = (cond-some (is_among old.core.server here.servers) (is_among from (here.links old.core.server)) _ outcome e).1 in
          absurd (other (subst (λ z. Has z (names old.links.items)) (sym q) (subst (Has from) (stands.state.control.links ∙ sym neighbours) (one-has from (here.links old.core.server) r))))
      go (Not q v) = rw v refl

  took-is : (input : StampedInput) (n : ℕ) → cell.took n ++ received_by_input input n ≡ took_after (machine_in net phase) cell.took input n
  took-is (Does task) n = append-nothing (cell.took n)
  took-is (Receives from m) n = go (compare n from)
    where
      go : Same n from → cell.took n ++ received_by_input (Receives from m) n ≡ took_after (machine_in net phase) cell.took (Receives from m) n
      go (Is q v) = rw (v, q) refl
      go (Not q v) = rw v (append-nothing (cell.took n))

  took-then : (n : ℕ) → taken_from net new.links.items n ≡ then-cell.took n
  took-then n =
      takes net turn.stamp turn.sent (received_by_input input) old.links.items new.links.items moved n (from-is input local.outcome local.step n)
      ∙ ap (λ z. z ++ received_by_input input n) (stands.took n) ∙ took-is input n

  -- WHAT IS IN HAND THEN represents the cell after the step
  pub stands-then : RepresentsCell net phase new.core new.links.items then-cell
  stands-then = record {
    state = local.state_after;
    clock = turn.step.clock_is ∙ stamp-next;
    put = put-then;
    took = took-then;
  }

  -- the entry is the step's
  entry-is : (server : ℕ) → old.core.server ≡ server → entry_on real here (entry_of (entry_parts turn.stamp old.core.server act (map (λ s. s.to) turn.sent))) ≡ machine_entry (machine_in net phase) server cell.clock input local.outcome
  entry-is server e = λ i. record {
    stamp = stamp-next i;
    server = e i;
    act = (sym turn.told ∙ sym (told-is input)) i;
    outs = (going-told here laws cell.state old.core new.core stands.state (input_of input) turn.sent local ∙ ap (λ z. receivers (machine_in net phase) local.outcome.outs (here.links z)) e) i;
  }

  -- a command is of the phase
  due-is : (input : StampedInput) → IsOfPhase phase old.core input → (server : ℕ) → IsInPhase (machine_in net phase) phase (act_phase (machine_in net phase) server cell.state (machine_act (machine_in net phase) input))
  due-is (Does (NextCommand client)) (s, has, is, (c, found, own)) server =
      let script : here.script client ≡ map phased_command s.script = ap here.script (sym is) ∙ stands.state.scripts s has in
      let done : cell.state.done client ≡ s.taken = ap cell.state.done (sym is) ∙ stands.state.taken s has in
      let next : slice_get (here.script client) (cell.state.done client) ≡ Some (phased_command c) = rw (script, done) (get-map phased_command s.script s.taken c found) in
      rw next own
  due-is (Does TableUpdate) due server = tt
  due-is (Receives from m) due server = tt

  -- and the replay goes on
  pub replays-then : (server : ℕ) → old.core.server ≡ server → (begun : Cell (machine_in net phase)) (entries : ℕ) → entries ≤ length before
      → IsReplay (machine_in net phase) phase server begun (entries_on real here (journal_of (drop entries before))) cell
      → IsReplay (machine_in net phase) phase server begun (entries_on real here (journal_of (drop entries after))) then-cell
  replays-then server e begun entries le replay =
      let step : local_step real here server cell.state (unstamped (machine_in net phase) input) ≡ Some local.outcome = subst (λ z. local_step real here z cell.state (unstamped (machine_in net phase) input) ≡ Some local.outcome) e (ap (local_step real here old.core.server cell.state) (bare-is input) ∙ local.step) in
      let more = tells-more (machine_in net phase) phase server begun (entries_on real here (journal_of (drop entries before))) cell input local.outcome replay (due-is input turn.due server) step in
      subst (λ z. IsReplay (machine_in net phase) phase server begun z then-cell) (lines e) more
    where
      lines : old.core.server ≡ server → entries_on real here (journal_of (drop entries before)) ++ machine_entry (machine_in net phase) server cell.clock input local.outcome ∷ [] ≡ entries_on real here (journal_of (drop entries after))
      lines e =
          ap (λ z. entries_on real here (journal_of (drop entries before)) ++ z ∷ []) (sym (entry-is server e))
          ∙ sym (map-append (entry_on real here) (journal_of (drop entries before)) (entry_of (entry_parts turn.stamp old.core.server act (map (λ s. s.to) turn.sent)) ∷ []))
          ∙ ap (entries_on real here) (sym (map-append entry_of (drop entries before) (entry_parts turn.stamp old.core.server act (map (λ s. s.to) turn.sent) ∷ [])))
          ∙ ap (λ z. entries_on real here (journal_of z)) (sym (drop-append-le entries before (entry_parts turn.stamp old.core.server act (map (λ s. s.to) turn.sent) ∷ []) le))
          ∙ ap (λ z. entries_on real here (journal_of (drop entries z))) (sym turn.entry)
