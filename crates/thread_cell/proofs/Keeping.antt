-- What a cell's type keeps goes on through a turn.
use Rattle.std.proofs.Common.{◌≡◌, ◌≤◌, List, [], ◌∷◌, length, map, take, drop, sym, ap, subst, ◌∙◌, arith}
use Rattle.std.proofs.lemmas.List.{length-append, take-append-le}
use Rattle.law_machine.specs.Journals.{Cell, IsReplay}
use Rattle.law_phases.specs.Trees.{net_at, entries_on}
use Rattle.net_model.specs.Real.{real}
use Rattle.net_model.specs.Parts.{NetParts, EntryParts, entry_parts}
use Rattle.net_model.specs.Meaning.{journal_of}
use Rattle.base.specs.Sets.{Has}
use Rattle.base_tree.specs.Tree.{links_of}
use Rattle.net_model.specs.Nets.{phased_net, clients_of, topology_at}
use Rattle.net_model.proofs.TreesByPhase.{laws_at, links_at}
use Rattle.net_model.specs.declared.turn.Act.{Act as EntryAct}
use Rattle.server_core.specs.Core.{CoreParts, RepresentsServer}
use Rattle.thread_cell.specs.declared.held.ServerInHand.{ServerInHand}
use Rattle.thread_cell.specs.declared.held.Root.{Root}
use Rattle.net_model.specs.declared.turn.Act.TheVariants.{Command, Receive, TableUpdate}
use Rattle.thread_cell.specs.Acted.{StampedInput}
use Rattle.thread_cell.specs.Kept.{IsSomeServer}
use Rattle.thread_cell.specs.Links.{IsSameLink, IsUnmoved}
use Rattle.thread_cell.specs.LaneMessages.{IsMoved}
use Rattle.thread_cell.specs.Cell.{RepresentsCell, IsServerInHand, IsKept, IsDue, IsReplayed, machine_in, count_before}
use Rattle.thread_cell.specs.Turns.{IsCellTurn, IsStill, received_by_input}
use Rattle.thread_cell.specs.Asked.{Suits, SuitsHeld}
use Rattle.thread_cell.proofs.Walks.{both-comp}
use Rattle.thread_cell.proofs.Unmoved.{same-link}
use Rattle.thread_cell.proofs.PutAndReceived.{unmoved-put, unmoved-taken}
use Rattle.thread_cell.proofs.Replays.{stands-then, replays-then}
use Rattle.thread_cell.proofs.Due.{due-then}
use Rattle.thread_cell.proofs.Shown.{viewer-later}

module _ (net : NetParts) (root : Root) (journal : List EntryParts) (old : ServerInHand) (kept : IsKept net root journal old) where
  pub replayed : IsReplayed net root journal kept.begins.0 old
  replayed = kept.replays kept.begins.0 kept.begins.1

  -- the core represents a state of its server
  pub some-server : IsSomeServer old.core
  some-server = (net_at real (phased_net net) root.phase, laws_at net kept.sound root.phase, replayed.end.state, replayed.stands.state)

  -- who is named is there in hand too
  pub suits-held : (what : EntryAct) → Suits what root → root.net.value ≡ net → SuitsHeld what old
  suits-held (Command client) has same =
      subst (Has client) (ap (λ n. clients_of n root.server) same ∙ ap (clients_of net) (sym kept.number) ∙ replayed.stands.state.clients) has
  suits-held (Receive from) has same =
      subst (Has from) (ap (λ n. links_of (topology_at n root.phase) root.server) same ∙ sym (links_at net root.phase root.server) ∙ ap (net_at real (phased_net net) root.phase).links (sym kept.number) ∙ replayed.stands.state.control.links) has
  suits-held TableUpdate has same = tt

  pub kept-turn : (input : StampedInput) (act : EntryAct) (new : ServerInHand) (after : List EntryParts) → IsCellTurn root.phase input act old new journal after → IsServerInHand new → IsKept net root after new
  kept-turn input act new after turn held = record {
    net_is = kept.net_is;
    sound = kept.sound;
    run = turn.step.same_net ∙ kept.run;
    number = turn.step.same_server ∙ kept.number;
    begins = kept.begins;
    replays = λ begun is.
        let r = kept.replays begun is in
        record {
          end = _;
          replay = replays-then net root.phase (laws_at net kept.sound root.phase) input act old new journal after turn kept.now.neighbours r.end r.stands kept.run root.server kept.number begun (count_before root) kept.entries r.replay;
          stands = stands-then net root.phase (laws_at net kept.sound root.phase) input act old new journal after turn kept.now.neighbours r.end r.stands kept.run;
        };
    entries = longer;
    before = ap (take (count_before root)) turn.entry ∙ take-append-le (count_before root) journal (entry_parts turn.stamp old.core.server act (map (λ s. s.to) turn.sent) ∷ []) kept.entries ∙ kept.before;
    links = both-comp IsSameLink (IsMoved old.core.net turn.stamp turn.sent (received_by_input input)) IsSameLink (λ x y z a b. same-link x y z a b.same) root.links.value.items old.links.items new.links.items kept.links turn.links;
    publisher = viewer-later old.publisher new.publisher root.viewer.value turn.publisher kept.publisher;
    now = held;
    due = due-then (net_at real (phased_net net) root.phase) replayed.end.state old.core new.core root.phase input turn.sent replayed.stands.state
        (turn.step.step (net_at real (phased_net net) root.phase) replayed.end.state replayed.stands.state) (laws_at net kept.sound root.phase) turn.step.same_server turn.due kept.due;
  }
    where
      longer : count_before root ≤ length after
      longer = let e = ap (λ (l : List EntryParts). length l) turn.entry in let n = length-append journal (entry_parts turn.stamp old.core.server act (map (λ s. s.to) turn.sent) ∷ []) in let k = kept.entries in omega (arith, e, n, k)

  pub kept-still : (new : ServerInHand) (after : List EntryParts) → IsStill old new journal after → IsServerInHand new → IsKept net root after new
  kept-still new after still held = record {
    net_is = kept.net_is;
    sound = kept.sound;
    run = ap (λ (c : CoreParts). c.net) still.core ∙ kept.run;
    number = ap (λ (c : CoreParts). c.server) still.core ∙ kept.number;
    begins = kept.begins;
    replays = λ begun is.
        let r = kept.replays begun is in
        record {
          end = r.end;
          replay = subst (λ l. IsReplay (machine_in net root.phase) root.phase root.server begun (entries_on real (net_at real (phased_net net) root.phase) (journal_of (drop (count_before root) l))) r.end) (sym still.journal) r.replay;
          stands = stands-still r.end r.stands;
        };
    entries = subst (λ (l : List EntryParts). count_before root ≤ length l) (sym still.journal) kept.entries;
    before = ap (take (count_before root)) still.journal ∙ kept.before;
    links = both-comp IsSameLink IsUnmoved IsSameLink (λ x y z a b. same-link x y z a b.same) root.links.value.items old.links.items new.links.items kept.links still.links;
    publisher = viewer-later old.publisher new.publisher root.viewer.value still.publisher kept.publisher;
    now = held;
    due = subst (λ (c : CoreParts). IsDue root.phase c.clients) (sym still.core) kept.due;
  }
    where
      stands-still : (end : Cell (machine_in net root.phase)) → RepresentsCell net root.phase old.core old.links.items end → RepresentsCell net root.phase new.core new.links.items end
      stands-still end s = record {
        state = subst (λ (c : CoreParts). RepresentsServer (net_at real (phased_net net) root.phase) c end.state) (sym still.core) s.state;
        clock = ap (λ (c : CoreParts). c.clock) still.core ∙ s.clock;
        put = λ link. unmoved-put net old.links.items new.links.items still.links link ∙ s.put link;
        took = λ link. unmoved-taken net old.links.items new.links.items still.links link ∙ s.took link;
      }
