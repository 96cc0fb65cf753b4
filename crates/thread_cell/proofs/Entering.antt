-- A cell that enters a phase with the same tree keeps what its type says.
use Rattle.std.proofs.Common.{◌≡◌, ℕ, ◌≤◌, ◌<◌, ◌^◌, true, eqb-true, List, [], ◌∷◌, length, map, drop, Some, slice_get, refl, sym, ap, subst, ◌∙◌, arith}
use Rattle.std.proofs.lemmas.List.{take_all}
use Rattle.base.specs.Sets.{Has}
use Rattle.filter_text.specs.declared.command.Command.{Command}
use Rattle.server_spec.specs.Session.{SessionParts}
use Rattle.law_machine.specs.Journals.{Cell, IsReplay}
use Rattle.law_routing.specs.Net.{Net}
use Rattle.law_phases.specs.Trees.{net_at, is_one_tree, trees_by, entries_on}
use Rattle.law_phases.proofs.Nets.{net-one}
use Rattle.net_model.specs.Real.{real}
use Rattle.thread_lane.specs.Lane.{put_list}
use Rattle.net_model.specs.Parts.{NetParts, EntryParts}
use Rattle.net_model.specs.Meaning.{journal_of}
use Rattle.net_model.specs.Nets.{phased_net}
use Rattle.server_core.specs.Core.{CoreParts, RepresentsServer, installed_from}
use Rattle.thread_versions.specs.declared.publisher.Publisher.{Publisher}
use Rattle.server_core.proofs.AnyClock.{any-clock}
use Rattle.thread_cell.specs.declared.held.ServerInHand.{ServerInHand}
use Rattle.thread_cell.specs.declared.held.Root.{Root}
use Rattle.thread_cell.specs.declared.link.Link.{Link}
use Rattle.filter_text.specs.MessageText.{Each}
use Rattle.thread_cell.specs.Links.{Both, IsSameLink}
use Rattle.thread_cell.specs.LaneMessages.{put_for, taken_from}
use Rattle.thread_cell.specs.Cell.{RepresentsCell, IsServerInHand, IsKept, IsInstalledBy, HasNoneBelow, IsReplayed, machine_in, count_before}
use Rattle.thread_cell.proofs.Unmoved.{same-refl}
use Rattle.thread_cell.proofs.Shown.{installed-stays}
use Rattle.std.proofs.Math.Seq.{drop-length}

pub all-same : (xs : List Link) → Both IsSameLink xs xs
all-same [] = tt
all-same (x ∷ xs) = (same-refl x, all-same xs)

few-more : (low high : ℕ) → low ≤ high → (xs : List Link) → Each (λ link. length (put_list link.enter) ≤ low) xs → Each (λ link. length (put_list link.enter) ≤ high) xs
few-more low high le [] e = tt
few-more low high le (x ∷ xs) e = (let f : length (put_list x.enter) ≤ low = e.0 in omega (arith, f, le), few-more low high le xs e.1)

pub raised : (old new : ServerInHand) (clock : ℕ) → IsServerInHand old → old.core.clock ≤ clock → clock < 2 ^ 62 → new.core ≡ record old.core { clock = clock } → new.links ≡ old.links → new.publisher ≡ old.publisher → new.handed ≡ old.handed → IsServerInHand new
raised old new clock held le low core links publisher handed = record {
  low = subst (λ (z : CoreParts). z.clock < 2 ^ 62) (sym core) low;
  neighbours = ap (λ l. map (λ (link : Link). link.neighbour) l.items) links ∙ held.neighbours ∙ ap (λ (z : CoreParts). z.control.links) (sym core);
  few = subst (λ l. Each (λ link. length (put_list link.enter) ≤ new.core.clock) l.items) (sym links) (subst (λ (z : CoreParts). Each (λ link. length (put_list link.enter) ≤ z.clock) old.links.items) (sym core) (few-more old.core.clock clock le old.links.items held.few));
  shown = subst (λ (p : Publisher). IsInstalledBy p new.core) (sym publisher)
      (installed-stays old.core new.core (ap (λ (c : CoreParts). c.net) core) old.publisher (ap (λ (c : CoreParts). c.interfaces) core) (λ i. ap (λ (c : CoreParts). installed_from c i) core) held.shown);
  handed = rw (publisher, handed) held.handed;
}

pub entered : (net : NetParts) (root after : Root) (journal : List EntryParts) (old new : ServerInHand) (clock : ℕ) → IsKept net root journal old → old.core.clock ≤ clock → clock < 2 ^ 62
    → is_one_tree real (phased_net net) root.phase after.phase ≡ true → root.phase ≤ after.phase → HasNoneBelow after.phase old.core.clients → after.net ≡ root.net → after.server ≡ root.server → after.before.value.entries ≡ journal → after.core.value ≡ new.core → after.links.value ≡ new.links → after.viewer ≡ root.viewer
    → new.core ≡ record old.core { clock = clock } → new.links ≡ old.links → new.publisher ≡ old.publisher → new.handed ≡ old.handed → IsKept net after journal new
entered net root after journal old new clock kept le low tree later none net_same server before core_is links_is viewer core links publisher handed = record {
  net_is = ap (λ z. z.value) net_same ∙ kept.net_is;
  sound = kept.sound;
  run = ap (λ (z : CoreParts). z.net) core ∙ kept.run;
  number = ap (λ (z : CoreParts). z.server) core ∙ kept.number ∙ sym server;
  begins = (cell-then, subst (λ z. RepresentsCell net after.phase z after.links.value.items cell-then) (sym core_is) (subst (λ z. RepresentsCell net after.phase new.core z.items cell-then) (sym links_is) stands-then));
  replays = λ begun is. record {
    end = begun;
    replay = replay begun;
    stands = subst (λ z. RepresentsCell net after.phase new.core z.items begun) links_is (subst (λ z. RepresentsCell net after.phase z after.links.value.items begun) core_is is);
  };
  entries = let e = entries in omega (arith, e);
  before = take_all (count_before after) journal (let e = entries in omega (arith, e)) ∙ sym before;
  links = subst (λ z. Both IsSameLink z.items new.links.items) (sym links_is) (all-same new.links.items);
  publisher = rw (publisher, viewer) kept.publisher;
  now = raised old new clock kept.now le low core links publisher handed;
  due = record {
    left = subst (λ (z : CoreParts). HasNoneBelow after.phase z.clients) (sym core) none;
    taken = subst (λ (z : CoreParts). (s : SessionParts) (k : ℕ) (c : ℕ × Command) → Has s z.clients → k < s.taken → slice_get s.script k ≡ Some c → c.0 ≤ after.phase) (sym core)
        (λ s k c h lt e. let t = kept.due.taken s k c h lt e in omega (arith, t, later));
  };
}
  where
    entries : count_before after ≡ length journal
    entries = ap length before

    replayed : IsReplayed net root journal kept.begins.0 old
    replayed = kept.replays kept.begins.0 kept.begins.1

    one : net_at real (phased_net net) root.phase ≡ net_at real (phased_net net) after.phase
    one = net-one real (phased_net net) root.phase after.phase (eqb-true (trees_by (phased_net net).later root.phase) (trees_by (phased_net net).later after.phase) tree)

    cell-then : Cell (machine_in net after.phase)
    cell-then = record { state = replayed.end.state; clock = clock; put = replayed.end.put; took = replayed.end.took }

    stands-then : RepresentsCell net after.phase new.core new.links.items cell-then
    stands-then = record {
      state = subst (λ (z : Net real). RepresentsServer z new.core replayed.end.state) one
          (subst (λ z. RepresentsServer (net_at real (phased_net net) root.phase) z replayed.end.state) (sym core) (any-clock (net_at real (phased_net net) root.phase) old.core clock replayed.end.state replayed.stands.state));
      clock = ap (λ (z : CoreParts). z.clock) core;
      put = λ link. ap (λ l. put_for net l.items link) links ∙ replayed.stands.put link;
      took = λ link. ap (λ l. taken_from net l.items link) links ∙ replayed.stands.took link;
    }

    replay : (begun : Cell (machine_in net after.phase)) → IsReplay (machine_in net after.phase) after.phase after.server begun (entries_on real (net_at real (phased_net net) after.phase) (journal_of (drop (count_before after) journal))) begun
    replay begun = subst (λ l. IsReplay (machine_in net after.phase) after.phase after.server begun (entries_on real (net_at real (phased_net net) after.phase) (journal_of l)) begun) (sym (ap (λ n. drop n journal) entries ∙ drop-length journal)) refl
