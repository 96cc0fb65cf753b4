-- A cell that is set on other links keeps what its type says.
use Rattle.std.proofs.Common.{◌≡◌, ℕ, ◌+◌, ◌≤◌, ◌<◌, ◌^◌, List, [], ◌++◌, length, map, drop, Some, slice_get, refl, sym, ap, subst, ◌∙◌, arith, Result, Ok, Err, OnErr, inl, inr, append_assoc}
use Rattle.std.proofs.lemmas.List.{append-nil}
use Rattle.base.specs.Sets.{Has}
use Rattle.base.proofs.Sets.{has-append, has-append-right}
use Rattle.law_machine.specs.Journals.{Cell, IsReplay}
use Rattle.std.proofs.lemmas.List.{take_all}
use Rattle.law_phases.specs.Trees.{net_at, entries_on}
use Rattle.net_model.specs.Real.{real}
use Rattle.filter_text.specs.declared.command.Command.{Command}
use Rattle.server_spec.specs.Session.{SessionParts}
use Rattle.net_model.specs.Parts.{NetParts, EntryParts}
use Rattle.net_model.specs.Meaning.{journal_of}
use Rattle.net_model.specs.Nets.{phased_net}
use Rattle.server_spec.specs.declared.control.HeldLink.{HeldLink}
use Rattle.server_spec.specs.Control.{Controlled, subs}
use Rattle.server_core.specs.Core.{CoreParts, RepresentsServer, installed_from}
use Rattle.server_core.specs.Ledger.{LedgerParts}
use Rattle.server_core.specs.Clients.{client_numbers}
use Rattle.server_core.specs.Linked.{SuitsCore, IsLinked, IsOnLinks, interfaces_on}
use Rattle.filter_constraints.specs.Constraint.{ConstraintParts}
use Rattle.net_tables.specs.Known.{known_filters}
use Rattle.server_spec.specs.Holdings.{held_from}
use Rattle.match_routes.specs.declared.table_change.TableChange.{TableChange}
use Rattle.match_routes.specs.Installed.{Installed}
use Rattle.server_core.specs.Pending.{IsPending}
use Rattle.thread_versions.specs.Ends.{pending, installed, forwarding_of, IsSamePublisher}
use Rattle.thread_cell.specs.declared.held.ServerInHand.{ServerInHand}
use Rattle.thread_cell.specs.declared.held.Root.{Root}
use Rattle.thread_cell.specs.declared.link.Link.{Link}
use Rattle.thread_cell.specs.Kept.{IsSomeServer, IsWideFor}
use Rattle.filter_text.specs.MessageText.{Each}
use Rattle.thread_cell.specs.Links.{Both, IsSameLink, IsUnmoved}
use Rattle.thread_cell.specs.LaneMessages.{put_for, taken_from}
use Rattle.thread_cell.specs.Lanes.{IsNew, neighbours_in}
use Rattle.thread_cell.specs.Turns.{IsStill}
use Rattle.thread_cell.specs.Cell.{RepresentsCell, IsServerInHand, IsKept, IsInstalledBy, HasNoneBelow, cell_parts, machine_in, count_before}
use Rattle.thread_cell.specs.Relinking.{AreTaken, CanMove, IsPutOn}
use Rattle.server_core.proofs.AnyClock.{any-clock}
use Rattle.thread_cell.proofs.Entering.{all-same, raised}
use Rattle.thread_cell.proofs.Fresh.{new-put, new-taken, new-few}
use Rattle.thread_cell.proofs.Unmoved.{all-unmoved}
use Rattle.thread_cell.specs.Versions.{AreMended}
use Rattle.thread_cell.proofs.HandOver.{mended-calm}
use Rattle.thread_cell.proofs.Turnover.{shown-on}
use Rattle.thread_cell.proofs.Shown.{installed-still, viewer-later, wide-later, wide-stays}
use Rattle.std.proofs.Math.Seq.{drop-length}

-- what is in hand stays so while changes are handed to the publisher, which installs none
pub still-held : (old new : ServerInHand) → IsServerInHand old → new.core ≡ old.core → new.links ≡ old.links → IsSamePublisher old.publisher new.publisher → installed new.publisher ≡ installed old.publisher → pending new.publisher ≡ installed new.publisher ++ new.handed.items → IsServerInHand new
still-held old new held core links same shown handed = record {
  low = subst (λ (c : CoreParts). c.clock < 2 ^ 62) (sym core) held.low;
  neighbours = ap (λ l. map (λ (link : Link). link.neighbour) l.items) links ∙ held.neighbours ∙ ap (λ (c : CoreParts). c.control.links) (sym core);
  few = rw (core, links) held.few;
  shown = subst (IsInstalledBy new.publisher) (sym core) (installed-still old.publisher new.publisher old.core same shown held.shown);
  handed = handed;
}

pub on-err : {A E : Type 0} {P : Type 0} (r : Result A E) → P → OnErr r P
on-err (Ok x) p = tt
on-err (Err e) p = p

pub stays : (old new : ServerInHand) → new.core ≡ old.core → new.links ≡ old.links → IsSamePublisher old.publisher new.publisher → installed new.publisher ≡ installed old.publisher → (journal : List EntryParts) → IsStill old new journal journal
stays old new core links same shown journal = record {
  core = core;
  links = subst (λ l. Both IsUnmoved old.links.items l.items) (sym links) (all-unmoved old.links.items);
  journal = refl;
  publisher = same;
  installed = shown;
}

-- the interfaces of a ledger that suits a core are a forwarding's that is wide enough for the core
pub suits-wide : (core : CoreParts) (f : Installed) (ledger : LedgerParts) → core.interfaces ≡ interfaces_on core.control.links (client_numbers core.clients) → SuitsCore core ledger → IsWideFor core f → (i : ℕ) → Has i ledger.interfaces → Has i f.interfaces
suits-wide core f ledger whole suits wide i h = elim (has-append i ledger.control.links (map (λ n. 64 + n) (client_numbers core.clients)) (subst (Has i) suits.interfaces h)) [
  | inl m ↦ wide.links i (suits.small i m)
  | inr m ↦ wide.reaches i (subst (Has i) (sym whole) (has-append-right i core.control.links (map (λ n. 64 + n) (client_numbers core.clients)) m))
]

-- on other links it holds too
pub put-held : (old new : ServerInHand) (given : List HeldLink) (ledger : LedgerParts) (handed gone : List TableChange) → IsServerInHand old → IsSomeServer old.core → old.core.pending ≡ [] → neighbours_in new.links.items ≡ map (λ (h : HeldLink). h.link) given → Each IsNew new.links.items
    → IsPending (known_filters old.core.net.clients) old.core.interfaces (installed_from old.core) (subs old.core.control) old.core.pending → AreMended old.core handed → IsLinked given old.core.control ledger.control → SuitsCore old.core ledger → IsOnLinks ledger old.core new.core
    → AreTaken (known_filters old.core.net.clients) old.core.control (neighbours_in old.links.items) gone
    → IsPending (known_filters ledger.net.clients) ledger.interfaces (λ i. held_from real.before i ledger.installed) (subs ledger.control) ledger.pending → ledger.installed ≡ []
    → ((i : ℕ) (f : List ConstraintParts) → Has f (subs ledger.control i) → Has f (known_filters ledger.net.clients)) → ((i : ℕ) → Has i ledger.interfaces → Has i (forwarding_of old.publisher).interfaces) → IsSamePublisher old.publisher new.publisher
    → installed new.publisher ≡ installed old.publisher ++ ((handed ++ gone) ++ ledger.pending) → pending new.publisher ≡ installed new.publisher → new.handed.items ≡ [] → IsServerInHand new
put-held old new given ledger handed gone held some calm names fresh turns mends linked suits on taken added bare known reaches same shown all none = record {
  low = subst (λ n. n < 2 ^ 62) (sym on.clock) held.low;
  neighbours = names ∙ sym linked.links ∙ sym (ap (λ (c : Controlled). c.links) on.control_is);
  few = new-few new.core.clock new.links.items fresh;
  shown = record {
    wide = wide-later old.publisher new.publisher new.core same (wide-stays old.core new.core on.net (forwarding_of old.publisher) (λ i h. reaches i (subst (Has i) on.interfaces h)) held.shown.wide);
    pairs = shown-on old.core new.core given ledger gone (neighbours_in old.links.items) (installed old.publisher ++ handed) (installed new.publisher) some held.neighbours calm turns linked suits on taken added bare known
        (mended-calm old.core turns (installed old.publisher) handed mends held.shown.pairs calm)
        (shown ∙ ap (λ l. installed old.publisher ++ l) (append_assoc handed gone ledger.pending) ∙ sym (append_assoc (installed old.publisher) handed (gone ++ ledger.pending)));
  };
  handed = all ∙ sym (append-nil (installed new.publisher)) ∙ ap (λ l. installed new.publisher ++ l) (sym none);
}

module _ (net : NetParts) (root after : Root) (journal : List EntryParts) (old mid new : ServerInHand) (clock : ℕ) (given : List HeldLink) (row : List Link) (kept : IsKept net root journal old)
    (can : CanMove after.phase clock given row (cell_parts root journal old)) (low : clock < 2 ^ 62) (held : IsServerInHand mid) (put : IsPutOn given row old mid) (core : new.core ≡ record mid.core { clock = clock }) (links : new.links ≡ mid.links) where
  abbrev cell-then : Cell (machine_in net after.phase)
  cell-then = record { state = can.state; clock = clock; put = λ link. []; took = λ link. [] }

  mid-stands : RepresentsServer (net_at real (phased_net net) after.phase) mid.core can.state
  mid-stands = subst (λ n. RepresentsServer (net_at real (phased_net n) after.phase) mid.core can.state) kept.net_is (can.stands put.ledger mid.core put.linked put.suits put.core)

  stands-then : RepresentsCell net after.phase new.core new.links.items cell-then
  stands-then = record {
    state = subst (λ z. RepresentsServer (net_at real (phased_net net) after.phase) z can.state) (sym core) (any-clock (net_at real (phased_net net) after.phase) mid.core clock can.state mid-stands);
    clock = ap (λ (z : CoreParts). z.clock) core;
    put = λ link. ap (λ l. put_for net l.items link) links ∙ ap (λ l. put_for net l link) put.links ∙ new-put net row can.new link;
    took = λ link. ap (λ l. taken_from net l.items link) links ∙ ap (λ l. taken_from net l link) put.links ∙ new-taken net row can.new link;
  }

  clients-same : new.core.clients ≡ old.core.clients
  clients-same = ap (λ (z : CoreParts). z.clients) core ∙ put.core.clients

  pub kept-moved : after.net ≡ root.net → after.server ≡ root.server → after.before.value.entries ≡ journal → after.core.value ≡ new.core → after.links.value ≡ new.links → after.viewer ≡ root.viewer
      → new.publisher ≡ mid.publisher → new.handed ≡ mid.handed → IsKept net after journal new
  kept-moved net_same server before core_is links_is viewer publisher handed = record {
    net_is = ap (λ z. z.value) net_same ∙ kept.net_is;
    sound = kept.sound;
    run = ap (λ (z : CoreParts). z.net) core ∙ put.core.net ∙ kept.run;
    number = ap (λ (z : CoreParts). z.server) core ∙ put.core.server ∙ kept.number ∙ sym server;
    begins = (cell-then, subst (λ z. RepresentsCell net after.phase z after.links.value.items cell-then) (sym core_is) (subst (λ z. RepresentsCell net after.phase new.core z.items cell-then) (sym links_is) stands-then));
    replays = λ begun is. record {
      end = begun;
      replay = replay begun;
      stands = subst (λ z. RepresentsCell net after.phase new.core z.items begun) links_is (subst (λ z. RepresentsCell net after.phase z after.links.value.items begun) core_is is);
    };
    entries = (let e = entries in omega (arith, e));
    before = take_all (count_before after) journal (let e = entries in omega (arith, e)) ∙ sym before;
    links = subst (λ z. Both IsSameLink z.items new.links.items) (sym links_is) (all-same new.links.items);
    publisher = rw (publisher, viewer) (viewer-later old.publisher mid.publisher root.viewer.value put.publisher kept.publisher);
    now = raised mid new clock held (let e = put.core.clock in let le = can.not_above in omega (arith, e, le)) low core links publisher handed;
    due = record {
      left = subst (HasNoneBelow after.phase) (sym clients-same) can.through;
      taken = subst (λ l. (s : SessionParts) (k : ℕ) (c : ℕ × Command) → Has s l → k < s.taken → slice_get s.script k ≡ Some c → c.0 ≤ after.phase) (sym clients-same)
          (λ s k c h lt e. let t = kept.due.taken s k c h lt e in let le = can.not_later in omega (arith, t, le));
    };
  }
    where
      entries : count_before after ≡ length journal
      entries = ap length before

      replay : (begun : Cell (machine_in net after.phase)) → IsReplay (machine_in net after.phase) after.phase after.server begun (entries_on real (net_at real (phased_net net) after.phase) (journal_of (drop (count_before after) journal))) begun
      replay begun = subst (λ l. IsReplay (machine_in net after.phase) after.phase after.server begun (entries_on real (net_at real (phased_net net) after.phase) (journal_of l)) begun) (sym (ap (λ n. drop n journal) entries ∙ drop-length journal)) refl
