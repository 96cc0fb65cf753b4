-- What a turn finds on the lanes, and what it leaves.
use Rattle.std.proofs.Common.{◌≡◌, ℕ, ◌<◌, ◌≤◌, ◌^◌, List, [], ◌∷◌, ◌++◌, length, map, Vec, Global, sym, ap, subst, ◌∙◌, arith}
use Rattle.std.proofs.lemmas.List.{length-map}
use Rattle.base.specs.Sets.{Has}
use Rattle.base.specs.Numbers.{IsDistinct}
use Rattle.law_machine.specs.Machine.{Input, Does, Receives, Did, Received}
use Rattle.law_routing.specs.Server.{Message}
use Rattle.law_routing.specs.Step.{Task, TableUpdate}
use Rattle.net_model.specs.Real.{real}
use Rattle.server_message.specs.Parts.{SendingParts}
use Rattle.thread_cell.specs.Heard.{heard, heard_stamped}
use Rattle.server_message.specs.declared.stamped.StampedLoad.{StampedLoad}
use Rattle.filter_text.specs.MessageText.{Each}
use Rattle.thread_lane.specs.declared.putting.LaneIn.{LaneIn}
use Rattle.thread_lane.specs.declared.taking.LaneOut.{LaneOut}
use Rattle.thread_lane.specs.Lane.{put_list, coming_list, spare}
use Rattle.net_model.specs.declared.turn.Act.{Act as EntryAct}
use Rattle.net_model.specs.Parts.{NetParts, EntryParts, entry_parts}
use Rattle.net_model.specs.Meaning.{act_of}
use Rattle.server_core.specs.Core.{CoreParts}
use Rattle.server_core.specs.Step.{MakesStep}
use Rattle.thread_versions.specs.Ends.{pending, installed, IsSamePublisher}
use Rattle.thread_cell.specs.declared.held.ServerInHand.{ServerInHand}
use Rattle.thread_cell.specs.declared.link.Link.{Link}
use Rattle.thread_cell.specs.Acted.{Represented}
use Rattle.thread_cell.specs.Kept.{IsSomeServer}
use Rattle.thread_cell.specs.Links.{Both, IsSameLink, IsUnmoved, IsRoomed, IsFlushed}
use Rattle.thread_cell.specs.LaneReceiving.{IsItemReceived, IsInSight}
use Rattle.thread_cell.specs.LaneMessages.{AreInOrder, IsGiven, IsMoved, AreOfNet, only_from}
use Rattle.thread_cell.specs.Cell.{IsServerInHand, IsInstalledBy}
use Rattle.thread_cell.specs.Turns.{IsCellTurn, IsStill, IsOfPhase}
use Rattle.thread_cell.proofs.Walks.{both-map, both-each, both-comp, each-after}
use Rattle.thread_cell.proofs.HandAll.{names, tos}
use Rattle.thread_cell.proofs.Going.{going-net, going-order}
use Rattle.thread_cell.proofs.Places.{both-before}
use Rattle.thread_cell.proofs.Unmoved.{unmoved-roomed}
use Rattle.thread_cell.proofs.PutAndReceived.{names-same, moved-given, moved-taken, moved-after, few-after}

same-of : (xs ys : List Link) → Both IsUnmoved xs ys → Both IsSameLink xs ys
same-of xs ys u = both-map IsUnmoved IsSameLink (λ x y r. r.same) xs ys u

-- lists of one number of names are as long
pub as-long : (xs ys : List Link) → names ys ≡ names xs → length ys ≡ length xs
as-long xs ys e = sym (length-map ys (λ link. link.neighbour)) ∙ ap length e ∙ length-map xs (λ link. link.neighbour)

module _ (core next : CoreParts) (some : IsSomeServer core) (input : Input Task (Message real)) (taken stamp : ℕ) (sent : List SendingParts) (step : MakesStep input taken core next stamp sent) where
  pub sends-of : AreOfNet core.net sent
  sends-of = going-net some.0 some.1 some.2 core next some.3 input sent (step.step some.0 some.2 some.3)

  pub sends-in-order : (links : List Link) → names links ≡ core.control.links → AreInOrder (tos sent) (names links)
  sends-in-order links e = subst (AreInOrder (tos sent)) (sym e) (going-order some.0 some.1 some.2 core next some.3 input sent (step.step some.0 some.2 some.3))

pub some-apart : (core : CoreParts) → IsSomeServer core → IsDistinct core.control.links
some-apart core (net, laws, state, stands) = subst IsDistinct stands.control.links (laws.tree.single core.server)

module _ (old : ServerInHand) (held : IsServerInHand old) (links : List Link) (u : Both IsUnmoved old.links.items links) where
  pub names-left : names links ≡ names old.links.items
  names-left = names-same old.links.items links (same-of old.links.items links u)

  pub neighbours-left : names links ≡ old.core.control.links
  neighbours-left = names-left ∙ held.neighbours

  -- there is room on the lanes
  pub room-left : Each (λ link. length (put_list link.enter) < 2 ^ 63) links
  room-left = each-after IsUnmoved (λ link. length (put_list link.enter) ≤ old.core.clock) (λ link. length (put_list link.enter) < 2 ^ 63)
      (λ x y r le. let q : length (put_list y.enter) ≡ length (put_list x.enter) = ap (λ (l : List StampedLoad). length l) r.put in let low = held.low in omega arith) old.links.items links u held.few

  pub distinct-left : IsSomeServer old.core → IsDistinct (names links)
  distinct-left some = subst IsDistinct (sym neighbours-left) (some-apart old.core some)

  pub long-left : length links ≡ length old.links.items
  long-left = as-long old.links.items links names-left

  module _ (from : ℕ) (item : StampedLoad) (later : List Link) (t : Both (IsItemReceived from item) links later) where
    -- what a reception leaves
    pub spare-taken : Each (λ link. 0 < spare link.enter) links → Each (λ link. 0 < spare link.enter) later
    spare-taken e = each-after (IsItemReceived from item) (λ link. 0 < spare link.enter) (λ link. 0 < spare link.enter) (λ x y r p. subst (λ (a : LaneIn StampedLoad). 0 < spare a) (sym r.enter) p) links later t e

    pub room-taken : Each (λ link. length (put_list link.enter) < 2 ^ 63) later
    room-taken = each-after (IsItemReceived from item) (λ link. length (put_list link.enter) < 2 ^ 63) (λ link. length (put_list link.enter) < 2 ^ 63)
        (λ x y r p. subst (λ (a : LaneIn StampedLoad). length (put_list a) < 2 ^ 63) (sym r.enter) p) links later t room-left

    pub names-taken : names later ≡ names links
    names-taken = names-same links later (both-map (IsItemReceived from item) IsSameLink (λ x y r. r.same) links later t)

-- what is in hand after a step
pub held-after : (old new : ServerInHand) (input : Input Task (Message real)) (taken stamp : ℕ) (sent : List SendingParts) (net : NetParts) (moved : ℕ → List Represented) → IsServerInHand old → MakesStep input taken old.core new.core stamp sent → stamp < 2 ^ 62
    → Both (IsMoved net stamp sent moved) old.links.items new.links.items → IsInstalledBy new.publisher new.core → pending new.publisher ≡ installed new.publisher ++ new.handed.items → IsServerInHand new
held-after old new input taken stamp sent net moved held step low links shown handed = record {
  low = subst (λ z. z < 2 ^ 62) (sym step.clock_is) low;
  neighbours = names-same old.links.items new.links.items (both-map (IsMoved net stamp sent moved) IsSameLink (λ x y r. r.same) old.links.items new.links.items links) ∙ held.neighbours ∙ sym step.same_links;
  few = each-after (IsMoved net stamp sent moved) (λ link. length (put_list link.enter) ≤ old.core.clock) (λ link. length (put_list link.enter) ≤ new.core.clock)
      (λ x y r le. subst (λ z. length (put_list y.enter) ≤ z) (sym step.clock_is) (few-after net stamp old.core.clock sent moved x y more r le)) old.links.items new.links.items links held.few;
  shown = shown;
  handed = handed;
}
  where
    more : old.core.clock < stamp
    more = let e = step.stamp_is in omega arith

-- what is in hand after nothing was done
pub held-still : (old new : ServerInHand) → IsServerInHand old → new.core ≡ old.core → Both IsUnmoved old.links.items new.links.items → IsInstalledBy new.publisher new.core → pending new.publisher ≡ installed new.publisher ++ new.handed.items → IsServerInHand new
held-still old new held core links shown handed = record {
  low = subst (λ (z : CoreParts). z.clock < 2 ^ 62) (sym core) held.low;
  neighbours = names-same old.links.items new.links.items (same-of old.links.items new.links.items links) ∙ held.neighbours ∙ ap (λ (z : CoreParts). z.control.links) (sym core);
  few = each-after IsUnmoved (λ link. length (put_list link.enter) ≤ old.core.clock) (λ link. length (put_list link.enter) ≤ new.core.clock)
      (λ x y r le. let q : length (put_list y.enter) ≡ length (put_list x.enter) = ap (λ (l : List StampedLoad). length l) r.put in let c : new.core.clock ≡ old.core.clock = ap (λ (z : CoreParts). z.clock) core in omega arith)
      old.links.items new.links.items links held.few;
  shown = shown;
  handed = handed;
}

pub still : (old new : ServerInHand) (before after : List EntryParts) → new.core ≡ old.core → Both IsUnmoved old.links.items new.links.items → after ≡ before → IsSamePublisher old.publisher new.publisher → installed new.publisher ≡ installed old.publisher → IsStill old new before after
still old new before after core links journal publisher shown = record {
  core = core;
  links = links;
  journal = journal;
  publisher = publisher;
  installed = shown;
}

-- what a step leaves on the lanes, where it takes nothing
pub did-links : (xs ys zs : List Link) (net : NetParts) (stamp : ℕ) (sent : List SendingParts) → Both IsUnmoved xs ys → Both (IsGiven net stamp sent) ys zs → Both (IsMoved net stamp sent (λ n. [])) xs zs
did-links xs ys zs net stamp sent u g = both-comp IsUnmoved (IsGiven net stamp sent) (IsMoved net stamp sent (λ n. [])) (moved-given net stamp sent) xs ys zs u g

-- one entry more, by a server's own number
entry-after : (before mid after : List EntryParts) (server own stamp : ℕ) (act : EntryAct) (outs : List ℕ) → own ≡ server → mid ≡ before → after ≡ mid ++ entry_parts stamp server act outs ∷ [] → after ≡ before ++ entry_parts stamp own act outs ∷ []
entry-after before mid after server own stamp act outs number journal entry =
    entry ∙ ap (λ z. z ++ entry_parts stamp server act outs ∷ []) journal ∙ ap (λ z. before ++ entry_parts stamp z act outs ∷ []) (sym number)

-- a task was made
pub did : (phase : ℕ) (task : Task) (act : EntryAct) (old new : ServerInHand) (links : List Link) (before mid after : List EntryParts) (server stamp : ℕ) (sent : List SendingParts) → Did task ≡ act_of act → IsOfPhase phase old.core (Does task)
    → MakesStep (Does task) 0 old.core new.core stamp sent → Both IsUnmoved old.links.items links → Both (IsGiven old.core.net stamp sent) links new.links.items
    → old.core.server ≡ server → mid ≡ before → after ≡ mid ++ entry_parts stamp server act (map (λ s. s.to) sent) ∷ [] → IsSamePublisher old.publisher new.publisher → IsCellTurn phase (Does task) act old new before after
did phase task act old new links before mid after server stamp sent told due step u g number journal entry publisher = record {
  told = told;
  due = due;
  stamp = stamp;
  sent = sent;
  step = step;
  entry = entry-after before mid after server old.core.server stamp act (map (λ s. s.to) sent) number journal entry;
  links = did-links old.links.items links new.links.items old.core.net stamp sent u g;
  flushed = both-each (IsGiven old.core.net stamp sent) IsFlushed (λ x y r. r.flushed) links new.links.items g;
  publisher = publisher;
}

-- and where it takes one
pub took-links : (xs ys ws zs : List Link) (from : ℕ) (item : StampedLoad) (net : NetParts) (stamp : ℕ) (sent : List SendingParts) → Both IsUnmoved xs ys → Both (IsItemReceived from item) ys ws → Both (IsGiven net stamp sent) ws zs
    → Both (IsMoved net stamp sent (only_from from (heard_stamped net item))) xs zs
took-links xs ys ws zs from item net stamp sent u t g =
    both-comp IsUnmoved (IsMoved net stamp sent (only_from from (heard_stamped net item))) (IsMoved net stamp sent (only_from from (heard_stamped net item))) (moved-after net stamp sent (only_from from (heard_stamped net item))) xs ys zs u
    (both-comp (IsItemReceived from item) (IsGiven net stamp sent) (IsMoved net stamp sent (only_from from (heard_stamped net item))) (moved-taken net stamp sent from item) ys ws zs t g)

-- a message was received
pub took : (phase from : ℕ) (act : EntryAct) (old new : ServerInHand) (links middle : List Link) (item : StampedLoad) (before mid after : List EntryParts) (server stamp : ℕ) (sent : List SendingParts) → Received from ≡ act_of act
    → MakesStep (Receives from (heard old.core.net item.load)) item.stamp old.core new.core stamp sent → Both IsUnmoved old.links.items links → Both (IsItemReceived from item) links middle → Both (IsGiven old.core.net stamp sent) middle new.links.items
    → old.core.server ≡ server → mid ≡ before → after ≡ mid ++ entry_parts stamp server act (map (λ s. s.to) sent) ∷ [] → IsSamePublisher old.publisher new.publisher → IsCellTurn phase (Receives from (heard_stamped old.core.net item)) act old new before after
took phase from act old new links middle item before mid after server stamp sent told step u t g number journal entry publisher = record {
  told = told;
  due = tt;
  stamp = stamp;
  sent = sent;
  step = step;
  entry = entry-after before mid after server old.core.server stamp act (map (λ s. s.to) sent) number journal entry;
  links = took-links old.links.items links middle new.links.items from item old.core.net stamp sent u t g;
  flushed = both-each (IsGiven old.core.net stamp sent) IsFlushed (λ x y r. r.flushed) middle new.links.items g;
  publisher = publisher;
}

-- what is in sight stays so
pub sight-roomed : (place : ℕ) (xs zs : List Link) → Both IsRoomed xs zs → IsInSight place xs → IsInSight place zs
sight-roomed place xs zs r seen z e =
    let x = both-before IsRoomed place xs zs z r e in
    subst (λ (b : LaneOut StampedLoad). 0 < length (coming_list b)) (sym x.2.leave) (seen x.0 x.1)

-- lanes that a table update leaves alone after room was made
pub unmoved-kept : (old roomed later : Vec Link Global) → Both IsRoomed old.items roomed.items → later ≡ roomed → Both IsUnmoved old.items later.items
unmoved-kept old roomed later room same = subst (λ (l : Vec Link Global). Both IsUnmoved old.items l.items) (sym same) (unmoved-roomed old.items roomed.items room)

-- a step that sends nothing
pub silent-net : (net : NetParts) (sent : List SendingParts) → sent ≡ [] → AreOfNet net sent
silent-net net sent none s h = absurd (subst (Has s) none h)

pub installed-silent : (core next : CoreParts) (stamp own : ℕ) (sent : List SendingParts) → own ≡ stamp → sent ≡ [] → MakesStep (Does TableUpdate) 0 core next stamp [] → MakesStep (Does TableUpdate) 0 core next own sent
installed-silent core next stamp own sent same none step =
    subst (λ s. MakesStep (Does TableUpdate) 0 core next own s) (sym none) (subst (λ n. MakesStep (Does TableUpdate) 0 core next n []) (sym same) step)
