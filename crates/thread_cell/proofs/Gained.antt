-- A reception: a look finds an item, room is made, and that item is taken.
use Rattle.std.proofs.Common.{◌≡◌, ℕ, max, ◌<◌, ◌^◌, List, [], ◌∷◌, ◌++◌, length, map, get_or, Some, Bool, true, slice_get, refl, sym, ap, subst, ◌∙◌, arith}
use Rattle.std.proofs.lemmas.Option.{same_Some}
use Rattle.base.specs.Sets.{Has}
use Rattle.base.specs.Numbers.{IsDistinct}
use Rattle.law_machine.specs.Machine.{Receives}
use Rattle.net_model.specs.declared.turn.Act.TheVariants as acts
use Rattle.net_model.specs.Parts.{EntryParts, entry_parts}
use Rattle.server_message.specs.Parts.{SendingParts}
use Rattle.thread_cell.specs.Heard.{heard, heard_stamped}
use Rattle.server_message.specs.declared.load.Load.{Load}
use Rattle.server_message.specs.declared.stamped.StampedLoad.{StampedLoad}
use Rattle.filter_text.specs.MessageText.{Each}
use Rattle.thread_lane.specs.Lane.{put_list, spare}
use Rattle.server_core.specs.Step.{MakesStep, last_stamp}
use Rattle.thread_versions.specs.Ends.{pending, installed, IsSamePublisher}
use Rattle.thread_cell.specs.declared.held.ServerInHand.{ServerInHand}
use Rattle.thread_cell.specs.declared.link.Link.{Link}
use Rattle.thread_cell.specs.Kept.{IsSomeServer}
use Rattle.thread_cell.specs.Cell.{IsServerInHand, IsInstalledBy}
use Rattle.thread_cell.specs.Links.{Both, IsUnmoved, IsRoomed}
use Rattle.thread_cell.specs.LaneReceiving.{ComesNext, IsNextAt, IsItemReceived, IsLookedAt, ReceivesAt}
use Rattle.thread_cell.specs.LaneMessages.{AreOfNet, IsGiven}
use Rattle.thread_cell.specs.Turns.{IsReceptionFrom, IsWornAt}
use Rattle.thread_cell.proofs.HandAll.{names}
use Rattle.thread_cell.proofs.Places.{both-before, found-name}
use Rattle.thread_cell.proofs.Unmoved.{unmoved-all, unmoved-roomed}
use Rattle.thread_cell.proofs.Turning.{held-after, took, took-links, room-taken, spare-taken, names-taken, distinct-left, neighbours-left, long-left, as-long, sends-of}
use Rattle.thread_cell.proofs.Sooner.{reception-from, has-seen, seen-then, looked-seen}
use Rattle.base.proofs.Lists.{get-get_or}

module _ (old : ServerInHand) (held : IsServerInHand old) (place : ℕ) (less : place < length old.links.items) (seen roomed : List Link) (look : Both IsUnmoved old.links.items seen) (room : Both IsRoomed seen roomed) where
  -- nothing is put or taken yet
  pub left-yet : Both IsUnmoved old.links.items roomed
  left-yet = unmoved-all old.links.items seen roomed look (unmoved-roomed seen roomed room)

  pub place-yet : place < length roomed
  place-yet = let n = long-left old held roomed left-yet in omega (arith, n, less)

  module _ (d : Link) (at : d ≡ get_or roomed place d) where
    there : slice_get roomed place ≡ Some d
    there = get-get_or roomed place d place-yet at

    pub from-neighbour : Has d.neighbour old.core.control.links
    from-neighbour = subst (Has d.neighbour) (neighbours-left old held roomed left-yet) (found-name place roomed d there)

    module _ (item : StampedLoad) (next : IsNextAt place item roomed) where
      here : ComesNext item d
      here = subst (ComesNext item) (same_Some next.0 d (sym next.1 ∙ there)) next.2

      pub worn-yet : (stamp taken : ℕ) → taken ≡ item.stamp → max old.core.clock taken ≡ last_stamp → stamp ≡ last_stamp → IsWornAt place old.core.clock stamp roomed
      worn-yet stamp taken same last told = record { link = d; there = there; item = item; next = here; last = ap (λ n. max old.core.clock n) (sym same) ∙ last; told = told }

      module _ (later : List Link) (takes : ReceivesAt place item roomed later) where
        gained : Both (IsItemReceived d.neighbour item) roomed later
        gained = takes d there here

        pub spare-gained : Each (λ link. 0 < spare link.enter) roomed → Each (λ link. 0 < spare link.enter) later
        spare-gained e = spare-taken old held roomed left-yet d.neighbour item later gained e

        pub few-gained : Each (λ link. length (put_list link.enter) < 2 ^ 63) later
        few-gained = room-taken old held roomed left-yet d.neighbour item later gained

        names-gained : names later ≡ names roomed
        names-gained = names-taken old held roomed left-yet d.neighbour item later gained

        pub distinct-gained : IsSomeServer old.core → IsDistinct (names later)
        distinct-gained some = subst IsDistinct (sym names-gained) (distinct-left old held roomed left-yet some)

        pub neighbours-gained : names later ≡ old.core.control.links
        neighbours-gained = names-gained ∙ neighbours-left old held roomed left-yet

        pub long-gained : length later ≡ length seen
        long-gained =
            let n = long-left old held roomed left-yet in
            let k = long-left old held seen look in
            let m = as-long roomed later names-gained in
            omega (arith, n, k, m)

        module _ (new : ServerInHand) (some : IsSomeServer old.core) (load : Load) (stamped : ℕ) (said-load : load ≡ item.load) (said-stamp : stamped ≡ item.stamp) (stamp : ℕ) (sent : List SendingParts)
            (step : MakesStep (Receives d.neighbour (heard old.core.net load)) stamped old.core new.core stamp sent) where
          of-net : AreOfNet old.core.net sent
          of-net = sends-of old.core new.core some (Receives d.neighbour (heard old.core.net load)) stamped stamp sent step

          stepped : MakesStep (Receives d.neighbour (heard old.core.net item.load)) item.stamp old.core new.core stamp sent
          stepped = subst (λ l. MakesStep (Receives d.neighbour (heard old.core.net l)) item.stamp old.core new.core stamp sent) said-load
              (subst (λ t. MakesStep (Receives d.neighbour (heard old.core.net load)) t old.core new.core stamp sent) said-stamp step)

          module _ (gives : AreOfNet old.core.net sent → Both (IsGiven old.core.net stamp sent) later new.links.items) where
            given : Both (IsGiven old.core.net stamp sent) later new.links.items
            given = gives of-net

            pub held-gained : stamp < 2 ^ 62 → IsInstalledBy new.publisher new.core → pending new.publisher ≡ installed new.publisher ++ new.handed.items → IsServerInHand new
            held-gained low shown handed = held-after old new (Receives d.neighbour (heard old.core.net item.load)) item.stamp stamp sent old.core.net _ held stepped low
                (took-links old.links.items roomed later new.links.items d.neighbour item old.core.net stamp sent left-yet gained given) shown handed

            pub reception-gained : (phase : ℕ) (before mid after : List EntryParts) (server : ℕ) (sees : Bool) → IsLookedAt place old.links.items seen sees → sees ≡ true → old.core.server ≡ server → mid ≡ before
                → after ≡ mid ++ entry_parts stamp server (acts.Receive d.neighbour) (map (λ s. s.to) sent) ∷ [] → IsSamePublisher old.publisher new.publisher
                → IsReceptionFrom phase place (heard_stamped old.core.net item) old new before after
            reception-gained phase before mid after server sees looked true-is number journal entry publisher =
                let first = both-before IsUnmoved place old.links.items roomed d left-yet there in
                reception-from phase place d.neighbour first.0 (heard_stamped old.core.net item) old new before after first.1 first.2.same.neighbour
                (took phase d.neighbour (acts.Receive d.neighbour) old new roomed later item before mid after server stamp sent refl stepped left-yet gained given number journal entry publisher)
                (seen-then place old.links.items seen new.links.items (looked-seen place old.links.items seen sees looked true-is) look
                (has-seen place d.neighbour item old.core.net stamp sent seen roomed later new.links.items room gained given))
