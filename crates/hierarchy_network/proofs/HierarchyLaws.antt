-- The laws of the turns of a network of a hierarchy.
use Rattle.std.proofs.Common.{◌≡◌, ℕ, ◌-◌, ◌≤◌, ◌==◌, length, slice_get, Option, Some, None, inl, inr, refl, sym, ap, subst, ◌∙◌, arith}
use Rattle.std.specs.List.{range_with_len}
use Rattle.base.proofs.Roots.{filter-Has}
use Rattle.base_tree.specs.Tree.{links_of}
use Rattle.base_tree.proofs.Servers.{server-in}
use Rattle.law_machine.specs.Machine.{Does, Did}
use Rattle.law_machine.specs.Runs.{IsReady, IsQuiet, IsThrough, raised}
use Rattle.law_routing.specs.Net.{PhasedCommand}
use Rattle.law_routing.specs.Routing.{phase_of}
use Rattle.law_routing.specs.Step.{NextCommand}
use Rattle.law_hierarchy.specs.Step.{Hierarchy}
use Rattle.net_model.specs.Real.{real}
use Rattle.net_model.specs.declared.turn.Act.TheVariants as acts
use Rattle.net_model.specs.declared.turn.Turn.TheVariants as turns
use Rattle.net_model.specs.Parts.{NetParts}
use Rattle.net_model.specs.Nets.{topology_at, home_of, script_of}
use Rattle.hierarchy_network.specs.Core.{HierarchyParts}
use Rattle.hierarchy_turns.specs.Network.{net_of, servers_of, network_parts, moment_by, phase_in, executed_by, next_phase_by}
use Rattle.hierarchy_turns.specs.Turns.{IsMade, IsBarred}
use Rattle.hierarchy_turns.proofs.Barred.{Permits, permits}
use Rattle.hierarchy_turns.proofs.Scheduled.{hierarchy_trying, hierarchy_telling}
use Rattle.sequential_network.specs.Acted.{Servers, IsActed}
use Rattle.hierarchy_network.specs.Kept.{AreServers, IsNetwork}
use Rattle.hierarchy_network.specs.Ruling.{hierarchy_ruling, all_raised}
use Rattle.sequential_network.specs.Ruling.{RulingLaws, StaysElse, MayBegin, CanCommand, Stands}
use Rattle.hierarchy_network.specs.Stepping.{hierarchy}
use Rattle.sequential_network.proofs.Commanding.{home_low}
use Rattle.hierarchy_network.proofs.Commanding.{lives_there, left_there, command_early, command_made, command_kept, ready_now, ready_later, links_later, low_later, quiet_where, empty_where, calm_where, through_where, below_where}
use Rattle.hierarchy_network.proofs.Grown.{stays_kept}
use Rattle.hierarchy_network.proofs.DeliveredAtHome.{have_all}
use Rattle.hierarchy_network.proofs.Sessions.{session_of}
use Rattle.hierarchy_network.proofs.Standing.{can_act, clocks_low, waiting_low, waiting_of_net}
use Rattle.hierarchy_network.proofs.Starting.{servers_start, network_start}
use Rattle.hierarchy_network.proofs.Raised.{raised-servers}
use Rattle.hierarchy_network.proofs.Told.{small_outs, sent_then, last_lie, texts_then}
use Rattle.hierarchy_network.proofs.Tried.{reception_none, reception_turn, update_barred, update_none, update_turn}

module _ (net : NetParts) (phase : ℕ) (now : Servers HierarchyParts) (kept : IsNetwork net phase now) where
  stands : Stands hierarchy hierarchy_trying net phase now
  stands = record {
    sound = kept.sound;
    run = kept.run;
    legal = kept.legal;
    in_hand = kept.in_hand;
    all = kept.cores.all;
    nets = kept.cores.nets;
    able = λ server counted few. can_act net kept.sound (moment_by net now.journal).network now.cores kept.cores server counted few (clocks_low net phase now kept);
    low = waiting_low net phase now kept;
    waiting = waiting_of_net net phase now kept;
  }

  -- what a command needs that is permitted: its client is one of the net, with one left
  command_barred : (client : ℕ) → ((1 ≤ client) × (client ≤ length net.clients) → (own : ℕ) → next_phase_by net now.journal client ≡ Some own → ⊥)
      → IsBarred net now.journal (turns.Command client)
  command_barred client none entry then after permitted = go (slice_get (script_of net client) (executed_by net now.journal client)) refl
    where
      p : Permits net (moment_by net now.journal) (home_of net client, Did (NextCommand client))
      p = permits net (moment_by net now.journal) (home_of net client, Did (NextCommand client)) entry then after permitted

      within : (1 ≤ client) × (client ≤ length net.clients)
      within = server-in (length net.clients) client (filter-Has (λ c. home_of net c == home_of net client) client (range_with_len 1 (length net.clients)) p.needs.1).0

      go : (o : Option (PhasedCommand real)) → slice_get (script_of net client) (executed_by net now.journal client) ≡ o → ⊥
      go (Some x) e = none within x.phase (ap phase_in e)
      go None e = at (subst (λ z. IsReady (servers_of net) (moment_by net now.journal).network (moment_by net now.journal).phase z p.found p.own) (ap (phase_of real (net_of net)) e) p.ready)
        where
          none-some : {x : PhasedCommand real} → ◌≡◌ {A = Option (PhasedCommand real)} None (Some x) → ⊥
          none-some q = cc

          at : IsReady (servers_of net) (moment_by net now.journal).network (moment_by net now.journal).phase (Some 0) p.found p.own → ⊥
          at (a, inl (b, same)) = none-some (sym e ∙ ap (λ (z : Hierarchy real (net_of net)). slice_get (script_of net client) ((z.state (home_of net client)).done client)) same ∙ p.needs.2.1)
          at (a, inr (l, t, q, g)) = omega (arith, l)

  command_soon : (client own : ℕ) → next_phase_by net now.journal client ≡ Some own → (phase ≡ own → ⊥) → (MayBegin hierarchy hierarchy_trying net phase own now → ⊥)
      → IsBarred net now.journal (turns.Command client)
  command_soon client own next apart never = command_early net phase now kept client own next apart (λ later through quiet. never (record {
    later = later;
    empty = empty_where net phase now kept quiet;
    calm = calm_where net phase now kept quiet;
    through = λ client a b. below_where net phase now kept own through client (a, b);
  }))

-- the first command of a later phase
module _ (net : NetParts) (last own : ℕ) (old now : Servers HierarchyParts) (kept : IsNetwork net last old) (may : MayBegin hierarchy hierarchy_trying net last own old)
    (begins : now.cores ≡ all_raised old.cores) where
  abbrev found : Hierarchy real (net_of net)
  found = raised (servers_of net) (moment_by net old.journal).network

  quiet : IsQuiet (servers_of net) (moment_by net old.journal).network
  quiet = quiet_where net last old kept may.empty may.calm

  through : IsThrough (servers_of net) (moment_by net old.journal).network own
  through = through_where net last old kept own may.through

  servers : AreServers net found now.cores
  servers = subst (AreServers net found) (sym begins) (raised-servers net (moment_by net old.journal).network old.cores kept.cores)

  begun_able : (client : ℕ) → (1 ≤ client) × (client ≤ length net.clients) → next_phase_by net old.journal client ≡ Some own
      → CanCommand hierarchy net client (links_of (topology_at net 0) (home_of net client)) now.cores
  begun_able client within next =
      let low = home_low net kept.sound client in
      record {
        able = can_act net kept.sound found now.cores servers (home_of net client) low.0 low.1 (low_later net last own old kept may.later quiet through);
        lives = lives_there net kept.sound found now.cores servers client within;
        left = left_there net kept.sound found now.cores servers client own next;
      }

  begun_turn : (new : Servers HierarchyParts) → StaysElse old now → (client : ℕ) → next_phase_by net old.journal client ≡ Some own
      → IsActed hierarchy (home_of net client - 1) (Does (NextCommand client)) (acts.Command client) now new
      → IsMade (turns.Command client) (network_parts net old.journal) (network_parts net new.journal) × IsNetwork net own new
  begun_turn new others client next acted =
      let ready = ready_later net last own old kept may.later quiet through in
      let links = links_later net last own old kept may.later quiet through now.messages others.messages in (
        command_made net last old kept client new now found own next ready servers links others.run others.journal acted,
        command_kept net last old kept client new now found own next ready servers links others.run others.journal acted,
      )

pub hierarchy_laws : RulingLaws hierarchy hierarchy_trying hierarchy_telling hierarchy_ruling
hierarchy_laws = record {
  next_is = λ net journal client. refl;
  starts = λ net sound now run journal empty all first. network_start net sound now run journal empty (servers_start net now.cores all first);
  stands = stands;
  stays = λ net phase old new kept same. stays_kept net phase old new kept same.run same.cores same.messages same.journal;
  session = session_of;
  inboxes = have_all;
  take_none = λ net phase now kept server from none. (refl, reception_none net phase now now kept server from none);
  receive_turn = λ net phase old new kept server from counted answer acted none same.
      let tells = reception_turn net phase old new kept server from counted answer acted none same in (tells.turned, tells.kept_on);
  update_none = λ net phase now kept server none. (refl, update_barred net phase now now kept server (λ a e. none a));
  update_calm = λ net phase now kept server core counted at empty. (refl, update_none net phase now now kept server core counted at empty);
  update_turn = update_turn;
  command_none = λ net phase now kept client none. (refl, command_barred net phase now kept client none);
  command_early = λ net phase now kept client own next apart never. (refl, command_soon net phase now kept client own next apart never);
  command_left = λ net phase now kept client own next. left_there net kept.sound (moment_by net now.journal).network now.cores kept.cores client own next;
  command_turn = λ net phase old new kept client next acted. (
    command_made net phase old kept client new old (moment_by net old.journal).network phase next (ready_now net phase old kept) kept.cores kept.links refl refl acted,
    command_kept net phase old kept client new old (moment_by net old.journal).network phase next (ready_now net phase old kept) kept.cores kept.links refl refl acted,
  );
  begun_able = begun_able;
  begun_turn = λ net last own old now new kept may begins. begun_turn net last own old now kept may begins new;
  last_small = small_outs;
  last_sent = λ net phase now kept before entry is. (
    sent_then net phase now kept before entry is,
    last_lie net phase now kept before entry is,
    texts_then net phase now kept before entry is,
  );
}
