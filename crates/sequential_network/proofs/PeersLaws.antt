-- The laws of the turns of a network of peers.
use Rattle.std.proofs.Common.{◌≡◌, ℕ, suc, ◌-◌, ◌≤◌, ◌==◌, [], length, slice_get, Option, Some, None, inl, inr, refl, sym, ap, subst, ◌∙◌, arith}
use Rattle.std.specs.List.{range_with_len}
use Rattle.base.proofs.Roots.{filter-Has}
use Rattle.base_tree.specs.Tree.{links_of}
use Rattle.base_tree.proofs.Servers.{server-in}
use Rattle.law_machine.specs.Machine.{Does, Did}
use Rattle.law_routing.specs.Net.{PhasedCommand}
use Rattle.law_routing.specs.Routing.{phase_of}
use Rattle.law_routing.specs.Step.{NextCommand}
use Rattle.law_phases.specs.Trees.{State, net_at, IsQuietOn, IsThroughOn}
use Rattle.law_phases.specs.Runs.{ActFinds}
use Rattle.law_phases.specs.Moments.{begun}
use Rattle.net_model.specs.Real.{real}
use Rattle.net_model.specs.declared.turn.Act.TheVariants as acts
use Rattle.net_model.specs.declared.turn.Turn.TheVariants as turns
use Rattle.net_model.specs.Parts.{NetParts}
use Rattle.net_model.specs.Nets.{phased_net, first_tree, topology_at, home_of, script_of}
use Rattle.net_model.specs.Sound.{IsSound}
use Rattle.server_core.specs.Core.{CoreParts}
use Rattle.net_turns.specs.Network.{network_parts, moment_by, phase_in, executed_by, next_phase_by}
use Rattle.net_turns.specs.Turns.{IsMade, IsBarred}
use Rattle.net_turns.proofs.Barred.{Permits, permits}
use Rattle.net_turns.proofs.Peers.{peers_trying, peers_telling}
use Rattle.sequential_network.specs.Acted.{Servers, IsActed}
use Rattle.sequential_network.specs.Kept.{AreServers, IsFirst, IsNetwork}
use Rattle.sequential_network.specs.PeersRuling.{peers_ruling, IsBegun}
use Rattle.sequential_network.specs.Ruling.{RulingLaws, StaysElse, MayBegin, CanCommand, Stands}
use Rattle.sequential_network.specs.Stepping.{peers}
use Rattle.sequential_network.proofs.Commanding.{home_low, lives_there, left_there, command_early, command_made, command_kept, ready_now, ready_later, rests_now, links_later, low_later, done_later, quiet_where, empty_where, calm_where, through_where, below_where}
use Rattle.sequential_network.proofs.Grown.{stays_kept}
use Rattle.sequential_network.proofs.TakeInboxes.{have_all}
use Rattle.sequential_network.proofs.Sessions.{session_of}
use Rattle.sequential_network.proofs.Standing.{can_act, clocks_low, waiting_low, waiting_of_net}
use Rattle.sequential_network.proofs.Starting.{servers_start}
use Rattle.sequential_network.proofs.Told.{small_outs, sent_then, last_lie, texts_then}
use Rattle.sequential_network.proofs.Tried.{reception_none, reception_turn, update_barred, update_none, update_turn}

-- a network before its first turn
starts : (net : NetParts) → IsSound net → (now : Servers CoreParts) → now.run ≡ net → now.journal ≡ [] → ((a b : ℕ) → now.messages a b ≡ [])
    → length now.cores ≡ (first_tree net.trees).count → ((place : ℕ) (core : CoreParts) → slice_get now.cores place ≡ Some core → IsFirst net (suc place) core)
    → IsNetwork net 0 now
starts net sound now run journal empty all first = subst (λ z. IsNetwork net 0 (record { run = now.run; cores = now.cores; messages = now.messages; journal = z })) (sym journal) (record {
  sound = sound;
  run = run;
  legal = (refl, refl);
  in_hand = refl;
  cores = servers_start net now.cores all first;
  links = record { messages_are = empty; within = λ a b. omega arith };
})

module _ (net : NetParts) (phase : ℕ) (now : Servers CoreParts) (kept : IsNetwork net phase now) where
  stands : Stands peers peers_trying net phase now
  stands = record {
    sound = kept.sound;
    run = kept.run;
    legal = kept.legal;
    in_hand = kept.in_hand;
    all = kept.cores.all;
    nets = kept.cores.nets;
    able = λ server counted few. can_act net kept.sound phase (moment_by net now.journal).state now.cores kept.cores server counted few (clocks_low net phase now kept);
    low = waiting_low net phase now kept;
    waiting = waiting_of_net net phase now kept;
  }

  -- what a command needs that is permitted: its client is one of the net, with one left
  command_barred : (client : ℕ) → ((1 ≤ client) × (client ≤ length net.clients) → (own : ℕ) → next_phase_by net now.journal client ≡ Some own → ⊥)
      → IsBarred net now.journal (turns.Command client)
  command_barred client none entry after permitted = go (slice_get (script_of net client) (executed_by net now.journal client)) refl
    where
      p : Permits net (moment_by net now.journal) (home_of net client, Did (NextCommand client))
      p = permits net (moment_by net now.journal) (home_of net client, Did (NextCommand client)) entry after permitted

      within : (1 ≤ client) × (client ≤ length net.clients)
      within = server-in (length net.clients) client (filter-Has (λ c. home_of net c == home_of net client) client (range_with_len 1 (length net.clients)) p.needs.1).0

      go : (o : Option (PhasedCommand real)) → slice_get (script_of net client) (executed_by net now.journal client) ≡ o → ⊥
      go (Some x) e = none within x.phase (ap phase_in e)
      go None e = at (subst (λ z. ActFinds real (phased_net net) (moment_by net now.journal).state (moment_by net now.journal).phase z p.found.state p.found.phase)
          (ap (phase_of real (net_at real (phased_net net) (moment_by net now.journal).phase)) e) p.ready)
        where
          none-some : {x : PhasedCommand real} → ◌≡◌ {A = Option (PhasedCommand real)} None (Some x) → ⊥
          none-some q = cc

          at : ActFinds real (phased_net net) (moment_by net now.journal).state (moment_by net now.journal).phase (Some 0) p.found.state p.found.phase → ⊥
          at (a, inl (b, same)) = none-some (sym e ∙ ap (λ (z : State real). slice_get (script_of net client) ((z.state (home_of net client)).done client)) same ∙ p.needs.2.1)
          at (a, inr (l, t, q, g)) = omega (arith, l)

  command_soon : (client own : ℕ) → next_phase_by net now.journal client ≡ Some own → (phase ≡ own → ⊥) → (MayBegin peers peers_trying net phase own now → ⊥)
      → IsBarred net now.journal (turns.Command client)
  command_soon client own next apart never = command_early net phase now kept client own next apart (λ later through quiet. never (record {
    later = later;
    empty = empty_where net phase now kept quiet;
    calm = calm_where net phase now kept quiet;
    through = λ client a b. below_where net phase now kept own through client (a, b);
  }))

-- the first command of a later phase
module _ (net : NetParts) (last own : ℕ) (old now : Servers CoreParts) (kept : IsNetwork net last old) (may : MayBegin peers peers_trying net last own old)
    (begins : IsBegun net last own old now) where
  abbrev found : State real
  found = begun real (phased_net net) last own (moment_by net old.journal).state

  quiet : IsQuietOn real (phased_net net) last (moment_by net old.journal).state
  quiet = quiet_where net last old kept may.empty may.calm

  through : IsThroughOn real (phased_net net) last (moment_by net old.journal).state own
  through = through_where net last old kept own may.through

  servers : AreServers net own found now.cores
  servers = begins (moment_by net old.journal).state kept.cores (rests_now net last own old kept may.later quiet through)

  begun_able : (client : ℕ) → (1 ≤ client) × (client ≤ length net.clients) → next_phase_by net old.journal client ≡ Some own
      → CanCommand peers net client (links_of (topology_at net own) (home_of net client)) now.cores
  begun_able client within next =
      let low = home_low net kept.sound client in
      record {
        able = can_act net kept.sound own found now.cores servers (home_of net client) low.0 low.1 (low_later net last own old kept may.later quiet through);
        lives = lives_there net kept.sound own found now.cores servers client within;
        left = left_there net kept.sound own found now.cores servers client own
            (ap (λ z. phase_in (slice_get (script_of net client) z)) (done_later net last own old kept may.later quiet through (home_of net client) client) ∙ next);
      }

  begun_turn : (new : Servers CoreParts) → StaysElse old now → (client : ℕ) → next_phase_by net old.journal client ≡ Some own
      → IsActed peers (home_of net client - 1) (Does (NextCommand client)) (acts.Command client) now new
      → IsMade (turns.Command client) (network_parts net old.journal) (network_parts net new.journal) × IsNetwork net own new
  begun_turn new others client next acted =
      let ready = ready_later net last own old kept may.later quiet through in
      let links = links_later net last own old kept may.later quiet through now.messages others.messages in (
        command_made net last old kept client new now found own next ready servers links others.run others.journal acted,
        command_kept net last old kept client new now found own next ready servers links others.run others.journal acted,
      )

pub peers_laws : RulingLaws peers peers_trying peers_telling peers_ruling
peers_laws = record {
  next_is = λ net journal client. refl;
  starts = starts;
  stands = stands;
  stays = λ net phase old new kept same. stays_kept net phase old new kept same.run same.cores same.messages same.journal;
  session = session_of;
  inboxes = have_all;
  take_none = λ net phase now kept server from none. (refl, reception_none net phase now now kept server from none);
  receive_turn = λ net phase old new kept server from counted answer acted none same.
      let tells = reception_turn net phase old new kept server from counted answer acted none same in (tells.turned, tells.kept_on);
  update_none = λ net phase now kept server none. (refl, update_barred net phase now now kept server (λ a e. none a));
  update_calm = λ net phase now kept server core counted at empty. (refl, update_none net phase now now kept server core counted at empty);
  update_turn = update_turn;
  command_none = λ net phase now kept client none. (refl, command_barred net phase now kept client none);
  command_early = λ net phase now kept client own next apart never. (refl, command_soon net phase now kept client own next apart never);
  command_left = λ net phase now kept client own next. left_there net kept.sound phase (moment_by net now.journal).state now.cores kept.cores client own next;
  command_turn = λ net phase old new kept client next acted. (
    command_made net phase old kept client new old (moment_by net old.journal).state phase next (ready_now net phase old kept) kept.cores kept.links refl refl acted,
    command_kept net phase old kept client new old (moment_by net old.journal).state phase next (ready_now net phase old kept) kept.cores kept.links refl refl acted,
  );
  begun_able = begun_able;
  begun_turn = λ net last own old now new kept may begins. begun_turn net last own old now kept may begins new;
  last_small = small_outs;
  last_sent = λ net phase now kept before entry is. (
    sent_then net phase now kept before entry is,
    last_lie net phase now kept before entry is,
    texts_then net phase now kept before entry is,
  );
}
