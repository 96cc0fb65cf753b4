-- What a step leaves installed: a table update installs what is held, and no other step changes it.
use Rattle.std.proofs.Common.{◌≡◌, ℕ, Bool, true, false, cond, List, [], slice_get, take, suc, ◌+◌, Option, Some, None, refl, sym, ap, subst, ◌∙◌}
use Rattle.std.proofs.lemmas.Option.{same_Some}
use Rattle.base.specs.Sets.{Has}
use Rattle.law_machine.specs.Machine.{Input, Does, Receives, Outcome}
use Rattle.law_routing.specs.Net.{Net, PhasedCommand, Command, Subscribe, Unsubscribe, Advertise, Unadvertise, Publish}
use Rattle.law_routing.specs.Server.{Message, Subs, Advs, Noticed, ServerState, is_among, interfaces}
use Rattle.law_routing.specs.Clients.{adverts_after, accepts, ordinal}
use Rattle.law_routing.specs.Step.{Task, NextCommand, TableUpdate, Work, SetsFilters, SetsAdverts, Routes, InstallsTable, Nothing, effect, command_work, message_work, next_work, work_of}
use Rattle.law_routing.proofs.Listing.{has-one}
use Rattle.law_routing.proofs.Laws.{one-has, cond-some}
use Rattle.law_routing.proofs.Working.{Served, served}
use Rattle.net_model.specs.Real.{real}
use Rattle.server_message.specs.Parts.{SendingParts}
use Rattle.server_spec.specs.Control.{subs}
use Rattle.server_core.specs.Core.{CoreParts, RepresentsServer, installed_from}
use Rattle.server_core.specs.Step.{IsServerStep}
use Rattle.std.proofs.lemmas.Bool.{true≢false}

module _ (net : Net real) where
  -- works that install nothing
  abbrev pub IsNoUpdate : Work real → Type 0
  IsNoUpdate (SetsFilters i fs) = Unit {0}
  IsNoUpdate (SetsAdverts i ads) = Unit {0}
  IsNoUpdate (Routes i p o n) = Unit {0}
  IsNoUpdate InstallsTable = ⊥
  IsNoUpdate Nothing = Unit {0}

  keeps : (server : ℕ) (state : ServerState real) (work : Work real) → IsNoUpdate work → (effect real net server state work).state.installed ≡ state.installed
  keeps server state (SetsFilters i fs) n = refl
  keeps server state (SetsAdverts i ads) n = refl
  keeps server state (Routes i p o m) n = refl
  keeps server state InstallsTable n = elim n [ ]
  keeps server state Nothing n = refl

  message-none : (state : ServerState real) (from : ℕ) (m : Message real) → IsNoUpdate (message_work real net state from m)
  message-none state from (Subs out add) = tt
  message-none state from (Advs out add) = tt
  message-none state from (Noticed p o n) = tt

  either : (b : Bool) (work : Work real) → IsNoUpdate work → IsNoUpdate (cond b work Nothing)
  either true work n = n
  either false work n = tt

  command-none : (client count : ℕ) (c : Command real) → IsNoUpdate (command_work real net client count c)
  command-none client count (Subscribe f) = tt
  command-none client count (Unsubscribe f) = tt
  command-none client count (Advertise a) = either net.adverts (SetsAdverts (64 + client) (adverts_after real [] (take (suc count) (net.script client)))) tt
  command-none client count (Unadvertise a) = either net.adverts (SetsAdverts (64 + client) (adverts_after real [] (take (suc count) (net.script client)))) tt
  command-none client count (Publish n) =
      either (accepts real net (adverts_after real [] (take count (net.script client))) n)
      (Routes (64 + client) client (ordinal real (take (suc count) (net.script client))) n) tt

  -- what holds of each interface and of what is none
  pub by-interface-of : (core : CoreParts) (P : ℕ → Type 0) → ((i : ℕ) → Has i (interfaces real net core.server) → P i) → ((i : ℕ) → (Has i (interfaces real net core.server) → ⊥) → P i) → (i : ℕ) → P i
  by-interface-of core P some none i = go (is_among i (interfaces real net core.server)) refl
    where
      go : (b : Bool) → is_among i (interfaces real net core.server) ≡ b → P i
      go true e = some i (one-has i (interfaces real net core.server) e)
      go false e = none i (λ h. absurd (true≢false (sym (has-one i (interfaces real net core.server) h) ∙ e)))

  module _ (state : ServerState real) (core next : CoreParts) (sent : List SendingParts) (stands : RepresentsServer net core state) where
    -- of what is no interface nothing is installed, nor held
    by-interface : (P : ℕ → Type 0) → ((i : ℕ) → Has i (interfaces real net core.server) → P i) → ((i : ℕ) → (Has i (interfaces real net core.server) → ⊥) → P i) → (i : ℕ) → P i
    by-interface = by-interface-of core

    module _ (input : Input Task (Message real)) (step : IsServerStep net state input core next sent) (same : next.server ≡ core.server) where
      next-installed : (i : ℕ) → Has i (interfaces real net core.server) → step.outcome.state.installed i ≡ installed_from next i
      next-installed i h = step.state_after.installed i (subst (λ z. Has i (interfaces real net z)) (sym same) h)

      next-apart : (i : ℕ) → (Has i (interfaces real net core.server) → ⊥) → installed_from next i ≡ []
      next-apart i n = step.state_after.installed_apart i (λ h. n (subst (λ z. Has i (interfaces real net z)) same h))

      -- a step that installs nothing leaves what is installed
      kept-by : step.outcome.state.installed ≡ state.installed → (i : ℕ) → installed_from next i ≡ installed_from core i
      kept-by e = by-interface (λ i. installed_from next i ≡ installed_from core i)
          (λ i h. sym (next-installed i h) ∙ ap (λ z. z i) e ∙ stands.installed i h)
          (λ i n. next-apart i n ∙ sym (stands.installed_apart i n))

    pub kept_by_command : (client : ℕ) → IsServerStep net state (Does (NextCommand client)) core next sent → next.server ≡ core.server → (i : ℕ) → installed_from next i ≡ installed_from core i
    kept_by_command client step same = kept-by (Does (NextCommand client)) step same (installed-stays (served real net core.server state (Does (NextCommand client)) step.outcome step.step))
      where
        installed-stays : Served real net core.server state (Does (NextCommand client)) step.outcome → step.outcome.state.installed ≡ state.installed
        installed-stays s = ap (λ (z : Outcome (ServerState real) (Message real)). z.state.installed) s.made ∙ keeps core.server s.from s.work (plain-work s.work s.is) ∙ s.counts.installed
          where
            plain-work : (work : Work real) → work_of real net core.server state (Does (NextCommand client)) ≡ Some work → IsNoUpdate work
            plain-work work e = go (cond-some (is_among core.server net.servers) (is_among client (net.clients core.server)) (next_work real net client (state.done client) (slice_get (net.script client) (state.done client))) work e).2
              where
                go : next_work real net client (state.done client) (slice_get (net.script client) (state.done client)) ≡ Some work → IsNoUpdate work
                go f = at (slice_get (net.script client) (state.done client)) f
                  where
                    at : (o : Option (PhasedCommand real)) → next_work real net client (state.done client) o ≡ Some work → IsNoUpdate work
                    at None f = absurd cc
                    at (Some x) f = subst IsNoUpdate (same_Some _ _ f) (command-none client (state.done client) x.command)

    pub kept_by_reception : (from : ℕ) (m : Message real) → IsServerStep net state (Receives from m) core next sent → next.server ≡ core.server → (i : ℕ) → installed_from next i ≡ installed_from core i
    kept_by_reception from m step same = kept-by (Receives from m) step same (installed-stays (served real net core.server state (Receives from m) step.outcome step.step))
      where
        installed-stays : Served real net core.server state (Receives from m) step.outcome → step.outcome.state.installed ≡ state.installed
        installed-stays s = ap (λ (z : Outcome (ServerState real) (Message real)). z.state.installed) s.made ∙ keeps core.server s.from s.work (plain-work s.work s.is) ∙ s.counts.installed
          where
            plain-work : (work : Work real) → work_of real net core.server state (Receives from m) ≡ Some work → IsNoUpdate work
            plain-work work e = subst IsNoUpdate (same_Some _ _ (cond-some (is_among core.server net.servers) (is_among from (net.links core.server)) (Some (message_work real net state from m)) work e).2) (message-none state from m)

    -- a table update installs what is held
    pub held_by_update : IsServerStep net state (Does TableUpdate) core next sent → next.server ≡ core.server → (i : ℕ) → installed_from next i ≡ subs core.control i
    held_by_update step same = by-interface (λ i. installed_from next i ≡ subs core.control i)
        (λ i h. sym (next-installed (Does TableUpdate) step same i h) ∙ ap (λ z. z i) shown ∙ stands.control.subs_held i h)
        (λ i n. next-apart (Does TableUpdate) step same i n ∙ sym (stands.control.subs_apart i n))
      where
        shown : step.outcome.state.installed ≡ state.subs
        shown = ap (λ (z : Outcome (ServerState real) (Message real)). z.state.installed) (sym (same_Some _ _ (cond-some (is_among core.server net.servers) state.pending (Some (effect real net core.server state InstallsTable)) step.outcome step.step).2))
