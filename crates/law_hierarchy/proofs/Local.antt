-- What a possible step of one server of a hierarchy does.
use Rattle.std.proofs.Common.{◌≡◌, inl, inr, ℕ, ◌==◌, Bool, true, false, cond, not, ◌&&◌, ◌||◌, [], ◌∷◌, slice_get, Option, Some, None, refl, sym, ap, ◌∙◌}
use Rattle.base.specs.Sets.{Has}
use Rattle.law_machine.specs.Machine.{Input, Does, Receives, Outcome}
use Rattle.law_machine.specs.Runs.{MachineLaws}
use Rattle.law_routing.specs.Theory.{Theory}
use Rattle.law_routing.specs.Net.{Net, PhasedCommand}
use Rattle.law_routing.specs.Clients.{some_pass}
use Rattle.law_routing.specs.Server.{Message, Noticed, ServerState, is_among, filter_change}
use Rattle.law_routing.specs.Step.{Task, NextCommand, TableUpdate, Work, SetsFilters, SetsAdverts, Routes, InstallsTable, Nothing, with_filters, with_command_executed, command_work, message_work, work_of}
use Rattle.law_routing.specs.Routing.{phase_of, task_phase}
use Rattle.law_routing.specs.Works.{done_after, IsSameButCount}
use Rattle.law_routing.proofs.Laws.{one-has, cond-some}
use Rattle.std.proofs.lemmas.Option.{same_Some}
use Rattle.law_hierarchy.specs.Masters.{is_master, up}
use Rattle.law_hierarchy.specs.Step.{full_effect, effect, command_outcome, local_step, hierarchy_machine}
use Rattle.law_hierarchy.proofs.Shadow.{is-subs}

module _ (th : Theory) (net : Net th) where
  -- what a possible step does
  pub record Served (t : ℕ) (s : ServerState th) (d : Input Task (Message th)) (r : Outcome (ServerState th) (Message th)) : Type 0 where
    pub here : Has t net.servers
    pub from : ServerState th
    pub work : Work th
    pub is : work_of th net t s d ≡ Some work
    pub counts : IsSameButCount th net s from
    pub done : from.done ≡ done_after th net s.done d
    pub made : r ≡ effect th net t from work

  same-counts : (s : ServerState th) → IsSameButCount th net s s
  same-counts s = record { subs = refl; advs = refl; installed = refl; pending = refl; inbox = refl }

  -- the next command of a client
  pub record Commands (t : ℕ) (s : ServerState th) (c : ℕ) (r : Outcome (ServerState th) (Message th)) : Type 0 where
    pub here : Has t net.servers
    pub lives : Has c (net.clients t)
    pub next : PhasedCommand th
    pub at : slice_get (net.script c) (s.done c) ≡ Some next
    pub made : r ≡ effect th net t (with_command_executed th net s c) (command_work th net c (s.done c) next.command)

  pub commands : (t : ℕ) (s : ServerState th) (c : ℕ) (r : Outcome (ServerState th) (Message th)) → local_step th net t s (Does (NextCommand c)) ≡ Some r → Commands t s c r
  commands t s c r e =
      let f = cond-some (is_among t net.servers) (is_among c (net.clients t)) (command_outcome th net t s c (slice_get (net.script c) (s.done c))) r e in
      go (slice_get (net.script c) (s.done c)) refl (one-has t net.servers f.0) (one-has c (net.clients t) f.1) f.2
    where
      go : (o : Option (PhasedCommand th)) → slice_get (net.script c) (s.done c) ≡ o → Has t net.servers → Has c (net.clients t) → command_outcome th net t s c o ≡ Some r → Commands t s c r
      go None g a b f = absurd cc
      go (Some x) g a b f = record { here = a; lives = b; next = x; at = g; made = sym (same_Some _ _ f) }

  pub record ReceivesMessage (t : ℕ) (s : ServerState th) (u : ℕ) (x : Message th) (r : Outcome (ServerState th) (Message th)) : Type 0 where
    pub here : Has t net.servers
    pub near : Has u (net.links t)
    pub made : r ≡ effect th net t s (message_work th net s u x)

  pub takes : (t : ℕ) (s : ServerState th) (u : ℕ) (x : Message th) (r : Outcome (ServerState th) (Message th)) → local_step th net t s (Receives u x) ≡ Some r → ReceivesMessage t s u x r
  takes t s u x r e =
      let c = cond-some (is_among t net.servers) (is_among u (net.links t)) (Some (effect th net t s (message_work th net s u x))) r e in
      record { here = one-has t net.servers c.0; near = one-has u (net.links t) c.1; made = sym (same_Some _ _ c.2) }

  pub record Publishes (t : ℕ) (s : ServerState th) (r : Outcome (ServerState th) (Message th)) : Type 0 where
    pub here : Has t net.servers
    pub pending : s.pending ≡ true
    pub made : r ≡ effect th net t s InstallsTable

  pub publishes : (t : ℕ) (s : ServerState th) (r : Outcome (ServerState th) (Message th)) → local_step th net t s (Does TableUpdate) ≡ Some r → Publishes t s r
  publishes t s r e =
      let c = cond-some (is_among t net.servers) s.pending (Some (effect th net t s InstallsTable)) r e in
      record { here = one-has t net.servers c.0; pending = c.1; made = sym (same_Some _ _ c.2) }

  is-command : (t c : ℕ) (s : ServerState th) (x : PhasedCommand th) → is_among t net.servers ≡ true → is_among c (net.clients t) ≡ true → slice_get (net.script c) (s.done c) ≡ Some x → work_of th net t s (Does (NextCommand c)) ≡ Some (command_work th net c (s.done c) x.command)
  is-command t c s x a b g = rw (a, b, g) refl

  pub served : (t : ℕ) (s : ServerState th) (d : Input Task (Message th)) (r : Outcome (ServerState th) (Message th)) → local_step th net t s d ≡ Some r → Served t s d r
  served t s (Receives u x) r e =
      let c = cond-some (is_among t net.servers) (is_among u (net.links t)) (Some (effect th net t s (message_work th net s u x))) r e in
      record { here = one-has t net.servers c.0; from = s; work = message_work th net s u x; is = rw (c.0, c.1) refl; counts = same-counts s; done = refl; made = sym (same_Some _ _ c.2) }
  served t s (Does TableUpdate) r e =
      let c = cond-some (is_among t net.servers) s.pending (Some (effect th net t s InstallsTable)) r e in
      record { here = one-has t net.servers c.0; from = s; work = InstallsTable; is = rw (c.0, c.1) refl; counts = same-counts s; done = refl; made = sym (same_Some _ _ c.2) }
  served t s (Does (NextCommand c)) r e =
      let f = cond-some (is_among t net.servers) (is_among c (net.clients t)) (command_outcome th net t s c (slice_get (net.script c) (s.done c))) r e in
      let x = commands t s c r e in
      record { here = x.here; from = with_command_executed th net s c; work = command_work th net c (s.done c) x.next.command; is = is-command t c s x.next f.0 f.1 x.at; counts = record { subs = refl; advs = refl; installed = refl; pending = refl; inbox = refl }; done = refl; made = x.made }

  among : (t : ℕ) (s : ServerState th) (d : Input Task (Message th)) (r : Outcome (ServerState th) (Message th)) → local_step th net t s d ≡ Some r → Has t net.servers
  among t s d r e = (served t s d r e).here

  table_update : (t : ℕ) (s : ServerState th) (a : Task) (r : Outcome (ServerState th) (Message th)) → local_step th net t s (Does a) ≡ Some r → task_phase th net t s a ≡ None → s.pending ≡ true
  table_update t s (NextCommand c) r e f = absurd (go (slice_get (net.script c) (s.done c)) f)
    where
      go : (o : Option (PhasedCommand th)) → phase_of th net o ≡ None → ⊥
      go None f = cc
      go (Some x) f = cc
  table_update t s TableUpdate r e f = (publishes t s r e).pending

  pub machine-laws : MachineLaws (hierarchy_machine th net)
  machine-laws = record { among = among; table_update = table_update }

  -- filters go up alone, and on links alone
  pub outs-up : (t l : ℕ) (s : ServerState th) (k : Work th) (y : Message th) → Has y ((effect th net t s k).outs l) → Has l (net.links t) × (is-subs th y ≡ true → is_master th net t l ≡ true)
  outs-up t l s k y h = go (is_among l (net.links t)) refl h
    where
      own : (k : Work th) → Has y ((full_effect th net t s k).outs l) → is-subs th y ≡ true → is_master th net t l ≡ true
      own (SetsFilters i fs) h e = by (is_master th net t l) refl h
        where
          by : (b : Bool) → is_master th net t l ≡ b → Has y (cond b (filter_change th net (up th net s t) (up th net (with_filters th net s i fs) t)) []) → is_master th net t l ≡ true
          by true f h = f
          by false f h = absurd h
      own (SetsAdverts i xs) h e = absurd h
      own (Routes i p o n) h e = absurd (by (not (l == i) && (is_master th net t l || some_pass (th.matches n) (s.installed l))) h)
        where
          clash : true ≡ is-subs th (Noticed p o n) → ⊥
          clash e = cc

          by : (b : Bool) → Has y (cond b (Noticed p o n ∷ []) []) → ⊥
          by true (inl q) = clash (sym e ∙ ap (is-subs th) q)
          by true (inr z) = absurd z
          by false h = absurd h
      own InstallsTable h e = absurd h
      own Nothing h e = absurd h

      go : (b : Bool) → is_among l (net.links t) ≡ b → Has y (cond b ((full_effect th net t s k).outs l) []) → Has l (net.links t) × (is-subs th y ≡ true → is_master th net t l ≡ true)
      go true f h = (one-has l (net.links t) f, own k h)
      go false f h = absurd h
