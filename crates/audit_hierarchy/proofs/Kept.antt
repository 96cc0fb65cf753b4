-- What all filters, advertisements and notices of the scripts keep, all of them keep that a run of a hierarchy holds, sends and delivers.
use Rattle.std.proofs.Common.{◌≡◌, ℕ, zero, suc, ◌==◌, ◌&&◌, ◌++◌, Bool, true, false, cond, not, List, [], ◌∷◌, map, Option, Some, None, refl, sym, subst}
use Rattle.std.specs.Prelude.{◌||◌, slice_get}
use Rattle.base.specs.Sets.{roots, is_root}
use Rattle.law_machine.specs.Machine.{Machine, Input, Does, Receives, Outcome, Stamped, Act, Did, Received, Entry, act_phase, unstamped, stamped, next_stamp}
use Rattle.law_machine.specs.Network.{NetworkState, IsAvailable, network_after, messages_of, outcome_of, outcome_at, outs_of, reception_of, turn, after_input, after_outcome}
use Rattle.law_machine.specs.Runs.{raised}
use Rattle.law_machine.specs.History.{Moment, as_found, network_step, moment_after}
use Rattle.law_routing.specs.Theory.{Theory}
use Rattle.law_routing.specs.Net.{Net, PhasedCommand}
use Rattle.law_routing.specs.Clients.{some_pass}
use Rattle.law_routing.specs.Server.{Message, Noticed, Publication, ServerState, is_among, filter_change, interfaces}
use Rattle.law_routing.specs.Step.{Task, NextCommand, TableUpdate, Work, SetsFilters, SetsAdverts, Routes, InstallsTable, Nothing, command_work, message_work, with_command_executed, with_filters, with_deliveries}
use Rattle.law_hierarchy.specs.Masters.{is_master, master, up}
use Rattle.law_hierarchy.specs.Step.{full_effect, effect, local_step, hierarchy_machine}
use Rattle.law_hierarchy.proofs.Local.{commands, publishes, takes}
use Rattle.audit_verdict.proofs.Kept.{All, all-append, all-at, all-cond, all-except, all-filter, all-get, all-map, all-none, all-one, command-kept, filter-change-kept, message-kept}
use Rattle.audit_verdict.proofs.Kept.{KeepsCommand, KeepsMessage, KeepsServer, KeepsWork}

-- Over any machine whose steps keep what its servers and messages keep.

module _ (m : Machine) (KeepsState : m.State → Type 0) (KeepsSent : m.Message → Type 0) where
  abbrev pub KeepsStamped : Stamped m.Message → Type 0
  KeepsStamped x = KeepsSent x.message

  pub record KeepsMade (r : Outcome m.State m.Message) : Type 0 where
    pub state : KeepsState r.state
    pub outs : (l : ℕ) → All KeepsSent (r.outs l)

  pub record KeepsNetwork (s : NetworkState m) : Type 0 where
    pub servers : (t : ℕ) → KeepsState (s.state t)
    pub put : (a b : ℕ) → All KeepsStamped (s.put a b)

  abbrev pub KeepsInput : Input m.Task m.Message → Type 0
  KeepsInput (Does task) = Unit {0}
  KeepsInput (Receives from x) = KeepsSent x

  module _ (step-kept : (t : ℕ) (s : m.State) (i : Input m.Task m.Message) (r : Outcome m.State m.Message) → KeepsState s → KeepsInput i → m.step t s i ≡ Some r → KeepsMade r) where
    kept-after : (s : NetworkState m) (t : ℕ) (i : Input m.Task (Stamped m.Message)) (r : Outcome m.State m.Message) → KeepsNetwork s → KeepsMade r → KeepsNetwork (network_after m s t i r)
    kept-after s t i r k o = record {
      servers = λ u. go (u == t) (k.servers u);
      put = λ a b. all-cond KeepsStamped (a == t) _ _
          (all-append KeepsStamped (s.put a b) (stamped m (next_stamp m (s.clock t) i) (r.outs b)) (k.put a b) (all-map KeepsStamped (λ x. record { stamp = next_stamp m (s.clock t) i; message = x }) (r.outs b) (o.outs b)))
          (k.put a b);
    }
      where
        go : {u : ℕ} (b : Bool) → KeepsState (s.state u) → KeepsState (cond b r.state (s.state u))
        go true h = o.state
        go false h = h

    outcome-there : (s : NetworkState m) (t : ℕ) (i : Input m.Task (Stamped m.Message)) → KeepsNetwork s → IsAvailable m s t i → (r : Outcome m.State m.Message)
        → m.step t (s.state t) (unstamped m i) ≡ Some r → KeepsMade r
    outcome-there s t (Does task) k h r e = step-kept t (s.state t) (Does task) r (k.servers t) tt e
    outcome-there s t (Receives from x) k h r e =
        step-kept t (s.state t) (Receives from x.message) r (k.servers t) (all-get KeepsStamped (s.put from t) (s.taken from t) x h (k.put from t)) e

    -- a turn, possible or not
    turn-kept : (s : NetworkState m) (t : ℕ) (a : Act m.Task) → KeepsNetwork s → KeepsNetwork (turn m s t a)
    turn-kept s t (Did task) k = done (m.step t (s.state t) (Does task)) refl
      where
        done : (o : Option (Outcome m.State m.Message)) → m.step t (s.state t) (Does task) ≡ o → KeepsNetwork (after_outcome m s t (Does task) o)
        done None e = k
        done (Some r) e = kept-after s t (Does task) r k (outcome-there s t (Does task) k tt r e)
    turn-kept s t (Received from) k = next (slice_get (s.put from t) (s.taken from t)) refl
      where
        done : (x : Stamped m.Message) → slice_get (s.put from t) (s.taken from t) ≡ Some x → (o : Option (Outcome m.State m.Message)) → m.step t (s.state t) (Receives from x.message) ≡ o
            → KeepsNetwork (after_outcome m s t (Receives from x) o)
        done x h None e = k
        done x h (Some r) e = kept-after s t (Receives from x) r k (outcome-there s t (Receives from x) k h r e)

        next : (o : Option (Stamped m.Message)) → slice_get (s.put from t) (s.taken from t) ≡ o → KeepsNetwork (after_input m s t (reception_of m from o))
        next None e = k
        next (Some x) e = done x e (m.step t (s.state t) (Receives from x.message)) refl

    -- the messages of an act
    pub messages-kept : (s : NetworkState m) (e : Entry m) (link : ℕ) → KeepsNetwork s → All KeepsSent (messages_of m s e link)
    messages-kept s e link k = of-act e.act
      where
        done : (i : Input m.Task (Stamped m.Message)) → IsAvailable m s e.server i → (o : Option (Outcome m.State m.Message)) → m.step e.server (s.state e.server) (unstamped m i) ≡ o
            → All KeepsSent (outs_of m o link)
        done i h None f = all-none KeepsSent
        done i h (Some r) f = (outcome-there s e.server i k h r f).outs link

        next : (from : ℕ) (o : Option (Stamped m.Message)) → slice_get (s.put from e.server) (s.taken from e.server) ≡ o → All KeepsSent (outs_of m (outcome_of m s e.server (reception_of m from o)) link)
        next from None f = all-none KeepsSent
        next from (Some x) f = done (Receives from x) f (m.step e.server (s.state e.server) (Receives from x.message)) refl

        of-act : (a : Act m.Task) → All KeepsSent (outs_of m (outcome_at m s e.server a) link)
        of-act (Did task) = done (Does task) tt (m.step e.server (s.state e.server) (Does task)) refl
        of-act (Received from) = next from (slice_get (s.put from e.server) (s.taken from e.server)) refl

    -- a moment, as an act finds it, and after entries
    pub found-kept : (s : Moment m) (o : Option ℕ) → KeepsNetwork s.network → KeepsNetwork (as_found m s o).network
    found-kept s None k = k
    found-kept s (Some phase) k = go (s.phase == phase)
      where
        go : (b : Bool) → KeepsNetwork (let x : Moment m = cond b s (record { network = raised m s.network; phase = phase }) in x).network
        go true = k
        go false = record { servers = k.servers; put = k.put }

    pub after-kept : (es : List (Entry m)) (n : ℕ) (s : Moment m) → KeepsNetwork s.network → KeepsNetwork (moment_after m s es n).network
    after-kept es zero s k = k
    after-kept [] (suc n) s k = k
    after-kept (e ∷ es) (suc n) s k =
        after-kept es n (network_step m s e)
        (turn-kept (as_found m s (act_phase m e.server (s.network.state e.server) e.act)).network e.server e.act (found-kept s (act_phase m e.server (s.network.state e.server) e.act) k))

-- The step of a hierarchy's server keeps them.

module _ (th : Theory) (F : th.Filter → Type 0) (A : th.Advert → Type 0) (N : th.Notice → Type 0) (net : Net th)
    (scripts : (c : ℕ) → All (λ (x : PhasedCommand th). KeepsCommand th F A N x.command) (net.script c)) where
  abbrev KeepsResult : Outcome (ServerState th) (Message th) → Type 0
  KeepsResult r = KeepsMade (hierarchy_machine th net) (KeepsServer th F A N) (KeepsMessage th F A N) r

  up-kept : (s : ServerState th) (t : ℕ) → ((i : ℕ) → All F (s.subs i)) → All F (up th net s t)
  up-kept s t k =
      all-filter F (is_root th.covers th.before _) _ (all-except F th.before s.subs (master th net t) (interfaces th net t) k)

  full-kept : (t : ℕ) (s : ServerState th) (w : Work th) → KeepsServer th F A N s → KeepsWork th F A N w → KeepsResult (full_effect th net t s w)
  full-kept t s (SetsFilters i fs) k h =
      let subs : (j : ℕ) → All F ((with_filters th net s i fs).subs j) = all-at F s.subs i fs k.subs h in
      record {
        state = record { subs = subs; advs = k.advs; installed = k.installed; inbox = k.inbox };
        outs = λ l. all-cond (KeepsMessage th F A N) (is_master th net t l) _ []
            (filter-change-kept th F A N net scripts (up th net s t) (up th net (with_filters th net s i fs) t) (up-kept s t k.subs) (up-kept (with_filters th net s i fs) t subs))
            (all-none (KeepsMessage th F A N));
      }
  full-kept t s (SetsAdverts i ads) k h = record { state = k; outs = λ l. all-none (KeepsMessage th F A N) }
  full-kept t s (Routes i q o n) k h = record {
    state = record {
      subs = k.subs;
      advs = k.advs;
      installed = k.installed;
      inbox = λ c. all-cond (λ (p : Publication th). N p.notice) _ _ _
          (all-append (λ (p : Publication th). N p.notice) (s.inbox c) _ (k.inbox c) (all-one (λ (p : Publication th). N p.notice) (record { publisher = q; ordinal = o; notice = n }) h)) (k.inbox c);
    };
    outs = λ l. all-cond (KeepsMessage th F A N) (not (l == i) && (is_master th net t l || some_pass (th.matches n) (s.installed l))) (Noticed q o n ∷ []) []
        (all-one (KeepsMessage th F A N) (Noticed q o n) h) (all-none (KeepsMessage th F A N));
  }
  full-kept t s InstallsTable k h = record {
    state = record { subs = k.subs; advs = k.advs; installed = k.subs; inbox = k.inbox };
    outs = λ l. all-none (KeepsMessage th F A N);
  }
  full-kept t s Nothing k h = record { state = k; outs = λ l. all-none (KeepsMessage th F A N) }

  effect-kept : (t : ℕ) (s : ServerState th) (w : Work th) → KeepsServer th F A N s → KeepsWork th F A N w → KeepsResult (effect th net t s w)
  effect-kept t s w k h =
      let r = full-kept t s w k h in
      record { state = r.state; outs = λ l. all-cond (KeepsMessage th F A N) (is_among l (net.links t)) _ _ (r.outs l) (all-none (KeepsMessage th F A N)) }

  pub step-kept : (t : ℕ) (s : ServerState th) (i : Input Task (Message th)) (r : Outcome (ServerState th) (Message th)) → KeepsServer th F A N s
      → KeepsInput (hierarchy_machine th net) (KeepsServer th F A N) (KeepsMessage th F A N) i → local_step th net t s i ≡ Some r → KeepsResult r
  step-kept t s (Does (NextCommand c)) r k g e =
      let x = commands th net t s c r e in
      subst KeepsResult (sym x.made)
      (effect-kept t (with_command_executed th net s c) (command_work th net c (s.done c) x.next.command)
      (record { subs = k.subs; advs = k.advs; installed = k.installed; inbox = k.inbox })
      (command-kept th F A N net scripts c (s.done c) x.next.command (all-get (λ (y : PhasedCommand th). KeepsCommand th F A N y.command) (net.script c) (s.done c) x.next x.at (scripts c))))
  step-kept t s (Does TableUpdate) r k g e = subst KeepsResult (sym (publishes th net t s r e).made) (effect-kept t s InstallsTable k tt)
  step-kept t s (Receives from x) r k g e =
      subst KeepsResult (sym (takes th net t s from x r e).made)
      (effect-kept t s (message_work th net s from x) k (message-kept th F A N net scripts s from x k g))
