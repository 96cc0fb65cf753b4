-- What an entry of a run puts on a link: one notification, of the publication that it routes, or none.
use Rattle.std.proofs.Common.{◌≡◌, ℕ, ◌==◌, Bool, true, false, cond, not, ◌&&◌, List, [], ◌∷◌, ◌++◌, ◌⊎◌, inl, inr, Some, refl, sym, ap, ◌∙◌}
use Rattle.base.specs.Sets.{same_list, minus}
use Rattle.base.specs.Numbers.{sum_over, count}
use Rattle.law_machine.specs.Machine.{at, Input, Does, Receives, Outcome, Stamped, unstamped, act_of}
use Rattle.law_machine.specs.Network.{IsStep, IsAvailable, messages_of, outcome_at, outcome_of, outs_of, reception_of}
use Rattle.law_routing.specs.Theory.{Theory}
use Rattle.law_routing.specs.Net.{Net}
use Rattle.law_routing.specs.Clients.{some_pass}
use Rattle.law_routing.specs.Server.{Message, Subs, Advs, Noticed, ServerState, is_among, sent, sent_adverts, filter_change, advert_change, messages_to}
use Rattle.law_routing.specs.Step.{Task, Work, SetsFilters, SetsAdverts, Routes, InstallsTable, Nothing, effect, with_filters, with_adverts, work_of}
use Rattle.law_routing.specs.Works.{reception_work, work_at}
use Rattle.law_routing.specs.Routing.{routing_machine, Network, NetEntry}
use Rattle.law_routing.specs.Order.{add_ordinal}
use Rattle.law_routing.proofs.Working.{served}
use Rattle.law_phases.specs.Economy.{is_noticed}

-- how many of some messages are notifications
abbrev pub notices : (th : Theory) → List (Message th) → ℕ
notices th ms = sum_over (λ m. count (is_noticed th m)) ms

-- the ordinals of one publisher's
abbrev pub ids : (th : Theory) → Net th → ℕ → List (Message th) → List ℕ
ids th net q [] = []
ids th net q (m ∷ ms) = add_ordinal th net q m (ids th net q ms)

module _ (th : Theory) (net : Net th) where
  -- no message of these is a notification
  pub record Silent (ms : List (Message th)) : Type 0 where
    pub none : notices th ms ≡ 0
    pub no_ids : (q : ℕ) → ids th net q ms ≡ []

  -- these are one notification
  pub record Speaks (k : Work th) (links : List ℕ) (to : ℕ) (ms : List (Message th)) : Type 0 where
    pub interface : ℕ
    pub publisher : ℕ
    pub ordinal : ℕ
    pub notice : th.Notice
    pub routes : k ≡ Routes interface publisher ordinal notice
    pub only : ms ≡ Noticed publisher ordinal notice ∷ []
    pub near : is_among to links ≡ true

  changes : (old new : List th.Filter) (was is : List th.Advert) → Silent (filter_change th net old new ++ advert_change th net was is)
  changes old new was is = go (same_list th.before old new) (same_list th.before_advert was is)
    where
      go : (a b : Bool) → Silent (cond a [] (Subs (minus th.before old new) (minus th.before new old) ∷ []) ++ cond b [] (Advs (minus th.before_advert was is) (minus th.before_advert is was) ∷ []))
      go true true = record { none = refl; no_ids = λ q. refl }
      go true false = record { none = refl; no_ids = λ q. refl }
      go false true = record { none = refl; no_ids = λ q. refl }
      go false false = record { none = refl; no_ids = λ q. refl }

  where-near : (b : Bool) (ms : List (Message th)) → Silent ms → Silent (cond b ms [])
  where-near true ms s = s
  where-near false ms s = record { none = refl; no_ids = λ q. refl }

  nothing : (b : Bool) → Silent (cond b [] [])
  nothing true = record { none = refl; no_ids = λ q. refl }
  nothing false = record { none = refl; no_ids = λ q. refl }

  -- the messages of a work for a link
  pub speaks : (t : ℕ) (from : ServerState th) (k : Work th) (to : ℕ) → Silent ((effect th net t from k).outs to) ⊎ Speaks k (net.links t) to ((effect th net t from k).outs to)
  speaks t from (SetsFilters i set) to =
      inl (where-near (is_among to (net.links t)) (messages_to th net from (with_filters th net from i set) t to)
      (changes (sent th net from t to) (sent th net (with_filters th net from i set) t to) (sent_adverts th net from t to) (sent_adverts th net (with_filters th net from i set) t to)))
  speaks t from (SetsAdverts i set) to =
      inl (where-near (is_among to (net.links t)) (messages_to th net from (with_adverts th net from i set) t to)
      (changes (sent th net from t to) (sent th net (with_adverts th net from i set) t to) (sent_adverts th net from t to) (sent_adverts th net (with_adverts th net from i set) t to)))
  speaks t from (Routes i p o n) to = go (is_among to (net.links t)) refl (not (to == i) && some_pass (th.matches n) (from.installed to))
    where
      go : (a : Bool) → is_among to (net.links t) ≡ a → (b : Bool) → Silent (cond a (cond b (Noticed p o n ∷ []) []) []) ⊎ Speaks (Routes i p o n) (net.links t) to (cond a (cond b (Noticed p o n ∷ []) []) [])
      go false e b = inl (record { none = refl; no_ids = λ q. refl })
      go true e false = inl (record { none = refl; no_ids = λ q. refl })
      go true e true = inr (record { interface = i; publisher = p; ordinal = o; notice = n; routes = refl; only = refl; near = e })
  speaks t from InstallsTable to = inl (nothing (is_among to (net.links t)))
  speaks t from Nothing to = inl (nothing (is_among to (net.links t)))

  -- what an entry works, and its messages
  pub record Working (w : Network th net) (e : NetEntry th net) (v : Network th net) : Type 0 where
    pub from : ServerState th
    pub work : Work th
    pub is : work_at th net w e.server e.act ≡ Some work
    pub messages : (to : ℕ) → messages_of (routing_machine th net) w e to ≡ (effect th net e.server from work).outs to
    pub inbox : from.inbox ≡ (w.state e.server).inbox
    pub state : v.state ≡ at w.state e.server (effect th net e.server from work).state

  step-outcome : (w : Network th net) (t : ℕ) (d : Input Task (Stamped (Message th))) (r : Outcome (ServerState th) (Message th)) → IsAvailable (routing_machine th net) w t d
      → (routing_machine th net).step t (w.state t) (unstamped (routing_machine th net) d) ≡ Some r
      → outcome_at (routing_machine th net) w t (act_of (routing_machine th net) d) ≡ Some r
  step-outcome w t (Does a) r given made = made
  step-outcome w t (Receives u s) r given made = ap (λ z. outcome_of (routing_machine th net) w t (reception_of (routing_machine th net) u z)) given ∙ made

  step-work : (w : Network th net) (t : ℕ) (d : Input Task (Stamped (Message th))) (k : Work th) → IsAvailable (routing_machine th net) w t d
      → work_of th net t (w.state t) (unstamped (routing_machine th net) d) ≡ Some k → work_at th net w t (act_of (routing_machine th net) d) ≡ Some k
  step-work w t (Does a) k given e = e
  step-work w t (Receives u x) k given e = ap (reception_work th net t (w.state t) u) given ∙ e

  pub working : (w : Network th net) (e : NetEntry th net) (v : Network th net) → IsStep (routing_machine th net) w e v → Working w e v
  working w e v (d, r, made, is, given, after) =
      let s = served th net e.server (w.state e.server) (unstamped (routing_machine th net) d) r made in
      let act : e.act ≡ act_of (routing_machine th net) d = ap (λ z. z.act) is in
      record {
        from = s.from;
        work = s.work;
        is = ap (work_at th net w e.server) act ∙ step-work w e.server d s.work given s.is;
        messages = λ to.
            ap (λ z. outs_of (routing_machine th net) (outcome_at (routing_machine th net) w e.server z) to) act
            ∙ (ap (λ z. outs_of (routing_machine th net) z to) (step-outcome w e.server d r given made) ∙ ap (λ (z : Outcome (ServerState th) (Message th)). z.outs to) s.made);
        inbox = s.counts.inbox;
        state = ap (λ z. z.state) (sym after) ∙ ap (λ (z : Outcome (ServerState th) (Message th)). at w.state e.server z.state) s.made;
      }
