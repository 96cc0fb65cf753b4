-- What all filters, advertisements and notices of the scripts keep, all of them keep that a run holds, sends and delivers.
use Rattle.std.proofs.Common.{◌≡◌, ℕ, zero, suc, ◌==◌, ◌&&◌, Bool, true, false, cond, not, inl, inr, List, [], ◌∷◌, ◌++◌, length, map, filter, take, Option, Some, None, refl, sym, subst}
use Rattle.std.specs.Prelude.{◌||◌, nat_lt, slice_get}
use Rattle.std.proofs.lemmas.Option.{same_Some}
use Rattle.base.specs.Sets.{Has, union, minus, put_in, same_list, is_root, member}
use Rattle.base.proofs.Roots.{filter-Has}
use Rattle.law_machine.specs.Machine.{Input, Does, Receives, Outcome, Stamped, Act, Did, Received, at, unstamped, stamped, next_stamp}
use Rattle.law_machine.specs.Network.{IsAvailable, network_after, messages_of, outcome_of, outcome_at, outs_of, reception_of, turn, after_input, after_outcome}
use Rattle.law_routing.specs.Theory.{Theory}
use Rattle.law_routing.specs.Net.{Net, PhasedCommand, Command, Subscribe, Unsubscribe, Advertise, Unadvertise, Publish}
use Rattle.law_routing.specs.Clients.{some_pass, filters_step, filters_after, adverts_step, adverts_after, accepts, ordinal}
use Rattle.law_routing.specs.Server.{Message, Subs, Advs, Noticed, Publication, ServerState, is_among, union_except, interfaces, needed, sent, needed_adverts, sent_adverts, filter_change, advert_change, messages_to, client_interface}
use Rattle.law_routing.specs.Step.{Task, NextCommand, TableUpdate, Work, SetsFilters, SetsAdverts, Routes, InstallsTable, Nothing, full_effect, effect, command_work, message_work, command_outcome, with_command_executed, local_step}
use Rattle.law_routing.specs.Flow.{flowing, holds, server_of, make_ad, make_sub, flow_ad, flow}
use Rattle.law_routing.specs.Change.{client_sets}
use Rattle.law_routing.specs.Routing.{routing_machine}
use Rattle.law_phases.specs.Trees.{JournalEntry, State, on, off, entry_on, PhasedNet, net_at, machine_at, at_phase, is_one_tree, tree_at}
use Rattle.law_phases.specs.Moments.{Moment, with_clocks_raised, with_tree_changed, begun, as_found, command_phase, found_by, acted, moment_after, found_after, opening_moment}
use Rattle.base.proofs.Sets.{has-append}

-- each of a list
abbrev pub All : {T : Type 0} → (T → Type 0) → List T → Type 0
All {T} P xs = (x : T) → Has x xs → P x

pub all-none : {T : Type 0} (P : T → Type 0) → All P []
all-none P x h = absurd h

pub all-append : {T : Type 0} (P : T → Type 0) (xs ys : List T) → All P xs → All P ys → All P (xs ++ ys)
all-append P xs ys p q x h = elim (has-append x xs ys h) [ inl a ↦ p x a | inr b ↦ q x b ]

pub all-one : {T : Type 0} (P : T → Type 0) (y : T) → P y → All P (y ∷ [])
all-one P y p x (inl e) = subst P (sym e) p
all-one P y p x (inr h) = absurd h

pub all-cond : {T : Type 0} (P : T → Type 0) (b : Bool) (xs ys : List T) → All P xs → All P ys → All P (cond b xs ys)
all-cond P true xs ys p q = p
all-cond P false xs ys p q = q

pub all-filter : {T : Type 0} (P : T → Type 0) (p : T → Bool) (xs : List T) → All P xs → All P (filter p xs)
all-filter P p xs q x h = q x (filter-Has p x xs h).0

pub all-put : {T : Type 0} (P : T → Type 0) (before : T → T → Bool) (z : T) (ys : List T) → P z → All P ys → All P (put_in before z ys)
all-put P before z [] p q = all-one P z p
all-put P before z (y ∷ ys) p q =
    all-cond P (before z y) (z ∷ y ∷ ys) _ (all-append P (z ∷ []) (y ∷ ys) (all-one P z p) q)
    (all-cond P (before y z) (y ∷ put_in before z ys) (y ∷ ys)
    (all-append P (y ∷ []) (put_in before z ys) (all-one P y (q y (inl refl))) (all-put P before z ys p (λ x h. q x (inr h)))) q)

pub all-union : {T : Type 0} (P : T → Type 0) (before : T → T → Bool) (xs ys : List T) → All P xs → All P ys → All P (union before xs ys)
all-union P before [] ys p q = q
all-union P before (x ∷ xs) ys p q = all-put P before x (union before xs ys) (p x (inl refl)) (all-union P before xs ys (λ y h. p y (inr h)) q)

pub all-except : {T : Type 0} (P : T → Type 0) (before : T → T → Bool) (sets : ℕ → List T) (but : ℕ) (is : List ℕ) → ((i : ℕ) → All P (sets i)) → All P (union_except before sets but is)
all-except P before sets but [] p = all-none P
all-except P before sets but (i ∷ is) p = all-cond P (i == but) _ _ (all-except P before sets but is p) (all-union P before (sets i) (union_except before sets but is) (p i) (all-except P before sets but is p))

pub all-get : {T : Type 0} (P : T → Type 0) (xs : List T) (n : ℕ) (x : T) → slice_get xs n ≡ Some x → All P xs → P x
all-get P [] n x e p = absurd cc
all-get P (y ∷ xs) zero x e p = subst P (same_Some y x e) (p y (inl refl))
all-get P (y ∷ xs) (suc n) x e p = all-get P xs n x e (λ z h. p z (inr h))

pub all-take : {T : Type 0} (P : T → Type 0) (n : ℕ) (xs : List T) → All P xs → All P (take n xs)
all-take P zero xs p = all-none P
all-take P (suc n) [] p = all-none P
all-take P (suc n) (y ∷ xs) p = all-append P (y ∷ []) (take n xs) (all-one P y (p y (inl refl))) (all-take P n xs (λ z m. p z (inr m)))

pub all-map : {T S : Type 0} (P : S → Type 0) (f : T → S) (xs : List T) → All (λ x. P (f x)) xs → All P (map f xs)
all-map P f [] p = all-none P
all-map P f (x ∷ xs) p = all-append P (f x ∷ []) (map f xs) (all-one P (f x) (p x (inl refl))) (all-map P f xs (λ y h. p y (inr h)))

pub all-at : {T : Type 0} (P : T → Type 0) (f : ℕ → List T) (k : ℕ) (xs : List T) → ((i : ℕ) → All P (f i)) → All P xs → (i : ℕ) → All P (at f k xs i)
all-at P f k xs p q i = all-cond P (i == k) xs (f i) q (p i)

module _ (th : Theory) (F : th.Filter → Type 0) (A : th.Advert → Type 0) (N : th.Notice → Type 0) where
  -- what a command keeps, and a message
  abbrev pub KeepsCommand : Command th → Type 0
  KeepsCommand (Subscribe f) = F f
  KeepsCommand (Unsubscribe f) = F f
  KeepsCommand (Advertise a) = A a
  KeepsCommand (Unadvertise a) = A a
  KeepsCommand (Publish n) = N n

  abbrev pub KeepsMessage : Message th → Type 0
  KeepsMessage (Subs out add) = All F out × All F add
  KeepsMessage (Advs out add) = All A out × All A add
  KeepsMessage (Noticed q o n) = N n

  abbrev pub KeepsWork : Work th → Type 0
  KeepsWork (SetsFilters i fs) = All F fs
  KeepsWork (SetsAdverts i ads) = All A ads
  KeepsWork (Routes i q o n) = N n
  KeepsWork InstallsTable = Unit {0}
  KeepsWork Nothing = Unit {0}

  pub record KeepsServer (s : ServerState th) : Type 0 where
    pub subs : (i : ℕ) → All F (s.subs i)
    pub advs : (i : ℕ) → All A (s.advs i)
    pub installed : (i : ℕ) → All F (s.installed i)
    pub inbox : (c : ℕ) → All (λ (p : Publication th). N p.notice) (s.inbox c)

  pub record KeepsState (s : State th) : Type 0 where
    pub servers : (t : ℕ) → KeepsServer (s.state t)
    pub put : (a b : ℕ) → All (λ (m : Stamped (Message th)). KeepsMessage m.message) (s.put a b)

  filters-kept : (fs : List th.Filter) (cs : List (PhasedCommand th)) → All F fs → All (λ (c : PhasedCommand th). KeepsCommand c.command) cs → All F (filters_after th fs cs)
  filters-kept fs [] p q = p
  filters-kept fs (c ∷ cs) p q = filters-kept (filters_step th fs c.command) cs (go c.command (q c (inl refl))) (λ x h. q x (inr h))
    where
      go : (x : Command th) → KeepsCommand x → All F (filters_step th fs x)
      go (Subscribe f) k = all-union F th.before (f ∷ []) fs (all-one F f k) p
      go (Unsubscribe f) k = all-filter F (λ g. not (th.covers f g)) fs p
      go (Advertise a) k = p
      go (Unadvertise a) k = p
      go (Publish n) k = p

  adverts-kept : (ads : List th.Advert) (cs : List (PhasedCommand th)) → All A ads → All (λ (c : PhasedCommand th). KeepsCommand c.command) cs → All A (adverts_after th ads cs)
  adverts-kept ads [] p q = p
  adverts-kept ads (c ∷ cs) p q = adverts-kept (adverts_step th ads c.command) cs (go c.command (q c (inl refl))) (λ x h. q x (inr h))
    where
      go : (x : Command th) → KeepsCommand x → All A (adverts_step th ads x)
      go (Subscribe f) k = p
      go (Unsubscribe f) k = p
      go (Advertise a) k = all-union A th.before_advert (a ∷ []) ads (all-one A a k) p
      go (Unadvertise a) k = all-filter A (λ b. not (th.covers_advert a b)) ads p
      go (Publish n) k = p

  module _ (net : Net th) (scripts : (c : ℕ) → All (λ (x : PhasedCommand th). KeepsCommand x.command) (net.script c)) where
    sent-kept : (s : ServerState th) (t l : ℕ) → ((i : ℕ) → All F (s.subs i)) → All F (sent th net s t l)
    sent-kept s t l k = all-filter F (is_root th.covers th.before (needed th net s t l)) (needed th net s t l) (all-filter F (λ f. not net.adverts || some_pass (th.overlaps f) (s.advs l)) _ (all-except F th.before s.subs l (interfaces th net t) k))

    sent-adverts-kept : (s : ServerState th) (t l : ℕ) → ((i : ℕ) → All A (s.advs i)) → All A (sent_adverts th net s t l)
    sent-adverts-kept s t l k = all-cond A net.adverts _ _ (all-filter A (is_root th.covers_advert th.before_advert (needed_adverts th net s t l)) (needed_adverts th net s t l) (all-except A th.before_advert s.advs l (interfaces th net t) k)) (all-none A)

    pub filter-change-kept : (old new : List th.Filter) → All F old → All F new → All KeepsMessage (filter_change th net old new)
    filter-change-kept old new p q = all-cond KeepsMessage (same_list th.before old new) _ _ (all-none KeepsMessage)
        (all-one KeepsMessage (Subs (minus th.before old new) (minus th.before new old)) (all-filter F (λ x. not (member th.before x new)) old p, all-filter F (λ x. not (member th.before x old)) new q))

    advert-change-kept : (old new : List th.Advert) → All A old → All A new → All KeepsMessage (advert_change th net old new)
    advert-change-kept old new p q = all-cond KeepsMessage (same_list th.before_advert old new) _ _ (all-none KeepsMessage)
        (all-one KeepsMessage (Advs (minus th.before_advert old new) (minus th.before_advert new old)) (all-filter A (λ x. not (member th.before_advert x new)) old p, all-filter A (λ x. not (member th.before_advert x old)) new q))

    messages-kept : (s v : ServerState th) (t l : ℕ) → KeepsServer s → KeepsServer v → All KeepsMessage (messages_to th net s v t l)
    messages-kept s v t l k h = all-append KeepsMessage (filter_change th net (sent th net s t l) (sent th net v t l)) (advert_change th net (sent_adverts th net s t l) (sent_adverts th net v t l))
        (filter-change-kept (sent th net s t l) (sent th net v t l) (sent-kept s t l k.subs) (sent-kept v t l h.subs))
        (advert-change-kept (sent_adverts th net s t l) (sent_adverts th net v t l) (sent-adverts-kept s t l k.advs) (sent-adverts-kept v t l h.advs))

    -- a work
    pub record KeepsOutcome (r : Outcome (ServerState th) (Message th)) : Type 0 where
      pub state : KeepsServer r.state
      pub outs : (l : ℕ) → All KeepsMessage (r.outs l)

    full-kept : (t : ℕ) (s : ServerState th) (w : Work th) → KeepsServer s → KeepsWork w → KeepsOutcome (full_effect th net t s w)
    full-kept t s (SetsFilters i fs) k h =
        let new : KeepsServer (full_effect th net t s (SetsFilters i fs)).state = record { subs = all-at F s.subs i fs k.subs h; advs = k.advs; installed = k.installed; inbox = k.inbox } in
        record { state = new; outs = λ l. messages-kept s (full_effect th net t s (SetsFilters i fs)).state t l k new }
    full-kept t s (SetsAdverts i ads) k h =
        let new : KeepsServer (full_effect th net t s (SetsAdverts i ads)).state = record { subs = k.subs; advs = all-at A s.advs i ads k.advs h; installed = k.installed; inbox = k.inbox } in
        record { state = new; outs = λ l. messages-kept s (full_effect th net t s (SetsAdverts i ads)).state t l k new }
    full-kept t s (Routes i q o n) k h = record {
      state = record {
        subs = k.subs;
        advs = k.advs;
        installed = k.installed;
        inbox = λ c. all-cond (λ (p : Publication th). N p.notice) _ _ _
            (all-append (λ (p : Publication th). N p.notice) (s.inbox c) _ (k.inbox c) (all-one (λ (p : Publication th). N p.notice) (record { publisher = q; ordinal = o; notice = n }) h)) (k.inbox c);
      };
      outs = λ l. all-cond KeepsMessage (not (l == i) && some_pass (th.matches n) (s.installed l)) (Noticed q o n ∷ []) [] (all-one KeepsMessage (Noticed q o n) h) (all-none KeepsMessage);
    }
    full-kept t s InstallsTable k h = record { state = record { subs = k.subs; advs = k.advs; installed = k.subs; inbox = k.inbox }; outs = λ l. all-none KeepsMessage }
    full-kept t s Nothing k h = record { state = k; outs = λ l. all-none KeepsMessage }

    effect-kept : (t : ℕ) (s : ServerState th) (w : Work th) → KeepsServer s → KeepsWork w → KeepsOutcome (effect th net t s w)
    effect-kept t s w k h =
        let r = full-kept t s w k h in
        record { state = r.state; outs = λ l. all-cond KeepsMessage (is_among l (net.links t)) _ _ (r.outs l) (all-none KeepsMessage) }

    pub command-kept : (c n : ℕ) (x : Command th) → KeepsCommand x → KeepsWork (command_work th net c n x)
    command-kept c n (Subscribe f) k = filters-kept [] (take (suc n) (net.script c)) (all-none F) (all-take _ (suc n) (net.script c) (scripts c))
    command-kept c n (Unsubscribe f) k = filters-kept [] (take (suc n) (net.script c)) (all-none F) (all-take _ (suc n) (net.script c) (scripts c))
    command-kept c n (Advertise a) k = go net.adverts
      where
        go : (b : Bool) → KeepsWork (cond b (SetsAdverts (client_interface c) (adverts_after th [] (take (suc n) (net.script c)))) Nothing)
        go true = adverts-kept [] (take (suc n) (net.script c)) (all-none A) (all-take _ (suc n) (net.script c) (scripts c))
        go false = tt
    command-kept c n (Unadvertise a) k = go net.adverts
      where
        go : (b : Bool) → KeepsWork (cond b (SetsAdverts (client_interface c) (adverts_after th [] (take (suc n) (net.script c)))) Nothing)
        go true = adverts-kept [] (take (suc n) (net.script c)) (all-none A) (all-take _ (suc n) (net.script c) (scripts c))
        go false = tt
    command-kept c n (Publish m) k = go (accepts th net (adverts_after th [] (take n (net.script c))) m)
      where
        go : (b : Bool) → KeepsWork (cond b (Routes (client_interface c) c (ordinal th (take (suc n) (net.script c))) m) Nothing)
        go true = k
        go false = tt

    pub message-kept : (s : ServerState th) (from : ℕ) (m : Message th) → KeepsServer s → KeepsMessage m → KeepsWork (message_work th net s from m)
    message-kept s from (Subs out add) k h = all-union F th.before _ add (all-filter F (λ x. not (member th.before x out)) (s.subs from) (k.subs from)) h.1
    message-kept s from (Advs out add) k h = all-union A th.before_advert _ add (all-filter A (λ x. not (member th.before_advert x out)) (s.advs from) (k.advs from)) h.1
    message-kept s from (Noticed q o n) k h = h

    -- a step
    outcome-kept : (t : ℕ) (s : ServerState th) (i : Input Task (Message th)) (r : Outcome (ServerState th) (Message th)) → KeepsServer s
        → ((from : ℕ) (m : Message th) → i ≡ Receives from m → KeepsMessage m) → local_step th net t s i ≡ Some r → KeepsOutcome r
    outcome-kept t s (Does (NextCommand c)) r k g e = by (is_among t net.servers && is_among c (net.clients t)) e
      where
        next : (o : Option (PhasedCommand th)) → slice_get (net.script c) (s.done c) ≡ o → command_outcome th net t s c o ≡ Some r → KeepsOutcome r
        next None f e = absurd cc
        next (Some x) f e =
            subst KeepsOutcome (same_Some (effect th net t (with_command_executed th net s c) (command_work th net c (s.done c) x.command)) r e)
            (effect-kept t (with_command_executed th net s c) (command_work th net c (s.done c) x.command)
            (record { subs = k.subs; advs = k.advs; installed = k.installed; inbox = k.inbox })
            (command-kept c (s.done c) x.command (all-get (λ (y : PhasedCommand th). KeepsCommand y.command) (net.script c) (s.done c) x f (scripts c))))

        by : (b : Bool) → cond b (command_outcome th net t s c (slice_get (net.script c) (s.done c))) None ≡ Some r → KeepsOutcome r
        by true e = next (slice_get (net.script c) (s.done c)) refl e
        by false e = absurd cc
    outcome-kept t s (Does TableUpdate) r k g e = by (is_among t net.servers && s.pending) e
      where
        by : (b : Bool) → cond b (Some (effect th net t s InstallsTable)) None ≡ Some r → KeepsOutcome r
        by true e = subst KeepsOutcome (same_Some (effect th net t s InstallsTable) r e) (effect-kept t s InstallsTable k tt)
        by false e = absurd cc
    outcome-kept t s (Receives from m) r k g e = by (is_among t net.servers && is_among from (net.links t)) e
      where
        by : (b : Bool) → cond b (Some (effect th net t s (message_work th net s from m))) None ≡ Some r → KeepsOutcome r
        by true e =
            subst KeepsOutcome (same_Some (effect th net t s (message_work th net s from m)) r e)
            (effect-kept t s (message_work th net s from m) k (message-kept s from m k (g from m refl)))
        by false e = absurd cc

    -- a network
    kept-after : (s : State th) (t : ℕ) (i : Input Task (Stamped (Message th))) (r : Outcome (ServerState th) (Message th)) → KeepsState s → KeepsOutcome r
        → KeepsState (off th net (network_after (routing_machine th net) (on th net s) t i r))
    kept-after s t i r k o = record {
      servers = λ u. go (u == t) (k.servers u);
      put = λ a b. all-cond Keeps (a == t) _ _ (all-append Keeps (s.put a b) (stamped (routing_machine th net) stamp (r.outs b)) (k.put a b) (all-stamped (r.outs b) (o.outs b))) (k.put a b);
    }
      where
        Keeps : Stamped (Message th) → Type 0
        Keeps m = KeepsMessage m.message

        stamp : ℕ
        stamp = next_stamp (routing_machine th net) (s.clock t) i

        all-stamped : (ms : List (Message th)) → All KeepsMessage ms → All (λ (m : Stamped (Message th)). KeepsMessage m.message) (stamped (routing_machine th net) stamp ms)
        all-stamped ms p = all-map Keeps (λ m. record { stamp = stamp; message = m }) ms p

        go : {u : ℕ} (b : Bool) → KeepsServer (s.state u) → KeepsServer (cond b r.state (s.state u))
        go true h = o.state
        go false h = h

    outcome-there : (s : State th) (t : ℕ) (i : Input Task (Stamped (Message th))) → KeepsState s → IsAvailable (routing_machine th net) (on th net s) t i
        → (r : Outcome (ServerState th) (Message th)) → local_step th net t (s.state t) (unstamped (routing_machine th net) i) ≡ Some r → KeepsOutcome r
    outcome-there s t (Does task) k h r e = outcome-kept t (s.state t) (Does task) r (k.servers t) (λ from m f. absurd cc) e
    outcome-there s t (Receives from x) k h r e = outcome-kept t (s.state t) (Receives from x.message) r (k.servers t)
        (λ u m f. (let same : x.message ≡ m = cc in subst KeepsMessage same (all-get (λ (z : Stamped (Message th)). KeepsMessage z.message) (s.put from t) (s.taken from t) x h (k.put from t)))) e

    -- a turn, possible or not
    turn-kept : (s : State th) (t : ℕ) (a : Act Task) → KeepsState s → KeepsState (off th net (turn (routing_machine th net) (on th net s) t a))
    turn-kept s t (Did task) k = done (local_step th net t (s.state t) (Does task)) refl
      where
        done : (o : Option (Outcome (ServerState th) (Message th))) → local_step th net t (s.state t) (Does task) ≡ o
            → KeepsState (off th net (after_outcome (routing_machine th net) (on th net s) t (Does task) o))
        done None e = k
        done (Some r) e = kept-after s t (Does task) r k (outcome-there s t (Does task) k tt r e)
    turn-kept s t (Received from) k = next (slice_get (s.put from t) (s.taken from t)) refl
      where
        done : (m : Stamped (Message th)) → slice_get (s.put from t) (s.taken from t) ≡ Some m → (o : Option (Outcome (ServerState th) (Message th))) → local_step th net t (s.state t) (Receives from m.message) ≡ o
            → KeepsState (off th net (after_outcome (routing_machine th net) (on th net s) t (Receives from m) o))
        done m h None e = k
        done m h (Some r) e = kept-after s t (Receives from m) r k (outcome-there s t (Receives from m) k h r e)

        next : (o : Option (Stamped (Message th))) → slice_get (s.put from t) (s.taken from t) ≡ o
            → KeepsState (off th net (after_input (routing_machine th net) (on th net s) t (reception_of (routing_machine th net) from o)))
        next None e = k
        next (Some m) e = done m e (local_step th net t (s.state t) (Receives from m.message)) refl

    -- the messages of an act
    messages-there : (s : State th) (t : ℕ) (a : Act Task) (link : ℕ) → KeepsState s → All KeepsMessage (outs_of (routing_machine th net) (outcome_at (routing_machine th net) (on th net s) t a) link)
    messages-there s t (Did task) link k = done (local_step th net t (s.state t) (Does task)) refl
      where
        done : (o : Option (Outcome (ServerState th) (Message th))) → local_step th net t (s.state t) (Does task) ≡ o → All KeepsMessage (outs_of (routing_machine th net) o link)
        done None e = all-none KeepsMessage
        done (Some r) e = (outcome-there s t (Does task) k tt r e).outs link
    messages-there s t (Received from) link k = next (slice_get (s.put from t) (s.taken from t)) refl
      where
        done : (m : Stamped (Message th)) → slice_get (s.put from t) (s.taken from t) ≡ Some m → (o : Option (Outcome (ServerState th) (Message th))) → local_step th net t (s.state t) (Receives from m.message) ≡ o → All KeepsMessage (outs_of (routing_machine th net) o link)
        done m h None e = all-none KeepsMessage
        done m h (Some r) e = (outcome-there s t (Receives from m) k h r e).outs link

        next : (o : Option (Stamped (Message th))) → slice_get (s.put from t) (s.taken from t) ≡ o → All KeepsMessage (outs_of (routing_machine th net) (outcome_of (routing_machine th net) (on th net s) t (reception_of (routing_machine th net) from o)) link)
        next None e = all-none KeepsMessage
        next (Some m) e = done m e (local_step th net t (s.state t) (Receives from m.message)) refl

    -- what flows over a tree
    held-kept : {T : Type 0} (P : T → Type 0) (homes : ℕ → ℕ → List T) (t : ℕ) (of_links : ℕ → List T) → ((u i : ℕ) → All P (homes u i)) → ((i : ℕ) → All P (of_links i)) → (i : ℕ) → All P (holds th net homes t of_links i)
    held-kept P homes t of_links p q i = all-cond P (is_among i (net.links t)) (of_links i) (homes t i) (q i) (p t i)

    adverts-flow : (homes : ℕ → ℕ → List th.Advert) (n t u : ℕ) → ((v i : ℕ) → All A (homes v i)) → All A (flowing (make_ad th net homes) [] n t u)
    adverts-flow homes zero t u p = all-none A
    adverts-flow homes (suc n) t u p =
        sent-adverts-kept (server_of th net (λ i. []) (holds th net homes u (flowing (make_ad th net homes) [] n u))) u t
        (held-kept A homes u (flowing (make_ad th net homes) [] n u) p (λ v. adverts-flow homes n u v p))

    filters-flow : (homes : ℕ → ℕ → List th.Filter) (adverts : ℕ → ℕ → List th.Advert) (n t u : ℕ) → ((v i : ℕ) → All F (homes v i)) → All F (flowing (make_sub th net homes adverts) [] n t u)
    filters-flow homes adverts zero t u p = all-none F
    filters-flow homes adverts (suc n) t u p =
        sent-kept (server_of th net (holds th net homes u (flowing (make_sub th net homes adverts) [] n u)) (λ i. adverts u t)) u t
        (held-kept F homes u (flowing (make_sub th net homes adverts) [] n u) p (λ v. filters-flow homes adverts n u v p))

  -- a net over trees by phase
  module _ (net : PhasedNet th) (scripts : (c : ℕ) → All (λ (x : PhasedCommand th). KeepsCommand x.command) (net.script c)) where
    clients-kept : {T : Type 0} (P : T → Type 0) (other : Net th) (links : ℕ → List ℕ) (hop : ℕ → ℕ → ℕ) (sets : ℕ → List T) → ((i : ℕ) → All P (sets i)) → (i : ℕ) → All P (client_sets th other links hop sets i)
    clients-kept P other links hop sets p i = all-cond P (nat_lt 64 i) (sets i) [] (p i) (all-none P)

    changed-kept : (p k : ℕ) (s : State th) → KeepsState s → KeepsState (with_tree_changed th net p k s)
    changed-kept p k s h = record {
      servers = λ t. record {
        subs = subs t;
        advs = held-kept there scripts A (λ u. client_sets th (net_at th net p) links hop (s.state u).advs) t (flow_ad th there (λ u. client_sets th (net_at th net p) links hop (s.state u).advs) t)
            (λ u. clients-kept A (net_at th net p) links hop (s.state u).advs (h.servers u).advs)
            (λ u. adverts-flow there scripts (λ v. client_sets th (net_at th net p) links hop (s.state v).advs) (length net.servers) t u (λ v. clients-kept A (net_at th net p) links hop (s.state v).advs (h.servers v).advs));
        installed = subs t;
        inbox = (h.servers t).inbox;
      };
      put = λ a b. all-none (λ (m : Stamped (Message th)). KeepsMessage m.message);
    }
      where
        links : ℕ → List ℕ
        links = (tree_at th net k).links

        hop : ℕ → ℕ → ℕ
        hop = (tree_at th net k).hop

        there : Net th
        there = net_at th net k

        subs : (t i : ℕ) → All F (((with_tree_changed th net p k s).state t).subs i)
        subs t = held-kept (net_at th net k) scripts F (λ u. client_sets th (net_at th net p) (tree_at th net k).links (tree_at th net k).hop (s.state u).subs) t
            (flow th (net_at th net k) (λ u. client_sets th (net_at th net p) (tree_at th net k).links (tree_at th net k).hop (s.state u).subs) (λ u. client_sets th (net_at th net p) (tree_at th net k).links (tree_at th net k).hop (s.state u).advs) t)
            (λ u. clients-kept F (net_at th net p) (tree_at th net k).links (tree_at th net k).hop (s.state u).subs (h.servers u).subs)
            (λ u. filters-flow (net_at th net k) scripts (λ v. client_sets th (net_at th net p) (tree_at th net k).links (tree_at th net k).hop (s.state v).subs)
            (flow_ad th (net_at th net k) (λ v. client_sets th (net_at th net p) (tree_at th net k).links (tree_at th net k).hop (s.state v).advs)) (length net.servers) t u
            (λ v. clients-kept F (net_at th net p) (tree_at th net k).links (tree_at th net k).hop (s.state v).subs (h.servers v).subs))

    begun-kept : (p k : ℕ) (s : State th) → KeepsState s → KeepsState (begun th net p k s)
    begun-kept p k s h = go (is_one_tree th net p k)
      where
        go : (b : Bool) → KeepsState (cond b (with_clocks_raised th net p s) (with_tree_changed th net p k s))
        go true = record { servers = h.servers; put = h.put }
        go false = changed-kept p k s h

    as-kept : (m : Moment th net) (o : Option ℕ) → KeepsState m.state → KeepsState (as_found th net m o).state
    as-kept m None h = h
    as-kept m (Some k) h = go (m.phase == k)
      where
        go : (b : Bool) → KeepsState (let x : Moment th net = cond b m (record { state = begun th net m.phase k m.state; phase = k }) in x).state
        go true = h
        go false = begun-kept m.phase k m.state h

    found-kept : (m : Moment th net) (e : JournalEntry) → KeepsState m.state → KeepsState (found_by th net m e).state
    found-kept m e h = as-kept m (command_phase th net m e) h

    acted-kept : (m : Moment th net) (e : JournalEntry) → KeepsState m.state → KeepsState (acted th net m e).state
    acted-kept m e h = turn-kept (net_at th net m.phase) scripts m.state e.server e.act h

    pub after-kept : (es : List JournalEntry) (n : ℕ) (m : Moment th net) → KeepsState m.state → KeepsState (moment_after th net m es n).state
    after-kept es zero m h = h
    after-kept [] (suc n) m h = h
    after-kept (e ∷ es) (suc n) m h = after-kept es n (acted th net (found_by th net m e) e) (acted-kept (found_by th net m e) e (found-kept m e h))

    pub found-after-kept : (es : List JournalEntry) (n : ℕ) (m : Moment th net) → KeepsState m.state → KeepsState (found_after th net m es n).state
    found-after-kept [] n m h = h
    found-after-kept (e ∷ es) zero m h = found-kept m e h
    found-after-kept (e ∷ es) (suc n) m h = found-after-kept es n (acted th net (found_by th net m e) e) (acted-kept (found_by th net m e) e (found-kept m e h))

    pub opening-kept : KeepsState (opening_moment th net).state
    opening-kept = record {
      servers = λ t. record { subs = λ i. all-none F; advs = λ i. all-none A; installed = λ i. all-none F; inbox = λ c. all-none (λ (p : Publication th). N p.notice) };
      put = λ a b. all-none (λ (m : Stamped (Message th)). KeepsMessage m.message);
    }

    -- the messages that an entry puts
    pub messages-kept-by : (m : Moment th net) (e : JournalEntry) (link : ℕ) → KeepsState m.state
        → All KeepsMessage (messages_of (machine_at th net m.phase) (at_phase th net m.phase m.state) (entry_on th (net_at th net m.phase) e) link)
    messages-kept-by m e link h = messages-there (net_at th net m.phase) scripts m.state e.server e.act link h
