-- A step of a server of a hierarchy is possible exactly where the peer's is, and makes the same of it.
use Rattle.std.proofs.Common.{◌≡◌, ℕ, suc, ◌+◌, ◌==◌, Bool, true, false, cond, ◌&&◌, List, [], ◌∷◌, take, slice_get, Option, Some, None, refl, sym, ap, subst, ◌∙◌, ne_eqb, eq-eqb}
use Rattle.base.specs.Sets.{Has}
use Rattle.law_machine.specs.Machine.{Input, Does, Receives, Outcome, at}
use Rattle.law_machine.proofs.Lists.{Same, Is, Not, compare}
use Rattle.law_routing.specs.Theory.{Theory, TheoryLaws}
use Rattle.law_routing.specs.Net.{Net, Command, Subscribe, Unsubscribe, Advertise, Unadvertise, Publish, PhasedCommand}
use Rattle.law_routing.specs.Clients.{accepts, adverts_after, filters_after, ordinal}
use Rattle.law_routing.specs.Server.{Message, ServerState, is_among}
use Rattle.law_routing.specs.Step.{Task, NextCommand, TableUpdate, SetsFilters, SetsAdverts, Routes, InstallsTable, Nothing, with_command_executed, command_work, message_work}
use Rattle.law_routing.specs.Step.{effect as peer_effect, command_outcome as peer_outcome, local_step as peer_step}
use Rattle.law_routing.proofs.Laws.{one-has}
use Rattle.law_hierarchy.specs.Masters.{top, is_master, HierarchyLaws}
use Rattle.law_hierarchy.specs.Step.{effect, command_outcome, local_step}
use Rattle.law_hierarchy.proofs.Wide.{wide, said}
use Rattle.law_hierarchy.proofs.Listener.{listener, peers, wide-command, wide-next, wide-script, wide-get, wide-list, wide-ordinal, listens, fresh, other}
use Rattle.law_hierarchy.proofs.Shadow.{sent-on, input-on, is-subs, above, Alike, AlikeOutcome, link-above, client-above, sets, unheld, nothing, shows, routes, refused, taken}

cond-none : {X : Type 0} (o : Option X) (b : Bool) → o ≡ None → cond b o None ≡ None
cond-none o true e = e
cond-none o false e = refl

module _ (th : Theory) (laws : TheoryLaws th) (net : Net th) (good : HierarchyLaws th net) where
  -- both are possible and alike, or none is
  abbrev pub AlikeSteps : ℕ → Option (Outcome (ServerState th) (Message th)) → Option (Outcome (ServerState (wide th)) (Message (wide th))) → Type 0
  AlikeSteps t None None = Unit {0}
  AlikeSteps t (Some r) (Some r') = AlikeOutcome th laws net good t r r'
  AlikeSteps t None (Some r') = ⊥
  AlikeSteps t (Some r) None = ⊥

  module _ (t : ℕ) (here : Has t net.servers) (s : ServerState th) (s' : ServerState (wide th)) (alike : Alike th laws net good t s s') where
    counted : (c : ℕ) → (c == listener th net) ≡ false → Alike th laws net good t (with_command_executed th net s c) (with_command_executed (wide th) (peers th net) s' c)
    counted c n = record { subs = alike.subs; installed = alike.installed; pending = alike.pending; done = done; inbox = alike.inbox }
      where
        now : s'.done c ≡ s.done c
        now = alike.done c ∙ rw n refl

        done : (b : ℕ) → at s'.done c (suc (s'.done c)) b ≡ cond (b == listener th net) 1 (at s.done c (suc (s.done c)) b)
        done b = go (compare b c)
          where
            go : Same b c → cond (b == c) (suc (s'.done c)) (s'.done b) ≡ cond (b == listener th net) 1 (cond (b == c) (suc (s.done c)) (s.done b))
            go (Is e v) = let m : (b == listener th net) ≡ false = ap (λ z. z == listener th net) e ∙ n in rw (v, m) (ap suc now)
            go (Not m v) = rw v (alike.done b)

    commanded : (c : ℕ) → Has c (net.clients t) → (x : PhasedCommand th)
        → AlikeOutcome th laws net good t (effect th net t (with_command_executed th net s c) (command_work th net c (s.done c) x.command))
        (peer_effect (wide th) (peers th net) t (with_command_executed (wide th) (peers th net) s' c) (command_work (wide th) (peers th net) c (s'.done c) (wide-command th net (adverts_after th [] (take (s.done c) (net.script c))) x.command)))
    commanded c lives x = go x.command
      where
        n : (c == listener th net) ≡ false
        n = other th net good t c lives

        now : s'.done c ≡ s.done c
        now = alike.done c ∙ rw n refl

        script : (peers th net).script c ≡ wide-script th net [] (net.script c)
        script = rw n refl

        before : ServerState th
        before = with_command_executed th net s c

        before' : ServerState (wide th)
        before' = with_command_executed (wide th) (peers th net) s' c

        low : above th laws net good t (64 + c) ≡ false
        low = client-above th laws net good t c here lives

        list : filters_after (wide th) [] (take (suc (s'.done c)) ((peers th net).script c)) ≡ said (filters_after th [] (take (suc (s.done c)) (net.script c)))
        list = (λ i. filters_after (wide th) [] (take (suc (now i)) (script i))) ∙ wide-list th net (net.script c) (suc (s.done c))

        number : ordinal (wide th) (take (suc (s'.done c)) ((peers th net).script c)) ≡ ordinal th (take (suc (s.done c)) (net.script c))
        number = (λ i. ordinal (wide th) (take (suc (now i)) (script i))) ∙ wide-ordinal th net (net.script c) (suc (s.done c))

        set : AlikeOutcome th laws net good t (effect th net t (with_command_executed th net s c) (SetsFilters (64 + c) (filters_after th [] (take (suc (s.done c)) (net.script c)))))
            (peer_effect (wide th) (peers th net) t (with_command_executed (wide th) (peers th net) s' c) (SetsFilters (64 + c) (filters_after (wide th) [] (take (suc (s'.done c)) ((peers th net).script c)))))
        set = subst (λ z. AlikeOutcome th laws net good t (effect th net t (with_command_executed th net s c) (SetsFilters (64 + c) (filters_after th [] (take (suc (s.done c)) (net.script c))))) (peer_effect (wide th) (peers th net) t (with_command_executed (wide th) (peers th net) s' c) (SetsFilters (64 + c) z))) (sym list)
            (sets th laws net good t here (with_command_executed th net s c) (with_command_executed (wide th) (peers th net) s' c) (counted c n) (64 + c) (filters_after th [] (take (suc (s.done c)) (net.script c))) low)

        advert : (b : Bool) (xs : List th.Advert) → AlikeOutcome th laws net good t (effect th net t (with_command_executed th net s c) (cond b (SetsAdverts (64 + c) xs) Nothing)) (peer_effect (wide th) (peers th net) t (with_command_executed (wide th) (peers th net) s' c) Nothing)
        advert true xs = unheld th laws net good t here (with_command_executed th net s c) (with_command_executed (wide th) (peers th net) s' c) (counted c n) (64 + c) xs
        advert false xs = nothing th laws net good t here (with_command_executed th net s c) (with_command_executed (wide th) (peers th net) s' c) (counted c n)

        publish : (notice : th.Notice) (b : Bool) → AlikeOutcome th laws net good t (effect th net t (with_command_executed th net s c) (cond b (Routes (64 + c) c (ordinal th (take (suc (s.done c)) (net.script c))) notice) Nothing))
            (peer_effect (wide th) (peers th net) t (with_command_executed (wide th) (peers th net) s' c) (Routes (64 + c) c (ordinal (wide th) (take (suc (s'.done c)) ((peers th net).script c))) (cond b (Some notice) None)))
        publish notice true = subst (λ z. AlikeOutcome th laws net good t (effect th net t (with_command_executed th net s c) (Routes (64 + c) c (ordinal th (take (suc (s.done c)) (net.script c))) notice)) (peer_effect (wide th) (peers th net) t (with_command_executed (wide th) (peers th net) s' c) (Routes (64 + c) c z (Some notice)))) (sym number)
            (routes th laws net good t here (with_command_executed th net s c) (with_command_executed (wide th) (peers th net) s' c) (counted c n) (64 + c) c (ordinal th (take (suc (s.done c)) (net.script c))) notice)
        publish notice false = refused th laws net good t here (with_command_executed th net s c) (with_command_executed (wide th) (peers th net) s' c) (counted c n) (64 + c) c (ordinal (wide th) (take (suc (s'.done c)) ((peers th net).script c)))

        go : (k : Command th) → AlikeOutcome th laws net good t (effect th net t (with_command_executed th net s c) (command_work th net c (s.done c) k))
            (peer_effect (wide th) (peers th net) t (with_command_executed (wide th) (peers th net) s' c) (command_work (wide th) (peers th net) c (s'.done c) (wide-command th net (adverts_after th [] (take (s.done c) (net.script c))) k)))
        go (Subscribe f) = set
        go (Unsubscribe f) = set
        go (Advertise a) = advert net.adverts (adverts_after th [] (take (suc (s.done c)) (net.script c)))
        go (Unadvertise a) = advert net.adverts (adverts_after th [] (take (suc (s.done c)) (net.script c)))
        go (Publish notice) = publish notice (accepts th net (adverts_after th [] (take (s.done c) (net.script c))) notice)

    -- a next command, where there is one
    next-alike : (c : ℕ) → Has c (net.clients t) → AlikeSteps t (command_outcome th net t s c (slice_get (net.script c) (s.done c))) (peer_outcome (wide th) (peers th net) t s' c (slice_get ((peers th net).script c) (s'.done c)))
    next-alike c lives = subst (λ z. AlikeSteps t (command_outcome th net t s c (slice_get (net.script c) (s.done c))) (peer_outcome (wide th) (peers th net) t s' c z)) (sym found) (go (slice_get (net.script c) (s.done c)))
      where
        n : (c == listener th net) ≡ false
        n = other th net good t c lives

        now : s'.done c ≡ s.done c
        now = alike.done c ∙ rw n refl

        script : (peers th net).script c ≡ wide-script th net [] (net.script c)
        script = rw n refl

        found : slice_get ((peers th net).script c) (s'.done c) ≡ wide-next th net (adverts_after th [] (take (s.done c) (net.script c))) (slice_get (net.script c) (s.done c))
        found = (λ i. slice_get (script i) (now i)) ∙ wide-get th net [] (net.script c) (s.done c)

        go : (o : Option (PhasedCommand th)) → AlikeSteps t (command_outcome th net t s c o) (peer_outcome (wide th) (peers th net) t s' c (wide-next th net (adverts_after th [] (take (s.done c) (net.script c))) o))
        go None = tt
        go (Some x) = commanded c lives x

    no-more : (c : ℕ) → c ≡ listener th net → peer_outcome (wide th) (peers th net) t s' c (slice_get ((peers th net).script c) (s'.done c)) ≡ None
    no-more c e = ap (peer_outcome (wide th) (peers th net) t s' c) ((λ i. slice_get (script i) (now i)))
      where
        v : (c == listener th net) ≡ true
        v = eq-eqb c (listener th net) e

        now : s'.done c ≡ 1
        now = alike.done c ∙ rw v refl

        script : (peers th net).script c ≡ listens th net
        script = rw v refl

    among-other : (c : ℕ) → (c ≡ listener th net → ⊥) → is_among c ((peers th net).clients t) ≡ is_among c (net.clients t)
    among-other c n = go (t == top)
      where
        go : (b : Bool) → is_among c (cond b (listener th net ∷ net.clients t) (net.clients t)) ≡ is_among c (net.clients t)
        go true = rw (ne_eqb c (listener th net) n) refl
        go false = refl

    command-alike : (c : ℕ) → AlikeSteps t (cond (is_among c (net.clients t)) (command_outcome th net t s c (slice_get (net.script c) (s.done c))) None)
        (cond (is_among c ((peers th net).clients t)) (peer_outcome (wide th) (peers th net) t s' c (slice_get ((peers th net).script c) (s'.done c))) None)
    command-alike c = go (is_among c (net.clients t)) refl
      where
        go : (b : Bool) → is_among c (net.clients t) ≡ b → AlikeSteps t (cond b (command_outcome th net t s c (slice_get (net.script c) (s.done c))) None)
            (cond (is_among c ((peers th net).clients t)) (peer_outcome (wide th) (peers th net) t s' c (slice_get ((peers th net).script c) (s'.done c))) None)
        go true e = let lives = one-has c (net.clients t) e in rw (among-other c (fresh th net good t c lives), e) (next-alike c lives)
        go false e = by (compare c (listener th net))
          where
            by : Same c (listener th net) → AlikeSteps t None (cond (is_among c ((peers th net).clients t)) (peer_outcome (wide th) (peers th net) t s' c (slice_get ((peers th net).script c) (s'.done c))) None)
            by (Not n v) = rw (among-other c n, e) tt
            by (Is p v) = subst (λ z. AlikeSteps t None z) (sym (cond-none (peer_outcome (wide th) (peers th net) t s' c (slice_get ((peers th net).script c) (s'.done c))) (is_among c ((peers th net).clients t)) (no-more c p))) tt

  -- filters are received from below alone
  abbrev pub IsFromBelow : ℕ → Input Task (Message th) → Type 0
  IsFromBelow t (Does a) = Unit {0}
  IsFromBelow t (Receives u x) = is-subs th x ≡ true → is_master th net t u ≡ false

  pub step-alike : (t : ℕ) (s : ServerState th) (s' : ServerState (wide th)) → Alike th laws net good t s s' → (d : Input Task (Message th)) → IsFromBelow t d → AlikeSteps t (local_step th net t s d) (peer_step (wide th) (peers th net) t s' (input-on th d))
  step-alike t s s' alike (Does (NextCommand c)) low = go (is_among t net.servers) refl
    where
      go : (b : Bool) → is_among t net.servers ≡ b → AlikeSteps t (cond (b && is_among c (net.clients t)) (command_outcome th net t s c (slice_get (net.script c) (s.done c))) None)
          (cond (b && is_among c ((peers th net).clients t)) (peer_outcome (wide th) (peers th net) t s' c (slice_get ((peers th net).script c) (s'.done c))) None)
      go true e = command-alike t (one-has t net.servers e) s s' alike c
      go false e = tt
  step-alike t s s' alike (Does TableUpdate) low = go (is_among t net.servers) s.pending refl alike.pending
    where
      go : (a b : Bool) → is_among t net.servers ≡ a → s'.pending ≡ b → AlikeSteps t (cond (a && b) (Some (effect th net t s InstallsTable)) None) (cond (a && s'.pending) (Some (peer_effect (wide th) (peers th net) t s' InstallsTable)) None)
      go false b e f = tt
      go true true e f = rw f (shows th laws net good t (one-has t net.servers e) s s' alike)
      go true false e f = rw f tt
  step-alike t s s' alike (Receives u x) low = go (is_among t net.servers) (is_among u (net.links t)) refl refl
    where
      go : (a b : Bool) → is_among t net.servers ≡ a → is_among u (net.links t) ≡ b → AlikeSteps t (cond (a && b) (Some (effect th net t s (message_work th net s u x))) None) (cond (a && b) (Some (peer_effect (wide th) (peers th net) t s' (message_work (wide th) (peers th net) s' u (sent-on th x)))) None)
      go false b e f = tt
      go true false e f = tt
      go true true e f = taken th laws net good t (one-has t net.servers e) s s' alike u x (λ g. link-above th laws net good t u (one-has u (net.links t) f) ∙ low g)
