-- What a server holds of a client is the client's list, and what is installed is what is held where nothing is pending.
use Rattle.std.proofs.Common.{◌≡◌, ℕ, zero, suc, ◌+◌, ◌≤◌, ◌==◌, Bool, true, false, cond, not, ◌||◌, List, [], ◌∷◌, take, slice_get, Option, Some, None, refl, sym, ap, subst, ◌∙◌, arith}
use Rattle.std.proofs.lemmas.Option.{same_Some}
use Rattle.law_machine.specs.Machine.{Has, Input, Does, Receives, Stamped, unstamped}
use Rattle.law_machine.specs.History.{IsHistory}
use Rattle.law_machine.proofs.Lists.{Same, Is, Not, compare, at-same, at-other}
use Rattle.law_routing.specs.Theory.{Theory}
use Rattle.law_routing.specs.Net.{Net, PhasedCommand, Command, Subscribe, Unsubscribe, Advertise, Unadvertise, Publish, NetLaws}
use Rattle.law_routing.specs.Server.{Message, Subs, Advs, Noticed, ServerState, is_among}
use Rattle.law_routing.specs.Step.{Task, NextCommand, TableUpdate, Work, SetsFilters, SetsAdverts, Routes, InstallsTable, Nothing, effect, command_work, next_work, message_work, work_of}
use Rattle.law_routing.specs.Clients.{some_pass, filters_step, filters_after, adverts_step, adverts_after, ordinal}
use Rattle.law_routing.specs.Routing.{routing_machine, Network, NetEntry}
use Rattle.law_routing.specs.Works.{done_after, Works}
use Rattle.law_routing.specs.Rest.{filters_of, adverts_of, IsAtRest}
use Rattle.law_routing.proofs.Laws.{one-has, cond-some}
use Rattle.law_routing.proofs.Working.{state-here, state-other, all-along}
use Rattle.law_routing.proofs.Accepted.{done-here}

module _ (th : Theory) (net : Net th) where
  pub filters-next : (cs : List (PhasedCommand th)) (fs : List th.Filter) (j : ℕ) (x : PhasedCommand th) → slice_get cs j ≡ Some x → filters_after th fs (take (suc j) cs) ≡ filters_step th (filters_after th fs (take j cs)) x.command
  filters-next [] fs j x e = absurd cc
  filters-next (c ∷ cs) fs zero x e = ap (λ (z : PhasedCommand th). filters_step th fs z.command) (same_Some _ _ e)
  filters-next (c ∷ cs) fs (suc j) x e = filters-next cs (filters_step th fs c.command) j x e

  pub adverts-next : (cs : List (PhasedCommand th)) (fs : List th.Advert) (j : ℕ) (x : PhasedCommand th) → slice_get cs j ≡ Some x → adverts_after th fs (take (suc j) cs) ≡ adverts_step th (adverts_after th fs (take j cs)) x.command
  adverts-next [] fs j x e = absurd cc
  adverts-next (c ∷ cs) fs zero x e = ap (λ (z : PhasedCommand th). adverts_step th fs z.command) (same_Some _ _ e)
  adverts-next (c ∷ cs) fs (suc j) x e = adverts-next cs (adverts_step th fs c.command) j x e

  -- of client c: its lists after j commands are these
  pub record Lists (c j : ℕ) (fs : List th.Filter) (xs : List th.Advert) : Type 0 where
    pub filters : fs ≡ filters_after th [] (take j (net.script c))
    pub adverts : net.adverts ≡ true → xs ≡ adverts_after th [] (take j (net.script c))

  abbrev pub IsListed : Network th net → Type 0
  IsListed w = (t c : ℕ) → Has c (net.clients t) → Lists c ((w.state t).done c) ((w.state t).subs (64 + c)) ((w.state t).advs (64 + c))

  -- the client's own command
  asked-own : (t c : ℕ) (s : ServerState th) (j : ℕ) (x : PhasedCommand th) (y : Command th) → x.command ≡ y → slice_get (net.script c) j ≡ Some x → Lists c j (s.subs (64 + c)) (s.advs (64 + c))
      → Lists c (suc j) ((effect th net t s (command_work th net c j y)).state.subs (64 + c)) ((effect th net t s (command_work th net c j y)).state.advs (64 + c))
  asked-own t c s j x (Subscribe f) e g l = record { filters = at-same s.subs (64 + c) (filters_after th [] (take (suc j) (net.script c))); adverts = λ o. l.adverts o ∙ sym (adverts-next (net.script c) [] j x g ∙ ap (adverts_step th (adverts_after th [] (take j (net.script c)))) e) }
  asked-own t c s j x (Unsubscribe f) e g l = record { filters = at-same s.subs (64 + c) (filters_after th [] (take (suc j) (net.script c))); adverts = λ o. l.adverts o ∙ sym (adverts-next (net.script c) [] j x g ∙ ap (adverts_step th (adverts_after th [] (take j (net.script c)))) e) }
  asked-own t c s j x (Advertise a) e g l = go net.adverts refl
    where
      same : s.subs (64 + c) ≡ filters_after th [] (take (suc j) (net.script c))
      same = l.filters ∙ sym (filters-next (net.script c) [] j x g ∙ ap (filters_step th (filters_after th [] (take j (net.script c)))) e)

      go : (b : Bool) → net.adverts ≡ b → Lists c (suc j) ((effect th net t s (cond b (SetsAdverts (64 + c) (adverts_after th [] (take (suc j) (net.script c)))) Nothing)).state.subs (64 + c)) ((effect th net t s (cond b (SetsAdverts (64 + c) (adverts_after th [] (take (suc j) (net.script c)))) Nothing)).state.advs (64 + c))
      go true o = record { filters = same; adverts = λ o. at-same s.advs (64 + c) (adverts_after th [] (take (suc j) (net.script c))) }
      go false o = record { filters = same; adverts = λ o'. absurd (grind (arith, o, o')) }
  asked-own t c s j x (Unadvertise a) e g l = go net.adverts refl
    where
      same : s.subs (64 + c) ≡ filters_after th [] (take (suc j) (net.script c))
      same = l.filters ∙ sym (filters-next (net.script c) [] j x g ∙ ap (filters_step th (filters_after th [] (take j (net.script c)))) e)

      go : (b : Bool) → net.adverts ≡ b → Lists c (suc j) ((effect th net t s (cond b (SetsAdverts (64 + c) (adverts_after th [] (take (suc j) (net.script c)))) Nothing)).state.subs (64 + c)) ((effect th net t s (cond b (SetsAdverts (64 + c) (adverts_after th [] (take (suc j) (net.script c)))) Nothing)).state.advs (64 + c))
      go true o = record { filters = same; adverts = λ o. at-same s.advs (64 + c) (adverts_after th [] (take (suc j) (net.script c))) }
      go false o = record { filters = same; adverts = λ o'. absurd (grind (arith, o, o')) }
  asked-own t c s j x (Publish n) e g l = go (not net.adverts || some_pass (λ a. th.allows a n) (adverts_after th [] (take j (net.script c))))
    where
      go : (b : Bool) → Lists c (suc j) ((effect th net t s (cond b (Routes (64 + c) c (ordinal th (take (suc j) (net.script c))) n) Nothing)).state.subs (64 + c)) ((effect th net t s (cond b (Routes (64 + c) c (ordinal th (take (suc j) (net.script c))) n) Nothing)).state.advs (64 + c))
      go true = record { filters = l.filters ∙ sym (filters-next (net.script c) [] j x g ∙ ap (filters_step th (filters_after th [] (take j (net.script c)))) e); adverts = λ o. l.adverts o ∙ sym (adverts-next (net.script c) [] j x g ∙ ap (adverts_step th (adverts_after th [] (take j (net.script c)))) e) }
      go false = record { filters = l.filters ∙ sym (filters-next (net.script c) [] j x g ∙ ap (filters_step th (filters_after th [] (take j (net.script c)))) e); adverts = λ o. l.adverts o ∙ sym (adverts-next (net.script c) [] j x g ∙ ap (adverts_step th (adverts_after th [] (take j (net.script c)))) e) }

  -- which interface a work touches
  abbrev pub Off : Work th → ℕ → Type 0
  Off (SetsFilters i set) v = v ≡ i → ⊥
  Off (SetsAdverts i set) v = v ≡ i → ⊥
  Off (Routes i p o n) v = Unit {0}
  Off InstallsTable v = Unit {0}
  Off Nothing v = Unit {0}

  pub off-subs : (t : ℕ) (s : ServerState th) (k : Work th) (v : ℕ) → Off k v → (effect th net t s k).state.subs v ≡ s.subs v
  off-subs t s (SetsFilters i set) v n = at-other s.subs i set v n
  off-subs t s (SetsAdverts i set) v n = refl
  off-subs t s (Routes i p o x) v n = refl
  off-subs t s InstallsTable v n = refl
  off-subs t s Nothing v n = refl

  pub off-advs : (t : ℕ) (s : ServerState th) (k : Work th) (v : ℕ) → Off k v → (effect th net t s k).state.advs v ≡ s.advs v
  off-advs t s (SetsFilters i set) v n = refl
  off-advs t s (SetsAdverts i set) v n = at-other s.advs i set v n
  off-advs t s (Routes i p o x) v n = refl
  off-advs t s InstallsTable v n = refl
  off-advs t s Nothing v n = refl

  ask-off : (c j : ℕ) (y : Command th) (v : ℕ) → (v ≡ 64 + c → ⊥) → Off (command_work th net c j y) v
  ask-off c j (Subscribe f) v n = n
  ask-off c j (Unsubscribe f) v n = n
  ask-off c j (Advertise a) v n = go net.adverts
    where
      go : (b : Bool) → Off (cond b (SetsAdverts (64 + c) (adverts_after th [] (take (suc j) (net.script c)))) Nothing) v
      go true = n
      go false = tt
  ask-off c j (Unadvertise a) v n = go net.adverts
    where
      go : (b : Bool) → Off (cond b (SetsAdverts (64 + c) (adverts_after th [] (take (suc j) (net.script c)))) Nothing) v
      go true = n
      go false = tt
  ask-off c j (Publish m) v n = go (not net.adverts || some_pass (λ a. th.allows a m) (adverts_after th [] (take j (net.script c))))
    where
      go : (b : Bool) → Off (cond b (Routes (64 + c) c (ordinal th (take (suc j) (net.script c))) m) Nothing) v
      go true = tt
      go false = tt

  receive-off : (s : ServerState th) (u : ℕ) (y : Message th) (v : ℕ) → (v ≡ u → ⊥) → Off (message_work th net s u y) v
  receive-off s u (Subs out add) v n = n
  receive-off s u (Advs out add) v n = n
  receive-off s u (Noticed p o m) v n = tt

  module _ (good : NetLaws th net) where
    -- the acting server's clients
    listed-here : (w : Network th net) (t c : ℕ) (d : Input Task (Stamped (Message th))) (from : ServerState th) (k : Work th) → Has c (net.clients t) → from.subs ≡ (w.state t).subs → from.advs ≡ (w.state t).advs → work_of th net t (w.state t) (unstamped (routing_machine th net) d) ≡ Some k
        → Lists c ((w.state t).done c) (from.subs (64 + c)) (from.advs (64 + c)) → Lists c (done_after th net (w.state t).done d c) ((effect th net t from k).state.subs (64 + c)) ((effect th net t from k).state.advs (64 + c))
    listed-here w t c (Does (NextCommand b)) from k lives p r e l =
        let f = cond-some (is_among t net.servers) (is_among b (net.clients t)) (next_work th net b ((w.state t).done b) (slice_get (net.script b) ((w.state t).done b))) k e in
        go (slice_get (net.script b) ((w.state t).done b)) refl f.2 (compare c b)
      where
        go : (m : Option (PhasedCommand th)) → slice_get (net.script b) ((w.state t).done b) ≡ m → next_work th net b ((w.state t).done b) m ≡ Some k → Same c b → Lists c (cond (c == b) (suc ((w.state t).done b)) ((w.state t).done c)) ((effect th net t from k).state.subs (64 + c)) ((effect th net t from k).state.advs (64 + c))
        go None g a y = absurd cc
        go (Some x) g a (Is q v) =
            subst (λ z. Lists c (cond z (suc ((w.state t).done b)) ((w.state t).done c)) ((effect th net t from k).state.subs (64 + c)) ((effect th net t from k).state.advs (64 + c))) (sym v)
            (subst (λ z. Lists c (suc ((w.state t).done b)) ((effect th net t from z).state.subs (64 + c)) ((effect th net t from z).state.advs (64 + c))) (same_Some _ _ a)
            (subst (λ z. Lists z (suc ((w.state t).done b)) ((effect th net t from (command_work th net b ((w.state t).done b) x.command)).state.subs (64 + z)) ((effect th net t from (command_work th net b ((w.state t).done b) x.command)).state.advs (64 + z))) (sym q)
            (asked-own t b from ((w.state t).done b) x x.command refl g (subst (λ z. Lists z ((w.state t).done z) (from.subs (64 + z)) (from.advs (64 + z))) q l))))
        go (Some x) g a (Not n v) =
            let off : Off k (64 + c) = subst (λ z. Off z (64 + c)) (same_Some _ _ a) (ask-off b ((w.state t).done b) x.command (64 + c) (λ h. n (omega (arith, h)))) in
            subst (λ z. Lists c (cond z (suc ((w.state t).done b)) ((w.state t).done c)) ((effect th net t from k).state.subs (64 + c)) ((effect th net t from k).state.advs (64 + c))) (sym v)
            (record { filters = off-subs t from k (64 + c) off ∙ l.filters; adverts = λ o. off-advs t from k (64 + c) off ∙ l.adverts o })
    listed-here w t c (Does TableUpdate) from k lives p r e l =
        let f = cond-some (is_among t net.servers) (w.state t).pending (Some InstallsTable) k e in
        let off : Off k (64 + c) = subst (λ z. Off z (64 + c)) (same_Some _ _ f.2) tt in
        record { filters = off-subs t from k (64 + c) off ∙ l.filters; adverts = λ o. off-advs t from k (64 + c) off ∙ l.adverts o }
    listed-here w t c (Receives u y) from k lives p r e l =
        let f = cond-some (is_among t net.servers) (is_among u (net.links t)) (Some (message_work th net (w.state t) u y.message)) k e in
        let low : u ≤ 64 = good.small t u (one-has u (net.links t) f.1) in
        let one : 1 ≤ c = good.counted t c lives in
        let off : Off k (64 + c) = subst (λ z. Off z (64 + c)) (same_Some _ _ f.2) (receive-off (w.state t) u y.message (64 + c) (λ q. omega (arith, q, low, one))) in
        record { filters = off-subs t from k (64 + c) off ∙ l.filters; adverts = λ o. off-advs t from k (64 + c) off ∙ l.adverts o }

    listed-next : (w : Network th net) (e : NetEntry th net) (v : Network th net) → Works th net w e v → IsListed w → IsListed v
    listed-next w e v x l t c lives = go (compare t e.server)
      where
        go : Same t e.server → Lists c ((v.state t).done c) ((v.state t).subs (64 + c)) ((v.state t).advs (64 + c))
        go (Not n f) = subst (λ (z : ServerState th). Lists c (z.done c) (z.subs (64 + c)) (z.advs (64 + c))) (sym (state-other th net w e v x t n)) (l t c lives)
        go (Is p f) =
            let lives' : Has c (net.clients e.server) = subst (λ z. Has c (net.clients z)) p lives in
            let before = l e.server c lives' in
            let old : Lists c ((w.state e.server).done c) (x.from.subs (64 + c)) (x.from.advs (64 + c)) = record { filters = ap (λ z. z (64 + c)) x.counts.subs ∙ before.filters; adverts = λ o. ap (λ z. z (64 + c)) x.counts.advs ∙ before.adverts o } in
            let new = listed-here w e.server c x.deed x.from x.work lives' x.counts.subs x.counts.advs x.possible old in
            let here = state-here th net w e v x t p in
            subst (λ z. Lists c z ((v.state t).subs (64 + c)) ((v.state t).advs (64 + c))) (sym (done-here th net good w e v x t p c))
            (record { filters = ap (λ z. z.subs (64 + c)) here ∙ new.filters; adverts = λ o. ap (λ z. z.advs (64 + c)) here ∙ new.adverts o })

    module _ (J : List (NetEntry th net)) (h : ℕ → Network th net) (ph : ℕ → ℕ) (history : IsHistory (routing_machine th net) J h ph) (rest : IsAtRest th net (h 0)) where
      listed-all : (n : ℕ) → IsListed (h n)
      listed-all = all-along th net J h ph history (λ n w. IsListed w)
          (λ t c lives. record { filters = rest.filters t c lives ∙ ap (λ z. filters_after th [] (take (((h 0).state z).done c) (net.script c))) (good.lives t c lives); adverts = λ o. rest.adverts t c lives o ∙ ap (λ z. adverts_after th [] (take (((h 0).state z).done c) (net.script c))) (good.lives t c lives) })
          (λ n f p. p) (λ n e v f x p. listed-next (h n) e v x p)

      -- what a server holds of its client is the client's list
      pub filters-are : (n t c : ℕ) → Has c (net.clients t) → ((h n).state t).subs (64 + c) ≡ filters_of th net (h n) c
      filters-are n t c lives = (listed-all n t c lives).filters ∙ ap (λ z. filters_after th [] (take (((h n).state z).done c) (net.script c))) (sym (good.lives t c lives))

      pub adverts-are : (n t c : ℕ) → Has c (net.clients t) → net.adverts ≡ true → ((h n).state t).advs (64 + c) ≡ adverts_of th net (h n) c
      adverts-are n t c lives o = (listed-all n t c lives).adverts o ∙ ap (λ z. adverts_after th [] (take (((h n).state z).done c) (net.script c))) (sym (good.lives t c lives))
