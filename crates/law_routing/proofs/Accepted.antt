-- What is on a link or in an inbox is the notice of an accepted publication, under its id.
use Rattle.std.proofs.Common.{◌≡◌, ℕ, suc, ◌+◌, ◌≤◌, ◌<◌, ◌==◌, Bool, true, false, cond, not, ◌&&◌, ◌||◌, List, [], ◌∷◌, ◌++◌, ◌⊎◌, inl, inr, take, slice_get, Option, Some, None, refl, sym, ap, subst, ◌∙◌, arith, eq-eqb}
use Rattle.std.proofs.lemmas.Option.{same_Some}
use Rattle.law_machine.specs.Machine.{Has, at, Input, Does, Receives, Stamped, unstamped, stamped}
use Rattle.law_machine.specs.Network.{IsAvailable}
use Rattle.law_machine.specs.History.{IsHistory}
use Rattle.law_machine.proofs.Lists.{Same, Is, Not, compare}
use Rattle.base.specs.Sets.{same_list, minus}
use Rattle.law_routing.specs.Theory.{Theory}
use Rattle.law_routing.specs.Net.{Net, PhasedCommand, Command, Subscribe, Unsubscribe, Advertise, Unadvertise, Publish, NetLaws}
use Rattle.law_routing.specs.Server.{Message, Subs, Advs, Noticed, Publication, ServerState, is_among, sent, sent_adverts, filter_change, advert_change, messages_to}
use Rattle.law_routing.specs.Step.{Task, NextCommand, TableUpdate, Work, SetsFilters, SetsAdverts, Routes, InstallsTable, Nothing, with_filters, with_adverts, effect, command_work, next_work, message_work, work_of}
use Rattle.law_routing.specs.Clients.{some_pass, adverts_after, ordinal}
use Rattle.law_routing.specs.Routing.{routing_machine, Network, NetEntry}
use Rattle.law_routing.specs.Works.{done_after, Works}
use Rattle.law_routing.specs.Order.{IsAccepted, IsAuthentic}
use Rattle.law_routing.proofs.Laws.{one-has, cond-some}
use Rattle.law_routing.proofs.Working.{state-here, state-other, all-along}
use Rattle.base.proofs.Sets.{has-append, get-has, has-map}

module _ (th : Theory) (net : Net th) (good : NetLaws th net) where
  -- with their theory
  abbrev notice : ℕ → ℕ → th.Notice → Message th
  notice p o n = Noticed p o n

  abbrev routing : ℕ → ℕ → ℕ → th.Notice → Work th
  routing i p o n = Routes i p o n

  abbrev advertising : ℕ → List th.Advert → Work th
  advertising i set = SetsAdverts i set

  abbrev publishes : Work th
  publishes = InstallsTable

  abbrev publishing : th.Notice → Command th
  publishing n = Publish n

  pub after-rises : (done : ℕ → ℕ) (d : Input Task (Stamped (Message th))) (c : ℕ) → done c ≤ done_after th net done d c
  after-rises done (Does (NextCommand b)) c = go (compare c b)
    where
      go : Same c b → done c ≤ at done b (suc (done b)) c
      go (Is e v) = rw v (omega (arith, ap done e))
      go (Not n v) = rw v (omega arith)
  after-rises done (Does TableUpdate) c = omega arith
  after-rises done (Receives s y) c = omega arith

  pub effect-done : (t : ℕ) (s : ServerState th) (k : Work th) → (effect th net t s k).state.done ≡ s.done
  effect-done t s (SetsFilters i set) = refl
  effect-done t s (SetsAdverts i set) = refl
  effect-done t s (Routes i p o n) = refl
  effect-done t s InstallsTable = refl
  effect-done t s Nothing = refl

  pub done-here : (w : Network th net) (e : NetEntry th net) (v : Network th net) (x : Works th net w e v) (s : ℕ) → s ≡ e.server → (c : ℕ) → (v.state s).done c ≡ done_after th net (w.state e.server).done x.deed c
  done-here w e v x s p c = ap (λ z. z.done c) (state-here th net w e v x s p) ∙ (ap (λ z. z c) (effect-done e.server x.from x.work) ∙ ap (λ z. z c) x.done)

  pub done-rises : (w : Network th net) (e : NetEntry th net) (v : Network th net) → Works th net w e v → (s c : ℕ) → (w.state s).done c ≤ (v.state s).done c
  done-rises w e v x s c = go (compare s e.server)
    where
      go : Same s e.server → (w.state s).done c ≤ (v.state s).done c
      go (Is p f) = omega (arith, done-here w e v x s p c, after-rises (w.state e.server).done x.deed c, ap (λ z. (w.state z).done c) p)
      go (Not n f) = omega (arith, ap (λ z. z.done c) (state-other th net w e v x s n))

  accepted-rises : (w : Network th net) (e : NetEntry th net) (v : Network th net) → Works th net w e v → (q o : ℕ) (n : th.Notice) → IsAccepted th net w q o n → IsAccepted th net v q o n
  accepted-rises w e v x q o n a = record { index = a.index; taken = omega (arith, a.taken, done-rises w e v x (net.home q) q); command = a.command; at = a.at; publishes = a.publishes; ordinal = a.ordinal; allowed = a.allowed }

  -- which message of a work is a notice
  change-plain : (old new : List th.Filter) (p o : ℕ) (n : th.Notice) → Has (notice p o n) (filter_change th net old new) → ⊥
  change-plain old new p o n h = go (same_list th.before old new) h
    where
      go : (b : Bool) → Has (notice p o n) (cond b [] (Subs (minus th.before old new) (minus th.before new old) ∷ [])) → ⊥
      go true h = h
      go false (inl e) = cc
      go false (inr h) = h

  change_adverts-plain : (old new : List th.Advert) (p o : ℕ) (n : th.Notice) → Has (notice p o n) (advert_change th net old new) → ⊥
  change_adverts-plain old new p o n h = go (same_list th.before_advert old new) h
    where
      go : (b : Bool) → Has (notice p o n) (cond b [] (Advs (minus th.before_advert old new) (minus th.before_advert new old) ∷ [])) → ⊥
      go true h = h
      go false (inl e) = cc
      go false (inr h) = h

  differ-plain : (s s' : ServerState th) (t b p o : ℕ) (n : th.Notice) → Has (notice p o n) (messages_to th net s s' t b) → ⊥
  differ-plain s s' t b p o n h = elim (has-append (Noticed p o n) (filter_change th net (sent th net s t b) (sent th net s' t b)) (advert_change th net (sent_adverts th net s t b) (sent_adverts th net s' t b)) h) [
    | inl i ↦ change-plain (sent th net s t b) (sent th net s' t b) p o n i
    | inr i ↦ change_adverts-plain (sent_adverts th net s t b) (sent_adverts th net s' t b) p o n i
  ]

  inside : (b : Bool) (x : Message th) (xs : List (Message th)) → Has x (cond b xs []) → Has x xs
  inside true x xs h = h
  inside false x xs h = absurd h

  pub sends-routed : (t : ℕ) (s : ServerState th) (k : Work th) (b p o : ℕ) (n : th.Notice) → Has (notice p o n) ((effect th net t s k).outs b) → (i : ℕ) × (k ≡ Routes i p o n)
  sends-routed t s (SetsFilters i set) b p o n h = absurd (differ-plain s (with_filters th net s i set) t b p o n (inside (is_among b (net.links t)) (Noticed p o n) _ h))
  sends-routed t s (SetsAdverts i set) b p o n h = absurd (differ-plain s (with_adverts th net s i set) t b p o n (inside (is_among b (net.links t)) (Noticed p o n) _ h))
  sends-routed t s (Routes i p' o' n') b p o n h = go (is_among b (net.links t)) (not (b == i) && some_pass (th.matches n') (s.installed b)) h
    where
      go : (x y : Bool) → Has (notice p o n) (cond x (cond y (Noticed p' o' n' ∷ []) []) []) → (j : ℕ) × (routing i p' o' n' ≡ routing j p o n)
      go true true (inl e) = (i, same e)
        where
          same : notice p o n ≡ notice p' o' n' → routing i p' o' n' ≡ routing i p o n
          same e = cc
      go true true (inr h) = absurd h
      go true false h = absurd h
      go false y h = absurd h
  sends-routed t s InstallsTable b p o n h = absurd (inside (is_among b (net.links t)) (Noticed p o n) [] h)
  sends-routed t s Nothing b p o n h = absurd (inside (is_among b (net.links t)) (Noticed p o n) [] h)

  pub gives-routed : (t : ℕ) (s : ServerState th) (k : Work th) (c : ℕ) (x : Publication th) → Has x ((effect th net t s k).state.inbox c) → Has x (s.inbox c) ⊎ ((i : ℕ) × (k ≡ Routes i x.publisher x.ordinal x.notice))
  gives-routed t s (SetsFilters i set) c x h = inl h
  gives-routed t s (SetsAdverts i set) c x h = inl h
  gives-routed t s (Routes i p o n) c x h = go (is_among c (net.clients t) && some_pass (th.matches n) (s.installed (64 + c))) h
    where
      go : (b : Bool) → Has x (cond b (s.inbox c ++ record { publisher = p; ordinal = o; notice = n } ∷ []) (s.inbox c)) → Has x (s.inbox c) ⊎ ((j : ℕ) × (routing i p o n ≡ routing j x.publisher x.ordinal x.notice))
      go true h = elim (has-append x (s.inbox c) (record { publisher = p; ordinal = o; notice = n } ∷ []) h) [
        | inl a ↦ inl a
        | inr b ↦ inr (i, elim b [ inl e ↦ ap (λ (z : Publication th). routing i z.publisher z.ordinal z.notice) (sym e) | inr z ↦ absurd z ])
      ]
      go false h = inl h
  gives-routed t s InstallsTable c x h = inl h
  gives-routed t s Nothing c x h = inl h

  -- what is routed was accepted
  asked-accepted : (w : Network th net) (t c : ℕ) (x : PhasedCommand th) (y : Command th) (i q o : ℕ) (n : th.Notice) → x.command ≡ y → slice_get (net.script c) ((w.state t).done c) ≡ Some x → command_work th net c ((w.state t).done c) y ≡ Routes i q o n
      → (c ≡ q) × (y ≡ Publish n) × (ordinal th (take (suc ((w.state t).done c)) (net.script c)) ≡ o) × (not net.adverts || some_pass (λ a. th.allows a n) (adverts_after th [] (take ((w.state t).done c) (net.script c))) ≡ true)
  asked-accepted w t c x (Subscribe f) i q o n e g a = absurd cc
  asked-accepted w t c x (Unsubscribe f) i q o n e g a = absurd cc
  asked-accepted w t c x (Advertise b) i q o n e g a = absurd (go net.adverts a)
    where
      go : (z : Bool) → cond z (advertising (64 + c) (adverts_after th [] (take (suc ((w.state t).done c)) (net.script c)))) Nothing ≡ routing i q o n → ⊥
      go true e = cc
      go false e = cc
  asked-accepted w t c x (Unadvertise b) i q o n e g a = absurd (go net.adverts a)
    where
      go : (z : Bool) → cond z (advertising (64 + c) (adverts_after th [] (take (suc ((w.state t).done c)) (net.script c)))) Nothing ≡ routing i q o n → ⊥
      go true e = cc
      go false e = cc
  asked-accepted w t c x (Publish m) i q o n e g a = go (not net.adverts || some_pass (λ b. th.allows b m) (adverts_after th [] (take ((w.state t).done c) (net.script c)))) refl a
    where
      go : (z : Bool) → not net.adverts || some_pass (λ b. th.allows b m) (adverts_after th [] (take ((w.state t).done c) (net.script c))) ≡ z
          → cond z (routing (64 + c) c (ordinal th (take (suc ((w.state t).done c)) (net.script c))) m) Nothing ≡ routing i q o n
          → (c ≡ q) × (publishing m ≡ publishing n) × (ordinal th (take (suc ((w.state t).done c)) (net.script c)) ≡ o) × (not net.adverts || some_pass (λ b. th.allows b n) (adverts_after th [] (take ((w.state t).done c) (net.script c))) ≡ true)
      go false f a = absurd cc
      go true f a = (first a, ap publishing (last a), third a, subst (λ z. not net.adverts || some_pass (λ b. th.allows b z) (adverts_after th [] (take ((w.state t).done c) (net.script c))) ≡ true) (last a) f)
        where
          first : routing (64 + c) c (ordinal th (take (suc ((w.state t).done c)) (net.script c))) m ≡ routing i q o n → c ≡ q
          first e = cc

          third : routing (64 + c) c (ordinal th (take (suc ((w.state t).done c)) (net.script c))) m ≡ routing i q o n → ordinal th (take (suc ((w.state t).done c)) (net.script c)) ≡ o
          third e = cc

          last : routing (64 + c) c (ordinal th (take (suc ((w.state t).done c)) (net.script c))) m ≡ routing i q o n → m ≡ n
          last e = cc

  pub received-is : (s : ServerState th) (u i q o : ℕ) (n : th.Notice) (x : Message th) → message_work th net s u x ≡ Routes i q o n → (x ≡ Noticed q o n) × (u ≡ i)
  received-is s u i q o n (Subs out add) e = absurd cc
  received-is s u i q o n (Advs out add) e = absurd cc
  received-is s u i q o n (Noticed p k m) e = (a e, b e)
    where
      a : routing u p k m ≡ routing i q o n → notice p k m ≡ notice q o n
      a e = cc

      b : routing u p k m ≡ routing i q o n → u ≡ i
      b e = cc

  -- the publisher's own command, or a message of a link
  pub data Origin (w : Network th net) (t : ℕ) (d : Input Task (Stamped (Message th))) (i q o : ℕ) (n : th.Notice) : Type 0 where
    Published : d ≡ Does (NextCommand q) → Has q (net.clients t) → (x : PhasedCommand th) → slice_get (net.script q) ((w.state t).done q) ≡ Some x → x.command ≡ Publish n → ordinal th (take (suc ((w.state t).done q)) (net.script q)) ≡ o
        → not net.adverts || some_pass (λ a. th.allows a n) (adverts_after th [] (take ((w.state t).done q) (net.script q))) ≡ true → Origin w t d i q o n
    Forwarded : (y : Stamped (Message th)) → d ≡ Receives i y → Has i (net.links t) → slice_get (w.put i t) (w.taken i t) ≡ Some y → y.message ≡ Noticed q o n → Origin w t d i q o n

  pub origin : (w : Network th net) (t : ℕ) (d : Input Task (Stamped (Message th))) (i q o : ℕ) (n : th.Notice) → IsAvailable (routing_machine th net) w t d → work_of th net t (w.state t) (unstamped (routing_machine th net) d) ≡ Some (Routes i q o n) → Origin w t d i q o n
  origin w t (Does (NextCommand c)) i q o n given e =
      let f = cond-some (is_among t net.servers) (is_among c (net.clients t)) (next_work th net c ((w.state t).done c) (slice_get (net.script c) ((w.state t).done c))) (Routes i q o n) e in
      go (slice_get (net.script c) ((w.state t).done c)) refl f.2 (one-has c (net.clients t) f.1)
    where
      go : (m : Option (PhasedCommand th)) → slice_get (net.script c) ((w.state t).done c) ≡ m → next_work th net c ((w.state t).done c) m ≡ Some (Routes i q o n) → Has c (net.clients t) → Origin w t (Does (NextCommand c)) i q o n
      go None g f lives = absurd cc
      go (Some x) g f lives =
          let a = asked-accepted w t c x x.command i q o n refl g (same_Some _ _ f) in
          subst (λ z. Has z (net.clients t) → slice_get (net.script z) ((w.state t).done z) ≡ Some x → ordinal th (take (suc ((w.state t).done z)) (net.script z)) ≡ o → not net.adverts || some_pass (λ b. th.allows b n) (adverts_after th [] (take ((w.state t).done z) (net.script z))) ≡ true → Origin w t (Does (NextCommand z)) i q o n) (sym a.0)
          (λ l g' o' al. Published refl l x g' a.1 o' al) lives g a.2 a.3
  origin w t (Does TableUpdate) i q o n given e =
      let f = cond-some (is_among t net.servers) (w.state t).pending (Some InstallsTable) (Routes i q o n) e in absurd (never f.2)
    where
      never : Some publishes ≡ Some (routing i q o n) → ⊥
      never e = cc
  origin w t (Receives u y) i q o n given e =
      let f = cond-some (is_among t net.servers) (is_among u (net.links t)) (Some (message_work th net (w.state t) u y.message)) (Routes i q o n) e in
      let a = received-is (w.state t) u i q o n y.message (same_Some _ _ f.2) in
      subst (λ z. Has z (net.links t) → slice_get (w.put z t) (w.taken z t) ≡ Some y → Origin w t (Receives z y) i q o n) (sym a.1) (λ l g. Forwarded y refl l g a.0) (one-has u (net.links t) f.1) given

  -- what a work routes was accepted
  routed-accepted : (w : Network th net) (e : NetEntry th net) (v : Network th net) → Works th net w e v → IsAuthentic th net w → (d : Input Task (Stamped (Message th))) → (i q o : ℕ) (n : th.Notice) → Origin w e.server d i q o n → ((c : ℕ) → done_after th net (w.state e.server).done d c ≤ (v.state e.server).done c) → IsAccepted th net v q o n
  routed-accepted w e v x auth d i q o n (Published p lives c slot is ord allowed) more =
      let home : net.home q ≡ e.server = good.lives e.server q lives in
      record { index = (w.state e.server).done q; taken = subst (λ z. (w.state e.server).done q < (v.state z).done q) (sym home) (omega (arith, one q (w.state e.server).done, subst (λ z. done_after th net (w.state e.server).done z q ≤ (v.state e.server).done q) p (more q))); command = c; at = slot; publishes = is; ordinal = ord; allowed = allowed }
    where
      one : (q : ℕ) (f : ℕ → ℕ) → Rattle.law_machine.specs.Machine.at f q (suc (f q)) q ≡ suc (f q)
      one q f = rw (eq-eqb q q refl) refl
  routed-accepted w e v x auth d i q o n (Forwarded y p near g m) more = accepted-rises w e v x q o n (auth.put i e.server y q o n (get-has (w.put i e.server) (w.taken i e.server) y g) m)

  pub authentic-next : (w : Network th net) (e : NetEntry th net) (v : Network th net) → Works th net w e v → IsAuthentic th net w → IsAuthentic th net v
  authentic-next w e v x auth = record { put = put; given = given }
    where
      routed : (i q o : ℕ) (n : th.Notice) → x.work ≡ Routes i q o n → IsAccepted th net v q o n
      routed i q o n k = routed-accepted w e v x auth x.deed i q o n (origin w e.server x.deed i q o n x.given (x.possible ∙ ap Some k)) (λ c. omega (arith, done-here w e v x e.server refl c))

      put : (a b : ℕ) (y : Stamped (Message th)) (q o : ℕ) (n : th.Notice) → Has y (v.put a b) → y.message ≡ Noticed q o n → IsAccepted th net v q o n
      put a b y q o n h m = go (compare a e.server)
        where
          old : Has y (w.put a b) → IsAccepted th net v q o n
          old i = accepted-rises w e v x q o n (auth.put a b y q o n i m)

          new : Has y (stamped (routing_machine th net) x.stamp ((effect th net e.server x.from x.work).outs b)) → IsAccepted th net v q o n
          new i =
              let f = has-map (λ z. record { stamp = x.stamp; message = z }) ((effect th net e.server x.from x.work).outs b) y i in
              let same : f.0 ≡ notice q o n = ap (λ (z : Stamped (Message th)). z.message) (sym f.2) ∙ m in
              let r = sends-routed e.server x.from x.work b q o n (subst (λ z. Has z ((effect th net e.server x.from x.work).outs b)) same f.1) in
              routed r.0 q o n r.1

          go : Same a e.server → IsAccepted th net v q o n
          go (Is p f) = elim (has-append y (w.put a b) (stamped (routing_machine th net) x.stamp ((effect th net e.server x.from x.work).outs b)) (subst (Has y) (ap (λ z. z a b) x.put ∙ rw f refl) h)) [ inl i ↦ old i | inr i ↦ new i ]
          go (Not k f) = old (subst (Has y) (ap (λ z. z a b) x.put ∙ rw f refl) h)

      given : (t c : ℕ) (y : Publication th) → Has y ((v.state t).inbox c) → IsAccepted th net v y.publisher y.ordinal y.notice
      given t c y h = go (compare t e.server)
        where
          old : Has y ((w.state t).inbox c) → IsAccepted th net v y.publisher y.ordinal y.notice
          old i = accepted-rises w e v x y.publisher y.ordinal y.notice (auth.given t c y i)

          go : Same t e.server → IsAccepted th net v y.publisher y.ordinal y.notice
          go (Is p f) = elim (gives-routed e.server x.from x.work c y (subst (λ z. Has y (z.inbox c)) (state-here th net w e v x t p) h)) [
            | inl i ↦ old (subst (λ z. Has y ((w.state z).inbox c)) (sym p) (subst (λ z. Has y (z c)) x.counts.inbox i))
            | inr r ↦ routed r.0 y.publisher y.ordinal y.notice r.1
          ]
          go (Not k f) = old (subst (λ z. Has y (z.inbox c)) (state-other th net w e v x t k) h)

  pub authentic-all : (J : List (NetEntry th net)) (h : ℕ → Network th net) (ph : ℕ → ℕ) → IsHistory (routing_machine th net) J h ph → IsAuthentic th net (h 0) → (n : ℕ) → IsAuthentic th net (h n)
  authentic-all J h ph history base = all-along th net J h ph history (λ n w. IsAuthentic th net w) base (λ n f p. p) (λ n e v f x p. authentic-next (h n) e v x p)
