-- What was routed at the home of a publisher before it installed is routed before that at each server.
use Rattle.std.proofs.Common.{◌≡◌, ℕ, zero, suc, ◌+◌, ◌≤◌, ◌<◌, ◌==◌, Bool, true, false, cond, not, ◌&&◌, List, [], ◌∷◌, ◌++◌, ◌⊎◌, inl, inr, length, slice_get, Some, refl, sym, ap, subst, ◌∙◌, arith, eq-eqb, length-append}
use Rattle.std.proofs.lemmas.Option.{slice_get_within, same_Some}
use Rattle.base.proofs.Numbers.{Same, Is, Not, compare}
use Rattle.law_machine.proofs.Numbers.{climb}
use Rattle.base_tree.specs.Hops.{side}
use Rattle.law_machine.specs.Machine.{Has, Input, Does, Receives, Stamped, unstamped, stamped}
use Rattle.law_machine.specs.Network.{taken_after}
use Rattle.law_machine.specs.History.{IsHistory}
use Rattle.law_routing.specs.Theory.{Theory, TheoryLaws}
use Rattle.law_routing.specs.Net.{Net, NetLaws}
use Rattle.law_routing.specs.Clients.{some_pass}
use Rattle.law_routing.specs.Server.{Message, Noticed, Publication, is_among}
use Rattle.law_routing.specs.Step.{Task, Routes, work_of, effect}
use Rattle.law_routing.specs.Routing.{routing_machine, Network, NetEntry}
use Rattle.law_routing.specs.Works.{work_at}
use Rattle.law_routing.specs.Order.{add_ordinal, ordinals_put, ordinals_maybe, ordinals_of_entry, ordinals_routed}
use Rattle.law_routing.specs.Rest.{IsOnwardWay, end_of}
use Rattle.law_routing.specs.AsOf.{IsRoutedAt}
use Rattle.law_routing.specs.LegalRun.{LegalRun, states, phases}
use Rattle.law_routing.proofs.Listing.{up-below}
use Rattle.law_routing.proofs.Sides.{one-way, side-here, side-hop, other-side}
use Rattle.law_routing.proofs.Working.{NextWorks, next-works}
use Rattle.law_routing.proofs.Accepted.{sends-routed, Origin, Published, Forwarded, origin}
use Rattle.law_routing.proofs.Started.{history as run-history, ordered-run}
use Rattle.law_routing.proofs.Passing.{PassWorks, pass-works}
use Rattle.law_routing.proofs.Paths.{path-to, way-side, way-by-hops}
use Rattle.std.proofs.lemmas.Bool.{cases_lt}
use Rattle.base.proofs.Sets.{has-append-left, has-append-right, get-has}
use Rattle.base.proofs.Lists.{get-append}

module _ (th : Theory) (laws : TheoryLaws th) (run : LegalRun th) where
  abbrev net : Net th
  net = run.net

  abbrev good : NetLaws th run.net
  good = run.laws

  abbrev J : List (NetEntry th run.net)
  J = run.journal

  abbrev h : ℕ → Network th run.net
  h = states th run

  abbrev history : IsHistory (routing_machine th run.net) run.journal (states th run) (phases th run)
  history = run-history th laws run

  -- an entry routes a publication at a server, where it came in by this interface
  abbrev pub Passes : ℕ → ℕ → ℕ → ℕ → ℕ → th.Notice → Type 0
  Passes m t i q o n = IsRoutedAt th run.net (states th run) run.journal m t i q o n

  -- counts of a link never fall
  put-more : (m u t : ℕ) → length ((h m).put u t) ≤ length ((h (suc m)).put u t)
  put-more m u t = go (next-works th net J h (phases th run) history m)
    where
      go : NextWorks th net J h (phases th run) history m → length ((h m).put u t) ≤ length ((h (suc m)).put u t)
      go (inl (f, e)) = omega (arith, ap (λ (z : Network th run.net). length (z.put u t)) e)
      go (inr (e, f, w)) = by (u == e.server) refl
        where
          by : (b : Bool) → (u == e.server) ≡ b → length ((h m).put u t) ≤ length ((h (suc m)).put u t)
          by true g =
              let new : List (Stamped (Message th)) = stamped (routing_machine th run.net) w.stamp ((effect th run.net e.server w.from w.work).outs t) in
              let same : (h (suc m)).put u t ≡ (h m).put u t ++ new = ap (λ z. z u t) w.put ∙ ap (λ z. cond z ((h m).put u t ++ new) ((h m).put u t)) g in
              omega (arith, ap length same, length-append ((h m).put u t) new)
          by false g =
              let new : List (Stamped (Message th)) = stamped (routing_machine th run.net) w.stamp ((effect th run.net e.server w.from w.work).outs t) in
              let same : (h (suc m)).put u t ≡ (h m).put u t = ap (λ z. z u t) w.put ∙ ap (λ z. cond z ((h m).put u t ++ new) ((h m).put u t)) g in
              omega (arith, ap length same)

  taken-more : (m u t : ℕ) → (h m).taken u t ≤ (h (suc m)).taken u t
  taken-more m u t = go (next-works th net J h (phases th run) history m)
    where
      more : (d : Input Task (Stamped (Message th))) (s : ℕ) → (h m).taken u t ≤ taken_after (routing_machine th run.net) (h m).taken s d u t
      more (Does a) s = omega arith
      more (Receives x y) s = by ((u == x) && (t == s))
        where
          by : (b : Bool) → (h m).taken u t ≤ cond b (suc ((h m).taken u t)) ((h m).taken u t)
          by true = omega arith
          by false = omega arith

      go : NextWorks th net J h (phases th run) history m → (h m).taken u t ≤ (h (suc m)).taken u t
      go (inl (f, e)) = omega (arith, ap (λ (z : Network th run.net). z.taken u t) e)
      go (inr (e, f, w)) = omega (arith, more w.deed e.server, ap (λ z. z u t) w.taken)

  pub put-rises : (a b u t : ℕ) → a ≤ b → length ((h a).put u t) ≤ length ((h b).put u t)
  put-rises a b u t l = climb (λ y. length ((h a).put u t) ≤ length ((h y).put u t)) a (omega arith) (λ y g r. omega (arith, r, put-more y u t)) b l

  pub taken-rises : (a b u t : ℕ) → a ≤ b → (h a).taken u t ≤ (h b).taken u t
  taken-rises a b u t l = climb (λ y. (h a).taken u t ≤ (h y).taken u t) a (omega arith) (λ y g r. omega (arith, r, taken-more y u t)) b l

  -- what stands on a link at a place was put there by an entry that routes it
  pub record Put (m u t k q o : ℕ) (n : th.Notice) : Type 0 where
    pub at : ℕ
    pub before : at < m
    pub interface : ℕ
    pub passes : Passes at u interface q o n
    pub place : length ((states th run at).put u t) ≡ k
    pub longer : k < length ((states th run (suc at)).put u t)

  was-put : (m u t k q o : ℕ) (n : th.Notice) (y : Stamped (Message th)) → slice_get ((h m).put u t) k ≡ Some y → y.message ≡ Noticed q o n → Put m u t k q o n
  was-put zero u t k q o n y e f = absurd (never (subst (λ z. slice_get z k ≡ Some y) (run.begins.fresh u t) e))
    where
      never : slice_get [] k ≡ Some y → ⊥
      never e = cc
  was-put (suc m) u t k q o n y e f = go (next-works th net J h (phases th run) history m) (λ d. was-put m u t k q o n y d f)
    where
      later : Put m u t k q o n → Put (suc m) u t k q o n
      later x = record { at = x.at; before = omega (arith, x.before); interface = x.interface; passes = x.passes; place = x.place; longer = x.longer }

      go : NextWorks th net J h (phases th run) history m → (slice_get ((h m).put u t) k ≡ Some y → Put m u t k q o n) → Put (suc m) u t k q o n
      go (inl (g, s)) ih = later (ih (subst (λ (z : Network th run.net). slice_get (z.put u t) k ≡ Some y) s e))
      go (inr (g, slot, w)) ih = by (compare u g.server)
        where
          by : Same u g.server → Put (suc m) u t k q o n
          by (Not a b) = later (ih (subst (λ z. slice_get z k ≡ Some y) same e))
            where
              same : (h (suc m)).put u t ≡ (h m).put u t
              same = ap (λ z. z u t) w.put ∙ rw b refl
          by (Is a b) = two (get-append ((h m).put u t) new k y (subst (λ z. slice_get z k ≡ Some y) all e))
            where
              new : List (Stamped (Message th))
              new = stamped (routing_machine th run.net) w.stamp ((effect th run.net g.server w.from w.work).outs t)

              all : (h (suc m)).put u t ≡ (h m).put u t ++ stamped (routing_machine th run.net) w.stamp ((effect th run.net g.server w.from w.work).outs t)
              all = ap (λ z. z u t) w.put ∙ rw b refl

              bare : (xs : List (Message th)) (j : ℕ) → slice_get (stamped (routing_machine th run.net) w.stamp xs) j ≡ Some y → slice_get xs j ≡ Some y.message
              bare [] j e = absurd cc
              bare (x ∷ xs) zero e = ap Some (ap (λ (z : Stamped (Message th)). z.message) (same_Some _ _ e))
              bare (x ∷ xs) (suc j) e = bare xs j e

              one : (i : ℕ) (b c : Bool) (j : ℕ) (x : Message th) → slice_get (cond b (cond c (Noticed q o n ∷ []) []) []) j ≡ Some x → j ≡ 0
              one i true true zero x e = refl
              one i true true (suc j) x e = absurd cc
              one i true false j x e = absurd cc
              one i false c j x e = absurd cc

              two : (slice_get ((h m).put u t) k ≡ Some y) ⊎ ((j : ℕ) × (k ≡ length ((h m).put u t) + j) × (slice_get new j ≡ Some y)) → Put (suc m) u t k q o n
              two (inl d) = later (ih d)
              two (inr (j, c, d)) =
                  let got : slice_get ((effect th run.net g.server w.from w.work).outs t) j ≡ Some (Noticed q o n) = bare ((effect th run.net g.server w.from w.work).outs t) j d ∙ ap Some f in
                  let r = sends-routed th run.net good g.server w.from w.work t q o n (get-has ((effect th run.net g.server w.from w.work).outs t) j (Noticed q o n) got) in
                  let first : j ≡ 0 = one r.0 (is_among t (run.net.links g.server)) (not (t == r.0) && some_pass (th.matches n) (w.from.installed t)) j (Noticed q o n) (subst (λ z. slice_get ((effect th run.net g.server w.from z).outs t) j ≡ Some (Noticed q o n)) r.1 got) in
                  record {
                    at = m;
                    before = omega arith;
                    interface = r.0;
                    passes = record { entry = g; at = slot; server = sym a; routes = ap (λ z. work_at th run.net (h m) z g.act) a ∙ (w.is ∙ ap Some r.1) };
                    place = omega (arith, c, first);
                    longer = omega (arith, slice_get_within ((h (suc m)).put u t) k y e);
                  }

  -- at home a publication is published; elsewhere it comes from the neighbour on the way there, which routed it before
  pub record Came (m t u q o : ℕ) (n : th.Notice) : Type 0 where
    pub near : Has u (run.net.links t)
    pub put : Put m u t ((states th run m).taken u t) q o n
    pub taken : (states th run (suc m)).taken u t ≡ suc ((states th run m).taken u t)
    pub toward : side run.net.hop t u (run.net.home q) ≡ true

  pub ordinal-of : (q o : ℕ) (n : th.Notice) (xs : List (Stamped (Message th))) (k : ℕ) (y : Stamped (Message th)) → slice_get xs k ≡ Some y → y.message ≡ Noticed q o n → Has o (ordinals_put th run.net q xs)
  ordinal-of q o n [] k y e f = absurd cc
  ordinal-of q o n (x ∷ xs) zero y e f =
      subst (λ z. Has o (add_ordinal th run.net q z (ordinals_put th run.net q xs))) (sym (ap (λ (z : Stamped (Message th)). z.message) (same_Some _ _ e) ∙ f)) (subst (λ b. Has o (cond b (o ∷ ordinals_put th run.net q xs) (ordinals_put th run.net q xs))) (sym (eq-eqb q q refl)) (inl refl))
  ordinal-of q o n (x ∷ xs) (suc k) y e f = keep x.message (ordinal-of q o n xs k y e f)
    where
      keep : (m : Message th) → Has o (ordinals_put th run.net q xs) → Has o (add_ordinal th run.net q m (ordinals_put th run.net q xs))
      keep (Rattle.law_routing.specs.Server.Subs out add) i = i
      keep (Rattle.law_routing.specs.Server.Advs out add) i = i
      keep (Noticed p x m) i = by (q == p)
        where
          by : (b : Bool) → Has o (cond b (x ∷ ordinals_put th run.net q xs) (ordinals_put th run.net q xs))
          by true = inr i
          by false = i

  took-one : (taken : ℕ → ℕ → ℕ) (t u : ℕ) (y : Stamped (Message th)) → taken_after (routing_machine th run.net) taken t (Receives u y) u t ≡ suc (taken u t)
  took-one taken t u y = rw (eq-eqb u u refl, eq-eqb t t refl) refl

  pub came : (m t i q o : ℕ) (n : th.Notice) → Passes m t i q o n → (t ≡ run.net.home q) ⊎ Came m t i q o n
  came m t i q o n p =
      let x = pass-works th run.net J h (phases th run) history m t i q o n p in
      go x (origin th run.net good (h m) t x.works.deed i q o n (subst (λ z. Rattle.law_machine.specs.Network.IsAvailable (routing_machine th run.net) (h m) z x.works.deed) x.server x.works.given)
      (subst (λ z. work_of th run.net z ((h m).state z) (unstamped (routing_machine th run.net) x.works.deed) ≡ Some (Routes i q o n)) x.server (x.works.possible ∙ ap Some x.is)))
    where
      go : (x : PassWorks th run.net J h (phases th run) history m t i q o n p.entry) → Origin th run.net good (h m) t x.works.deed i q o n → (t ≡ run.net.home q) ⊎ Came m t i q o n
      go x (Published d lives c slot is ord allowed) = inl (sym (good.lives t q lives))
      go x (Forwarded y d near g f) = inr (record {
        near = near;
        put = was-put m i t ((h m).taken i t) q o n y g f;
        taken = ap (λ z. z i t) x.works.taken ∙ (ap (λ z. taken_after (routing_machine th run.net) (h m).taken z x.works.deed i t) x.server ∙ (ap (λ z. taken_after (routing_machine th run.net) (h m).taken t z i t) d ∙ took-one (h m).taken t i y));
        toward = by (side run.net.hop t i (run.net.home q)) refl;
      })
        where
          by : (b : Bool) → side run.net.hop t i (run.net.home q) ≡ b → side run.net.hop t i (run.net.home q) ≡ true
          by true e = e
          by false e = absurd (subst (Has o) ((ordered-run th laws run q m).away i t (good.tree.both t i near) e) (ordinal-of q o n ((h m).put i t) ((h m).taken i t) y g f))

  -- only servers route
  pub server-routes : (m t i q o : ℕ) (n : th.Notice) → Passes m t i q o n → Has t run.net.servers
  server-routes m t i q o n p = go (came m t i q o n p)
    where
      go : (t ≡ run.net.home q) ⊎ Came m t i q o n → Has t run.net.servers
      go (inl e) = subst (λ z. Has z run.net.servers) (sym e) (good.housed q)
      go (inr c) = good.tree.linked t i c.near

  -- one publisher's publications pass a server in the order of their ordinals
  routed-ordinal : (m t i q o : ℕ) (n : th.Notice) → Passes m t i q o n → Has o (ordinals_of_entry th run.net q t (h m) (slice_get J m))
  routed-ordinal m t i q o n r =
      subst (λ z. Has o (ordinals_of_entry th run.net q t (h m) z)) (sym r.at)
      (subst (λ z. Has o (cond z (ordinals_maybe th run.net q (work_at th run.net (h m) r.entry.server r.entry.act)) [])) (sym (eq-eqb t r.entry.server (sym r.server)))
      (subst (λ z. Has o (ordinals_maybe th run.net q z)) (sym (ap (λ z. work_at th run.net (h m) z r.entry.act) r.server ∙ r.routes)) (subst (λ z. Has o (cond z (o ∷ []) [])) (sym (eq-eqb q q refl)) (inl refl))))

  pass-order : (a b t i j q o x : ℕ) (n k : th.Notice) → a < b → Passes a t i q o n → Passes b t j q x k → o < x
  pass-order a b t i j q o x n k less first second =
      up-below (ordinals_routed th run.net h J q b t) (ordinals_of_entry th run.net q t (h b) (slice_get J b)) ((ordered-run th laws run q (suc b)).routed_up t) o x
      (climb (λ y. Has o (ordinals_routed th run.net h J q y t)) (suc a) (has-append-right o (ordinals_routed th run.net h J q a t) (ordinals_of_entry th run.net q t (h a) (slice_get J a)) (routed-ordinal a t i q o n first))
      (λ y g r. has-append-left o (ordinals_routed th run.net h J q y t) (ordinals_of_entry th run.net q t (h y) (slice_get J y)) r) b less)
      (routed-ordinal b t j q x k second)

  -- and so once
  pub pass-once : (a b t i j q o : ℕ) (n k : th.Notice) → Passes a t i q o n → Passes b t j q o k → a ≡ b
  pass-once a b t i j q o n k first second = go (cases_lt a b) (cases_lt b a)
    where
      go : (a < b) ⊎ (b ≤ a) → (b < a) ⊎ (a ≤ b) → a ≡ b
      go (inl l) r = absurd (omega (arith, pass-order a b t i j q o o n k l first second))
      go (inr l) (inl r) = absurd (omega (arith, pass-order b a t j i q o o k n r second first))
      go (inr l) (inr r) = omega (arith, l, r)

  -- two that came over one link came in the order in which they were put
  fifo : (a b t u q o p x : ℕ) (n k : th.Notice) (c : Came a t u q o n) (d : Came b t u p x k) → c.put.at < d.put.at → a < b
  fifo a b t u q o p x n k c d less = go (cases_lt a b)
    where
      go : (a < b) ⊎ (b ≤ a) → a < b
      go (inl l) = l
      go (inr l) = absurd (omega (arith, taken-rises b a u t l, c.put.longer, d.put.place, put-rises (suc c.put.at) d.put.at u t less))

  not-side : (b : Bool) → (b ≡ true → ⊥) → b ≡ false
  not-side false n = refl
  not-side true n = absurd (n refl)

  first-is : (u v : ℕ) (path more : List ℕ) → u ∷ path ≡ v ∷ more → u ≡ v
  first-is u v path more e = cc

  turned : (t u : ℕ) (path : List ℕ) → IsOnwardWay th run.net t u path → (v : ℕ) (more : List ℕ) → path ≡ v ∷ more → v ≡ t → ⊥
  turned t u [] way v more e f = absurd cc
  turned t u (x ∷ path) way v more e f = way.1 (first-is x v path more e ∙ f)

  -- what an end of a way routed, and whose home does not lie that way, its beginning routed before
  pub back-to : (p x : ℕ) (n : th.Notice) (prior t : ℕ) (path : List ℕ) → IsOnwardWay th run.net prior t path → ((u : ℕ) (more : List ℕ) → path ≡ u ∷ more → side run.net.hop t u (run.net.home p) ≡ false)
      → (m i : ℕ) → Passes m (end_of th run.net t path) i p x n → (y : ℕ) × (j : ℕ) × (y ≤ m) × Passes y t j p x n
  back-to p x n prior t [] way far m i pass = (m, i, omega arith, pass)
  back-to p x n prior t (u ∷ path) way far m i pass =
      go (back-to p x n t u path way.2 (λ v more e. not-side (side run.net.hop u v (run.net.home p)) (λ f. turned t u path way.2 v more e (one-way run.net.hop u v t (run.net.home p) f here))) m i pass)
    where
      here : side run.net.hop u t (run.net.home p) ≡ true
      here = other-side run.net.servers run.net.links run.net.hop good.tree t u (run.net.home p) way.0 (good.housed p) (far u path refl)

      go : (y : ℕ) × (j : ℕ) × (y ≤ m) × Passes y u j p x n → (y : ℕ) × (j : ℕ) × (y ≤ m) × Passes y t j p x n
      go (y, j, l, r) = by (came y u j p x n r)
        where
          never : {b : Bool} → b ≡ true → b ≡ false → ⊥
          never e f = cc

          by : (u ≡ run.net.home p) ⊎ Came y u j p x n → (y : ℕ) × (j : ℕ) × (y ≤ m) × Passes y t j p x n
          by (inl e) = absurd (never here (subst (λ z. side run.net.hop u t z ≡ false) e (side-here run.net.hop u t)))
          by (inr c) = (c.put.at, c.put.interface, omega (arith, c.put.before, l), subst (λ z. Passes c.put.at z c.put.interface p x n) (one-way run.net.hop u j t (run.net.home p) c.toward here) c.put.passes)

  pub by-way : (q prior t u : ℕ) (path : List ℕ) → IsOnwardWay th run.net prior t (u ∷ path) → end_of th run.net u path ≡ run.net.home q → (g : ℕ) → side run.net.hop t g (run.net.home q) ≡ true → g ≡ u
  by-way q prior t u path way end g s = sym (side-hop run.net.hop t g (run.net.home q) s) ∙ (ap (run.net.hop t) (sym end) ∙ way-by-hops th laws run.net good prior t u path way (subst (λ z. Has z run.net.servers) (sym end) (good.housed q)))

  never : {b : Bool} → b ≡ true → b ≡ false → ⊥
  never e f = cc

  -- a publication that a server routes at a moment
  module _ (p x : ℕ) (n : th.Notice) (s a i : ℕ) (first : Passes a s i p x n) where
    -- WHAT COMES BEHIND IT: at a later moment a server is behind it where each server of the way from there that ever routes it has done so by then
    pub record Behind (v e : ℕ) : Type 0 where
      pub later : a < e
      pub past : (prior : ℕ) (path : List ℕ) → IsOnwardWay th run.net prior v path → end_of th run.net v path ≡ s → (t : ℕ) → Has t (v ∷ path) → (c f : ℕ) → Passes c t f p x n → c < e

    -- so is the server itself
    pub behind-here : (e : ℕ) → a < e → Behind s e
    behind-here e less = record { later = less; past = past }
      where
        past : (prior : ℕ) (path : List ℕ) → IsOnwardWay th run.net prior s path → end_of th run.net s path ≡ s → (t : ℕ) → Has t (s ∷ path) → (c f : ℕ) → Passes c t f p x n → c < e
        past prior [] way end t (inl g) c f pass = omega (arith, less, pass-once c a s f i p x n n (subst (λ z. Passes c z f p x n) g pass) first)
        past prior [] way end t (inr g) c f pass = absurd g
        past prior (w ∷ path) way end t has c f pass =
            absurd (never (subst (λ z. side run.net.hop s w z ≡ true) end (way-side th laws run.net good prior s w path way (subst (λ z. Has z run.net.servers) (sym end) (server-routes a s i p x n first)))) (side-here run.net.hop s w))

    pub behind-later : (v d e : ℕ) → Behind v d → d ≤ e → Behind v e
    behind-later v d e b less = record { later = omega (arith, b.later, less); past = λ prior path way end t has c f pass. omega (arith, b.past prior path way end t has c f pass, less) }

    -- and the neighbour that takes what it put
    behind-over : (v u e q o : ℕ) (k : th.Notice) (c : Came e v u q o k) → Behind u c.put.at → Behind v e
    behind-over v u e q o k c b = record { later = omega (arith, b.later, c.put.before); past = past }
      where
        near : Has v (run.net.links u)
        near = good.tree.both v u c.near

        past : (prior : ℕ) (path : List ℕ) → IsOnwardWay th run.net prior v path → end_of th run.net v path ≡ s → (t : ℕ) → Has t (v ∷ path) → (d f : ℕ) → Passes d t f p x n → d < e
        past prior [] way end t has d f pass = omega (arith, b.past (suc v) (v ∷ []) (near, (λ g. omega (arith, g)), tt) end t (inr has) d f pass, c.put.before)
        past prior (w ∷ path) way end t has d f pass = by (compare w u)
          where
            -- it was here before it was there
            far : Passes d v f p x n → side run.net.hop v w (run.net.home p) ≡ false → d < e
            far here g =
                let r = back-to p x n prior v (w ∷ path) way (λ y more h. subst (λ z. side run.net.hop v z (run.net.home p) ≡ false) (first-is w y path more h) g) a i (subst (λ z. Passes a z i p x n) (sym end) first) in
                omega (arith, b.later, c.put.before, r.2, pass-once d r.0 v f r.1 p x n n here r.3)

            over : w ≡ u → Passes d v f p x n → (v ≡ run.net.home p) ⊎ Came d v f p x n → d < e
            over g here (inl h) = far here (subst (λ z. side run.net.hop v w z ≡ false) h (side-here run.net.hop v w))
            over g here (inr z) = two (compare f w)
              where
                two : Same f w → d < e
                two (Not m y) = far here (not-side (side run.net.hop v w (run.net.home p)) (λ y. m (one-way run.net.hop v f w (run.net.home p) z.toward y)))
                two (Is m y) =
                    let z' : Came d v u p x n = subst (λ y. Came d v y p x n) (m ∙ g) z in
                    fifo d e v u p x q o n k z' c (b.past v path (subst (λ y. IsOnwardWay th run.net v y path) g way.2) (subst (λ y. end_of th run.net y path ≡ s) g end) u (inl refl) z'.put.at z'.put.interface z'.put.passes)

            back : w ≡ u → Has t (v ∷ w ∷ path) → d < e
            back g (inl h) = let here : Passes d v f p x n = subst (λ z. Passes d z f p x n) h pass in over g here (came d v f p x n here)
            back g (inr h) = omega (arith, c.put.before, b.past v path (subst (λ y. IsOnwardWay th run.net v y path) g way.2) (subst (λ y. end_of th run.net y path ≡ s) g end) t (subst (λ y. Has t (y ∷ path)) g h) d f pass)

            by : Same w u → d < e
            by (Not m y) = omega (arith, c.put.before, b.past (suc v) (v ∷ w ∷ path) (near, (λ g. omega (arith, g)), (way.0, m, way.2)) end t (inr has) d f pass)
            by (Is m y) = back m has

    -- where a publication is published behind it, each server is behind it that routes that one
    behind-home : (q o b j : ℕ) (k : th.Notice) → Passes b (run.net.home q) j q o k → Behind (run.net.home q) b → (t d g : ℕ) → t ≡ run.net.home q → Passes d t g q o k → Behind t d
    behind-home q o b j k second base t d g e other = subst (λ z. Behind z d) (sym e) (subst (Behind (run.net.home q)) (pass-once b d (run.net.home q) j g q o k k second (subst (λ z. Passes d z g q o k) e other)) base)

    behind-way : (q o b j : ℕ) (k : th.Notice) → Passes b (run.net.home q) j q o k → Behind (run.net.home q) b → (prior t : ℕ) (path : List ℕ) → IsOnwardWay th run.net prior t path → end_of th run.net t path ≡ run.net.home q → (d g : ℕ) → Passes d t g q o k → Behind t d
    behind-way q o b j k second base prior t [] way end d g other = behind-home q o b j k second base t d g end other
    behind-way q o b j k second base prior t (u ∷ path) way end d g other = go (came d t g q o k other) (λ e f r. behind-way q o b j k second base t u path way.2 end e f r)
      where
        go : (t ≡ run.net.home q) ⊎ Came d t g q o k → ((e f : ℕ) → Passes e u f q o k → Behind u e) → Behind t d
        go (inl e) ih = behind-home q o b j k second base t d g e other
        go (inr c) ih =
            let y : Came d t u q o k = subst (λ z. Came d t z q o k) (by-way q prior t u path way end g c.toward) c in
            behind-over t u d q o k y (ih y.put.at y.put.interface y.put.passes)

    pub behind-all : (q o b j : ℕ) (k : th.Notice) → Passes b (run.net.home q) j q o k → Behind (run.net.home q) b → (t d g : ℕ) → Passes d t g q o k → Behind t d
    behind-all q o b j k second base t d g other =
        let w = path-to th laws run.net good t (run.net.home q) (server-routes d t g q o k other) (good.housed q) in
        behind-way q o b j k second base t t w.path w.way w.end d g other

    -- behind it it is no more routed
    pub passed-before : (t d : ℕ) → Behind t d → (c f : ℕ) → Passes c t f p x n → c < d
    passed-before t d b c f pass =
        let w = path-to th laws run.net good t s (server-routes c t f p x n pass) (server-routes a s i p x n first) in
        b.past t w.path w.way w.end t (inl refl) c f pass

  -- one publication is routed at the home of another's publisher before that is published there
  pub record Follows (one other : Publication th) : Type 0 where
    pub moment : ℕ
    pub interface : ℕ
    pub routed : Passes moment (run.net.home other.publisher) interface one.publisher one.ordinal one.notice
    pub made : ℕ
    pub by : ℕ
    pub makes : Passes made (run.net.home other.publisher) by other.publisher other.ordinal other.notice
    pub follows : moment < made

  -- a chain of such
  abbrev pub IsLine : Publication th → List (Publication th) → Publication th → Type 0
  IsLine one [] other = Follows one other
  IsLine one (next ∷ between) other = Follows one next × IsLine next between other

  line-behind : (p x : ℕ) (n : th.Notice) (s a i : ℕ) (first : Passes a s i p x n) (one : Publication th) (b j : ℕ) (makes : Passes b (run.net.home one.publisher) j one.publisher one.ordinal one.notice) → Behind p x n s a i first (run.net.home one.publisher) b
      → (between : List (Publication th)) (other : Publication th) → IsLine one between other → (t d g : ℕ) → Passes d t g other.publisher other.ordinal other.notice → Behind p x n s a i first t d
  line-behind p x n s a i first one b j makes base [] other m t d g pass =
      let here = behind-all p x n s a i first one.publisher one.ordinal b j one.notice makes base (run.net.home other.publisher) m.moment m.interface m.routed in
      behind-all p x n s a i first other.publisher other.ordinal m.made m.by other.notice m.makes (behind-later p x n s a i first (run.net.home other.publisher) m.moment m.made here (omega (arith, m.follows))) t d g pass
  line-behind p x n s a i first one b j makes base (next ∷ between) other (m, line) t d g pass =
      let here = behind-all p x n s a i first one.publisher one.ordinal b j one.notice makes base (run.net.home next.publisher) m.moment m.interface m.routed in
      line-behind p x n s a i first next m.made m.by m.makes (behind-later p x n s a i first (run.net.home next.publisher) m.moment m.made here (omega (arith, m.follows))) between other line t d g pass

  -- what is published behind a publication, or behind one that was, passes each server behind it
  pub causal : (one : Publication th) (between : List (Publication th)) (other : Publication th) → IsLine one between other → (t c d f g : ℕ) → Passes c t f one.publisher one.ordinal one.notice → Passes d t g other.publisher other.ordinal other.notice → c < d
  causal one [] other m t c d f g pass behind =
      let base = behind-here one.publisher one.ordinal one.notice (run.net.home other.publisher) m.moment m.interface m.routed m.made m.follows in
      passed-before one.publisher one.ordinal one.notice (run.net.home other.publisher) m.moment m.interface m.routed t d
      (behind-all one.publisher one.ordinal one.notice (run.net.home other.publisher) m.moment m.interface m.routed other.publisher other.ordinal m.made m.by other.notice m.makes base t d g behind) c f pass
  causal one (next ∷ between) other (m, line) t c d f g pass behind =
      let base = behind-here one.publisher one.ordinal one.notice (run.net.home next.publisher) m.moment m.interface m.routed m.made m.follows in
      passed-before one.publisher one.ordinal one.notice (run.net.home next.publisher) m.moment m.interface m.routed t d
      (line-behind one.publisher one.ordinal one.notice (run.net.home next.publisher) m.moment m.interface m.routed next m.made m.by m.makes base between other line t d g behind) c f pass
