-- Each publication passes each server of a flooding network at most once, in its phase, after its publish.
use Rattle.std.proofs.Common.{◌≡◌, ℕ, zero, suc, ◌+◌, ◌≤◌, ◌<◌, ◌==◌, Bool, true, false, cond, not, ◌&&◌, List, [], ◌∷◌, ◌++◌, ◌⊎◌, inl, inr, length, take, slice_get, Option, Some, None, refl, sym, ap, subst, ◌∙◌, arith, eq-eqb}
use Rattle.std.proofs.lemmas.Option.{slice_get_within, same_Some}
use Rattle.base.specs.Sets.{Has}
use Rattle.base.proofs.Numbers.{Same, Is, Not, compare}
use Rattle.base_tree.specs.Hops.{side}
use Rattle.law_machine.specs.Machine.{Input, Does, Receives, Stamped, Entry, at, unstamped, stamped}
use Rattle.law_machine.specs.Network.{NetworkState, IsAvailable, taken_after}
use Rattle.law_machine.specs.History.{phase_at}
use Rattle.law_routing.specs.Theory.{Theory, TheoryLaws}
use Rattle.law_routing.specs.Net.{Command, Subscribe, Unsubscribe, Advertise, Unadvertise, Publish, PhasedCommand}
use Rattle.law_routing.specs.Clients.{is_publish, ordinal, adverts_after, accepts, commands_below}
use Rattle.law_routing.specs.Server.{Publication, is_among}
use Rattle.law_routing.specs.Routing.{not_below}
use Rattle.law_routing.specs.Owed.{IsPublication, IsMomentOfPhase}
use Rattle.law_routing.specs.Rest.{IsOnwardWay, end_of}
use Rattle.law_routing.proofs.Laws.{one-has, cond-some}
use Rattle.law_routing.proofs.Sides.{side-here, side-hop}
use Rattle.law_routing.proofs.Scripts.{through-count, through-one, upto-count, below-rises, zero-below, one-index}
use Rattle.law_routing.proofs.Current.{one-publication}
use Rattle.law_routing.proofs.Paths.{path-to, way-side, way-by-hops}
use Rattle.law_phases.specs.Trees.{PhasedNet, tree_at, net_at}
use Rattle.law_phases.specs.Owing.{IsPublishedIn}
use Rattle.law_phases.specs.Flooding.{FloodServer, FloodMessage, FloodWork, Floods, Rests, flood_command, flood_next, flood_work, flood_counted, flood_effect, flood_through, flood_machine, flood_opening, FloodRun, flood_states}
use Rattle.law_phases.proofs.Pieces.{published-at}
use Rattle.std.proofs.lemmas.Bool.{cases_lt, and_parts, both_ways}
use Rattle.base.proofs.Lists.{get-append}
use Rattle.law_phases.proofs.FloodSteps.{Step, Still, done-rises, done-steps, put-grows, put-rises, step-of, taken-rises, taken-steps, tree-laws}

module _ (th : Theory) (laws : TheoryLaws th) (run : FloodRun th) where
  abbrev net : PhasedNet th
  net = run.net

  abbrev h : ℕ → NetworkState (flood_machine th run.net)
  h = flood_states th run

  abbrev ph : ℕ → ℕ
  ph = phase_at (flood_machine th run.net) (flood_opening th run.net) 0 run.journal

  abbrev J : List (Entry (flood_machine th run.net))
  J = run.journal

  -- an entry passes a publication of a phase on, at a server where it came in from there
  pub record Passes (m t i k : ℕ) (p : Publication th) : Type 0 where
    pub step : Step th laws run m
    pub server : step.entry.server ≡ t
    pub floods : step.work ≡ Floods i k p

  abbrev pub message : ℕ → Publication th → FloodMessage th
  message k p = record { phase = k; publication = p }

  abbrev pub flooding : ℕ → ℕ → Publication th → FloodWork th
  flooding i k p = Floods i k p

  -- what a work puts on a link
  record Sends (t : ℕ) (w : FloodWork th) (u j : ℕ) (x : FloodMessage th) : Type 0 where
    from : ℕ
    is : w ≡ Floods from x.phase x.publication
    near : Has u ((tree_at th run.net x.phase).links t)
    other : u ≡ from → ⊥
    first : j ≡ 0

  sends : (t : ℕ) (s : FloodServer th) (w : FloodWork th) (u j : ℕ) (x : FloodMessage th) → slice_get ((flood_effect th run.net t s w).outs u) j ≡ Some x → Sends t w u j x
  sends t s Rests u j x e = absurd cc
  sends t s (Floods i k p) u j x e = go (is_among u ((tree_at th run.net k).links t)) refl (compare u i) j e
    where
      one : Has u ((tree_at th run.net k).links t) → (u ≡ i → ⊥) → (j : ℕ) → slice_get (message k p ∷ []) j ≡ Some x → Sends t (Floods i k p) u j x
      one near other zero e =
          let same : message k p ≡ x = same_Some _ _ e in
          record { from = i; is = ap (λ (z : FloodMessage th). flooding i z.phase z.publication) same; near = subst (λ (z : FloodMessage th). Has u ((tree_at th run.net z.phase).links t)) same near; other = other; first = refl }
      one near other (suc j) e = absurd cc

      go : (a : Bool) → is_among u ((tree_at th run.net k).links t) ≡ a → Same u i → (j : ℕ) → slice_get (cond (a && not (u == i)) (message k p ∷ []) []) j ≡ Some x → Sends t (Floods i k p) u j x
      go true g (Not n v) j e = one (one-has u ((tree_at th run.net k).links t) g) n j (subst (λ b. slice_get (cond (not b) (message k p ∷ []) []) j ≡ Some x) v e)
      go true g (Is n v) j e = absurd (none (subst (λ b. slice_get (cond (not b) (message k p ∷ []) []) j ≡ Some x) v e))
        where
          none : slice_get [] j ≡ Some x → ⊥
          none e = cc
      go false g c j e = absurd (none e)
        where
          none : slice_get [] j ≡ Some x → ⊥
          none e = cc

  -- what stands on a link at a place was put there by an entry that passes it on
  pub record Put (m u t j k : ℕ) (p : Publication th) : Type 0 where
    pub moment : ℕ
    pub before : moment < m
    pub interface : ℕ
    pub passes : Passes moment u interface k p
    pub place : length ((h moment).put u t) ≡ j
    pub longer : j < length ((h (suc moment)).put u t)
    pub other : t ≡ interface → ⊥

  was-put : (m u t j k : ℕ) (p : Publication th) (y : Stamped (FloodMessage th)) → slice_get ((h m).put u t) j ≡ Some y → y.message ≡ record { phase = k; publication = p } → Put m u t j k p
  was-put zero u t j k p y e f = absurd (none e)
    where
      none : slice_get [] j ≡ Some y → ⊥
      none e = cc
  was-put (suc m) u t j k p y e f = go (step-of th laws run m) (λ d. was-put m u t j k p y d f)
    where
      later : Put m u t j k p → Put (suc m) u t j k p
      later x = record { moment = x.moment; before = omega (arith, x.before); interface = x.interface; passes = x.passes; place = x.place; longer = x.longer; other = x.other }

      go : Still th laws run m ⊎ Step th laws run m → (slice_get ((h m).put u t) j ≡ Some y → Put m u t j k p) → Put (suc m) u t j k p
      go (inl s) ih = later (ih (ap (λ (z : NetworkState (flood_machine th run.net)). slice_get (z.put u t) j) (sym s.0) ∙ e))
      go (inr w) ih = by (compare u w.entry.server)
        where
          s : FloodServer th
          s = flood_counted th run.net ((h m).state w.entry.server) (unstamped (flood_machine th run.net) w.deed)

          by : Same u w.entry.server → Put (suc m) u t j k p
          by (Not a b) = later (ih (subst (λ z. slice_get z j ≡ Some y) same e))
            where
              same : (h (suc m)).put u t ≡ (h m).put u t
              same = ap (λ z. z u t) w.put ∙ rw b refl
          by (Is a b) = two (get-append ((h m).put u t) new j y (subst (λ z. slice_get z j ≡ Some y) all e))
            where
              new : List (Stamped (FloodMessage th))
              new = stamped (flood_machine th run.net) w.stamp ((flood_effect th run.net w.entry.server s w.work).outs t)

              all : (h (suc m)).put u t ≡ (h m).put u t ++ stamped (flood_machine th run.net) w.stamp ((flood_effect th run.net w.entry.server s w.work).outs t)
              all = ap (λ z. z u t) w.put ∙ rw b refl

              bare : (xs : List (FloodMessage th)) (i : ℕ) → slice_get (stamped (flood_machine th run.net) w.stamp xs) i ≡ Some y → slice_get xs i ≡ Some y.message
              bare [] i e = absurd cc
              bare (x ∷ xs) zero e = ap Some (ap (λ (z : Stamped (FloodMessage th)). z.message) (same_Some _ _ e))
              bare (x ∷ xs) (suc i) e = bare xs i e

              two : (slice_get ((h m).put u t) j ≡ Some y) ⊎ ((i : ℕ) × (j ≡ length ((h m).put u t) + i) × (slice_get new i ≡ Some y)) → Put (suc m) u t j k p
              two (inl d) = later (ih d)
              two (inr (i, c, d)) =
                  let r = sends w.entry.server s w.work t i (message k p) (bare ((flood_effect th run.net w.entry.server s w.work).outs t) i d ∙ ap Some f) in
                  record {
                    moment = m;
                    before = omega arith;
                    interface = r.from;
                    passes = record { step = w; server = sym a; floods = r.is };
                    place = omega (arith, c, r.first);
                    longer = slice_get_within ((h (suc m)).put u t) j y e;
                    other = r.other;
                  }

  -- what passes a server was installed by its client, or came from a neighbour on the tree of its phase
  pub record AtHome (m t i k : ℕ) (p : Publication th) : Type 0 where
    pub home : t ≡ run.net.home p.publisher
    pub from : i ≡ t
    pub published : IsPublishedIn th run.net k p
    pub index : published.index ≡ ((h m).state t).done p.publisher
    pub counts : ((h (suc m)).state t).done p.publisher ≡ suc (((h m).state t).done p.publisher)
    pub current : k ≡ ph (suc m)

  pub record Came (m t i k : ℕ) (p : Publication th) : Type 0 where
    pub near : Has i ((tree_at th run.net k).links t)
    pub put : Put m i t ((h m).taken i t) k p
    pub taken : (h (suc m)).taken i t ≡ suc ((h m).taken i t)
    pub message : Stamped (FloodMessage th)
    pub next : slice_get ((h m).put i t) ((h m).taken i t) ≡ Some message
    pub is : message.message ≡ record { phase = k; publication = p }
    pub still : ph (suc m) ≡ ph m

  same-floods : (a b : ℕ) (p : Publication th) (c d : ℕ) (q : Publication th) → flooding a b p ≡ flooding c d q → (a ≡ c) × (b ≡ d) × (p ≡ q)
  same-floods a b p c d q e = (one e, two e, three e)
    where
      one : flooding a b p ≡ flooding c d q → a ≡ c
      one e = cc

      two : flooding a b p ≡ flooding c d q → b ≡ d
      two e = cc

      three : flooding a b p ≡ flooding c d q → p ≡ q
      three e = cc

  record Asked (t c count phase : ℕ) (y : Command th) (i k : ℕ) (p : Publication th) : Type 0 where
    notice : th.Notice
    publishes : y ≡ Publish notice
    allowed : accepts th (net_at th run.net phase) (adverts_after th [] (take count (run.net.script c))) notice ≡ true
    from : t ≡ i
    same : phase ≡ k
    is : record { publisher = c; ordinal = ordinal th (take (suc count) (run.net.script c)); notice = notice } ≡ p

  asked : (t c count phase : ℕ) (y : Command th) (i k : ℕ) (p : Publication th) → flood_command th run.net t c count phase y ≡ Floods i k p → Asked t c count phase y i k p
  asked t c count phase (Subscribe f) i k p e = absurd cc
  asked t c count phase (Unsubscribe f) i k p e = absurd cc
  asked t c count phase (Advertise f) i k p e = absurd cc
  asked t c count phase (Unadvertise f) i k p e = absurd cc
  asked t c count phase (Publish n) i k p e = go (accepts th (net_at th run.net phase) (adverts_after th [] (take count (run.net.script c))) n) refl e
    where
      go : (b : Bool) → accepts th (net_at th run.net phase) (adverts_after th [] (take count (run.net.script c))) n ≡ b
          → cond b (flooding t phase (record { publisher = c; ordinal = ordinal th (take (suc count) (run.net.script c)); notice = n })) Rests ≡ Floods i k p → Asked t c count phase (Publish n) i k p
      go true f e =
          let r = same-floods t phase (record { publisher = c; ordinal = ordinal th (take (suc count) (run.net.script c)); notice = n }) i k p e in
          record { notice = n; publishes = refl; allowed = f; from = r.0; same = r.1; is = r.2 }
      go false f e = absurd cc

  done-kept : (t : ℕ) (s : FloodServer th) (w : FloodWork th) → (flood_effect th run.net t s w).state.done ≡ s.done
  done-kept t s (Floods i k p) = refl
  done-kept t s Rests = refl

  pub done-after : (m t : ℕ) (w : Step th laws run m) → w.entry.server ≡ t → (c : ℕ) → ((h (suc m)).state t).done c ≡ (flood_counted th run.net ((h m).state t) (unstamped (flood_machine th run.net) w.deed)).done c
  done-after m t w e c =
      ap (λ z. (z t).done c) w.state ∙ (ap (λ b. (cond b (flood_effect th run.net w.entry.server (flood_counted th run.net ((h m).state w.entry.server) (unstamped (flood_machine th run.net) w.deed)) w.work).state ((h m).state t)).done c) (eq-eqb t w.entry.server (sym e))
      ∙ (ap (λ z. z c) (done-kept w.entry.server (flood_counted th run.net ((h m).state w.entry.server) (unstamped (flood_machine th run.net) w.deed)) w.work) ∙ ap (λ z. (flood_counted th run.net ((h m).state z) (unstamped (flood_machine th run.net) w.deed)).done c) e))

  took-one : (taken : ℕ → ℕ → ℕ) (t u : ℕ) (y : Stamped (FloodMessage th)) → taken_after (flood_machine th run.net) taken t (Receives u y) u t ≡ suc (taken u t)
  took-one taken t u y = rw (eq-eqb u u refl, eq-eqb t t refl) refl

  at-one : (f : ℕ → ℕ) (c : ℕ) → at f c (suc (f c)) c ≡ suc (f c)
  at-one f c = rw (eq-eqb c c refl) refl

  origin : (m t i k : ℕ) (p : Publication th) → Passes m t i k p → AtHome m t i k p ⊎ Came m t i k p
  origin m t i k p pass = go pass.step.deed refl
      (subst (λ z. flood_work th run.net z ((h m).state z) (unstamped (flood_machine th run.net) pass.step.deed) ≡ Some (Floods i k p)) pass.server (pass.step.possible ∙ ap Some pass.floods))
      (subst (λ z. IsAvailable (flood_machine th run.net) (h m) z pass.step.deed) pass.server pass.step.given)
    where
      w : Step th laws run m
      w = pass.step

      go : (d : Input ℕ (Stamped (FloodMessage th))) → w.deed ≡ d → flood_work th run.net t ((h m).state t) (unstamped (flood_machine th run.net) d) ≡ Some (Floods i k p) → IsAvailable (flood_machine th run.net) (h m) t d → AtHome m t i k p ⊎ Came m t i k p
      go (Receives u y) is e given =
          let f = cond-some (is_among t run.net.servers) (is_among u ((tree_at th run.net y.message.phase).links t)) (Some (Floods u y.message.phase y.message.publication)) (flooding i k p) e in
          let r = same-floods u y.message.phase y.message.publication i k p (same_Some _ _ f.2) in
          let near : Has i ((tree_at th run.net k).links t) = subst (λ z. Has i ((tree_at th run.net z).links t)) r.1 (subst (λ z. Has z ((tree_at th run.net y.message.phase).links t)) r.0 (one-has u ((tree_at th run.net y.message.phase).links t) f.1)) in
          let next : slice_get ((h m).put i t) ((h m).taken i t) ≡ Some y = subst (λ z. slice_get ((h m).put z t) ((h m).taken z t) ≡ Some y) r.0 given in
          let same : y.message ≡ message k p = λ j. record { phase = r.1 j; publication = r.2 j } in
          let counts : (h (suc m)).taken i t ≡ suc ((h m).taken i t) = ap (λ z. z i t) w.taken ∙ (ap (λ z. taken_after (flood_machine th run.net) (h m).taken z w.deed i t) pass.server
          ∙ (ap (λ z. taken_after (flood_machine th run.net) (h m).taken t z i t) is ∙ (ap (λ z. taken_after (flood_machine th run.net) (h m).taken t (Receives z y) i t) r.0 ∙ took-one (h m).taken t i y))) in
          inr (record { near = near; put = was-put m i t ((h m).taken i t) k p y next same; taken = counts; message = y; next = next; is = same; still = w.phases.reception u y is })
      go (Does c) is e given =
          let f = cond-some (is_among t run.net.servers) (is_among c (run.net.clients t)) (flood_next th run.net t c (((h m).state t).done c) (slice_get (run.net.script c) (((h m).state t).done c))) (flooding i k p) e in
          inl (by (slice_get (run.net.script c) (((h m).state t).done c)) refl (run.laws.lives t c (one-has c (run.net.clients t) f.1)) f.2)
        where
          count : ℕ
          count = ((h m).state t).done c

          by : (o : Option (PhasedCommand th)) → slice_get (run.net.script c) (((h m).state t).done c) ≡ o → run.net.home c ≡ t → flood_next th run.net t c (((h m).state t).done c) o ≡ Some (Floods i k p) → AtHome m t i k p
          by None g lives e = absurd cc
          by (Some x) g lives e = two (asked t c count x.phase x.command i k p (same_Some _ _ e))
            where
              two : Asked t c count x.phase x.command i k p → AtHome m t i k p
              two a =
                  let q : p.publisher ≡ c = ap (λ (z : Publication th). z.publisher) (sym a.is) in
                  let done-q : (z : ℕ) → z ≡ c → ((h m).state t).done z ≡ count = λ z e. ap ((h m).state t).done e in
                  let made : (z : Publication th) × (s : IsPublishedIn th run.net k z) × (s.index ≡ count) × (z ≡ p) = (
                    record { publisher = c; ordinal = ordinal th (take (suc count) (run.net.script c)); notice = a.notice },
                    record { index = count; command = x; at = g; publishes = a.publishes; ordinal = refl; allowed = a.allowed; phase = a.same },
                    refl,
                    a.is,
                  ) in
                  let whole : (s : IsPublishedIn th run.net k p) × (s.index ≡ count) = subst (λ z. (s : IsPublishedIn th run.net k z) × (s.index ≡ count)) made.3 (made.1, made.2) in
                  record {
                    home = sym lives ∙ ap run.net.home (sym q);
                    from = sym a.from;
                    published = whole.0;
                    index = whole.1 ∙ sym (done-q p.publisher q);
                    counts = done-after m t w pass.server p.publisher ∙ (ap (λ z. (flood_counted th run.net ((h m).state t) (unstamped (flood_machine th run.net) z)).done p.publisher) is
                        ∙ (ap (λ z. at ((h m).state t).done c (suc count) z) q ∙ (at-one ((h m).state t).done c ∙ ap suc (sym (done-q p.publisher q)))));
                    current = sym a.same ∙ w.phases.command c x is (subst (λ z. slice_get (run.net.script c) (((h m).state z).done c) ≡ Some x) (sym pass.server) g);
                  }

  -- where it came from a neighbour a way leads back to its publisher's home
  pub record Way (m t i k : ℕ) (p : Publication th) : Type 0 where
    pub came : Came m t i k p
    pub path : List ℕ
    pub way : IsOnwardWay th (net_at th run.net k) t i path
    pub end : end_of th (net_at th run.net k) i path ≡ run.net.home p.publisher

  pub record Known (m t i k : ℕ) (p : Publication th) : Type 0 where
    pub published : IsPublishedIn th run.net k p
    pub route : AtHome m t i k p ⊎ Way m t i k p

  known-below : (f m t i k : ℕ) (p : Publication th) → m < f → Passes m t i k p → Known m t i k p
  known-below zero m t i k p l pass = absurd (omega (arith, l))
  known-below (suc f) m t i k p l pass = go (origin m t i k p pass) (λ a b c less r. known-below f a b c k p (omega (arith, less, l)) r)
    where
      go : AtHome m t i k p ⊎ Came m t i k p → ((a b c : ℕ) → a < m → Passes a b c k p → Known a b c k p) → Known m t i k p
      go (inl a) ih = record { published = a.published; route = inl a }
      go (inr c) ih = let r = ih c.put.moment i c.put.interface c.put.before c.put.passes in record { published = r.published; route = inr (by r.route) }
        where
          by : AtHome c.put.moment i c.put.interface k p ⊎ Way c.put.moment i c.put.interface k p → Way m t i k p
          by (inl a) = record { came = c; path = []; way = tt; end = a.home }
          by (inr y) = record { came = c; path = c.put.interface ∷ y.path; way = (y.came.near, (λ e. c.put.other (sym e)), y.way); end = y.end }

  pub known : (m t i k : ℕ) (p : Publication th) → Passes m t i k p → Known m t i k p
  known m t i k p pass = known-below (suc m) m t i k p (omega arith) pass

  toward : (m t i k : ℕ) (p : Publication th) → Way m t i k p → side (net_at th run.net k).hop t i (run.net.home p.publisher) ≡ true
  toward m t i k p y = subst (λ z. side (net_at th run.net k).hop t i z ≡ true) y.end
      (way-side th laws (net_at th run.net k) (tree-laws th laws run k) (suc i) t i y.path (y.came.near, (λ e. omega (arith, e)), y.way) (subst (λ z. Has z run.net.servers) (sym y.end) (run.laws.housed p.publisher)))

  at-home : (m t i k : ℕ) (p : Publication th) → t ≡ run.net.home p.publisher → Passes m t i k p → AtHome m t i k p
  at-home m t i k p e pass = go (known m t i k p pass).route
    where
      go : AtHome m t i k p ⊎ Way m t i k p → AtHome m t i k p
      go (inl a) = a
      go (inr y) = absurd (both_ways _ (subst (λ z. side (net_at th run.net k).hop t i z ≡ false) e (side-here (net_at th run.net k).hop t i)) (toward m t i k p y))

  -- it passes a server once
  home-once : (a b t i j k : ℕ) (p : Publication th) → t ≡ run.net.home p.publisher → Passes a t i k p → Passes b t j k p → a ≡ b
  home-once a b t i j k p e first second =
      let x = at-home a t i k p e first in
      let y = at-home b t j k p e second in
      let same : x.published.index ≡ y.published.index = one-index th (run.net.script p.publisher) x.published.index y.published.index x.published.command y.published.command x.published.at y.published.at (ap (is_publish th) x.published.publishes) (ap (is_publish th) y.published.publishes) (x.published.ordinal ∙ sym y.published.ordinal) in
      go x y same (cases_lt a b) (cases_lt b a)
    where
      go : (x : AtHome a t i k p) (y : AtHome b t j k p) → x.published.index ≡ y.published.index → (a < b) ⊎ (b ≤ a) → (b < a) ⊎ (a ≤ b) → a ≡ b
      go x y same (inl l) r = absurd (omega (arith, same, x.index, y.index, x.counts, done-rises th laws run (suc a) b t p.publisher l))
      go x y same (inr l) (inl r) = absurd (omega (arith, same, x.index, y.index, y.counts, done-rises th laws run (suc b) a t p.publisher r))
      go x y same (inr l) (inr r) = omega (arith, l, r)

  by-way : (k q prior t u : ℕ) (path : List ℕ) → IsOnwardWay th (net_at th run.net k) prior t (u ∷ path) → end_of th (net_at th run.net k) u path ≡ run.net.home q → (g : ℕ) → side (net_at th run.net k).hop t g (run.net.home q) ≡ true → g ≡ u
  by-way k q prior t u path way end g s = sym (side-hop (net_at th run.net k).hop t g (run.net.home q) s) ∙ (ap ((net_at th run.net k).hop t) (sym end) ∙ way-by-hops th laws (net_at th run.net k) (tree-laws th laws run k) prior t u path way (subst (λ z. Has z run.net.servers) (sym end) (run.laws.housed q)))

  way-once : (k : ℕ) (p : Publication th) (prior t : ℕ) (path : List ℕ) → IsOnwardWay th (net_at th run.net k) prior t path → end_of th (net_at th run.net k) t path ≡ run.net.home p.publisher → (a b i j : ℕ) → Passes a t i k p → Passes b t j k p → a ≡ b
  way-once k p prior t [] way end a b i j first second = home-once a b t i j k p end first second
  way-once k p prior t (u ∷ path) way end a b i j first second = go (known a t i k p first).route (known b t j k p second).route (λ a b i j r s. way-once k p t u path way.2 end a b i j r s)
    where
      two : (x : Came a t u k p) (y : Came b t u k p) → x.put.moment ≡ y.put.moment → (a < b) ⊎ (b ≤ a) → (b < a) ⊎ (a ≤ b) → a ≡ b
      two x y same (inl l) r = absurd (omega (arith, x.put.place, y.put.place, ap (λ z. length ((h z).put u t)) same, x.taken, taken-rises th laws run (suc a) b u t l))
      two x y same (inr l) (inl r) = absurd (omega (arith, x.put.place, y.put.place, ap (λ z. length ((h z).put u t)) same, y.taken, taken-rises th laws run (suc b) a u t r))
      two x y same (inr l) (inr r) = omega (arith, l, r)

      go : AtHome a t i k p ⊎ Way a t i k p → AtHome b t j k p ⊎ Way b t j k p → ((a b i j : ℕ) → Passes a u i k p → Passes b u j k p → a ≡ b) → a ≡ b
      go (inl x) y ih = home-once a b t i j k p x.home first second
      go (inr x) (inl y) ih = home-once a b t i j k p y.home first second
      go (inr x) (inr y) ih =
          let x' : Came a t u k p = subst (λ z. Came a t z k p) (by-way k p.publisher prior t u path way end i (toward a t i k p x)) x.came in
          let y' : Came b t u k p = subst (λ z. Came b t z k p) (by-way k p.publisher prior t u path way end j (toward b t j k p y)) y.came in
          two x' y' (ih x'.put.moment y'.put.moment x'.put.interface y'.put.interface x'.put.passes y'.put.passes) (cases_lt a b) (cases_lt b a)

  server-passes : (m t i k : ℕ) (p : Publication th) → Passes m t i k p → Has t run.net.servers
  server-passes m t i k p pass = go (origin m t i k p pass)
    where
      go : AtHome m t i k p ⊎ Came m t i k p → Has t run.net.servers
      go (inl a) = subst (λ z. Has z run.net.servers) (sym a.home) (run.laws.housed p.publisher)
      go (inr c) = (tree-laws th laws run k).tree.linked t i c.near

  -- and one id is one publication
  same-publication : (a t i k : ℕ) (p : Publication th) (b s j l : ℕ) (x : Publication th) → Passes a t i k p → Passes b s j l x → p.publisher ≡ x.publisher → p.ordinal ≡ x.ordinal → (k ≡ l) × (p ≡ x)
  same-publication a t i k p b s j l x first second e f =
      let u = (known a t i k p first).published in
      let v = (known b s j l x second).published in
      let r = one-publication th (net_at th run.net k) p.publisher p.ordinal k l p.notice x.notice u
      (subst (λ z. IsPublication th (net_at th run.net k) p.publisher z l x.notice) (sym f) (subst (λ z. IsPublication th (net_at th run.net k) z x.ordinal l x.notice) (sym e) (published-at th laws run.net run.laws l k x.publisher x.ordinal l x.notice v))) in
      (r.0, λ n. record { publisher = e n; ordinal = f n; notice = r.1 n })

  pub pass-once : (a b t i j k l : ℕ) (p x : Publication th) → Passes a t i k p → Passes b t j l x → p.publisher ≡ x.publisher → p.ordinal ≡ x.ordinal → a ≡ b
  pass-once a b t i j k l p x first second e f =
      let r = same-publication a t i k p b t j l x first second e f in
      let w = path-to th laws (net_at th run.net k) (tree-laws th laws run k) t (run.net.home p.publisher) (server-passes a t i k p first) (run.laws.housed p.publisher) in
      way-once k p t t w.path w.way w.end a b i j first (subst (λ z. Passes b t j z p) (sym r.0) (subst (λ z. Passes b t j l z) (sym r.1) second))

  -- what is on its way is of the phase that runs
  abbrev IsCurrent : ℕ → Type 0
  IsCurrent n = (a b j : ℕ) (y : Stamped (FloodMessage th)) → (h n).taken a b ≤ j → slice_get ((h n).put a b) j ≡ Some y → y.message.phase ≡ ph n

  work-phase : (n : ℕ) → IsCurrent n → (t i k : ℕ) (p : Publication th) → Passes n t i k p → k ≡ ph (suc n)
  work-phase n cur t i k p pass = go (origin n t i k p pass)
    where
      go : AtHome n t i k p ⊎ Came n t i k p → k ≡ ph (suc n)
      go (inl a) = a.current
      go (inr c) = sym (ap (λ (z : FloodMessage th). z.phase) c.is) ∙ (cur i t ((h n).taken i t) c.message (omega arith) c.next ∙ sym c.still)

  current : (n : ℕ) → IsCurrent n
  current zero a b j y l e = absurd (none e)
    where
      none : slice_get [] j ≡ Some y → ⊥
      none e = cc
  current (suc n) a b j y l e = go (step-of th laws run n) (current n)
    where
      go : Still th laws run n ⊎ Step th laws run n → IsCurrent n → y.message.phase ≡ ph (suc n)
      go (inl s) cur = cur a b j y (omega (arith, l, ap (λ (z : NetworkState (flood_machine th run.net)). z.taken a b) s.0)) (ap (λ (z : NetworkState (flood_machine th run.net)). slice_get (z.put a b) j) (sym s.0) ∙ e) ∙ sym s.1
      go (inr w) cur = by (slice_get ((h n).put a b) j) refl (cases_lt (ph n) (ph (suc n)))
        where
          old : (x : Stamped (FloodMessage th)) → slice_get ((h n).put a b) j ≡ Some x → (ph n < ph (suc n)) ⊎ (ph (suc n) ≤ ph n) → y.message.phase ≡ ph (suc n)
          old x f (inl less) = absurd (omega (arith, (w.phases.begins less).1.empty a b, slice_get_within ((h n).put a b) j x f, (taken-steps th laws run n a b).0, l))
          old x f (inr same) =
              let x-is : x ≡ y = same_Some _ _ (sym (put-grows th laws run n a b j x f) ∙ e) in
              let before : y.message.phase ≡ ph n = cur a b j y (omega (arith, l, (taken-steps th laws run n a b).0)) (f ∙ ap Some x-is) in
              omega (arith, before, same, w.phases.up)

          new : slice_get ((h n).put a b) j ≡ None → y.message.phase ≡ ph (suc n)
          new f =
              let r = was-put (suc n) a b j y.message.phase y.message.publication y e refl in
              let here : r.moment ≡ n = at-last r.moment r.before (cases_lt r.moment n) r.place r.longer in
              subst (λ z. y.message.phase ≡ ph (suc z)) here (work-phase r.moment (subst IsCurrent (sym here) cur) a r.interface y.message.phase y.message.publication r.passes)
            where
              outside : (xs : List (Stamped (FloodMessage th))) (i : ℕ) → slice_get xs i ≡ None → length xs ≤ i
              outside [] i e = omega arith
              outside (x ∷ xs) zero e = absurd cc
              outside (x ∷ xs) (suc i) e = omega (arith, outside xs i e)

              at-last : (m : ℕ) → m < suc n → (m < n) ⊎ (n ≤ m) → length ((h m).put a b) ≡ j → j < length ((h (suc m)).put a b) → m ≡ n
              at-last m l (inl less) place longer = absurd (omega (arith, longer, put-rises th laws run (suc m) n a b less, outside ((h n).put a b) j f))
              at-last m l (inr more) place longer = omega (arith, l, more)

          by : (o : Option (Stamped (FloodMessage th))) → slice_get ((h n).put a b) j ≡ o → (ph n < ph (suc n)) ⊎ (ph (suc n) ≤ ph n) → y.message.phase ≡ ph (suc n)
          by None f c = new f
          by (Some x) f c = old x f c

  pass-phase : (m t i k : ℕ) (p : Publication th) → Passes m t i k p → k ≡ ph (suc m)
  pass-phase m t i k p pass = work-phase m (current m) t i k p pass

  -- counts of commands are those of a moment of the phase that runs
  through-client : (s : FloodServer th) (k c : ℕ) (cs : List ℕ) → Has c cs → flood_through th run.net s k cs ≡ true → not_below th (net_at th run.net k) k (slice_get (run.net.script c) (s.done c)) ≡ true
  through-client s k c [] i e = absurd i
  through-client s k c (x ∷ cs) (inl p) e = subst (λ z. not_below th (net_at th run.net k) k (slice_get (run.net.script z) (s.done z)) ≡ true) (sym p) (and_parts (not_below th (net_at th run.net k) k (slice_get (run.net.script x) (s.done x))) (flood_through th run.net s k cs) e).0
  through-client s k c (x ∷ cs) (inr i) e = through-client s k c cs i (and_parts (not_below th (net_at th run.net k) k (slice_get (run.net.script x) (s.done x))) (flood_through th run.net s k cs) e).1

  abbrev IsCounted : ℕ → Type 0
  IsCounted n = (t c : ℕ) → Has c (run.net.clients t) → (commands_below th (ph n) (run.net.script c) ≤ ((h n).state t).done c) × (((h n).state t).done c ≤ commands_below th (suc (ph n)) (run.net.script c))

  counted : (n : ℕ) → IsCounted n
  counted zero t c lives = (omega (arith, zero-below th (run.net.script c)), omega arith)
  counted (suc n) t c lives = go (step-of th laws run n) (counted n t c lives)
    where
      go : Still th laws run n ⊎ Step th laws run n → (commands_below th (ph n) (run.net.script c) ≤ ((h n).state t).done c) × (((h n).state t).done c ≤ commands_below th (suc (ph n)) (run.net.script c))
          → (commands_below th (ph (suc n)) (run.net.script c) ≤ ((h (suc n)).state t).done c) × (((h (suc n)).state t).done c ≤ commands_below th (suc (ph (suc n))) (run.net.script c))
      go (inl s) (a, b) =
          let d = ap (λ (z : NetworkState (flood_machine th run.net)). (z.state t).done c) s.0 in
          let e = ap (λ z. commands_below th z (run.net.script c)) s.1 in
          let f = ap (λ z. commands_below th (suc z) (run.net.script c)) s.1 in
          (omega (arith, a, d, e), omega (arith, b, d, f))
      go (inr w) (a, b) = (low (cases_lt (ph n) (ph (suc n))), high)
        where
          low : (ph n < ph (suc n)) ⊎ (ph (suc n) ≤ ph n) → commands_below th (ph (suc n)) (run.net.script c) ≤ ((h (suc n)).state t).done c
          low (inr same) = omega (arith, a, (done-steps th laws run n t c).0, below-rises th (ph (suc n)) (ph n) (run.net.script c) same)
          low (inl less) =
              let all = (w.phases.begins less).0 t (subst (λ z. Has z run.net.servers) (run.laws.lives t c lives) (run.laws.housed c)) in
              let mine = through-client ((h n).state t) (ph (suc n)) c (run.net.clients t) lives all in
              omega (arith, (done-steps th laws run n t c).0, through-count th (ph (suc n)) (run.net.script c) (((h n).state t).done c) (run.laws.phased c) (λ x e. through-one th (net_at th run.net (ph (suc n))) (ph (suc n)) (slice_get (run.net.script c) (((h n).state t).done c)) x mine e))

          more : commands_below th (suc (ph n)) (run.net.script c) ≤ commands_below th (suc (ph (suc n))) (run.net.script c)
          more = below-rises th (suc (ph n)) (suc (ph (suc n))) (run.net.script c) (omega (arith, w.phases.up))

          high : ((h (suc n)).state t).done c ≤ commands_below th (suc (ph (suc n))) (run.net.script c)
          high = by (compare t w.entry.server)
            where
              by : Same t w.entry.server → ((h (suc n)).state t).done c ≤ commands_below th (suc (ph (suc n))) (run.net.script c)
              by (Not e v) = omega (arith, b, more, (ap (λ z. (z t).done c) w.state ∙ ap (λ z. (cond z (flood_effect th run.net w.entry.server (flood_counted th run.net ((h n).state w.entry.server) (unstamped (flood_machine th run.net) w.deed)) w.work).state ((h n).state t)).done c) v))
              by (Is e v) = deed w.deed refl (subst (λ z. flood_work th run.net z ((h n).state z) (unstamped (flood_machine th run.net) w.deed) ≡ Some w.work) (sym e) w.possible)
                where
                  counts : ((h (suc n)).state t).done c ≡ (flood_counted th run.net ((h n).state t) (unstamped (flood_machine th run.net) w.deed)).done c
                  counts = done-after n t w (sym e) c

                  deed : (d : Input ℕ (Stamped (FloodMessage th))) → w.deed ≡ d → flood_work th run.net t ((h n).state t) (unstamped (flood_machine th run.net) w.deed) ≡ Some w.work → ((h (suc n)).state t).done c ≤ commands_below th (suc (ph (suc n))) (run.net.script c)
                  deed (Receives u y) f possible = omega (arith, b, more, counts, ap (λ z. (flood_counted th run.net ((h n).state t) (unstamped (flood_machine th run.net) z)).done c) f)
                  deed (Does x) f possible = two (compare c x)
                    where
                      now : ((h (suc n)).state t).done c ≡ at ((h n).state t).done x (suc (((h n).state t).done x)) c
                      now = counts ∙ ap (λ z. (flood_counted th run.net ((h n).state t) (unstamped (flood_machine th run.net) z)).done c) f

                      three : c ≡ x → (o : Option (PhasedCommand th)) → slice_get (run.net.script c) (((h n).state t).done c) ≡ o → suc (((h n).state t).done c) ≤ commands_below th (suc (ph (suc n))) (run.net.script c)
                      three g (Some y) i = upto-count th (ph (suc n)) (run.net.script c) (((h n).state t).done c) y (run.laws.phased c) i (omega (arith, w.phases.command c y (f ∙ ap Does (sym g)) (subst (λ z. slice_get (run.net.script c) (((h n).state z).done c) ≡ Some y) e i)))
                      three g None i = absurd (nothing (cond-some (is_among t run.net.servers) (is_among x (run.net.clients t)) (flood_next th run.net t x (((h n).state t).done x) (slice_get (run.net.script x) (((h n).state t).done x))) w.work (subst (λ z. flood_work th run.net t ((h n).state t) (unstamped (flood_machine th run.net) z) ≡ Some w.work) f possible)).2)
                        where
                          nothing : flood_next th run.net t x (((h n).state t).done x) (slice_get (run.net.script x) (((h n).state t).done x)) ≡ Some w.work → ⊥
                          nothing k = flat (sym (ap (flood_next th run.net t x (((h n).state t).done x)) (subst (λ z. slice_get (run.net.script z) (((h n).state t).done z) ≡ None) g i)) ∙ k)
                            where
                              flat : None ≡ Some w.work → ⊥
                              flat e = cc

                      two : Same c x → ((h (suc n)).state t).done c ≤ commands_below th (suc (ph (suc n))) (run.net.script c)
                      two (Not g i) =
                          let mine : at ((h n).state t).done x (suc (((h n).state t).done x)) c ≡ ((h n).state t).done c = rw i refl in
                          omega (arith, b, more, now, mine)
                      two (Is g i) =
                          let mine : at ((h n).state t).done x (suc (((h n).state t).done x)) c ≡ suc (((h n).state t).done x) = rw i refl in
                          omega (arith, now, mine, ap ((h n).state t).done g, three g (slice_get (run.net.script c) (((h n).state t).done c)) refl)

  pub moment-of : (m t i k : ℕ) (p : Publication th) (c : ℕ) → Passes m t i k p → Has c (run.net.clients t) → IsMomentOfPhase th (net_at th run.net k) k c (((h (suc m)).state t).done c)
  moment-of m t i k p c pass lives =
      let x = counted (suc m) t c lives in
      subst (λ z. IsMomentOfPhase th (net_at th run.net z) z c (((h (suc m)).state t).done c)) (sym (pass-phase m t i k p pass)) (record { from = x.0; upto = x.1 })
