-- Flooding delivers what is owed, once, and nothing that is not allowed.
use Rattle.std.proofs.Common.{◌≡◌, ℕ, zero, suc, ◌+◌, ◌≤◌, ◌<◌, ◌==◌, Bool, true, false, cond, not, ◌&&◌, List, [], ◌∷◌, ◌++◌, ◌⊎◌, inl, inr, length, take, slice_get, Option, Some, None, refl, sym, ap, subst, ◌∙◌, arith, eq-eqb, ne_eqb}
use Rattle.std.proofs.lemmas.Option.{slice_get_within, same_Some}
use Rattle.base.specs.Sets.{Has}
use Rattle.base.proofs.Numbers.{Same, Is, Not, compare}
use Rattle.law_machine.proofs.Numbers.{climb}
use Rattle.law_machine.specs.Machine.{Input, Does, Receives, Outcome, Stamped, Entry, at, unstamped, stamped}
use Rattle.law_machine.specs.Network.{NetworkState, IsAvailable, taken_after}
use Rattle.law_machine.specs.Runs.{IsQuiet, MachineLaws}
use Rattle.law_machine.specs.History.{phase_at}
use Rattle.law_routing.specs.Theory.{Theory, TheoryLaws}
use Rattle.law_routing.specs.Net.{Net, Publish, PhasedCommand}
use Rattle.law_routing.specs.Clients.{ordinal, filters_after}
use Rattle.law_routing.specs.Server.{Publication, is_among}
use Rattle.law_routing.specs.Routing.{phase_of}
use Rattle.law_routing.specs.AsOf.{times_delivered}
use Rattle.law_routing.specs.Rest.{IsOnwardWay, end_of}
use Rattle.law_routing.proofs.Laws.{one-has, cond-some}
use Rattle.law_routing.proofs.Listing.{has-one, slice_get-end, by-pass}
use Rattle.law_routing.proofs.Paths.{path-to}
use Rattle.law_routing.proofs.Delivered.{crossing}
use Rattle.law_phases.specs.Trees.{PhasedNet, tree_at, net_at}
use Rattle.law_phases.specs.Owing.{IsPublishedIn, IsAllowedByScripts}
use Rattle.law_phases.specs.Flooding.{FloodServer, FloodMessage, FloodWork, Floods, Rests, flood_command, flood_next, flood_work, flood_counted, is_wanted_by, flood_effect, flood_outcome, flood_step, flood_machine, flood_opening, IsFloodOwed, FloodRun, flood_states, EndsFlooded, IsFloodedOnce}
use Rattle.base.proofs.Sets.{has-append-left, has-append-right}
use Rattle.base.proofs.Lists.{get-append}
use Rattle.law_phases.proofs.FloodSteps.{Step, Still, done-steps, ends, put-stays, step-of, taken-steps, tree-laws}
use Rattle.law_phases.proofs.FloodPasses.{Passes, done-after, flooding, known, message, moment-of, pass-once}

-- how often an id stands in a list in which it stands at one place alone
module _ (th : Theory) (net : Net th) (q o : ℕ) where
  times-none : (xs : List (Publication th)) → ((j : ℕ) (x : Publication th) → slice_get xs j ≡ Some x → q ≡ x.publisher → o ≡ x.ordinal → ⊥) → times_delivered th net q o xs ≡ 0
  times-none [] f = refl
  times-none (x ∷ xs) f = go (compare q x.publisher) (compare o x.ordinal) (times-none xs (λ j y e. f (suc j) y e))
    where
      go : Same q x.publisher → Same o x.ordinal → times_delivered th net q o xs ≡ 0 → cond ((q == x.publisher) && (o == x.ordinal)) (suc (times_delivered th net q o xs)) (times_delivered th net q o xs) ≡ 0
      go (Is a b) (Is c d) e = absurd (f 0 x refl a c)
      go (Is a b) (Not c d) e = rw (b, d) e
      go (Not a b) c e = rw b e

  times-one : (xs : List (Publication th)) → ((i j : ℕ) (x y : Publication th) → slice_get xs i ≡ Some x → slice_get xs j ≡ Some y → q ≡ x.publisher → o ≡ x.ordinal → q ≡ y.publisher → o ≡ y.ordinal → i ≡ j)
      → (k : ℕ) (p : Publication th) → slice_get xs k ≡ Some p → q ≡ p.publisher → o ≡ p.ordinal → times_delivered th net q o xs ≡ 1
  times-one [] f k p e a b = absurd cc
  times-one (x ∷ xs) f k p e a b = go (compare q x.publisher) (compare o x.ordinal) k e (λ j g. times-one xs (λ i j y z e g a b c d. down i j (f (suc i) (suc j) y z e g a b c d)) j p g a b)
    where
      down : (i j : ℕ) → suc i ≡ suc j → i ≡ j
      down i j e = omega (arith, e)

      apart : (j : ℕ) → 0 ≡ suc j → ⊥
      apart j e = omega (arith, e)

      go : Same q x.publisher → Same o x.ordinal → (k : ℕ) → slice_get (x ∷ xs) k ≡ Some p → ((j : ℕ) → slice_get xs j ≡ Some p → times_delivered th net q o xs ≡ 1)
          → cond ((q == x.publisher) && (o == x.ordinal)) (suc (times_delivered th net q o xs)) (times_delivered th net q o xs) ≡ 1
      go (Is c d) (Is g i) k e ih = rw (d, i) (ap suc (times-none xs (λ j y e' m n. apart j (f 0 (suc j) x y refl e' c g m n))))
      go (Is c d) (Not g i) zero e ih = absurd (g (b ∙ ap (λ (z : Publication th). z.ordinal) (sym (same_Some _ _ e))))
      go (Is c d) (Not g i) (suc k) e ih = rw (d, i) (ih k e)
      go (Not c d) g zero e ih = absurd (c (a ∙ ap (λ (z : Publication th). z.publisher) (sym (same_Some _ _ e))))
      go (Not c d) g (suc k) e ih = rw d (ih k e)

module _ (th : Theory) (laws : TheoryLaws th) (run : FloodRun th) where
  abbrev net : PhasedNet th
  net = run.net

  abbrev h : ℕ → NetworkState (flood_machine th run.net)
  h = flood_states th run

  abbrev ph : ℕ → ℕ
  ph = phase_at (flood_machine th run.net) (flood_opening th run.net) 0 run.journal

  abbrev J : List (Entry (flood_machine th run.net))
  J = run.journal

  -- what a work gives a client
  record Gives (m t c : ℕ) : Type 0 where
    interface : ℕ
    phase : ℕ
    publication : Publication th
    passes : Passes th laws run m t interface phase publication
    lives : Has c (run.net.clients t)
    wanted : is_wanted_by th run.net publication c (((h (suc m)).state t).done c) ≡ true
    delivers : ((h (suc m)).state t).inbox c ≡ ((h m).state t).inbox c ++ publication ∷ []

  inbox-counted : (s : FloodServer th) (d : Input ℕ (FloodMessage th)) → (flood_counted th run.net s d).inbox ≡ s.inbox
  inbox-counted s (Does c) = refl
  inbox-counted s (Receives u y) = refl

  -- an entry that passes it on gives it to each client of its server that wants it
  given-by : (m t i k : ℕ) (p : Publication th) (c : ℕ) (b : Bool) → Passes th laws run m t i k p → Has c (run.net.clients t) → is_wanted_by th run.net p c (((h (suc m)).state t).done c) ≡ b
      → ((h (suc m)).state t).inbox c ≡ cond b (((h m).state t).inbox c ++ p ∷ []) (((h m).state t).inbox c)
  given-by m t i k p c b pass lives wanted = all ∙ (made ∙ ap (λ z. cond b (z ++ p ∷ []) z) had)
    where
      w : Step th laws run m
      w = pass.step

      s : FloodServer th
      s = flood_counted th run.net ((h m).state t) (unstamped (flood_machine th run.net) w.deed)

      all : ((h (suc m)).state t).inbox c ≡ (flood_effect th run.net t s (Floods i k p)).state.inbox c
      all =
          ap (λ z. (z t).inbox c) w.state ∙ (ap (λ b. (cond b (flood_effect th run.net w.entry.server (flood_counted th run.net ((h m).state w.entry.server) (unstamped (flood_machine th run.net) w.deed)) w.work).state ((h m).state t)).inbox c) (eq-eqb t w.entry.server (sym pass.server))
          ∙ (ap (λ z. (flood_effect th run.net z (flood_counted th run.net ((h m).state z) (unstamped (flood_machine th run.net) w.deed)) w.work).state.inbox c) pass.server ∙ ap (λ z. (flood_effect th run.net t s z).state.inbox c) pass.floods))

      had : s.inbox c ≡ ((h m).state t).inbox c
      had = ap (λ z. z c) (inbox-counted ((h m).state t) (unstamped (flood_machine th run.net) w.deed))

      wants : is_wanted_by th run.net p c (s.done c) ≡ b
      wants = ap (is_wanted_by th run.net p c) (sym (done-after th laws run m t w pass.server c)) ∙ wanted

      made : (flood_effect th run.net t s (Floods i k p)).state.inbox c ≡ cond b (s.inbox c ++ p ∷ []) (s.inbox c)
      made = ap (λ z. cond (z && is_wanted_by th run.net p c (s.done c)) (s.inbox c ++ p ∷ []) (s.inbox c)) (has-one c (run.net.clients t) lives) ∙ ap (λ z. cond z (s.inbox c ++ p ∷ []) (s.inbox c)) wants

  inbox-next : (m t c : ℕ) → Has c (run.net.clients t) → (((h (suc m)).state t).inbox c ≡ ((h m).state t).inbox c) ⊎ Gives m t c
  inbox-next m t c lives = go (step-of th laws run m)
    where
      go : Still th laws run m ⊎ Step th laws run m → (((h (suc m)).state t).inbox c ≡ ((h m).state t).inbox c) ⊎ Gives m t c
      go (inl s) = inl (ap (λ (z : NetworkState (flood_machine th run.net)). (z.state t).inbox c) s.0)
      go (inr w) = by (compare t w.entry.server)
        where
          by : Same t w.entry.server → (((h (suc m)).state t).inbox c ≡ ((h m).state t).inbox c) ⊎ Gives m t c
          by (Not e v) = inl (ap (λ z. (z t).inbox c) w.state ∙ ap (λ z. (cond z (flood_effect th run.net w.entry.server (flood_counted th run.net ((h m).state w.entry.server) (unstamped (flood_machine th run.net) w.deed)) w.work).state ((h m).state t)).inbox c) v)
          by (Is e v) = two w.work refl
            where
              two : (k : FloodWork th) → w.work ≡ k → (((h (suc m)).state t).inbox c ≡ ((h m).state t).inbox c) ⊎ Gives m t c
              two Rests f = inl (ap (λ z. (z t).inbox c) w.state ∙ (ap (λ z. (cond z (flood_effect th run.net w.entry.server (flood_counted th run.net ((h m).state w.entry.server) (unstamped (flood_machine th run.net) w.deed)) w.work).state ((h m).state t)).inbox c) v
                  ∙ (ap (λ z. (flood_effect th run.net w.entry.server (flood_counted th run.net ((h m).state w.entry.server) (unstamped (flood_machine th run.net) w.deed)) z).state.inbox c) f
                  ∙ (ap (λ z. z c) (inbox-counted ((h m).state w.entry.server) (unstamped (flood_machine th run.net) w.deed)) ∙ ap (λ z. ((h m).state z).inbox c) (sym e)))))
              two (Floods i k p) f = three (is_wanted_by th run.net p c (((h (suc m)).state t).done c)) refl
                where
                  pass : Passes th laws run m t i k p
                  pass = record { step = w; server = sym e; floods = f }

                  three : (b : Bool) → is_wanted_by th run.net p c (((h (suc m)).state t).done c) ≡ b → (((h (suc m)).state t).inbox c ≡ ((h m).state t).inbox c) ⊎ Gives m t c
                  three true g = inr (record { interface = i; phase = k; publication = p; passes = pass; lives = lives; wanted = g; delivers = given-by m t i k p c true pass lives g })
                  three false g = inl (given-by m t i k p c false pass lives g)

  -- what stands in an inbox was given there by an entry
  record GivenAt (n t c j : ℕ) (p : Publication th) : Type 0 where
    moment : ℕ
    interface : ℕ
    phase : ℕ
    passes : Passes th laws run moment t interface phase p
    wanted : is_wanted_by th run.net p c (((h (suc moment)).state t).done c) ≡ true
    place : length (((h moment).state t).inbox c) ≡ j

  given-at : (n t c j : ℕ) (p : Publication th) → Has c (run.net.clients t) → slice_get (((h n).state t).inbox c) j ≡ Some p → GivenAt n t c j p
  given-at zero t c j p lives e = absurd (none e)
    where
      none : slice_get [] j ≡ Some p → ⊥
      none e = cc
  given-at (suc n) t c j p lives e = go (inbox-next n t c lives) (given-at n t c j p lives)
    where
      later : GivenAt n t c j p → GivenAt (suc n) t c j p
      later g = record { moment = g.moment; interface = g.interface; phase = g.phase; passes = g.passes; wanted = g.wanted; place = g.place }

      go : (((h (suc n)).state t).inbox c ≡ ((h n).state t).inbox c) ⊎ Gives n t c → (slice_get (((h n).state t).inbox c) j ≡ Some p → GivenAt n t c j p) → GivenAt (suc n) t c j p
      go (inl f) ih = later (ih (ap (λ z. slice_get z j) (sym f) ∙ e))
      go (inr g) ih = by (get-append (((h n).state t).inbox c) (g.publication ∷ []) j p (ap (λ z. slice_get z j) (sym g.delivers) ∙ e))
        where
          by : (slice_get (((h n).state t).inbox c) j ≡ Some p) ⊎ ((i : ℕ) × (j ≡ length (((h n).state t).inbox c) + i) × (slice_get (g.publication ∷ []) i ≡ Some p)) → GivenAt (suc n) t c j p
          by (inl f) = later (ih f)
          by (inr (zero, f, k)) =
              let same : g.publication ≡ p = same_Some _ _ k in
              record {
                moment = n;
                interface = g.interface;
                phase = g.phase;
                passes = subst (Passes th laws run n t g.interface g.phase) same g.passes;
                wanted = subst (λ z. is_wanted_by th run.net z c (((h (suc n)).state t).done c) ≡ true) same g.wanted;
                place = omega (arith, f);
              }
          by (inr (suc i, f, k)) = absurd (none k)
            where
              none : slice_get [] i ≡ Some p → ⊥
              none e = cc

  -- an id stands there once
  given-once : (n t c i j : ℕ) (p x : Publication th) → Has c (run.net.clients t) → slice_get (((h n).state t).inbox c) i ≡ Some p → slice_get (((h n).state t).inbox c) j ≡ Some x → p.publisher ≡ x.publisher → p.ordinal ≡ x.ordinal → i ≡ j
  given-once n t c i j p x lives e f q o =
      let a = given-at n t c i p lives e in
      let b = given-at n t c j x lives f in
      let same = pass-once th laws run a.moment b.moment t a.interface b.interface a.phase b.phase p x a.passes b.passes q o in
      sym a.place ∙ (ap (λ z. length (((h z).state t).inbox c)) same ∙ b.place)

  -- what is given is allowed
  pub given-allowed : (n t c : ℕ) (p : Publication th) → Has c (run.net.clients t) → Has p (((h n).state t).inbox c) → IsAllowedByScripts th run.net p c
  given-allowed n t c p lives has =
      let i = has-get (((h n).state t).inbox c) p has in
      let g = given-at n t c i.0 p lives i.1 in
      let f = by-pass (th.matches p.notice) (filters_after th [] (take (((h (suc g.moment)).state t).done c) (run.net.script c))) g.wanted in (
        g.phase,
        (known th laws run g.moment t g.interface g.phase p g.passes).published,
        record {
          index = ((h (suc g.moment)).state t).done c;
          moment = moment-of th laws run g.moment t g.interface g.phase p c g.passes lives;
          filter = f.0;
          listed = f.1;
          matches = f.2;
        },
      )
    where
      has-get : (xs : List (Publication th)) (x : Publication th) → Has x xs → (k : ℕ) × (slice_get xs k ≡ Some x)
      has-get [] x h = absurd h
      has-get (y ∷ xs) x (inl e) = (0, ap Some (sym e))
      has-get (y ∷ xs) x (inr h) = let r = has-get xs x h in (suc r.0, r.1)

  -- an accepted publish that was executed is passed on at home
  record Begins (k : ℕ) (p : Publication th) : Type 0 where
    moment : ℕ
    before : moment < length run.journal
    passes : Passes th laws run moment (run.net.home p.publisher) (run.net.home p.publisher) k p

  begins : (k : ℕ) (p : Publication th) → (s : IsPublishedIn th run.net k p) → s.index < ((h (length run.journal)).state (run.net.home p.publisher)).done p.publisher → Begins k p
  begins k p s taken = go c (step-of th laws run c.0)
    where
      q : ℕ
      q = p.publisher

      t : ℕ
      t = run.net.home p.publisher

      c : (m : ℕ) × (m < length run.journal) × (((h m).state (run.net.home p.publisher)).done p.publisher ≡ s.index) × (((h (suc m)).state (run.net.home p.publisher)).done p.publisher ≡ suc s.index)
      c = crossing (λ m. ((h m).state (run.net.home p.publisher)).done p.publisher) (λ m. (done-steps th laws run m (run.net.home p.publisher) p.publisher).1) s.index (length run.journal) (omega arith) taken

      go : (c : (m : ℕ) × (m < length run.journal) × (((h m).state (run.net.home p.publisher)).done p.publisher ≡ s.index) × (((h (suc m)).state (run.net.home p.publisher)).done p.publisher ≡ suc s.index)) → Still th laws run c.0 ⊎ Step th laws run c.0 → Begins k p
      go c (inl e) = absurd (omega (arith, c.2, c.3, ap (λ (z : NetworkState (flood_machine th run.net)). (z.state (run.net.home p.publisher)).done p.publisher) e.0))
      go c (inr w) = by (compare (run.net.home p.publisher) w.entry.server)
        where
          m : ℕ
          m = c.0

          by : Same (run.net.home p.publisher) w.entry.server → Begins k p
          by (Not e v) = absurd (omega (arith, c.2, c.3, (ap (λ z. (z t).done q) w.state ∙ ap (λ z. (cond z (flood_effect th run.net w.entry.server (flood_counted th run.net ((h c.0).state w.entry.server) (unstamped (flood_machine th run.net) w.deed)) w.work).state ((h c.0).state t)).done q) v)))
          by (Is e v) = deed w.deed refl (subst (λ z. flood_work th run.net z ((h c.0).state z) (unstamped (flood_machine th run.net) w.deed) ≡ Some w.work) (sym e) w.possible)
            where
              counts : ((h (suc c.0)).state t).done q ≡ (flood_counted th run.net ((h c.0).state t) (unstamped (flood_machine th run.net) w.deed)).done q
              counts = done-after th laws run c.0 t w (sym e) q

              asks : flood_command th run.net t q s.index s.command.phase (Publish p.notice) ≡ Floods t k p
              asks = ap (λ b. cond b (flooding th laws run t s.command.phase (record { publisher = q; ordinal = ordinal th (take (suc s.index) (run.net.script q)); notice = p.notice })) Rests) s.allowed
                  ∙ (λ j. flooding th laws run t (s.phase j) (record { publisher = q; ordinal = s.ordinal j; notice = p.notice }))

              deed : (d : Input ℕ (Stamped (FloodMessage th))) → w.deed ≡ d → flood_work th run.net t ((h c.0).state t) (unstamped (flood_machine th run.net) w.deed) ≡ Some w.work → Begins k p
              deed (Receives u y) f possible = absurd (omega (arith, c.2, c.3, counts, ap (λ z. (flood_counted th run.net ((h c.0).state t) (unstamped (flood_machine th run.net) z)).done q) f))
              deed (Does x) f possible = two (compare q x)
                where
                  now : ((h (suc c.0)).state t).done q ≡ at ((h c.0).state t).done x (suc (((h c.0).state t).done x)) q
                  now = counts ∙ ap (λ z. (flood_counted th run.net ((h c.0).state t) (unstamped (flood_machine th run.net) z)).done q) f

                  two : Same q x → Begins k p
                  two (Not g i) =
                      let mine : at ((h c.0).state t).done x (suc (((h c.0).state t).done x)) q ≡ ((h c.0).state t).done q = rw i refl in
                      absurd (omega (arith, c.2, c.3, now, mine))
                  two (Is g i) =
                      let there : flood_work th run.net t ((h c.0).state t) (Does q) ≡ Some w.work = subst (λ z. flood_work th run.net t ((h c.0).state t) (Does z) ≡ Some w.work) (sym g) (subst (λ z. flood_work th run.net t ((h c.0).state t) (unstamped (flood_machine th run.net) z) ≡ Some w.work) f possible) in
                      let next : flood_next th run.net t q s.index (slice_get (run.net.script q) s.index) ≡ Some w.work =
                      subst (λ z. flood_next th run.net t q z (slice_get (run.net.script q) z) ≡ Some w.work) c.2 (cond-some (is_among t run.net.servers) (is_among q (run.net.clients t)) (flood_next th run.net t q (((h c.0).state t).done q) (slice_get (run.net.script q) (((h c.0).state t).done q))) w.work there).2 in
                      let work : flood_command th run.net t q s.index s.command.phase s.command.command ≡ w.work = same_Some _ _ (ap (flood_next th run.net t q s.index) (sym s.at) ∙ next) in
                      record { moment = c.0; before = c.1; passes = record { step = w; server = sym e; floods = sym work ∙ (ap (flood_command th run.net t q s.index s.command.phase) s.publishes ∙ asks) } }

  -- a count of receptions rises only by a reception of that link
  abbrev takes : ℕ → Stamped (FloodMessage th) → Input ℕ (Stamped (FloodMessage th))
  takes u y = Receives u y

  took : (w : NetworkState (flood_machine th run.net)) (server t u : ℕ) (d : Input ℕ (Stamped (FloodMessage th))) → taken_after (flood_machine th run.net) w.taken server d t u ≡ suc (w.taken t u) → (y : Stamped (FloodMessage th)) × (d ≡ Receives t y) × (server ≡ u)
  took w server t u (Does a) e = absurd (omega (arith, e))
  took w server t u (Receives x y) e = go (compare t x) (compare u server) e
    where
      go : Same t x → Same u server → cond ((t == x) && (u == server)) (suc (w.taken t u)) (w.taken t u) ≡ suc (w.taken t u) → (z : Stamped (FloodMessage th)) × (takes x y ≡ takes t z) × (server ≡ u)
      go (Is p f) (Is p' f') e' = (y, ap (λ z. takes z y) (sym p), sym p')
      go (Is p f) (Not n f') e' = absurd (omega (arith, rw (f, f') at e'))
      go (Not n f) s e' = absurd (omega (arith, rw f at e'))

  -- where all is received at the end, what is passed on passes each further neighbour
  module _ (quiet : IsQuiet (flood_machine th run.net) run.end) where
    record Moved (u t k : ℕ) (p : Publication th) : Type 0 where
      moment : ℕ
      before : moment < length run.journal
      passes : Passes th laws run moment u t k p

    moves-on : (m t i k : ℕ) (p : Publication th) (u : ℕ) → Passes th laws run m t i k p → m < length run.journal → Has u ((tree_at th run.net k).links t) → (u ≡ i → ⊥) → Moved u t k p
    moves-on m t i k p u pass before near other = go c (step-of th laws run c.0)
      where
        w : Step th laws run m
        w = pass.step

        frame : Stamped (FloodMessage th)
        frame = record { stamp = w.stamp; message = message th laws run k p }

        s : FloodServer th
        s = flood_counted th run.net ((h m).state w.entry.server) (unstamped (flood_machine th run.net) w.deed)

        outs : (flood_effect th run.net w.entry.server s w.work).outs u ≡ message th laws run k p ∷ []
        outs = ap (λ z. (flood_effect th run.net w.entry.server s z).outs u) pass.floods
            ∙ (ap (λ z. cond (z && not (u == i)) (message th laws run k p ∷ []) []) (has-one u ((tree_at th run.net k).links w.entry.server) (subst (λ z. Has u ((tree_at th run.net k).links z)) (sym pass.server) near)) ∙ ap (λ z. cond (not z) (message th laws run k p ∷ []) []) (ne_eqb u i other))

        puts : (h (suc m)).put t u ≡ (h m).put t u ++ frame ∷ []
        puts = ap (λ z. z t u) w.put ∙ (ap (λ b. cond b ((h m).put t u ++ stamped (flood_machine th run.net) w.stamp ((flood_effect th run.net w.entry.server s w.work).outs u)) ((h m).put t u)) (eq-eqb t w.entry.server (sym pass.server))
            ∙ ap (λ z. (h m).put t u ++ stamped (flood_machine th run.net) w.stamp z) outs)

        place : ℕ
        place = length ((h m).put t u)

        stands : slice_get ((h (length run.journal)).put t u) (length ((h m).put t u)) ≡ Some frame
        stands = put-stays th laws run (suc m) (length run.journal) t u place frame before (ap (λ z. slice_get z place) puts ∙ slice_get-end ((h m).put t u) frame [])

        empty : (h (length run.journal)).taken t u ≡ length ((h (length run.journal)).put t u)
        empty = subst (λ (z : NetworkState (flood_machine th run.net)). z.taken t u ≡ length (z.put t u)) (sym (ends th laws run)) (quiet.empty t u)

        c : (n : ℕ) × (n < length run.journal) × ((h n).taken t u ≡ length ((h m).put t u)) × ((h (suc n)).taken t u ≡ suc (length ((h m).put t u)))
        c = crossing (λ n. (h n).taken t u) (λ n. (taken-steps th laws run n t u).1) place (length run.journal) (omega arith) (omega (arith, empty, slice_get_within ((h (length run.journal)).put t u) place frame stands))

        go : (c : (n : ℕ) × (n < length run.journal) × ((h n).taken t u ≡ length ((h m).put t u)) × ((h (suc n)).taken t u ≡ suc (length ((h m).put t u)))) → Still th laws run c.0 ⊎ Step th laws run c.0 → Moved u t k p
        go c (inl e) = absurd (omega (arith, c.2, c.3, ap (λ (z : NetworkState (flood_machine th run.net)). z.taken t u) e.0))
        go c (inr v) =
            let r = took (h c.0) v.entry.server t u v.deed (sym (ap (λ z. z t u) v.taken) ∙ (c.3 ∙ ap suc (sym c.2))) in
            let given : slice_get ((h c.0).put t v.entry.server) ((h c.0).taken t v.entry.server) ≡ Some r.0 = subst (IsAvailable (flood_machine th run.net) (h c.0) v.entry.server) r.1 v.given in
            let at-u : slice_get ((h c.0).put t u) ((h c.0).taken t u) ≡ Some r.0 = subst (λ z. slice_get ((h c.0).put t z) ((h c.0).taken t z) ≡ Some r.0) r.2 given in
            let later = put-stays th laws run c.0 (length run.journal) t u ((h c.0).taken t u) r.0 (omega (arith, c.1)) at-u in
            let same : r.0 ≡ frame = same_Some _ _ (sym later ∙ (ap (slice_get ((h (length run.journal)).put t u)) c.2 ∙ stands)) in
            let work : flood_work th run.net v.entry.server ((h c.0).state v.entry.server) (Receives t r.0.message) ≡ Some v.work = subst (λ z. flood_work th run.net v.entry.server ((h c.0).state v.entry.server) (unstamped (flood_machine th run.net) z) ≡ Some v.work) r.1 v.possible in
            let is = (cond-some (is_among v.entry.server run.net.servers) (is_among t ((tree_at th run.net r.0.message.phase).links v.entry.server)) (Some (Floods t r.0.message.phase r.0.message.publication)) v.work work).2 in
            record { moment = c.0; before = c.1; passes = record { step = v; server = r.2; floods = sym (same_Some _ _ is) ∙ ap (λ (z : Stamped (FloodMessage th)). flooding th laws run t z.message.phase z.message.publication) same } }

    record Reached (t k : ℕ) (p : Publication th) : Type 0 where
      moment : ℕ
      interface : ℕ
      before : moment < length run.journal
      passes : Passes th laws run moment t interface k p

    first-is : (u v : ℕ) (path more : List ℕ) → u ∷ path ≡ v ∷ more → u ≡ v
    first-is u v path more e = cc

    reach : (k : ℕ) (p : Publication th) (prior t : ℕ) (path : List ℕ) → IsOnwardWay th (net_at th run.net k) prior t path → (m i : ℕ) → Passes th laws run m t i k p → m < length run.journal → ((u : ℕ) (more : List ℕ) → path ≡ u ∷ more → u ≡ i → ⊥) → Reached (end_of th (net_at th run.net k) t path) k p
    reach k p prior t [] way m i pass before other = record { moment = m; interface = i; before = before; passes = pass }
    reach k p prior t (u ∷ path) way m i pass before other =
        let r = moves-on m t i k p u pass before way.0 (other u path refl) in
        reach k p t u path way.2 r.moment t r.passes r.before (turned path way.2)
      where
        turned : (path : List ℕ) → IsOnwardWay th (net_at th run.net k) t u path → (v : ℕ) (more : List ℕ) → path ≡ v ∷ more → v ≡ t → ⊥
        turned [] way v more e f = absurd cc
        turned (x ∷ path) way v more e f = way.1 (first-is x v path more e ∙ f)

    -- an accepted publication reaches each server
    reaches : (k : ℕ) (p : Publication th) → (s : IsPublishedIn th run.net k p) → s.index < ((h (length run.journal)).state (run.net.home p.publisher)).done p.publisher → (t : ℕ) → Has t run.net.servers → Reached t k p
    reaches k p s taken t here =
        let b = begins k p s taken in
        let q = run.net.home p.publisher in
        let w = path-to th laws (net_at th run.net k) (tree-laws th laws run k) q t (run.laws.housed p.publisher) here in
        subst (λ z. Reached z k p) w.end (reach k p q q w.path w.way b.moment q b.passes b.before (apart q w.path w.way))
      where
        apart : (q : ℕ) (path : List ℕ) → IsOnwardWay th (net_at th run.net k) q q path → (u : ℕ) (more : List ℕ) → path ≡ u ∷ more → u ≡ q → ⊥
        apart q [] way u more e f = absurd cc
        apart q (x ∷ path) way u more e f = way.1 (first-is x u path more e ∙ f)

  -- an inbox only grows
  grows-one : (m t c : ℕ) → Has c (run.net.clients t) → (p : Publication th) → Has p (((h m).state t).inbox c) → Has p (((h (suc m)).state t).inbox c)
  grows-one m t c lives p has = elim (inbox-next m t c lives) [
    | inl e ↦ subst (Has p) (sym e) has
    | inr g ↦ subst (Has p) (sym g.delivers) (has-append-left p (((h m).state t).inbox c) (g.publication ∷ []) has)
  ]

  grows-on : (a b t c : ℕ) → a ≤ b → Has c (run.net.clients t) → (p : Publication th) → Has p (((h a).state t).inbox c) → Has p (((h b).state t).inbox c)
  grows-on a b t c l lives p has = climb (λ z. Has p (((h z).state t).inbox c)) a has (λ z g r. grows-one z t c lives p r) b l

  place-of : (xs : List (Publication th)) (x : Publication th) → Has x xs → (k : ℕ) × (slice_get xs k ≡ Some x)
  place-of [] x h = absurd h
  place-of (y ∷ xs) x (inl e) = (0, ap Some (sym e))
  place-of (y ∷ xs) x (inr h) = let r = place-of xs x h in (suc r.0, r.1)

  pub flooded-once : EndsFlooded th run → (p : Publication th) (c : ℕ) → IsFloodOwed th run.net p c → IsFloodedOnce th run p c
  flooded-once drained p c o = (has, once)
    where
      t : ℕ
      t = run.net.home c

      last : ℕ
      last = length run.journal

      taken : o.published.index < ((h (length run.journal)).state (run.net.home p.publisher)).done p.publisher
      taken = omega (
        arith,
        slice_get_within (run.net.script p.publisher) o.published.index o.published.command o.published.at,
        drained.taken (run.net.home p.publisher) p.publisher o.here,
        ap (λ (z : NetworkState (flood_machine th run.net)). (z.state (run.net.home p.publisher)).done p.publisher) (ends th laws run),
      )

      r : Reached drained.quiet (run.net.home c) o.phase p
      r = reaches drained.quiet o.phase p o.published taken (run.net.home c) (run.laws.housed c)

      wanted : is_wanted_by th run.net p c (((h (suc r.moment)).state t).done c) ≡ true
      wanted = o.wanted (((h (suc r.moment)).state t).done c) (moment-of th laws run r.moment t r.interface o.phase p c r.passes o.lives)

      given : ((h (suc r.moment)).state t).inbox c ≡ ((h r.moment).state t).inbox c ++ p ∷ []
      given = given-by r.moment t r.interface o.phase p c true r.passes o.lives wanted

      there : Has p (((h (length run.journal)).state (run.net.home c)).inbox c)
      there = grows-on (suc r.moment) last t c r.before o.lives p (subst (Has p) (sym given) (has-append-right p (((h r.moment).state t).inbox c) (p ∷ []) (inl refl)))

      has : Has p ((run.end.state (run.net.home c)).inbox c)
      has = subst (λ (z : NetworkState (flood_machine th run.net)). Has p ((z.state (run.net.home c)).inbox c)) (ends th laws run) there

      once : times_delivered th (net_at th run.net 0) p.publisher p.ordinal ((run.end.state (run.net.home c)).inbox c) ≡ 1
      once =
          let k = place-of (((h (length run.journal)).state (run.net.home c)).inbox c) p there in
          subst (λ (z : NetworkState (flood_machine th run.net)). times_delivered th (net_at th run.net 0) p.publisher p.ordinal ((z.state (run.net.home c)).inbox c) ≡ 1) (ends th laws run)
          (times-one th (net_at th run.net 0) p.publisher p.ordinal (((h (length run.journal)).state (run.net.home c)).inbox c)
          (λ i j x y e f a b q d. given-once last t c i j x y o.lives e f (sym a ∙ q) (sym b ∙ d)) k.0 p k.1 refl refl)

  -- never twice
  pub flooded-twice-never : (n t c i j : ℕ) (p x : Publication th) → Has c (run.net.clients t) → slice_get (((h n).state t).inbox c) i ≡ Some p → slice_get (((h n).state t).inbox c) j ≡ Some x → p.publisher ≡ x.publisher → p.ordinal ≡ x.ordinal → i ≡ j
  flooded-twice-never = given-once

-- the servers that flood keep the laws of a machine
pub flood-laws : (th : Theory) (net : PhasedNet th) → MachineLaws (flood_machine th net)
flood-laws th net = record { among = among; table_update = λ server state task outcome made none. absurd (never-none server state task none) }
  where
    outcome-some : (t : ℕ) (s : FloodServer th) (o : Option (FloodWork th)) (r : Outcome (FloodServer th) (FloodMessage th)) → flood_outcome th net t s o ≡ Some r → (k : FloodWork th) × (o ≡ Some k)
    outcome-some t s None r e = absurd cc
    outcome-some t s (Some k) r e = (k, refl)

    among : (server : ℕ) (state : FloodServer th) (input : Input ℕ (FloodMessage th)) (outcome : Outcome (FloodServer th) (FloodMessage th)) → flood_step th net server state input ≡ Some outcome → Has server net.servers
    among server state (Does c) outcome e =
        let k = outcome-some server (flood_counted th net state (Does c)) (flood_work th net server state (Does c)) outcome e in
        one-has server net.servers (cond-some (is_among server net.servers) (is_among c (net.clients server)) (flood_next th net server c (state.done c) (slice_get (net.script c) (state.done c))) k.0 k.1).0
    among server state (Receives u y) outcome e =
        let k = outcome-some server (flood_counted th net state (Receives u y)) (flood_work th net server state (Receives u y)) outcome e in
        one-has server net.servers (cond-some (is_among server net.servers) (is_among u ((tree_at th net y.phase).links server)) (Some (Floods u y.phase y.publication)) k.0 k.1).0

    never-none : (server : ℕ) (state : FloodServer th) (c : ℕ) → phase_of th (net_at th net 0) (slice_get (net.script c) (state.done c)) ≡ None → ⊥
    never-none server state c = go (slice_get (net.script c) (state.done c))
      where
        go : (o : Option (PhasedCommand th)) → phase_of th (net_at th net 0) o ≡ None → ⊥
        go None e = cc
        go (Some x) e = cc
