-- What stands in an inbox was given there by an entry that routes it, in the order of the entries.
use Rattle.std.proofs.Common.{◌≡◌, ℕ, zero, suc, ◌+◌, ◌≤◌, ◌<◌, ◌&&◌, Bool, true, false, cond, List, [], ◌∷◌, ◌++◌, ◌⊎◌, inl, inr, length, slice_get, Option, Some, None, refl, sym, ap, subst, ◌∙◌, arith, length-append}
use Rattle.std.proofs.lemmas.Option.{slice_get_within, same_Some}
use Rattle.base.proofs.Numbers.{Same, Is, Not, compare}
use Rattle.law_machine.proofs.Numbers.{climb}
use Rattle.law_machine.proofs.History.{moves}
use Rattle.law_routing.specs.Theory.{Theory, TheoryLaws}
use Rattle.law_routing.specs.Net.{Net}
use Rattle.law_routing.specs.Clients.{some_pass}
use Rattle.law_routing.specs.Server.{Publication, ServerState, is_among}
use Rattle.law_routing.specs.Step.{Work, SetsFilters, SetsAdverts, Routes, InstallsTable, Nothing, effect}
use Rattle.law_routing.specs.Works.{work_at, Works}
use Rattle.law_routing.proofs.Working.{works, state-here, state-other}
use Rattle.law_phases.specs.Trees.{JournalEntry, on, entry_on, net_at, machine_at, at_phase}
use Rattle.law_phases.specs.Moments.{Moment}
use Rattle.law_phases.specs.Runs.{ActFinds, PhasedRun}
use Rattle.law_phases.specs.AtMoments.{states, phases, seen, phase_seen, net_seen, states_on, inbox_at}
use Rattle.law_phases.specs.Routes.{IsRoutedOn}
use Rattle.law_phases.proofs.Entries.{happens-run, happens-there, keeps-run, still}
use Rattle.std.proofs.lemmas.Bool.{cases_lt}
use Rattle.base.proofs.Lists.{get-push}

pub mapped : {X Y : Type 0} (f : X → Y) (xs : List X) (i : ℕ) (x : X) → slice_get xs i ≡ Some x → slice_get (Rattle.std.proofs.Common.map f xs) i ≡ Some (f x)
mapped f [] i x e = absurd cc
mapped f (y ∷ xs) zero x e = ap (λ z. Some (f z)) (same_Some y x e)
mapped f (y ∷ xs) (suc i) x e = mapped f xs i x e

module _ (th : Theory) (net : Net th) where
  abbrev routing : ℕ → ℕ → ℕ → th.Notice → Work th
  routing i q o n = Routes i q o n

  -- what a work gives a client
  gives-one : (t : ℕ) (s : ServerState th) (k : Work th) (c : ℕ) → ((effect th net t s k).state.inbox c ≡ s.inbox c)
      ⊎ ((i : ℕ) × (p : Publication th) × (k ≡ Routes i p.publisher p.ordinal p.notice) × ((effect th net t s k).state.inbox c ≡ s.inbox c ++ p ∷ []))
  gives-one t s (SetsFilters i set) c = inl refl
  gives-one t s (SetsAdverts i set) c = inl refl
  gives-one t s InstallsTable c = inl refl
  gives-one t s Nothing c = inl refl
  gives-one t s (Routes i q o n) c = go (is_among c (net.clients t) && some_pass (th.matches n) (s.installed (64 + c)))
    where
      go : (b : Bool) → (cond b (s.inbox c ++ record { publisher = q; ordinal = o; notice = n } ∷ []) (s.inbox c) ≡ s.inbox c)
          ⊎ ((j : ℕ) × (p : Publication th) × (routing i q o n ≡ Routes j p.publisher p.ordinal p.notice) × (cond b (s.inbox c ++ record { publisher = q; ordinal = o; notice = n } ∷ []) (s.inbox c) ≡ s.inbox c ++ p ∷ []))
      go true = inr (i, record { publisher = q; ordinal = o; notice = n }, refl, refl)
      go false = inl refl

module _ (th : Theory) (laws : TheoryLaws th) (run : PhasedRun th) where
  -- what an entry works, on the tree of its phase
  pub works-there : (n : ℕ) (e : JournalEntry) → slice_get run.journal n ≡ Some e → Works th (net_seen th run n) (states_on th run (net_seen th run n) n) (entry_on th (net_seen th run n) e) (on th (net_seen th run n) (states th run (suc n)))
  works-there n e is =
      let k = phase_seen th run n in
      let m = machine_at th run.net k in
      let x = at_phase th run.net k (seen th run n) in
      let v = at_phase th run.net k (states th run (suc n)) in
      works th (net_seen th run n) x (entry_on th (net_seen th run n) e) v (moves m x k (entry_on th (net_at th run.net k) e) v k (happens-there th laws run n e is))

  -- phases never fall
  finds-up : (n : ℕ) (o : Option ℕ) → ActFinds th run.net (states th run n) (phases th run n) o (seen th run n) (phase_seen th run n) → phases th run n ≤ phase_seen th run n
  finds-up n None (a, b) = omega (arith, b)
  finds-up n (Some k) (a, inl (b, c)) = omega (arith, a, b)
  finds-up n (Some k) (a, inr (b, t, c, g)) = omega (arith, a, b)

  pub seen-up : (n : ℕ) → (phases th run n ≤ phase_seen th run n) × (phase_seen th run n ≤ phases th run (suc n))
  seen-up n = go (slice_get run.journal n) refl
    where
      go : (o : Option JournalEntry) → slice_get run.journal n ≡ o → (phases th run n ≤ phase_seen th run n) × (phase_seen th run n ≤ phases th run (suc n))
      go None e =
          let s = still th run.net (Rattle.law_phases.specs.Moments.opening_moment th run.net) run.journal n e in
          let a : phases th run (suc n) ≡ phases th run n = ap (λ (z : Moment th run.net). z.phase) s.0 in
          let b : phase_seen th run n ≡ phases th run n = ap (λ (z : Moment th run.net). z.phase) s.1 in
          (omega (arith, b), omega (arith, a, b))
      go (Some e) f = let h = happens-run th laws run n e f in (finds-up n _ h.ready, omega (arith, h.phase))

  pub phases-up : (a b : ℕ) → a ≤ b → phases th run a ≤ phases th run b
  phases-up a b l = climb (λ y. phases th run a ≤ phases th run y) a (omega arith) (λ y g r. omega (arith, r, (seen-up y).0, (seen-up y).1)) b l

  pub seen-rises : (a b : ℕ) → a ≤ b → phase_seen th run a ≤ phase_seen th run b
  seen-rises a b l = go (compare a b)
    where
      go : Same a b → phase_seen th run a ≤ phase_seen th run b
      go (Is e v) = omega (arith, ap (phase_seen th run) e)
      go (Not n v) = omega (arith, (seen-up a).1, phases-up (suc a) b (omega (arith, l, n)), (seen-up b).0)

  -- an entry gives a client of a server a publication
  pub record Gives (n t c : ℕ) : Type 0 where
    pub interface : ℕ
    pub publication : Publication th
    pub routes : IsRoutedOn th run (net_seen th run n) n t interface publication
    pub delivers : inbox_at th run (suc n) t c ≡ inbox_at th run n t c ++ publication ∷ []

  pub inbox-next : (n t c : ℕ) → (inbox_at th run (suc n) t c ≡ inbox_at th run n t c) ⊎ Gives n t c
  inbox-next n t c = go (slice_get run.journal n) refl
    where
      before : ((seen th run n).state t).inbox c ≡ inbox_at th run n t c
      before = ap (λ z. z c) (keeps-run th laws run n t).inbox

      one : (e : JournalEntry) → slice_get run.journal n ≡ Some e → (inbox_at th run (suc n) t c ≡ inbox_at th run n t c) ⊎ Gives n t c
      one e is = by (compare t e.server)
        where
          N : Net th
          N = net_seen th run n

          w : Works th (net_seen th run n) (states_on th run (net_seen th run n) n) (entry_on th (net_seen th run n) e) (on th (net_seen th run n) (states th run (suc n)))
          w = works-there n e is

          by : Same t e.server → (inbox_at th run (suc n) t c ≡ inbox_at th run n t c) ⊎ Gives n t c
          by (Not m v) = inl (ap (λ (z : ServerState th). z.inbox c) (state-other th (net_seen th run n) (states_on th run (net_seen th run n) n) (entry_on th (net_seen th run n) e) (on th (net_seen th run n) (states th run (suc n))) w t m) ∙ before)
          by (Is p v) = two (gives-one th (net_seen th run n) e.server w.from w.work c)
            where
              after : inbox_at th run (suc n) t c ≡ (effect th (net_seen th run n) e.server w.from w.work).state.inbox c
              after = ap (λ (z : ServerState th). z.inbox c) (state-here th (net_seen th run n) (states_on th run (net_seen th run n) n) (entry_on th (net_seen th run n) e) (on th (net_seen th run n) (states th run (suc n))) w t p)

              had : w.from.inbox c ≡ inbox_at th run n t c
              had = ap (λ z. z c) w.counts.inbox ∙ (ap (λ z. ((seen th run n).state z).inbox c) (sym p) ∙ before)

              two : ((effect th (net_seen th run n) e.server w.from w.work).state.inbox c ≡ w.from.inbox c) ⊎ ((i : ℕ) × (q : Publication th) × (w.work ≡ Routes i q.publisher q.ordinal q.notice) × ((effect th (net_seen th run n) e.server w.from w.work).state.inbox c ≡ w.from.inbox c ++ q ∷ []))
                  → (inbox_at th run (suc n) t c ≡ inbox_at th run n t c) ⊎ Gives n t c
              two (inl f) = inl (after ∙ (f ∙ had))
              two (inr (i, q, f, g)) = inr (record {
                interface = i;
                publication = q;
                routes = record {
                  entry = entry_on th (net_seen th run n) e;
                  at = mapped (entry_on th (net_seen th run n)) run.journal n e is;
                  server = sym p;
                  routes = ap (λ z. work_at th (net_seen th run n) (states_on th run (net_seen th run n) n) z e.act) p ∙ (w.is ∙ ap Some f);
                };
                delivers = after ∙ (g ∙ ap (λ z. z ++ q ∷ []) had);
              })

      go : (o : Option JournalEntry) → slice_get run.journal n ≡ o → (inbox_at th run (suc n) t c ≡ inbox_at th run n t c) ⊎ Gives n t c
      go None e = inl (ap (λ (z : Moment th run.net). (z.state.state t).inbox c) (still th run.net (Rattle.law_phases.specs.Moments.opening_moment th run.net) run.journal n e).0)
      go (Some e) f = one e f

  inbox-more : (n t c : ℕ) → length (inbox_at th run n t c) ≤ length (inbox_at th run (suc n) t c)
  inbox-more n t c = elim (inbox-next n t c) [
    | inl e ↦ omega (arith, ap length e)
    | inr g ↦ omega (arith, ap length g.delivers, length-append (inbox_at th run n t c) (g.publication ∷ []))
  ]

  inbox-up : (a b t c : ℕ) → a ≤ b → length (inbox_at th run a t c) ≤ length (inbox_at th run b t c)
  inbox-up a b t c l = climb (λ y. length (inbox_at th run a t c) ≤ length (inbox_at th run y t c)) a (omega arith) (λ y g r. omega (arith, r, inbox-more y t c)) b l

  -- what stands in an inbox was given there by an entry
  pub record GivenAt (n t c i : ℕ) (p : Publication th) : Type 0 where
    pub moment : ℕ
    pub before : moment < n
    pub interface : ℕ
    pub routes : IsRoutedOn th run (net_seen th run moment) moment t interface p
    pub place : length (inbox_at th run moment t c) ≡ i
    pub longer : i < length (inbox_at th run (suc moment) t c)

  pub given-at : (n t c i : ℕ) (p : Publication th) → slice_get (inbox_at th run n t c) i ≡ Some p → GivenAt n t c i p
  given-at zero t c i p e = absurd (never e)
    where
      never : slice_get [] i ≡ Some p → ⊥
      never e = cc
  given-at (suc n) t c i p e = go (inbox-next n t c) (given-at n t c i p)
    where
      later : GivenAt n t c i p → GivenAt (suc n) t c i p
      later g = record { moment = g.moment; before = omega (arith, g.before); interface = g.interface; routes = g.routes; place = g.place; longer = g.longer }

      go : (inbox_at th run (suc n) t c ≡ inbox_at th run n t c) ⊎ Gives n t c → (slice_get (inbox_at th run n t c) i ≡ Some p → GivenAt n t c i p) → GivenAt (suc n) t c i p
      go (inl f) ih = later (ih (ap (λ z. slice_get z i) (sym f) ∙ e))
      go (inr g) ih = by (get-push (inbox_at th run n t c) g.publication i p (ap (λ z. slice_get z i) (sym g.delivers) ∙ e))
        where
          by : (slice_get (inbox_at th run n t c) i ≡ Some p) ⊎ ((i ≡ length (inbox_at th run n t c)) × (g.publication ≡ p)) → GivenAt (suc n) t c i p
          by (inl f) = later (ih f)
          by (inr (f, h)) = record {
            moment = n;
            before = omega arith;
            interface = g.interface;
            routes = subst (IsRoutedOn th run (net_seen th run n) n t g.interface) h g.routes;
            place = sym f;
            longer = slice_get_within (inbox_at th run (suc n) t c) i p e;
          }

  -- what stands before was given before
  pub given-before : (n t c i j : ℕ) (p q : Publication th) (a : GivenAt n t c i p) (b : GivenAt n t c j q) → i < j → a.moment < b.moment
  given-before n t c i j p q a b less = go (cases_lt a.moment b.moment)
    where
      go : (a.moment < b.moment) ⊎ (b.moment ≤ a.moment) → a.moment < b.moment
      go (inl l) = l
      go (inr l) = absurd (omega (arith, a.place, b.place, less, inbox-up b.moment a.moment t c l))

  -- what was given before stands before
  pub stands-before : (n t c i j : ℕ) (p q : Publication th) (a : GivenAt n t c i p) (b : GivenAt n t c j q) → a.moment < b.moment → i < j
  stands-before n t c i j p q a b less = omega (arith, a.longer, b.place, inbox-up (suc a.moment) b.moment t c less)
