-- What stands in an inbox was given there by an entry that routes it, in the order of the entries; so the phases of an inbox never fall.
use Rattle.std.proofs.Common.{◌≡◌, ℕ, zero, suc, ◌+◌, ◌≤◌, ◌<◌, ◌&&◌, Bool, true, false, cond, List, [], ◌∷◌, ◌++◌, ◌⊎◌, inl, inr, length, slice_get, Some, refl, sym, ap, subst, ◌∙◌, arith, length-append}
use Rattle.std.proofs.lemmas.Option.{slice_get_within}
use Rattle.base.proofs.Numbers.{Same, Is, Not, compare}
use Rattle.law_machine.proofs.Numbers.{climb}
use Rattle.law_routing.specs.Theory.{Theory, TheoryLaws}
use Rattle.law_routing.specs.Clients.{some_pass}
use Rattle.law_routing.specs.Server.{Publication, ServerState, is_among}
use Rattle.law_routing.specs.Step.{Work, SetsFilters, SetsAdverts, Routes, InstallsTable, Nothing, effect}
use Rattle.law_routing.specs.Routing.{Network}
use Rattle.law_routing.specs.Works.{work_at}
use Rattle.law_routing.specs.Owed.{IsPublication}
use Rattle.law_routing.specs.AsOf.{IsRoutedAt}
use Rattle.law_routing.specs.LegalRun.{LegalRun, states, phases, inbox_at}
use Rattle.law_routing.proofs.Working.{NextWorks, next-works, state-here, state-other}
use Rattle.law_routing.proofs.Begins.{phase-rising}
use Rattle.law_routing.proofs.Current.{one-publication, pass-publication}
use Rattle.law_routing.proofs.Started.{history, starts}
use Rattle.std.proofs.lemmas.Bool.{cases_lt}
use Rattle.base.proofs.Lists.{get-push}

module _ (th : Theory) (laws : TheoryLaws th) (run : LegalRun th) where
  abbrev h : ℕ → Network th run.net
  h = states th run

  abbrev routing : ℕ → ℕ → ℕ → th.Notice → Work th
  routing i q o n = Routes i q o n

  gives-one : (t : ℕ) (s : ServerState th) (k : Work th) (c : ℕ) → ((effect th run.net t s k).state.inbox c ≡ s.inbox c)
      ⊎ ((i : ℕ) × (p : Publication th) × (k ≡ Routes i p.publisher p.ordinal p.notice) × ((effect th run.net t s k).state.inbox c ≡ s.inbox c ++ p ∷ []))
  gives-one t s (SetsFilters i set) c = inl refl
  gives-one t s (SetsAdverts i set) c = inl refl
  gives-one t s InstallsTable c = inl refl
  gives-one t s Nothing c = inl refl
  gives-one t s (Routes i q o n) c = go (is_among c (run.net.clients t) && some_pass (th.matches n) (s.installed (64 + c)))
    where
      go : (b : Bool) → (cond b (s.inbox c ++ record { publisher = q; ordinal = o; notice = n } ∷ []) (s.inbox c) ≡ s.inbox c)
          ⊎ ((j : ℕ) × (p : Publication th) × (routing i q o n ≡ Routes j p.publisher p.ordinal p.notice) × (cond b (s.inbox c ++ record { publisher = q; ordinal = o; notice = n } ∷ []) (s.inbox c) ≡ s.inbox c ++ p ∷ []))
      go true = inr (i, record { publisher = q; ordinal = o; notice = n }, refl, refl)
      go false = inl refl

  record Gives (n t c : ℕ) : Type 0 where
    interface : ℕ
    publication : Publication th
    routes : IsRoutedAt th run.net (states th run) run.journal n t interface publication.publisher publication.ordinal publication.notice
    delivers : inbox_at th run (suc n) t c ≡ inbox_at th run n t c ++ publication ∷ []

  inbox-next : (n t c : ℕ) → (inbox_at th run (suc n) t c ≡ inbox_at th run n t c) ⊎ Gives n t c
  inbox-next n t c = go (next-works th run.net run.journal h (phases th run) (history th laws run) n)
    where
      go : NextWorks th run.net run.journal (states th run) (phases th run) (history th laws run) n → (inbox_at th run (suc n) t c ≡ inbox_at th run n t c) ⊎ Gives n t c
      go (inl (f, e)) = inl (ap (λ (z : Network th run.net). (z.state t).inbox c) e)
      go (inr (e, slot, w)) = by (compare t e.server)
        where
          by : Same t e.server → (inbox_at th run (suc n) t c ≡ inbox_at th run n t c) ⊎ Gives n t c
          by (Not m v) = inl (ap (λ (z : ServerState th). z.inbox c) (state-other th run.net (h n) e (h (suc n)) w t m))
          by (Is p v) = two (gives-one e.server w.from w.work c)
            where
              after : inbox_at th run (suc n) t c ≡ (effect th run.net e.server w.from w.work).state.inbox c
              after = ap (λ (z : ServerState th). z.inbox c) (state-here th run.net (h n) e (h (suc n)) w t p)

              had : w.from.inbox c ≡ inbox_at th run n t c
              had = ap (λ z. z c) w.counts.inbox ∙ ap (λ z. ((h n).state z).inbox c) (sym p)

              two : ((effect th run.net e.server w.from w.work).state.inbox c ≡ w.from.inbox c) ⊎ ((i : ℕ) × (q : Publication th) × (w.work ≡ Routes i q.publisher q.ordinal q.notice) × ((effect th run.net e.server w.from w.work).state.inbox c ≡ w.from.inbox c ++ q ∷ []))
                  → (inbox_at th run (suc n) t c ≡ inbox_at th run n t c) ⊎ Gives n t c
              two (inl f) = inl (after ∙ (f ∙ had))
              two (inr (i, q, f, g)) = inr (record {
                interface = i;
                publication = q;
                routes = record { entry = e; at = slot; server = sym p; routes = ap (λ z. work_at th run.net (h n) z e.act) p ∙ (w.is ∙ ap Some f) };
                delivers = after ∙ (g ∙ ap (λ z. z ++ q ∷ []) had);
              })

  inbox-up : (a b t c : ℕ) → a ≤ b → length (inbox_at th run a t c) ≤ length (inbox_at th run b t c)
  inbox-up a b t c l = climb (λ y. length (inbox_at th run a t c) ≤ length (inbox_at th run y t c)) a (omega arith) (λ y g r. omega (arith, r, more y)) b l
    where
      more : (n : ℕ) → length (inbox_at th run n t c) ≤ length (inbox_at th run (suc n) t c)
      more n = elim (inbox-next n t c) [
        | inl e ↦ omega (arith, ap length e)
        | inr g ↦ omega (arith, ap length g.delivers, length-append (inbox_at th run n t c) (g.publication ∷ []))
      ]

  module _ (bare : (t c : ℕ) → (run.start.state t).inbox c ≡ []) where
    pub record GivenAt (n t c i : ℕ) (p : Publication th) : Type 0 where
      pub moment : ℕ
      pub before : moment < n
      pub interface : ℕ
      pub routes : IsRoutedAt th run.net (states th run) run.journal moment t interface p.publisher p.ordinal p.notice
      pub place : length (inbox_at th run moment t c) ≡ i
      pub longer : i < length (inbox_at th run (suc moment) t c)

    pub given-at : (n t c i : ℕ) (p : Publication th) → slice_get (inbox_at th run n t c) i ≡ Some p → GivenAt n t c i p
    given-at zero t c i p e = absurd (never (subst (λ z. slice_get z i ≡ Some p) (bare t c) e))
      where
        never : slice_get [] i ≡ Some p → ⊥
        never e = cc
    given-at (suc n) t c i p e = go (inbox-next n t c) (given-at n t c i p)
      where
        later : GivenAt n t c i p → GivenAt (suc n) t c i p
        later g = record { moment = g.moment; before = omega (arith, g.before); interface = g.interface; routes = g.routes; place = g.place; longer = g.longer }

        go : (inbox_at th run (suc n) t c ≡ inbox_at th run n t c) ⊎ Gives n t c → (slice_get (inbox_at th run n t c) i ≡ Some p → GivenAt n t c i p) → GivenAt (suc n) t c i p
        go (inl f) ih = later (ih (ap (λ z. slice_get z i) (sym f) ∙ e))
        go (inr g) ih = by (get-push (inbox_at th run n t c) g.publication i p (ap (λ z. slice_get z i) (sym g.delivers) ∙ e))
          where
            by : (slice_get (inbox_at th run n t c) i ≡ Some p) ⊎ ((i ≡ length (inbox_at th run n t c)) × (g.publication ≡ p)) → GivenAt (suc n) t c i p
            by (inl f) = later (ih f)
            by (inr (f, k)) = record {
              moment = n;
              before = omega arith;
              interface = g.interface;
              routes = subst (λ (z : Publication th). IsRoutedAt th run.net (states th run) run.journal n t g.interface z.publisher z.ordinal z.notice) k g.routes;
              place = sym f;
              longer = slice_get_within (inbox_at th run (suc n) t c) i p e;
            }

    pub given-before : (n t c i j : ℕ) (p q : Publication th) (a : GivenAt n t c i p) (b : GivenAt n t c j q) → i < j → a.moment < b.moment
    given-before n t c i j p q a b less = go (cases_lt a.moment b.moment)
      where
        go : (a.moment < b.moment) ⊎ (b.moment ≤ a.moment) → a.moment < b.moment
        go (inl l) = l
        go (inr l) = absurd (omega (arith, a.place, b.place, less, inbox-up b.moment a.moment t c l))

    pub stands-before : (n t c i j : ℕ) (p q : Publication th) (a : GivenAt n t c i p) (b : GivenAt n t c j q) → a.moment < b.moment → i < j
    stands-before n t c i j p q a b less = omega (arith, a.longer, b.place, inbox-up (suc a.moment) b.moment t c less)

    -- the phases of an inbox never fall
    pub by-phase : (n t c i j : ℕ) (p q : Publication th) (k l : ℕ) → i < j → slice_get (inbox_at th run n t c) i ≡ Some p → slice_get (inbox_at th run n t c) j ≡ Some q
        → IsPublication th run.net p.publisher p.ordinal k p.notice → IsPublication th run.net q.publisher q.ordinal l q.notice → k ≤ l
    by-phase n t c i j p q k l less e f x y =
        let a = given-at n t c i p e in
        let b = given-at n t c j q f in
        let up = given-before n t c i j p q a b less in
        let phase = λ (m i : ℕ) (r : Publication th) (at : IsRoutedAt th run.net (states th run) run.journal m t i r.publisher r.ordinal r.notice).
        pass-publication th laws run.net run.laws run.journal h (phases th run) (history th laws run) run.begins.rest (starts th laws run) run.laws.phased m t i r.publisher r.ordinal r.notice at in
        let first : phases th run (suc a.moment) ≡ k = (one-publication th run.net p.publisher p.ordinal (phases th run (suc a.moment)) k p.notice p.notice (phase a.moment a.interface p a.routes) x).0 in
        let second : phases th run (suc b.moment) ≡ l = (one-publication th run.net q.publisher q.ordinal (phases th run (suc b.moment)) l q.notice q.notice (phase b.moment b.interface q b.routes) y).0 in
        omega (arith, first, second, phase-rising th laws run.net run.laws run.journal h (phases th run) (history th laws run) run.begins.rest (starts th laws run) run.laws.phased (suc a.moment) (suc b.moment) (omega (arith, up)))
