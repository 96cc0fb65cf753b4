-- Where each publication is owed to some client beyond a link, it carries as many as plain flooding puts there.
use Rattle.std.proofs.Common.{◌≡◌, ℕ, zero, suc, ◌<◌, ◌≤◌, ◌==◌, Bool, true, false, cond, List, [], ◌∷◌, ◌⊎◌, inl, inr, slice_get, Option, Some, None, refl, sym, ap, subst, ◌∙◌, arith}
use Rattle.base.specs.Sets.{Has}
use Rattle.base.proofs.Numbers.{Same, Is, Not, compare}
use Rattle.law_machine.proofs.Numbers.{climb}
use Rattle.law_machine.specs.Machine.{Stamped}
use Rattle.law_machine.specs.Runs.{raised}
use Rattle.law_routing.specs.Theory.{Theory, TheoryLaws}
use Rattle.law_routing.specs.Net.{Net}
use Rattle.law_routing.specs.Server.{Message, Subs, Advs, Noticed, Publication}
use Rattle.law_routing.specs.Step.{effect}
use Rattle.law_routing.specs.Works.{work_at}
use Rattle.law_routing.specs.Change.{on_tree}
use Rattle.law_routing.specs.Order.{ordinals_put, add_ordinal}
use Rattle.law_routing.proofs.Accepted.{gives-routed}
use Rattle.law_phases.specs.Trees.{JournalEntry, State, on, off, entry_on, net_at, tree_at, machine_at, at_phase, is_one_tree}
use Rattle.law_phases.specs.Moments.{Moment, begun, as_found, command_phase, opening_moment, moment_after, found_after}
use Rattle.law_phases.specs.Runs.{PhasedRun}
use Rattle.law_phases.specs.AtMoments.{states, phase_seen, net_seen, states_on, messages_at, seen, inbox_at}
use Rattle.law_phases.specs.Routes.{IsRoutedOn}
use Rattle.law_phases.proofs.Moments.{next}
use Rattle.law_phases.proofs.Nets.{net-laws}
use Rattle.law_phases.proofs.Entries.{happens-run, messages-run, keeps-run, still}
use Rattle.law_phases.proofs.Speaking.{ids, Working, working}
use Rattle.law_phases.proofs.Carrying.{ords_at, ords_maybe, upto}
use Rattle.law_phases.proofs.Coming.{added, adding, keeping, put-behind}
use Rattle.base.proofs.Sets.{has-append-left, has-append-right}
use Rattle.base.proofs.Lists.{get-map}

module _ (th : Theory) (laws : TheoryLaws th) (run : PhasedRun th) where
  -- an entry routes a publication at a server
  pub record RoutesIt (n u : ℕ) (p : Publication th) : Type 0 where
    pub entry : JournalEntry
    pub slot : slice_get run.journal n ≡ Some entry
    pub interface : ℕ
    pub at : IsRoutedOn th run (net_seen th run n) n u interface p

  -- what an entry adds to an inbox it routes
  pub gives-one : (n : ℕ) (e : JournalEntry) → slice_get run.journal n ≡ Some e → (u c : ℕ) (p : Publication th) → Has p (inbox_at th run (suc n) u c) → Has p (inbox_at th run n u c) ⊎ RoutesIt n u p
  gives-one n e is u c p h = go (compare u e.server)
    where
      N : Net th
      N = net_seen th run n

      w : Working th (net_seen th run n) (states_on th run (net_seen th run n) n) (entry_on th (net_seen th run n) e) (on th (net_seen th run n) (states th run (suc n)))
      w = working th (net_seen th run n) (states_on th run (net_seen th run n) n) (entry_on th (net_seen th run n) e) (on th (net_seen th run n) (states th run (suc n))) (happens-run th laws run n e is).step

      before : Has p (((seen th run n).state u).inbox c) → Has p (inbox_at th run n u c)
      before i = subst (λ z. Has p (z c)) (keeps-run th laws run n u).inbox i

      go : Same u e.server → Has p (inbox_at th run n u c) ⊎ RoutesIt n u p
      go (Not m v) = inl (before (subst (λ b. Has p ((cond b (effect th (net_seen th run n) e.server w.from w.work).state ((seen th run n).state u)).inbox c)) v (subst (λ z. Has p ((z u).inbox c)) w.state h)))
      go (Is q v) =
          let there : Has p ((effect th (net_seen th run n) e.server w.from w.work).state.inbox c) =
          subst (λ b. Has p ((cond b (effect th (net_seen th run n) e.server w.from w.work).state ((seen th run n).state u)).inbox c)) v (subst (λ z. Has p ((z u).inbox c)) w.state h) in
          elim (gives-routed th (net_seen th run n) (net-laws th run.net run.laws (phase_seen th run n)) e.server w.from w.work c p there) [
            | inl i ↦ inl (before (subst (λ z. Has p (((seen th run n).state z).inbox c)) (sym q) (subst (λ z. Has p (z c)) w.inbox i)))
            | inr r ↦ inr (record {
              entry = e;
              slot = is;
              interface = r.0;
              at = record {
                entry = entry_on th (net_seen th run n) e;
                at = get-map (entry_on th (net_seen th run n)) run.journal n e is;
                server = sym q;
                routes = ap (λ z. work_at th (net_seen th run n) (states_on th run (net_seen th run n) n) z e.act) q ∙ (w.is ∙ ap Some r.1);
              };
            })
          ]

  -- what is in an inbox some entry routed there
  pub record RoutedBefore (n u : ℕ) (p : Publication th) : Type 0 where
    pub moment : ℕ
    pub before : moment < n
    pub routes : RoutesIt moment u p

  pub given-routed : (n u c : ℕ) (p : Publication th) → Has p (inbox_at th run n u c) → RoutedBefore n u p
  given-routed zero u c p h = absurd h
  given-routed (suc n) u c p h = go (slice_get run.journal n) refl (given-routed n u c p)
    where
      later : RoutedBefore n u p → RoutedBefore (suc n) u p
      later x = record { moment = x.moment; before = omega (arith, x.before); routes = x.routes }

      go : (m : Option JournalEntry) → slice_get run.journal n ≡ m → (Has p (inbox_at th run n u c) → RoutedBefore n u p) → RoutedBefore (suc n) u p
      go None f ih = later (ih (subst (λ (m : Moment th run.net). Has p ((m.state.state u).inbox c)) (still th run.net (opening_moment th run.net) run.journal n f).0 h))
      go (Some e) f ih = elim (gives-one n e f u c p h) [
        | inl i ↦ later (ih i)
        | inr r ↦ record { moment = n; before = omega arith; routes = r }
      ]

  -- what stands on a link as an entry finds it stood there before
  abbrev Put : Moment th run.net → ℕ → ℕ → List (Stamped (Message th))
  Put m a b = m.state.put a b

  begun-put : (k j : ℕ) (s : State th) (a b : ℕ) → ((begun th run.net k j s).put a b ≡ s.put a b) ⊎ ((begun th run.net k j s).put a b ≡ [])
  begun-put k j s a b = go (is_one_tree th run.net k j)
    where
      up : State th
      up = off th (net_at th run.net k) (raised (machine_at th run.net k) (at_phase th run.net k s))

      moved : State th
      moved = off th (net_at th run.net j) (on_tree th (net_at th run.net k) (tree_at th run.net j).links (tree_at th run.net j).hop (at_phase th run.net k s))

      go : (x : Bool) → ((cond x up moved).put a b ≡ s.put a b) ⊎ ((cond x up moved).put a b ≡ [])
      go true = inl refl
      go false = inr refl

  found-put : (m : Moment th run.net) (o : Option ℕ) (a b : ℕ) → (Put (as_found th run.net m o) a b ≡ Put m a b) ⊎ (Put (as_found th run.net m o) a b ≡ [])
  found-put m None a b = inl refl
  found-put m (Some k) a b = go (m.phase == k)
    where
      go : (x : Bool) → (Put (cond x m (record { state = begun th run.net m.phase k m.state; phase = k })) a b ≡ Put m a b) ⊎ (Put (cond x m (record { state = begun th run.net m.phase k m.state; phase = k })) a b ≡ [])
      go true = inl refl
      go false = begun-put m.phase k m.state a b

  seen-put : (m : Moment th run.net) (es : List JournalEntry) (n a b : ℕ) → (Put (found_after th run.net m es n) a b ≡ Put (moment_after th run.net m es n) a b) ⊎ (Put (found_after th run.net m es n) a b ≡ [])
  seen-put m [] zero a b = inl refl
  seen-put m [] (suc n) a b = inl refl
  seen-put m (e ∷ es) zero a b = found-put m (command_phase th run.net m e) a b
  seen-put m (e ∷ es) (suc n) a b = seen-put (next th run.net m e) es n a b

  module _ (z : Net th) (q o from to : ℕ) where
    found-was : (n : ℕ) → Has o (ordinals_put th z q ((seen th run n).put from to)) → Has o (ordinals_put th z q ((states th run n).put from to))
    found-was n h = elim (seen-put (opening_moment th run.net) run.journal n from to) [
      | inl e ↦ subst (λ xs. Has o (ordinals_put th z q xs)) e h
      | inr e ↦ absurd (subst (λ xs. Has o (ordinals_put th z q xs)) e h)
    ]

    same-ids : (n : ℕ) (ms : List (Message th)) → Has o (ids th z q ms) → Has o (ids th (net_seen th run n) q ms)
    same-ids n [] h = h
    same-ids n (m ∷ ms) h = elim (added th z q o m (ids th z q ms) h) [
      | inl a ↦ adding th (net_seen th run n) q o m (ids th (net_seen th run n) q ms) (one m a)
      | inr b ↦ keeping th (net_seen th run n) q o m (ids th (net_seen th run n) q ms) (same-ids n ms b)
    ]
      where
        one : (m : Message th) → Has o (add_ordinal th z q m []) → Has o (add_ordinal th (net_seen th run n) q m [])
        one (Subs out add) h = h
        one (Advs out add) h = h
        one (Noticed p x n) h = h

    -- what stands on a link was put there by an entry
    pub put-upto : (n : ℕ) → Has o (ordinals_put th z q ((states th run n).put from to)) → Has o (upto th laws run q n from to)
    put-upto zero h = absurd h
    put-upto (suc n) h = go (slice_get run.journal n) refl (put-upto n)
      where
        old : Has o (upto th laws run q n from to) → Has o (upto th laws run q (suc n) from to)
        old i = has-append-left o (upto th laws run q n from to) (ords_maybe th laws run q n (slice_get run.journal n) from to) i

        new : (e : JournalEntry) → slice_get run.journal n ≡ Some e → Has o (ords_at th laws run q n e from to) → Has o (upto th laws run q (suc n) from to)
        new e f i = has-append-right o (upto th laws run q n from to) (ords_maybe th laws run q n (slice_get run.journal n) from to) (subst (λ m. Has o (ords_maybe th laws run q n m from to)) (sym f) i)

        one : (e : JournalEntry) → slice_get run.journal n ≡ Some e → (Has o (ordinals_put th z q ((states th run n).put from to)) → Has o (upto th laws run q n from to)) → Same e.server from → Has o (upto th laws run q (suc n) from to)
        one e f ih (Not m v) = old (ih (found-was n (subst (λ xs. Has o (ordinals_put th z q xs)) ((messages-run th laws run n e f).others from to (λ g. m (sym g))) h)))
        one e f ih (Is p v) =
            let there = subst (λ xs. Has o (ordinals_put th z q xs)) ((messages-run th laws run n e f).puts to) (subst (λ a. Has o (ordinals_put th z q ((states th run (suc n)).put a to))) (sym p) h) in
            elim (put-behind th z q o e.stamp ((seen th run n).put e.server to) (messages_at th run n e to) there) [
              | inl a ↦ old (ih (found-was n (subst (λ s. Has o (ordinals_put th z q ((seen th run n).put s to))) p a)))
              | inr b ↦ new e f (subst (λ x. Has o (cond x (ids th (net_seen th run n) q (messages_at th run n e to)) [])) (sym v) (same-ids n (messages_at th run n e to) b))
            ]

        go : (m : Option JournalEntry) → slice_get run.journal n ≡ m → (Has o (ordinals_put th z q ((states th run n).put from to)) → Has o (upto th laws run q n from to)) → Has o (upto th laws run q (suc n) from to)
        go None f ih = old (ih (subst (λ (m : Moment th run.net). Has o (ordinals_put th z q (m.state.put from to))) (still th run.net (opening_moment th run.net) run.journal n f).0 h))
        go (Some e) f ih = one e f ih (compare e.server from)

    pub upto-grows : (n m : ℕ) → n ≤ m → Has o (upto th laws run q n from to) → Has o (upto th laws run q m from to)
    upto-grows n m l h = climb (λ y. Has o (upto th laws run q y from to)) n h (λ y g i. has-append-left o (upto th laws run q y from to) (ords_maybe th laws run q y (slice_get run.journal y) from to) i) m l
