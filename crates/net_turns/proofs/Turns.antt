-- Turns tried one after the other within a phase, over any net: what they make over a list and its parts, and that what is tried is what is permitted.
use Rattle.std.proofs.Common.{◌≡◌, ℕ, Bool, true, false, cond, List, [], ◌∷◌, ◌++◌, length, Option, Some, None, refl, sym, ap, subst, ◌∙◌}
use Rattle.std.proofs.lemmas.Option.{same_Some}
use Rattle.law_machine.specs.Machine.{act_phase}
use Rattle.law_machine.specs.Network.{entry_at}
use Rattle.law_machine.specs.Walk.{with_default, is_of_phase}
use Rattle.law_machine.proofs.Tried.{Entered, entry-step}
use Rattle.law_routing.specs.Theory.{Theory}
use Rattle.law_routing.specs.Routing.{NetEntry}
use Rattle.law_phases.specs.Trees.{JournalEntry, PhasedNet, net_at, machine_at, at_phase}
use Rattle.law_phases.specs.Moments.{Moment, as_found, acted, command_phase, moment_after}
use Rattle.law_phases.specs.Runs.{Turn, IsRunTo}
use Rattle.law_phases.specs.Turns.{off_maybe, entry_made, turn_phase, IsPermittedTurn}
use Rattle.law_phases.specs.Walk.{entry_in, moment_next, entries_by, moment_by}
use Rattle.law_phases.proofs.Moments.{run-begins, run-ends}
use Rattle.law_phases.proofs.Turned.{permitted-happens, happens-permitted, found-is}

module _ (th : Theory) (net : PhasedNet th) where
  -- the entries of a list of turns and of a further list
  pub entries-append : (p : ℕ) (m : Moment th net) (a b : List Turn) → entries_by th net p m (a ++ b) ≡ entries_by th net p m a ++ entries_by th net p (moment_by th net p m a) b
  entries-append p m [] b = refl
  entries-append p m (t ∷ a) b = go (entry_in th net p m t) (λ z. entries-append p z a b)
    where
      go : (o : Option JournalEntry) → ((z : Moment th net) → entries_by th net p z (a ++ b) ≡ entries_by th net p z a ++ entries_by th net p (moment_by th net p z a) b)
          → with_default o (λ e. e ∷ entries_by th net p (moment_next th net m e) (a ++ b)) (entries_by th net p m (a ++ b))
          ≡ with_default o (λ e. e ∷ entries_by th net p (moment_next th net m e) a) (entries_by th net p m a)
          ++ entries_by th net p (with_default o (λ e. moment_by th net p (moment_next th net m e) a) (moment_by th net p m a)) b
      go None ih = ih m
      go (Some e) ih = ap (λ z. e ∷ z) (ih (moment_next th net m e))

  -- the moment after turns is that after their entries
  pub moment-entries : (p : ℕ) (m : Moment th net) (a : List Turn) → moment_after th net m (entries_by th net p m a) (length (entries_by th net p m a)) ≡ moment_by th net p m a
  moment-entries p m [] = refl
  moment-entries p m (t ∷ a) = go (entry_in th net p m t) (λ z. moment-entries p z a)
    where
      go : (o : Option JournalEntry) → ((z : Moment th net) → moment_after th net z (entries_by th net p z a) (length (entries_by th net p z a)) ≡ moment_by th net p z a)
          → moment_after th net m (with_default o (λ e. e ∷ entries_by th net p (moment_next th net m e) a) (entries_by th net p m a)) (length (with_default o (λ e. e ∷ entries_by th net p (moment_next th net m e) a) (entries_by th net p m a)))
          ≡ with_default o (λ e. moment_by th net p (moment_next th net m e) a) (moment_by th net p m a)
      go None ih = ih m
      go (Some e) ih = ih (moment_next th net m e)

  -- the moment after a journal that goes on
  pub after-append : (m : Moment th net) (es fs : List JournalEntry) → moment_after th net m (es ++ fs) (length (es ++ fs)) ≡ moment_after th net (moment_after th net m es (length es)) fs (length fs)
  after-append m [] fs = refl
  after-append m (e ∷ es) fs = after-append (moment_next th net m e) es fs

  -- a permitted turn of the phase is made in the walk too, with the same entry, and leads to the same moment
  pub record Makes (p : ℕ) (m : Moment th net) (t : Turn) (e : JournalEntry) (next : Moment th net) : Type 0 where
    pub entry : entry_in th net p m t ≡ Some e
    pub leads : moment_next th net m e ≡ next

  pub permitted-makes : (p : ℕ) (m : Moment th net) (t : Turn) (e : JournalEntry) (next : Moment th net) → is_of_phase (machine_at th net p) p (turn_phase th net m t) ≡ true → IsPermittedTurn th net m t e next → Makes p m t e next
  permitted-makes p m t e next own x = record {
    entry = ap (λ z. cond z (entry_made th net (as_found th net m (turn_phase th net m t)) t) None) own ∙ (ap (λ z. entry_made th net z t) found ∙ x.possible);
    leads = ap (λ z. acted th net z e) (ap (as_found th net m) same-own ∙ found) ∙ x.leads;
  }
    where
      found : as_found th net m (turn_phase th net m t) ≡ x.found
      found = found-is th net m (turn_phase th net m t) x.found x.ready

      same-own : command_phase th net m e ≡ turn_phase th net m t
      same-own =
          let told = permitted-happens th net m t e next x in
          ap (λ z. act_phase (machine_at th net m.phase) z (m.state.state z) e.act) told.0 ∙ ap (act_phase (machine_at th net m.phase) t.0 (m.state.state t.0)) told.1

  -- an entry tells its turn
  tells : (w : Moment th net) (t : Turn) (e : JournalEntry) → entry_made th net w t ≡ Some e → (e.server ≡ t.0) × (e.act ≡ t.1)
  tells w t e f = go (entry_at (machine_at th net w.phase) (at_phase th net w.phase w.state) t.0 t.1) refl f
    where
      go : (o : Option (NetEntry th (net_at th net w.phase))) → entry_at (machine_at th net w.phase) (at_phase th net w.phase w.state) t.0 t.1 ≡ o → off_maybe th (net_at th net w.phase) o ≡ Some e → (e.server ≡ t.0) × (e.act ≡ t.1)
      go None g h = absurd cc
      go (Some x) g h = subst (λ (z : JournalEntry). (z.server ≡ t.0) × (z.act ≡ t.1)) (same_Some _ _ h) (y.server, y.act)
        where
          y : Entered (machine_at th net w.phase) (at_phase th net w.phase w.state) t.0 t.1 x
          y = entry-step (machine_at th net w.phase) (at_phase th net w.phase w.state) t.0 t.1 x g

  tried-tells : (p : ℕ) (m : Moment th net) (t : Turn) (e : JournalEntry) → entry_in th net p m t ≡ Some e → (e.server ≡ t.0) × (e.act ≡ t.1)
  tried-tells p m t e f = go (is_of_phase (machine_at th net p) p (turn_phase th net m t)) f
    where
      go : (b : Bool) → cond b (entry_made th net (as_found th net m (turn_phase th net m t)) t) None ≡ Some e → (e.server ≡ t.0) × (e.act ≡ t.1)
      go true g = tells (as_found th net m (turn_phase th net m t)) t e g
      go false g = absurd cc

  -- where a run begins with an entry, its turn is permitted
  head-permitted : (m after : Moment th net) (e : JournalEntry) (es : List JournalEntry) → IsRunTo th net m (e ∷ es) after → (next : Moment th net) × IsPermittedTurn th net m (e.server, e.act) e next
  head-permitted m after e es (x, v, q, ready, step, rest) =
      (record { state = v; phase = q }, happens-permitted th net m (record { state = x; phase = q }) (record { state = v; phase = q }) e (record { ready = ready; step = step; phase = refl }))

  -- a turn that is not permitted is not made in the walk either, where the walk is a legal run
  pub barred-none : (p : ℕ) (m after : Moment th net) (t : Turn) (a : List Turn) → IsRunTo th net m (entries_by th net p m (t ∷ a)) after
      → ((e : JournalEntry) (next : Moment th net) → IsPermittedTurn th net m t e next → ⊥) → entry_in th net p m t ≡ None
  barred-none p m after t a run bar = go (entry_in th net p m t) refl run
    where
      go : (o : Option JournalEntry) → entry_in th net p m t ≡ o → IsRunTo th net m (with_default o (λ e. e ∷ entries_by th net p (moment_next th net m e) a) (entries_by th net p m a)) after → o ≡ None
      go None f run = refl
      go (Some e) f run =
          let head = head-permitted m after e (entries_by th net p (moment_next th net m e) a) run in
          let told = tried-tells p m t e f in
          absurd (bar e head.0 (subst (λ (z : Turn). IsPermittedTurn th net m z e head.0) (λ i. (told.0 i, told.1 i)) head.1))

  -- a turn that is not possible is skipped
  pub made-nothing : (p : ℕ) (m : Moment th net) (t : Turn) (a : List Turn) → entry_in th net p m t ≡ None → entries_by th net p m (t ∷ a) ≡ entries_by th net p m a
  made-nothing p m t a f = ap (λ o. with_default o (λ e. e ∷ entries_by th net p (moment_next th net m e) a) (entries_by th net p m a)) f

  -- a run that begins with the entries of turns leads to the moment after them, and goes on from there
  pub run-first : (p : ℕ) (m after : Moment th net) (a : List Turn) (rest : List JournalEntry) → IsRunTo th net m (entries_by th net p m a ++ rest) after
      → IsRunTo th net m (entries_by th net p m a) (moment_by th net p m a) × IsRunTo th net (moment_by th net p m a) rest after
  run-first p m after a rest run =
      let split = run-begins th net m.state m.phase (entries_by th net p m a) rest after.state after.phase run in
      let middle : Moment th net = record { state = split.0; phase = split.1 } in
      let ends : moment_by th net p m a ≡ middle = sym (moment-entries p m a) ∙ run-ends th net m.state m.phase (entries_by th net p m a) split.0 split.1 split.2 in
      (subst (IsRunTo th net m (entries_by th net p m a)) (sym ends) split.2, subst (λ z. IsRunTo th net z rest after) (sym ends) split.3)

  -- turns that make nothing leave the moment
  pub still-moment : (p : ℕ) (m : Moment th net) (turns : List Turn) → entries_by th net p m turns ≡ [] → moment_by th net p m turns ≡ m
  still-moment p m turns e = sym (moment-entries p m turns) ∙ ap (λ z. moment_after th net m z (length z)) e
