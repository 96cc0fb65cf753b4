-- Turns tried one after the other within a phase, over any machine: what they make over a list and its parts, and that what is tried is what is permitted.
use Rattle.std.proofs.Common.{◌≡◌, ℕ, Bool, true, false, cond, List, [], ◌∷◌, ◌++◌, inl, inr, length, Option, Some, None, refl, sym, ap, subst, ◌∙◌, arith, eq-eqb, ne_eqb}
use Rattle.law_machine.specs.Machine.{Machine, Entry, act_phase}
use Rattle.law_machine.specs.Network.{NetworkState, entry_at}
use Rattle.law_machine.specs.Runs.{IsReady, IsRun, IsPermitted}
use Rattle.law_machine.specs.History.{Moment, as_found, network_step, moment_after}
use Rattle.law_machine.specs.Walk.{Turn, with_default, is_of_phase, entry_in, entries_by, moment_by}
use Rattle.law_machine.proofs.Fixed.{run-begins}
use Rattle.law_machine.proofs.History.{run-ends}
use Rattle.law_machine.proofs.Tried.{entry-step, happens-permitted}

module _ (m : Machine) where
  -- a run from a moment to another
  abbrev pub RunsTo : Moment m → List (Entry m) → Moment m → Type 0
  RunsTo start entries end = IsRun m start.network start.phase entries end.network end.phase

  pub found-is : (w : NetworkState m) (p : ℕ) (o : Option ℕ) (x : NetworkState m) (q : ℕ) → IsReady m w p o x q → as_found m (record { network = w; phase = p }) o ≡ record { network = x; phase = q }
  found-is w p None x q (e, f) = λ i. record { network = e i; phase = f i }
  found-is w p (Some k) x q (f, inl (e, g)) = rw (eq-eqb p k e) (λ i. record { network = g i; phase = (e ∙ f) i })
  found-is w p (Some k) x q (f, inr (l, t, c, g)) = rw (ne_eqb p k (λ h. omega (arith, l, h))) (λ i. record { network = g i; phase = f i })

  -- the moment after turns is that after their entries
  pub moment-entries : (p : ℕ) (s : Moment m) (a : List (Turn m)) → moment_after m s (entries_by m p s a) (length (entries_by m p s a)) ≡ moment_by m p s a
  moment-entries p s [] = refl
  moment-entries p s (t ∷ a) = go (entry_in m p s t) (λ z. moment-entries p z a)
    where
      go : (o : Option (Entry m)) → ((z : Moment m) → moment_after m z (entries_by m p z a) (length (entries_by m p z a)) ≡ moment_by m p z a)
          → moment_after m s (with_default o (λ e. e ∷ entries_by m p (network_step m s e) a) (entries_by m p s a)) (length (with_default o (λ e. e ∷ entries_by m p (network_step m s e) a) (entries_by m p s a)))
          ≡ with_default o (λ e. moment_by m p (network_step m s e) a) (moment_by m p s a)
      go None ih = ih s
      go (Some e) ih = ih (network_step m s e)

  -- the moment after a journal that goes on
  pub after-append : (s : Moment m) (es fs : List (Entry m)) → moment_after m s (es ++ fs) (length (es ++ fs)) ≡ moment_after m (moment_after m s es (length es)) fs (length fs)
  after-append s [] fs = refl
  after-append s (e ∷ es) fs = after-append (network_step m s e) es fs

  -- a permitted turn of the phase is made in the walk too, with the same entry
  pub permitted-makes : (p : ℕ) (s : Moment m) (t : Turn m) (e : Entry m) (next : NetworkState m) (q : ℕ) → is_of_phase m p (act_phase m t.0 (s.network.state t.0) t.1) ≡ true
      → IsPermitted m s.network s.phase t.0 t.1 e next q → entry_in m p s t ≡ Some e
  permitted-makes p s t e next q own x =
      ap (λ z. cond z (entry_at m (as_found m s (act_phase m t.0 (s.network.state t.0) t.1)).network t.0 t.1) None) own
      ∙ (ap (λ (z : Moment m). entry_at m z.network t.0 t.1) (found-is s.network s.phase (act_phase m t.0 (s.network.state t.0) t.1) x.found q x.ready) ∙ x.possible)

  -- an entry tells its turn
  tried-tells : (p : ℕ) (s : Moment m) (t : Turn m) (e : Entry m) → entry_in m p s t ≡ Some e → (e.server ≡ t.0) × (e.act ≡ t.1)
  tried-tells p s t e f = go (is_of_phase m p (act_phase m t.0 (s.network.state t.0) t.1)) f
    where
      go : (b : Bool) → cond b (entry_at m (as_found m s (act_phase m t.0 (s.network.state t.0) t.1)).network t.0 t.1) None ≡ Some e → (e.server ≡ t.0) × (e.act ≡ t.1)
      go true g = let y = entry-step m (as_found m s (act_phase m t.0 (s.network.state t.0) t.1)).network t.0 t.1 e g in (y.server, y.act)
      go false g = absurd cc

  -- where a run begins with an entry, its turn is permitted
  pub head-permitted : (s after : Moment m) (e : Entry m) (es : List (Entry m)) → RunsTo s (e ∷ es) after → (next : NetworkState m) × (q : ℕ) × IsPermitted m s.network s.phase e.server e.act e next q
  head-permitted s after e es (x, v, q, ready, step, rest) = (v, q, happens-permitted m s.network s.phase e v q (record { found = x; ready = ready; step = step }))

  -- a turn that is not permitted is not made in the walk either, where the walk is a legal run
  pub barred-none : (p : ℕ) (s after : Moment m) (t : Turn m) (a : List (Turn m)) → RunsTo s (entries_by m p s (t ∷ a)) after
      → ((e : Entry m) (next : NetworkState m) (q : ℕ) → IsPermitted m s.network s.phase t.0 t.1 e next q → ⊥) → entry_in m p s t ≡ None
  barred-none p s after t a run bar = go (entry_in m p s t) refl run
    where
      go : (o : Option (Entry m)) → entry_in m p s t ≡ o → RunsTo s (with_default o (λ e. e ∷ entries_by m p (network_step m s e) a) (entries_by m p s a)) after → o ≡ None
      go None f run = refl
      go (Some e) f run =
          let head = head-permitted s after e (entries_by m p (network_step m s e) a) run in
          let told = tried-tells p s t e f in
          absurd (bar e head.0 head.1 (subst (λ (z : Turn m). IsPermitted m s.network s.phase z.0 z.1 e head.0 head.1) (λ i. (told.0 i, told.1 i)) head.2))

  -- a turn that is not possible is skipped
  pub made-nothing : (p : ℕ) (s : Moment m) (t : Turn m) (a : List (Turn m)) → entry_in m p s t ≡ None → entries_by m p s (t ∷ a) ≡ entries_by m p s a
  made-nothing p s t a f = ap (λ o. with_default o (λ e. e ∷ entries_by m p (network_step m s e) a) (entries_by m p s a)) f

  -- a run that begins with the entries of turns leads to the moment after them, and goes on from there
  pub run-first : (p : ℕ) (s after : Moment m) (a : List (Turn m)) (rest : List (Entry m)) → RunsTo s (entries_by m p s a ++ rest) after
      → RunsTo s (entries_by m p s a) (moment_by m p s a) × RunsTo (moment_by m p s a) rest after
  run-first p s after a rest run =
      let split = run-begins m s.network s.phase (entries_by m p s a) rest after.network after.phase run in
      let middle : Moment m = record { network = split.0; phase = split.1 } in
      let ends : moment_by m p s a ≡ middle = sym (moment-entries p s a) ∙ run-ends m s.network s.phase (entries_by m p s a) split.0 split.1 split.2 in
      (subst (RunsTo s (entries_by m p s a)) (sym ends) split.2, subst (λ z. RunsTo z rest after) (sym ends) split.3)

  -- turns that make nothing leave the moment
  pub still-moment : (p : ℕ) (s : Moment m) (turns : List (Turn m)) → entries_by m p s turns ≡ [] → moment_by m p s turns ≡ s
  still-moment p s turns e = sym (moment-entries p s turns) ∙ ap (λ z. moment_after m s z (length z)) e
