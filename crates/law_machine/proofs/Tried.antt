-- The entry of an act: it is the one that a step records, and it makes a step.
use Rattle.std.proofs.Common.{◌≡◌, ℕ, ◌==◌, true, false, cond, List, [], ◌∷◌, ◌++◌, ◌⊎◌, inl, inr, slice_get, Option, Some, None, refl, sym, ap, subst, ◌∙◌, arith, eq-eqb, ne_eqb}
use Rattle.std.proofs.lemmas.Option.{same_Some}
use Rattle.law_machine.specs.Machine.{Machine, Input, Does, Receives, Outcome, Act, Did, Received, Stamped, Entry, unstamped, stamped, act_of, act_phase, receivers, entry_of}
use Rattle.law_machine.specs.Network.{NetworkState, IsAvailable, IsStep, network_after, reception_of, outcome_of, outcome_at, outs_of, after_outcome, after_input, turn, entry_given, entry_from, entry_at}
use Rattle.law_machine.specs.Runs.{IsPermitted, raised, IsQuiet, IsThrough, IsReady, IsRun, MachineLaws}
use Rattle.law_machine.specs.History.{Moment, as_found, acted, network_step, Happens, PutsMessages}
use Rattle.law_machine.specs.Walk.{Turn, turns_of, entry_of_phase, entry_in, with_default, entries_by, IsWalkable, moment_by}
use Rattle.law_machine.proofs.Lists.{Same, Is, Not, compare}
use Rattle.law_machine.proofs.Turn.{step-turn}
use Rattle.law_machine.proofs.Fixed.{ready-once}
use Rattle.law_machine.proofs.Phases.{get-end}

module _ (m : Machine) where
  -- the entry of a step is that of its server's act
  pub step-entry : (w : NetworkState m) (e : Entry m) (v : NetworkState m) → IsStep m w e v → entry_at m w e.server e.act ≡ Some e
  step-entry w e v (d, r, made, told, given, after) = ap (entry_at m w e.server) (ap (λ (z : Entry m). z.act) told) ∙ (go d given made ∙ ap Some (sym told))
    where
      go : (d : Input m.Task (Stamped m.Message)) → IsAvailable m w e.server d → m.step e.server (w.state e.server) (unstamped m d) ≡ Some r → entry_at m w e.server (act_of m d) ≡ Some (entry_of m e.server (w.clock e.server) d r)
      go (Does a) given made = ap (entry_given m w e.server (Does a)) made
      go (Receives u s) given made = ap (λ z. entry_from m w e.server (reception_of m u z)) given ∙ ap (entry_given m w e.server (Receives u s)) made

  -- and so is its outcome
  step-outcome : (w : NetworkState m) (t : ℕ) (d : Input m.Task (Stamped m.Message)) (r : Outcome m.State m.Message) → IsAvailable m w t d → m.step t (w.state t) (unstamped m d) ≡ Some r → outcome_at m w t (act_of m d) ≡ Some r
  step-outcome w t (Does a) r given made = made
  step-outcome w t (Receives u s) r given made = ap (λ z. outcome_of m w t (reception_of m u z)) given ∙ made

  -- what an entry of an act is, where there is one
  pub record Entered (w : NetworkState m) (t : ℕ) (a : Act m.Task) (e : Entry m) : Type 0 where
    pub server : e.server ≡ t
    pub act : e.act ≡ a
    pub step : IsStep m w e (turn m w t a)

  given-entered : (w : NetworkState m) (t : ℕ) (d : Input m.Task (Stamped m.Message)) (e : Entry m) → IsAvailable m w t d → (o : Option (Outcome m.State m.Message)) → m.step t (w.state t) (unstamped m d) ≡ o → entry_given m w t d o ≡ Some e
      → (e.server ≡ t) × (e.act ≡ act_of m d) × IsStep m w e (after_outcome m w t d o)
  given-entered w t d e given None f g = absurd cc
  given-entered w t d e given (Some r) f g =
      subst (λ (z : Entry m). (z.server ≡ t) × (z.act ≡ act_of m d) × IsStep m w z (network_after m w t d r)) (same_Some _ _ g) (refl, refl, (d, r, f, refl, given, refl))

  pub entry-step : (w : NetworkState m) (t : ℕ) (a : Act m.Task) (e : Entry m) → entry_at m w t a ≡ Some e → Entered w t a e
  entry-step w t (Did a) e f =
      let x = given-entered w t (Does a) e tt (m.step t (w.state t) (Does a)) refl f in
      record { server = x.0; act = x.1; step = x.2 }
  entry-step w t (Received u) e f = go (slice_get (w.put u t) (w.taken u t)) refl f
    where
      go : (o : Option (Stamped m.Message)) → slice_get (w.put u t) (w.taken u t) ≡ o → entry_from m w t (reception_of m u o) ≡ Some e → Entered w t (Received u) e
      go None g f = absurd cc
      go (Some s) g f =
          let x = given-entered w t (Receives u s) e g (m.step t (w.state t) (unstamped m (Receives u s))) refl f in
          record { server = x.0; act = x.1; step = subst (IsStep m w e) (ap (λ z. after_input m w t (reception_of m u z)) (sym g)) x.2 }

  -- a permitted turn happens, and each entry that happens is of a permitted turn
  pub permitted-happens : (w : NetworkState m) (p t : ℕ) (a : Act m.Task) (e : Entry m) (v : NetworkState m) (q : ℕ) → IsPermitted m w p t a e v q → (e.server ≡ t) × (e.act ≡ a) × Happens m w p e v q
  permitted-happens w p t a e v q x =
      let y = entry-step x.found t a e x.possible in (
        y.server,
        y.act,
        record {
          found = x.found;
          ready = subst (λ z. IsReady m w p z x.found q) (sym (ap (λ z. act_phase m z (w.state z) e.act) y.server ∙ ap (act_phase m t (w.state t)) y.act)) x.ready;
          step = subst (IsStep m x.found e) x.leads y.step;
        },
      )

  pub happens-permitted : (w : NetworkState m) (p : ℕ) (e : Entry m) (v : NetworkState m) (q : ℕ) → Happens m w p e v q → IsPermitted m w p e.server e.act e v q
  happens-permitted w p e v q x = record { found = x.found; ready = x.ready; possible = step-entry x.found e v x.step; leads = step-turn m x.found e v x.step }

  abbrev pair : Entry m → Turn m
  pair e = (e.server, e.act)

  -- a run is fixed by its turns
  pub by-turns : (w : NetworkState m) (p : ℕ) (es fs : List (Entry m)) (a b : NetworkState m) (q r : ℕ) → IsRun m w p es a q → IsRun m w p fs b r → turns_of m es ≡ turns_of m fs → es ≡ fs
  by-turns w p [] [] a b q r f g same = refl
  by-turns w p [] (x ∷ fs) a b q r f g same = absurd cc
  by-turns w p (x ∷ es) [] a b q r f g same = absurd cc
  by-turns w p (e ∷ es) (f ∷ fs) a b q r (x, v, s, ready, step, rest) (x', v', s', ready', step', rest') same =
      let heads : pair e ≡ pair f = head same in
      let server : e.server ≡ f.server = ap (λ (z : Turn m). z.0) heads in
      let act : e.act ≡ f.act = ap (λ (z : Turn m). z.1) heads in
      let o = ready-once m w p (act_phase m e.server (w.state e.server) e.act) x x' s s' ready (subst (λ (z : Turn m). IsReady m w p (act_phase m z.0 (w.state z.0) z.1) x' s') (sym heads) ready') in
      let e-same : e ≡ f = same_Some _ _ (sym (step-entry x e v step) ∙ (ap (λ (z : Turn m). entry_at m x z.0 z.1) heads ∙ (ap (λ z. entry_at m z f.server f.act) o.0 ∙ step-entry x' f v' step'))) in
      let v-same : v ≡ v' = sym (step-turn m x e v step) ∙ (ap (λ (z : Turn m). turn m x z.0 z.1) heads ∙ (ap (λ z. turn m z f.server f.act) o.0 ∙ step-turn m x' f v' step')) in
      ap (λ z. z ∷ es) e-same ∙ ap (λ z. f ∷ z) (by-turns v s es fs a b q r rest (subst (λ z. IsRun m z s fs b r) (sym v-same) (subst (λ z. IsRun m v' z fs b r) (sym o.1) rest')) (tails same))
    where
      head : pair e ∷ turns_of m es ≡ pair f ∷ turns_of m fs → pair e ≡ pair f
      head e = cc

      tails : pair e ∷ turns_of m es ≡ pair f ∷ turns_of m fs → turns_of m es ≡ turns_of m fs
      tails e = cc

  -- the messages of an entry of a run
  pub puts-messages : (w : NetworkState m) (p : ℕ) (e : Entry m) (v : NetworkState m) (q : ℕ) → Happens m w p e v q → PutsMessages m w e v
  puts-messages w p e v q h = go (act_phase m e.server (w.state e.server) e.act) h.ready h.step
    where
      made : (x : NetworkState m) → IsStep m x e v → PutsMessages m x e v
      made x (d, r, f, told, given, after) =
          let outs : outcome_at m x e.server e.act ≡ Some r = ap (outcome_at m x e.server) (ap (λ (z : Entry m). z.act) told) ∙ step-outcome x e.server d r given f in
          let stamp = ap (λ (z : Entry m). z.stamp) told in
          record {
            puts = λ l. sym (ap (λ (z : NetworkState m). z.put e.server l) after)
                ∙ (ap (λ z. cond z (x.put e.server l ++ stamped m (entry_of m e.server (x.clock e.server) d r).stamp (r.outs l)) (x.put e.server l)) (eq-eqb e.server e.server refl)
                ∙ (ap (λ z. x.put e.server l ++ stamped m z (r.outs l)) (sym stamp)
                ∙ ap (λ z. x.put e.server l ++ stamped m e.stamp (outs_of m z l)) (sym outs)));
            others = λ a l n. sym (ap (λ (z : NetworkState m). z.put a l) after) ∙ ap (λ z. cond z (x.put a l ++ stamped m (entry_of m e.server (x.clock e.server) d r).stamp (r.outs l)) (x.put a l)) (ne_eqb a e.server n);
            outs = ap (λ (z : Entry m). z.outs) told ∙ ap (λ z. receivers m (λ l. outs_of m z l) (m.links e.server)) (sym outs);
          }

      raise : PutsMessages m (raised m w) e v → PutsMessages m w e v
      raise x = record { puts = λ l. x.puts l ∙ ap (λ z. w.put e.server l ++ stamped m e.stamp (outs_of m z l)) (same e.act); others = x.others; outs = x.outs ∙ ap (λ z. receivers m (λ l. outs_of m z l) (m.links e.server)) (same e.act) }
        where
          same : (a : Act m.Task) → outcome_at m (raised m w) e.server a ≡ outcome_at m w e.server a
          same (Did a) = refl
          same (Received u) = taken (slice_get (w.put u e.server) (w.taken u e.server))
            where
              taken : (o : Option (Stamped m.Message)) → outcome_of m (raised m w) e.server (reception_of m u o) ≡ outcome_of m w e.server (reception_of m u o)
              taken None = refl
              taken (Some s) = refl

      go : (o : Option ℕ) → IsReady m w p o h.found q → IsStep m h.found e v → PutsMessages m w e v
      go None (f, g) s = subst (λ z. PutsMessages m z e v) (sym f) (made h.found s)
      go (Some k) (f, inl g) s = subst (λ z. PutsMessages m z e v) (sym g.1) (made h.found s)
      go (Some k) (f, inr g) s = raise (subst (λ z. PutsMessages m z e v) (sym g.3) (made h.found s))

  -- the entry of a turn within a phase leads on from a moment at which the phase may be walked
  pub record Goes (phase : ℕ) (s : Moment m) (e : Entry m) : Type 0 where
    pub found : NetworkState m
    pub ready : IsReady m s.network s.phase (act_phase m e.server (s.network.state e.server) e.act) found (network_step m s e).phase
    pub step : IsStep m found e (network_step m s e).network
    pub walkable : IsWalkable m phase (network_step m s e)

  none-quiet : MachineLaws m → (phase : ℕ) (s : Moment m) (t : ℕ) (a : Act m.Task) (e : Entry m) → IsQuiet m s.network → act_phase m t (s.network.state t) a ≡ None → entry_at m s.network t a ≡ Some e → ⊥
  none-quiet laws phase s t a e quiet f g = go (entry-step s.network t a e g)
    where
      task : (b : m.Task) (r : Outcome m.State m.Message) → m.step e.server (s.network.state e.server) (Does b) ≡ Some r → m.phase e.server (s.network.state e.server) b ≡ None → ⊥
      task b r f g = absurd (grind (arith, laws.table_update e.server (s.network.state e.server) b r f g, quiet.calm e.server (laws.among e.server (s.network.state e.server) (Does b) r f)))

      by : (d : Input m.Task (Stamped m.Message)) (r : Outcome m.State m.Message) → IsAvailable m s.network e.server d → m.step e.server (s.network.state e.server) (unstamped m d) ≡ Some r → act_phase m e.server (s.network.state e.server) (act_of m d) ≡ None → ⊥
      by (Does b) r given made n = task b r made n
      by (Receives u x) r given made n = get-end (s.network.put u e.server) x (subst (λ z. slice_get (s.network.put u e.server) z ≡ Some x) (quiet.empty u e.server) given)

      go : Entered s.network t a e → ⊥
      go x = by x.step.0 x.step.1 x.step.4 x.step.2 (ap (act_phase m e.server (s.network.state e.server)) (sym (ap (λ (z : Entry m). z.act) x.step.3)) ∙ (ap (λ z. act_phase m z (s.network.state z) e.act) x.server ∙ (ap (act_phase m t (s.network.state t)) x.act ∙ f)))

  -- the step of the network by an entry of a turn
  step-by : (s : Moment m) (t : ℕ) (a : Act m.Task) (e : Entry m) (own : Option ℕ) → e.server ≡ t → e.act ≡ a → act_phase m t (s.network.state t) a ≡ own → network_step m s e ≡ acted m (as_found m s own) e
  step-by s t a e own p q f = ap (λ z. acted m (as_found m s z) e) (ap (λ z. act_phase m z (s.network.state z) e.act) p ∙ (ap (act_phase m t (s.network.state t)) q ∙ f))

  pub entry-goes : MachineLaws m → (phase : ℕ) (s : Moment m) (t : ℕ) (a : Act m.Task) (e : Entry m) → IsWalkable m phase s → entry_of_phase m phase s t a (act_phase m t (s.network.state t) a) ≡ Some e → Goes phase s e
  entry-goes laws phase s t a e walk f = go (act_phase m t (s.network.state t) a) refl f
    where
      own-of : Option ℕ
      own-of = act_phase m e.server (s.network.state e.server) e.act

      same-own : Entered s.network t a e ⊎ ((e.server ≡ t) × (e.act ≡ a)) → own-of ≡ act_phase m t (s.network.state t) a
      same-own (inl x) = ap (λ z. act_phase m z (s.network.state z) e.act) x.server ∙ ap (act_phase m t (s.network.state t)) x.act
      same-own (inr x) = ap (λ z. act_phase m z (s.network.state z) e.act) x.0 ∙ ap (act_phase m t (s.network.state t)) x.1

      turn-is : (w : NetworkState m) → Entered w t a e → turn m w t a ≡ turn m w e.server e.act
      turn-is w x = ap (λ z. turn m w z a) (sym x.server) ∙ ap (turn m w e.server) (sym x.act)

      -- found: as the act finds it, with the phase after it
      finish : (found : Moment m) → Entered found.network t a e → network_step m s e ≡ acted m found e → IsReady m s.network s.phase own-of found.network found.phase → IsWalkable m phase (acted m found e) → Goes phase s e
      finish found x step ready on = record {
        found = found.network;
        ready = subst (λ (z : Moment m). IsReady m s.network s.phase own-of found.network z.phase) (sym step) ready;
        step = subst (λ (z : Moment m). IsStep m found.network e z.network) (sym step) (subst (IsStep m found.network e) (turn-is found.network x) x.step);
        walkable = subst (IsWalkable m phase) (sym step) on;
      }

      plain : act_phase m t (s.network.state t) a ≡ None → entry_at m s.network t a ≡ Some e → IsWalkable m phase s → Goes phase s e
      plain o g (inl same) = let x = entry-step s.network t a e g in finish s x (step-by s t a e None x.server x.act o) (subst (λ z. IsReady m s.network s.phase z s.network s.phase) (sym (same-own (inl x) ∙ o)) (refl, refl)) (inl same)
      plain o g (inr w) = absurd (none-quiet laws phase s t a e w.2 o g)

      ordered : (k : ℕ) → act_phase m t (s.network.state t) a ≡ Some k → k ≡ phase → entry_at m (as_found m s (Some k)).network t a ≡ Some e → IsWalkable m phase s → Same s.phase k → Goes phase s e
      ordered k o q g (inl same) (Is p v) =
          let x = entry-step s.network t a e (ap (λ (z : Moment m). entry_at m z.network t a) (sym (found-same k v)) ∙ g) in
          finish s x (step-by s t a e (Some k) x.server x.act o ∙ ap (λ z. acted m z e) (found-same k v)) (subst (λ z. IsReady m s.network s.phase z s.network s.phase) (sym (same-own (inl x) ∙ o)) (sym p, inl (p, refl))) (inl same)
        where
          found-same : (k : ℕ) → (s.phase == k) ≡ true → as_found m s (Some k) ≡ s
          found-same k v = ap (λ z. cond z s (record { network = raised m s.network; phase = k })) v
      ordered k o q g (inl same) (Not n v) = absurd (n (same ∙ sym q))
      ordered k o q g (inr w) (Is p v) = absurd (omega (arith, w.0, p, q))
      ordered k o q g (inr w) (Not n v) =
          let x = entry-step (raised m s.network) t a e (ap (λ (z : Moment m). entry_at m z.network t a) (sym (found-raised k v)) ∙ g) in
          finish (record { network = raised m s.network; phase = k }) x (step-by s t a e (Some k) x.server x.act o ∙ ap (λ z. acted m z e) (found-raised k v))
          (subst (λ z. IsReady m s.network s.phase z (raised m s.network) k) (sym (same-own (inr (x.server, x.act)) ∙ o)) (refl, inr (omega (arith, w.0, q), subst (IsThrough m s.network) (sym q) w.1, w.2, refl))) (inl q)
        where
          found-raised : (k : ℕ) → (s.phase == k) ≡ false → as_found m s (Some k) ≡ record { network = raised m s.network; phase = k }
          found-raised k v = ap (λ z. cond z s (record { network = raised m s.network; phase = k })) v

      go : (own : Option ℕ) → act_phase m t (s.network.state t) a ≡ own → entry_of_phase m phase s t a own ≡ Some e → Goes phase s e
      go None o g = plain o g walk
      go (Some k) o g = by (compare k phase) g
        where
          by : Same k phase → cond (k == phase) (entry_at m (as_found m s (Some k)).network t a) None ≡ Some e → Goes phase s e
          by (Is q v) g = ordered k o q (rw v at g) walk (compare s.phase k)
          by (Not n v) g = absurd (nothing (rw v at g))
            where
              nothing : None ≡ Some e → ⊥
              nothing e = cc

  -- the entries of turns within a phase are a legal run
  pub entries-run : MachineLaws m → (phase : ℕ) (turns : List (Turn m)) (s : Moment m) → IsWalkable m phase s
      → IsRun m s.network s.phase (entries_by m phase s turns) (moment_by m phase s turns).network (moment_by m phase s turns).phase × IsWalkable m phase (moment_by m phase s turns)
  entries-run laws phase [] s walk = ((refl, refl), walk)
  entries-run laws phase (x ∷ turns) s walk = go (entry_in m phase s x) refl (λ z w. entries-run laws phase turns z w)
    where
      go : (o : Option (Entry m)) → entry_in m phase s x ≡ o
          → ((z : Moment m) → IsWalkable m phase z → IsRun m z.network z.phase (entries_by m phase z turns) (moment_by m phase z turns).network (moment_by m phase z turns).phase × IsWalkable m phase (moment_by m phase z turns))
          → IsRun m s.network s.phase (with_default o (λ e. e ∷ entries_by m phase (network_step m s e) turns) (entries_by m phase s turns)) (with_default o (λ e. moment_by m phase (network_step m s e) turns) (moment_by m phase s turns)).network (with_default o (λ e. moment_by m phase (network_step m s e) turns) (moment_by m phase s turns)).phase
          × IsWalkable m phase (with_default o (λ e. moment_by m phase (network_step m s e) turns) (moment_by m phase s turns))
      go None f ih = ih s walk
      go (Some e) f ih =
          let g = entry-goes laws phase s x.0 x.1 e walk f in
          let r = ih (network_step m s e) g.walkable in
          ((g.found, (network_step m s e).network, (network_step m s e).phase, g.ready, g.step, r.0), r.1)
