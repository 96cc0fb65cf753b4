-- The moments of a journal over trees, and runs that begin and go on.
use Rattle.std.proofs.Common.{◌≡◌, ℕ, zero, suc, ◌≤◌, ◌<◌, cond, List, [], ◌∷◌, ◌++◌, inl, inr, length, Option, Some, None, refl, sym, ap, subst, ◌∙◌, arith, eq-eqb, ne_eqb}
use Rattle.law_machine.specs.Machine.{act_phase}
use Rattle.law_machine.specs.Network.{IsStep}
use Rattle.law_machine.proofs.Turn.{step-turn}
use Rattle.law_routing.specs.Theory.{Theory}
use Rattle.law_routing.specs.Routing.{Network}
use Rattle.law_phases.specs.Trees.{JournalEntry, State, off, entry_on, PhasedNet, net_at, machine_at, at_phase}
use Rattle.law_phases.specs.Moments.{Moment, begun, as_found, found_by, acted, moment_after, found_after}
use Rattle.law_phases.specs.Runs.{ActFinds, IsPhasedRun}

module _ (th : Theory) (net : PhasedNet th) where
  -- a state and a phase
  abbrev pub now : State th → ℕ → Moment th net
  now s p = record { state = s; phase = p }

  -- the moment after an entry
  abbrev pub next : Moment th net → JournalEntry → Moment th net
  next s e = acted th net (found_by th net s e) e

  -- moments stay when the journal grows
  pub moment-left : (s : Moment th net) (es fs : List JournalEntry) (n : ℕ) → n ≤ length es → moment_after th net s (es ++ fs) n ≡ moment_after th net s es n
  moment-left s [] fs zero l = refl
  moment-left s [] fs (suc n) l = absurd (omega (arith, l))
  moment-left s (e ∷ es) fs zero l = refl
  moment-left s (e ∷ es) fs (suc n) l = moment-left (next s e) es fs n (omega (arith, l))

  pub found-left : (s : Moment th net) (es fs : List JournalEntry) (n : ℕ) → n < length es → found_after th net s (es ++ fs) n ≡ found_after th net s es n
  found-left s [] fs n l = absurd (omega (arith, l))
  found-left s (e ∷ es) fs zero l = refl
  found-left s (e ∷ es) fs (suc n) l = found-left (next s e) es fs n (omega (arith, l))

  -- what the next entry finds
  pub found-next : (s : Moment th net) (es : List JournalEntry) (e : JournalEntry) (fs : List JournalEntry) → found_after th net s (es ++ e ∷ fs) (length es) ≡ found_by th net (moment_after th net s es (length es)) e
  found-next s [] e fs = refl
  found-next s (f ∷ es) e fs = found-next (next s f) es e fs

  pub ready-found : (s : State th) (p : ℕ) (o : Option ℕ) (x : State th) (q : ℕ) → ActFinds th net s p o x q → as_found th net (now s p) o ≡ now x q
  ready-found s p None x q (e, f) = λ i. record { state = e i; phase = f i }
  ready-found s p (Some k) x q (f, inl (a, b)) = ap (λ z. cond z (now s p) (now (begun th net p k s) k)) (eq-eqb p k a) ∙ (λ i. record { state = b i; phase = (a ∙ f) i })
  ready-found s p (Some k) x q (f, inr (l, t, c, g)) = ap (λ z. cond z (now s p) (now (begun th net p k s) k)) (ne_eqb p k (λ e. omega (arith, l, e))) ∙ (λ i. record { state = g i; phase = f i })

  pub step-acted : (x : State th) (e : JournalEntry) (v : State th) (q : ℕ) → IsStep (machine_at th net q) (at_phase th net q x) (entry_on th (net_at th net q) e) (at_phase th net q v) → acted th net (now x q) e ≡ now v q
  step-acted x e v q step = ap (λ (z : Network th (net_at th net q)). now (off th (net_at th net q) z) q) (step-turn (machine_at th net q) (at_phase th net q x) (entry_on th (net_at th net q) e) (at_phase th net q v) step)

  pub stepped : (s : State th) (p : ℕ) (e : JournalEntry) (x v : State th) (q : ℕ) → ActFinds th net s p (act_phase (machine_at th net p) e.server (s.state e.server) e.act) x q
      → IsStep (machine_at th net q) (at_phase th net q x) (entry_on th (net_at th net q) e) (at_phase th net q v) → next (now s p) e ≡ now v q
  stepped s p e x v q ready step = ap (λ z. acted th net z e) (ready-found s p (act_phase (machine_at th net p) e.server (s.state e.server) e.act) x q ready) ∙ step-acted x e v q step

  -- a run ends at its last moment
  pub run-ends : (s : State th) (p : ℕ) (es : List JournalEntry) (s' : State th) (p' : ℕ) → IsPhasedRun th net s p es s' p' → moment_after th net (now s p) es (length es) ≡ now s' p'
  run-ends s p [] s' p' (e, f) = λ i. record { state = e i; phase = f i }
  run-ends s p (e ∷ es) s' p' (x, v, q, ready, step, rest) = ap (λ z. moment_after th net z es (length es)) (stepped s p e x v q ready step) ∙ run-ends v q es s' p' rest

  pub run-append : (s : State th) (p : ℕ) (es : List JournalEntry) (v : State th) (q : ℕ) (fs : List JournalEntry) (x : State th) (y : ℕ) → IsPhasedRun th net s p es v q → IsPhasedRun th net v q fs x y → IsPhasedRun th net s p (es ++ fs) x y
  run-append s p [] v q fs x y (e, f) r = subst (λ z. IsPhasedRun th net z p fs x y) (sym e) (subst (λ z. IsPhasedRun th net v z fs x y) (sym f) r)
  run-append s p (e ∷ es) v q fs x y (a, b, c, ready, step, rest) r = (a, b, c, ready, step, run-append b c es v q fs x y rest r)

  pub run-begins : (s : State th) (p : ℕ) (es fs : List JournalEntry) (x : State th) (y : ℕ) → IsPhasedRun th net s p (es ++ fs) x y → (v : State th) × (q : ℕ) × IsPhasedRun th net s p es v q × IsPhasedRun th net v q fs x y
  run-begins s p [] fs x y r = (s, p, (refl, refl), r)
  run-begins s p (e ∷ es) fs x y (a, b, c, ready, step, rest) =
      let ih = run-begins b c es fs x y rest in
      (ih.0, ih.1, (a, b, c, ready, step, ih.2), ih.3)
