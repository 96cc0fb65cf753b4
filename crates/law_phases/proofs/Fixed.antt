-- A run over trees is fixed by its entries, and by its turns.
use Rattle.std.proofs.Common.{◌≡◌, ℕ, List, [], ◌∷◌, inl, inr, Option, Some, None, refl, sym, ap, subst, ◌∙◌, arith}
use Rattle.std.proofs.lemmas.Option.{same_Some}
use Rattle.law_machine.specs.Machine.{act_phase}
use Rattle.law_machine.specs.Network.{IsStep, turn, entry_at}
use Rattle.law_machine.proofs.Turn.{step-turn}
use Rattle.law_machine.proofs.Tried.{step-entry}
use Rattle.law_routing.specs.Theory.{Theory}
use Rattle.law_phases.specs.Trees.{JournalEntry, State, off, entry_on, entry_off, PhasedNet, net_at, machine_at, at_phase}
use Rattle.law_phases.specs.Runs.{ActFinds, IsPhasedRun, Turn, turns_of}

module _ (th : Theory) (net : PhasedNet th) where
  pub ready-once : (s : State th) (p : ℕ) (o : Option ℕ) (x y : State th) (q r : ℕ) → ActFinds th net s p o x q → ActFinds th net s p o y r → (x ≡ y) × (q ≡ r)
  ready-once s p None x y q r a b = (sym a.0 ∙ b.0, sym a.1 ∙ b.1)
  ready-once s p (Some k) x y q r (a, inl f) (b, inl g) = (sym f.1 ∙ g.1, sym a ∙ b)
  ready-once s p (Some k) x y q r (a, inr f) (b, inr g) = (sym f.3 ∙ g.3, sym a ∙ b)
  ready-once s p (Some k) x y q r (a, inl f) (b, inr g) = absurd (omega (arith, f.0, g.0))
  ready-once s p (Some k) x y q r (a, inr f) (b, inl g) = absurd (omega (arith, f.0, g.0))

  abbrev pair : JournalEntry → Turn
  pair e = (e.server, e.act)

  -- a step is fixed by its server and act
  pub step-once : (x : State th) (q : ℕ) (e f : JournalEntry) (v w : State th) → pair e ≡ pair f
      → IsStep (machine_at th net q) (at_phase th net q x) (entry_on th (net_at th net q) e) (at_phase th net q v) → IsStep (machine_at th net q) (at_phase th net q x) (entry_on th (net_at th net q) f) (at_phase th net q w) → (e ≡ f) × (v ≡ w)
  step-once x q e f v w heads a b = (ap (entry_off th (net_at th net q)) (same_Some _ _ told), ap (off th (net_at th net q)) made)
    where
      told : Some (entry_on th (net_at th net q) e) ≡ Some (entry_on th (net_at th net q) f)
      told = sym (step-entry (machine_at th net q) (at_phase th net q x) (entry_on th (net_at th net q) e) (at_phase th net q v) a) ∙ (ap (λ (z : Turn). entry_at (machine_at th net q) (at_phase th net q x) z.0 z.1) heads ∙ step-entry (machine_at th net q) (at_phase th net q x) (entry_on th (net_at th net q) f) (at_phase th net q w) b)

      made : at_phase th net q v ≡ at_phase th net q w
      made = sym (step-turn (machine_at th net q) (at_phase th net q x) (entry_on th (net_at th net q) e) (at_phase th net q v) a) ∙ (ap (λ (z : Turn). turn (machine_at th net q) (at_phase th net q x) z.0 z.1) heads ∙ step-turn (machine_at th net q) (at_phase th net q x) (entry_on th (net_at th net q) f) (at_phase th net q w) b)

  -- a run is fixed by its turns
  pub by-turns : (s : State th) (p : ℕ) (es fs : List JournalEntry) (a b : State th) (q r : ℕ) → IsPhasedRun th net s p es a q → IsPhasedRun th net s p fs b r → turns_of es ≡ turns_of fs → (es ≡ fs) × (a ≡ b) × (q ≡ r)
  by-turns s p [] [] a b q r f g same = (refl, sym f.0 ∙ g.0, sym f.1 ∙ g.1)
  by-turns s p [] (x ∷ fs) a b q r f g same = absurd cc
  by-turns s p (x ∷ es) [] a b q r f g same = absurd cc
  by-turns s p (e ∷ es) (f ∷ fs) a b q r (x, v, k, ready, step, rest) (x', v', k', ready', step', rest') same =
      let heads : pair e ≡ pair f = head same in
      let o = ready-once s p (act_phase (machine_at th net p) e.server (s.state e.server) e.act) x x' k k' ready (subst (λ (z : Turn). ActFinds th net s p (act_phase (machine_at th net p) z.0 (s.state z.0) z.1) x' k') (sym heads) ready') in
      let step'' : IsStep (machine_at th net k) (at_phase th net k x) (entry_on th (net_at th net k) f) (at_phase th net k v') =
      subst (λ z. IsStep (machine_at th net z) (at_phase th net z x) (entry_on th (net_at th net z) f) (at_phase th net z v')) (sym o.1) (subst (λ z. IsStep (machine_at th net k') (at_phase th net k' z) (entry_on th (net_at th net k') f) (at_phase th net k' v')) (sym o.0) step') in
      let both = step-once x k e f v v' heads step step'' in
      let ih = by-turns v k es fs a b q r rest (subst (λ z. IsPhasedRun th net z k fs b r) (sym both.1) (subst (λ z. IsPhasedRun th net v' z fs b r) (sym o.1) rest')) (tails same) in
      (ap (λ z. z ∷ es) both.0 ∙ ap (λ z. f ∷ z) ih.0, ih.1, ih.2)
    where
      head : pair e ∷ turns_of es ≡ pair f ∷ turns_of fs → pair e ≡ pair f
      head e = cc

      tails : pair e ∷ turns_of es ≡ pair f ∷ turns_of fs → turns_of es ≡ turns_of fs
      tails e = cc
