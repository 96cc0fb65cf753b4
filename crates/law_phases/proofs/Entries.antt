-- Each entry of a run happens between its moments, and each phase begins at rest.
use Rattle.std.proofs.Common.{◌≡◌, ℕ, zero, suc, ◌<◌, ◌==◌, Bool, true, false, cond, List, [], ◌∷◌, inl, inr, take, slice_get, Option, Some, None, refl, sym, ap, subst, ◌∙◌, arith}
use Rattle.std.proofs.lemmas.Option.{same_Some}
use Rattle.base.proofs.Numbers.{Same, Is, Not, compare}
use Rattle.law_machine.specs.Machine.{act_phase}
use Rattle.law_machine.specs.Runs.{raised, IsReady}
use Rattle.law_machine.specs.History.{Happens}
use Rattle.law_machine.proofs.Tried.{puts-messages}
use Rattle.law_routing.specs.Theory.{Theory, TheoryLaws}
use Rattle.law_routing.specs.Net.{Net}
use Rattle.law_routing.specs.Routing.{routing_machine, Network}
use Rattle.law_routing.specs.Rest.{IsAtRest}
use Rattle.law_routing.specs.Change.{on_tree}
use Rattle.law_phases.specs.Trees.{JournalEntry, State, on, off, entry_on, trees_by, PhasedNet, tree_at, net_at, machine_at, at_phase}
use Rattle.law_phases.specs.Moments.{Moment, begun, opening_moment, as_found, command_phase, found_by, moment_after, found_after}
use Rattle.law_phases.specs.Runs.{ActFinds, IsPhasedRun, IsPhasedStep, PhasedRun}
use Rattle.law_phases.specs.AtMoments.{PutsMessagesAt, states, phases, seen, phase_seen, moment_at, found_at, KeepsClients}
use Rattle.law_phases.proofs.Nets.{net-one, phase-one}
use Rattle.law_phases.proofs.Moments.{now, next, ready-found, stepped}
use Rattle.law_phases.proofs.Pieces.{anew}
use Rattle.law_phases.proofs.Whole.{prefix, piece, quiet-rests}

module _ (th : Theory) (net : PhasedNet th) where
  pub happens : (s : State th) (p : ℕ) (es : List JournalEntry) (s' : State th) (p' : ℕ) → IsPhasedRun th net s p es s' p' → (n : ℕ) (e : JournalEntry) → slice_get es n ≡ Some e
      → IsPhasedStep th net (moment_after th net (now th net s p) es n) (found_after th net (now th net s p) es n) (moment_after th net (now th net s p) es (suc n)) e
  happens s p [] s' p' run n e g = absurd cc
  happens s p (f ∷ es) s' p' (x, v, q, ready, step, rest) zero e g =
      subst (λ z. IsPhasedStep th net (now th net s p) (found_by th net (now th net s p) f) (next th net (now th net s p) f) z) (same_Some _ _ g)
      (subst (λ z. IsPhasedStep th net (now th net s p) (found_by th net (now th net s p) f) z f) (sym (stepped th net s p f x v q ready step))
      (subst (λ z. IsPhasedStep th net (now th net s p) z (now th net v q) f) (sym (ready-found th net s p (act_phase (machine_at th net p) f.server (s.state f.server) f.act) x q ready)) (record { ready = ready; step = step; phase = refl })))
  happens s p (f ∷ es) s' p' (x, v, q, ready, step, rest) (suc n) e g =
      subst (λ z. IsPhasedStep th net (moment_after th net z es n) (found_after th net z es n) (moment_after th net z es (suc n)) e) (sym (stepped th net s p f x v q ready step)) (happens v q es s' p' rest n e g)

  pub still : (s : Moment th net) (es : List JournalEntry) (n : ℕ) → slice_get es n ≡ None → (moment_after th net s es (suc n) ≡ moment_after th net s es n) × (found_after th net s es n ≡ moment_after th net s es n)
  still s [] zero e = (refl, refl)
  still s [] (suc n) e = (refl, refl)
  still s (f ∷ es) zero e = absurd cc
  still s (f ∷ es) (suc n) e = still (next th net s f) es n e

  -- a beginning keeps what clients have
  begun-keeps : (p k t : ℕ) (s : State th) → (((begun th net p k s).state t).done ≡ (s.state t).done) × (((begun th net p k s).state t).inbox ≡ (s.state t).inbox)
  begun-keeps p k t s = go (Rattle.law_phases.specs.Trees.is_one_tree th net p k)
    where
      up : State th
      up = off th (net_at th net p) (raised (machine_at th net p) (at_phase th net p s))

      moved : State th
      moved = off th (net_at th net k) (on_tree th (net_at th net p) (tree_at th net k).links (tree_at th net k).hop (at_phase th net p s))

      go : (b : Bool) → (((cond b up moved).state t).done ≡ (s.state t).done) × (((cond b up moved).state t).inbox ≡ (s.state t).inbox)
      go true = (refl, refl)
      go false = (refl, refl)

  pub found-keeps : (w : Moment th net) (o : Option ℕ) (t : ℕ) → (((as_found th net w o).state.state t).done ≡ (w.state.state t).done) × (((as_found th net w o).state.state t).inbox ≡ (w.state.state t).inbox)
  found-keeps w None t = (refl, refl)
  found-keeps w (Some k) t = go (w.phase == k)
    where
      go : (b : Bool) → (((cond b w (now th net (begun th net w.phase k w.state) k)).state.state t).done ≡ (w.state.state t).done) × (((cond b w (now th net (begun th net w.phase k w.state) k)).state.state t).inbox ≡ (w.state.state t).inbox)
      go true = (refl, refl)
      go false = begun-keeps w.phase k t w.state

  pub keeps : (s : Moment th net) (es : List JournalEntry) (n t : ℕ) → (((found_after th net s es n).state.state t).done ≡ ((moment_after th net s es n).state.state t).done) × (((found_after th net s es n).state.state t).inbox ≡ ((moment_after th net s es n).state.state t).inbox)
  keeps s [] zero t = (refl, refl)
  keeps s [] (suc n) t = (refl, refl)
  keeps s (e ∷ es) zero t = found-keeps s (command_phase th net s e) t
  keeps s (e ∷ es) (suc n) t = keeps (next th net s e) es n t

module _ (th : Theory) (laws : TheoryLaws th) (run : PhasedRun th) where
  pub happens-run : (n : ℕ) (e : JournalEntry) → slice_get run.journal n ≡ Some e → IsPhasedStep th run.net (moment_at th run n) (found_at th run n) (moment_at th run (suc n)) e
  happens-run = happens th run.net (opening_moment th run.net).state 0 run.journal run.end run.last run.legal

  -- an entry happens on the tree of its phase, from what it finds
  pub happens-there : (n : ℕ) (e : JournalEntry) → slice_get run.journal n ≡ Some e
      → Happens (machine_at th run.net (phase_seen th run n)) (at_phase th run.net (phase_seen th run n) (seen th run n)) (phase_seen th run n) (entry_on th (net_at th run.net (phase_seen th run n)) e) (at_phase th run.net (phase_seen th run n) (states th run (suc n))) (phase_seen th run n)
  happens-there n e is = record { found = at_phase th run.net (phase_seen th run n) (seen th run n); ready = ready-here (act_phase (machine_at th run.net (phase_seen th run n)) e.server ((seen th run n).state e.server) e.act) own-now; step = (happens-run n e is).step }
    where
      own-now : (k : ℕ) → act_phase (machine_at th run.net (phase_seen th run n)) e.server ((seen th run n).state e.server) e.act ≡ Some k → k ≡ phase_seen th run n
      own-now k g = go (command_phase th run.net (moment_at th run n) e) refl (happens-run n e is).ready
        where
          same : command_phase th run.net (moment_at th run n) e ≡ Some k
          same = phase-one th run.net (phases th run n) (phase_seen th run n) e.server ((states th run n).state e.server) ((seen th run n).state e.server) e.act (sym (keeps th run.net (opening_moment th run.net) run.journal n e.server).0) ∙ g

          nothing : {a : ℕ} → None ≡ Some a → ⊥
          nothing q = cc

          go : (o : Option ℕ) → command_phase th run.net (moment_at th run n) e ≡ o → ActFinds th run.net (states th run n) (phases th run n) o (seen th run n) (phase_seen th run n) → k ≡ phase_seen th run n
          go None f r = absurd (nothing (sym f ∙ same))
          go (Some j) f (a, b) = same_Some _ _ (sym same ∙ f) ∙ a

      ready-here : (o : Option ℕ) → ((k : ℕ) → o ≡ Some k → k ≡ phase_seen th run n) → IsReady (machine_at th run.net (phase_seen th run n)) (at_phase th run.net (phase_seen th run n) (seen th run n)) (phase_seen th run n) o (at_phase th run.net (phase_seen th run n) (seen th run n)) (phase_seen th run n)
      ready-here None f = (refl, refl)
      ready-here (Some k) f = (f k refl, inl (sym (f k refl), refl))

  -- the messages of an entry
  pub messages-run : (n : ℕ) (e : JournalEntry) → slice_get run.journal n ≡ Some e → PutsMessagesAt th run n e
  messages-run n e is =
      let q = phase_seen th run n in
      let x = at_phase th run.net q (seen th run n) in
      let v = at_phase th run.net q (states th run (suc n)) in
      let puts = puts-messages (machine_at th run.net q) x q (entry_on th (net_at th run.net q) e) v q (happens-there n e is) in
      record { puts = puts.puts; others = puts.others; outs = puts.outs }

  pub keeps-run : (n t : ℕ) → KeepsClients th run n t
  keeps-run n t = let x = keeps th run.net (opening_moment th run.net) run.journal n t in record { done = x.0; inbox = x.1 }

  -- each phase begins at rest, on the tree that was in force and on its own
  pub begins-rest : (n : ℕ) → phases th run n < phases th run (suc n) → IsAtRest th (net_at th run.net (phases th run n)) (at_phase th run.net (phases th run n) (states th run n)) × IsAtRest th (net_at th run.net (phase_seen th run n)) (at_phase th run.net (phase_seen th run n) (seen th run n))
  begins-rest n l = go (slice_get run.journal n) refl
    where
      s : State th
      s = states th run n

      p : ℕ
      p = phases th run n

      Both : Type 0
      Both = IsAtRest th (net_at th run.net (phases th run n)) (at_phase th run.net (phases th run n) (states th run n)) × IsAtRest th (net_at th run.net (phase_seen th run n)) (at_phase th run.net (phase_seen th run n) (seen th run n))

      raise : (z : Net th) (w : Network th z) → IsAtRest th z w → IsAtRest th z (raised (routing_machine th z) w)
      raise z w r = record { empty = r.empty; none_pending = r.none_pending; installed = r.installed; filters = r.filters; adverts = r.adverts; subs = r.subs; advs = r.advs }

      by : (e : JournalEntry) (o : Option ℕ) → phase_seen th run n ≡ phases th run (suc n) → ActFinds th run.net (states th run n) (phases th run n) o (seen th run n) (phase_seen th run n)
          → IsAtRest th (net_at th run.net (phases th run n)) (at_phase th run.net (phases th run n) (states th run n)) × IsAtRest th (net_at th run.net (phase_seen th run n)) (at_phase th run.net (phase_seen th run n) (seen th run n))
      by e None h (a, b) = absurd (omega (arith, l, b, h))
      by e (Some k) h (a, inl (b, c)) = absurd (omega (arith, l, a, b, h))
      by e (Some k) h (a, inr (b, t, c, d)) =
          let first = quiet-rests th laws run n c in
          (first, subst (λ z. IsAtRest th (net_at th run.net z) (at_phase th run.net z (seen th run n))) a (subst (λ (z : State th). IsAtRest th (net_at th run.net k) (at_phase th run.net k z)) d (there (compare (trees_by run.net.later p) (trees_by run.net.later k)) first)))
        where
          up : State th
          up = off th (net_at th run.net (phases th run n)) (raised (machine_at th run.net (phases th run n)) (at_phase th run.net (phases th run n) (states th run n)))

          moved : State th
          moved = off th (net_at th run.net k) (on_tree th (net_at th run.net (phases th run n)) (tree_at th run.net k).links (tree_at th run.net k).hop (at_phase th run.net (phases th run n) (states th run n)))

          there : Same (trees_by run.net.later (phases th run n)) (trees_by run.net.later k) → IsAtRest th (net_at th run.net (phases th run n)) (at_phase th run.net (phases th run n) (states th run n)) → IsAtRest th (net_at th run.net k) (at_phase th run.net k (begun th run.net (phases th run n) k (states th run n)))
          there (Is q v) r =
              subst (λ (z : State th). IsAtRest th (net_at th run.net k) (at_phase th run.net k z)) (sym (ap (λ z. cond z up moved) v))
              (subst (λ (z : Net th). IsAtRest th z (on th z up)) (net-one th run.net (phases th run n) k q) (raise (net_at th run.net (phases th run n)) (at_phase th run.net (phases th run n) (states th run n)) r))
          there (Not m v) r =
              subst (λ (z : State th). IsAtRest th (net_at th run.net k) (at_phase th run.net k z)) (sym (ap (λ z. cond z up moved) v))
              (anew th laws run.net run.laws (take n run.journal) (states th run n) (phases th run n) (piece th laws (prefix th laws run n)) k moved b t c refl).rest

      go : (o : Option JournalEntry) → slice_get run.journal n ≡ o → IsAtRest th (net_at th run.net (phases th run n)) (at_phase th run.net (phases th run n) (states th run n)) × IsAtRest th (net_at th run.net (phase_seen th run n)) (at_phase th run.net (phase_seen th run n) (seen th run n))
      go None e = absurd (omega (arith, l, ap (λ (z : Moment th run.net). z.phase) (still th run.net (opening_moment th run.net) run.journal n e).0))
      go (Some e) f = let h = happens-run n e f in by e (command_phase th run.net (moment_at th run n) e) (sym h.phase) h.ready
