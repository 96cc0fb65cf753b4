-- At every moment of a legal run no more is received on a link than was put on it.
use Rattle.std.proofs.Common.{◌≡◌, ℕ, zero, suc, ◌≤◌, ◌<◌, Bool, true, false, cond, List, [], ◌∷◌, inl, inr, length, slice_get, Option, Some, None, sym, subst, arith, length-append}
use Rattle.std.proofs.lemmas.Option.{slice_get_within}
use Rattle.base.proofs.Numbers.{Same, Is, Not, compare}
use Rattle.law_machine.specs.Machine.{Machine, Input, Does, Receives, Outcome, Stamped, next_stamp, stamped, act_phase}
use Rattle.law_machine.specs.Network.{NetworkState, IsAvailable, taken_after, network_after}
use Rattle.law_machine.specs.Runs.{raised, IsWithinPuts}
use Rattle.law_routing.specs.Theory.{Theory}
use Rattle.law_routing.specs.Change.{on_tree}
use Rattle.law_phases.specs.Trees.{JournalEntry, State, off, PhasedNet, tree_at, net_at, machine_at, at_phase, is_one_tree}
use Rattle.law_phases.specs.Moments.{Moment, begun, found_after}
use Rattle.law_phases.specs.Runs.{ActFinds, IsPhasedRun, IsStepOn}
use Rattle.law_phases.proofs.Moments.{now, ready-found, stepped}

-- what a step takes was put before it
pub taken-low : (m : Machine) (w : NetworkState m) (t : ℕ) (d : Input m.Task (Stamped m.Message)) → IsWithinPuts m w → IsAvailable m w t d → (u v : ℕ) → taken_after m w.taken t d u v ≤ length (w.put u v)
taken-low m w t (Does a) within given u v = within u v
taken-low m w t (Receives s x) within given u v = by (compare u s) (compare v t)
  where
    by : Same u s → Same v t → taken_after m w.taken t (Receives s x) u v ≤ length (w.put u v)
    by (Is p q) (Is p' q') = rw (q, q') (subst (λ z. w.taken z v < length (w.put z v)) (sym p) (subst (λ z. w.taken s z < length (w.put s z)) (sym p') (slice_get_within (w.put s t) (w.taken s t) x given)))
    by (Is p q) (Not p' q') = rw (q, q') (within u v)
    by (Not p q) y = rw q (within u v)

next-within : (m : Machine) (w : NetworkState m) (t : ℕ) (d : Input m.Task (Stamped m.Message)) (r : Outcome m.State m.Message) → IsWithinPuts m w → IsAvailable m w t d → IsWithinPuts m (network_after m w t d r)
next-within m w t d r within given u v = omega (arith, longer (compare u t), taken-low m w t d within given u v)
  where
    longer : Same u t → length (w.put u v) ≤ length ((network_after m w t d r).put u v)
    longer (Is p q) = rw q (omega (arith, length-append (w.put u v) (stamped m (next_stamp m (w.clock t) d) (r.outs v))))
    longer (Not p q) = rw q (omega arith)

module _ (th : Theory) (net : PhasedNet th) where
  -- no more is received than was put
  abbrev pub IsWithin : State th → Type 0
  IsWithin s = (a b : ℕ) → s.taken a b ≤ length (s.put a b)

  begun-within : (p k : ℕ) (s : State th) → IsWithin s → IsWithin (begun th net p k s)
  begun-within p k s within a b = go (is_one_tree th net p k)
    where
      up : State th
      up = off th (net_at th net p) (raised (machine_at th net p) (at_phase th net p s))

      moved : State th
      moved = off th (net_at th net k) (on_tree th (net_at th net p) (tree_at th net k).links (tree_at th net k).hop (at_phase th net p s))

      go : (c : Bool) → (cond c up moved).taken a b ≤ length ((cond c up moved).put a b)
      go true = within a b
      go false = omega arith

  ready-within : (s : State th) (p : ℕ) (o : Option ℕ) (x : State th) (q : ℕ) → ActFinds th net s p o x q → IsWithin s → IsWithin x
  ready-within s p None x q (e, f) within = subst IsWithin e within
  ready-within s p (Some k) x q (f, inl (a, b)) within = subst IsWithin b within
  ready-within s p (Some k) x q (f, inr (l, t, c, g)) within = subst IsWithin g (begun-within p k s within)

  step-within : (q : ℕ) (x : State th) (e : JournalEntry) (v : State th) → IsStepOn th net q x e v → IsWithin x → IsWithin v
  step-within q x e v (d, r, made, told, given, after) within = subst (IsWithinPuts (machine_at th net q)) after (next-within (machine_at th net q) (at_phase th net q x) e.server d r within given)

  pub found-within : (s : State th) (p : ℕ) (es : List JournalEntry) (s' : State th) (p' : ℕ) → IsPhasedRun th net s p es s' p' → IsWithin s → (n : ℕ) (e : JournalEntry) → slice_get es n ≡ Some e
      → IsWithin (found_after th net (now th net s p) es n).state
  found-within s p [] s' p' run within n e g = absurd cc
  found-within s p (f ∷ es) s' p' (x, v, q, ready, step, rest) within zero e g =
      subst (λ (z : Moment th net). IsWithin z.state) (sym (ready-found th net s p (act_phase (machine_at th net p) f.server (s.state f.server) f.act) x q ready))
      (ready-within s p (act_phase (machine_at th net p) f.server (s.state f.server) f.act) x q ready within)
  found-within s p (f ∷ es) s' p' (x, v, q, ready, step, rest) within (suc n) e g =
      subst (λ z. IsWithin (found_after th net z es n).state) (sym (stepped th net s p f x v q ready step))
      (found-within v q es s' p' rest (step-within q x f v step (ready-within s p (act_phase (machine_at th net p) f.server (s.state f.server) f.act) x q ready within)) n e g)
