-- Stamps are at most the number of entries, and what was received was put.
use Rattle.std.proofs.Common.{◌≡◌, ℕ, suc, ◌+◌, ◌≤◌, List, [], ◌∷◌, inl, inr, length, Option, Some, None, refl, ap, subst, arith}
use Rattle.law_machine.specs.Machine.{Has, Input, Does, Receives, Outcome, Machine, Stamped, Entry, next_stamp, stamped, entry_of, act_phase}
use Rattle.law_machine.specs.Network.{NetworkState, IsAvailable, network_after}
use Rattle.law_machine.specs.Runs.{greatest, raised, IsReady, IsRun, HasStampsUpTo}
use Rattle.law_machine.proofs.Lists.{Same, Is, Not, compare}
use Rattle.law_machine.proofs.Merge.{stamped-has}
use Rattle.base.proofs.Sets.{get-has, has-append}

module _ (m : Machine) where
  pub greatest-above : (f : ℕ → ℕ) (xs : List ℕ) (x : ℕ) → Has x xs → f x ≤ greatest m f xs
  greatest-above f [] x h = absurd h
  greatest-above f (y ∷ xs) x (inl e) = omega (arith, ap f e)
  greatest-above f (y ∷ xs) x (inr h) = omega (arith, greatest-above f xs x h)

  pub greatest-below : (n : ℕ) (f : ℕ → ℕ) (xs : List ℕ) → ((x : ℕ) → Has x xs → f x ≤ n) → greatest m f xs ≤ n
  greatest-below n f [] le = omega arith
  greatest-below n f (y ∷ xs) le = omega (arith, le y (inl refl), greatest-below n f xs (λ x h. le x (inr h)))

  raised-to : (n : ℕ) (w : NetworkState m) → HasStampsUpTo m n w → HasStampsUpTo m n (raised m w)
  raised-to n w b = record { clocks = λ t. greatest-below n w.clock m.servers (λ x h. b.clocks x); puts = b.puts }

  ready-to : (n : ℕ) (w : NetworkState m) (p : ℕ) (o : Option ℕ) (x : NetworkState m) (q : ℕ) → IsReady m w p o x q → HasStampsUpTo m n w → HasStampsUpTo m n x
  ready-to n w p None x q (e, f) b = subst (HasStampsUpTo m n) e b
  ready-to n w p (Some k) x q (e, inl f) b = subst (HasStampsUpTo m n) f.1 b
  ready-to n w p (Some k) x q (e, inr f) b = subst (HasStampsUpTo m n) f.3 (raised-to n w b)

  stamp-to : (n : ℕ) (w : NetworkState m) (t : ℕ) (d : Input m.Task (Stamped m.Message)) → HasStampsUpTo m n w → IsAvailable m w t d → next_stamp m (w.clock t) d ≤ suc n
  stamp-to n w t (Does a) b g = omega (arith, b.clocks t)
  stamp-to n w t (Receives u s) b g = omega (arith, b.clocks t, b.puts u t s (get-has (w.put u t) (w.taken u t) s g))

  after-to : (n : ℕ) (w : NetworkState m) (t : ℕ) (d : Input m.Task (Stamped m.Message)) (r : Outcome m.State m.Message) → HasStampsUpTo m n w → IsAvailable m w t d → HasStampsUpTo m (suc n) (network_after m w t d r)
  after-to n w t d r b g = record {
    clocks = λ x. elim (compare x t) [ Is p v ↦ rw v (stamp-to n w t d b g) | Not p v ↦ rw v (omega (arith, b.clocks x)) ];
    puts = λ u v s. put u v s (compare u t);
  }
    where
      put : (u v : ℕ) (s : Stamped m.Message) → Same u t → Has s ((network_after m w t d r).put u v) → s.stamp ≤ suc n
      put u v s (Not p q) h = omega (arith, b.puts u v s (rw q at h))
      put u v s (Is p q) h = elim (has-append s (w.put u v) (stamped m (next_stamp m (w.clock t) d) (r.outs v)) (rw q at h)) [ inl x ↦ omega (arith, b.puts u v s x) | inr x ↦ omega (arith, stamp-to n w t d b g, stamped-has m (next_stamp m (w.clock t) d) (r.outs v) s x) ]

  -- the stamps of a run pass those before it by no more than its entries
  pub run-stamps : (n : ℕ) (w : NetworkState m) (p : ℕ) (es : List (Entry m)) (w' : NetworkState m) (p' : ℕ) → IsRun m w p es w' p' → HasStampsUpTo m n w → HasStampsUpTo m (n + length es) w' × ((e : Entry m) → Has e es → e.stamp ≤ n + length es)
  run-stamps n w p [] w' p' (e, f) b = (subst (λ z. HasStampsUpTo m (n + 0) z) e (subst (λ z. HasStampsUpTo m z w) (zero-more n) b), λ e h. absurd h)
    where
      zero-more : (n : ℕ) → n ≡ n + 0
      zero-more n = omega arith
  run-stamps n w p (e ∷ es) w' p' (x, v, q, ready, (d, r, s, entry_of, given, after), rest) b =
      let at_x = ready-to n w p (act_phase m e.server (w.state e.server) e.act) x q ready b in
      let at_v : HasStampsUpTo m (suc n) v = subst (HasStampsUpTo m (suc n)) after (after-to n x e.server d r at_x given) in
      let ih = run-stamps (suc n) v q es w' p' rest at_v in
      (subst (λ z. HasStampsUpTo m z w') (more n (length es)) ih.0, λ f h. elim h [ inl g ↦ omega (arith, ap (λ (z : Entry m). z.stamp) g, ap (λ (z : Entry m). z.stamp) entry_of, stamp-to n x e.server d at_x given) | inr g ↦ omega (arith, ih.1 f g) ])
    where
      more : (a b : ℕ) → suc a + b ≡ a + suc b
      more a b = omega arith
