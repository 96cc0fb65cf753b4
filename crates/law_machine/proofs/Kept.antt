-- What is held, with what is on its way, is what was sent: from laws of one server's step to all runs.
use Rattle.std.proofs.Common.{◌≡◌, ℕ, zero, suc, ◌≤◌, ◌<◌, ◌==◌, ◌&&◌, Bool, true, false, cond, List, [], ◌∷◌, ◌++◌, inl, inr, length, drop, slice_get, Option, Some, None, refl, sym, ap, subst, ◌∙◌, arith, length-append, ne_eqb, eq-eqb}
use Rattle.law_machine.specs.Machine.{Has, Machine, Input, Does, Receives, Outcome, Stamped, Entry, unstamped, next_stamp, stamped, act_phase}
use Rattle.law_machine.specs.Network.{NetworkState, IsAvailable, taken_after, network_after}
use Rattle.law_machine.specs.Runs.{IsReady, IsRun, IsWithinPuts}
use Rattle.law_machine.specs.Content.{Content, replayed, replayed_frames, ContentLaws, IsHeldSent}
use Rattle.law_machine.proofs.Lists.{Same, Is, Not, compare}
use Rattle.std.proofs.lemmas.Option.{slice_get_within, same_Some}
use Rattle.std.proofs.lemmas.List.{drop-append-le}

drop-next : {X : Type 0} (k : ℕ) (xs : List X) (x : X) → slice_get xs k ≡ Some x → drop k xs ≡ x ∷ drop (suc k) xs
drop-next k [] x e = absurd cc
drop-next zero (y ∷ xs) x e = ap (λ z. z ∷ xs) (same_Some _ _ e)
drop-next (suc k) (y ∷ xs) x e = drop-next k xs x e

module _ (m : Machine) (p : Content m) (laws : ContentLaws m p) (apart : (a : ℕ) → Has a (m.links a) → ⊥) (both : (a b : ℕ) → Has b (m.links a) → Has a (m.links b)) where
  folded-more : (x : p.Set) (xs ys : List (Stamped m.Message)) → replayed_frames m p x (xs ++ ys) ≡ replayed_frames m p (replayed_frames m p x xs) ys
  folded-more x [] ys = refl
  folded-more x (y ∷ xs) ys = folded-more (p.apply x y.message) xs ys

  folded-stamped : (x : p.Set) (n : ℕ) (ms : List m.Message) → replayed_frames m p x (stamped m n ms) ≡ replayed m p x ms
  folded-stamped x n [] = refl
  folded-stamped x n (y ∷ ms) = folded-stamped (p.apply x y) n ms

  kept-after : (w : NetworkState m) (t : ℕ) (d : Input m.Task (Stamped m.Message)) (r : Outcome m.State m.Message) → IsWithinPuts m w → IsHeldSent m p w → m.step t (w.state t) (unstamped m d) ≡ Some r → IsAvailable m w t d → IsHeldSent m p (network_after m w t d r)
  kept-after w t d r within kept made given a b near = go (compare a t) (compare b t)
    where
      -- nothing is received where neither the receiver nor the link is concerned
      taken-off : (d : Input m.Task (Stamped m.Message)) → (b ≡ t → ⊥) → taken_after m w.taken t d a b ≡ w.taken a b
      taken-off (Does x) n = refl
      taken-off (Receives u s) n = rw (ne_eqb b t n) (never (a == u))
        where
          never : (y : Bool) → cond (y && false) (suc (w.taken a b)) (w.taken a b) ≡ w.taken a b
          never true = refl
          never false = refl

      mine : (d : Input m.Task (Stamped m.Message)) → a ≡ t → (b ≡ t → ⊥) → m.step t (w.state t) (unstamped m d) ≡ Some r
          → replayed_frames m p (p.held b (w.state b) a) (drop (w.taken a b) (w.put a b ++ stamped m (next_stamp m (w.clock t) d) (r.outs b))) ≡ p.sent a r.state b
      mine d e n made =
          let new = stamped m (next_stamp m (w.clock t) d) (r.outs b) in
          ap (replayed_frames m p (p.held b (w.state b) a)) (drop-append-le (w.taken a b) (w.put a b) new (within a b))
          ∙ folded-more (p.held b (w.state b) a) (drop (w.taken a b) (w.put a b)) new
          ∙ ap (λ z. replayed_frames m p z new) (kept a b near)
          ∙ folded-stamped (p.sent a (w.state a) b) (next_stamp m (w.clock t) d) (r.outs b)
          ∙ ap (λ z. replayed m p (p.sent z (w.state z) b) (r.outs b)) e
          ∙ laws.puts t (w.state t) (unstamped m d) r made b (subst (λ z. Has b (m.links z)) e near)
          ∙ ap (λ z. p.sent z r.state b) (sym e)

      held-own : (x : m.Task) → b ≡ t → m.step t (w.state t) (Does x) ≡ Some r → p.held b r.state a ≡ p.held b (w.state b) a
      held-own x e made = ap (λ z. p.held z r.state a) e ∙ laws.own t (w.state t) x r made a (subst (λ z. Has a (m.links z)) e (both a b near)) ∙ ap (λ z. p.held z (w.state z) a) (sym e)

      held-other : (u : ℕ) (x : m.Message) → b ≡ t → (a ≡ u → ⊥) → m.step t (w.state t) (Receives u x) ≡ Some r → p.held b r.state a ≡ p.held b (w.state b) a
      held-other u x e n made = ap (λ z. p.held z r.state a) e ∙ laws.others t (w.state t) u x r made a (subst (λ z. Has a (m.links z)) e (both a b near)) n ∙ ap (λ z. p.held z (w.state z) a) (sym e)

      held-taken : (u : ℕ) (x : m.Message) → b ≡ t → a ≡ u → m.step t (w.state t) (Receives u x) ≡ Some r → p.held b r.state a ≡ p.apply (p.held b (w.state b) a) x
      held-taken u x e q made = ap (λ z. p.held z r.state a) e ∙ ap (p.held t r.state) q ∙ laws.takes t (w.state t) u x r made ∙ ap (λ z. p.apply (p.held t (w.state t) z) x) (sym q) ∙ ap (λ z. p.apply (p.held z (w.state z) a) x) (sym e)

      theirs : (d : Input m.Task (Stamped m.Message)) → b ≡ t → m.step t (w.state t) (unstamped m d) ≡ Some r → IsAvailable m w t d
          → replayed_frames m p (p.held b r.state a) (drop (taken_after m w.taken t d a b) (w.put a b)) ≡ p.sent a (w.state a) b
      theirs (Does x) e made given = ap (λ z. replayed_frames m p z (drop (w.taken a b) (w.put a b))) (held-own x e made) ∙ kept a b near
      theirs (Receives u s) e made given = by (compare a u)
        where
          by : Same a u → replayed_frames m p (p.held b r.state a) (drop (taken_after m w.taken t (Receives u s) a b) (w.put a b)) ≡ p.sent a (w.state a) b
          by (Not n v) = rw v (ap (λ z. replayed_frames m p z (drop (w.taken a b) (w.put a b))) (held-other u s.message e n made) ∙ kept a b near)
          by (Is q v) =
              let next : slice_get (w.put a b) (w.taken a b) ≡ Some s = subst (λ z. slice_get (w.put z b) (w.taken z b) ≡ Some s) (sym q) (subst (λ z. slice_get (w.put u z) (w.taken u z) ≡ Some s) (sym e) given) in
              rw (v, eq-eqb b t e) (
              ap (λ z. replayed_frames m p z (drop (suc (w.taken a b)) (w.put a b))) (held-taken u s.message e q made)
              ∙ sym (ap (replayed_frames m p (p.held b (w.state b) a)) (drop-next (w.taken a b) (w.put a b) s next))
              ∙ kept a b near)

      go : Same a t → Same b t → replayed_frames m p (p.held b ((network_after m w t d r).state b) a) (drop ((network_after m w t d r).taken a b) ((network_after m w t d r).put a b)) ≡ p.sent a ((network_after m w t d r).state a) b
      go (Is e v) (Is e' v') = absurd (apart t (subst (λ z. Has z (m.links t)) e' (subst (λ z. Has b (m.links z)) e near)))
      go (Is e v) (Not n' v') = rw (v, v') (ap (λ z. replayed_frames m p (p.held b (w.state b) a) (drop z (w.put a b ++ stamped m (next_stamp m (w.clock t) d) (r.outs b)))) (taken-off d n') ∙ mine d e n' made)
      go (Not n v) (Is e' v') = rw (v, v') (theirs d e' made given)
      go (Not n v) (Not n' v') = rw (v, v') (ap (λ z. replayed_frames m p (p.held b (w.state b) a) (drop z (w.put a b))) (taken-off d n') ∙ kept a b near)

  within-next : (w : NetworkState m) (t : ℕ) (d : Input m.Task (Stamped m.Message)) (r : Outcome m.State m.Message) → IsWithinPuts m w → IsAvailable m w t d → IsWithinPuts m (network_after m w t d r)
  within-next w t d r within given u v = omega (arith, longer (compare u t), go d given)
    where
      longer : Same u t → length (w.put u v) ≤ length ((network_after m w t d r).put u v)
      longer (Is p q) = rw q (omega (arith, length-append (w.put u v) (stamped m (next_stamp m (w.clock t) d) (r.outs v))))
      longer (Not p q) = rw q (omega arith)

      go : (d : Input m.Task (Stamped m.Message)) → IsAvailable m w t d → taken_after m w.taken t d u v ≤ length (w.put u v)
      go (Does a) g = within u v
      go (Receives s x) g = by (compare u s) (compare v t)
        where
          by : Same u s → Same v t → taken_after m w.taken t (Receives s x) u v ≤ length (w.put u v)
          by (Is p q) (Is p' q') = rw (q, q') (subst (λ z. w.taken z v < length (w.put z v)) (sym p) (subst (λ z. w.taken s z < length (w.put s z)) (sym p') (slice_get_within (w.put s t) (w.taken s t) x g)))
          by (Is p q) (Not p' q') = rw (q, q') (within u v)
          by (Not p q) y = rw q (within u v)

  ready-kept : (w : NetworkState m) (q : ℕ) (o : Option ℕ) (x : NetworkState m) (y : ℕ) → IsReady m w q o x y → IsWithinPuts m w × IsHeldSent m p w → IsWithinPuts m x × IsHeldSent m p x
  ready-kept w q None x y (e, f) b = subst (λ z. IsWithinPuts m z × IsHeldSent m p z) e b
  ready-kept w q (Some j) x y (e, inl f) b = subst (λ z. IsWithinPuts m z × IsHeldSent m p z) f.1 b
  ready-kept w q (Some j) x y (e, inr f) b = subst (λ z. IsWithinPuts m z × IsHeldSent m p z) f.3 b

  -- it holds all along a run
  pub kept-run : (w : NetworkState m) (q : ℕ) (es : List (Entry m)) (w' : NetworkState m) (q' : ℕ) → IsRun m w q es w' q' → IsWithinPuts m w → IsHeldSent m p w → IsWithinPuts m w' × IsHeldSent m p w'
  kept-run w q [] w' q' (e, f) within kept = subst (λ z. IsWithinPuts m z × IsHeldSent m p z) e (within, kept)
  kept-run w q (e ∷ es) w' q' (x, v, y, ready, (d, r, made, entry_of, given, after), rest) within kept =
      let b = ready-kept w q (act_phase m e.server (w.state e.server) e.act) x y ready (within, kept) in
      kept-run v y es w' q' rest (subst (IsWithinPuts m) after (within-next x e.server d r b.0 given)) (subst (IsHeldSent m p) after (kept-after x e.server d r b.0 b.1 made given))
