-- Proves that a run has a history: a state of the network at each moment.
use Rattle.std.proofs.Common.{◌≡◌, ℕ, zero, suc, ◌+◌, ◌≤◌, ◌<◌, ◌==◌, Bool, true, false, cond, List, [], ◌∷◌, ◌++◌, ◌⊎◌, inl, inr, length, map, slice_get, Option, Some, None, refl, sym, ap, subst, ◌∙◌, arith, length-append, eq-eqb, ne_eqb, append-nil}
use Rattle.std.proofs.lemmas.Option.{same_Some}
use Rattle.law_machine.specs.Machine.{Machine, Has, Input, Does, Receives, Outcome, Stamped, Entry, unstamped, next_stamp, stamped, act_phase}
use Rattle.law_machine.specs.Network.{NetworkState, IsAvailable, taken_after, IsStep}
use Rattle.law_machine.specs.Runs.{raised, IsReady, IsRun}
use Rattle.law_machine.specs.History.{Moment, as_found, acted, network_step, moment_after, state_at, phase_at, Happens, Moves, IsNext, IsHistory}
use Rattle.law_machine.specs.Content.{Content, replayed, ContentLaws}
use Rattle.law_machine.proofs.Turn.{step-turn}
use Rattle.law_machine.specs.Links.{Link, IsPutStep, IsReceiveStep as Taken, IsStayStep, IsLink, replay}
use Rattle.base.proofs.Numbers.{Same, Is, Not, compare}

module _ (m : Machine) where
  found-is : (w : NetworkState m) (p : ℕ) (o : Option ℕ) (x : NetworkState m) (q : ℕ) → IsReady m w p o x q → as_found m (record { network = w; phase = p }) o ≡ record { network = x; phase = q }
  found-is w p None x q (e, f) = λ i. record { network = e i; phase = f i }
  found-is w p (Some k) x q (f, inl (e, g)) = rw (eq-eqb p k e) (λ i. record { network = g i; phase = (e ∙ f) i })
  found-is w p (Some k) x q (f, inr (l, t, c, g)) = rw (ne_eqb p k (λ h. omega (arith, l, h))) (λ i. record { network = g i; phase = f i })

  stepped-is : (w : NetworkState m) (p : ℕ) (e : Entry m) (x : NetworkState m) (q : ℕ) (v : NetworkState m) → IsReady m w p (act_phase m e.server (w.state e.server) e.act) x q → IsStep m x e v
      → network_step m (record { network = w; phase = p }) e ≡ record { network = v; phase = q }
  stepped-is w p e x q v ready step = ap (λ z. acted m z e) (found-is w p (act_phase m e.server (w.state e.server) e.act) x q ready) ∙ (λ i. record { network = step-turn m x e v step i; phase = q })

  abbrev At : Moment m → Entry m → Moment m → Type 0
  At s e t = Happens m s.network s.phase e t.network t.phase

  -- each entry of a run happens between its two moments
  pub run-happens : (w : NetworkState m) (p : ℕ) (es : List (Entry m)) (w' : NetworkState m) (p' : ℕ) → IsRun m w p es w' p' → (n : ℕ) (e : Entry m) → slice_get es n ≡ Some e
      → Happens m (state_at m w p es n) (phase_at m w p es n) e (state_at m w p es (suc n)) (phase_at m w p es (suc n))
  run-happens w p [] w' p' run n e g = absurd cc
  run-happens w p (f ∷ es) w' p' (x, v, q, ready, step, rest) zero e g =
      subst (λ z. Happens m w p z (moment_after m (network_step m (record { network = w; phase = p }) f) es 0).network (moment_after m (network_step m (record { network = w; phase = p }) f) es 0).phase) (same_Some _ _ g)
      (subst (λ z. At (record { network = w; phase = p }) f z) (sym (stepped-is w p f x q v ready step)) (record { found = x; ready = ready; step = step }))
  run-happens w p (f ∷ es) w' p' (x, v, q, ready, step, rest) (suc n) e g =
      subst (λ z. At (moment_after m z es n) e (moment_after m z es (suc n))) (sym (stepped-is w p f x q v ready step)) (run-happens v q es w' p' rest n e g)

  pub run-still : (w : NetworkState m) (p : ℕ) (es : List (Entry m)) (n : ℕ) → slice_get es n ≡ None → moment_after m (record { network = w; phase = p }) es (suc n) ≡ moment_after m (record { network = w; phase = p }) es n
  run-still w p es n e = go (record { network = w; phase = p }) es n e
    where
      go : (s : Moment m) (es : List (Entry m)) (n : ℕ) → slice_get es n ≡ None → moment_after m s es (suc n) ≡ moment_after m s es n
      go s [] zero e = refl
      go s [] (suc n) e = refl
      go s (f ∷ es) zero e = absurd cc
      go s (f ∷ es) (suc n) e = go (network_step m s f) es n e

  -- a run ends at its last moment
  pub run-ends : (w : NetworkState m) (p : ℕ) (es : List (Entry m)) (w' : NetworkState m) (p' : ℕ) → IsRun m w p es w' p' → moment_after m (record { network = w; phase = p }) es (length es) ≡ record { network = w'; phase = p' }
  run-ends w p [] w' p' (e, f) = λ i. record { network = e i; phase = f i }
  run-ends w p (f ∷ es) w' p' (x, v, q, ready, step, rest) = ap (λ z. moment_after m z es (length es)) (stepped-is w p f x q v ready step) ∙ run-ends v q es w' p' rest

  pub run-history : (w : NetworkState m) (p : ℕ) (es : List (Entry m)) (w' : NetworkState m) (p' : ℕ) → IsRun m w p es w' p' → IsHistory m es (state_at m w p es) (phase_at m w p es)
  run-history w p es w' p' run n = go (slice_get es n) refl
    where
      go : (o : Option (Entry m)) → slice_get es n ≡ o
          → IsNext m es (state_at m w p es) (phase_at m w p es) n
      go None e = inl (e, record { network = ap (λ (z : Moment m). z.network) (run-still w p es n e); phase = ap (λ (z : Moment m). z.phase) (run-still w p es n e) })
      go (Some x) e = inr (x, e, run-happens w p es w' p' run n x e)

  step-moves : (w : NetworkState m) (e : Entry m) (v : NetworkState m) → IsStep m w e v → Moves m w e v
  step-moves w e v (d, r, made, entry_of, given, after) = record {
    deed = d;
    made = r;
    stamp = next_stamp m (w.clock e.server) d;
    step = made;
    act = ap (λ (z : Entry m). z.act) entry_of;
    outs = ap (λ (z : Entry m). z.outs) entry_of;
    given = given;
    state = ap (λ (z : NetworkState m). z.state) (sym after);
    put = ap (λ (z : NetworkState m). z.put) (sym after);
    taken = ap (λ (z : NetworkState m). z.taken) (sym after);
  }

  raised-moves : (w : NetworkState m) (e : Entry m) (v : NetworkState m) → IsStep m (raised m w) e v → Moves m w e v
  raised-moves w e v step = let x = step-moves (raised m w) e v step in record { deed = x.deed; made = x.made; stamp = x.stamp; step = x.step; act = x.act; outs = x.outs; given = x.given; state = x.state; put = x.put; taken = x.taken }

  pub moves : (w : NetworkState m) (p : ℕ) (e : Entry m) (v : NetworkState m) (q : ℕ) → Happens m w p e v q → Moves m w e v
  moves w p e v q s = go (act_phase m e.server (w.state e.server) e.act) s.ready
    where
      go : (o : Option ℕ) → IsReady m w p o s.found q → Moves m w e v
      go None (a, b) = step-moves w e v (subst (λ z. IsStep m z e v) (sym a) s.step)
      go (Some k) (f, inl (a, b)) = step-moves w e v (subst (λ z. IsStep m z e v) (sym b) s.step)
      go (Some k) (f, inr (l, t, c, g)) = raised-moves w e v (subst (λ z. IsStep m z e v) (sym g) s.step)

  -- one link of a history, for one content
  module _ (p : Content m) (laws : ContentLaws m p) (one : (t : ℕ) (s : m.State) (d : Input m.Task m.Message) (r : Outcome m.State m.Message) → m.step t s d ≡ Some r → (v : ℕ) → length (r.outs v) ≤ 1) (apart : (a : ℕ) → Has a (m.links a) → ⊥) (both : (a b : ℕ) → Has b (m.links a) → Has a (m.links b)) (es : List (Entry m)) (h : ℕ → NetworkState m) (ph : ℕ → ℕ) (history : IsHistory m es h ph) (u t : ℕ) (near : Has t (m.links u)) where
    abbrev pub link : Link p.Set (Stamped m.Message)
    link = record { sent = λ n. p.sent u ((h n).state u) t; put = λ n. (h n).put u t; taken = λ n. (h n).taken u t; held = λ n. p.held t ((h n).state t) u }

    abbrev pub applied : p.Set → Stamped m.Message → p.Set
    applied s x = p.apply s x.message

    replay-stamped : (x : p.Set) (n : ℕ) (ms : List m.Message) → replay applied x (stamped m n ms) ≡ replayed m p x ms
    replay-stamped x n [] = refl
    replay-stamped x n (y ∷ ms) = replay-stamped (p.apply x y) n ms

    length-stamped : (n : ℕ) (ms : List m.Message) → length (stamped m n ms) ≡ length ms
    length-stamped n [] = refl
    length-stamped n (y ∷ ms) = omega (arith, length-stamped n ms)

    puts-of : (n : ℕ) (e : Entry m) → Moves m (h n) e (h (suc n)) → Same u e.server → IsPutStep applied link n
    puts-of n e x (Is q v) = record {
      rest = stamped m x.stamp (x.made.outs t);
      grows = ap (λ z. z u t) x.put ∙ rw v refl;
      short = omega (arith, length-stamped x.stamp (x.made.outs t), one e.server ((h n).state e.server) (unstamped m x.deed) x.made x.step t);
      makes =
          replay-stamped (p.sent u ((h n).state u) t) x.stamp (x.made.outs t)
          ∙ ap (λ z. replayed m p (p.sent z ((h n).state z) t) (x.made.outs t)) q
          ∙ laws.puts e.server ((h n).state e.server) (unstamped m x.deed) x.made x.step t (subst (λ z. Has t (m.links z)) q near)
          ∙ ap (λ z. p.sent z x.made.state t) (sym q)
          ∙ ap (λ z. p.sent u z t) (sym (ap (λ z. z u) x.state ∙ rw v refl));
    }
    puts-of n e x (Not k v) = record {
      rest = [];
      grows = ap (λ z. z u t) x.put ∙ rw v (sym (append-nil ((h n).put u t)));
      short = omega arith;
      makes = ap (λ z. p.sent u z t) (sym (ap (λ z. z u) x.state ∙ rw v refl));
    }

    pub puts : (n : ℕ) → IsPutStep applied link n
    puts n = go (history n)
      where
        go : IsNext m es h ph n → IsPutStep applied link n
        go (inl (f, s)) = record { rest = []; grows = ap (λ z. z.put u t) s.network ∙ sym (append-nil ((h n).put u t)); short = omega arith; makes = ap (λ z. p.sent u (z.state u) t) (sym s.network) }
        go (inr (e, f, s)) = puts-of n e (moves (h n) (ph n) e (h (suc n)) (ph (suc n)) s) (compare u e.server)

    -- whose state is not touched
    other-state : (n : ℕ) (e : Entry m) → Moves m (h n) e (h (suc n)) → (t ≡ e.server → ⊥) → (h (suc n)).state t ≡ (h n).state t
    other-state n e x k = ap (λ z. z t) x.state ∙ rw (ne_eqb t e.server k) refl

    same-state : (n : ℕ) (e : Entry m) → (x : Moves m (h n) e (h (suc n))) → t ≡ e.server → (h (suc n)).state t ≡ x.made.state
    same-state n e x k = ap (λ z. z t) x.state ∙ rw (eq-eqb t e.server k) refl

    taken-other : (n : ℕ) (server : ℕ) (d : Input m.Task (Stamped m.Message)) → (t ≡ server → ⊥) → taken_after m (h n).taken server d u t ≡ (h n).taken u t
    taken-other n server (Does a) k = refl
    taken-other n server (Receives s x) k = rw (ne_eqb t server k) (flat (u == s))
      where
        flat : (b : Bool) → cond (Rattle.std.proofs.Common.◌&&◌ b false) (suc ((h n).taken u t)) ((h n).taken u t) ≡ (h n).taken u t
        flat true = refl
        flat false = refl

    takes-of : (n : ℕ) (e : Entry m) (x : Moves m (h n) e (h (suc n))) (d : Input m.Task (Stamped m.Message)) → t ≡ e.server → m.step e.server ((h n).state e.server) (unstamped m d) ≡ Some x.made → IsAvailable m (h n) e.server d
        → (h (suc n)).taken ≡ taken_after m (h n).taken e.server d → IsStayStep link n ⊎ Taken applied link n
    takes-of n e x (Does a) q step given taken = inl (record {
      counts = ap (λ z. z u t) taken;
      keeps = ap (λ z. p.held t z u) (same-state n e x q) ∙ ap (λ z. p.held z x.made.state u) q ∙ laws.own e.server ((h n).state e.server) a x.made step u (subst (λ z. Has u (m.links z)) q (both u t near)) ∙ ap (λ z. p.held z ((h n).state z) u) (sym q);
    })
    takes-of n e x (Receives s y) q step given taken = by (compare u s)
      where
        by : Same u s → IsStayStep link n ⊎ Taken applied link n
        by (Is k v) = inr (record {
          message = y;
          next = subst (λ z. slice_get ((h n).put z t) ((h n).taken z t) ≡ Some y) (sym k) (subst (λ z. slice_get ((h n).put s z) ((h n).taken s z) ≡ Some y) (sym q) given);
          counts = ap (λ z. z u t) taken ∙ rw (v, eq-eqb t e.server q) refl;
          applies =
              ap (λ z. p.held t z u) (same-state n e x q) ∙ ap (λ z. p.held z x.made.state u) q ∙ ap (λ z. p.held e.server x.made.state z) k
              ∙ laws.takes e.server ((h n).state e.server) s y.message x.made step
              ∙ ap (λ z. p.apply (p.held e.server ((h n).state e.server) z) y.message) (sym k) ∙ ap (λ z. p.apply (p.held z ((h n).state z) u) y.message) (sym q);
        })
        by (Not k v) = inl (record {
          counts = ap (λ z. z u t) taken ∙ rw v refl;
          keeps = ap (λ z. p.held t z u) (same-state n e x q) ∙ ap (λ z. p.held z x.made.state u) q ∙ laws.others e.server ((h n).state e.server) s y.message x.made step u (subst (λ z. Has u (m.links z)) q (both u t near)) k ∙ ap (λ z. p.held z ((h n).state z) u) (sym q);
        })

    pub takes : (n : ℕ) → IsStayStep link n ⊎ Taken applied link n
    takes n = go (history n)
      where
        by : (e : Entry m) → Moves m (h n) e (h (suc n)) → Same t e.server → IsStayStep link n ⊎ Taken applied link n
        by e x (Is q v) = takes-of n e x x.deed q x.step x.given x.taken
        by e x (Not k v) = inl (record { counts = ap (λ z. z u t) x.taken ∙ taken-other n e.server x.deed k; keeps = ap (λ z. p.held t z u) (other-state n e x k) })

        go : IsNext m es h ph n → IsStayStep link n ⊎ Taken applied link n
        go (inl (f, s)) = inl (record { counts = ap (λ z. z.taken u t) s.network; keeps = ap (λ z. p.held t (z.state t) u) s.network })
        go (inr (e, f, s)) = by e (moves (h n) (ph n) e (h (suc n)) (ph (suc n)) s) (compare t e.server)

    -- from a state with nothing on its way, where what is held is what is sent
    pub is-link : (h 0).taken u t ≡ length ((h 0).put u t) → p.held t ((h 0).state t) u ≡ p.sent u ((h 0).state u) t → IsLink applied link
    is-link still agrees = record { still = still; agrees = agrees; puts = puts; takes = takes }
