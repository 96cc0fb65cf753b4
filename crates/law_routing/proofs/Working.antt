-- Proves that each entry of a run does a piece of work.
use Rattle.std.proofs.Common.{◌≡◌, ℕ, zero, suc, ◌≤◌, ◌==◌, Bool, true, false, cond, ◌&&◌, List, ◌++◌, ◌⊎◌, inl, inr, slice_get, Option, Some, None, refl, sym, ap, subst, ◌∙◌, arith, ne_eqb, eq-eqb, length, length-append, ◌<◌}
use Rattle.std.proofs.lemmas.Option.{slice_get_within, same_Some}
use Rattle.law_machine.proofs.Lists.{Same, Is, Not, compare}
use Rattle.law_machine.specs.Machine.{at, Input, Does, Receives, Outcome, Stamped, unstamped, act_of, receivers, stamped}
use Rattle.law_machine.specs.Network.{IsAvailable, taken_after}
use Rattle.law_machine.specs.Runs.{IsWithinPuts}
use Rattle.law_machine.specs.History.{Moves, IsNext, IsHistory}
use Rattle.law_machine.proofs.History.{moves}
use Rattle.law_routing.specs.Theory.{Theory}
use Rattle.law_routing.specs.Net.{Net, PhasedCommand}
use Rattle.law_routing.specs.Server.{Message, ServerState, is_among}
use Rattle.law_routing.specs.Step.{Task, NextCommand, TableUpdate, Work, InstallsTable, command_work, work_of, effect, message_work, with_command_executed, command_outcome, local_step}
use Rattle.law_routing.specs.Routing.{routing_machine, Network, NetEntry}
use Rattle.law_routing.specs.Works.{reception_work, work_at, done_after, IsSameButCount, Works}
use Rattle.law_routing.proofs.Laws.{cond-some}

module _ (th : Theory) (net : Net th) where
  -- what a possible step of one server does
  pub record Served (t : ℕ) (s : ServerState th) (d : Input Task (Message th)) (r : Outcome (ServerState th) (Message th)) : Type 0 where
    pub from : ServerState th
    pub work : Work th
    pub is : work_of th net t s d ≡ Some work
    pub counts : IsSameButCount th net s from
    pub done : from.done ≡ done_after th net s.done d
    pub made : r ≡ effect th net t from work

  same-counts : (s : ServerState th) → IsSameButCount th net s s
  same-counts s = record { subs = refl; advs = refl; installed = refl; pending = refl; inbox = refl }

  pub served : (t : ℕ) (s : ServerState th) (d : Input Task (Message th)) (r : Outcome (ServerState th) (Message th)) → local_step th net t s d ≡ Some r → Served t s d r
  served t s (Receives u x) r e =
      let c = cond-some (is_among t net.servers) (is_among u (net.links t)) (Some (effect th net t s (message_work th net s u x))) r e in
      record { from = s; work = message_work th net s u x; is = rw (c.0, c.1) refl; counts = same-counts s; done = refl; made = sym (same_Some _ _ c.2) }
  served t s (Does TableUpdate) r e =
      let c = cond-some (is_among t net.servers) s.pending (Some (effect th net t s InstallsTable)) r e in
      record { from = s; work = InstallsTable; is = rw (c.0, c.1) refl; counts = same-counts s; done = refl; made = sym (same_Some _ _ c.2) }
  served t s (Does (NextCommand c)) r e =
      let f = cond-some (is_among t net.servers) (is_among c (net.clients t)) (command_outcome th net t s c (slice_get (net.script c) (s.done c))) r e in
      go (slice_get (net.script c) (s.done c)) refl f.0 f.1 f.2
    where
      go : (o : Option (PhasedCommand th)) → slice_get (net.script c) (s.done c) ≡ o → is_among t net.servers ≡ true → is_among c (net.clients t) ≡ true → command_outcome th net t s c o ≡ Some r → Served t s (Does (NextCommand c)) r
      go None g a b f = absurd cc
      go (Some x) g a b f = record { from = with_command_executed th net s c; work = command_work th net c (s.done c) x.command; is = rw (a, b, g) refl; counts = record { subs = refl; advs = refl; installed = refl; pending = refl; inbox = refl }; done = refl; made = sym (same_Some _ _ f) }

  work-is : (w : Network th net) (t : ℕ) (d : Input Task (Stamped (Message th))) (k : Work th) → IsAvailable (routing_machine th net) w t d → work_of th net t (w.state t) (unstamped (routing_machine th net) d) ≡ Some k → work_at th net w t (act_of (routing_machine th net) d) ≡ Some k
  work-is w t (Does a) k given e = e
  work-is w t (Receives u x) k given e = ap (reception_work th net t (w.state t) u) given ∙ e

  bare-done : (f : ℕ → ℕ) (d : Input Task (Stamped (Message th))) → done_after th net f (unstamped (routing_machine th net) d) ≡ done_after th net f d
  bare-done f (Does (NextCommand c)) = refl
  bare-done f (Does TableUpdate) = refl
  bare-done f (Receives u x) = refl

  pub works : (w : Network th net) (e : NetEntry th net) (v : Network th net) → Moves (routing_machine th net) w e v → Works th net w e v
  works w e v m =
      let s = served e.server (w.state e.server) (unstamped (routing_machine th net) m.deed) m.made m.step in
      record {
        deed = m.deed;
        from = s.from;
        work = s.work;
        stamp = m.stamp;
        act = m.act;
        possible = s.is;
        is = ap (work_at th net w e.server) m.act ∙ work-is w e.server m.deed s.work m.given s.is;
        counts = s.counts;
        done = s.done ∙ bare-done (w.state e.server).done m.deed;
        outs = m.outs ∙ ap (λ (z : Outcome (ServerState th) (Message th)). receivers (routing_machine th net) z.outs (net.links e.server)) s.made;
        given = m.given;
        state = m.state ∙ ap (λ (z : Outcome (ServerState th) (Message th)). at w.state e.server z.state) s.made;
        put = m.put ∙ ap (λ (z : Outcome (ServerState th) (Message th)). λ a b. cond (a == e.server) (w.put a b ++ stamped (routing_machine th net) m.stamp (z.outs b)) (w.put a b)) s.made;
        taken = m.taken;
      }

  -- at a server that does not act nothing is received, and its state stays
  pub taken-other : (taken : ℕ → ℕ → ℕ) (t : ℕ) (d : Input Task (Stamped (Message th))) (u x : ℕ) → (x ≡ t → ⊥) → taken_after (routing_machine th net) taken t d u x ≡ taken u x
  taken-other taken t (Does a) u x n = refl
  taken-other taken t (Receives s y) u x n = rw (ne_eqb x t n) (flat (u == s))
    where
      flat : (b : Bool) → cond (b && false) (suc (taken u x)) (taken u x) ≡ taken u x
      flat true = refl
      flat false = refl

  pub state-here : (w : Network th net) (e : NetEntry th net) (v : Network th net) (x : Works th net w e v) (t : ℕ) → t ≡ e.server → v.state t ≡ (effect th net e.server x.from x.work).state
  state-here w e v x t q = ap (λ z. z t) x.state ∙ rw (eq-eqb t e.server q) refl

  pub state-other : (w : Network th net) (e : NetEntry th net) (v : Network th net) → Works th net w e v → (t : ℕ) → (t ≡ e.server → ⊥) → v.state t ≡ w.state t
  state-other w e v x t n = ap (λ z. z t) x.state ∙ rw (ne_eqb t e.server n) refl

  -- no more is received than was put
  pub within-works : (w : Network th net) (e : NetEntry th net) (v : Network th net) → Works th net w e v → IsWithinPuts (routing_machine th net) w → IsWithinPuts (routing_machine th net) v
  within-works w e v x within u t = omega (arith, longer (compare u e.server), go x.deed x.given (compare t e.server), ap (λ z. z u t) x.taken)
    where
      longer : Same u e.server → length (w.put u t) ≤ length (v.put u t)
      longer (Is p q) = omega (arith, ap (λ z. length (z u t)) x.put, ap length (same q), length-append (w.put u t) (stamped (routing_machine th net) x.stamp ((effect th net e.server x.from x.work).outs t)))
        where
          same : (u == e.server) ≡ true → cond (u == e.server) (w.put u t ++ stamped (routing_machine th net) x.stamp ((effect th net e.server x.from x.work).outs t)) (w.put u t) ≡ w.put u t ++ stamped (routing_machine th net) x.stamp ((effect th net e.server x.from x.work).outs t)
          same f = rw f refl
      longer (Not p q) = omega (arith, ap (λ z. length (z u t)) x.put, ap length (same q))
        where
          same : (u == e.server) ≡ false → cond (u == e.server) (w.put u t ++ stamped (routing_machine th net) x.stamp ((effect th net e.server x.from x.work).outs t)) (w.put u t) ≡ w.put u t
          same f = rw f refl

      go : (d : Input Task (Stamped (Message th))) → IsAvailable (routing_machine th net) w e.server d → Same t e.server → taken_after (routing_machine th net) w.taken e.server d u t ≤ length (w.put u t)
      go d g (Not n f) = omega (arith, taken-other w.taken e.server d u t n, within u t)
      go (Does a) g (Is p f) = within u t
      go (Receives s y) g (Is p f) = by (compare u s)
        where
          by : Same u s → taken_after (routing_machine th net) w.taken e.server (Receives s y) u t ≤ length (w.put u t)
          by (Is k v) = rw (v, f) (subst (λ z. w.taken z t < length (w.put z t)) (sym k) (subst (λ z. w.taken s z < length (w.put s z)) (sym p) (slice_get_within (w.put s e.server) (w.taken s e.server) y g)))
          by (Not k v) = rw v (within u t)

  -- from each moment of a history to the next
  module _ (J : List (NetEntry th net)) (h : ℕ → Network th net) (ph : ℕ → ℕ) (history : IsHistory (routing_machine th net) J h ph) where
    abbrev pub NextWorks : ℕ → Type 0
    NextWorks n = ((slice_get J n ≡ None) × (h (suc n) ≡ h n)) ⊎ ((e : NetEntry th net) × (slice_get J n ≡ Some e) × Works th net (h n) e (h (suc n)))

    pub next-works : (n : ℕ) → NextWorks n
    next-works n = go (history n)
      where
        go : IsNext (routing_machine th net) J h ph n → NextWorks n
        go (inl (f, s)) = inl (f, s.network)
        go (inr (e, f, s)) = inr (e, f, works (h n) e (h (suc n)) (moves (routing_machine th net) (h n) (ph n) e (h (suc n)) (ph (suc n)) s))

    -- what holds at first and is kept by each work holds at each moment
    pub all-along : (P : ℕ → Network th net → Type 0) → P 0 (h 0) → ((n : ℕ) → slice_get J n ≡ None → P n (h n) → P (suc n) (h n)) → ((n : ℕ) (e : NetEntry th net) (v : Network th net) → slice_get J n ≡ Some e → Works th net (h n) e v → P n (h n) → P (suc n) v) → (n : ℕ) → P n (h n)
    all-along P base still step zero = base
    all-along P base still step (suc n) = go (next-works n) (all-along P base still step n)
      where
        go : NextWorks n → P n (h n) → P (suc n) (h (suc n))
        go (inl (f, e)) p = subst (P (suc n)) (sym e) (still n f p)
        go (inr (e, f, x)) p = step n e (h (suc n)) f x p

    pub within-all : IsWithinPuts (routing_machine th net) (h 0) → (n : ℕ) → IsWithinPuts (routing_machine th net) (h n)
    within-all base = all-along (λ n w. IsWithinPuts (routing_machine th net) w) base (λ n f p. p) (λ n e v f x p. within-works (h n) e v x p)
