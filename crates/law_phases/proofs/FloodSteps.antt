-- What an entry of a flooding network does, and what only grows: lists put on links, counts of receptions and of commands.
use Rattle.std.proofs.Common.{◌≡◌, ℕ, suc, ◌+◌, ◌≤◌, ◌<◌, ◌==◌, Bool, true, false, cond, ◌&&◌, List, ◌++◌, ◌⊎◌, inl, inr, length, slice_get, Option, Some, None, refl, sym, ap, subst, ◌∙◌, arith, length-append}
use Rattle.std.proofs.lemmas.Option.{slice_get_within, same_Some}
use Rattle.base.proofs.Numbers.{Same, Is, Not, compare}
use Rattle.law_machine.proofs.Numbers.{climb, slice_get-left}
use Rattle.law_machine.specs.Machine.{Input, Does, Receives, Outcome, Stamped, Entry, at, unstamped, stamped, act_of, act_phase}
use Rattle.law_machine.specs.Network.{NetworkState, IsAvailable, taken_after}
use Rattle.law_machine.specs.Runs.{IsReady, IsQuiet, IsThrough}
use Rattle.law_machine.specs.History.{phase_at, IsNext, IsHistory}
use Rattle.law_machine.proofs.History.{run-history, run-ends, moves}
use Rattle.law_routing.specs.Theory.{Theory, TheoryLaws}
use Rattle.law_routing.specs.Net.{NetLaws, PhasedCommand}
use Rattle.law_routing.specs.Routing.{phase_of}
use Rattle.law_phases.specs.Trees.{PhasedNet, net_at}
use Rattle.law_phases.specs.Flooding.{FloodServer, FloodMessage, FloodWork, Floods, Rests, flood_work, flood_counted, flood_effect, flood_outcome, flood_machine, flood_opening, FloodRun, flood_states}
use Rattle.law_phases.proofs.Nets.{net-laws}

module _ (th : Theory) (laws : TheoryLaws th) (run : FloodRun th) where
  abbrev net : PhasedNet th
  net = run.net

  abbrev h : ℕ → NetworkState (flood_machine th run.net)
  h = flood_states th run

  abbrev ph : ℕ → ℕ
  ph = phase_at (flood_machine th run.net) (flood_opening th run.net) 0 run.journal

  abbrev J : List (Entry (flood_machine th run.net))
  J = run.journal

  pub tree-laws : (k : ℕ) → NetLaws th (net_at th run.net k)
  tree-laws k = net-laws th run.net run.laws k

  history : IsHistory (flood_machine th run.net) run.journal (flood_states th run) (phase_at (flood_machine th run.net) (flood_opening th run.net) 0 run.journal)
  history = run-history (flood_machine th run.net) (flood_opening th run.net) 0 run.journal run.end run.last run.legal

  pub ends : h (length J) ≡ run.end
  ends = ap (λ z. z.network) (run-ends (flood_machine th run.net) (flood_opening th run.net) 0 run.journal run.end run.last run.legal)

  -- the phases of an entry
  pub record Phases (n : ℕ) (d : Input ℕ (Stamped (FloodMessage th))) (t : ℕ) : Type 0 where
    pub up : ph n ≤ ph (suc n)
    pub command : (c : ℕ) (y : PhasedCommand th) → d ≡ Does c → slice_get (run.net.script c) (((h n).state t).done c) ≡ Some y → y.phase ≡ ph (suc n)
    pub reception : (u : ℕ) (y : Stamped (FloodMessage th)) → d ≡ Receives u y → ph (suc n) ≡ ph n
    pub begins : ph n < ph (suc n) → IsThrough (flood_machine th run.net) (h n) (ph (suc n)) × IsQuiet (flood_machine th run.net) (h n)

  -- what an entry does
  pub record Step (n : ℕ) : Type 0 where
    pub entry : Entry (flood_machine th run.net)
    pub slot : slice_get run.journal n ≡ Some entry
    pub deed : Input ℕ (Stamped (FloodMessage th))
    pub work : FloodWork th
    pub stamp : ℕ
    pub phases : Phases n deed entry.server
    pub possible : flood_work th run.net entry.server ((h n).state entry.server) (unstamped (flood_machine th run.net) deed) ≡ Some work
    pub given : IsAvailable (flood_machine th run.net) (h n) entry.server deed
    pub state : (h (suc n)).state ≡ at (h n).state entry.server (flood_effect th run.net entry.server (flood_counted th run.net ((h n).state entry.server) (unstamped (flood_machine th run.net) deed)) work).state
    pub put : (h (suc n)).put ≡ (λ a b. cond (a == entry.server) ((h n).put a b ++ stamped (flood_machine th run.net) stamp ((flood_effect th run.net entry.server (flood_counted th run.net ((h n).state entry.server) (unstamped (flood_machine th run.net) deed)) work).outs b)) ((h n).put a b))
    pub taken : (h (suc n)).taken ≡ taken_after (flood_machine th run.net) (h n).taken entry.server deed

  abbrev pub Still : ℕ → Type 0
  Still n = (h (suc n) ≡ h n) × (ph (suc n) ≡ ph n)

  served : (t : ℕ) (s : FloodServer th) (d : Input ℕ (FloodMessage th)) (o : Option (FloodWork th)) (r : Outcome (FloodServer th) (FloodMessage th)) → flood_outcome th run.net t (flood_counted th run.net s d) o ≡ Some r → (k : FloodWork th) × (o ≡ Some k) × (r ≡ flood_effect th run.net t (flood_counted th run.net s d) k)
  served t s d None r e = absurd cc
  served t s d (Some k) r e = (k, refl, sym (same_Some _ _ e))

  own-phase : (n : ℕ) (o : Option ℕ) (x : NetworkState (flood_machine th run.net)) → IsReady (flood_machine th run.net) (h n) (ph n) o x (ph (suc n))
      → (ph n ≤ ph (suc n)) × ((k : ℕ) → o ≡ Some k → k ≡ ph (suc n)) × (o ≡ None → ph (suc n) ≡ ph n) × (ph n < ph (suc n) → IsThrough (flood_machine th run.net) (h n) (ph (suc n)) × IsQuiet (flood_machine th run.net) (h n))
  own-phase n None x (a, b) = (omega (arith, b), (λ k e. absurd (nothing k e)), (λ e. sym b), λ l. absurd (omega (arith, l, b)))
    where
      nothing : (k : ℕ) → None ≡ Some k → ⊥
      nothing k e = cc
  own-phase n (Some k) x (f, inl (a, b)) = (omega (arith, a, f), (λ j e. sym (same_Some _ _ e) ∙ f), (λ e. absurd (nothing e)), λ l. absurd (omega (arith, l, a, f)))
    where
      nothing : Some k ≡ None → ⊥
      nothing e = cc
  own-phase n (Some k) x (f, inr (l, t, c, g)) = (omega (arith, l, f), (λ j e. sym (same_Some _ _ e) ∙ f), (λ e. absurd (nothing e)), λ m. (subst (IsThrough (flood_machine th run.net) (h n)) f t, c))
    where
      nothing : Some k ≡ None → ⊥
      nothing e = cc

  pub step-of : (n : ℕ) → Still n ⊎ Step n
  step-of n = go (history n)
    where
      go : IsNext (flood_machine th run.net) run.journal (flood_states th run) ph n → Still n ⊎ Step n
      go (inl (f, s)) = inl (s.network, s.phase)
      go (inr (e, f, s)) =
          let m = moves (flood_machine th run.net) (h n) (ph n) e (h (suc n)) (ph (suc n)) s in
          let k = served e.server ((h n).state e.server) (unstamped (flood_machine th run.net) m.deed) (flood_work th run.net e.server ((h n).state e.server) (unstamped (flood_machine th run.net) m.deed)) m.made m.step in
          let own = own-phase n (act_phase (flood_machine th run.net) e.server ((h n).state e.server) e.act) s.found s.ready in
          inr (record {
            entry = e;
            slot = f;
            deed = m.deed;
            work = k.0;
            stamp = m.stamp;
            phases = record {
              up = own.0;
              command = λ c y d g. own.1 y.phase (ap (act_phase (flood_machine th run.net) e.server ((h n).state e.server)) (m.act ∙ ap (act_of (flood_machine th run.net)) d) ∙ ap (phase_of th (net_at th run.net 0)) g);
              reception = λ u y d. own.2 (ap (act_phase (flood_machine th run.net) e.server ((h n).state e.server)) (m.act ∙ ap (act_of (flood_machine th run.net)) d));
              begins = own.3;
            };
            possible = k.1;
            given = m.given;
            state = m.state ∙ ap (λ (z : Outcome (FloodServer th) (FloodMessage th)). at (h n).state e.server z.state) k.2;
            put = m.put ∙ ap (λ (z : Outcome (FloodServer th) (FloodMessage th)). λ a b. cond (a == e.server) ((h n).put a b ++ stamped (flood_machine th run.net) m.stamp (z.outs b)) ((h n).put a b)) k.2;
            taken = m.taken;
          })

  -- counts never fall
  put-more : (m u t : ℕ) → length ((h m).put u t) ≤ length ((h (suc m)).put u t)
  put-more m u t = go (step-of m)
    where
      go : Still m ⊎ Step m → length ((h m).put u t) ≤ length ((h (suc m)).put u t)
      go (inl e) = omega (arith, ap (λ (z : NetworkState (flood_machine th run.net)). length (z.put u t)) e.0)
      go (inr w) = by (u == w.entry.server) refl
        where
          new : List (Stamped (FloodMessage th))
          new = stamped (flood_machine th run.net) w.stamp ((flood_effect th run.net w.entry.server (flood_counted th run.net ((h m).state w.entry.server) (unstamped (flood_machine th run.net) w.deed)) w.work).outs t)

          by : (b : Bool) → (u == w.entry.server) ≡ b → length ((h m).put u t) ≤ length ((h (suc m)).put u t)
          by true g =
              let same : (h (suc m)).put u t ≡ (h m).put u t ++ new = ap (λ z. z u t) w.put ∙ ap (λ z. cond z ((h m).put u t ++ new) ((h m).put u t)) g in
              omega (arith, ap length same, length-append ((h m).put u t) new)
          by false g =
              let same : (h (suc m)).put u t ≡ (h m).put u t = ap (λ z. z u t) w.put ∙ ap (λ z. cond z ((h m).put u t ++ new) ((h m).put u t)) g in
              omega (arith, ap length same)

  -- what was put stays put
  pub put-grows : (m u t k : ℕ) (y : Stamped (FloodMessage th)) → slice_get ((h m).put u t) k ≡ Some y → slice_get ((h (suc m)).put u t) k ≡ Some y
  put-grows m u t k y e = go (step-of m)
    where
      go : Still m ⊎ Step m → slice_get ((h (suc m)).put u t) k ≡ Some y
      go (inl f) = ap (λ (z : NetworkState (flood_machine th run.net)). slice_get (z.put u t) k) f.0 ∙ e
      go (inr w) = by (u == w.entry.server) refl
        where
          new : List (Stamped (FloodMessage th))
          new = stamped (flood_machine th run.net) w.stamp ((flood_effect th run.net w.entry.server (flood_counted th run.net ((h m).state w.entry.server) (unstamped (flood_machine th run.net) w.deed)) w.work).outs t)

          by : (b : Bool) → (u == w.entry.server) ≡ b → slice_get ((h (suc m)).put u t) k ≡ Some y
          by true g =
              let same : (h (suc m)).put u t ≡ (h m).put u t ++ new = ap (λ z. z u t) w.put ∙ ap (λ z. cond z ((h m).put u t ++ new) ((h m).put u t)) g in
              ap (λ z. slice_get z k) same ∙ (slice_get-left ((h m).put u t) new k (slice_get_within ((h m).put u t) k y e) ∙ e)
          by false g =
              let same : (h (suc m)).put u t ≡ (h m).put u t = ap (λ z. z u t) w.put ∙ ap (λ z. cond z ((h m).put u t ++ new) ((h m).put u t)) g in
              ap (λ z. slice_get z k) same ∙ e

  pub taken-steps : (m u t : ℕ) → ((h m).taken u t ≤ (h (suc m)).taken u t) × ((h (suc m)).taken u t ≤ suc ((h m).taken u t))
  taken-steps m u t = go (step-of m)
    where
      more : (d : Input ℕ (Stamped (FloodMessage th))) (s : ℕ) → ((h m).taken u t ≤ taken_after (flood_machine th run.net) (h m).taken s d u t) × (taken_after (flood_machine th run.net) (h m).taken s d u t ≤ suc ((h m).taken u t))
      more (Does a) s = (omega arith, omega arith)
      more (Receives x y) s = by ((u == x) && (t == s))
        where
          by : (b : Bool) → ((h m).taken u t ≤ cond b (suc ((h m).taken u t)) ((h m).taken u t)) × (cond b (suc ((h m).taken u t)) ((h m).taken u t) ≤ suc ((h m).taken u t))
          by true = (omega arith, omega arith)
          by false = (omega arith, omega arith)

      go : Still m ⊎ Step m → ((h m).taken u t ≤ (h (suc m)).taken u t) × ((h (suc m)).taken u t ≤ suc ((h m).taken u t))
      go (inl e) = let f = ap (λ (z : NetworkState (flood_machine th run.net)). z.taken u t) e.0 in (omega (arith, f), omega (arith, f))
      go (inr w) = let f = ap (λ z. z u t) w.taken in (omega (arith, (more w.deed w.entry.server).0, f), omega (arith, (more w.deed w.entry.server).1, f))

  pub done-steps : (m t c : ℕ) → (((h m).state t).done c ≤ ((h (suc m)).state t).done c) × (((h (suc m)).state t).done c ≤ suc (((h m).state t).done c))
  done-steps m t c = go (step-of m)
    where
      kept : (s : ℕ) (st : FloodServer th) (k : FloodWork th) → (flood_effect th run.net s st k).state.done ≡ st.done
      kept s st (Floods i p x) = refl
      kept s st Rests = refl

      counted : (st : FloodServer th) (d : Input ℕ (FloodMessage th)) → (st.done c ≤ (flood_counted th run.net st d).done c) × ((flood_counted th run.net st d).done c ≤ suc (st.done c))
      counted st (Receives u y) = (omega arith, omega arith)
      counted st (Does b) = by (compare c b)
        where
          by : Same c b → (st.done c ≤ at st.done b (suc (st.done b)) c) × (at st.done b (suc (st.done b)) c ≤ suc (st.done c))
          by (Is e v) = rw v (omega (arith, ap st.done e), omega (arith, ap st.done e))
          by (Not e v) = rw v (omega arith, omega arith)

      go : Still m ⊎ Step m → (((h m).state t).done c ≤ ((h (suc m)).state t).done c) × (((h (suc m)).state t).done c ≤ suc (((h m).state t).done c))
      go (inl e) = let f = ap (λ (z : NetworkState (flood_machine th run.net)). (z.state t).done c) e.0 in (omega (arith, f), omega (arith, f))
      go (inr w) = by (compare t w.entry.server)
        where
          s : FloodServer th
          s = flood_counted th run.net ((h m).state w.entry.server) (unstamped (flood_machine th run.net) w.deed)

          by : Same t w.entry.server → (((h m).state t).done c ≤ ((h (suc m)).state t).done c) × (((h (suc m)).state t).done c ≤ suc (((h m).state t).done c))
          by (Not e v) = let f : ((h (suc m)).state t).done c ≡ ((h m).state t).done c = ap (λ z. (z t).done c) w.state ∙ rw v refl in (omega (arith, f), omega (arith, f))
          by (Is e v) =
              let f : ((h (suc m)).state t).done c ≡ s.done c = ap (λ z. (z t).done c) w.state ∙ (rw v refl ∙ ap (λ z. z c) (kept w.entry.server s w.work)) in
              let g = counted ((h m).state w.entry.server) (unstamped (flood_machine th run.net) w.deed) in
              let i : ((h m).state t).done c ≡ ((h m).state w.entry.server).done c = ap (λ z. ((h m).state z).done c) e in
              (omega (arith, f, g.0, i), omega (arith, f, g.1, i))

  pub put-rises : (a b u t : ℕ) → a ≤ b → length ((h a).put u t) ≤ length ((h b).put u t)
  put-rises a b u t l = climb (λ y. length ((h a).put u t) ≤ length ((h y).put u t)) a (omega arith) (λ y g r. omega (arith, r, put-more y u t)) b l

  pub put-stays : (a b u t k : ℕ) (y : Stamped (FloodMessage th)) → a ≤ b → slice_get ((h a).put u t) k ≡ Some y → slice_get ((h b).put u t) k ≡ Some y
  put-stays a b u t k y l e = climb (λ z. slice_get ((h z).put u t) k ≡ Some y) a e (λ z g r. put-grows z u t k y r) b l

  pub taken-rises : (a b u t : ℕ) → a ≤ b → (h a).taken u t ≤ (h b).taken u t
  taken-rises a b u t l = climb (λ y. (h a).taken u t ≤ (h y).taken u t) a (omega arith) (λ y g r. omega (arith, r, (taken-steps y u t).0)) b l

  pub done-rises : (a b t c : ℕ) → a ≤ b → ((h a).state t).done c ≤ ((h b).state t).done c
  done-rises a b t c l = climb (λ y. ((h a).state t).done c ≤ ((h y).state t).done c) a (omega arith) (λ y g r. omega (arith, r, (done-steps y t c).0)) b l
