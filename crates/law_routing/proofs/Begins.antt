-- Each phase of a run begins at rest, and no moment to look back to lies before its beginning.
use Rattle.std.proofs.Common.{◌≡◌, ℕ, zero, suc, ◌≤◌, ◌<◌, Bool, true, false, ◌&&◌, List, [], ◌∷◌, inl, inr, slice_get, Option, Some, None, refl, sym, ap, subst, ◌∙◌, arith}
use Rattle.base.proofs.Numbers.{Same, Is, Not, compare}
use Rattle.law_machine.proofs.Numbers.{climb}
use Rattle.law_machine.specs.Machine.{Has, Input, Does, Receives, unstamped, act_phase}
use Rattle.law_machine.specs.Runs.{IsReady, IsQuiet, IsThrough}
use Rattle.law_machine.specs.History.{IsNext, IsHistory}
use Rattle.law_routing.specs.Theory.{Theory, TheoryLaws}
use Rattle.law_routing.specs.Net.{Net, NetLaws, NeverFalls}
use Rattle.law_routing.specs.Server.{Message, ServerState, is_among, sent, sent_adverts}
use Rattle.law_routing.specs.Step.{Task, NextCommand, TableUpdate, Work, InstallsTable, next_work, message_work, work_of}
use Rattle.law_routing.specs.Routing.{not_below, all_through, routing_machine, Network, NetEntry}
use Rattle.law_routing.specs.Works.{Works}
use Rattle.law_routing.specs.Rest.{IsOnwardWay, IsAtRest}
use Rattle.law_routing.specs.AsOf.{calm, back, as_of}
use Rattle.law_routing.specs.Clients.{commands_below}
use Rattle.law_routing.proofs.Laws.{one-has, cond-some}
use Rattle.law_routing.proofs.Working.{state-other, all-along}
use Rattle.law_routing.proofs.Listed.{filters-are, adverts-are}
use Rattle.law_routing.proofs.Calm.{calm-since, calm-low}
use Rattle.law_routing.proofs.Along.{filters-back, adverts-back, back-low, back-not-before}
use Rattle.law_routing.proofs.Passing.{shown-is}
use Rattle.law_routing.proofs.Scripts.{through-count, through-one}
use Rattle.std.proofs.lemmas.Bool.{and_parts}

-- only servers of the net act
acts : (th : Theory) (net : Net th) (t : ℕ) (s : ServerState th) (d : Input Task (Message th)) (k : Work th) → work_of th net t s d ≡ Some k → Has t net.servers
acts th net t s (Does (NextCommand c)) k e = one-has t net.servers (cond-some (is_among t net.servers) (is_among c (net.clients t)) (next_work th net c (s.done c) (slice_get (net.script c) (s.done c))) k e).0
acts th net t s (Does TableUpdate) k e = one-has t net.servers (cond-some (is_among t net.servers) s.pending (Some InstallsTable) k e).0
acts th net t s (Receives u x) k e = one-has t net.servers (cond-some (is_among t net.servers) (is_among u (net.links t)) (Some (message_work th net s u x)) k e).0

module _ (th : Theory) (laws : TheoryLaws th) (net : Net th) (good : NetLaws th net) (J : List (NetEntry th net)) (h : ℕ → Network th net) (ph : ℕ → ℕ) (history : IsHistory (routing_machine th net) J h ph) (rest : IsAtRest th net (h 0)) where
  -- only servers of the net have something pending
  abbrev Inside : Network th net → Type 0
  Inside w = (t : ℕ) → (w.state t).pending ≡ true → Has t net.servers

  pub inside-all : (n : ℕ) → Inside (h n)
  inside-all = all-along th net J h ph history (λ n w. Inside w) (λ t e. absurd (messages_to (rest.none_pending t) e)) (λ n f p. p) next
    where
      messages_to : {b : Bool} → b ≡ false → b ≡ true → ⊥
      messages_to e f = cc

      next : (n : ℕ) (e : NetEntry th net) (v : Network th net) → slice_get J n ≡ Some e → Works th net (h n) e v → Inside (h n) → Inside v
      next n e v f x p t g = go (compare t e.server)
        where
          go : Same t e.server → Has t net.servers
          go (Not k y) = p t (sym (ap (λ z. z.pending) (state-other th net (h n) e v x t k)) ∙ g)
          go (Is k y) = subst (λ z. Has z net.servers) (sym k) (acts th net e.server ((h n).state e.server) (unstamped (routing_machine th net) x.deed) x.work x.possible)

  -- a quiet moment is at rest
  pub quiet-rests : (n : ℕ) → IsQuiet (routing_machine th net) (h n) → IsAtRest th net (h n)
  quiet-rests n quiet = record {
    empty = quiet.empty;
    none_pending = none_pending;
    installed = λ t i. shown-is th net laws good J h ph history rest t n i ∙ ap (λ z. ((h z).state t).subs i) (still t);
    filters = λ t c lives. filters-are th net good J h ph history rest n t c lives;
    adverts = λ t c lives o. adverts-are th net good J h ph history rest n t c lives o;
    subs = λ u t near. filters-back th laws net good J h ph history rest u t n near ∙ ap (λ z. sent th net ((h z).state u) u t) (same u t near);
    advs = λ u t near. adverts-back th laws net good J h ph history rest u t n near ∙ ap (λ z. sent_adverts th net ((h z).state u) u t) (same u t near);
  }
    where
      none_pending : (t : ℕ) → ((h n).state t).pending ≡ false
      none_pending t = go ((h n).state t).pending refl
        where
          go : (b : Bool) → ((h n).state t).pending ≡ b → ((h n).state t).pending ≡ false
          go false e = e
          go true e = quiet.calm t (inside-all n t e)

      still : (t : ℕ) → calm th net h t n ≡ n
      still t = omega (arith, calm-low th laws net J h ph history (λ t e i. rest.installed t i) rest.none_pending t n, calm-since th laws net J h ph history (λ t e i. rest.installed t i) rest.none_pending t n n (none_pending t) (omega arith))

      same : (u t : ℕ) → Has t (net.links u) → back th net h t u n ≡ n
      same u t near = omega (arith, back-low th laws net good J h ph history rest u t n near, back-not-before th laws net good J h ph history rest u t n n near (quiet.empty u t) (omega arith))

  -- the beginning of the phase that entry n is made in
  pub record Begun (n : ℕ) : Type 0 where
    pub at : ℕ
    pub before : at ≤ n
    pub rests : IsAtRest th net (h at)
    pub through : (t c : ℕ) → Has t net.servers → Has c (net.clients t) → commands_below th (ph (suc n)) (net.script c) ≤ ((h at).state t).done c

  pub through-client : (s : ServerState th) (k c : ℕ) (cs : List ℕ) → Has c cs → all_through th net s k cs ≡ true → not_below th net k (slice_get (net.script c) (s.done c)) ≡ true
  through-client s k c [] i e = absurd i
  through-client s k c (x ∷ cs) (inl p) e = subst (λ z. not_below th net k (slice_get (net.script z) (s.done z)) ≡ true) (sym p) (and_parts (not_below th net k (slice_get (net.script x) (s.done x))) (all_through th net s k cs) e).0
  through-client s k c (x ∷ cs) (inr i) e = through-client s k c cs i (and_parts (not_below th net k (slice_get (net.script x) (s.done x))) (all_through th net s k cs) e).1

  module _ (start : (t c : ℕ) → Has t net.servers → Has c (net.clients t) → commands_below th (ph 0) (net.script c) ≤ ((h 0).state t).done c) (phased : (c : ℕ) → NeverFalls th (net.script c)) where
    -- the phase of an entry is that of the one before, or it begins here
    pub data Turn (n : ℕ) : Type 0 where
      Same_phase : ph (suc n) ≡ ph n → Turn n
      New_phase : ph n < ph (suc n) → IsQuiet (routing_machine th net) (h n) → IsThrough (routing_machine th net) (h n) (ph (suc n)) → Turn n

    ready-turn : (n : ℕ) (o : Option ℕ) (x : Network th net) → IsReady (routing_machine th net) (h n) (ph n) o x (ph (suc n)) → Turn n
    ready-turn n None x (a, b) = Same_phase (sym b)
    ready-turn n (Some k) x (f, inl (a, b)) = Same_phase (sym f ∙ sym a)
    ready-turn n (Some k) x (f, inr (l, t, c, g)) = New_phase (omega (arith, l, f)) c (subst (IsThrough (routing_machine th net) (h n)) f t)

    pub turn-of : (n : ℕ) → Turn n
    turn-of n = go (history n)
      where
        go : IsNext (routing_machine th net) J h ph n → Turn n
        go (inl (f, s)) = Same_phase s.phase
        go (inr (e, f, s)) = ready-turn n (act_phase (routing_machine th net) e.server ((h n).state e.server) e.act) s.found s.ready

    pub phase-rises : (n : ℕ) → ph n ≤ ph (suc n)
    phase-rises n = go (turn-of n)
      where
        go : Turn n → ph n ≤ ph (suc n)
        go (Same_phase e) = omega (arith, e)
        go (New_phase l q t) = omega (arith, l)

    new : (n : ℕ) → IsAtRest th net (h n) → IsThrough (routing_machine th net) (h n) (ph (suc n)) → Begun n
    new n r through = record {
      at = n;
      before = omega arith;
      rests = r;
      through = λ t c i lives. through-count th (ph (suc n)) (net.script c) (((h n).state t).done c) (phased c) (λ x e. through-one th net (ph (suc n)) (slice_get (net.script c) (((h n).state t).done c)) x (through-client ((h n).state t) (ph (suc n)) c (net.clients t) lives (through t i)) e);
    }

    pub begun : (n : ℕ) → Begun n
    begun zero = go (turn-of zero)
      where
        go : Turn zero → Begun zero
        go (Same_phase e) = record { at = 0; before = omega arith; rests = rest; through = λ t c i lives. omega (arith, start t c i lives, ap (λ z. commands_below th z (net.script c)) e) }
        go (New_phase l q t) = new 0 rest t
    begun (suc n) = go (turn-of (suc n)) (begun n)
      where
        go : Turn (suc n) → Begun n → Begun (suc n)
        go (Same_phase e) b = record { at = b.at; before = omega (arith, b.before); rests = b.rests; through = λ t c i lives. omega (arith, b.through t c i lives, ap (λ z. commands_below th z (net.script c)) e) }
        go (New_phase l q t) b = new (suc n) (quiet-rests (suc n) q) t

    pub phase-rising : (a b : ℕ) → a ≤ b → ph a ≤ ph b
    phase-rising a b l = climb (λ y. ph a ≤ ph y) a (omega arith) (λ y k i. omega (arith, i, phase-rises y)) b l

  -- a way's end is looked at not before a rest, and not after now
  pub as_of-since : (b : ℕ) → IsAtRest th net (h b) → (prior t : ℕ) (path : List ℕ) (m : ℕ) → IsOnwardWay th net prior t path → b ≤ m → (b ≤ as_of th net h t path m) × (as_of th net h t path m ≤ m)
  as_of-since b still prior t [] m way le = (le, omega arith)
  as_of-since b still prior t (u ∷ path) m way le =
      let near : Has t (net.links u) = good.tree.both t u way.0 in
      let x = back-not-before th laws net good J h ph history rest u t b m near (still.empty u t) le in
      let y = back-low th laws net good J h ph history rest u t m near in
      let r = as_of-since b still t u path (back th net h t u m) way.2 x in
      (r.0, omega (arith, r.1, y))

  pub calm-from : (b : ℕ) → IsAtRest th net (h b) → (t m : ℕ) → b ≤ m → b ≤ calm th net h t m
  calm-from b still t m l = calm-since th laws net J h ph history (λ t e i. rest.installed t i) rest.none_pending t b m (still.none_pending t) l

  pub calm-upto : (t m : ℕ) → calm th net h t m ≤ m
  calm-upto t m = calm-low th laws net J h ph history (λ t e i. rest.installed t i) rest.none_pending t m
