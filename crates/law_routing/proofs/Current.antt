-- What is on its way is of the phase that runs, and so is each notice that an entry routes.
use Rattle.std.proofs.Common.{◌≡◌, ℕ, zero, suc, ◌≤◌, ◌<◌, ◌==◌, Bool, true, false, cond, ◌&&◌, List, [], ◌∷◌, ◌++◌, ◌⊎◌, inl, inr, length, slice_get, Option, Some, None, refl, sym, ap, subst, ◌∙◌, arith}
use Rattle.std.proofs.lemmas.Option.{slice_get_within, same_Some}
use Rattle.base.proofs.Numbers.{Same, Is, Not, compare}
use Rattle.law_machine.proofs.Numbers.{climb}
use Rattle.law_machine.specs.Machine.{Has, at, Input, Does, Receives, Stamped, unstamped, act_of, act_phase, stamped}
use Rattle.law_machine.specs.Runs.{IsReady}
use Rattle.law_machine.specs.Network.{taken_after}
use Rattle.law_machine.specs.History.{IsNext, IsHistory}
use Rattle.law_machine.proofs.History.{moves}
use Rattle.law_routing.specs.Theory.{Theory, TheoryLaws}
use Rattle.law_routing.specs.Net.{Net, PhasedCommand, Command, Publish, NetLaws, NeverFalls}
use Rattle.law_routing.specs.Server.{is_among, Message, Noticed}
use Rattle.law_routing.specs.Step.{next_work, work_of, Task, NextCommand, TableUpdate, Routes, effect}
use Rattle.law_routing.specs.Clients.{is_publish, commands_below}
use Rattle.law_routing.specs.Routing.{phase_of, routing_machine, Network, NetEntry}
use Rattle.law_routing.specs.Works.{work_at, done_after, Works}
use Rattle.law_routing.specs.AsOf.{IsRoutedAt}
use Rattle.law_routing.specs.Rest.{IsAtRest}
use Rattle.law_routing.specs.Owed.{IsPublication}
use Rattle.law_routing.proofs.Laws.{cond-some}
use Rattle.law_routing.proofs.Working.{works, state-other}
use Rattle.law_routing.proofs.Accepted.{Origin, Published, Forwarded, origin, done-here, done-rises, sends-routed}
use Rattle.law_routing.proofs.Scripts.{upto-count, below-rises, one-index}
use Rattle.law_routing.proofs.Begins.{Turn, Same_phase, New_phase, turn-of, phase-rises}
use Rattle.base.proofs.Sets.{get-has, has-map}

get-either : {X : Type 0} (xs ys : List X) (k : ℕ) (y : X) → slice_get (xs ++ ys) k ≡ Some y → ((k < length xs) × (slice_get xs k ≡ Some y)) ⊎ Has y ys
get-either [] ys k y e = inr (get-has ys k y e)
get-either (x ∷ xs) ys zero y e = inl (omega arith, e)
get-either (x ∷ xs) ys (suc k) y e = elim (get-either xs ys k y e) [ inl a ↦ inl (omega (arith, a.0), a.1) | inr b ↦ inr b ]

module _ (th : Theory) (net : Net th) where
  abbrev publishing : th.Notice → Command th
  publishing n = Publish n

  -- a publication has one phase and one notice
  pub one-publication : (q o k l : ℕ) (m n : th.Notice) → IsPublication th net q o k m → IsPublication th net q o l n → (k ≡ l) × (m ≡ n)
  one-publication q o k l m n a b =
      let i = one-index th (net.script q) a.index b.index a.command b.command a.at b.at (ap (is_publish th) a.publishes) (ap (is_publish th) b.publishes) (a.ordinal ∙ sym b.ordinal) in
      let c : a.command ≡ b.command = same_Some _ _ (sym a.at ∙ (ap (slice_get (net.script q)) i ∙ b.at)) in
      (sym a.phase ∙ (ap (λ z. z.phase) c ∙ b.phase), same (sym a.publishes ∙ (ap (λ z. z.command) c ∙ b.publishes)))
    where
      same : publishing m ≡ publishing n → m ≡ n
      same e = cc

module _ (th : Theory) (laws : TheoryLaws th) (net : Net th) (good : NetLaws th net) (J : List (NetEntry th net)) (h : ℕ → Network th net) (ph : ℕ → ℕ) (history : IsHistory (routing_machine th net) J h ph) (rest : IsAtRest th net (h 0)) (start : (t c : ℕ) → Has t net.servers → Has c (net.clients t) → commands_below th (ph 0) (net.script c) ≤ ((h 0).state t).done c) (phased : (c : ℕ) → NeverFalls th (net.script c)) where
  -- an entry with its phase
  pub record Phased_works (n : ℕ) : Type 0 where
    pub entry : NetEntry th net
    pub slot : slice_get J n ≡ Some entry
    pub works : Works th net (h n) entry (h (suc n))
    pub command : (c : ℕ) (y : PhasedCommand th) → works.deed ≡ Does (NextCommand c) → slice_get (net.script c) (((h n).state entry.server).done c) ≡ Some y → y.phase ≡ ph (suc n)
    pub reception_of : (u : ℕ) (y : Stamped (Message th)) → works.deed ≡ Receives u y → ph (suc n) ≡ ph n

  pub data Next (n : ℕ) : Type 0 where
    Still : slice_get J n ≡ None → h (suc n) ≡ h n → ph (suc n) ≡ ph n → Next n
    Done : Phased_works n → Next n

  ready-phase : (n k : ℕ) (o : Option ℕ) (x : Network th net) → IsReady (routing_machine th net) (h n) (ph n) o x (ph (suc n)) → o ≡ Some k → k ≡ ph (suc n)
  ready-phase n k None x r e = absurd cc
  ready-phase n k (Some l) x r e = sym (same_Some _ _ e) ∙ r.0

  ready-none : (n : ℕ) (o : Option ℕ) (x : Network th net) → IsReady (routing_machine th net) (h n) (ph n) o x (ph (suc n)) → o ≡ None → ph (suc n) ≡ ph n
  ready-none n None x r e = sym r.1
  ready-none n (Some l) x r e = absurd cc

  pub next-of : (n : ℕ) → Next n
  next-of n = go (history n)
    where
      go : IsNext (routing_machine th net) J h ph n → Next n
      go (inl (f, s)) = Still f s.network s.phase
      go (inr (e, f, s)) = Done (record { entry = e; slot = f; works = w; command = command; reception_of = reception_of })
        where
          w : Works th net (h n) e (h (suc n))
          w = works th net (h n) e (h (suc n)) (moves (routing_machine th net) (h n) (ph n) e (h (suc n)) (ph (suc n)) s)

          command : (c : ℕ) (y : PhasedCommand th) → w.deed ≡ Does (NextCommand c) → slice_get (net.script c) (((h n).state e.server).done c) ≡ Some y → y.phase ≡ ph (suc n)
          command c y d g = ready-phase n y.phase (act_phase (routing_machine th net) e.server ((h n).state e.server) e.act) s.found s.ready
              (ap (act_phase (routing_machine th net) e.server ((h n).state e.server)) (w.act ∙ ap (act_of (routing_machine th net)) d) ∙ ap (phase_of th net) g)

          reception_of : (u : ℕ) (y : Stamped (Message th)) → w.deed ≡ Receives u y → ph (suc n) ≡ ph n
          reception_of u y d = ready-none n (act_phase (routing_machine th net) e.server ((h n).state e.server) e.act) s.found s.ready
              (ap (act_phase (routing_machine th net) e.server ((h n).state e.server)) (w.act ∙ ap (act_of (routing_machine th net)) d))

  -- of each untaken notice the publication is of the phase that runs
  abbrev pub IsCurrent : ℕ → Type 0
  IsCurrent n = (a b k : ℕ) (y : Stamped (Message th)) (q o : ℕ) (m : th.Notice) → (h n).taken a b ≤ k → slice_get ((h n).put a b) k ≡ Some y → y.message ≡ Noticed q o m → IsPublication th net q o (ph n) m

  abbrev with-phase : ℕ → ℕ → th.Notice → ℕ → Type 0
  with-phase q o m k = IsPublication th net q o k m

  routed-publication : (n : ℕ) → IsCurrent n → (x : Phased_works n) (i q o : ℕ) (m : th.Notice) → x.works.work ≡ Routes i q o m → IsPublication th net q o (ph (suc n)) m
  routed-publication n cur x i q o m e = go (origin th net good (h n) x.entry.server x.works.deed i q o m x.works.given (x.works.possible ∙ ap Some e))
    where
      go : Origin th net good (h n) x.entry.server x.works.deed i q o m → IsPublication th net q o (ph (suc n)) m
      go (Published d lives c slot is ord allowed) = record { index = ((h n).state x.entry.server).done q; command = c; at = slot; publishes = is; ordinal = ord; allowed = allowed; phase = x.command q c d slot }
      go (Forwarded y d near g s) = subst (with-phase q o m) (sym (x.reception_of i y d)) (cur i x.entry.server ((h n).taken i x.entry.server) y q o m (omega arith) g s)

  taken-rises : (w : Network th net) (t : ℕ) (d : Input Task (Stamped (Message th))) (a b : ℕ) → w.taken a b ≤ taken_after (routing_machine th net) w.taken t d a b
  taken-rises w t (Does x) a b = omega arith
  taken-rises w t (Receives s y) a b = go ((a == s) && (b == t))
    where
      go : (z : Bool) → w.taken a b ≤ cond z (suc (w.taken a b)) (w.taken a b)
      go true = omega arith
      go false = omega arith

  current-next : (n : ℕ) → IsCurrent n → IsCurrent (suc n)
  current-next n cur a b k y q o m l g s = go (next-of n)
    where
      old : (h n).taken a b ≤ k → slice_get ((h n).put a b) k ≡ Some y → IsPublication th net q o (ph (suc n)) m
      old l' g' = by (turn-of th laws net good J h ph history rest start phased n)
        where
          by : Turn th laws net good J h ph history rest start phased n → IsPublication th net q o (ph (suc n)) m
          by (Same_phase e) = subst (with-phase q o m) (sym e) (cur a b k y q o m l' g' s)
          by (New_phase e quiet t) = absurd (omega (arith, l', quiet.empty a b, slice_get_within ((h n).put a b) k y g'))

      go : Next n → IsPublication th net q o (ph (suc n)) m
      go (Still f e p) = old (subst (λ (z : Network th net). z.taken a b ≤ k) e l) (subst (λ (z : Network th net). slice_get (z.put a b) k ≡ Some y) e g)
      go (Done x) = by (compare a x.entry.server)
        where
          low : (h n).taken a b ≤ k
          low = omega (arith, l, ap (λ z. z a b) x.works.taken, taken-rises (h n) x.entry.server x.works.deed a b)

          fresh : Has y (stamped (routing_machine th net) x.works.stamp ((effect th net x.entry.server x.works.from x.works.work).outs b)) → IsPublication th net q o (ph (suc n)) m
          fresh i =
              let f = has-map (λ z. record { stamp = x.works.stamp; message = z }) ((effect th net x.entry.server x.works.from x.works.work).outs b) y i in
              let same : f.0 ≡ Noticed q o m = ap (λ (z : Stamped (Message th)). z.message) (sym f.2) ∙ s in
              let r = sends-routed th net good x.entry.server x.works.from x.works.work b q o m (subst (λ z. Has z ((effect th net x.entry.server x.works.from x.works.work).outs b)) same f.1) in
              routed-publication n cur x r.0 q o m r.1

          by : Same a x.entry.server → IsPublication th net q o (ph (suc n)) m
          by (Not z f) = old low (subst (λ z. slice_get z k ≡ Some y) (ap (λ z. z a b) x.works.put ∙ rw f refl) g)
          by (Is p f) = elim (get-either ((h n).put a b) (stamped (routing_machine th net) x.works.stamp ((effect th net x.entry.server x.works.from x.works.work).outs b)) k y (subst (λ z. slice_get z k ≡ Some y) (ap (λ z. z a b) x.works.put ∙ rw f refl) g)) [ inl i ↦ old low i.1 | inr i ↦ fresh i ]

  pub current : (n : ℕ) → IsCurrent n
  current zero = λ a b k y q o m l g s. absurd (omega (arith, l, rest.empty a b, slice_get_within ((h 0).put a b) k y g))
  current (suc n) = current-next n (current n)

  -- what an entry routes is a publication of the entry's phase
  pub pass-publication : (m t interface q o : ℕ) (n : th.Notice) → IsRoutedAt th net h J m t interface q o n → IsPublication th net q o (ph (suc m)) n
  pass-publication m t interface q o n p = go (next-of m)
    where
      go : Next m → IsPublication th net q o (ph (suc m)) n
      go (Still f e s) = absurd (never (sym f ∙ p.at))
        where
          never : None ≡ Some p.entry → ⊥
          never e = cc
      go (Done x) =
          let e : x.entry ≡ p.entry = same_Some _ _ (sym x.slot ∙ p.at) in
          routed-publication m (current m) x interface q o n (same_Some _ _ (sym x.works.is ∙ (ap (λ (z : NetEntry th net). work_at th net (h m) z.server z.act) e ∙ (ap (λ z. work_at th net (h m) z p.entry.act) p.server ∙ p.routes))))

  -- no more commands are executed than those of the phases so far
  abbrev pub IsUpto : ℕ → Type 0
  IsUpto n = (t c : ℕ) → Has c (net.clients t) → ((h n).state t).done c ≤ commands_below th (suc (ph n)) (net.script c)

  upto-next : (n : ℕ) → IsUpto n → IsUpto (suc n)
  upto-next n up t c lives = go (next-of n)
    where
      more : commands_below th (suc (ph n)) (net.script c) ≤ commands_below th (suc (ph (suc n))) (net.script c)
      more = below-rises th (suc (ph n)) (suc (ph (suc n))) (net.script c) (omega (arith, phase-rises th laws net good J h ph history rest start phased n))

      go : Next n → ((h (suc n)).state t).done c ≤ commands_below th (suc (ph (suc n))) (net.script c)
      go (Still f e p) = omega (arith, up t c lives, more, ap (λ (z : Network th net). (z.state t).done c) e)
      go (Done x) = by (compare t x.entry.server)
        where
          deed : (d : Input Task (Stamped (Message th))) → x.works.deed ≡ d → t ≡ x.entry.server → done_after th net ((h n).state x.entry.server).done d c ≤ commands_below th (suc (ph (suc n))) (net.script c)
          deed (Does TableUpdate) e p = omega (arith, up t c lives, more, ap (λ z. ((h n).state z).done c) p)
          deed (Receives u y) e p = omega (arith, up t c lives, more, ap (λ z. ((h n).state z).done c) p)
          deed (Does (NextCommand b)) e p = two (compare c b)
            where
              two : Same c b → at ((h n).state x.entry.server).done b (suc (((h n).state x.entry.server).done b)) c ≤ commands_below th (suc (ph (suc n))) (net.script c)
              two (Not k f) = rw f (omega (arith, up t c lives, more, ap (λ z. ((h n).state z).done c) p))
              two (Is k f) = rw f (subst (λ z. suc (((h n).state x.entry.server).done z) ≤ commands_below th (suc (ph (suc n))) (net.script c)) k (three (slice_get (net.script c) (((h n).state x.entry.server).done c)) refl))
                where
                  three : (o : Option (PhasedCommand th)) → slice_get (net.script c) (((h n).state x.entry.server).done c) ≡ o → suc (((h n).state x.entry.server).done c) ≤ commands_below th (suc (ph (suc n))) (net.script c)
                  three (Some y) g = upto-count th (ph (suc n)) (net.script c) (((h n).state x.entry.server).done c) y (phased c) g (omega (arith, x.command c y (e ∙ ap (λ z. Does (NextCommand z)) (sym k)) g))
                  three None g = absurd (nothing x.works.possible)
                    where
                      nothing : work_of th net x.entry.server ((h n).state x.entry.server) (unstamped (routing_machine th net) x.works.deed) ≡ Some x.works.work → ⊥
                      nothing w = none (cond-some (is_among x.entry.server net.servers) (is_among b (net.clients x.entry.server)) (next_work th net b (((h n).state x.entry.server).done b) (slice_get (net.script b) (((h n).state x.entry.server).done b))) x.works.work (subst (λ z. work_of th net x.entry.server ((h n).state x.entry.server) (unstamped (routing_machine th net) z) ≡ Some x.works.work) e w)).2
                        where
                          none : next_work th net b (((h n).state x.entry.server).done b) (slice_get (net.script b) (((h n).state x.entry.server).done b)) ≡ Some x.works.work → ⊥
                          none a = flat (sym (ap (next_work th net b (((h n).state x.entry.server).done b)) (subst (λ z. slice_get (net.script z) (((h n).state x.entry.server).done z) ≡ None) k g)) ∙ a)
                            where
                              flat : None ≡ Some x.works.work → ⊥
                              flat e = cc

          by : Same t x.entry.server → ((h (suc n)).state t).done c ≤ commands_below th (suc (ph (suc n))) (net.script c)
          by (Not k f) = omega (arith, up t c lives, more, ap (λ z. z.done c) (state-other th net (h n) x.entry (h (suc n)) x.works t k))
          by (Is k f) = omega (arith, done-here th net good (h n) x.entry (h (suc n)) x.works t k c, deed x.works.deed refl k)

  pub upto : IsUpto 0 → (n : ℕ) → IsUpto n
  upto base zero = base
  upto base (suc n) = upto-next n (upto base n)

  pub done-rising : (t c a b : ℕ) → a ≤ b → ((h a).state t).done c ≤ ((h b).state t).done c
  done-rising t c a b l = climb (λ y. ((h a).state t).done c ≤ ((h y).state t).done c) a (omega arith) (λ y k i. omega (arith, i, one y (next-of y))) b l
    where
      one : (y : ℕ) → Next y → ((h y).state t).done c ≤ ((h (suc y)).state t).done c
      one y (Still f e p) = omega (arith, ap (λ (z : Network th net). (z.state t).done c) e)
      one y (Done x) = done-rises th net good (h y) x.entry (h (suc y)) x.works t c
