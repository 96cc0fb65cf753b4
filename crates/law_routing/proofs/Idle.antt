-- Where no act of a walk's round is possible all links are empty and nothing is pending.
use Rattle.std.proofs.Common.{◌≡◌, ℕ, zero, suc, ◌≤◌, Bool, true, false, cond, List, [], ◌∷◌, ◌++◌, ◌⊎◌, inl, inr, length, map, slice_get, Option, Some, None, refl, sym, ap, subst, ◌∙◌, arith, append-nil}
use Rattle.law_machine.specs.Machine.{Has, Act, Did, Received, Stamped, stamped}
use Rattle.law_machine.specs.Runs.{IsWithinPuts, IsQuiet}
use Rattle.law_machine.specs.Network.{outcome_of, outcome_at, reception_of}
use Rattle.law_machine.specs.Walk.{IsIdle}
use Rattle.law_machine.proofs.Lists.{Same, Is, Not, compare}
use Rattle.law_routing.specs.Theory.{Theory, TheoryLaws}
use Rattle.law_routing.specs.Net.{Net}
use Rattle.law_routing.specs.Server.{Message, is_among}
use Rattle.law_routing.specs.Step.{Task, TableUpdate, InstallsTable, message_work, full_effect, effect}
use Rattle.law_routing.specs.Routing.{routing_machine, Network, NetEntry}
use Rattle.law_routing.specs.Works.{Works}
use Rattle.law_routing.specs.LegalRun.{LegalRun, states, phases}
use Rattle.law_routing.specs.Walk.{round_at, walk_round}
use Rattle.law_routing.proofs.Laws.{one-has}
use Rattle.law_routing.proofs.Listing.{has-one}
use Rattle.law_routing.proofs.Working.{all-along, within-all}
use Rattle.law_routing.proofs.Started.{history, within-start}
use Rattle.base.proofs.Sets.{has-append-left, has-append-right, map-has}

pub get-none : {X : Type 0} (xs : List X) (k : ℕ) → slice_get xs k ≡ None → length xs ≤ k
get-none [] k e = omega arith
get-none (x ∷ xs) zero e = absurd cc
get-none (x ∷ xs) (suc k) e = omega (arith, get-none xs k e)

module _ (th : Theory) (net : Net th) where
  in-round : (ts : List ℕ) (t u : ℕ) → Has t ts → Has u (net.links t) → Has (t, Received u) (round_at th net ts)
  in-round [] t u h near = absurd h
  in-round (s ∷ ts) t u (inl e) near = subst (λ z. Has (z, Received u) (round_at th net (s ∷ ts))) (sym e) (has-append-left (s, Received u) (map (λ u. (s, Received u)) (net.links s)) ((s, Did TableUpdate) ∷ round_at th net ts) (map-has (λ u. (s, Received u)) (net.links s) u (subst (λ z. Has u (net.links z)) e near)))
  in-round (s ∷ ts) t u (inr h) near = has-append-right (t, Received u) (map (λ u. (s, Received u)) (net.links s)) ((s, Did TableUpdate) ∷ round_at th net ts) (inr (in-round ts t u h near))

  table_update-in : (ts : List ℕ) (t : ℕ) → Has t ts → Has (t, Did TableUpdate) (round_at th net ts)
  table_update-in [] t h = absurd h
  table_update-in (s ∷ ts) t (inl e) = subst (λ z. Has (z, Did TableUpdate) (round_at th net (s ∷ ts))) (sym e) (has-append-right (s, Did TableUpdate) (map (λ u. (s, Received u)) (net.links s)) ((s, Did TableUpdate) ∷ round_at th net ts) (inl refl))
  table_update-in (s ∷ ts) t (inr h) = has-append-right (t, Did TableUpdate) (map (λ u. (s, Received u)) (net.links s)) ((s, Did TableUpdate) ∷ round_at th net ts) (inr (table_update-in ts t h))

  idle-of : (w : Network th net) (plan : List (ℕ × Act Task)) (p : ℕ × Act Task) → IsIdle (routing_machine th net) w plan → Has p plan → outcome_at (routing_machine th net) w p.0 p.1 ≡ None
  idle-of w [] p i h = absurd h
  idle-of w (x ∷ plan) p i (inl e) = subst (λ (z : ℕ × Act Task). outcome_at (routing_machine th net) w z.0 z.1 ≡ None) (sym e) i.0
  idle-of w (x ∷ plan) p i (inr h) = idle-of w plan p i.1 h

  none-left : (w : Network th net) (t u : ℕ) → Has t net.servers → Has u (net.links t) → outcome_at (routing_machine th net) w t (Received u) ≡ None → length (w.put u t) ≤ w.taken u t
  none-left w t u here near e = get-none (w.put u t) (w.taken u t) (go (slice_get (w.put u t) (w.taken u t)) e)
    where
      go : (o : Option (Stamped (Message th))) → outcome_of (routing_machine th net) w t (reception_of (routing_machine th net) u o) ≡ None → o ≡ None
      go None f = refl
      go (Some x) f = absurd (never f)
        where
          never : outcome_of (routing_machine th net) w t (reception_of (routing_machine th net) u (Some x)) ≡ None → ⊥
          never f = absurd (clash (sym (rw (has-one t net.servers here, has-one u (net.links t) near) refl) ∙ f))
            where
              clash : Some (effect th net t (w.state t) (message_work th net (w.state t) u x.message)) ≡ None → ⊥
              clash e = cc

  none-pending : (w : Network th net) (t : ℕ) → Has t net.servers → outcome_at (routing_machine th net) w t (Did TableUpdate) ≡ None → (w.state t).pending ≡ false
  none-pending w t here e = go (w.state t).pending refl
    where
      go : (b : Bool) → (w.state t).pending ≡ b → (w.state t).pending ≡ false
      go false f = f
      go true f = absurd (clash (sym (rw (has-one t net.servers here, f) refl) ∙ e))
        where
          clash : Some (effect th net t (w.state t) InstallsTable) ≡ None → ⊥
          clash e = cc

  -- messages are on links alone
  abbrev pub OnLinks : Network th net → Type 0
  OnLinks w = (u t : ℕ) → Has t (net.links u) ⊎ (w.put u t ≡ [])

  on-links-next : (w : Network th net) (e : NetEntry th net) (v : Network th net) → Works th net w e v → OnLinks w → OnLinks v
  on-links-next w e v x on u t = go (is_among t (net.links u)) refl (on u t)
    where
      go : (b : Bool) → is_among t (net.links u) ≡ b → Has t (net.links u) ⊎ (w.put u t ≡ []) → Has t (net.links u) ⊎ (v.put u t ≡ [])
      go true f s = inl (one-has t (net.links u) f)
      go false f (inl s) = inl s
      go false f (inr s) = inr (by (compare u e.server))
        where
          by : Same u e.server → v.put u t ≡ []
          by (Not n g) = ap (λ z. z u t) x.put ∙ (rw g refl ∙ s)
          by (Is p g) = ap (λ z. z u t) x.put ∙ (rw g refl ∙ (ap (λ z. w.put u t ++ stamped (routing_machine th net) x.stamp (cond z ((full_effect th net e.server x.from x.work).outs t) [])) (sym (ap (λ z. is_among t (net.links z)) p) ∙ f) ∙ (append-nil (w.put u t) ∙ s)))

module _ (th : Theory) (laws : TheoryLaws th) (run : LegalRun th) where
  abbrev net : Net th
  net = run.net

  abbrev h : ℕ → Network th run.net
  h = states th run

  on-links : (n : ℕ) → OnLinks th run.net (h n)
  on-links = all-along th run.net run.journal h (phases th run) (history th laws run) (λ n w. OnLinks th run.net w) (λ u t. inr (run.begins.fresh u t)) (λ n f p. p) (λ n e v f x p. on-links-next th run.net (h n) e v x p)

  pub idle-quiet : (n : ℕ) → IsIdle (routing_machine th run.net) (h n) (walk_round th run.net) → IsQuiet (routing_machine th run.net) (h n)
  idle-quiet n idle = record {
    empty = λ u t. go u t (on-links n u t);
    calm = λ t here. none-pending th run.net (h n) t here (idle-of th run.net (h n) (walk_round th run.net) (t, Did TableUpdate) idle (table_update-in th run.net run.net.servers t here));
  }
    where
      within : IsWithinPuts (routing_machine th run.net) (h n)
      within = within-all th run.net run.journal h (phases th run) (history th laws run) (within-start th run.net run.start run.first run.begins) n

      go : (u t : ℕ) → Has t (run.net.links u) ⊎ ((h n).put u t ≡ []) → (h n).taken u t ≡ length ((h n).put u t)
      go u t (inl near) =
          let back : Has u (run.net.links t) = run.laws.tree.both u t near in
          let here : Has t run.net.servers = run.laws.tree.linked t u back in
          omega (arith, within u t, none-left th run.net (h n) t u here back (idle-of th run.net (h n) (walk_round th run.net) (t, Received u) idle (in-round th run.net run.net.servers t u here back)))
      go u t (inr e) = omega (arith, within u t, ap length e)
