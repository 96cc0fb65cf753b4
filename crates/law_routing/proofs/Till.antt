-- When a notice passes a server, that knows of no command of the publisher behind its publish, nor does any server beyond it.
use Rattle.std.proofs.Common.{◌≡◌, ℕ, suc, ◌≤◌, ◌<◌, nat_le, Bool, true, false, List, [], ◌∷◌, ◌⊎◌, inl, inr, length, take, slice_get, Some, refl, sym, ap, subst, ◌∙◌, arith, le-leb, leb-true}
use Rattle.law_machine.specs.Links.{last_where}
use Rattle.law_machine.proofs.Numbers.{climb, last-where}
use Rattle.law_machine.specs.Machine.{Has, unstamped}
use Rattle.law_machine.specs.Network.{IsAvailable}
use Rattle.base_tree.specs.Hops.{side}
use Rattle.law_routing.specs.Theory.{Theory, TheoryLaws}
use Rattle.law_routing.specs.Clients.{is_publish}
use Rattle.law_routing.specs.Step.{Routes, work_of}
use Rattle.law_routing.specs.Routing.{routing_machine, Network}
use Rattle.law_routing.specs.Owed.{IsPublication}
use Rattle.law_routing.specs.Rest.{IsOnwardWay, end_of}
use Rattle.law_routing.specs.AsOf.{back, as_of}
use Rattle.law_routing.specs.LegalRun.{LegalRun, states, phases}
use Rattle.law_routing.proofs.Sides.{side-here}
use Rattle.law_routing.proofs.Working.{NextWorks, next-works}
use Rattle.law_routing.proofs.Accepted.{done-rises, Origin, Published, Forwarded, origin}
use Rattle.law_routing.proofs.Scripts.{one-index}
use Rattle.law_routing.proofs.Started.{history, ordered-run}
use Rattle.law_routing.proofs.Passing.{PassWorks, pass-works}
use Rattle.law_routing.proofs.Paths.{way-side}
use Rattle.law_routing.proofs.Causal.{Passes, Came, came, put-rises, taken-rises, ordinal-of, by-way}
use Rattle.std.proofs.lemmas.Bool.{cases_lt}

module _ (th : Theory) (laws : TheoryLaws th) (run : LegalRun th) where
  abbrev h : ℕ → Network th run.net
  h = states th run

  -- counts of commands never fall
  done-up : (t c a b : ℕ) → a ≤ b → ((h a).state t).done c ≤ ((h b).state t).done c
  done-up t c a b l = climb (λ y. ((h a).state t).done c ≤ ((h y).state t).done c) a (omega arith) (λ y g r. omega (arith, r, one y (next-works th run.net run.journal h (phases th run) (history th laws run) y))) b l
    where
      one : (y : ℕ) → NextWorks th run.net run.journal h (phases th run) (history th laws run) y → ((h y).state t).done c ≤ ((h (suc y)).state t).done c
      one y (inl (f, e)) = omega (arith, ap (λ (z : Network th run.net). (z.state t).done c) e)
      one y (inr (e, f, w)) = done-rises th run.net run.laws (h y) e (h (suc y)) w t c

  -- at home it is installed behind just the commands before it
  made-index : (m i q o k : ℕ) (n l : th.Notice) → Passes th laws run m (run.net.home q) i q o n → (p : IsPublication th run.net q o k l) → ((h m).state (run.net.home q)).done q ≡ p.index
  made-index m i q o k n l pass p =
      let x = pass-works th run.net run.journal h (phases th run) (history th laws run) m (run.net.home q) i q o n pass in
      go x (origin th run.net run.laws (h m) (run.net.home q) x.works.deed i q o n (subst (λ z. IsAvailable (routing_machine th run.net) (h m) z x.works.deed) x.server x.works.given)
      (subst (λ z. work_of th run.net z ((h m).state z) (unstamped (routing_machine th run.net) x.works.deed) ≡ Some (Routes i q o n)) x.server (x.works.possible ∙ ap Some x.is)))
    where
      go : (x : PassWorks th run.net run.journal h (phases th run) (history th laws run) m (run.net.home q) i q o n pass.entry) → Origin th run.net run.laws (h m) (run.net.home q) x.works.deed i q o n → ((h m).state (run.net.home q)).done q ≡ p.index
      go x (Published d lives c slot is ord allowed) = one-index th (run.net.script q) (((h m).state (run.net.home q)).done q) p.index c p.command slot p.at (ap (is_publish th) is) (ap (is_publish th) p.publishes) (ord ∙ sym p.ordinal)
      go x (Forwarded y d near g f) =
          absurd (subst (Has o) ((ordered-run th laws run q m).away i (run.net.home q) (run.laws.tree.both (run.net.home q) i near) (side-here run.net.hop (run.net.home q) i)) (ordinal-of th laws run q o n ((h m).put i (run.net.home q)) ((h m).taken i (run.net.home q)) y g f))

  -- looking back over the link that it comes by leads to no later moment than that at which it was put there
  back-till : (t v w m q o : ℕ) (n : th.Notice) (c : Came th laws run m t v q o n) → w ≤ m → back th run.net h t v w ≤ c.put.at
  back-till t v w m q o n c low = go (cases_lt c.put.at (back th run.net h t v w))
    where
      x : ℕ
      x = last_where (λ y. nat_le (length ((h y).put v t)) ((h w).taken v t)) w

      first : nat_le (length ((h 0).put v t)) ((h w).taken v t) ≡ true
      first = ap (λ z. nat_le (length z) ((h w).taken v t)) (run.begins.fresh v t) ∙ le-leb 0 ((h w).taken v t) (omega arith)

      few : length ((h (last_where (λ y. nat_le (length ((h y).put v t)) ((h w).taken v t)) w)).put v t) ≤ (h w).taken v t
      few = leb-true _ _ (last-where (λ y. nat_le (length ((h y).put v t)) ((h w).taken v t)) w first).0

      go : (c.put.at < back th run.net h t v w) ⊎ (back th run.net h t v w ≤ c.put.at) → back th run.net h t v w ≤ c.put.at
      go (inr l) = l
      go (inl l) = absurd (omega (arith, few, taken-rises th laws run w m v t low, c.put.longer, put-rises th laws run (suc c.put.at) (back th run.net h t v w) v t l))

  -- so no moment that a server knows of lies behind the publish
  pub till : (q o k : ℕ) (n l : th.Notice) (p : IsPublication th run.net q o k l) (prior t : ℕ) (behind : List ℕ) → IsOnwardWay th run.net prior t behind → end_of th run.net t behind ≡ run.net.home q → (m i : ℕ) → Passes th laws run m t i q o n → (w : ℕ) → w ≤ m
      → ((h (as_of th run.net h t behind w)).state (run.net.home q)).done q ≤ p.index
  till q o k n l p prior t [] way end m i pass w low = omega (arith, done-up (run.net.home q) q w m low, made-index m i q o k n l (subst (λ z. Passes th laws run m z i q o n) end pass) p)
  till q o k n l p prior t (v ∷ behind) way end m i pass w low = go (came th laws run m t i q o n pass) (λ a b c d e. till q o k n l p t v behind way.2 end a b c d e)
    where
      never : {b : Bool} → b ≡ true → b ≡ false → ⊥
      never e f = cc

      go : (t ≡ run.net.home q) ⊎ Came th laws run m t i q o n → ((a b : ℕ) → Passes th laws run a v b q o n → (d : ℕ) → d ≤ a → ((h (as_of th run.net h v behind d)).state (run.net.home q)).done q ≤ p.index)
          → ((h (as_of th run.net h v behind (back th run.net h t v w))).state (run.net.home q)).done q ≤ p.index
      go (inl e) ih =
          absurd (never (subst (λ z. side run.net.hop t v z ≡ true) (end ∙ sym e) (way-side th laws run.net run.laws prior t v behind way (subst (λ z. Has z run.net.servers) (sym end) (run.laws.housed q)))) (side-here run.net.hop t v))
      go (inr c) ih =
          let y : Came th laws run m t v q o n = subst (λ z. Came th laws run m t z q o n) (by-way th laws run q prior t v behind way end i c.toward) c in
          ih y.put.at y.put.interface y.put.passes (back th run.net h t v w) (back-till t v w m q o n y low)
